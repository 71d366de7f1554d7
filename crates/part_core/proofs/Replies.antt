-- A reply that the class accepts answers the call.
use Rattle.std.proofs.Common.{◌≡◌, ℕ, ◌+◌, ◌-◌, ◌==◌, ◌&&◌, nat_le, nat_lt, Bool, true, false, Option, Some, None, List, IfSome, refl, sym, ap, ◌∙◌, arith}
use Rattle.nook_data.specs.declared.classes.Accept.{Accept}
use Rattle.nook_data.specs.declared.classes.Accept.TheVariants as accepts
use Rattle.nook_data.specs.declared.calls.Answer.{Answer}
use Rattle.nook_data.specs.declared.calls.Answer.TheVariants as answer
use Rattle.nook_data.specs.declared.calls.CallEntry.{CallEntry}
use Rattle.nook_data.specs.declared.steps.End.TheVariants as end
use Rattle.nook_data.specs.declared.calls.Op.{Op}
use Rattle.nook_data.specs.declared.calls.Op.TheVariants as op
use Rattle.nook_data.specs.Classes.{accept}
use Rattle.part_defs.specs.Crossing.{Crossed, call_replied, closes_call, reply_answer}
use Rattle.part_defs.specs.Log.{call_of_thread, queue_after}
use Rattle.part_defs.specs.State.{PartState}
use Rattle.part_core.specs.Crossings.{crossed_to}
use Rattle.part_core.specs.declared.crossing.Outcome.{Outcome}
use Rattle.machine_defs.proofs.BurstKeeps.{split}

-- a crossing that answers a call
abbrev crossed_with : ℕ → Answer → PartState → Crossed
crossed_with status a r = record { state = r; end = end.Reply status; answer = Some a; failure = None }

outcome_of : (r : PartState) (o : Outcome) (status : ℕ) (a : Answer) → o.end ≡ end.Reply status → o.answer ≡ Some a → o.failure ≡ None
    → crossed_with status a r ≡ crossed_to r o
outcome_of r o status a e b f = rw (e, b, f) refl

pub taken_reply : (p q r : PartState) (context status : ℕ) (c : CallEntry) (a : Answer) (o : Outcome)
    → call_of_thread context p.log.pending ≡ Some c → accept c.op status ≡ accepts.Take
    → IfSome (call_of_thread context p.log.pending) (λ c. a ≡ reply_answer c.op c.thread p)
    → IfSome (call_of_thread context p.log.pending) (λ c. q ≡ record p { queue = queue_after c.op p.queue })
    → IfSome (call_of_thread context q.log.pending) (λ c. r ≡ record (closes_call c q) { queue = q.queue })
    → o.end ≡ end.Reply status → o.answer ≡ Some a → o.failure ≡ None
    → call_replied status p (call_of_thread context p.log.pending) ≡ crossed_to r o
unfolding closes_call
taken_reply p q r context status c a o found acc reported moved closed e b f =
    let same : a ≡ reply_answer c.op c.thread p = rw found at reported in
    let rest_after : q ≡ record p { queue = queue_after c.op p.queue } = rw found at moved in
    let again : call_of_thread context q.log.pending ≡ Some c = ap (λ z. call_of_thread context z.log.pending) rest_after ∙ found in
    let second : r ≡ record (closes_call c q) { queue = q.queue } = rw again at closed in
    let last : closes_call c p ≡ r = sym (second ∙ ap (λ z. record (closes_call c z) { queue = z.queue }) rest_after) in
    rw (found, acc, call_replied, ← same) (ap (crossed_with status a) last ∙ outcome_of r o status a e b f)

io_leaves_queue : (o : Op) (status block : ℕ) (queue : List (List ℕ)) → accept o status ≡ accepts.IoError block → queue_after o queue ≡ queue
io_leaves_queue (op.Read first count) status block queue h = refl
io_leaves_queue (op.Write first words) status block queue h = refl
io_leaves_queue (op.Send frame) status block queue h = refl
io_leaves_queue op.Recv status block queue h = split (status == 0)
    (λ e. let h' : accepts.Take ≡ accepts.IoError block = rw e at h in absurd (cc))
    (λ e. absurd (grind (arith, e, h)))
io_leaves_queue op.Open status block queue h = refl
io_leaves_queue (op.Play samples) status block queue h = refl
io_leaves_queue op.Close status block queue h = refl
io_leaves_queue (op.Get key) status block queue h = refl
io_leaves_queue (op.Set key value) status block queue h = refl

pub failed_blocks : (p r : PartState) (context status block : ℕ) (c : CallEntry) (o : Outcome)
    → call_of_thread context p.log.pending ≡ Some c → accept c.op status ≡ accepts.IoError block
    → IfSome (call_of_thread context p.log.pending) (λ c. r ≡ record (closes_call c p) { queue = p.queue })
    → o.end ≡ end.Reply status → o.answer ≡ Some (answer.IoError block) → o.failure ≡ None
    → call_replied status p (call_of_thread context p.log.pending) ≡ crossed_to r o
unfolding closes_call
failed_blocks p r context status block c o found acc closed e b f =
    let second : r ≡ record (closes_call c p) { queue = p.queue } = rw found at closed in
    let same : queue_after c.op p.queue ≡ p.queue = io_leaves_queue c.op status block p.queue acc in
    let last : closes_call c p ≡ r = ap (λ z. record (closes_call c p) { queue = z }) same ∙ sym second in
    rw (found, acc, call_replied) (ap (crossed_with status (answer.IoError block)) last ∙ outcome_of r o status (answer.IoError block) e b f)
