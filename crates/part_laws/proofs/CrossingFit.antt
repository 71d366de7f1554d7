use Rattle.std.proofs.Common.{◌≡◌, ◌⊎◌, inl, inr, ℕ, ◌+◌, ◌-◌, ◌<◌, ◌≤◌, ◌==◌, ◌&&◌, ◌||◌, nat_le, nat_lt, Bool, true, false, is_some, Option, Some, None, Result, Ok, Err, List, [], ◌∷◌, ◌++◌, replicate, slice_set, refl, sym, ap, ◌∙◌, arith}
use Rattle.std.specs.List.{list_any, find, AllByRecursion}
use Rattle.std.proofs.lemmas.Bool.{and_parts, ltb-true}
use Rattle.std.proofs.lemmas.List.{length-set}
use Rattle.nook_data.specs.declared.classes.Accept.{Accept}
use Rattle.nook_data.specs.declared.classes.Accept.TheVariants as accepts
use Rattle.nook_data.specs.declared.calls.CallEntry.{CallEntry}
use Rattle.nook_data.specs.declared.steps.End.{End}
use Rattle.nook_data.specs.declared.steps.FailCause.{FailCause}
use Rattle.nook_data.specs.declared.steps.Mode.{Mode}
use Rattle.nook_data.specs.declared.calls.Op.{Op}
use Rattle.nook_data.specs.declared.calls.Op.TheVariants as op
use Rattle.nook_data.specs.declared.machine.BadParam.{BadParam}
use Rattle.nook_data.specs.declared.machine.BurstEnd.{BurstEnd}
use Rattle.nook_data.specs.declared.machine.BurstEnd.TheVariants as ends
use Rattle.nook_data.specs.declared.machine.Service.{Service}
use Rattle.nook_data.specs.Classes.{accept, is_set, is_io_status}
use Rattle.part_defs.specs.Crossing.{Crossed, fails, failed_crossing, goes_on, is_last, heap_start, next_stage}
use Rattle.part_defs.specs.Crossing.{next_mode, is_accepted, shadow_replied, reply_answer, closes_call, call_replied}
use Rattle.part_defs.specs.Crossing.{after_reply, after_crossing, without_shadow}
use Rattle.part_defs.specs.Domain.{first_argument, second_argument, left_domain, result_set}
use Rattle.machine_defs.specs.Entries.{is_borrow_of}
use Rattle.promise_defs.specs.Isolation.{object_of}
use Rattle.part_defs.proofs.PartCases.{IsGiveBack, no_context, reply_by, serve_by}
use Rattle.promise_defs.proofs.PromiseCases.{is_done_answer, is_set_call}
use Rattle.part_defs.specs.Log.{call_of_thread, after_acknowledging, after_answering}
use Rattle.machine_defs.specs.Services.{Served, checked, served}
use Rattle.part_defs.specs.State.{DomainState, CallLog, PartState}
use Rattle.machine_defs.proofs.BurstKeeps.{split}
use Rattle.part_laws.proofs.DomainFit.{DomainKept, left_kept, result_kept, noted_fit, noted_set_fit, noted_elsewhere, noted_there, noted_set_elsewhere, noted_set_reported, noted_set_kernel, config_length}
use Rattle.part_laws.proofs.EntriesFit.{filter_fits}
use Rattle.part_laws.proofs.Objects.{SameObjects, nothing_changed, object_stays, failures_reported}
use Rattle.part_laws.proofs.ServicesFit.{Says, checked_says, ServedKept, served_kept}
use Rattle.part_laws.specs.Fit.{IsFitDomain, IsFitCall, IsFitLog, IsFit}

-- What a crossing keeps.

pub unmoved : (p : PartState) → IsFit p → DomainKept (heap_start p) p.domain p.domain
unmoved p f = record { fit = f.domain; objects = nothing_changed p.domain.memory }

-- a part fits if its domain keeps the objects and its record does not change
pub quiet : (p : PartState) (d : DomainState) (log : CallLog) (queue : List (List ℕ)) (m : Mode) (bursts arrived : ℕ) → IsFit p
    → DomainKept (heap_start p) p.domain d → IsFitLog p.spec.class p.spec.blocks log → log.config ≡ p.log.config
    → IsFit (record p { domain = d; log = log; queue = queue; mode = m; bursts = bursts; arrived = arrived })
quiet p d log queue m bursts arrived f k l e = record {
  spec = f.spec;
  domain = k.fit;
  log = l;
  reported = object_stays 0 p.domain.memory d.memory k.objects ∙ f.reported
      ∙ ap (λ (config : List ℕ). config ++ (p.failures ∷ replicate 59 0)) (sym e);
}

-- the part after a crossing fits; an object 1 to 12 is unchanged, or was borrowed and is given back; object 0 is
-- unchanged or written
pub record CrossKept (context : ℕ) (p : PartState) (c : Crossed) : Type 0 where
  pub fit : IsFit c.state
  pub objects : (object : ℕ) → 1 ≤ object → object ≤ 12 → (object_of object c.state ≡ object_of object p)
      ⊎ ((list_any (is_borrow_of object) p.domain.entries ≡ true) × IsGiveBack object (object_of object c.state) c.end)
  pub kernel : (object_of 0 c.state ≡ object_of 0 p)
      ⊎ ((is_some c.failure || (is_done_answer c.answer && is_set_call (call_of_thread context p.log.pending))) ≡ true)

quiet_cross : (context : ℕ) (p : PartState) (c : Crossed) → IsFit c.state → SameObjects p.domain.memory c.state.domain.memory
    → CrossKept context p c
quiet_cross context p c f s = record {
  fit = f;
  objects = λ object one twelve. inl (object_stays object p.domain.memory c.state.domain.memory s);
  kernel = inl (object_stays 0 p.domain.memory c.state.domain.memory s);
}

-- failures

without_shadow_fit : (heap : ℕ) (d : DomainState) → IsFitDomain heap d → IsFitDomain heap (without_shadow d)
without_shadow_fit heap d f = record {
  memory = f.memory;
  contexts = length-set d.contexts 16 no_context ∙ f.contexts;
  entries = f.entries;
  ordered = f.ordered;
}

failed_kept : (context : ℕ) (p : PartState) (e : End) (cause : FailCause) → IsFit p → CrossKept context p (failed_crossing p e cause)
unfolding fails
failed_kept context p e cause f = record {
  fit = record {
    spec = f.spec;
    domain = noted_fit (heap_start p) 4 (p.failures + 1) (without_shadow p.domain) (without_shadow_fit (heap_start p) p.domain f.domain);
    log = f.log;
    reported = noted_there 4 (p.failures + 1) (without_shadow p.domain)
        ∙ ap (λ (xs : List ℕ). slice_set xs 4 (p.failures + 1)) f.reported
        ∙ failures_reported p.log.config p.failures (p.failures + 1) (replicate 59 0) f.log.config;
  };
  objects = λ object one twelve. inl (noted_elsewhere object 4 (p.failures + 1) (without_shadow p.domain) one (omega arith));
  kernel = inr refl;
}

-- kernel calls

serve_kept : (number context : ℕ) (p : PartState) (r : Result Service BadParam) → IsFit p
    → Says number (first_argument context p.domain) r → CrossKept context p (serve_by number context p r)
serve_kept number context p (Err bad) f h = failed_kept context p _ _ f
serve_kept number context p (Ok s) f h =
    let v : Served = served (heap_start p) s p.domain.memory p.domain.entries p.queue in
    let k : ServedKept (heap_start p) number (first_argument context p.domain) p.domain.memory p.domain.entries v =
    served_kept (heap_start p) number (first_argument context p.domain) p.domain.memory p.domain.entries p.queue
    (omega arith) f.domain.memory f.domain.entries f.domain.ordered s h in
    let d : DomainState = record p.domain { memory = v.memory; entries = v.entries } in
    let fd : IsFitDomain (heap_start p) d = record { memory = k.memory; contexts = f.domain.contexts; entries = k.entries; ordered = k.ordered } in
    let r : DomainKept (heap_start p) d (result_set context v.answer d) = result_kept (heap_start p) context v.answer d fd in
    record {
      fit = record {
        spec = f.spec;
        domain = r.fit;
        log = f.log;
        reported = object_stays 0 d.memory (result_set context v.answer d).memory r.objects ∙ k.kernel ∙ f.reported;
      };
      objects = λ object one twelve. elim (k.objects object) [
        | inl e ↦ inl (object_stays object d.memory (result_set context v.answer d).memory r.objects ∙ e)
        | inr g ↦ inr (g.0, (g.1, g.2, refl, g.3 ∙ sym (object_stays object d.memory (result_set context v.answer d).memory r.objects)))
      ];
      kernel = inl (object_stays 0 d.memory (result_set context v.answer d).memory r.objects ∙ k.kernel);
    }

-- replies

next_stage_kept : (context : ℕ) (p : PartState) (e : End) → IsFit p → CrossKept context p (goes_on (next_stage p) e)
unfolding next_stage
next_stage_kept context p e f =
    let k : DomainKept (heap_start p) p.domain (left_domain 16 p.domain) = left_kept (heap_start p) 16 p.domain f.domain in
    quiet_cross context p (goes_on (next_stage p) e)
    (quiet p (left_domain 16 p.domain) p.log p.queue (next_mode p.mode p) p.bursts p.arrived f k f.log refl) k.objects

shadow_reply_kept : (context status : ℕ) (p : PartState) → IsFit p → CrossKept context p (shadow_replied status p)
shadow_reply_kept context status p f = split (is_accepted status p)
    (λ yes'. rw yes' (next_stage_kept context p _ f))
    (λ no'. rw no' (failed_kept context p _ _ f))

closed_fit : (c : CallEntry) (p : PartState) → IsFit p → IsFitCall p.spec.class p.spec.blocks c → IsFit (closes_call c p)
unfolding closes_call after_answering after_acknowledging
closed_fit c p f k =
    let l : DomainKept (heap_start p) p.domain (left_domain c.thread p.domain) = left_kept (heap_start p) c.thread p.domain f.domain in
    record {
      spec = f.spec;
      domain = noted_set_fit (heap_start p) c.op (left_domain c.thread p.domain) l.fit;
      log = record {
        config = config_length c.op p.log.config f.log.config;
        defaults = f.log.defaults;
        calls = filter_fits (IsFitCall p.spec.class p.spec.blocks) _ p.log.pending f.log.calls;
      };
      reported = noted_set_reported p.spec.class p.spec.blocks c.op (left_domain c.thread p.domain) p.log.config (p.failures ∷ replicate 59 0)
          k.checked f.log.config
          (object_stays 0 p.domain.memory (left_domain c.thread p.domain).memory l.objects ∙ f.reported);
    }

closed_objects : (c : CallEntry) (p : PartState) (object : ℕ) → IsFit p → IsFitCall p.spec.class p.spec.blocks c → 1 ≤ object
    → object_of object (closes_call c p) ≡ object_of object p
unfolding closes_call
closed_objects c p object f k one =
    let l : DomainKept (heap_start p) p.domain (left_domain c.thread p.domain) = left_kept (heap_start p) c.thread p.domain f.domain in
    noted_set_elsewhere p.spec.class p.spec.blocks object c.op (left_domain c.thread p.domain) k.checked one
    ∙ object_stays object p.domain.memory (left_domain c.thread p.domain).memory l.objects

closed_kernel : (c : CallEntry) (p : PartState) → IsFit p → is_set c.op ≡ false → object_of 0 (closes_call c p) ≡ object_of 0 p
unfolding closes_call
closed_kernel c p f other =
    let l : DomainKept (heap_start p) p.domain (left_domain c.thread p.domain) = left_kept (heap_start p) c.thread p.domain f.domain in
    noted_set_kernel c.op (left_domain c.thread p.domain) other
    ∙ object_stays 0 p.domain.memory (left_domain c.thread p.domain).memory l.objects

set_done : (o : Op) (thread : ℕ) (p : PartState) → is_set o ≡ true → is_done_answer (Some (reply_answer o thread p)) ≡ true
set_done (op.Set key value) thread p h = refl
set_done (op.Read first count) thread p h = cc
set_done (op.Write first words) thread p h = cc
set_done (op.Send frame) thread p h = cc
set_done op.Recv thread p h = cc
set_done op.Open thread p h = cc
set_done (op.Play samples) thread p h = cc
set_done op.Close thread p h = cc
set_done (op.Get key) thread p h = cc

no_io_set : (key value status block : ℕ) → accept (op.Set key value) status ≡ accepts.IoError block → ⊥
no_io_set key value status block h = split (status == 0)
    (λ e. take_not (rw e at h))
    (λ n. split (is_io_status (op.Set key value) status)
    (λ io. let l : status - 256 < 0 = ltb-true (status - 256) 0 (and_parts (nat_le 256 status) (nat_lt (status - 256) 0) io).1 in omega arith)
    (λ other. fail_not _ (rw (n, other) at h)))
  where
    take_not : accepts.Take ≡ accepts.IoError block → ⊥
    take_not e = cc

    fail_not : (cause : FailCause) → accepts.Fail cause ≡ accepts.IoError block → ⊥
    fail_not cause e = cc

no_io : (o : Op) (status block : ℕ) → accept o status ≡ accepts.IoError block → is_set o ≡ false
no_io (op.Set key value) status block h = absurd (no_io_set key value status block h)
no_io _ status block h = refl

reply_kept : (context status : ℕ) (c : CallEntry) (p : PartState) (r : Accept) → IsFit p → IsFitCall p.spec.class p.spec.blocks c
    → call_of_thread context p.log.pending ≡ Some c → accept c.op status ≡ r → CrossKept context p (reply_by c status p r)
reply_kept context status c p accepts.Take f k found e = record {
  fit = closed_fit c p f k;
  objects = λ object one twelve. inl (closed_objects c p object f k one);
  kernel = split (is_set c.op)
      (λ set. inr (rw (set_done c.op c.thread p set, found, set) refl))
      (λ other. inl (closed_kernel c p f other));
}
reply_kept context status c p (accepts.IoError block) f k found e = record {
  fit = closed_fit c p f k;
  objects = λ object one twelve. inl (closed_objects c p object f k one);
  kernel = inl (closed_kernel c p f (no_io c.op status block e));
}
reply_kept context status c p (accepts.Fail cause) f k found e = failed_kept context p _ cause f

pub found_fits : {X : Type 0} (P : X → Type 0) (test : X → Bool) (xs : List X) (x : X) → AllByRecursion P xs → find test xs ≡ Some x → P x
found_fits P test [] x all h = cc
found_fits P test (y ∷ xs) x all h = split (test y)
    (λ here. subst_some (rw (here, find) at h))
    (λ later. found_fits P test xs x all.1 (rw (later, find) at h))
  where
    subst_some : Some y ≡ Some x → P x
    subst_some e = let s : y ≡ x = cc in rw s at all.0

call_reply_kept : (context status : ℕ) (p : PartState) (o : Option CallEntry) → IsFit p → call_of_thread context p.log.pending ≡ o
    → CrossKept context p (call_replied status p o)
call_reply_kept context status p None f e = quiet_cross context p _ f (nothing_changed p.domain.memory)
call_reply_kept context status p (Some c) f e =
    reply_kept context status c p (accept c.op status) f
    (found_fits (IsFitCall p.spec.class p.spec.blocks) _ p.log.pending c f.log.calls e) e refl

replied_kept : (status context : ℕ) (p : PartState) → IsFit p → CrossKept context p (after_reply status context p)
replied_kept status context p f = split (context == 16)
    (λ own. rw own (shadow_reply_kept context status p f))
    (λ other. rw other (call_reply_kept context status p (call_of_thread context p.log.pending) f refl))

-- every crossing

pub crossed_kept : (context : ℕ) (e : BurstEnd) (p : PartState) → IsFit p → CrossKept context p (after_crossing context e p)
unfolding after_crossing
crossed_kept context (ends.Trap cause) p f = failed_kept context p _ _ f
crossed_kept context (ends.Kcall number) p f = split (is_last context p)
    (λ last. rw last (failed_kept context p _ _ f))
    (λ early. rw early (serve_kept number context p
    (checked number (first_argument context p.domain) (second_argument context p.domain) p.spec.class p.domain.entries) f
    (checked_says number (first_argument context p.domain) (second_argument context p.domain) p.spec.class p.domain.entries)))
crossed_kept context ends.Pause p f = split (is_last context p)
    (λ last. rw last (failed_kept context p _ _ f))
    (λ early. rw early (quiet_cross context p _ f (nothing_changed p.domain.memory)))
crossed_kept context (ends.Reply status) p f = replied_kept status context p f
