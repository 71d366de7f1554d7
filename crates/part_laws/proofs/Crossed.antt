use Rattle.std.proofs.Common.{◌≡◌, ◌⊎◌, ℕ, suc, ◌+◌, ◌-◌, ◌&&◌, cond, eqb, Bool, true, false, Option, Some, None, is_some, Result, Ok, Err, List, length, slice_set, slice_index, sym, refl, ap, subst, ◌∙◌, inl, inr, arith, nat_le, nat_lt, length-set}
use Rattle.std.proofs.lemmas.Bool.{cond-true, cond-false, and_parts, and_from, ltb-true, le-leb, lt-ltb}
use Rattle.nook_data.specs.declared.classes.Accept.{Accept}
use Rattle.nook_data.specs.declared.classes.Accept.TheVariants as accepts
use Rattle.nook_data.specs.declared.calls.Answer.{Answer}
use Rattle.nook_data.specs.declared.calls.Answer.TheVariants as answered
use Rattle.nook_data.specs.declared.steps.End.{End}
use Rattle.nook_data.specs.declared.steps.End.TheVariants as ends
use Rattle.nook_data.specs.declared.steps.FailCause.{FailCause}
use Rattle.nook_data.specs.declared.steps.FailCause.TheVariants as fail
use Rattle.nook_data.specs.declared.steps.Mode.TheVariants as mode
use Rattle.nook_data.specs.declared.calls.Op.{Op}
use Rattle.nook_data.specs.declared.calls.Op.TheVariants.{Read, Write, Send, Recv, Open, Play, Close, Get, Set}
use Rattle.nook_data.specs.declared.steps.Stage.TheVariants as stage
use Rattle.nook_data.specs.declared.machine.BadParam.{BadParam}
use Rattle.nook_data.specs.declared.machine.BurstEnd.{BurstEnd}
use Rattle.nook_data.specs.declared.machine.BurstEnd.TheVariants as bursts
use Rattle.nook_data.specs.declared.machine.Service.{Service}
use Rattle.nook_data.specs.Classes.{accept, first_of_op, is_io_status, blocks_of_op, covers}
use Rattle.part_laws.specs.Watch.{sees_crossing, owes, owes_found}
use Rattle.part_defs.specs.Crossing.{Crossed, fails, failed_crossing, goes_on, is_last, refused_service, heap_start}
use Rattle.part_defs.specs.Crossing.{served_call, kernel_call, next_mode, is_accepted, shadow_fault, stage_in}
use Rattle.part_defs.specs.Crossing.{next_stage, shadow_replied, reply_answer, noted_set, closes_call}
use Rattle.part_defs.specs.Crossing.{accepted_crossing, call_replied, after_reply, after_crossing}
use Rattle.part_defs.specs.Domain.{context_of, result_set, left_domain, noted, first_argument, second_argument}
use Rattle.part_defs.specs.Log.{call_of_thread, after_answering as answered_log, after_acknowledging, queue_after}
use Rattle.part_defs.proofs.PartCases.{config_after, holder_after, no_context, reply_by, serve_by, with_result}
use Rattle.machine_defs.specs.Services.{Served, checked, served}
use Rattle.part_defs.specs.State.{DomainState, PartState}
use Rattle.promise_defs.specs.Losses.{handed_result}
use Rattle.promise_defs.specs.Contract.{is_replayed}
use Rattle.part_laws.specs.Balance.{held_at}
use Rattle.part_laws.specs.ActsOn.{dev_of}
use Rattle.part_laws.specs.Facts.{KeyIn, Facts}
use Rattle.part_laws.specs.Views.{View, Past, Core, Call, core_of, cores, entry_of, replay_of, stage_of, view_of, as_watched, watch_of}
use Rattle.part_laws.proofs.Accepts.{with_op, Replies, Accepted, read_ok, read_error_ok, write_ok, write_error_ok, send_ok, recv_ok, open_ok, play_ok, close_ok, get_ok, set_ok}
use Rattle.part_laws.proofs.Closing.{closed_view}
use Rattle.part_laws.proofs.Contexts.{undriven, other_set, driven_set, result_some}
use Rattle.part_laws.proofs.Crossings.{CrossOk, fails_cross, pause_cross, served_cross, rx_cross, next_ok, shadow_cross, accepted_cross}
use Rattle.part_laws.proofs.Indices.{split, get_map}
use Rattle.part_laws.proofs.Served.{is_rx, checked_rx, queue_stays, queue_takes, takes_answer}
use Rattle.part_laws.proofs.Watching.{required_met}

-- The crossing of a burst, as the part does it.

-- what must be shown of a crossing that breaks no clause
abbrev pub Crosses : PartState → Past → ℕ → Crossed → Type 0
Crosses q b n c = (sees_crossing n c.end c.answer c.failure (watch_of (view_of q) b)).clause ≡ None
    → CrossOk (view_of q) b n c.end c.answer c.failure (view_of c.state) × (length c.state.domain.contexts ≡ 17)

-- ---- a failure

pub failed_crosses : (q : PartState) (b : Past) (n : ℕ) (e : End) (cause : FailCause) → Facts (view_of q) b → handed_result e ≡ None
    → ((rest : List (List ℕ)) → held_at (stage_of q.mode) rest ≡ length rest) → length q.domain.contexts ≡ 17
    → Crosses q b n (failed_crossing q e cause)
unfolding fails noted
failed_crosses q b n e cause f r held l h = (
  subst (λ t. CrossOk (view_of q) b n e None (Some cause) (record (view_of q) { mode = mode.Recovering stage.Stop; driven = t }))
      (sym (undriven q.domain.contexts l)) (fails_cross (view_of q) b n e cause f r (held b.rest)),
  length-set q.domain.contexts 16 no_context ∙ l,
)

-- ---- a kernel call

served_crosses : (q : PartState) (b : Past) (n number context : ℕ) (s : Service) → Facts (view_of q) b
    → ((rest : List (List ℕ)) → held_at (stage_of q.mode) rest ≡ length rest) → length q.domain.contexts ≡ 17
    → is_rx s ≡ eqb number 6
    → Crosses q b n (served_call number context (served (heap_start q) s q.domain.memory q.domain.entries q.queue) q)
unfolding result_set
served_crosses q b n number context s f held l e h = split (eqb number 6)
    (λ t. (
      subst (λ v. CrossOk (view_of q) b n end None None v) (ap (λ r. record (view_of q) { queue = r }) (sym (queue_takes (heap_start q) s q.domain.memory q.domain.entries q.queue (e ∙ t))) ∙ driven (answer.queue))
          (rx_cross (view_of q) b n number first second answer.answer (Some answer.answer) answer.moved f
          (cond-true (eqb number 6) (Some answer.answer) None t)
          (takes_answer (heap_start q) s q.domain.memory q.domain.entries q.queue (e ∙ t)) held (ap (λ x. x && true) t) h),
      room,
    ))
    (λ t. (
      subst (λ v. CrossOk (view_of q) b n end None None v) (ap (λ r. record (view_of q) { queue = r }) (sym (queue_stays (heap_start q) s q.domain.memory q.domain.entries q.queue (e ∙ t))) ∙ driven (answer.queue))
          (served_cross (view_of q) b n number first second (Some answer.answer) answer.moved f (ap (λ x. x && true) t)
          (cond-false (eqb number 6) (Some answer.answer) None t)),
      room,
    ))
  where
    answer : Served
    answer = served (heap_start q) s q.domain.memory q.domain.entries q.queue

    first : ℕ
    first = first_argument context q.domain

    second : ℕ
    second = second_argument context q.domain

    end : End
    end = ends.Service number (first_argument context q.domain) (second_argument context q.domain) (Some answer.answer) answer.moved

    driven : (r : List (List ℕ)) → record (view_of q) { queue = r } ≡ record (view_of q)
        { queue = r; driven = is_some (context_of 16 (slice_set q.domain.contexts context (with_result answer.answer (context_of context q.domain.contexts)))) }
    driven r = ap (λ t. record (view_of q) { queue = r; driven = t })
        (sym (driven_set q.domain.contexts context (with_result answer.answer (context_of context q.domain.contexts)) l
        (result_some answer.answer (context_of context q.domain.contexts))))

    room : length (slice_set q.domain.contexts context (with_result answer.answer (context_of context q.domain.contexts))) ≡ 17
    room = length-set q.domain.contexts context (with_result answer.answer (context_of context q.domain.contexts)) ∙ l

abbrev nothing : Option ℕ
nothing = None

-- a kernel call that is not served moves no frame
no_result : (number : ℕ) → cond (eqb number 6) nothing None ≡ None
no_result number = by_test (eqb number 6)
  where
    by_test : (t : Bool) → cond t nothing None ≡ None
    by_test true = refl
    by_test false = refl

kernel_crosses : (q : PartState) (b : Past) (n number context : ℕ) → Facts (view_of q) b
    → ((rest : List (List ℕ)) → held_at (stage_of q.mode) rest ≡ length rest) → length q.domain.contexts ≡ 17
    → Crosses q b n (kernel_call number context q)
kernel_crosses q b n number context f held l = by_check
    (checked number (first_argument context q.domain) (second_argument context q.domain) q.spec.class q.domain.entries) refl
  where
    by_check : (r : Result Service BadParam)
        → checked number (first_argument context q.domain) (second_argument context q.domain) q.spec.class q.domain.entries ≡ r
        → Crosses q b n (serve_by number context q r)
    by_check (Err bad) e = failed_crosses q b n (refused_service number context q) (fail.BadParam bad.service bad.argument) f (no_result number) held l
    by_check (Ok s) e = served_crosses q b n number context s f held l
        (checked_rx number (first_argument context q.domain) (second_argument context q.domain) q.spec.class q.domain.entries s e)

-- ---- the shadow's own call

pub shadow_crosses : (q : PartState) (b : Past) (n status : ℕ) → Facts (view_of q) b
    → ((rest : List (List ℕ)) → held_at (stage_of q.mode) rest ≡ length rest) → length q.domain.contexts ≡ 17
    → (view_of q).driven ≡ true → length q.log.defaults ≡ 4 → Crosses q b n (shadow_replied status q)
unfolding next_stage left_domain
shadow_crosses q b n status f held l d ld = split (is_accepted status q)
    (λ t. subst (Crosses q b n) (sym (cond-true (is_accepted status q) taken refused t)) accepted_one)
    (λ t. subst (Crosses q b n) (sym (cond-false (is_accepted status q) taken refused t))
    (failed_crosses q b n (ends.Reply status) (shadow_fault status (stage_in q.mode)) f refl held l))
  where
    taken : Crossed
    taken = goes_on (next_stage q) (ends.Reply status)

    refused : Crossed
    refused = failed_crossing q (ends.Reply status) (shadow_fault status (stage_in q.mode))

    accepted_one : Crosses q b n (goes_on (next_stage q) (ends.Reply status))
    accepted_one h = (
      subst (λ t. CrossOk (view_of q) b n (ends.Reply status) None None (record (view_of q) { mode = next_mode q.mode q; driven = t }))
          (sym (undriven q.domain.contexts l))
          (shadow_cross (view_of q) b n status (next_mode q.mode q) f d (held b.rest) h
          (next_ok q (cores b) (view_of q).dev.registers q.mode f.keys ld (f.driving d) f.replay f.booting
          (λ key. subst (λ t. KeyOf t key) d (f.registers key))
          (subst (λ t. is_replayed (replay_of t q.mode) (view_of q).dev.registers ≡ true) d
          (required_met (is_replayed (replay_of (view_of q).driven q.mode) (view_of q).dev.registers) 13 None h).0))),
      length-set q.domain.contexts 16 no_context ∙ l,
    )
      where
        KeyOf : Bool → ℕ → Type 0
        KeyOf t key = KeyIn (cores b) q.log.config q.log.defaults t q.mode key (slice_index (view_of q).dev.registers key)

-- ---- an application's call

-- the driver served the call: status 0
take_ok : (q : PartState) (b : Past) (k thread : ℕ) (o : Op) (c : Call) → Replies (view_of q) b k (with_op o c)
    → owes (as_watched (with_op o c)) o (reply_answer o thread q) (watch_of (view_of q) b) ≡ None
    → Accepted (view_of q) b k (with_op o c) (reply_answer o thread q)
take_ok q b k thread (Read first count) c r h = read_ok (view_of q) b k c first count _ r h
take_ok q b k thread (Write first words) c r h = write_ok (view_of q) b k c first words r h
take_ok q b k thread (Send frame) c r h = send_ok (view_of q) b k c frame r h
take_ok q b k thread Recv c r h = recv_ok (view_of q) b k c q.queue refl r h
take_ok q b k thread Open c r h = open_ok (view_of q) b k c r
take_ok q b k thread (Play samples) c r h = play_ok (view_of q) b k c samples r h
take_ok q b k thread Close c r h = close_ok (view_of q) b k c r
take_ok q b k thread (Get key) c r h = get_ok (view_of q) b k c key _ r h
take_ok q b k thread (Set key value) c r h = set_ok (view_of q) b k c key value r h

no_io : (o : Op) (status : ℕ) → blocks_of_op o ≡ 0 → is_io_status o status ≡ true → ⊥
no_io o status z h = omega (arith, z, ltb-true (status - 256) (blocks_of_op o) (and_parts (nat_le 256 status) (nat_lt (status - 256) (blocks_of_op o)) h).1)

io_covers : (first count status : ℕ) → (nat_le 256 status && nat_lt (status - 256) count) ≡ true
    → (nat_le first (first + (status - 256)) && nat_lt (first + (status - 256)) (first + count)) ≡ true
io_covers first count status h = and_from _ _
    (le-leb first (first + (status - 256)) (omega arith))
    (lt-ltb (first + (status - 256)) (first + count) (omega (arith, ltb-true (status - 256) count (and_parts (nat_le 256 status) (nat_lt (status - 256) count) h).1)))

-- the medium failed
io_ok : (v : View) (b : Past) (k status block : ℕ) (o : Op) (c : Call) → Replies v b k (with_op o c) → is_io_status o status ≡ true
    → (covers o block ≡ true) → owes (as_watched (with_op o c)) o (answered.IoError block) (watch_of v b) ≡ None
    → Accepted v b k (with_op o c) (answered.IoError block)
io_ok v b k status block (Read first count) c r i o h = read_error_ok v b k c first count block r o h
io_ok v b k status block (Write first words) c r i o h = write_error_ok v b k c first words block r o h
io_ok v b k status block (Send frame) c r i o h = absurd (no_io (Send frame) status refl i)
io_ok v b k status block Recv c r i o h = absurd (no_io Recv status refl i)
io_ok v b k status block Open c r i o h = absurd (no_io Open status refl i)
io_ok v b k status block (Play samples) c r i o h = absurd (no_io (Play samples) status refl i)
io_ok v b k status block Close c r i o h = absurd (no_io Close status refl i)
io_ok v b k status block (Get key) c r i o h = absurd (no_io (Get key) status refl i)
io_ok v b k status block (Set key value) c r i o h = absurd (no_io (Set key value) status refl i)

-- only object 0 is written when a Set is acknowledged
noted_device : (o : Op) (d : DomainState) → (noted_set o d).device ≡ d.device
unfolding noted
noted_device (Set key value) d = refl
noted_device (Read first count) d = refl
noted_device (Write first words) d = refl
noted_device (Send frame) d = refl
noted_device Recv d = refl
noted_device Open d = refl
noted_device (Play samples) d = refl
noted_device Close d = refl
noted_device (Get key) d = refl

noted_contexts : (o : Op) (d : DomainState) → (noted_set o d).contexts ≡ d.contexts
unfolding noted
noted_contexts (Set key value) d = refl
noted_contexts (Read first count) d = refl
noted_contexts (Write first words) d = refl
noted_contexts (Send frame) d = refl
noted_contexts Recv d = refl
noted_contexts Open d = refl
noted_contexts (Play samples) d = refl
noted_contexts Close d = refl
noted_contexts (Get key) d = refl

-- the part after an answer, as it is seen
closed_seen : (q : PartState) (n : ℕ) (c : Core) → (16 ≡ c.thread → ⊥)
    → closed_view n (config_after c.op q.log.config) (holder_after c.thread c.op q.log.holder) (queue_after c.op q.queue) (view_of q)
    ≡ view_of (closes_call (entry_of n c) q)
unfolding closes_call left_domain answered_log after_acknowledging
closed_seen q n c ne =
    ap (λ t. record new { driven = t }) (sym (other_set q.domain.contexts c.thread no_context ne)
    ∙ ap (λ cs. is_some (context_of 16 cs)) (sym (noted_contexts c.op (left_domain c.thread q.domain))))
    ∙ ap (λ d. record new { driven = is_some (context_of 16 (noted_set c.op (left_domain c.thread q.domain)).contexts); dev = dev_of d })
    (sym (noted_device c.op (left_domain c.thread q.domain)))
  where
    new : View
    new = closed_view n (config_after c.op q.log.config) (holder_after c.thread c.op q.log.holder) (queue_after c.op q.queue) (view_of q)

closed_room : (q : PartState) (n : ℕ) (c : Core) → length q.domain.contexts ≡ 17 → length (closes_call (entry_of n c) q).domain.contexts ≡ 17
unfolding closes_call left_domain
closed_room q n c l = ap length (noted_contexts c.op (left_domain c.thread q.domain)) ∙ length-set q.domain.contexts c.thread no_context ∙ l

-- an answer is accepted
answer_crosses : (q : PartState) (b : Past) (k status : ℕ) (c : Call) (a : Answer) → Replies (view_of q) b k c → length q.domain.contexts ≡ 17
    → (owes (as_watched c) c.core.op a (watch_of (view_of q) b) ≡ None → Accepted (view_of q) b k c a)
    → Crosses q b (suc k) (accepted_crossing (entry_of (suc k) c.core) status a q)
answer_crosses q b k status c a r l g h = (
  subst (λ v. CrossOk (view_of q) b (suc k) (ends.Reply status) (Some a) None v) (closed_seen q (suc k) c.core small)
      (accepted_cross (view_of q) b k status c a r h
      (g (sym (ap (λ w. owes_found w a (watch_of (view_of q) b)) (get_map as_watched b.calls k c r.at)) ∙ h))),
  closed_room q (suc k) c.core l,
)
  where
    small : 16 ≡ c.core.thread → ⊥
    small s = omega (arith, s, (r.facts.calls.each k c.core (get_map core_of b.calls k c r.at)).thread)

pub call_crosses : (q : PartState) (b : Past) (k status : ℕ) (c : Call) → Replies (view_of q) b k c
    → ((rest : List (List ℕ)) → held_at (stage_of q.mode) rest ≡ length rest) → length q.domain.contexts ≡ 17
    → Crosses q b (suc k) (reply_by (entry_of (suc k) c.core) status q (accept c.core.op status))
call_crosses q b k status c r held l = split (eqb status 0)
    (λ t. subst Good (sym (cond-true (eqb status 0) accepts.Take other t))
    (answer_crosses q b k status c (reply_answer c.core.op c.core.thread q) r l (take_ok q b k c.core.thread c.core.op c r)))
    (λ t. subst Good (sym (cond-false (eqb status 0) accepts.Take other t)) (split (is_io_status c.core.op status)
    (λ u. subst Good (sym (cond-true (is_io_status c.core.op status) (accepts.IoError block) (accepts.Fail (fail.BadReply status)) u))
    (answer_crosses q b k status c (answered.IoError block) r l
    (io_ok (view_of q) b k status block c.core.op c r u (io_covers (first_of_op c.core.op) (blocks_of_op c.core.op) status u))))
    (λ u. subst Good (sym (cond-false (is_io_status c.core.op status) (accepts.IoError block) (accepts.Fail (fail.BadReply status)) u))
    (failed_crosses q b (suc k) (ends.Reply status) (fail.BadReply status) r.facts refl held l))))
  where
    block : ℕ
    block = first_of_op c.core.op + (status - 256)

    other : Accept
    other = cond (is_io_status c.core.op status) (accepts.IoError (first_of_op c.core.op + (status - 256))) (accepts.Fail (fail.BadReply status))

    Good : Accept → Type 0
    Good x = Crosses q b (suc k) (reply_by (entry_of (suc k) c.core) status q x)

-- ---- every crossing

-- the call that the burst served
pub record Bursts (q : PartState) (b : Past) (context n : ℕ) : Type 0 where
  pub facts : Facts (view_of q) b
  pub contexts : length q.domain.contexts ≡ 17
  pub defaults : length q.log.defaults ≡ 4
  pub held : (rest : List (List ℕ)) → held_at (stage_of q.mode) rest ≡ length rest
  pub whose : ((context ≡ 16) × ((view_of q).driven ≡ true))
      ⊎ ((eqb context 16 ≡ false) × ((k : ℕ) × (n ≡ suc k) × ((c : Call) × Replies (view_of q) b k c
      × (call_of_thread context q.log.pending ≡ Some (entry_of (suc k) c.core)))))

reply_crosses : (q : PartState) (b : Past) (context n status : ℕ) → Bursts q b context n → Crosses q b n (after_reply status context q)
reply_crosses q b context n status u = by_whose u.whose
  where
    by_whose : ((context ≡ 16) × ((view_of q).driven ≡ true))
        ⊎ ((eqb context 16 ≡ false) × ((k : ℕ) × (n ≡ suc k) × ((c : Call) × Replies (view_of q) b k c
        × (call_of_thread context q.log.pending ≡ Some (entry_of (suc k) c.core)))))
        → Crosses q b n (after_reply status context q)
    by_whose (inl (e, d)) = subst (λ x. Crosses q b n (after_reply status x q)) (sym e) (shadow_crosses q b n status u.facts u.held u.contexts d u.defaults)
    by_whose (inr (ne, (k, e, (c, r, o)))) =
        subst (Crosses q b n) (sym (cond-false (eqb context 16) (shadow_replied status q) (call_replied status q (call_of_thread context q.log.pending)) ne))
        (subst (λ x. Crosses q b n (call_replied status q x)) (sym o)
        (subst (λ m. Crosses q b m (call_replied status q (Some (entry_of (suc k) c.core)))) (sym e) (call_crosses q b k status c r u.held u.contexts)))

pub crossing_ok : (q : PartState) (b : Past) (context n : ℕ) (ending : BurstEnd) → Bursts q b context n → Crosses q b n (after_crossing context ending q)
unfolding after_crossing
crossing_ok q b context n (bursts.Trap cause) u = failed_crosses q b n ends.Trap (fail.Trap cause) u.facts refl u.held u.contexts
crossing_ok q b context n (bursts.Kcall number) u = split (is_last context q)
    (λ t. subst (Crosses q b n) (sym (cond-true (is_last context q) (failed_crossing q (refused_service number context q) fail.TooManyCrossings) (kernel_call number context q) t))
    (failed_crosses q b n (refused_service number context q) fail.TooManyCrossings u.facts (no_result number) u.held u.contexts))
    (λ t. subst (Crosses q b n) (sym (cond-false (is_last context q) (failed_crossing q (refused_service number context q) fail.TooManyCrossings) (kernel_call number context q) t))
    (kernel_crosses q b n number context u.facts u.held u.contexts))
crossing_ok q b context n bursts.Pause u = split (is_last context q)
    (λ t. subst (Crosses q b n) (sym (cond-true (is_last context q) (failed_crossing q ends.Pause fail.TooManyCrossings) (goes_on q ends.Pause) t))
    (failed_crosses q b n ends.Pause fail.TooManyCrossings u.facts refl u.held u.contexts))
    (λ t. subst (Crosses q b n) (sym (cond-false (is_last context q) (failed_crossing q ends.Pause fail.TooManyCrossings) (goes_on q ends.Pause) t))
    (λ h. (pause_cross (view_of q) b n u.facts, u.contexts)))
crossing_ok q b context n (bursts.Reply status) u = reply_crosses q b context n status u
