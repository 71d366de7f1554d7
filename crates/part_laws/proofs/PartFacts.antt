-- What code that takes a part's steps must know of open calls, contexts and counts, by `IsFit` and `IsTied`.
use Rattle.std.proofs.Common.{◌≡◌, ℕ, ◌+◌, ◌-◌, ◌/◌, ◌^◌, ◌<◌, ◌≤◌, ◌==◌, ◌&&◌, nat_le, IfSome, is_some, Bool, true, false, Option, Some, None, List, [], ◌∷◌, length, refl, sym, ap, arith, subst, true≢false, eqb-true}
use Rattle.std.specs.List.{find, AllByRecursion}
use Rattle.std.proofs.lemmas.Bool.{and_parts, leb-true, eq-eqb, ne_eqb}
use Rattle.nook_data.specs.declared.calls.CallEntry.{CallEntry}
use Rattle.nook_data.specs.declared.classes.Class.{Class}
use Rattle.nook_data.specs.declared.steps.Mode.{Mode}
use Rattle.nook_data.specs.declared.steps.Mode.TheVariants as mode
use Rattle.nook_data.specs.declared.calls.Op.{Op}
use Rattle.nook_data.specs.declared.calls.Op.TheVariants as op
use Rattle.nook_data.specs.declared.steps.Stage.{Stage}
use Rattle.nook_data.specs.declared.steps.Stage.TheVariants as stage
use Rattle.nook_data.specs.declared.steps.Step.TheVariants as step
use Rattle.nook_data.specs.declared.machine.Context.{Context}
use Rattle.nook_data.specs.Classes.{static_check, check_op, check_range, is_of_class, is_block_length, first_of_op}
use Rattle.nook_data.specs.Classes.{blocks_of_op}
use Rattle.part_defs.specs.Domain.{Lent, buffer_of, context_of}
use Rattle.part_defs.specs.Log.{is_call, call_of_thread, open_call}
use Rattle.part_defs.proofs.PartCases.{bursts_of, is_of_thread}
use Rattle.part_defs.specs.Stages.{stage_due}
use Rattle.part_defs.specs.State.{PartState}
use Rattle.part_defs.specs.Steps.{enabled, is_running, is_inside}
use Rattle.machine_defs.proofs.BurstKeeps.{split}
use Rattle.part_laws.proofs.Counts.{burst_low}
use Rattle.part_laws.proofs.CrossingFit.{found_fits}
use Rattle.part_laws.proofs.Objects.{FitsBuffer, op_fits_buffer, set_key}
use Rattle.part_laws.proofs.RunsDetermined.{found_thread}
use Rattle.part_laws.proofs.TiedCalls.{found_above}
use Rattle.part_laws.proofs.TiedSteps.{running_is}
use Rattle.part_laws.specs.Fit.{IsFitCall, IsFit}
use Rattle.part_laws.specs.Tied.{IsRising, GoesOn, IsRunningCall, IsTiedCall, IsDriven, IsFitStage, IsFitMode, IsTied}

-- operations that passed the static check

no_answer : {X : Type 0} {x : X} {G : Type 0} → Some x ≡ None → G
no_answer h = cc

pub checked_op_of_class : (c : Class) (blocks : ℕ) (o : Op) → static_check c blocks o ≡ None → is_of_class c o ≡ true
checked_op_of_class c blocks o h = split (is_of_class c o)
    (λ e. e)
    (λ e. no_answer (rw e at h))

-- its class's table checked it
pub checked_op_of_table : (c : Class) (blocks : ℕ) (o : Op) → static_check c blocks o ≡ None → check_op c blocks o ≡ None
checked_op_of_table c blocks o h = split (is_of_class c o)
    (λ e. rw e at h)
    (λ e. no_answer (rw e at h))

in_range : (blocks first count : ℕ) → check_range blocks first count ≡ None → first + count ≤ blocks
in_range blocks first count h = split (nat_le (first + count) blocks)
    (λ e. leb-true (first + count) blocks e)
    (λ e. no_answer (rw e at h))

-- the blocks of an operation are on the disk
pub checked_op_on_disk : (c : Class) (blocks : ℕ) (o : Op) → static_check c blocks o ≡ None → first_of_op o + blocks_of_op o ≤ blocks
checked_op_on_disk c blocks (op.Read first count) h =
    let k : check_op c blocks (op.Read first count) ≡ None = checked_op_of_table c blocks (op.Read first count) h in
    split (nat_le 1 count && nat_le count 8)
    (λ e. in_range blocks first count (rw e at k))
    (λ e. no_answer (rw e at k))
checked_op_on_disk c blocks (op.Write first words) h =
    let k : check_op c blocks (op.Write first words) ≡ None = checked_op_of_table c blocks (op.Write first words) h in
    split (is_block_length (length words))
    (λ e. in_range blocks first (length words / 16) (rw e at k))
    (λ e. no_answer (rw e at k))
checked_op_on_disk c blocks (op.Send frame) h = omega arith
checked_op_on_disk c blocks op.Recv h = omega arith
checked_op_on_disk c blocks op.Open h = omega arith
checked_op_on_disk c blocks (op.Play samples) h = omega arith
checked_op_on_disk c blocks op.Close h = omega arith
checked_op_on_disk c blocks (op.Get key) h = omega arith
checked_op_on_disk c blocks (op.Set key value) h = omega arith

-- a Read has at most eight blocks
pub checked_read_count : (c : Class) (blocks first count : ℕ) → static_check c blocks (op.Read first count) ≡ None → count ≤ 8
checked_read_count c blocks first count h =
    let k : check_op c blocks (op.Read first count) ≡ None = checked_op_of_table c blocks (op.Read first count) h in
    split (nat_le 1 count && nat_le count 8)
    (λ e. leb-true count 8 (and_parts (nat_le 1 count) (nat_le count 8) e).1)
    (λ e. no_answer (rw e at k))

pub checked_set_key : (c : Class) (blocks key value : ℕ) → static_check c blocks (op.Set key value) ≡ None → key ≤ 3
checked_set_key c blocks key value h = let k : key < 4 = set_key c blocks key value h in omega arith

pub checked_get_key : (c : Class) (blocks key : ℕ) → static_check c blocks (op.Get key) ≡ None → key ≤ 3
checked_get_key c blocks key h =
    let k : check_op c blocks (op.Get key) ≡ None = checked_op_of_table c blocks (op.Get key) h in
    split (nat_le key 3)
    (λ e. leb-true key 3 e)
    (λ e. no_answer (rw e at k))

lent_if_some : (o : Option Lent) → FitsBuffer o → IfSome o (λ l. length l.words ≤ 128)
lent_if_some None f = tt
lent_if_some (Some l) f = f

-- what is lent with an operation fits the two pages of a buffer
pub checked_op_fits_buffer : (c : Class) (blocks : ℕ) (o : Op) → static_check c blocks o ≡ None → IfSome (buffer_of o) (λ l. length l.words ≤ 128)
checked_op_fits_buffer c blocks o h = lent_if_some (buffer_of o) (op_fits_buffer c blocks o h)

-- the open call of a thread

module _ (p : PartState) (fit : IsFit p) (thread : ℕ) (c : CallEntry) (found : call_of_thread thread p.log.pending ≡ Some c) where
  pub open_call_fits : IsFitCall p.spec.class p.spec.blocks c
  open_call_fits = found_fits (IsFitCall p.spec.class p.spec.blocks) _ p.log.pending c fit.log.calls found

  pub open_call_checked : static_check p.spec.class p.spec.blocks c.op ≡ None
  open_call_checked = open_call_fits.checked

  pub open_call_thread_low : c.thread < 16
  open_call_thread_low = open_call_fits.thread

  pub open_thread_low : thread < 16
  open_thread_low = subst (λ t. t < 16) (found_thread thread p.log.pending c found) open_call_fits.thread

  pub open_call_of_class : is_of_class p.spec.class c.op ≡ true
  open_call_of_class = checked_op_of_class p.spec.class p.spec.blocks c.op open_call_fits.checked

  pub open_call_on_disk : first_of_op c.op + blocks_of_op c.op ≤ p.spec.blocks
  open_call_on_disk = checked_op_on_disk p.spec.class p.spec.blocks c.op open_call_fits.checked

  pub open_call_fits_buffer : IfSome (buffer_of c.op) (λ l. length l.words ≤ 128)
  open_call_fits_buffer = checked_op_fits_buffer p.spec.class p.spec.blocks c.op open_call_fits.checked

  pub open_read_count : (first count : ℕ) → c.op ≡ op.Read first count → count ≤ 8
  open_read_count first count e =
      checked_read_count p.spec.class p.spec.blocks first count (subst (λ o. static_check p.spec.class p.spec.blocks o ≡ None) e open_call_fits.checked)

  pub open_set_key : (key value : ℕ) → c.op ≡ op.Set key value → key ≤ 3
  open_set_key key value e =
      checked_set_key p.spec.class p.spec.blocks key value (subst (λ o. static_check p.spec.class p.spec.blocks o ≡ None) e open_call_fits.checked)

pub open_call_thread : (thread : ℕ) (pending : List CallEntry) (c : CallEntry) → call_of_thread thread pending ≡ Some c → c.thread ≡ thread
open_call_thread thread pending c found = found_thread thread pending c found

-- numbers increase, so a number finds a call too

call_above : (thread low count : ℕ) (pending : List CallEntry) (c : CallEntry) → IsRising low count pending
    → call_of_thread thread pending ≡ Some c → open_call c.call pending ≡ Some c
call_above thread low count [] c r h = cc
call_above thread low count (d ∷ pending) c r h = split (is_of_thread thread d)
    (λ here. at_head (rw (here, find) at h))
    (λ later.
    let rest : call_of_thread thread pending ≡ Some c = rw (later, find) at h in
    let above : d.call < c.call = found_above thread d.call count pending c r.2 rest in
    let other : (d.call == c.call) ≡ false = ne_eqb d.call c.call (apart d.call c.call above) in
    rw (other, find) (call_above thread d.call count pending c r.2 rest))
  where
    apart : (a b : ℕ) → a < b → a ≡ b → ⊥
    apart a b l e = omega arith

    at_head : Some d ≡ Some c → open_call c.call (d ∷ pending) ≡ Some c
    at_head e = let s : d ≡ c = cc in rw (← s, eq-eqb d.call d.call refl, find) refl

pub open_call_has_number : (p : PartState) (thread : ℕ) (c : CallEntry) → IsTied p → call_of_thread thread p.log.pending ≡ Some c
    → open_call c.call p.log.pending ≡ Some c
open_call_has_number p thread c tied found = call_above thread 0 p.log.count p.log.pending c tied.rising found

-- counts

pub failures_can_rise : (p : PartState) → IsTied p → p.spec.limit ≤ 16 → p.failures < 2 ^ 32 - 1
failures_can_rise p tied limit = let l : p.failures ≤ p.spec.limit + 1 = tied.limit in omega arith

tied_attempts : (m : Mode) (failures : ℕ) (contexts : List (Option Context)) (c : CallEntry) → IsTiedCall m failures contexts c
    → c.attempts ≤ failures + 1
tied_attempts (mode.Boot s) failures contexts c k = let few : c.attempts ≤ failures = k.0 in omega arith
tied_attempts mode.Running failures contexts c k = k.0
tied_attempts (mode.Recovering s) failures contexts c k = let few : c.attempts ≤ failures = k.0 in omega arith
tied_attempts (mode.Dead collected) failures contexts c k = absurd k

module _ (p : PartState) (tied : IsTied p) where
  call_tied : (test : CallEntry → Bool) (c : CallEntry) → find test p.log.pending ≡ Some c → IsTiedCall p.mode p.failures p.domain.contexts c
  call_tied test c found = found_fits (IsTiedCall p.mode p.failures p.domain.contexts) test p.log.pending c tied.calls found

  pub open_call_attempts : (thread : ℕ) (c : CallEntry) → call_of_thread thread p.log.pending ≡ Some c → c.attempts ≤ p.failures + 1
  open_call_attempts thread c found = tied_attempts p.mode p.failures p.domain.contexts c (call_tied (is_of_thread thread) c found)

  pub open_call_attempts_can_rise : p.spec.limit ≤ 16 → (thread : ℕ) (c : CallEntry) → call_of_thread thread p.log.pending ≡ Some c
      → c.attempts < 2 ^ 32 - 1
  open_call_attempts_can_rise limit thread c found =
      let few : c.attempts ≤ p.failures + 1 = open_call_attempts thread c found in
      let l : p.failures ≤ p.spec.limit + 1 = tied.limit in
      omega arith

  pub numbered_attempts : (call : ℕ) (c : CallEntry) → open_call call p.log.pending ≡ Some c → c.attempts ≤ p.failures + 1
  numbered_attempts call c found = tied_attempts p.mode p.failures p.domain.contexts c (call_tied (is_call call) c found)

  pub numbered_attempts_can_rise : p.spec.limit ≤ 16 → (call : ℕ) (c : CallEntry) → open_call call p.log.pending ≡ Some c
      → c.attempts < 2 ^ 32 - 1
  numbered_attempts_can_rise limit call c found =
      let few : c.attempts ≤ p.failures + 1 = numbered_attempts call c found in
      let l : p.failures ≤ p.spec.limit + 1 = tied.limit in
      omega arith

-- a call found by its number also passed the static check
pub numbered_call_fits : (p : PartState) (call : ℕ) (c : CallEntry) → IsFit p → open_call call p.log.pending ≡ Some c
    → IsFitCall p.spec.class p.spec.blocks c
numbered_call_fits p call c fit found = found_fits (IsFitCall p.spec.class p.spec.blocks) (is_call call) p.log.pending c fit.log.calls found

-- lengths

pub config_length : (p : PartState) → IsFit p → length p.log.config ≡ 4
config_length p fit = fit.log.config

pub memory_length : (p : PartState) → IsFit p → length p.domain.memory ≡ 8192
memory_length p fit = fit.domain.memory

pub contexts_length : (p : PartState) → IsFit p → length p.domain.contexts ≡ 17
contexts_length p fit = fit.domain.contexts

-- the next stage replays one of four keys
pub due_key_low : (p : PartState) (key value : ℕ) → IsTied p → stage_due p.mode ≡ Some (stage.ReplaySet key value) → key ≤ 3
due_key_low p key value tied due = by_mode p.mode tied.stages due
  where
    by_stage : (s : Stage) → IsFitStage s → s ≡ stage.ReplaySet key value → key ≤ 3
    by_stage s f e = subst IsFitStage e f

    by_mode : (m : Mode) → IsFitMode m → stage_due m ≡ Some (stage.ReplaySet key value) → key ≤ 3
    by_mode (mode.Boot s) f e = by_stage s f cc
    by_mode mode.Running f e = absurd cc
    by_mode (mode.Recovering s) f e = by_stage s f cc
    by_mode (mode.Dead true) f e = absurd cc
    by_mode (mode.Dead false) f e = absurd cc

-- the context of a burst that may be done: it is Inside, and has done at most 31 bursts

abbrev pub GoesOnWith : Option Context → Type 0
GoesOnWith o = (x : Context) × (o ≡ Some x) × (x.bursts ≤ 31)

goes_on_with : (o : Option Context) → GoesOn o → GoesOnWith o
goes_on_with None h = absurd h
goes_on_with (Some x) h = (x, refl, h)

driven_with : (m : Mode) (o : Option Context) → IsDriven m o → is_some o ≡ true → GoesOnWith o
driven_with m None h s = absurd (true≢false (sym s))
driven_with m (Some x) h s = (x, refl, h.0)

inside_with : (p : PartState) (t : ℕ) (o : Option CallEntry) → IsTied p → p.mode ≡ mode.Running → call_of_thread t p.log.pending ≡ o
    → is_inside o ≡ true → GoesOnWith (context_of t p.domain.contexts)
inside_with p t None tied running found inside = absurd (true≢false (sym inside))
inside_with p t (Some c) tied running found inside =
    let was : AllByRecursion (IsRunningCall p.failures p.domain.contexts) p.log.pending =
    subst (λ m. AllByRecursion (IsTiedCall m p.failures p.domain.contexts) p.log.pending) running tied.calls in
    let one : IsRunningCall p.failures p.domain.contexts c = found_fits (IsRunningCall p.failures p.domain.contexts) _ p.log.pending c was found in
    goes_on_with (context_of t p.domain.contexts)
    (subst (λ k. GoesOn (context_of k p.domain.contexts)) (found_thread t p.log.pending c found) (one.2 inside))

pub burst_context_goes_on : (p : PartState) (context : ℕ) → IsTied p → enabled p (step.Burst context) ≡ true
    → GoesOnWith (context_of context p.domain.contexts)
unfolding enabled
burst_context_goes_on p context tied e = split (context == 16)
    (λ own.
    let same : context ≡ 16 = eqb-true context 16 own in
    subst (λ k. GoesOnWith (context_of k p.domain.contexts)) (sym same)
    (driven_with p.mode (context_of 16 p.domain.contexts) tied.driven (rw own at e)))
    (λ other.
    let parts = and_parts (is_running p.mode) (is_inside (call_of_thread context p.log.pending)) (rw other at e) in
    inside_with p context (call_of_thread context p.log.pending) tied (running_is p.mode parts.0) refl parts.1)

pub burst_context_is_some : (p : PartState) (context : ℕ) → IsTied p → enabled p (step.Burst context) ≡ true
    → is_some (context_of context p.domain.contexts) ≡ true
burst_context_is_some p context tied e = ap is_some (burst_context_goes_on p context tied e).1

pub burst_context_bursts_low : (p : PartState) (context : ℕ) (x : Context) → IsTied p → enabled p (step.Burst context) ≡ true
    → context_of context p.domain.contexts ≡ Some x → x.bursts ≤ 31
burst_context_bursts_low p context x tied e found = subst (λ o. bursts_of o ≤ 31) found (burst_low p context tied e)

inside_thread_low : (p : PartState) (t : ℕ) (o : Option CallEntry) → IsFit p → call_of_thread t p.log.pending ≡ o → is_inside o ≡ true → t < 16
inside_thread_low p t None fit found inside = absurd (true≢false (sym inside))
inside_thread_low p t (Some c) fit found inside = open_thread_low p fit t c found

pub burst_context_low : (p : PartState) (context : ℕ) → IsFit p → enabled p (step.Burst context) ≡ true → context ≤ 16
unfolding enabled
burst_context_low p context fit e = split (context == 16)
    (λ own. let same : context ≡ 16 = eqb-true context 16 own in omega arith)
    (λ other.
    let parts = and_parts (is_running p.mode) (is_inside (call_of_thread context p.log.pending)) (rw other at e) in
    let low : context < 16 = inside_thread_low p context (call_of_thread context p.log.pending) fit refl parts.1 in
    omega arith)
