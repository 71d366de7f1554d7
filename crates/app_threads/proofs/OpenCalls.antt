-- An open call of a run that continues.
use Rattle.std.proofs.Common.{◌≡◌, ℕ, zero, suc, ◌≤◌, Some, None, List, [], ◌∷◌, ◌++◌, slice_get, subst, sym, arith}
use Rattle.std.specs.List.{AllByRecursion}
use mathlib.Core.List.{IsPrefix}
use Rattle.nook_data.specs.declared.steps.Event.{Event}
use Rattle.nook_data.specs.declared.steps.Event.TheVariants as event
use Rattle.nook_data.specs.declared.scenario.PartSpec.{PartSpec}
use Rattle.part_defs.specs.Log.{opening_log}
use Rattle.part_defs.specs.Views.CallLogs.{IsNumbered}
use Rattle.part_defs.specs.Runs.{IsRun, IsRunFrom, state_after, state_from, state_of, step_of}
use Rattle.nook_data.specs.Answers.{answer_at}
use Rattle.part_defs.specs.State.{PartState}
use Rattle.part_defs.specs.Steps.{opening}
use Rattle.part_laws.proofs.CallNumbers.{CameFrom, HasEntry, InvokesAbove, InvokesBy, Quiet, open_has, small_calls}
use Rattle.desk_like.specs.Desks.{HasOpen}
use Rattle.nook_data.specs.Numbered.{at_number}
use Rattle.part_laws.proofs.UnansweredCalls.{found_has, fresh_after, open_after}
use Rattle.app_threads.proofs.Listed.{some_same}

run_front : (p : PartState) (xs ys : List Event) → IsRunFrom p (xs ++ ys) → IsRunFrom p xs × IsRunFrom (state_from p xs) ys
unfolding IsRunFrom state_from
run_front p [] ys r = (tt, r)
run_front p (e ∷ xs) ys r = let k = run_front (state_after p (step_of e)) xs ys r.2 in ((r.0, r.1, k.0), k.1)

opening_numbered : (spec : PartSpec) → IsNumbered 0 (opening spec).log.count (opening spec).log.pending
unfolding opening opening_log
opening_numbered spec = omega arith

quiet_answers : (call thread : ℕ) (events : List Event) → AllByRecursion (Quiet call thread) events → AllByRecursion (λ e. answer_at call e ≡ None) events
quiet_answers call thread [] h = tt
quiet_answers call thread (e ∷ events) h = (h.0.0, quiet_answers call thread events h.1)

quiet_invokes : (call thread : ℕ) (events more : List Event) → AllByRecursion (Quiet call thread) events → AllByRecursion (InvokesBy call thread) more → AllByRecursion (InvokesBy call thread) (events ++ more)
quiet_invokes call thread [] more h k = k
quiet_invokes call thread (e ∷ events) more h k = (h.0.1, quiet_invokes call thread events more h.1 k)

above_other : (count call thread : ℕ) (e : Event) → call ≤ count → InvokesAbove count e → InvokesBy call thread e
above_other count call thread (event.Invoke c t o answer) l h = λ q. absurd (omega arith)
above_other count call thread (event.Enter c t attempt answer) l h = tt
above_other count call thread (event.Burst context c burst n end acts answer failure) l h = tt
above_other count call thread (event.Stage s answers ended) l h = tt
above_other count call thread (event.Arrive frame kept) l h = tt

all_above_other : (count call thread : ℕ) (events : List Event) → call ≤ count → AllByRecursion (InvokesAbove count) events → AllByRecursion (InvokesBy call thread) events
all_above_other count call thread [] l h = tt
all_above_other count call thread (e ∷ events) l h = (above_other count call thread e l h.0, all_above_other count call thread events l h.1)

-- if a thread has a call open after a prefix of a run, the prefix does not answer it and no other thread invokes it
pub open_law : (spec : PartSpec) (between whole : List Event) (thread call : ℕ) → IsRun spec whole → IsPrefix between whole → HasOpen (state_of spec between) thread call
    → AllByRecursion (λ e. answer_at call e ≡ None) between × AllByRecursion (InvokesBy call thread) whole
open_law spec between whole thread call run p h =
    let r = run_front (opening spec) between p.0 (subst (IsRun spec) (sym p.1) run) in
    let o = open_after (opening spec) between (opening_numbered spec) r.0 in
    let has = subst (λ c. HasEntry (state_of spec between).log.pending c thread) h.number (found_has thread (state_of spec between).log.pending h.entry h.open_one) in
    let quiet = (open_has (λ c t. AllByRecursion (Quiet c t) between × CameFrom (opening spec).log c t) (state_of spec between).log.pending call thread o.1 has).0 in
    let small = open_has (λ c t. c ≤ (state_of spec between).log.count) (state_of spec between).log.pending call thread (small_calls (state_of spec between).log.count (state_of spec between).log.pending o.0) has in
    let later = all_above_other (state_of spec between).log.count call thread p.0 small (fresh_after (state_of spec between) p.0 o.0 r.1) in (
      quiet_answers call thread between quiet,
      subst (AllByRecursion (InvokesBy call thread)) p.1 (quiet_invokes call thread between p.0 quiet later),
    )

in_list : {X : Type 0} (P : X → Type 0) (xs : List X) (i : ℕ) (x : X) → AllByRecursion P xs → slice_get xs i ≡ Some x → P x
in_list P [] i x h e = absurd cc
in_list P (y ∷ xs) zero x h e = subst P (some_same y x e) h.0
in_list P (y ∷ xs) (suc i) x h e = in_list P xs i x h.1 e

pub at_position : (P : Event → Type 0) (events : List Event) (position : ℕ) (e : Event) → AllByRecursion P events → at_number position events ≡ Some e → P e
at_position P events zero e h k = absurd cc
at_position P events (suc position) e h k = in_list P events position e h k
