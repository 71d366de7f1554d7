use Rattle.std.proofs.Common.{◌≡◌, ℕ, ◌+◌, ◌-◌, Option, Some, None, List, [], ◌∷◌, ◌++◌, length, map, slice_get, slice_set, get_or, refl, sym, ap, ◌∙◌, subst, inr, arith, OnOk, Result, Ok, Err}
use Rattle.std.proofs.lemmas.List.{length-append}
use Rattle.std.proofs.lemmas.Option.{get_or_from_slice_get}
use Rattle.nook_data.specs.declared.steps.Event.{Event}
use Rattle.nook_data.specs.declared.steps.Step.{Step}
use Rattle.nook_data.specs.declared.memory.NoMemory.{NoMemory}
use Rattle.nook_io.specs.Listening.{Listening}
use Rattle.part_defs.specs.Runs.{event_of}
use Rattle.run_defs.specs.Simulation.{Choice, RunningPart, ThreadState, part_after, threads_after}
use Rattle.part_laws.proofs.Indices.{get_mid, some_same}
use Rattle.request_taps.specs.Bus.{after_hearing, after_hearing_all}
use Rattle.request_taps.specs.declared.tap.Tap.{Tap}
use Rattle.sim_run.specs.Advanced.{IsSteppedSeat, IsTaken}
use Rattle.sim_run.specs.Published.{HearsChoice, made_of}

-- A part's step and its event, which is the newest one of the part.

-- part `index` took the step, and its newest event is this one
pub record HasTaken (q : Option RunningPart) (parts : List RunningPart) (index : ℕ) (s : Step) (new : List RunningPart) (e : Event) : Type 0 where
  pub seat : RunningPart
  pub was : q ≡ Some seat
  pub left : new ≡ slice_set parts index (part_after s seat)
  pub event : e ≡ event_of seat.run.state s

pub last_of : (events : List Event) (e x : Event) → slice_get (events ++ e ∷ []) (length (events ++ e ∷ []) - 1) ≡ Some x → x ≡ e
last_of events e x h =
    let size : length (events ++ e ∷ []) - 1 ≡ length events = less (length (events ++ e ∷ [])) (length events) (length-append events (e ∷ [])) in
    some_same x e (sym h ∙ ap (slice_get (events ++ e ∷ [])) size ∙ get_mid events [] e)
  where
    less : (n m : ℕ) → n ≡ m + 1 → n - 1 ≡ m
    less n m e = omega arith

has_taken_at : (q : Option RunningPart) (parts new : List RunningPart) (index : ℕ) (s : Step) (now : RunningPart) (e : Event) → IsSteppedSeat q parts index s new
    → now ≡ get_or new index now → slice_get now.run.journal (length now.run.journal - 1) ≡ Some e → HasTaken q parts index s new e
has_taken_at None parts new index s now e h at newest = absurd h
has_taken_at (Some seat) parts new index s now e h at newest =
    let is : now ≡ part_after s seat = at ∙ get_or_from_slice_get new index (part_after s seat) now h.1 in
    record {
      seat = seat;
      was = refl;
      left = h.0;
      event = last_of seat.run.journal (event_of seat.run.state s) e
          (subst (λ (x : RunningPart). slice_get x.run.journal (length x.run.journal - 1) ≡ Some e) is newest);
    }

pub has_taken : (c : Choice) (parts new : List RunningPart) (index : ℕ) (s : Step) (now : RunningPart) (e : Event) → index ≡ c.part → s ≡ c.step
    → IsSteppedSeat (slice_get parts index) parts index s new → now ≡ get_or new index now
    → slice_get now.run.journal (length now.run.journal - 1) ≡ Some e → HasTaken (slice_get parts c.part) parts c.part c.step new e
has_taken c parts new index s now e part step h at newest =
    subst (λ (n : ℕ). HasTaken (slice_get parts n) parts n c.step new e) part
    (subst (λ s. HasTaken (slice_get parts index) parts index s new e) step
    (has_taken_at (slice_get parts index) parts new index s now e h at newest))

pub is_heard : {T : Type 0} (r : Result T NoMemory) (c : Choice) (q : Option RunningPart) (parts new : List RunningPart) (e : Event) (old after : List (Tap Listening))
    → HasTaken q parts c.part c.step new e → after ≡ map (after_hearing c.part e) old → HearsChoice (made_of c q) r old after
unfolding after_hearing_all
is_heard r c q parts new e old after h heard =
    subst (λ q. HearsChoice (made_of c q) r old after) (sym h.was) (by_result r)
  where
    all : after ≡ after_hearing_all (made_of c (Some h.seat)) old
    all = heard ∙ ap (λ x. map (after_hearing c.part x) old) h.event

    by_result : {T : Type 0} (r : Result T NoMemory) → HearsChoice (made_of c (Some h.seat)) r old after
    by_result (Ok x) = all
    by_result (Err x) = inr all

pub is_taken : {T E : Type 0} (r : Result T E) (c : Choice) (part : ℕ) (q : Option RunningPart) (parts new : List RunningPart) (e : Event)
    (threads noted : List ThreadState) → part ≡ c.part → HasTaken q parts c.part c.step new e → OnOk r (noted ≡ threads_after 0 part e threads)
    → OnOk r (IsTaken q c parts threads new noted)
is_taken (Err x) c part q parts new e threads noted same h after_hearing = tt
is_taken (Ok x) c part q parts new e threads noted same h after_hearing =
    subst (λ q. IsTaken q c parts threads new noted) (sym h.was)
    (h.left, after_hearing ∙ ap (λ (n : ℕ). threads_after 0 n e threads) same ∙ ap (λ x. threads_after 0 c.part x threads) h.event)
