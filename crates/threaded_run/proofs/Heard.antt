-- Journals that are published one after another.
use Rattle.std.proofs.Common.{◌≡◌, ℕ, suc, ◌+◌, ◌<◌, List, [], ◌∷◌, length, map, drop, get_or, inl, inr, refl, sym, ap, ◌∙◌, add-one, drop-cons}
use Rattle.nook_data.specs.declared.calls.Answer.{Answer}
use Rattle.nook_data.specs.declared.steps.Event.{Event}
use Rattle.nook_data.specs.declared.scenario.Scenario.{Scenario}
use Rattle.nook_io.specs.Listening.{Listening}
use Rattle.nook_data.specs.Views.Room.{Kept}
use Rattle.request_taps.specs.Bus.{after_hearing, after_hearing_all}
use Rattle.request_taps.specs.declared.tap.Tap.{Tap}
use Rattle.run_ends.proofs.Heard.{after_hearing_all_append}
use Rattle.run_results.specs.Journals.{AreRuns, events_in, with_part}
use Rattle.threaded_run.specs.Threaded.{HearAllOrNothing, IsThreaded, in_parts}

front : {X : Type 0} (xs : List X) (i : ℕ) (x : X) → i < length xs → x ≡ get_or xs i x → drop i xs ≡ x ∷ drop (i + 1) xs
front xs i x within is =
    drop-cons xs i x within ∙ ap (λ y. y ∷ drop (suc i) xs) (sym is) ∙ ap (λ (n : ℕ). x ∷ drop n xs) (sym (add-one i))

pub event_heard : (part i : ℕ) (events : List Event) (event : Event) (now new start : List (Tap Listening)) → i < length events
    → event ≡ get_or events i event → new ≡ map (after_hearing part event) now
    → after_hearing_all (with_part part (drop i events)) now ≡ after_hearing_all (with_part part events) start
    → after_hearing_all (with_part part (drop (i + 1) events)) new ≡ after_hearing_all (with_part part events) start
unfolding after_hearing_all
event_heard part i events event now new start within is step before =
    ap (after_hearing_all (with_part part (drop (i + 1) events))) step
    ∙ ap (λ xs. after_hearing_all (with_part part xs) now) (sym (front events i event within is))
    ∙ before

pub journal_heard : (i : ℕ) (journals : List (Kept Event)) (journal : Kept Event) (now new start : List (Tap Listening)) → i < length journals
    → journal ≡ get_or journals i journal → new ≡ after_hearing_all (with_part i journal.list) now
    → after_hearing_all (in_parts i (map events_in (drop i journals))) now ≡ after_hearing_all (in_parts 0 (map events_in journals)) start
    → after_hearing_all (in_parts (i + 1) (map events_in (drop (i + 1) journals))) new ≡ after_hearing_all (in_parts 0 (map events_in journals)) start
journal_heard i journals journal now new start within is step before =
    ap (λ (n : ℕ). after_hearing_all (in_parts n (map events_in (drop (i + 1) journals))) new) (add-one i)
    ∙ ap (after_hearing_all (in_parts (suc i) (map events_in (drop (i + 1) journals)))) step
    ∙ sym (after_hearing_all_append (with_part i journal.list) (in_parts (suc i) (map events_in (drop (i + 1) journals))) now)
    ∙ ap (λ xs. after_hearing_all (in_parts i (map events_in xs)) now) (sym (front journals i journal within is))
    ∙ before

-- nothing is left after the last
pub all_heard : {X : Type 0} (xs : List X) (n : ℕ) (say : List X → List (ℕ × Event)) (now : List (Tap Listening)) → n ≡ length xs → say [] ≡ []
    → after_hearing_all (say (drop n xs)) now ≡ now
unfolding after_hearing_all
all_heard xs n say now e none =
    ap (λ (k : ℕ). after_hearing_all (say (drop k xs)) now) e
    ∙ ap (λ ys. after_hearing_all (say ys) now) (drop_all xs)
    ∙ ap (λ es. after_hearing_all es now) none
  where
    drop_all : {X : Type 0} (xs : List X) → drop (length xs) xs ≡ []
    drop_all [] = refl
    drop_all (x ∷ xs) = drop_all xs

-- ---- what taps heard of a run that is refused

pub heard_nothing : (scenario : Scenario) (taps : List (Tap Listening)) → HearAllOrNothing scenario taps taps
heard_nothing scenario taps = inl refl

pub heard_all : (scenario : Scenario) (journals : List (Kept Event)) (answers : List (List (ℕ × Answer))) (old new : List (Tap Listening))
    → AreRuns scenario.parts (map events_in journals) → IsThreaded scenario (map events_in journals) answers
    → new ≡ after_hearing_all (in_parts 0 (map events_in journals)) old → HearAllOrNothing scenario old new
heard_all scenario journals answers old new runs threaded heard =
    inr (record { journals = map events_in journals; answers = answers; runs = runs; threaded = threaded; heard = heard })
