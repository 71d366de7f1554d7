-- What taps hear of events in order, and the state after a failed run.
use Rattle.std.proofs.Common.{◌≡◌, ℕ, List, [], ◌∷◌, ◌++◌, map, refl, Result, Ok, Err, OnErr}
use Rattle.nook_data.specs.declared.steps.Event.{Event}
use Rattle.nook_io.specs.Listening.{Listening}
use Rattle.request_taps.specs.Bus.{after_hearing, after_hearing_all}
use Rattle.request_taps.specs.declared.tap.Tap.{Tap}

pub after_hearing_all_append : (xs ys : List (ℕ × Event)) (taps : List (Tap Listening)) → after_hearing_all (xs ++ ys) taps ≡ after_hearing_all ys (after_hearing_all xs taps)
unfolding after_hearing_all
after_hearing_all_append [] ys taps = refl
after_hearing_all_append (e ∷ xs) ys taps = after_hearing_all_append xs ys (map (after_hearing e.0 e.1) taps)

pub on_err : {T E P : Type 0} (r : Result T E) → P → OnErr r P
on_err (Ok x) p = tt
on_err (Err x) p = p
