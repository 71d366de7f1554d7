-- The beginning of a journal that fits.
use Rattle.std.proofs.Common.{◌≡◌, true, List, [], ◌∷◌, ◌++◌, refl, sym, ap, ◌∙◌, subst}
use Rattle.nook_data.specs.declared.steps.Event.{Event}
use Rattle.nook_data.specs.declared.steps.Step.{Step}
use Rattle.part_defs.specs.Runs.{event_of, step_of}
use Rattle.part_defs.specs.Steps.{enabled}
use Rattle.part_laws.proofs.RunsDetermined.{step_named}
use Rattle.run_laws.specs.Audit.{Section, is_complete, section_after}
use Rattle.run_laws.specs.Fitting.{FitsFrom, IsNext, section_from}

-- each event is made by its step, which may be taken and is the next of its kind; more events may follow
abbrev pub FitsSoFar : Section → List Event → Type 0
FitsSoFar s [] = Unit {0}
FitsSoFar s (e ∷ events) =
    (enabled s.seat.run.state (step_of e) ≡ true) × (event_of s.seat.run.state (step_of e) ≡ e)
    × IsNext s (step_of e) × FitsSoFar (section_after s (step_of e)) events

-- one more step
pub so_far_more : (s : Section) (events : List Event) (t : Section) (x : Step) → section_from s events ≡ t → FitsSoFar s events
    → enabled t.seat.run.state x ≡ true → IsNext t x
    → FitsSoFar s (events ++ event_of t.seat.run.state x ∷ []) × (section_from s (events ++ event_of t.seat.run.state x ∷ []) ≡ section_after t x)
so_far_more s [] t x is h may next =
    let named : step_of (event_of t.seat.run.state x) ≡ x = step_named t.seat.run.state x in
    let fits : FitsSoFar t (event_of t.seat.run.state x ∷ []) =
    subst (λ y. (enabled t.seat.run.state y ≡ true) × (event_of t.seat.run.state y ≡ event_of t.seat.run.state x) × IsNext t y × Unit {0}) (sym named) (may, refl, next, tt) in (
      subst (λ z. FitsSoFar z (event_of t.seat.run.state x ∷ [])) (sym is) fits,
      ap (λ z. section_after z (step_of (event_of t.seat.run.state x))) is ∙ ap (section_after t) named,
    )
so_far_more s (e ∷ events) t x is h may next =
    let more = so_far_more (section_after s (step_of e)) events t x is h.3 may next in
    ((h.0, h.1, h.2, more.0), more.1)

-- a whole journal
pub so_far_whole : (s : Section) (events : List Event) → FitsSoFar s events → is_complete (section_from s events) ≡ true → FitsFrom s events
unfolding FitsFrom
so_far_whole s [] h complete = complete
so_far_whole s (e ∷ events) h complete = (h.0, h.1, h.2, so_far_whole (section_after s (step_of e)) events h.3 complete)
