-- The numbers of a run's row are those of its present.
use Rattle.std.proofs.Common.{◌≡◌, ℕ, ◌+◌, ◌||◌, if◌then◌else◌, Bool, Option, Some, None, List, [], ◌∷◌, is_some}
use Rattle.std.proofs.Common.{map, refl, sym, ap, ap₂, ◌∙◌}
use Rattle.contract_monitor.proofs.Numbers.{counts_reported}
use Rattle.explore_defs.specs.Explored.{numbers_of}
use Rattle.explore_defs.specs.Orders.{IsOfLevel, Path}
use Rattle.explore_defs.specs.Outcomes.{clause_of}
use Rattle.explore_laws.proofs.Counted.{level_counted, seat_spec, seats_led}
use Rattle.explore_laws.specs.Present.{broken_in, failures_in, given_up_in, lost_in, numbers_in, part_present}
use Rattle.explore_laws.specs.Present.{present}
use Rattle.nook_data.specs.Types.{Break, MemberRow, PartSpec, Scenario}
use Rattle.part_defs.specs.Stages.{is_given_up}
use Rattle.promise_defs.specs.Contract.{first_break}
use Rattle.report_defs.specs.Campaigns.{lost_count, lost_of, row_of}
use Rattle.report_defs.specs.ReportText.{failures_count, has_break, has_given_up}
use Rattle.run_defs.specs.Simulation.{RunningPart, journal_of}
use Rattle.sim_run.specs.Reached.{AreSeatsOf}

is_clause : (verdict : Option Break) → is_some verdict ≡ is_some (clause_of verdict)
is_clause None = refl
is_clause (Some b) = refl

breaks_in : (specs : List PartSpec) (seats : List RunningPart) → AreSeatsOf specs seats
    → has_break specs (map journal_of seats) ≡ broken_in (map part_present seats)
unfolding has_break
breaks_in [] [] are = refl
breaks_in [] (seat ∷ seats) are = absurd are
breaks_in (spec ∷ specs) [] are = absurd are
breaks_in (spec ∷ specs) (seat ∷ seats) are = ap₂ (λ a b. a || b)
    (is_clause (first_break spec.class spec.blocks seat.run.journal)
    ∙ ap (λ (made : PartSpec). is_some (clause_of (first_break made.class made.blocks seat.run.journal))) (sym (seat_spec spec seat are.0)))
    (breaks_in specs seats are.1)

gone_in_all : (specs : List PartSpec) (seats : List RunningPart) → AreSeatsOf specs seats
    → has_given_up specs (map journal_of seats) ≡ given_up_in (map part_present seats)
unfolding has_given_up
gone_in_all [] [] are = refl
gone_in_all [] (seat ∷ seats) are = absurd are
gone_in_all (spec ∷ specs) [] are = absurd are
gone_in_all (spec ∷ specs) (seat ∷ seats) are =
    ap₂ (λ a b. a || b) (ap is_given_up (sym are.0.state)) (gone_in_all specs seats are.1)

failures_in_all : (specs : List PartSpec) (seats : List RunningPart) → AreSeatsOf specs seats
    → failures_count specs (map journal_of seats) ≡ failures_in (map part_present seats)
unfolding failures_count
failures_in_all [] [] are = refl
failures_in_all [] (seat ∷ seats) are = absurd are
failures_in_all (spec ∷ specs) [] are = absurd are
failures_in_all (spec ∷ specs) (seat ∷ seats) are =
    ap₂ (λ (a b : ℕ). a + b) (ap (λ p. p.failures) (sym are.0.state)) (failures_in_all specs seats are.1)

lost_in_all : (seats : List RunningPart) → lost_count (map journal_of seats) ≡ lost_in (map part_present seats)
lost_in_all [] = refl
lost_in_all (seat ∷ seats) =
    ap₂ (λ (a b : ℕ). a + b) (ap lost_of (sym (counts_reported seat.run.journal))) (lost_in_all seats)

-- the numbers of a row, by those of the parts
abbrev numbers : Bool → Bool → ℕ → ℕ → ℕ → ℕ → MemberRow
numbers broken given_up events failures gone lost = record {
  status = if broken then 7 else if given_up then 1 else 0;
  events = events;
  failures = failures;
  gone = gone;
  lost = lost;
}

same_numbers : (b b' g g' : Bool) (e e' f f' gone l l' : ℕ) → b ≡ b' → g ≡ g' → e ≡ e' → f ≡ f' → l ≡ l'
    → numbers b g e f gone l ≡ numbers b' g' e' f' gone l'
same_numbers b b' g g' e e' f f' gone l l' hb hg he hf hl =
    ap (λ x. numbers x g e f gone l) hb ∙ ap (λ x. numbers b' x e f gone l) hg ∙ ap (λ x. numbers b' g' x f gone l) he
    ∙ ap (λ x. numbers b' g' e' x gone l) hf ∙ ap (λ x. numbers b' g' e' f' gone x) hl

pub numbers_reported : (scenario : Scenario) (steps : ℕ) (path : Path) → IsOfLevel scenario steps path
    → numbers_of scenario path ≡ numbers_in steps (present path.end)
unfolding row_of present
numbers_reported scenario steps path l =
    let are : AreSeatsOf scenario.parts path.end.parts = seats_led scenario path.picks path.end l.led in
    same_numbers _ _ _ _ _ _ _ _ _ _ _
    (breaks_in scenario.parts path.end.parts are) (gone_in_all scenario.parts path.end.parts are)
    (level_counted scenario steps path l) (failures_in_all scenario.parts path.end.parts are) (lost_in_all path.end.parts)
