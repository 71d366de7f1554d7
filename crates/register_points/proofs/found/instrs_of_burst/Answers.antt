use Rattle.std.proofs.Common.{◌≡◌, ◌∙◌, false, length, refl, sym, ap, Some, slice_get}
use Rattle.std.proofs.lemmas.Option.{slice_get_read}
use Rattle.register_points.proofs.FoundBursts.{found_if_ok}
use Rattle.register_points.proofs.found.instrs_of_burst.Goals as goal
use Rattle.register_points.specs.Found.{has_faults}

pub returns-in-Some-2 : goal.returns-in-Some-2
returns-in-Some-2 c =
    let there : slice_get c.args.scenario.now.parts c.args.index ≡ Some c.in-Some.spec.now =
    ap (λ specs. slice_get specs c.args.index) (sym c.as_slice.ensures)
    ∙ slice_get_read c.as_slice.result.now (length c.as_slice.result.now) c.args.index c.in-Some.spec.now refl c.in-Some.ensures.lookup.3.0
    c.in-Some.ensures.lookup.1 in
    let none : has_faults c.args.burst c.in-Some.spec.now.faults ≡ false =
    ap (has_faults c.args.burst) (sym c.as_slice-2.ensures) ∙ sym c.has_faults.ensures ∙ c.if-has_faults.false in
    found_if_ok c.instrs_shown.result c.args.scenario.now c.args.index c.args.burst c.in-Some.spec.now c.in-Some-2.found c.in_ok-found.field-0
    there none c.in_ok-found.ensures c.in-Some-2.is c.instrs_shown.ensures
