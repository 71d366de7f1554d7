use Rattle.std.proofs.Common.{◌≡◌, ◌∙◌, IfOk, ap, subst}
use Rattle.part_laws.proofs.DeviceStays.{opening_spec}
use Rattle.nook_data.specs.declared.scenario.PartSpec.{PartSpec}
use Rattle.part_defs.specs.Runs.{PartRun}
use Rattle.part_server.specs.Desk.{desk_spec}
use Rattle.threaded_run.proofs.opening.open_desk.Goals as goal

pub returns-clause-spec : goal.returns-clause-spec
returns-clause-spec c =
    let same : c.in_ok-part.part.state.spec ≡ c.args.spec.now =
    ap (λ (p : PartRun). p.state.spec) c.in_ok-part.ensures ∙ opening_spec c.in_ok-copy.field-0 ∙ c.in_ok-copy.ensures in
    subst (λ (x : PartSpec). IfOk c.new-2.result (λ made. desk_spec made.0 ≡ x)) same c.new-2.ensures.spec
