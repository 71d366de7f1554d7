use Rattle.std.proofs.Common.{◌∙◌, inl, sym}
use Rattle.nooks.proofs.Mirrors.{mirror_answers, not_served}
use Rattle.nooks.proofs.Written.{kept_reported}
use Rattle.nooks.proofs.mirroring.serve.Goals as goal

pub returns-then-not-is_mirror-clause-ends : goal.returns-then-not-is_mirror-clause-ends
returns-then-not-is_mirror-clause-ends g c bytes reading =
    not_served bytes c.args.scenario.now _ _ c.finish.result reading (sym c.is_mirror.ensures ∙ c.if-not-is_mirror.true) c.finish.ensures.ends

pub returns-in-Ok-clause-ends : goal.returns-in-Ok-clause-ends
returns-in-Ok-clause-ends g c bytes reading =
    mirror_answers bytes c.args.scenario.now _ _ c.serve_and_report.result reading (sym c.is_mirror.ensures ∙ c.if-not-is_mirror.false)
    (c.serve_and_report.ensures.ends _ c.in-Ok.ensures)

pub returns-in-Err-clause-ends : goal.returns-in-Err-clause-ends
returns-in-Err-clause-ends g c bytes reading = inl (kept_reported _)
