use Rattle.std.proofs.Common.{Some, sym, true≢false}
use Rattle.nooks.specs.Answers.{IsSummary}
use Rattle.command_forms.specs.declared.words.Form.TheVariants as form
use Rattle.nooks.proofs.Written.{unread_ends}
use Rattle.nooks.proofs.answering.run_form.Goals as goal

pub returns-in-Gen-clause-ends : goal.returns-in-Gen-clause-ends
returns-in-Gen-clause-ends g c = rw (c.in-Gen.is) (unread_ends (Some (form.Gen c.in-Gen.number)) _ _ _ c.run_generated.result (IsSummary c.in-Gen.number)
    (λ e. absurd (true≢false (sym e))) (λ text s answer. answer) c.run_generated.ensures.ends)

pub returns-in-GenScenario-clause-ends : goal.returns-in-GenScenario-clause-ends
returns-in-GenScenario-clause-ends g c = rw (c.in-GenScenario.is) (unread_ends (Some (form.GenScenario c.in-GenScenario.number)) _ _ _ c.give_generated.result _
    (λ e. absurd (true≢false (sym e))) (λ text s answer. answer) c.give_generated.ensures.ends)

pub returns-in-Help-clause-ends : goal.returns-in-Help-clause-ends
returns-in-Help-clause-ends g c = rw (c.in-Help.is) (unread_ends (Some form.Help) _ _ _ c.finish.result _
    (λ e. absurd (true≢false (sym e))) (λ text s answer. answer) c.finish.ensures.ends)

pub returns-in-Version-clause-ends : goal.returns-in-Version-clause-ends
returns-in-Version-clause-ends g c = rw (c.in-Version.is) (unread_ends (Some form.Version) _ _ _ c.finish-in-Version.result _
    (λ e. absurd (true≢false (sym e))) (λ text s answer. answer) c.finish-in-Version.ensures.ends)
