use Rattle.std.proofs.Common.{◌∙◌, rules, tests}
use Rattle.std.proofs.lemmas.Iterator.{YieldsList-from_slice}
use Rattle.std.proofs.lemmas.Iterator.Search.{all_from_yields_List}
use Rattle.run_laws.specs.Audit.{is_through}
use Rattle.journal_audit.specs.Sections.{OnPart}
use Rattle.journal_audit.proofs.Hearing.{all_through}
use Rattle.journal_audit.proofs.section.are_through.Goals as goal

pub returns : goal.returns
returns c =
    let threads = c.args.threads.now in
    all_from_yields_List (λ (t : OnPart). is_through t.state) _ _ _ c.all.ensures.ran (YieldsList-from_slice threads cc) (λ x b q k. search (rules, tests))
    ∙ all_through threads
