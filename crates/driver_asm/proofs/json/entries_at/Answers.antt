use Rattle.std.proofs.Common.{drop}
use Rattle.serde_json.specs.View.{members_view}
use Rattle.driver_asm.proofs.EntryLines.{none_more}
use Rattle.driver_asm.proofs.json.entries_at.Goals as goal

pub returns-in-None : goal.returns-in-None
returns-in-None c =
    let none = none_more (drop c.loop-entry.entry-index c.args.entries.now) c.loop-entry.rest.now (members_view c.loop-entry.made.entries) c.in-None.ensures.cases in
    rw none at c.loop-entry.invariant
