use Rattle.std.proofs.Common.{drop, append-nil}
use Rattle.driver_asm.proofs.EntryLines.{no_numbers}
use Rattle.driver_asm.proofs.texts.push_entries.Goals as goal

pub returns-in-None : goal.returns-in-None
returns-in-None c =
    let none = no_numbers (drop c.loop-entry.entry-index c.args.entries.now) c.loop-entry.rest.now c.in-None.ensures.cases in
    rw (none, append-nil) at c.loop-entry.invariant
