use Rattle.std.proofs.Common.{◌≡◌, drop}
use Rattle.serde_json.specs.Data.{no_members}
use Rattle.serde_json.specs.View.{members_view}
use Rattle.asm_defs.specs.ImageText.{entry_members}
use Rattle.driver_asm.proofs.json.entries_at.Given as goal

abbrev pub invariant-loop-entry : goal.invariant-loop-entry
invariant-loop-entry l =
    entry_members (drop l.entry-index l.entries) l.rest (members_view l.made.entries)
    ≡ entry_members l.entries l.addresses no_members
