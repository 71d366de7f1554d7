use Rattle.std.proofs.Common.{append-nil, drop, map}
use Rattle.asm_defs.specs.Keys.{key_text}
use Rattle.image_list.proofs.Rows.{no_addresses}
use Rattle.image_list.proofs.listing.push_addresses.Goals as goal

pub returns-in-None : goal.returns-in-None
returns-in-None c =
    let none = no_addresses (map key_text (drop c.loop-entry.entry-index c.args.entries.now)) c.loop-entry.rest.now c.in-None.ensures.cases in
    rw (none, append-nil) at c.loop-entry.invariant
