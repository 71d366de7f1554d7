use Rattle.domain_pages.proofs.Packs.{IsUnpackedTo}
use Rattle.domain_pages.proofs.packed.unpack_frames.Given as goal

abbrev pub invariant-loop-page : goal.invariant-loop-page
invariant-loop-page l = IsUnpackedTo l.table l.words l.frames l.rest l.page
