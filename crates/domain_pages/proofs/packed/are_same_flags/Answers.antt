use Rattle.std.proofs.lemmas.Slice.Eq.{slice_eq-Decides}
use Rattle.std.specs.Cmp.{booleans_Decides}
use Rattle.domain_pages.proofs.packed.are_same_flags.Goals as goal

pub returns : goal.returns
returns g c = slice_eq-Decides booleans_Decides _ _ _ c.eq.ensures
