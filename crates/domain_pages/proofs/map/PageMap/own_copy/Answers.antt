use Rattle.std.proofs.Common.{false, sym}
use Rattle.std.proofs.lemmas.List.{get_or-take}
use Rattle.domain_pages.proofs.map.PageMap.own_copy.Goals as goal

pub returns : goal.returns
returns c = rw (← c.self.view_is) (sym (get_or-take 115 c.self.inside.table c.args.page false c.requires))
