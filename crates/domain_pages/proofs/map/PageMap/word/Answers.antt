use Rattle.domain_pages.proofs.Shown.{length-shown}
use Rattle.domain_pages.proofs.map.PageMap.word.Goals as goal

pub returns-clause-size : goal.returns-clause-size
returns-clause-size c = rw (← c.self.view_is) (length-shown _ _ _ _)
