use Rattle.domain_pages.proofs.Own.{own_of_all}
use Rattle.domain_pages.proofs.Shown.{shown_put_all}
use Rattle.domain_pages.proofs.frames.put_in_frames.Goals as goal

pub returns-clause-words : goal.returns-clause-words
returns-clause-words c =
    rw c.write_all.ensures
    (shown_put_all _ _ _ _ _ _ _ _ _ c.requires.within c.own_all.ensures.size c.requires.fits c.own_all.ensures.table c.own_all.ensures.same)

pub returns-clause-own : goal.returns-clause-own
returns-clause-own c = own_of_all _ _ _ _ c.own_all.array_long c.own_all.ensures.table
