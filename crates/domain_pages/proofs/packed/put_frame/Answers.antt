use Rattle.domain_pages.proofs.Packs.{frame_put}
use Rattle.domain_pages.proofs.packed.put_frame.Goals as goal

pub returns-clause-inside : goal.returns-clause-inside
returns-clause-inside c k low high =
    (frame_put _ _ _ c.args.page k c.requires.frames c.requires.page c.requires.words c.write_all.ensures).0 low high

pub returns-clause-outside : goal.returns-clause-outside
returns-clause-outside c k out =
    (frame_put _ _ _ c.args.page k c.requires.frames c.requires.page c.requires.words c.write_all.ensures).1 out
