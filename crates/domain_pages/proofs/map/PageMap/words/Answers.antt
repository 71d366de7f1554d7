use Rattle.std.proofs.Common.{◌∙◌, ◌+◌}
use Rattle.domain_pages.proofs.Shown.{range_framed}
use Rattle.domain_pages.proofs.map.PageMap.words.Goals as goal

pub returns-then-are_framed-clause-words : goal.returns-then-are_framed-clause-words
returns-then-are_framed-clause-words c =
    let p = c.self.inside in
    let shown = range_framed p.table p.frames.items p.text.items p.initial c.args.start (c.args.start + c.args.count) c.requires.within c.self.invariant.0.frames_all (c.are_framed.ensures c.if-are_framed.true) in
    rw (← c.self.view_is) ((rw c.deref.ensures.value at c.words_of_frames.ensures.words) ∙ shown)
