use Rattle.std.proofs.Common.{ap, ◌∙◌, slice_get}
use Rattle.claim_index.specs.Claims.{HasBlocks, takes_frames, takes_stream}
use Rattle.claim_index.proofs.Firsts.{head_is_first, none_by_block, none_by_frames, none_by_stream, reads_clash, writes_clash}
use Rattle.claim_index.proofs.claimants.Claimants.first_clash.Goals as goal

pub returns-in-Block-Writes : goal.returns-in-Block-Writes
returns-in-Block-Writes c = λ claims a r h. rw (c.in-Block-Writes.is-0, c.in-Block-Writes.is-1)
    (writes_clash c.in-Block-Writes.first c.in-Block-Writes.end claims _ _ _ (rw c.in-Block-Writes.is-1 at c.requires) r h
    (c.first_among-in-Block-Writes.ensures _ claims a.readers r h) (c.first_among-in-Block-Writes-2.ensures _ claims a.writers r h) c.least.ensures)

pub returns-in-Net-Frames : goal.returns-in-Net-Frames
returns-in-Net-Frames c = λ claims a r h. rw (c.in-Net-Frames.is-0, c.in-Net-Frames.is-1)
    (c.first_of.ensures ∙ ap (λ z. slice_get z 0) (c.deref.ensures.value ∙ a.frames) ∙ head_is_first takes_frames claims)

pub returns-in-Sound-Stream : goal.returns-in-Sound-Stream
returns-in-Sound-Stream c = λ claims a r h. rw (c.in-Sound-Stream.is-0, c.in-Sound-Stream.is-1)
    (c.first_of-in-Sound-Stream.ensures ∙ ap (λ z. slice_get z 0) (c.deref-in-Sound-Stream.ensures.value ∙ a.stream) ∙ head_is_first takes_stream claims)

pub returns-in_default : goal.returns-in_default
returns-in_default c = λ claims a r h. rw c.in_default.is-0 (none_by_block c.args.on claims c.in_default.not-Reads-1 c.in_default.not-Writes-1 h)

pub returns-in_default-2 : goal.returns-in_default-2
returns-in_default-2 c = λ claims a r h. rw c.in_default.is-0 (none_by_frames c.args.on claims c.in_default.not-Frames-1 h)

pub returns-in_default-3 : goal.returns-in_default-3
returns-in_default-3 c = λ claims a r h. rw c.in_default.is-0 (none_by_stream c.args.on claims c.in_default.not-Stream-1 h)
