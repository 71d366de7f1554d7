use Rattle.std.proofs.Common.{ap}
use Rattle.claim_index.specs.Claims.{end_claimed, first_claimed, is_reading, is_writing, takes_all, takes_frames, takes_stream}
use Rattle.claim_index.proofs.Removals.{blocks_kept, blocks_less, list_kept, list_less}
use Rattle.claim_index.proofs.claimants.Claimants.remove.Goals as goal

pub returns-in-Everything : goal.returns-in-Everything
returns-in-Everything c = λ claims a r f. record {
  everything = list_less takes_all claims c.args.claim.call _ _ a.everything c.remove_number.ensures;
  readers = blocks_kept is_reading claims c.args.claim _ r f (ap is_reading c.in-Everything.is) a.readers;
  writers = blocks_kept is_writing claims c.args.claim _ r f (ap is_writing c.in-Everything.is) a.writers;
  frames = list_kept takes_frames claims c.args.claim _ r f (ap takes_frames c.in-Everything.is) a.frames;
  stream = list_kept takes_stream claims c.args.claim _ r f (ap takes_stream c.in-Everything.is) a.stream;
}

pub returns-in-Reads : goal.returns-in-Reads
returns-in-Reads c = λ claims a r f. record {
  everything = list_kept takes_all claims c.args.claim _ r f (ap takes_all c.in-Reads.is) a.everything;
  readers = blocks_less is_reading claims c.args.claim c.in-Reads.first c.in-Reads.end _ _ r f (ap first_claimed c.in-Reads.is) (ap end_claimed c.in-Reads.is) a.readers c.remove.ensures;
  writers = blocks_kept is_writing claims c.args.claim _ r f (ap is_writing c.in-Reads.is) a.writers;
  frames = list_kept takes_frames claims c.args.claim _ r f (ap takes_frames c.in-Reads.is) a.frames;
  stream = list_kept takes_stream claims c.args.claim _ r f (ap takes_stream c.in-Reads.is) a.stream;
}

pub returns-in-Writes : goal.returns-in-Writes
returns-in-Writes c = λ claims a r f. record {
  everything = list_kept takes_all claims c.args.claim _ r f (ap takes_all c.in-Writes.is) a.everything;
  readers = blocks_kept is_reading claims c.args.claim _ r f (ap is_reading c.in-Writes.is) a.readers;
  writers = blocks_less is_writing claims c.args.claim c.in-Writes.first c.in-Writes.end _ _ r f (ap first_claimed c.in-Writes.is) (ap end_claimed c.in-Writes.is) a.writers c.remove-in-Writes.ensures;
  frames = list_kept takes_frames claims c.args.claim _ r f (ap takes_frames c.in-Writes.is) a.frames;
  stream = list_kept takes_stream claims c.args.claim _ r f (ap takes_stream c.in-Writes.is) a.stream;
}

pub returns-in-Frames : goal.returns-in-Frames
returns-in-Frames c = λ claims a r f. record {
  everything = list_kept takes_all claims c.args.claim _ r f (ap takes_all c.in-Frames.is) a.everything;
  readers = blocks_kept is_reading claims c.args.claim _ r f (ap is_reading c.in-Frames.is) a.readers;
  writers = blocks_kept is_writing claims c.args.claim _ r f (ap is_writing c.in-Frames.is) a.writers;
  frames = list_less takes_frames claims c.args.claim.call _ _ a.frames c.remove_number-in-Frames.ensures;
  stream = list_kept takes_stream claims c.args.claim _ r f (ap takes_stream c.in-Frames.is) a.stream;
}

pub returns-in-Stream : goal.returns-in-Stream
returns-in-Stream c = λ claims a r f. record {
  everything = list_kept takes_all claims c.args.claim _ r f (ap takes_all c.in-Stream.is) a.everything;
  readers = blocks_kept is_reading claims c.args.claim _ r f (ap is_reading c.in-Stream.is) a.readers;
  writers = blocks_kept is_writing claims c.args.claim _ r f (ap is_writing c.in-Stream.is) a.writers;
  frames = list_kept takes_frames claims c.args.claim _ r f (ap takes_frames c.in-Stream.is) a.frames;
  stream = list_less takes_stream claims c.args.claim.call _ _ a.stream c.remove_number-in-Stream.ensures;
}

pub returns-in-Nothing : goal.returns-in-Nothing
returns-in-Nothing c = λ claims a r f. record {
  everything = list_kept takes_all claims c.args.claim _ r f (ap takes_all c.in-Nothing.is) a.everything;
  readers = blocks_kept is_reading claims c.args.claim _ r f (ap is_reading c.in-Nothing.is) a.readers;
  writers = blocks_kept is_writing claims c.args.claim _ r f (ap is_writing c.in-Nothing.is) a.writers;
  frames = list_kept takes_frames claims c.args.claim _ r f (ap takes_frames c.in-Nothing.is) a.frames;
  stream = list_kept takes_stream claims c.args.claim _ r f (ap takes_stream c.in-Nothing.is) a.stream;
}
