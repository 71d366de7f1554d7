use Rattle.std.proofs.Common.{◌≡◌, drop}
use Rattle.nook_data.specs.Names.{is_among}
use Rattle.nook_data.specs.Valid.{thread_names}
use Rattle.scenario_read.proofs.names.has_thread.Given as goal

abbrev pub invariant-loop-thread : goal.invariant-loop-thread
invariant-loop-thread l = is_among (thread_names l.threads) l.name ≡ is_among (thread_names (drop l.thread-index l.threads)) l.name
