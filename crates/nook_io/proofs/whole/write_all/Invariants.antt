use Rattle.std.proofs.Common.{◌≡◌, ◌≤◌, ◌-◌, length, take}
use Rattle.std.specs.Io.KnownBytes.{Appends}
use Rattle.nook_io.proofs.whole.write_all.Given as goal

abbrev pub invariant-writes : goal.invariant-writes
invariant-writes g l = record {
  gained : Appends (g.K.Sink.held l.initial.sink) (g.K.Sink.held l.sink) (take l.at l.text);
  within : l.at ≤ length l.text;
  faults : g.K.Sink.count l.sink ≡ g.K.Sink.count l.initial.sink;
}

abbrev pub decreases-writes : goal.decreases-writes
decreases-writes g l = length l.text - l.at
