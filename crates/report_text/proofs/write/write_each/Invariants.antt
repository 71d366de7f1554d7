use Rattle.std.proofs.Common.{◌≡◌, ◌+◌, ◌++◌, drop}
use Rattle.nook_io.specs.Changes.{change}
use Rattle.report_text.proofs.WroteLemmas.{Progress}
use Rattle.report_text.specs.Writing.{each_text}
use Rattle.report_text.proofs.write.write_each.Given as goal

abbrev pub invariant-loop-item : goal.invariant-loop-item
invariant-loop-item g l = record {
  counted : l.number ≡ l.first + l.item-index;
  progress : Progress (change g.K.Sink.held g.K.Sink.count l.initial.sink l.sink)
      (l.buffer ++ each_text g.T.Lined.text l.number (drop l.item-index l.items)) (each_text g.T.Lined.text l.first l.items);
}
