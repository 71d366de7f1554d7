use Rattle.std.proofs.Common.{◌≡◌, ◌+◌, ◌++◌, drop}
use Rattle.report_defs.specs.Views.Reporting.{object_line}
use Rattle.report_text.specs.Writing.{each_text}
use Rattle.report_text.proofs.whole_text.push_objects.Given as goal

abbrev pub invariant-loop-words : goal.invariant-loop-words
invariant-loop-words l = record {
  counted : l.object ≡ 1 + l.words-index;
  text : l.line ++ each_text object_line l.object (drop l.words-index l.objects) ≡ l.initial.line ++ each_text object_line 1 l.objects;
}
