use Rattle.std.proofs.Common.{◌≡◌, drop}
use Rattle.std.specs.List.{fold}
use Rattle.contract_monitor.specs.Keeping.{count_answer, with_counts}
use Rattle.contract_monitor.proofs.known.Known.count_answers.Given as goal

abbrev pub invariant-loop-answer : goal.invariant-loop-answer
invariant-loop-answer l =
    with_counts (fold (count_answer l.self.call_effects) l.self.counts (drop l.answer-index l.answers)) l.self
    ≡ with_counts (fold (count_answer l.initial.self.call_effects) l.initial.self.counts l.answers) l.initial.self
