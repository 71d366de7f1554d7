use Rattle.std.proofs.Common.{◌≡◌, ◌==◌, ℕ, drop}
use Rattle.std.specs.List.{list_any}
use Rattle.nook_data.specs.declared.calls.Answer.{Answer}
use Rattle.contract_monitor.proofs.calls.is_answered.Given as goal

abbrev pub invariant-loop-answer : goal.invariant-loop-answer
invariant-loop-answer l = list_any (λ (a : ℕ × Answer). a.0 == l.number) l.answers ≡ list_any (λ (a : ℕ × Answer). a.0 == l.number) (drop l.answer-index l.answers)
