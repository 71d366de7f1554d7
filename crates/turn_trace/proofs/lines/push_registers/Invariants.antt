use Rattle.std.proofs.Common.{◌≡◌, ◌++◌, drop}
use Rattle.turn_trace.specs.Lines.{register_notes}
use Rattle.turn_trace.proofs.lines.push_registers.Given as goal

abbrev pub invariant-loop-number : goal.invariant-loop-number
invariant-loop-number l =
    l.line ++ register_notes l.number (drop l.number l.registers) ≡ l.initial.line ++ register_notes 0 l.registers
