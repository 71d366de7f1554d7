use Rattle.std.proofs.Common.{get_or, sym, ap, ◌∙◌}
use Rattle.driver_isa.proofs.Entries.{entry_in, instr_in, same_registers, word_read}
use Rattle.machine_defs.specs.Machine.{decode_of}
use Rattle.driver_isa.proofs.turn.entry_at.Goals as goal

pub returns-in-Some-clause-decoded : goal.returns-in-Some-clause-decoded
returns-in-Some-clause-decoded g c =
    instr_in (get_or (g.B.Bus.words c.args.bus.now) c.args.address 0) _ c.in-Some.field-0 (entry_in _ _ c.args.address _ c.text.ensures c.requires)
    (sym c.instr_of.ensures ∙ c.in-Some.is)

pub returns-in-Some-clause-registers : goal.returns-in-Some-clause-registers
returns-in-Some-clause-registers g c =
    same_registers (get_or (g.B.Bus.words c.args.bus.now) c.args.address 0) _ (returns-in-Some-clause-decoded g c)

pub returns-in-None-clause-decoded : goal.returns-in-None-clause-decoded
returns-in-None-clause-decoded g c =
    c.decoded_of.ensures ∙ ap decode_of (rw c.read.ensures at c.unwrap_or.ensures ∙ word_read _ _ c.requires)

pub returns-in-None-clause-registers : goal.returns-in-None-clause-registers
returns-in-None-clause-registers g c =
    same_registers (get_or (g.B.Bus.words c.args.bus.now) c.args.address 0) _ (returns-in-None-clause-decoded g c)
