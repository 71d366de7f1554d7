use Rattle.std.proofs.Common.{◌≡◌, ◌-◌, false, sym, ◌∙◌, arith}
use Rattle.driver_isa.specs.Entries.{is_done}
use Rattle.driver_isa.specs.Steps.{cpu_of}
use Rattle.driver_isa.specs.Turns.{machine_of}
use Rattle.driver_isa.proofs.Bursts.{entry_goes_on}
use Rattle.driver_isa.proofs.Entries.{entry_fits, entry_turn}
use Rattle.machine_defs.specs.Execution.{Machine}
use Rattle.driver_isa.proofs.burst.run_entries.Goals as goal

pub finish-requires-clause-fields : goal.finish-requires-clause-fields
finish-requires-clause-fields g c =
    (entry_fits _ (g.B.Bus.words c.loop-left.bus) c.run_computed-halt.result.at c.run_computed-halt.ensures.entry).registers

pub loop-left-preserved : goal.loop-left-preserved
loop-left-preserved g c =
    let halt = c.run_computed-halt.result in
    let left : is_done halt.rest ≡ false = sym c.is_done.ensures ∙ c.if-is_done.false in
    let m : Machine = machine_of (cpu_of halt.at c.run_computed-halt.new.registers) (g.B.Bus.words c.loop-left.bus) (g.B.Bus.device c.loop-left.bus) in
    let m' : Machine = machine_of (cpu_of c.in-Some.next c.finish.new.registers) (g.B.Bus.words c.finish.new.bus) (g.B.Bus.device c.finish.new.bus) in
    let done = c.in-Some.ensures.done in
    let low = (entry_turn (g.B.Bus.entries c.loop-left.bus) m m' _ _ _ c.run_computed-halt.ensures.entry done).inside in
    record {
      went = λ pending quiet. entry_goes_on c.args.stop halt.left _ _ pending m m' _ _ _ _
          (c.run_computed-halt.ensures.some left) (omega arith) c.requires.within
          (quiet (c.args.stop - halt.left) (omega arith) (omega (arith, c.run_computed-halt.ensures.some left))) c.run_computed-halt.ensures.entry done c.finish.ensures.room c.finish.ensures.entries
          (c.run_computed-halt.ensures.went c.args.stop pending _ (omega arith) c.requires.within c.loop-left.invariant.room (λ k from below. quiet k (omega arith) below)
          ∙ c.loop-left.invariant.went pending quiet);
      room = c.finish.ensures.room;
      left = omega arith;
      inside = c.in-Some.ensures.inside low;
      entries = c.finish.ensures.entries ∙ c.loop-left.invariant.entries;
      held = c.finish.ensures.held ∙ c.loop-left.invariant.held;
    }

-- what the entries before the halt left
pub returns-then-is_done-clause-went : goal.returns-then-is_done-clause-went
returns-then-is_done-clause-went g c pending quiet =
    c.run_computed-halt.ensures.went c.args.stop pending _ (omega arith) c.requires.within c.loop-left.invariant.room (λ k from below. quiet k (omega arith) below)
    ∙ c.loop-left.invariant.went pending quiet
