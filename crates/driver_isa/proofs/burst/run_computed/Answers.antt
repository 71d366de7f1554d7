use Rattle.std.proofs.Common.{◌≡◌, ◌-◌, [], None, true, refl, sym, ◌∙◌, arith}
use Rattle.driver_isa.specs.Entries.{is_done}
use Rattle.driver_isa.specs.Steps.{cpu_of}
use Rattle.driver_isa.specs.Turns.{machine_of}
use Rattle.driver_isa.proofs.Bursts.{entry_goes_on}
use Rattle.driver_isa.proofs.Entries.{entry_at, entry_fits, entry_turn}
use Rattle.driver_isa.proofs.Turns.{quiet_turn}
use Rattle.machine_defs.specs.Execution.{Machine}
use Rattle.driver_isa.proofs.burst.run_computed.Goals as goal

pub compute-computed-requires-clause-fields : goal.compute-computed-requires-clause-fields
compute-computed-requires-clause-fields g c =
    (entry_fits _ (g.B.Bus.words c.args.bus.now) c.loop-left.at (entry_at _ _ _ _ c.text-text.ensures c.loop-left.invariant.inside)).registers

pub loop-left-preserved : goal.loop-left-preserved
loop-left-preserved g c =
    let is = entry_at _ (g.B.Bus.words c.args.bus.now) c.loop-left.at _ c.text-text.ensures c.loop-left.invariant.inside in
    let fits = entry_fits _ (g.B.Bus.words c.args.bus.now) c.loop-left.at is in
    let done : is_done c.compute-computed.result.rest ≡ true = sym c.is_done.ensures ∙ c.if-not-is_done.false in
    let m : Machine = machine_of (cpu_of c.loop-left.at c.loop-left.registers) (g.B.Bus.words c.args.bus.now) (g.B.Bus.device c.args.bus.now) in
    let m' : Machine =
    machine_of (cpu_of c.compute-computed.result.at c.compute-computed.new.registers) (g.B.Bus.words c.args.bus.now) (g.B.Bus.device c.args.bus.now) in
    let low = (entry_turn (g.B.Bus.entries c.args.bus.now) m m' _ [] [] is (quiet_turn _ m' [] None (c.compute-computed.ensures.going done))).inside in
    record {
      went = λ stop pending acts within most few quiet. entry_goes_on stop c.loop-left.left _ _ pending m m' _ acts acts _
          c.loop-left-test.true (omega arith) most (quiet (stop - c.loop-left.left) (omega arith) (omega arith)) is
          (quiet_turn _ m' acts None (c.compute-computed.ensures.going done)) few refl (c.loop-left.invariant.went stop pending acts within most few quiet);
      left = omega arith;
      inside = c.compute-computed.ensures.inside fits.stays done low;
    }
