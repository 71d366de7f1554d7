use Rattle.std.proofs.Common.{◌≡◌, Option, None, arith, ◌∙◌, sym}
use Rattle.std.proofs.lemmas.Result.{err_from_is_err_and}
use Rattle.machine_defs.specs.Burst.{trap_of}
use Rattle.turn_trace.proofs.Going.{none_of, still_cut, strike_cut, strikes_more, strikes_on}
use Rattle.turn_trace.proofs.tracing.strike_due.Goals as goal

pub returns-in_err-write_strike-clause-written : goal.returns-in_err-write_strike-clause-written
returns-in_err-write_strike-clause-written g c =
    let q = err_from_is_err_and c.from_residual.result c.from_residual.ensures.1 in
    rw (q.1, q.2)
    (still_cut (strike_cut c.args.point (g.B.Bus.entries c.args.bus.now) c.in-Some.fault.now c.in-Some.more.now c.strike-hit.result.refused
    (rw (c.in-Some.ensures.cases.0) at c.loop-fault.invariant.progress) (omega arith)
    (rw (c.loop-fault.invariant.entries) at c.strike-hit.ensures.refused) c.in_err-write_strike.ensures))

pub loop-fault-preserved : goal.loop-fault-preserved
loop-fault-preserved g c =
    let none : trap_of c.in-Some.fault.now.kind ≡ None = sym c.strike-hit.ensures.trap ∙ none_of c.strike-hit.result.stopped (grind arith) in
    record {
      struck = strikes_on c.args.point _ _ c.in-Some.fault.now c.in-Some.more.now c.loop-fault.rest.now _ _ c.in-Some.ensures.cases.0 (omega arith) none
          c.strike-hit.ensures.entries c.strike-hit.ensures.struck ∙ c.loop-fault.invariant.struck;
      progress = strikes_more c.args.point (g.B.Bus.entries c.args.bus.now) c.in-Some.fault.now c.in-Some.more.now c.strike-hit.result.refused
          (rw (c.in-Some.ensures.cases.0) at c.loop-fault.invariant.progress) (omega arith) none
          (rw (c.loop-fault.invariant.entries) at c.strike-hit.ensures.refused) c.in_ok-write_strike.ensures;
      entries = c.strike-hit.ensures.entries ∙ c.loop-fault.invariant.entries;
      held = c.strike-hit.ensures.held ∙ c.loop-fault.invariant.held;
    }
