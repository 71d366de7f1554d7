use Rattle.std.proofs.Common.{◌∙◌, refl, arith}
use Rattle.std.proofs.lemmas.Result.{err_from_is_err_and}
use Rattle.turn_trace.proofs.Going.{begins_whole, crosses_here, goes_on_here, hangs_here, is_position, is_reported, pauses_here, progress_done, still_cut, stops_here, strikes_cut, turn_cut, turns_here, untaken_here}
use Rattle.turn_trace.proofs.tracing.trace_burst.Goals as goal

pub loop-point-init : goal.loop-point-init
loop-point-init g c = record { remains = begins_whole _ _ _ _; few = omega arith; same = refl }

pub returns-in_err-struck-clause-written : goal.returns-in_err-struck-clause-written
returns-in_err-struck-clause-written g c =
    let q = err_from_is_err_and c.from_residual.result c.from_residual.ensures.1 in
    rw (q.1, q.2)
    (still_cut (strikes_cut (is_position _ c.loop-point-test.true c.loop-point.invariant.remains c.loop-point.invariant.same)
    c.in_err-struck.ensures.written))

pub returns-in_err-turned-clause-written : goal.returns-in_err-turned-clause-written
returns-in_err-turned-clause-written g c =
    let q = err_from_is_err_and c.from_residual-in_err-turned.result c.from_residual-in_err-turned.ensures.1 in
    rw (q.1, q.2)
    (untaken_here (is_position _ c.loop-point-test.true c.loop-point.invariant.remains c.loop-point.invariant.same)
    c.in_ok-struck.ensures.struck c.in_ok-struck.ensures.written (λ e. cc))

pub returns-in_err-write_turn-clause-written : goal.returns-in_err-write_turn-clause-written
returns-in_err-write_turn-clause-written g c =
    let q = err_from_is_err_and c.from_residual-in_err-write_turn.result c.from_residual-in_err-write_turn.ensures.1 in
    rw (q.1, q.2)
    (still_cut (turn_cut (is_position _ c.loop-point-test.true c.loop-point.invariant.remains c.loop-point.invariant.same)
    c.in_ok-struck.ensures.struck c.in_ok-struck.ensures.written (grind arith) c.strike_due.ensures.entries
    (is_reported _ _ _ _ _ _ c.in_ok-turned.ensures.recorded c.in_ok-turned.ensures.machine c.in_ok-turned.ensures.crossing) c.in_err-write_turn.ensures))

pub returns-then-is_some-clause-written : goal.returns-then-is_some-clause-written
returns-then-is_some-clause-written g c =
    progress_done _ (stops_here (is_position _ c.loop-point-test.true c.loop-point.invariant.remains c.loop-point.invariant.same)
    c.in_ok-struck.ensures.struck c.in_ok-struck.ensures.written (grind arith)).progress

pub returns-then-is_some-clause-unstruck : goal.returns-then-is_some-clause-unstruck
returns-then-is_some-clause-unstruck g c =
    (stops_here (is_position _ c.loop-point-test.true c.loop-point.invariant.remains c.loop-point.invariant.same)
    c.in_ok-struck.ensures.struck c.in_ok-struck.ensures.written (grind arith)).unstruck

pub returns-then-is_some-clause-left : goal.returns-then-is_some-clause-left
returns-then-is_some-clause-left g c =
    (stops_here (is_position _ c.loop-point-test.true c.loop-point.invariant.remains c.loop-point.invariant.same)
    c.in_ok-struck.ensures.struck c.in_ok-struck.ensures.written (grind arith)).left

pub returns-then-is_some-2-clause-written : goal.returns-then-is_some-2-clause-written
returns-then-is_some-2-clause-written g c =
    progress_done _ (crosses_here c.in_ok-turned.turned.end (turns_here (is_position _ c.loop-point-test.true c.loop-point.invariant.remains c.loop-point.invariant.same)
    c.in_ok-struck.ensures.struck c.in_ok-struck.ensures.written (grind arith) c.strike_due.ensures.entries
    (is_reported _ _ _ _ _ _ c.in_ok-turned.ensures.recorded c.in_ok-turned.ensures.machine c.in_ok-turned.ensures.crossing) c.in_ok-write_turn.ensures) (grind arith)).progress

pub returns-then-is_some-2-clause-unstruck : goal.returns-then-is_some-2-clause-unstruck
returns-then-is_some-2-clause-unstruck g c =
    (crosses_here c.in_ok-turned.turned.end (turns_here (is_position _ c.loop-point-test.true c.loop-point.invariant.remains c.loop-point.invariant.same)
    c.in_ok-struck.ensures.struck c.in_ok-struck.ensures.written (grind arith) c.strike_due.ensures.entries
    (is_reported _ _ _ _ _ _ c.in_ok-turned.ensures.recorded c.in_ok-turned.ensures.machine c.in_ok-turned.ensures.crossing) c.in_ok-write_turn.ensures) (grind arith)).unstruck

pub returns-then-is_some-2-clause-left : goal.returns-then-is_some-2-clause-left
returns-then-is_some-2-clause-left g c =
    (crosses_here c.in_ok-turned.turned.end (turns_here (is_position _ c.loop-point-test.true c.loop-point.invariant.remains c.loop-point.invariant.same)
    c.in_ok-struck.ensures.struck c.in_ok-struck.ensures.written (grind arith) c.strike_due.ensures.entries
    (is_reported _ _ _ _ _ _ c.in_ok-turned.ensures.recorded c.in_ok-turned.ensures.machine c.in_ok-turned.ensures.crossing) c.in_ok-write_turn.ensures) (grind arith)).left

pub returns-then-acts-ge-MOST_ACTS-clause-written : goal.returns-then-acts-ge-MOST_ACTS-clause-written
returns-then-acts-ge-MOST_ACTS-clause-written g c =
    progress_done _ (pauses_here c.in_ok-turned.turned.end c.len-acts.result (turns_here (is_position _ c.loop-point-test.true c.loop-point.invariant.remains c.loop-point.invariant.same)
    c.in_ok-struck.ensures.struck c.in_ok-struck.ensures.written (grind arith) c.strike_due.ensures.entries
    (is_reported _ _ _ _ _ _ c.in_ok-turned.ensures.recorded c.in_ok-turned.ensures.machine c.in_ok-turned.ensures.crossing) c.in_ok-write_turn.ensures) (grind arith) c.len-acts.ensures (grind arith)).progress

pub returns-then-acts-ge-MOST_ACTS-clause-unstruck : goal.returns-then-acts-ge-MOST_ACTS-clause-unstruck
returns-then-acts-ge-MOST_ACTS-clause-unstruck g c =
    (pauses_here c.in_ok-turned.turned.end c.len-acts.result (turns_here (is_position _ c.loop-point-test.true c.loop-point.invariant.remains c.loop-point.invariant.same)
    c.in_ok-struck.ensures.struck c.in_ok-struck.ensures.written (grind arith) c.strike_due.ensures.entries
    (is_reported _ _ _ _ _ _ c.in_ok-turned.ensures.recorded c.in_ok-turned.ensures.machine c.in_ok-turned.ensures.crossing) c.in_ok-write_turn.ensures) (grind arith) c.len-acts.ensures (grind arith)).unstruck

pub returns-then-acts-ge-MOST_ACTS-clause-left : goal.returns-then-acts-ge-MOST_ACTS-clause-left
returns-then-acts-ge-MOST_ACTS-clause-left g c =
    (pauses_here c.in_ok-turned.turned.end c.len-acts.result (turns_here (is_position _ c.loop-point-test.true c.loop-point.invariant.remains c.loop-point.invariant.same)
    c.in_ok-struck.ensures.struck c.in_ok-struck.ensures.written (grind arith) c.strike_due.ensures.entries
    (is_reported _ _ _ _ _ _ c.in_ok-turned.ensures.recorded c.in_ok-turned.ensures.machine c.in_ok-turned.ensures.crossing) c.in_ok-write_turn.ensures) (grind arith) c.len-acts.ensures (grind arith)).left

pub loop-point-preserved : goal.loop-point-preserved
loop-point-preserved g c = record {
  remains = goes_on_here c.in_ok-turned.turned.end c.len-acts.result (turns_here (is_position _ c.loop-point-test.true c.loop-point.invariant.remains c.loop-point.invariant.same)
      c.in_ok-struck.ensures.struck c.in_ok-struck.ensures.written (grind arith) c.strike_due.ensures.entries
      (is_reported _ _ _ _ _ _ c.in_ok-turned.ensures.recorded c.in_ok-turned.ensures.machine c.in_ok-turned.ensures.crossing) c.in_ok-write_turn.ensures) (grind arith) c.len-acts.ensures (grind arith);
  few = omega arith;
  same = c.take_turn.ensures.entries ∙ c.strike_due.ensures.entries ∙ c.loop-point.invariant.same;
}

pub returns-clause-written : goal.returns-clause-written
returns-clause-written g c =
    progress_done _ (hangs_here _ _ _ _ c.loop-point-test.false c.loop-point.invariant.remains).progress

pub returns-clause-unstruck : goal.returns-clause-unstruck
returns-clause-unstruck g c =
    (hangs_here _ _ _ _ c.loop-point-test.false c.loop-point.invariant.remains).unstruck

pub returns-clause-left : goal.returns-clause-left
returns-clause-left g c =
    (hangs_here _ _ _ _ c.loop-point-test.false c.loop-point.invariant.remains).left
