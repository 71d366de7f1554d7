use Rattle.std.proofs.Common.{◌<◌, ◌+◌, length, map, refl, ◌∙◌, arith}
use Rattle.promise_defs.specs.Contract.{leave_call}
use Rattle.contract_monitor.specs.Calls.{open_of, effects_of}
use Rattle.contract_monitor.proofs.Changes.{all_changed, changed_more, length_seen, same_at, within_to}
use Rattle.contract_monitor.proofs.calls.leave_calls.Goals as goal

pub loop-i-preserved : goal.loop-i-preserved
loop-i-preserved c =
    let within : c.loop-i.i < length c.loop-i.calls.items =
    within_to open_of leave_call c.loop-i.i c.len-i-end.result c.loop-i.calls.items c.args.calls.now.items c.loop-i.invariant.opened
    c.loop-i-test.true (omega (arith, c.len-i-end.ensures, c.args.calls.now.ok.0)) in
    record {
      opened = changed_more open_of leave_call c.loop-i.i (c.loop-i.i + 1) c.loop-i.calls.items _ c.index_mut.result.now c.leave_one.new.call refl
          within c.loop-i.invariant.opened c.index_mut.ensures.value c.leave_one.ensures.opened;
      tallied = same_at effects_of c.loop-i.i c.loop-i.calls.items c.index_mut.result.now c.leave_one.new.call c.index_mut.ensures.value
          c.leave_one.ensures.tallied ∙ c.loop-i.invariant.tallied;
    }

pub returns-clause-opened : goal.returns-clause-opened
returns-clause-opened c =
    c.loop-i.invariant.opened
    ∙ all_changed leave_call c.loop-i.i (map open_of c.args.calls.now.items)
    (length_seen open_of c.loop-i.i c.len-i-end.result c.args.calls.now.items c.loop-i-test.false
    (omega (arith, c.len-i-end.ensures, c.args.calls.now.ok.0)))
