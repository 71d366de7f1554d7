use Rattle.std.proofs.Common.{◌<◌, ◌+◌, length, map, refl, ◌∙◌, arith}
use Rattle.contract_monitor.specs.Calls.{open_of, effects_of}
use Rattle.contract_monitor.proofs.Changes.{changed_more, length_seen, opened_all, tallied_all, within_to}
use Rattle.contract_monitor.proofs.calls.change_calls.Goals as goal

pub loop-i-preserved : goal.loop-i-preserved
loop-i-preserved c =
    let within : c.loop-i.i < length c.loop-i.calls.items =
    within_to open_of _ c.loop-i.i c.len-i-end.result c.loop-i.calls.items c.args.calls.now.items c.loop-i.invariant.opened c.loop-i-test.true
    (omega (arith, c.len-i-end.ensures, c.args.calls.now.ok.0)) in
    record {
      opened = changed_more open_of _ c.loop-i.i (c.loop-i.i + 1) c.loop-i.calls.items _ c.index_mut.result.now c.change_if.new.call refl within
          c.loop-i.invariant.opened c.index_mut.ensures.value c.in_ok-change_if.ensures.opened;
      tallied = changed_more effects_of _ c.loop-i.i (c.loop-i.i + 1) c.loop-i.calls.items _ c.index_mut.result.now c.change_if.new.call refl within
          c.loop-i.invariant.tallied c.index_mut.ensures.value c.in_ok-change_if.ensures.tallied;
    }

pub returns-clause-opened : goal.returns-clause-opened
returns-clause-opened c =
    c.loop-i.invariant.opened
    ∙ opened_all c.args.change c.args.number c.loop-i.i (map open_of c.args.calls.now.items)
    (length_seen open_of c.loop-i.i c.len-i-end.result c.args.calls.now.items c.loop-i-test.false
    (omega (arith, c.len-i-end.ensures, c.args.calls.now.ok.0)))

pub returns-clause-tallied : goal.returns-clause-tallied
returns-clause-tallied c =
    c.loop-i.invariant.tallied
    ∙ tallied_all c.args.change c.args.number c.loop-i.i (map effects_of c.args.calls.now.items)
    (length_seen effects_of c.loop-i.i c.len-i-end.result c.args.calls.now.items c.loop-i-test.false
    (omega (arith, c.len-i-end.ensures, c.args.calls.now.ok.0)))
