use Rattle.std.proofs.Common.{arith}
use Rattle.request_taps.specs.Bus.{seen, after_hearing}
use Rattle.request_taps.proofs.Taps.{view_over_more}
use Rattle.request_taps.proofs.bus.report.Goals as goal

pub loop-tap-preserved : goal.loop-tap-preserved
loop-tap-preserved g c =
    view_over_more (seen g.L.Listener.listening) (after_hearing c.args.part c.args.event.now) c.args.taps.now c.loop-tap.tap-items
    c.loop-tap.tap-index c.tap-item.result c.hear.new.self (omega arith) c.loop-tap.invariant c.hear.ensures
