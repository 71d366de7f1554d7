use Rattle.request_taps.specs.Bus.{seen, detached}
use Rattle.request_taps.specs.declared.tap.Tap.TheVariants as tap
use Rattle.request_taps.proofs.Taps.{view_set}
use Rattle.request_taps.proofs.bus.Bus.detach.Goals as goal

pub returns-clause-taps : goal.returns-clause-taps
returns-clause-taps g c =
    rw (← c.self.view_is)
    (view_set (seen g.L.Listener.listening) detached c.self.inside.taps.items c.args.i c.index_mut.result.now c.detach.new.self
    (tap.Dropped 0) (rw (← c.self.view_is) at c.requires) c.index_mut.ensures.value c.detach.ensures.tap)
