use Rattle.request_taps.proofs.Taps.{made_of}
use Rattle.request_taps.proofs.bus.TapBus.new.Goals as goal

pub returns : goal.returns
returns g c = made_of c.of.result _ _ _ _ c.args.listeners.items c.in_ok-all_held.ensures c.of.ensures
