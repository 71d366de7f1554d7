use Rattle.std.proofs.Common.{refl, ◌∙◌}
use Rattle.request_taps.specs.Bus.{seen, settled, settled_tap}
use Rattle.request_taps.specs.declared.tap.Tap.TheVariants as tap
use Rattle.request_taps.proofs.Taps.{fused}
use Rattle.request_taps.proofs.bus.Bus.of.Goals as goal

pub returns : goal.returns
returns g c =
    c.settle.ensures
    ∙ rw c.in_ok-all_present.ensures (fused tap.Present (seen g.L.Listener.listening) settled_tap (λ l. settled (g.L.Listener.listening l)) (λ a. refl) c.args.listeners.items)
