-- The program's own listeners, on a bus.
use Rattle.std.proofs.Common.{◌≡◌, List, map, Result, IfOk, ap, ◌∙◌, subst}
use Rattle.nook_io.specs.Listening.{Listening}
use Rattle.request_taps.proofs.Settled.{settled_all}
use Rattle.request_taps.specs.Bus.{settled}
use Rattle.request_taps.specs.declared.tap.Tap.{Tap}

-- a bus of listeners that hear this much
pub own_settled : {L B E : Type 0} (r : Result B E) (taps : B → List (Tap Listening)) (listening : L → Listening) (listeners : List L) (own : List Listening)
    → map listening listeners ≡ own → IfOk r (λ bus. taps bus ≡ map (λ l. settled (listening l)) listeners)
    → IfOk r (λ bus. taps bus ≡ map settled own)
own_settled r taps listening listeners own e known =
    subst (λ x. IfOk r (λ bus. taps bus ≡ x)) (settled_all listening listeners ∙ ap (map settled) e) known
