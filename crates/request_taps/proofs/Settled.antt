-- Listeners on a bus: none is above its limit.
use Rattle.std.proofs.Common.{◌≡◌, List, [], ◌∷◌, map, refl, ap}
use Rattle.nook_io.specs.Listening.{Listening}
use Rattle.request_taps.specs.Bus.{settled}

-- settled listeners, one by one or all at once
pub settled_all : {A : Type 0} → (listening : A → Listening) (listeners : List A)
    → map (λ l. settled (listening l)) listeners ≡ map settled (map listening listeners)
settled_all listening [] = refl
settled_all listening (l ∷ listeners) = ap (λ taps. settled (listening l) ∷ taps) (settled_all listening listeners)
