use Rattle.std.specs.Prelude.{ℕ, Option, Some, None, List, [], ◌∷◌}
use Rattle.nook_data.specs.declared.calls.Answer.{Answer}
use Rattle.shadow_proxy.specs.declared.decision.Proxy.{Proxy}
use Rattle.shadow_proxy.specs.declared.decision.Proxy.TheVariants as proxy

-- the answer, if it is one
abbrev pub answer_of : Proxy → Option Answer
answer_of (proxy.Answer a) = Some a
answer_of proxy.Hold = None

-- a queue whose first frame is this, or the empty one
abbrev pub queue_of : Option (List ℕ) → List (List ℕ)
queue_of None = []
queue_of (Some frame) = frame ∷ []
