use Rattle.std.specs.Prelude.{ℕ, ◌≡◌, List, [], ◌∷◌}
use Rattle.claim_index.specs.declared.claim.Claim.{Claim}
use Rattle.claim_index.specs.Claims.{claims_of, without_call}
use Rattle.nook_data.specs.declared.calls.Answer.{Answer}
use Rattle.part_defs.specs.Views.CallLogs.{IsNumbered}
use Rattle.part_defs.specs.State.{CallLog}

-- the claims are those of the open calls, whose numbers rise
pub record AreClaimed (claims : List Claim) (log : CallLog) : Type 0 where
  pub claims_are : claims ≡ claims_of log.pending
  pub numbered : IsNumbered 0 log.count log.pending

-- the claims of calls that are answered end
abbrev pub without_answered : List (ℕ × Answer) → List Claim → List Claim
without_answered [] claims = claims
without_answered (pair ∷ answers) claims = without_answered answers (without_call pair.0 claims)
