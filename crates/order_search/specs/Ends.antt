use Rattle.std.specs.Prelude.{◌≡◌, false, All, Contains, List, [], ◌++◌, map}
use Rattle.explore_defs.specs.Orders.{comes_before}
use Rattle.explore_defs.specs.declared.outcome.Outcome.{Outcome}
use Rattle.explore_laws.specs.Held.{DoRise, HasHeldOutcome, Held, choices_in, held_numbers}
use Rattle.explore_laws.specs.Present.{outcome_in}
use Rattle.order_search.specs.declared.ends.FirstEnd.{FirstEnd}

-- The first end of each outcome, and what is stored of it.

-- what is stored of an end
abbrev pub end_from : Held → FirstEnd
end_from h = record { picks = h.picks; numbers = held_numbers h; outcome = outcome_in h.now }

-- one of these ends has the outcome
pub record HasOutcome (ends : List FirstEnd) (outcome : Outcome) : Type 0 where
  pub by : FirstEnd
  pub listed : Contains ends by
  pub same : by.outcome ≡ outcome

-- of the states that were seen and have ended, the first of each outcome
pub record AreFirstEnds (seen firsts : List Held) : Type 0 where
  pub is_seen : All (Contains seen) firsts
  pub ended : All (λ (h : Held). choices_in h.now ≡ []) firsts
  pub least : (first h : Held) → Contains firsts first → Contains seen h → choices_in h.now ≡ []
      → outcome_in h.now ≡ outcome_in first.now → comes_before h.picks first.picks ≡ false
  pub each : (h : Held) → Contains seen h → choices_in h.now ≡ [] → HasHeldOutcome firsts (outcome_in h.now)
  pub rising : DoRise firsts

-- these are what is stored of the first end of each outcome among the states that were seen
pub record CoverEnds (seen : List Held) (ends : List FirstEnd) : Type 0 where
  pub firsts : List Held
  pub same : ends ≡ map end_from firsts
  pub are : AreFirstEnds seen firsts

-- these states are seen too, after all that were seen before
pub record TakesEnds (helds : List Held) (old new : List FirstEnd) : Type 0 where
  pub ends : (seen : List Held) → DoRise (seen ++ helds) → CoverEnds seen old → CoverEnds (seen ++ helds) new
