use Rattle.std.proofs.Common.{◌≡◌, not, if◌then◌else◌, is_some, Bool, true, false, Some, None, refl, ap}
use Rattle.std.proofs.lemmas.Bool.{and_from}
use Rattle.nook_data.specs.declared.steps.Mode.{Mode}
use Rattle.nook_data.specs.declared.steps.Mode.TheVariants as mode
use Rattle.nook_data.specs.declared.steps.Step.TheVariants as step
use Rattle.part_defs.specs.Runs.{next_recovery}
use Rattle.part_defs.specs.Stages.{stage_due}
use Rattle.part_defs.specs.State.{PartState}
use Rattle.part_defs.specs.Steps.{enabled, is_driven}
use Rattle.part_laws.proofs.Indices.{split}
use Rattle.headline_laws.specs.Recoveries.{is_away}

-- While the driver is away, the recovery has a next step.

away_due : (m : Mode) → is_away m ≡ true → is_some (stage_due m) ≡ true
away_due (mode.Boot s) away = refl
away_due mode.Running away = absurd cc
away_due (mode.Recovering s) away = refl
away_due (mode.Dead collected) away = absurd cc

-- the first of two steps may be taken, or the second
either_step : (first second : Bool) → (first ≡ false → second ≡ true)
    → is_some (if first then Some step.Stage else (if second then Some (step.Burst 16) else None)) ≡ true
either_step true second may = refl
either_step false true may = refl
either_step false false may = absurd cc (may refl)

pub away_returns : (p : PartState) → is_away p.mode ≡ true → is_some (next_recovery p) ≡ true
unfolding next_recovery enabled
away_returns p away = either_step (enabled p step.Stage) (enabled p (step.Burst 16)) (λ held. split (is_driven p)
    (λ driven. driven)
    (λ idle. absurd (both (and_from (is_some (stage_due p.mode)) (not (is_driven p)) (away_due p.mode away) (ap not idle))
    held)))
  where
    both : {b : Bool} → b ≡ true → b ≡ false → ⊥
    both h k = absurd cc
