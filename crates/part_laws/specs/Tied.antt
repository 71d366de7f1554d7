use Rattle.std.specs.Prelude.{◌≡◌, ℕ, ◌+◌, ◌≤◌, ◌<◌, ◌==◌, Bool, true, false, Option, Some, None, List, [], ◌∷◌}
use Rattle.std.specs.List.{AllByRecursion}
use Rattle.nook_data.specs.declared.calls.CallEntry.{CallEntry}
use Rattle.nook_data.specs.declared.steps.Mode.{Mode}
use Rattle.nook_data.specs.declared.steps.Mode.TheVariants as mode
use Rattle.nook_data.specs.declared.steps.Stage.{Stage}
use Rattle.nook_data.specs.declared.steps.Stage.TheVariants as stage
use Rattle.nook_data.specs.declared.machine.Context.{Context}
use Rattle.part_defs.specs.Domain.{context_of}
use Rattle.part_defs.specs.State.{PartState}

-- How a part's open calls, its contexts and its mode are related.

-- the numbers of the open calls increase, are above `low`, and are at most the count of numbers given
abbrev pub IsRising : ℕ → ℕ → List CallEntry → Type 0
IsRising low count [] = Unit {0}
IsRising low count (c ∷ pending) = (low < c.call) × (c.call ≤ count) × IsRising c.call count pending

-- no two open calls belong to one thread
abbrev pub AreApart : List CallEntry → Type 0
AreApart [] = Unit {0}
AreApart (c ∷ pending) = AllByRecursion (λ d. (d.thread == c.thread) ≡ false) pending × AreApart pending

-- a context that is Inside and has done fewer than 32 bursts in its attempt
abbrev pub GoesOn : Option Context → Type 0
GoesOn None = ⊥
GoesOn (Some x) = x.bursts ≤ 31

abbrev pub is_stop : Stage → Bool
is_stop stage.Stop = true
is_stop _ = false

-- while the driver does not run, an open call has at most one attempt for each failure, and is Held except at Stop
abbrev pub IsAwayCall : Stage → ℕ → CallEntry → Type 0
IsAwayCall s failures c = (c.attempts ≤ failures) × (is_stop s ≡ false → c.inside ≡ false)

-- while it runs, a call that is Inside may have one more attempt, and has its context
abbrev pub IsRunningCall : ℕ → List (Option Context) → CallEntry → Type 0
IsRunningCall failures contexts c =
    (c.attempts ≤ failures + 1) × (c.inside ≡ false → c.attempts ≤ failures)
    × (c.inside ≡ true → GoesOn (context_of c.thread contexts))

-- a dead part has no open call
abbrev pub IsTiedCall : Mode → ℕ → List (Option Context) → CallEntry → Type 0
IsTiedCall (mode.Boot s) failures contexts c = IsAwayCall s failures c
IsTiedCall mode.Running failures contexts c = IsRunningCall failures contexts c
IsTiedCall (mode.Recovering s) failures contexts c = IsAwayCall s failures c
IsTiedCall (mode.Dead collected) failures contexts c = ⊥

-- the stages in which the shadow's own call runs
abbrev pub is_driving_stage : Stage → Bool
is_driving_stage stage.Init = true
is_driving_stage (stage.ReplaySet key value) = true
is_driving_stage stage.ReplayOpen = true
is_driving_stage _ = false

abbrev pub is_driving : Mode → Bool
is_driving (mode.Boot s) = is_driving_stage s
is_driving mode.Running = false
is_driving (mode.Recovering s) = is_driving_stage s
is_driving (mode.Dead collected) = false

-- the shadow's context is free, or its call runs and has done fewer than 32 bursts
abbrev pub IsDriven : Mode → Option Context → Type 0
IsDriven m None = Unit {0}
IsDriven m (Some x) = (x.bursts ≤ 31) × (is_driving m ≡ true)

-- a replayed key is one of four
abbrev pub IsFitStage : Stage → Type 0
IsFitStage (stage.ReplaySet key value) = key ≤ 3
IsFitStage _ = Unit {0}

abbrev pub IsFitMode : Mode → Type 0
IsFitMode (mode.Boot s) = IsFitStage s
IsFitMode mode.Running = Unit {0}
IsFitMode (mode.Recovering s) = IsFitStage s
IsFitMode (mode.Dead collected) = Unit {0}

-- the modes in which failures may be one more than the limit
abbrev pub may_exceed : Mode → Bool
may_exceed (mode.Boot s) = is_stop s
may_exceed mode.Running = false
may_exceed (mode.Recovering s) = is_stop s
may_exceed (mode.Dead collected) = true

-- the relation between open calls, contexts and mode that holds at every step
pub record IsTied (p : PartState) : Type 0 where
  pub rising : IsRising 0 p.log.count p.log.pending
  pub apart : AreApart p.log.pending
  pub calls : AllByRecursion (IsTiedCall p.mode p.failures p.domain.contexts) p.log.pending
  pub driven : IsDriven p.mode (context_of 16 p.domain.contexts)
  pub stages : IsFitMode p.mode
  pub limit : p.failures ≤ p.spec.limit + 1
  pub within : may_exceed p.mode ≡ false → p.failures ≤ p.spec.limit
