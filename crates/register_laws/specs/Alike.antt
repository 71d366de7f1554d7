use Rattle.std.specs.Prelude.{◌≡◌, ℕ, zero, suc, ◌+◌, Option, Some, None, List, [], ◌∷◌, ◌++◌}
use Rattle.nook_data.specs.Types.{Event, Fault, PartSpec, Step}
use Rattle.nook_data.specs.declared.steps.Step.TheVariants as step
use Rattle.front_laws.specs.Fronts.{put_after}
use Rattle.machine_defs.specs.BurstFaults.{faults_of_burst}
use Rattle.part_defs.specs.Domain.{domain_burst}
use Rattle.part_defs.specs.Runs.{state_after, step_of}
use Rattle.part_defs.specs.State.{PartState}
use Rattle.part_defs.specs.Steps.{opening}

-- Two faults of the same burst that do the same, or a fault that does nothing.

-- the faults of a burst with one more, or as they are
abbrev pub with_one : Option Fault → List Fault → List Fault
with_one None faults = faults
with_one (Some g) faults = put_after g faults

-- if a step is the burst of a fault, it is the same with another fault instead, or without one
abbrev pub IsAlike : Fault → Option Fault → PartState → Step → Type 0
IsAlike f o p (step.Burst context) = p.bursts + 1 ≡ f.burst
    → domain_burst context (put_after f (faults_of_burst (p.bursts + 1) p.spec.faults)) p.domain
    ≡ domain_burst context (with_one o (faults_of_burst (p.bursts + 1) p.spec.faults)) p.domain
IsAlike f o p s = Unit {0}

-- the same of each step of the events
unfoldable pub AreAlikeFrom : Fault → Option Fault → PartState → List Event → Type 0
AreAlikeFrom f o p [] = Unit {0}
AreAlikeFrom f o p (e ∷ events) = IsAlike f o p (step_of e) × AreAlikeFrom f o (state_after p (step_of e)) events

-- the same of a part's journal
abbrev pub AreAlike : Fault → Option Fault → PartSpec → List Event → Type 0
AreAlike f o spec journal = AreAlikeFrom f o (opening spec) journal

-- a list without its last item
abbrev pub without_last : List Fault → List Fault
without_last [] = []
without_last (f ∷ []) = []
without_last (f ∷ g ∷ faults) = f ∷ without_last (g ∷ faults)

-- the part at an index has another last fault
abbrev pub swapped_at : ℕ → Fault → ℕ → List Fault → List Fault
swapped_at zero g zero faults = without_last faults ++ g ∷ []
swapped_at zero g (suc n) faults = faults
swapped_at (suc index) g zero faults = faults
swapped_at (suc index) g (suc n) faults = swapped_at index g n faults
