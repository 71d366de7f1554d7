-- A whole scenario is read back from its value.
use Rattle.std.proofs.Common.{◌≡◌, ℕ, ◌≤◌, ◌==◌, inl, inr, Bool, true, false, not, ◌||◌, Ok, List, [], ◌∷◌, length, refl, arith}
use Rattle.std.specs.Prelude.{All, if◌then◌else◌}
use Rattle.std.proofs.lemmas.Bool.{eqb-true, le-ltb}
use Rattle.std.proofs.lemmas.List.Elements.{All-cons, All-nil}
use Rattle.input_defs.specs.ScenarioReading.{scenario_of, thread_of}
use Rattle.input_defs.specs.PartReading.{part_of}
use Rattle.nook_data.specs.Valid.{IsValidScenario}
use Rattle.nook_data.specs.declared.scenario.BadBlock.{BadBlock}
use Rattle.nook_data.specs.declared.scenario.PartSpec.{PartSpec}
use Rattle.nook_data.specs.declared.scenario.Scenario.{Scenario}
use Rattle.scenario_write.proofs.ListsBack.{list_back}
use Rattle.scenario_write.proofs.PartsBack.{FitsVersion, IsEmpty, parts_back, threads_back}
use Rattle.scenario_write.proofs.PiecesBack.{schedule_back}
use Rattle.scenario_write.proofs.Sorted.{sorted}
use Rattle.scenario_write.specs.ScenarioText.{has_bad, part_data, scenario_data, thread_data, version_of}

-- ---- the version

abbrev by_test : Bool → ℕ
by_test bad = if bad then 2 else 1

low_version : (bad : Bool) → 1 ≤ by_test bad
low_version true = omega arith
low_version false = omega arith

high_version : (bad : Bool) → by_test bad ≤ 2
high_version true = omega arith
high_version false = omega arith

none_bad : (bad : List BadBlock) → (length bad == 0) ≡ true → IsEmpty bad
none_bad [] e = tt
none_bad (first ∷ more) e = absurd (omega (arith, eqb-true (length (first ∷ more)) 0 e))

no_or : (a b : Bool) → (not a || b) ≡ false → (a ≡ true) × (b ≡ false)
no_or true b h = (refl, h)
no_or false b h = absurd (cc h)

abbrev Fits : ℕ → PartSpec → Type 0
Fits version part = FitsVersion version part.bad

fit_first : (parts : List PartSpec) → has_bad parts ≡ false → All (Fits 1) parts
fit_first [] h = All-nil (Fits 1)
fit_first (part ∷ more) h =
    let both = no_or (length part.bad == 0) (has_bad more) h in
    All-cons (Fits 1) part more (inl (none_bad part.bad both.0)) (fit_first more both.1)

fit_second : (parts : List PartSpec) → All (Fits 2) parts
fit_second [] = All-nil (Fits 2)
fit_second (part ∷ more) = All-cons (Fits 2) part more (inr refl) (fit_second more)

fit_by : (parts : List PartSpec) (bad : Bool) → has_bad parts ≡ bad → All (Fits (by_test bad)) parts
fit_by parts true e = fit_second parts
fit_by parts false e = fit_first parts e

-- ---- the whole

pub scenario_back : (scenario : Scenario) → IsValidScenario scenario → scenario_of (sorted (scenario_data scenario)) ≡ Ok scenario
unfolding scenario_of scenario_data
scenario_back scenario h =
    let version = version_of scenario.parts in
    rw (
      le-ltb version 1 (low_version (has_bad scenario.parts)),
      le-ltb 2 version (high_version (has_bad scenario.parts)),
      schedule_back scenario.schedule h.schedule,
      list_back (part_of version) part_data 1 8 scenario.parts h.part_count.0 h.part_count.1
          (parts_back version [] scenario.parts h.parts (fit_by scenario.parts (has_bad scenario.parts) refl) h.part_names),
      list_back (thread_of (length scenario.parts)) thread_data 0 16 scenario.threads (omega arith) h.thread_count
          (threads_back (length scenario.parts) [] scenario.threads h.threads h.thread_names),
    ) refl
