-- The room for faults and traps, part by part, and the longest list of faults.
use Rattle.std.proofs.Common.{◌≡◌, ℕ, ◌+◌, ◌-◌, ◌<◌, ◌^◌, min, max, nat_lt, refl, sym, List, length, drop, get_or, add-one, arith}
use Rattle.std.proofs.Math.Seq.{drop-cons}
use Rattle.std.proofs.lemmas.Bool.Decides.{nat_tests}
use Rattle.asm_defs.specs.Results.{◌>>=◌}
use Rattle.input_defs.specs.PlanReading.{check_count, check_traps}
use Rattle.nook_data.specs.declared.scenario.Fault.{Fault}
use Rattle.nook_data.specs.declared.scenario.PartSpec.{PartSpec}
use Rattle.plan_defs.specs.Plans.{longest_of, more_faults}

-- a sum that saturates at the largest number of its type
pub many : (own more traps : ℕ) → nat_lt 64 (min (min (own + more) (2 ^ 64 - 1) + traps) (2 ^ 64 - 1)) ≡ nat_lt 64 (own + more + traps)
many own more traps = grind (arith, nat_tests)

-- the room of a part, and then of the later parts
pub one_part : (struck more : ℕ) (parts : List PartSpec) (i : ℕ) (part : PartSpec) → i < length parts → part ≡ get_or parts i part
    → check_traps struck more i (drop i parts)
    ≡ (check_count i (length part.faults + more_faults struck more i + (part.limit + 1)) >>= λ room. check_traps struck more (i + 1) (drop (i + 1) parts))
one_part struck more parts i part h e = rw (drop-cons parts i part h, add-one i, sym e) refl

-- the longest of the lists from one on is that list or a later one
pub one_list : (longest : ℕ) (lists : List (List Fault)) (i : ℕ) (faults : List Fault) → i < length lists → faults ≡ get_or lists i faults
    → max longest (longest_of (drop i lists)) ≡ max (max (length faults) longest) (longest_of (drop (i + 1) lists))
one_list longest lists i faults h e = rw (drop-cons lists i faults h, add-one i, sym e) (omega arith)
