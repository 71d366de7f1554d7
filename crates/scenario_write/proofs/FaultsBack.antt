-- Faults are read back, and have only texts and unsigned numbers.
use Rattle.std.proofs.Common.{◌≡◌, ℕ, ◌<◌, ◌≤◌, [], ◌∷◌, ◌++◌, Ok, refl, arith, codes}
use Rattle.std.proofs.lemmas.Bool.{le-ltb}
use Rattle.json.specs.Print.{escape_byte, quoted}
use Rattle.nook_data.specs.FaultNames.{fault_named, fault_word}
use Rattle.input_defs.specs.PartReading.{fault_kind, fault_of}
use Rattle.nook_data.specs.Valid.{IsValidFault, IsValidKind, IsWord}
use Rattle.nook_data.specs.declared.scenario.Fault.{Fault}
use Rattle.nook_data.specs.declared.scenario.FaultKind.{FaultKind}
use Rattle.nook_data.specs.declared.scenario.FaultKind.TheVariants as strikes
use Rattle.nook_data.specs.declared.scenario.FaultName.{FaultName}
use Rattle.nook_data.specs.declared.scenario.FaultName.TheVariants as fault
use Rattle.asm_defs.specs.declared.keys.Key.TheVariants as key
use Rattle.reading_laws.proofs.PlainData.{ArePlainMembers, IsPlain}
use Rattle.scenario_write.specs.ScenarioText.{at, fault_data, kind_members, number_data}
use Rattle.scenario_write.proofs.ListsBack.{no_less, word_within}
use Rattle.scenario_write.proofs.PlainMembers.{named, text, wide, with}
use Rattle.scenario_write.proofs.Sorted.{sorted}

-- the words need no escapes
pub fault_quoted : (name : FaultName) → quoted (fault_word name) ≡ 34 ∷ (fault_word name ++ 34 ∷ [])
unfolding escape_byte
fault_quoted fault.Trap = refl
fault_quoted fault.Hang = refl
fault_quoted fault.Poke = refl
fault_quoted fault.Code = refl
fault_quoted fault.Reg = refl

fault_by : (burst after : ℕ) (kind : FaultKind) → 1 ≤ burst → IsWord burst → after ≤ 4095 → IsValidKind kind
    → fault_of (sorted (fault_data (record { burst = burst; after = after; kind = kind }))) ≡ Ok (record { burst = burst; after = after; kind = kind })
unfolding fault_of fault_data fault_named fault_kind
fault_by burst after strikes.Trap one small few h =
    rw (le-ltb burst 1 one, le-ltb 4294967295 burst (word_within burst small), no_less after, le-ltb 4095 after few) refl
fault_by burst after strikes.Hang one small few h =
    rw (le-ltb burst 1 one, le-ltb 4294967295 burst (word_within burst small), no_less after, le-ltb 4095 after few) refl
fault_by burst after (strikes.Poke address value) one small few h =
    rw (
      le-ltb burst 1 one,
      le-ltb 4294967295 burst (word_within burst small),
      no_less after,
      le-ltb 4095 after few,
      no_less address,
      le-ltb 4294967295 address (word_within address h.0),
      no_less value,
      le-ltb 4294967295 value (word_within value h.1),
    ) refl
fault_by burst after (strikes.Code address value) one small few h =
    rw (
      le-ltb burst 1 one,
      le-ltb 4294967295 burst (word_within burst small),
      no_less after,
      le-ltb 4095 after few,
      no_less address,
      le-ltb 4294967295 address (word_within address h.0),
      no_less value,
      le-ltb 4294967295 value (word_within value h.1),
    ) refl
fault_by burst after (strikes.Reg register value) one small few h =
    rw (
      le-ltb burst 1 one,
      le-ltb 4294967295 burst (word_within burst small),
      no_less after,
      le-ltb 4095 after few,
      no_less register,
      le-ltb 15 register h.0,
      no_less value,
      le-ltb 4294967295 value (word_within value h.1),
    ) refl

pub fault_back : (fault : Fault) → IsValidFault fault → fault_of (sorted (fault_data fault)) ≡ Ok fault
fault_back fault h = fault_by fault.burst fault.after fault.kind h.burst.0 h.burst.1 h.after h.kind

kind_plain : (kind : FaultKind) → IsValidKind kind → ArePlainMembers 0 (kind_members kind)
kind_plain strikes.Trap h = (named key.Kind refl, text (codes "trap") refl, tt)
kind_plain strikes.Hang h = (named key.Kind refl, text (codes "hang") refl, tt)
kind_plain (strikes.Poke address value) h =
    (named key.Kind refl, text (codes "poke") refl, (named key.Address refl, wide address h.0, (named key.Value refl, wide value h.1, tt)))
kind_plain (strikes.Code address value) h =
    (named key.Kind refl, text (codes "code") refl, (named key.Address refl, wide address h.0, (named key.Value refl, wide value h.1, tt)))
kind_plain (strikes.Reg register value) h =
    (named key.Kind refl, text (codes "reg") refl, (named key.Register refl, omega (arith, h.0), (named key.Value refl, wide value h.1, tt)))

pub fault_plain : (n : ℕ) (fault : Fault) → 0 < n → IsValidFault fault → IsPlain n (fault_data fault)
unfolding fault_data
fault_plain n fault deep h = (
  0,
  deep,
  with 0 key.Burst (number_data fault.burst) (at key.After (number_data fault.after) (kind_members fault.kind)) refl (wide fault.burst h.burst.1)
      (with 0 key.After (number_data fault.after) (kind_members fault.kind) refl (omega (arith, h.after)) (kind_plain fault.kind h.kind)),
)
