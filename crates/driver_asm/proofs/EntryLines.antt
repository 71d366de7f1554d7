-- Lines and members of entries.
use Rattle.std.proofs.Common.{◌≡◌, ◌<◌, ◌^◌, ℕ, List, [], ◌∷◌, length, refl, arith}
use Rattle.nook_data.specs.Classes.{entry_count}
use Rattle.asm_defs.specs.Disassembler.{entry_lines}
use Rattle.nook_data.specs.declared.classes.Class.{Class}
use Rattle.nook_data.specs.declared.classes.Class.TheVariants as class
use Rattle.asm_defs.specs.declared.keys.Key.{Key}
use Rattle.asm_defs.specs.ImageText.{entry_members}
use Rattle.serde_json.specs.Data.{Members}

pub no_numbers : (entries : List Key) (addresses : List ℕ) → length addresses ≡ 0 → entry_lines entries addresses ≡ []
no_numbers [] addresses none = refl
no_numbers (entry ∷ entries) [] none = refl
no_numbers (entry ∷ entries) (address ∷ addresses) none = absurd (omega (arith, none))

pub none_more : (entries : List Key) (addresses : List ℕ) (ms : Members) → length addresses ≡ 0 → entry_members entries addresses ms ≡ ms
none_more [] addresses ms none = refl
none_more (entry ∷ entries) [] ms none = refl
none_more (entry ∷ entries) (address ∷ addresses) ms none = absurd (omega (arith, none))

-- no class has more entries than a 32-bit number can count
pub few_entries : (c : Class) → entry_count c < 2 ^ 32
few_entries class.Block = omega arith
few_entries class.Net = omega arith
few_entries class.Sound = omega arith
