use Rattle.std.specs.Prelude.{ℕ, ◌-◌, ◌==◌, List, [], ◌∷◌, codes, Option, Result, Ok}
use Rattle.std.specs.Prelude.{if◌then◌else◌}
use Rattle.serde_json.specs.Data.{Data}
use Rattle.nook_data.specs.declared.limits.TheConstants.{MOST_ARRIVALS, MOST_BAD_BLOCKS, MOST_DISK_BLOCKS}
use Rattle.nook_data.specs.declared.limits.TheConstants.{MOST_FAILURES, MOST_FAULTS, MOST_FRAME_WORDS, MOST_INSTRUCTIONS}
use Rattle.input_defs.specs.ImageReading.{known_class, driver_of}
use Rattle.nook_data.specs.Names.{is_name}
use Rattle.input_defs.specs.Reading.{word_at}
use Rattle.input_defs.specs.Reading.{whole_number, bad, text_of, named_of, is_object, object_with, required, optional}
use Rattle.input_defs.specs.Reading.{number_at, list_of, numbers_of}
use Rattle.asm_defs.specs.Results.{◌>>=◌}
use Rattle.nook_data.specs.Types.{BadBlock, Class, Fault}
use Rattle.nook_data.specs.Types.{FaultKind, FaultName, PartSpec}
use Rattle.nook_data.specs.FaultNames.{fault_named}
use Rattle.input_defs.specs.Types.{Refusal}
use Rattle.asm_defs.specs.Types.{Key}
use Rattle.nook_data.specs.declared.classes.Class.TheVariants as class
use Rattle.nook_data.specs.declared.scenario.FaultName.TheVariants as named
use Rattle.input_defs.specs.declared.input.InputFault.TheVariants as fault
use Rattle.asm_defs.specs.declared.keys.Key.TheVariants as key
use Rattle.nook_data.specs.declared.scenario.FaultKind.TheVariants as strikes
use Rattle.nook_data.specs.Names.{is_among}
use Rattle.nook_data.specs.Valid.{part_names}

-- a name of 1 to 16 bytes that differs from the earlier ones
unfoldable pub new_name : List (List ℕ) → List ℕ → Result (List ℕ) Refusal
new_name earlier name =
    if is_name name then (if is_among earlier name then bad fault.DoubleName else Ok name) else bad fault.WrongKind

-- a name that differs from the earlier ones
abbrev pub name_of : List (List ℕ) → Data → Result (List ℕ) Refusal
name_of earlier d = text_of d >>= new_name earlier

-- ---- faults

-- the keys that only some kinds of fault have
abbrev pub fault_keys : FaultName → List Key
fault_keys named.Trap = []
fault_keys named.Hang = []
fault_keys named.Poke = key.Address ∷ key.Value ∷ []
fault_keys named.Code = key.Address ∷ key.Value ∷ []
fault_keys named.Reg = key.Register ∷ key.Value ∷ []

-- what a fault of a kind does, by the keys of that kind
unfoldable pub fault_kind : FaultName → Data → Result FaultKind Refusal
fault_kind named.Trap d = Ok strikes.Trap
fault_kind named.Hang d = Ok strikes.Hang
fault_kind named.Poke d = do
  address ← word_at key.Address d
  value ← word_at key.Value d
  Ok (strikes.Poke address value)
fault_kind named.Code d = do
  address ← word_at key.Address d
  value ← word_at key.Value d
  Ok (strikes.Code address value)
fault_kind named.Reg d = do
  register ← number_at key.Register 0 15 d
  value ← word_at key.Value d
  Ok (strikes.Reg register value)

-- a fault
unfoldable pub fault_of : Data → Result Fault Refusal
fault_of d = do
  members ← is_object d
  name ← required key.Kind (named_of fault_named) d
  known ← object_with (key.Burst ∷ key.After ∷ key.Kind ∷ fault_keys name) d
  burst ← number_at key.Burst 1 4294967295 d
  after ← number_at key.After 0 (MOST_INSTRUCTIONS - 1) d
  kind ← fault_kind name d
  Ok (record { burst = burst; after = after; kind = kind })

-- a bad block of a disk with this many blocks, at least one
unfoldable pub bad_block_of : ℕ → Data → Result BadBlock Refusal
bad_block_of blocks d = do
  known ← object_with (key.Block ∷ key.After ∷ []) d
  block ← number_at key.Block 0 (blocks - 1) d
  after ← word_at key.After d
  Ok (record { block = block; after = after })

-- ---- parts

-- the keys of a part, by its class; version 2 allows bad blocks
abbrev pub part_keys : ℕ → Class → List Key
part_keys version class.Block =
    key.Name ∷ key.Class ∷ key.Limit ∷ key.Driver ∷ key.Faults ∷ key.Blocks
    ∷ (if version == 2 then key.Bad ∷ [] else [])
part_keys version class.Net = key.Name ∷ key.Class ∷ key.Limit ∷ key.Driver ∷ key.Faults ∷ key.Arrivals ∷ []
part_keys version class.Sound = key.Name ∷ key.Class ∷ key.Limit ∷ key.Driver ∷ key.Faults ∷ []

-- the number of blocks of a disk; other classes have none
abbrev pub part_blocks : Class → Data → Result ℕ Refusal
part_blocks class.Block d = number_at key.Blocks 1 MOST_DISK_BLOCKS d
part_blocks _ d = Ok 0

-- up to 64 bad blocks of a disk; other classes have none
abbrev pub part_bad : Class → ℕ → Data → Result (List BadBlock) Refusal
part_bad class.Block blocks d = optional key.Bad (list_of (λ earlier. bad_block_of blocks) 0 MOST_BAD_BLOCKS) [] d
part_bad _ blocks d = Ok []

-- up to 256 arrivals of a net part, frames of 1 to 64 words; other classes have none
abbrev pub part_arrivals : Class → Data → Result (List (List ℕ)) Refusal
part_arrivals class.Net d =
    optional key.Arrivals (list_of (λ earlier. numbers_of 1 MOST_FRAME_WORDS 4294967295) 0 MOST_ARRIVALS) [] d
part_arrivals _ d = Ok []

-- a part of a scenario of a version, after the earlier parts
unfoldable pub part_of : ℕ → List PartSpec → Data → Result PartSpec Refusal
part_of version earlier d = do
  members ← is_object d
  class ← required key.Class known_class d
  known ← object_with (part_keys version class) d
  name ← required key.Name (name_of (part_names earlier)) d
  blocks ← part_blocks class d
  bad ← part_bad class blocks d
  limit ← optional key.Limit (whole_number 0 MOST_FAILURES) 0 d
  image ← required key.Driver (driver_of class) d
  faults ← optional key.Faults (list_of (λ earlier. fault_of) 0 MOST_FAULTS) [] d
  arrivals ← part_arrivals class d
  Ok (record {
    name = name;
    class = class;
    blocks = blocks;
    bad = bad;
    limit = limit;
    image = image;
    faults = faults;
    arrivals = arrivals;
  })
