use Rattle.std.specs.Prelude.{map, ℕ, ◌-◌, ◌^◌, ◌<◌, ◌≤◌, ◌≡◌, ◌&&◌, not, List, [], ◌∷◌, length, All, Bool, true, ⊤}
use Rattle.nook_data.specs.declared.limits.TheConstants.{MOST_ARRIVALS, MOST_BAD_BLOCKS, MOST_DISK_BLOCKS}
use Rattle.nook_data.specs.declared.limits.TheConstants.{MOST_FAILURES, MOST_FAULTS, MOST_FRAME_WORDS, MOST_OPS}
use Rattle.nook_data.specs.declared.limits.TheConstants.{MOST_PARTS, MOST_THREADS, MOST_INSTRUCTIONS}
use Rattle.nook_data.specs.declared.memory_map.TheConstants.{TEXT_WORDS, DATA_WORDS}
use Rattle.nook_data.specs.Classes.{entry_count}
use Rattle.nook_data.specs.Names.{is_among, is_name}
use Rattle.nook_data.specs.Types.{BadBlock, Class, Fault, FaultKind, Image, Op}
use Rattle.nook_data.specs.Types.{PartSpec, Scenario, ScheduleSpec, ThreadSpec}
use Rattle.nook_data.specs.declared.calls.Op.TheVariants as op
use Rattle.nook_data.specs.declared.classes.Class.TheVariants as class
use Rattle.nook_data.specs.declared.scenario.FaultKind.TheVariants as strikes
use Rattle.nook_data.specs.declared.scenario.ScheduleSpec.TheVariants as schedule

-- The limits of images, parts and scenarios. Every call that takes one of these requires its limits, and every
-- reader ensures them.

-- a number of 32 bits
abbrev pub IsWord : ℕ → Type 0
IsWord word = word < 2 ^ 32

-- up to this many words
abbrev pub AreWords : ℕ → List ℕ → Type 0
AreWords most words = (length words ≤ most) × All IsWord words

-- an image has an index into the text for each entry of its class, and up to 2,048 text words and initial words
pub record IsValidImage (image : Image) : Type 0 where
  pub entries : length image.entries ≡ entry_count image.class
  pub addresses : All (λ position. position ≤ TEXT_WORDS - 1) image.entries
  pub text : AreWords TEXT_WORDS image.text
  pub initial : AreWords DATA_WORDS image.initial

-- a fault's numbers are words, and its register is one of the 16
abbrev pub IsValidKind : FaultKind → Type 0
IsValidKind strikes.Trap = ⊤
IsValidKind strikes.Hang = ⊤
IsValidKind (strikes.Poke address value) = IsWord address × IsWord value
IsValidKind (strikes.Code address value) = IsWord address × IsWord value
IsValidKind (strikes.Reg register value) = (register ≤ 15) × IsWord value

-- a fault of burst 1 or later, after up to 4,095 instructions
pub record IsValidFault (fault : Fault) : Type 0 where
  pub burst : (1 ≤ fault.burst) × IsWord fault.burst
  pub after : fault.after ≤ MOST_INSTRUCTIONS - 1
  pub kind : IsValidKind fault.kind

-- a bad block of a disk with this many blocks
pub record IsValidBadBlock (blocks : ℕ) (bad : BadBlock) : Type 0 where
  pub block : bad.block < blocks
  pub after : IsWord bad.after

-- what only parts of one class have: a disk has 1 to 256 blocks, a net part up to 256 arrivals of 1 to 64 words
abbrev pub FitsClass : Class → PartSpec → Type 0
FitsClass class.Block part = (1 ≤ part.blocks) × (part.blocks ≤ MOST_DISK_BLOCKS) × (part.arrivals ≡ [])
FitsClass class.Net part =
    (part.blocks ≡ 0) × (part.bad ≡ []) × (length part.arrivals ≤ MOST_ARRIVALS)
    × All (λ frame. (1 ≤ length frame) × AreWords MOST_FRAME_WORDS frame) part.arrivals
FitsClass class.Sound part = (part.blocks ≡ 0) × (part.bad ≡ []) × (part.arrivals ≡ [])

-- a part is within every limit, and its image is of its class
pub record IsValidPart (part : PartSpec) : Type 0 where
  pub name : is_name part.name ≡ true
  pub fits : FitsClass part.class part
  pub bad_count : length part.bad ≤ MOST_BAD_BLOCKS
  pub bad : All (IsValidBadBlock part.blocks) part.bad
  pub limit : part.limit ≤ MOST_FAILURES
  pub class : part.image.class ≡ part.class
  pub image : IsValidImage part.image
  pub fault_count : length part.faults ≤ MOST_FAULTS
  pub faults : All IsValidFault part.faults

-- an operation of a script has numbers of 32 bits and up to 256 words
abbrev pub IsValidOp : Op → Type 0
IsValidOp (op.Read first count) = IsWord first × IsWord count
IsValidOp (op.Write first words) = IsWord first × AreWords 256 words
IsValidOp (op.Send frame) = AreWords 256 frame
IsValidOp op.Recv = ⊤
IsValidOp op.Open = ⊤
IsValidOp (op.Play samples) = AreWords 256 samples
IsValidOp op.Close = ⊤
IsValidOp (op.Get key) = IsWord key
IsValidOp (op.Set key value) = IsWord key × IsWord value

-- a thread of a scenario with this many parts; each operation is on one of them
pub record IsValidThread (parts : ℕ) (thread : ThreadSpec) : Type 0 where
  pub name : is_name thread.name ≡ true
  pub op_count : length thread.ops ≤ MOST_OPS
  pub ops : All (λ step. (step.0 < parts) × IsValidOp step.1) thread.ops

-- a start of 64 bits, or up to 65,536 picks of 16 bits
abbrev pub IsValidSchedule : ScheduleSpec → Type 0
IsValidSchedule schedule.RoundRobin = ⊤
IsValidSchedule (schedule.Drawn start) = start < 2 ^ 64
IsValidSchedule (schedule.Listed picks) = (length picks ≤ 65536) × All (λ pick. pick < 2 ^ 16) picks

-- the names of parts
abbrev pub part_names : List PartSpec → List (List ℕ)
part_names parts = map (λ part. part.name) parts

-- the names of threads
abbrev pub thread_names : List ThreadSpec → List (List ℕ)
thread_names threads = map (λ thread. thread.name) threads

-- no name occurs twice
abbrev pub are_distinct : List (List ℕ) → Bool
are_distinct [] = true
are_distinct (name ∷ more) = not (is_among more name) && are_distinct more

-- 1 to 8 parts and up to 16 threads, each valid and each with its own name
pub record IsValidScenario (scenario : Scenario) : Type 0 where
  pub schedule : IsValidSchedule scenario.schedule
  pub part_count : (1 ≤ length scenario.parts) × (length scenario.parts ≤ MOST_PARTS)
  pub parts : All IsValidPart scenario.parts
  pub part_names : are_distinct (part_names scenario.parts) ≡ true
  pub thread_count : length scenario.threads ≤ MOST_THREADS
  pub threads : All (IsValidThread (length scenario.parts)) scenario.threads
  pub thread_names : are_distinct (thread_names scenario.threads) ≡ true
