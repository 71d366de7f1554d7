-- Parts and threads are read back.
use Rattle.std.proofs.Common.{◌≡◌, ℕ, ◌≤◌, ◌⊎◌, inl, inr, true, false, Ok, Some, List, [], ◌∷◌, ◌++◌, length, refl, ap, sym, ◌∙◌, arith, append_assoc}
use Rattle.std.specs.Prelude.{⊤, Option, All}
use Rattle.std.proofs.lemmas.Bool.{le-ltb}
use Rattle.std.proofs.lemmas.List.Elements.{All-head, All-tail}
use Rattle.serde_json.specs.Data.{Data}
use Rattle.serde_json.specs.Read.{max_depth}
use Rattle.input_defs.proofs.ImageBack.{image_back}
use Rattle.nook_data.specs.Classes.{same_class}
use Rattle.input_defs.specs.ImageReading.{driver_of, image_of}
use Rattle.asm_defs.specs.ImageText.{image_data}
use Rattle.nook_data.specs.ClassNames.{class_named}
use Rattle.nook_data.specs.Names.{is_name}
use Rattle.input_defs.specs.PartReading.{bad_block_of, fault_of, new_name, part_of}
use Rattle.nook_data.specs.Names.{is_among}
use Rattle.nook_data.specs.Valid.{part_names}
use Rattle.input_defs.specs.Views.Readings.{frame_of}
use Rattle.input_defs.specs.Reading.{list_of, numbers_of}
use Rattle.input_defs.specs.ScenarioReading.{op_of, thread_of}
use Rattle.nook_data.specs.Valid.{thread_names}
use Rattle.nook_data.specs.Valid.{IsValidBadBlock, IsValidFault, IsValidImage, IsValidPart, IsValidThread, IsWord}
use Rattle.nook_data.specs.Valid.{are_distinct}
use Rattle.nook_data.specs.Views.Limits.{IsValidFrame, IsValidStep}
use Rattle.nook_data.specs.declared.scenario.BadBlock.{BadBlock}
use Rattle.nook_data.specs.declared.classes.Class.{Class}
use Rattle.nook_data.specs.declared.classes.Class.TheVariants as class
use Rattle.nook_data.specs.declared.scenario.Fault.{Fault}
use Rattle.nook_data.specs.declared.scenario.Image.{Image}
use Rattle.nook_data.specs.declared.calls.Op.{Op}
use Rattle.nook_data.specs.declared.scenario.PartSpec.{PartSpec}
use Rattle.nook_data.specs.declared.scenario.ThreadSpec.{ThreadSpec}
use Rattle.reading_laws.proofs.ImageJson.{image_plain, image_read}
use Rattle.scenario_write.proofs.ListsBack.{Reads, list_back, no_less, numbers_back, reads_all, word_within}
use Rattle.scenario_write.proofs.NamesApart.{apart}
use Rattle.scenario_write.proofs.FaultsBack.{fault_back}
use Rattle.scenario_write.proofs.PiecesBack.{bad_block_back, step_back}
use Rattle.scenario_write.proofs.Sorted.{read_sorted, sorted}
use Rattle.scenario_write.specs.ScenarioText.{bad_block_data, driver_data, fault_data, list_data, numbers_data, part_data, step_data, thread_data}

-- ---- images and drivers

given : Data → Option Data → Data
given other (Some d) = d
given other _ = other

image_sorted : (image : Image) → IsValidImage image → sorted (image_data image) ≡ image_data image
unfolding given
image_sorted image h =
    ap (given (image_data image)) (sym (read_sorted max_depth (image_data image) (image_plain max_depth image (omega arith) h)) ∙ image_read image h)

image_comes_back : (image : Image) → IsValidImage image → image_of (sorted (image_data image)) ≡ Ok image
image_comes_back image h = ap image_of (image_sorted image h) ∙ image_back image h

own_class : (c : Class) → same_class c c ≡ true
own_class class.Block = refl
own_class class.Net = refl
own_class class.Sound = refl

driver_back : (c : Class) (image : Image) → image.class ≡ c → IsValidImage image → driver_of c (sorted (driver_data image)) ≡ Ok image
unfolding driver_of
driver_back c image e h = rw (image_comes_back image h, e, own_class c) refl

-- ---- names

name_back : (earlier : List (List ℕ)) (name : List ℕ) → is_name name ≡ true → is_among earlier name ≡ false → new_name earlier name ≡ Ok name
unfolding new_name
name_back earlier name h k = rw (h, k) refl

-- ---- lists of a part

faults_back : (faults : List Fault) → length faults ≤ 64 → All IsValidFault faults → list_of (λ earlier. fault_of) 0 64 (sorted (list_data fault_data faults)) ≡ Ok faults
faults_back faults room h =
    list_back (λ earlier. fault_of) fault_data 0 64 faults (omega arith) room (reads_all fault_of fault_data IsValidFault fault_back [] faults h)

bad_back : (blocks : ℕ) (bad : List BadBlock) → length bad ≤ 64 → All (IsValidBadBlock blocks) bad
    → list_of (λ earlier. bad_block_of blocks) 0 64 (sorted (list_data bad_block_data bad)) ≡ Ok bad
bad_back blocks bad room h =
    list_back (λ earlier. bad_block_of blocks) bad_block_data 0 64 bad (omega arith) room
    (reads_all (bad_block_of blocks) bad_block_data (IsValidBadBlock blocks) (bad_block_back blocks) [] bad h)

frame_back : (frame : List ℕ) → IsValidFrame frame → numbers_of 1 64 4294967295 (sorted (numbers_data frame)) ≡ Ok frame
frame_back frame h = numbers_back 1 64 4294967295 IsWord word_within frame h.0 h.1.0 h.1.1

frames_back : (frames : List (List ℕ)) → length frames ≤ 256 → All IsValidFrame frames → list_of frame_of 0 256 (sorted (list_data numbers_data frames)) ≡ Ok frames
frames_back frames room h =
    list_back frame_of numbers_data 0 256 frames (omega arith) room (reads_all (numbers_of 1 64 4294967295) numbers_data IsValidFrame frame_back [] frames h)

-- ---- parts, by their classes

-- no bad blocks, or the version that allows them
abbrev pub IsEmpty : List BadBlock → Type 0
IsEmpty [] = ⊤
IsEmpty (first ∷ more) = ⊥

abbrev pub FitsVersion : ℕ → List BadBlock → Type 0
FitsVersion version bad = IsEmpty bad ⊎ (version ≡ 2)

-- the limits that all parts share
abbrev Common : Class → List PartSpec → List ℕ → ℕ → Image → List Fault → Type 0
Common c earlier name limit image faults =
    (is_name name ≡ true) × (is_among (part_names earlier) name ≡ false) × (limit ≤ 16) × (image.class ≡ c) × IsValidImage image × (length faults ≤ 64) × All IsValidFault faults

net_by : (version : ℕ) (earlier : List PartSpec) (name : List ℕ) (limit : ℕ) (image : Image) (faults : List Fault) (arrivals : List (List ℕ))
    → Common class.Net earlier name limit image faults → length arrivals ≤ 256 → All IsValidFrame arrivals
    → let part : PartSpec = record { name = name; class = class.Net; blocks = 0; bad = []; limit = limit; image = image; faults = faults; arrivals = arrivals } in
    part_of version earlier (sorted (part_data part)) ≡ Ok part
unfolding part_of part_data class_named
net_by version earlier name limit image faults arrivals h room frames =
    rw (
      name_back (part_names earlier) name h.0 h.1,
      no_less limit,
      le-ltb 16 limit h.2,
      driver_back class.Net image h.3 h.4,
      faults_back faults h.5 h.6,
      frames_back arrivals room frames,
    ) refl

sound_by : (version : ℕ) (earlier : List PartSpec) (name : List ℕ) (limit : ℕ) (image : Image) (faults : List Fault)
    → Common class.Sound earlier name limit image faults
    → let part : PartSpec = record { name = name; class = class.Sound; blocks = 0; bad = []; limit = limit; image = image; faults = faults; arrivals = [] } in
    part_of version earlier (sorted (part_data part)) ≡ Ok part
unfolding part_of part_data class_named
sound_by version earlier name limit image faults h =
    rw (
      name_back (part_names earlier) name h.0 h.1,
      no_less limit,
      le-ltb 16 limit h.2,
      driver_back class.Sound image h.3 h.4,
      faults_back faults h.5 h.6,
    ) refl

disk_by : (version : ℕ) (earlier : List PartSpec) (name : List ℕ) (blocks limit : ℕ) (image : Image) (faults : List Fault)
    → Common class.Block earlier name limit image faults → 1 ≤ blocks → blocks ≤ 256
    → let part : PartSpec = record { name = name; class = class.Block; blocks = blocks; bad = []; limit = limit; image = image; faults = faults; arrivals = [] } in
    part_of version earlier (sorted (part_data part)) ≡ Ok part
unfolding part_of part_data class_named
disk_by version earlier name blocks limit image faults h low high =
    rw (
      name_back (part_names earlier) name h.0 h.1,
      le-ltb blocks 1 low,
      le-ltb 256 blocks high,
      no_less limit,
      le-ltb 16 limit h.2,
      driver_back class.Block image h.3 h.4,
      faults_back faults h.5 h.6,
    ) refl

bad_disk_by : (earlier : List PartSpec) (name : List ℕ) (blocks : ℕ) (first : BadBlock) (more : List BadBlock) (limit : ℕ) (image : Image) (faults : List Fault)
    → Common class.Block earlier name limit image faults → 1 ≤ blocks → blocks ≤ 256 → length (first ∷ more) ≤ 64 → All (IsValidBadBlock blocks) (first ∷ more)
    → let part : PartSpec = record { name = name; class = class.Block; blocks = blocks; bad = first ∷ more; limit = limit; image = image; faults = faults; arrivals = [] } in
    part_of 2 earlier (sorted (part_data part)) ≡ Ok part
unfolding part_of part_data class_named
bad_disk_by earlier name blocks first more limit image faults h low high room bad =
    rw (
      name_back (part_names earlier) name h.0 h.1,
      le-ltb blocks 1 low,
      le-ltb 256 blocks high,
      bad_back blocks (first ∷ more) room bad,
      no_less limit,
      le-ltb 16 limit h.2,
      driver_back class.Block image h.3 h.4,
      faults_back faults h.5 h.6,
    ) refl

-- a part is read back, by its class, its bad blocks and everything else
part_by : (c : Class) (bad : List BadBlock) (version : ℕ) (earlier : List PartSpec) (name : List ℕ) (blocks limit : ℕ) (image : Image) (faults : List Fault) (arrivals : List (List ℕ))
    → let part : PartSpec = record { name = name; class = c; blocks = blocks; bad = bad; limit = limit; image = image; faults = faults; arrivals = arrivals } in
    IsValidPart part → FitsVersion version bad → is_among (part_names earlier) name ≡ false → part_of version earlier (sorted (part_data part)) ≡ Ok part
part_by class.Block [] version earlier name blocks limit image faults arrivals h v new =
    rw h.fits.2 (disk_by version earlier name blocks limit image faults (h.name, new, h.limit, h.class, h.image, h.fault_count, h.faults) h.fits.0 h.fits.1)
part_by class.Block (first ∷ more) version earlier name blocks limit image faults arrivals h (inl none) new = absurd none
part_by class.Block (first ∷ more) version earlier name blocks limit image faults arrivals h (inr two) new =
    rw (two, h.fits.2)
    (bad_disk_by earlier name blocks first more limit image faults (h.name, new, h.limit, h.class, h.image, h.fault_count, h.faults) h.fits.0 h.fits.1 h.bad_count h.bad)
part_by class.Net bad version earlier name blocks limit image faults arrivals h v new =
    rw (h.fits.0, h.fits.1)
    (net_by version earlier name limit image faults arrivals (h.name, new, h.limit, h.class, h.image, h.fault_count, h.faults) h.fits.2 h.fits.3)
part_by class.Sound bad version earlier name blocks limit image faults arrivals h v new =
    rw (h.fits.0, h.fits.1, h.fits.2) (sound_by version earlier name limit image faults (h.name, new, h.limit, h.class, h.image, h.fault_count, h.faults))

part_back : (version : ℕ) (earlier : List PartSpec) (part : PartSpec) → IsValidPart part → FitsVersion version part.bad → is_among (part_names earlier) part.name ≡ false
    → part_of version earlier (sorted (part_data part)) ≡ Ok part
part_back version earlier part h v new = part_by part.class part.bad version earlier part.name part.blocks part.limit part.image part.faults part.arrivals h v new

-- ---- all parts

names_push : (earlier : List PartSpec) (parts : List PartSpec) → part_names (earlier ++ parts) ≡ part_names earlier ++ part_names parts
names_push [] parts = refl
names_push (part ∷ more) parts = ap (part.name ∷◌) (names_push more parts)

pub parts_back : (version : ℕ) (earlier parts : List PartSpec) → All IsValidPart parts → All (λ part. FitsVersion version part.bad) parts
    → are_distinct (part_names (earlier ++ parts)) ≡ true → Reads (part_of version) part_data earlier parts
parts_back version earlier [] h v d = tt
parts_back version earlier (part ∷ more) h v d = (
  part_back version earlier part (All-head IsValidPart part more h) (All-head (λ p. FitsVersion version p.bad) part more v)
      (apart (part_names earlier) part.name (part_names more) (ap are_distinct (sym (names_push earlier (part ∷ more))) ∙ d)),
  parts_back version (earlier ++ part ∷ []) more (All-tail IsValidPart part more h) (All-tail (λ p. FitsVersion version p.bad) part more v)
      (ap (λ l. are_distinct (part_names l)) (append_assoc earlier (part ∷ []) more) ∙ d),
)

-- ---- threads

steps_back : (parts : ℕ) (ops : List (ℕ × Op)) → length ops ≤ 256 → All (IsValidStep parts) ops → list_of (λ earlier. op_of parts) 0 256 (sorted (list_data step_data ops)) ≡ Ok ops
steps_back parts ops room h =
    list_back (λ earlier. op_of parts) step_data 0 256 ops (omega arith) room (reads_all (op_of parts) step_data (IsValidStep parts) (step_back parts) [] ops h)

thread_back : (parts : ℕ) (earlier : List ThreadSpec) (thread : ThreadSpec) → IsValidThread parts thread → is_among (thread_names earlier) thread.name ≡ false
    → thread_of parts earlier (sorted (thread_data thread)) ≡ Ok thread
unfolding thread_of thread_data
thread_back parts earlier thread h new = rw (name_back (thread_names earlier) thread.name h.name new, steps_back parts thread.ops h.op_count h.ops) refl

thread_names_push : (earlier threads : List ThreadSpec) → thread_names (earlier ++ threads) ≡ thread_names earlier ++ thread_names threads
thread_names_push [] threads = refl
thread_names_push (thread ∷ more) threads = ap (thread.name ∷◌) (thread_names_push more threads)

pub threads_back : (parts : ℕ) (earlier threads : List ThreadSpec) → All (IsValidThread parts) threads → are_distinct (thread_names (earlier ++ threads)) ≡ true
    → Reads (thread_of parts) thread_data earlier threads
threads_back parts earlier [] h d = tt
threads_back parts earlier (thread ∷ more) h d = (
  thread_back parts earlier thread (All-head (IsValidThread parts) thread more h)
      (apart (thread_names earlier) thread.name (thread_names more) (ap are_distinct (sym (thread_names_push earlier (thread ∷ more))) ∙ d)),
  threads_back parts (earlier ++ thread ∷ []) more (All-tail (IsValidThread parts) thread more h)
      (ap (λ l. are_distinct (thread_names l)) (append_assoc earlier (thread ∷ []) more) ∙ d),
)
