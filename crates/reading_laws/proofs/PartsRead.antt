-- A part that was read is within the limits of parts.
use Rattle.std.proofs.Common.{◌≡◌, ◌∙◌, refl, sym, subst, ap, ℕ, ◌+◌, ◌-◌, ◌<◌, ◌≤◌, ◌^◌, ◌==◌, ◌&&◌, Bool, true, false, not, List, [], ◌∷◌, ◌++◌, length, Option, Some, None, arith, lit≤, if◌then◌else◌}
use Rattle.std.specs.Prelude.{Result, Ok, Err, IfOk, All, is_some}
use Rattle.std.proofs.lemmas.Bool.{eqb-true}
use Rattle.std.proofs.lemmas.List.Elements.{All-nil, All-push}
use Rattle.serde_json.specs.Data.{Data}
use Rattle.serde_json.specs.Find.{get}
use Rattle.asm_defs.specs.Assembler.{assembled}
use Rattle.nook_data.specs.Classes.{class_code, same_class}
use Rattle.input_defs.specs.ImageReading.{known_class, image_of, or_bad_asm, driver_of}
use Rattle.input_defs.specs.Views.Readings.{asm_of, driver_image}
use Rattle.asm_defs.specs.Keys.{key_text}
use Rattle.nook_data.specs.Names.{is_name}
use Rattle.nook_data.specs.Names.{is_among}
use Rattle.nook_data.specs.FaultNames.{fault_named}
use Rattle.input_defs.specs.PartReading.{name_of, fault_keys, fault_kind, fault_of, bad_block_of}
use Rattle.input_defs.specs.PartReading.{part_blocks, part_bad, part_arrivals, part_keys, part_of}
use Rattle.nook_data.specs.Valid.{part_names}
use Rattle.input_defs.specs.Views.Readings.{faults_of, bad_blocks_of, frame_of, frames_of}
use Rattle.input_defs.specs.Reading.{bad, under, refuse_if, text_of, named_of, is_object, object_with, required}
use Rattle.input_defs.specs.Reading.{optional, whole_number, number_at, list_of, numbers_of}
use Rattle.input_defs.specs.Views.Readings.{number_or}
use Rattle.asm_defs.specs.Results.{◌>>=◌}
use Rattle.nook_data.specs.Valid.{AreWords, IsWord, IsValidImage, IsValidKind, IsValidFault, IsValidBadBlock, FitsClass}
use Rattle.nook_data.specs.Valid.{IsValidPart, are_distinct}
use Rattle.nook_data.specs.Views.Limits.{IsValidFrame}
use Rattle.asm_defs.specs.declared.assembler.AsmFault.{AsmFault}
use Rattle.nook_data.specs.declared.scenario.BadBlock.{BadBlock}
use Rattle.nook_data.specs.declared.classes.Class.{Class}
use Rattle.nook_data.specs.declared.classes.Class.TheVariants as class
use Rattle.nook_data.specs.declared.scenario.Fault.{Fault}
use Rattle.nook_data.specs.declared.scenario.FaultKind.{FaultKind}
use Rattle.nook_data.specs.declared.scenario.FaultKind.TheVariants as strikes
use Rattle.nook_data.specs.declared.scenario.Image.{Image}
use Rattle.nook_data.specs.declared.scenario.PartSpec.{PartSpec}
use Rattle.nook_data.specs.declared.scenario.FaultName.{FaultName}
use Rattle.nook_data.specs.declared.scenario.FaultName.TheVariants as named
use Rattle.input_defs.specs.declared.input.InputFault.TheVariants as fault
use Rattle.asm_defs.specs.declared.keys.Key.TheVariants as key
use Rattle.input_defs.specs.declared.input.PathStep.TheVariants as step
use Rattle.input_defs.specs.declared.input.Refusal.{Refusal}
use Rattle.reading_laws.proofs.AssembledRead.{assembled_is_valid}
use Rattle.reading_laws.proofs.ImagesRead.{image_is_valid}
use Rattle.reading_laws.proofs.Names.{IsNewName, name_holds, distinct_push}
use Rattle.reading_laws.proofs.Readings.{any, chained, passed, less, beneath, required_holds, optional_holds, number_holds, number_at_holds, number_or_holds, IsBetween, Listed, list_holds, each_holds}

-- ---- words

pub a_word : (n : ℕ) → IsBetween 0 4294967295 n → IsWord n
a_word n h = omega (arith, h.1)

pub word_at_holds : (k : _) (d : Data) → IfOk (number_at k 0 4294967295 d) IsWord
word_at_holds k d = less (IsBetween 0 4294967295) IsWord (number_at k 0 4294967295 d) (number_at_holds k 0 4294967295 d) a_word

pub numbers_hold : (least most : ℕ) (d : Data) → IfOk (numbers_of least most 4294967295 d) (Listed (All IsWord) least most)
numbers_hold least most d =
    each_holds IsWord (λ earlier. whole_number 0 4294967295) least most
    (λ earlier d'. less (IsBetween 0 4294967295) IsWord (whole_number 0 4294967295 d') (number_holds 0 4294967295 d') a_word) d

-- ---- faults

poke_valid : (address value : ℕ) → IsWord address → IsWord value → IsValidKind (strikes.Poke address value)
poke_valid address value h k = (h, k)

code_valid : (address value : ℕ) → IsWord address → IsWord value → IsValidKind (strikes.Code address value)
code_valid address value h k = (h, k)

reg_valid : (register value : ℕ) → IsBetween 0 15 register → IsWord value → IsValidKind (strikes.Reg register value)
reg_valid register value h k = (h.1, k)

-- two numbers, of which the second is a word
two_numbers : (P : ℕ → Type 0) (r : Result ℕ Refusal) (d : Data) (makes : ℕ → ℕ → FaultKind) → IfOk r P
    → ((first second : ℕ) → P first → IsWord second → IsValidKind (makes first second))
    → IfOk (r >>= λ first. number_at key.Value 0 4294967295 d >>= λ second. let read : Result FaultKind Refusal = Ok (makes first second) in read) IsValidKind
two_numbers P r d makes h valid =
    chained P IsValidKind r (λ first. number_at key.Value 0 4294967295 d >>= λ second. let read : Result FaultKind Refusal = Ok (makes first second) in read) h
    (λ first hf. chained IsWord IsValidKind (number_at key.Value 0 4294967295 d) (λ second. let read : Result FaultKind Refusal = Ok (makes first second) in read)
    (word_at_holds key.Value d) (λ second hs. valid first second hf hs))

pub kind_holds : (name : FaultName) (d : Data) → IfOk (fault_kind name d) IsValidKind
unfolding fault_kind
kind_holds named.Trap d = tt
kind_holds named.Hang d = tt
kind_holds named.Poke d = two_numbers IsWord (number_at key.Address 0 4294967295 d) d strikes.Poke (word_at_holds key.Address d) poke_valid
kind_holds named.Code d = two_numbers IsWord (number_at key.Address 0 4294967295 d) d strikes.Code (word_at_holds key.Address d) code_valid
kind_holds named.Reg d = two_numbers (IsBetween 0 15) (number_at key.Register 0 15 d) d strikes.Reg (number_at_holds key.Register 0 15 d) reg_valid

valid_fault : (burst after : ℕ) (kind : FaultKind) → IsBetween 1 4294967295 burst → IsBetween 0 4095 after → IsValidKind kind
    → IsValidFault (record { burst = burst; after = after; kind = kind })
valid_fault burst after kind hb ha hk = record { burst = (hb.0, omega (arith, hb.1)); after = ha.1; kind = hk }

abbrev reads_kind : FaultName → Data → ℕ → ℕ → Result Fault Refusal
reads_kind name d burst after = fault_kind name d >>= λ kind. let read : Result Fault Refusal = Ok (record { burst = burst; after = after; kind = kind }) in read

abbrev reads_after : FaultName → Data → ℕ → Result Fault Refusal
reads_after name d burst = number_at key.After 0 4095 d >>= reads_kind name d burst

abbrev reads_burst : FaultName → Data → Result Fault Refusal
reads_burst name d = number_at key.Burst 1 4294967295 d >>= reads_after name d

abbrev checks_fault : Data → FaultName → Result Fault Refusal
checks_fault d name = object_with (key.Burst ∷ key.After ∷ key.Kind ∷ fault_keys name) d >>= λ known. reads_burst name d

burst_then : (name : FaultName) (d : Data) → IfOk (reads_burst name d) IsValidFault
burst_then name d =
    chained (IsBetween 1 4294967295) IsValidFault (number_at key.Burst 1 4294967295 d) (reads_after name d) (number_at_holds key.Burst 1 4294967295 d)
    (λ burst hb. chained (IsBetween 0 4095) IsValidFault (number_at key.After 0 4095 d) (reads_kind name d burst) (number_at_holds key.After 0 4095 d)
    (λ after ha. chained IsValidKind IsValidFault (fault_kind name d) (λ kind. let read : Result Fault Refusal = Ok (record { burst = burst; after = after; kind = kind }) in read)
    (kind_holds name d) (λ kind hk. valid_fault burst after kind hb ha hk)))

pub fault_holds : (d : Data) → IfOk (fault_of d) IsValidFault
unfolding fault_of
fault_holds d =
    passed IsValidFault (is_object d) (λ members. required key.Kind (named_of fault_named) d >>= checks_fault d)
    (λ members. passed IsValidFault (required key.Kind (named_of fault_named) d) (checks_fault d)
    (λ name. passed IsValidFault (object_with (key.Burst ∷ key.After ∷ key.Kind ∷ fault_keys name) d) (λ known. reads_burst name d) (λ known. burst_then name d)))

faults_hold : (d : Data) → IfOk (faults_of d) (Listed (All IsValidFault) 0 64)
faults_hold d = each_holds IsValidFault (λ earlier. fault_of) 0 64 (λ earlier. fault_holds) d

-- ---- bad blocks

valid_bad : (blocks block after : ℕ) → 1 ≤ blocks → IsBetween 0 (blocks - 1) block → IsWord after → IsValidBadBlock blocks (record { block = block; after = after })
valid_bad blocks block after some h k = record { block = omega (arith, some, h.1); after = k }

abbrev reads_bad_after : Data → ℕ → Result BadBlock Refusal
reads_bad_after d block = number_at key.After 0 4294967295 d >>= λ after. let read : Result BadBlock Refusal = Ok (record { block = block; after = after }) in read

bad_holds : (blocks : ℕ) → 1 ≤ blocks → (d : Data) → IfOk (bad_block_of blocks d) (IsValidBadBlock blocks)
unfolding bad_block_of
bad_holds blocks some d =
    passed (IsValidBadBlock blocks) (object_with (key.Block ∷ key.After ∷ []) d) (λ known. number_at key.Block 0 (blocks - 1) d >>= reads_bad_after d)
    (λ known. chained (IsBetween 0 (blocks - 1)) (IsValidBadBlock blocks) (number_at key.Block 0 (blocks - 1) d) (reads_bad_after d) (number_at_holds key.Block 0 (blocks - 1) d)
    (λ block h. chained IsWord (IsValidBadBlock blocks) (number_at key.After 0 4294967295 d) (λ after. let read : Result BadBlock Refusal = Ok (record { block = block; after = after }) in read)
    (word_at_holds key.After d) (λ after k. valid_bad blocks block after some h k)))

bads_hold : (blocks : ℕ) → 1 ≤ blocks → (d : Data) → IfOk (bad_blocks_of blocks d) (Listed (All (IsValidBadBlock blocks)) 0 64)
bads_hold blocks some d = each_holds (IsValidBadBlock blocks) (λ earlier. bad_block_of blocks) 0 64 (λ earlier. bad_holds blocks some) d

-- ---- drivers

same_code : (a b : Class) → class_code a ≡ class_code b → a ≡ b
same_code class.Block class.Block h = refl
same_code class.Block class.Net h = absurd (omega (arith, h))
same_code class.Block class.Sound h = absurd (omega (arith, h))
same_code class.Net class.Block h = absurd (omega (arith, h))
same_code class.Net class.Net h = refl
same_code class.Net class.Sound h = absurd (omega (arith, h))
same_code class.Sound class.Block h = absurd (omega (arith, h))
same_code class.Sound class.Net h = absurd (omega (arith, h))
same_code class.Sound class.Sound h = refl

asm_or_bad : (r : Result Image AsmFault) → IfOk r IsValidImage → IfOk (or_bad_asm r) IsValidImage
asm_or_bad (Ok image) h = h
asm_or_bad (Err asm) h = tt

asm_holds : (d : Data) → IfOk (asm_of d) IsValidImage
asm_holds d = passed IsValidImage (text_of d) (λ text. or_bad_asm (assembled text)) (λ text. asm_or_bad (assembled text) (assembled_is_valid text))

image_or_asm : (o : Option Data) (d : Data) → IfOk (driver_image o d) IsValidImage
image_or_asm (Some text) d = beneath IsValidImage (step.At key.Asm) (asm_of text) (asm_holds text)
image_or_asm None d = required_holds IsValidImage key.Image image_of d image_is_valid

-- a valid image of this class
abbrev pub IsImageOf : Class → Image → Type 0
IsImageOf c image = IsValidImage image × (image.class ≡ c)

same_by : (c : Class) (image : Image) → IsValidImage image → (test : Bool) → same_class image.class c ≡ test
    → IfOk (refuse_if (not test) fault.BadImage >>= λ same. let read : Result Image Refusal = Ok image in read) (IsImageOf c)
same_by c image h false e = tt
same_by c image h true e = (h, same_code image.class c (eqb-true (class_code image.class) (class_code c) e))

abbrev checks_class : Class → Image → Result Image Refusal
checks_class c image = refuse_if (not (same_class image.class c)) fault.BadImage >>= λ same. let read : Result Image Refusal = Ok image in read

abbrev reads_driver : Class → Data → Result Image Refusal
reads_driver c d = driver_image (get (key_text key.Asm) d) d >>= checks_class c

driver_then : (c : Class) (d : Data) → IfOk (reads_driver c d) (IsImageOf c)
driver_then c d =
    chained IsValidImage (IsImageOf c) (driver_image (get (key_text key.Asm) d) d) (checks_class c) (image_or_asm (get (key_text key.Asm) d) d)
    (λ image h. same_by c image h (same_class image.class c) refl)

driver_holds : (c : Class) (d : Data) → IfOk (driver_of c d) (IsImageOf c)
unfolding driver_of
driver_holds c d = let two = refuse_if (is_some (get (key_text key.Image) d) && is_some (get (key_text key.Asm) d)) fault.UnknownKey in
    passed (IsImageOf c) (object_with (key.Image ∷ key.Asm ∷ []) d) (λ known. two >>= λ one. reads_driver c d)
    (λ known. passed (IsImageOf c) two (λ one. reads_driver c d) (λ one. driver_then c d))

-- ---- parts

abbrev BlocksFit : Class → ℕ → Type 0
BlocksFit class.Block blocks = IsBetween 1 256 blocks
BlocksFit class.Net blocks = blocks ≡ 0
BlocksFit class.Sound blocks = blocks ≡ 0

blocks_hold : (c : Class) (d : Data) → IfOk (part_blocks c d) (BlocksFit c)
blocks_hold class.Block d = number_at_holds key.Blocks 1 256 d
blocks_hold class.Net d = refl
blocks_hold class.Sound d = refl

abbrev BadFits : Class → ℕ → List BadBlock → Type 0
BadFits class.Block blocks bad = Listed (All (IsValidBadBlock blocks)) 0 64 bad
BadFits class.Net blocks bad = bad ≡ []
BadFits class.Sound blocks bad = bad ≡ []

no_bads : (blocks : ℕ) → Listed (All (IsValidBadBlock blocks)) 0 64 []
no_bads blocks = (All-nil (IsValidBadBlock blocks), omega arith, omega arith)

bad_fits : (c : Class) (blocks : ℕ) (d : Data) → BlocksFit c blocks → IfOk (part_bad c blocks d) (BadFits c blocks)
bad_fits class.Block blocks d h =
    optional_holds (Listed (All (IsValidBadBlock blocks)) 0 64) key.Bad (bad_blocks_of blocks) [] d (bads_hold blocks h.0) (no_bads blocks)
bad_fits class.Net blocks d h = refl
bad_fits class.Sound blocks d h = refl

frame_valid : (frame : List ℕ) → Listed (All IsWord) 1 64 frame → IsValidFrame frame
frame_valid frame h = (h.1, (h.2, h.0))

frame_holds : (earlier : List (List ℕ)) (d : Data) → IfOk (frame_of earlier d) IsValidFrame
frame_holds earlier d = less (Listed (All IsWord) 1 64) IsValidFrame (frame_of earlier d) (numbers_hold 1 64 d) frame_valid

frames_hold : (d : Data) → IfOk (frames_of d) (Listed (All IsValidFrame) 0 256)
frames_hold d = each_holds IsValidFrame frame_of 0 256 frame_holds d

abbrev ArrivalsFit : Class → List (List ℕ) → Type 0
ArrivalsFit class.Net arrivals = Listed (All IsValidFrame) 0 256 arrivals
ArrivalsFit class.Block arrivals = arrivals ≡ []
ArrivalsFit class.Sound arrivals = arrivals ≡ []

no_frames : Listed (All IsValidFrame) 0 256 []
no_frames = (All-nil IsValidFrame, omega arith, omega arith)

arrivals_hold : (c : Class) (d : Data) → IfOk (part_arrivals c d) (ArrivalsFit c)
arrivals_hold class.Net d = optional_holds (Listed (All IsValidFrame) 0 256) key.Arrivals frames_of [] d frames_hold no_frames
arrivals_hold class.Block d = refl
arrivals_hold class.Sound d = refl

abbrev part_with : List ℕ → Class → ℕ → List BadBlock → ℕ → Image → List Fault → List (List ℕ) → PartSpec
part_with name c blocks bad limit image faults arrivals =
    record { name = name; class = c; blocks = blocks; bad = bad; limit = limit; image = image; faults = faults; arrivals = arrivals }

fits : (name : List ℕ) (c : Class) (blocks : ℕ) (bad : List BadBlock) (limit : ℕ) (image : Image) (faults : List Fault) (arrivals : List (List ℕ))
    → BlocksFit c blocks → BadFits c blocks bad → ArrivalsFit c arrivals → FitsClass c (part_with name c blocks bad limit image faults arrivals)
fits name class.Block blocks bad limit image faults arrivals hb hd ha = (hb.0, hb.1, ha)
fits name class.Net blocks bad limit image faults arrivals hb hd ha = (hb, hd, ha.2, ha.0)
fits name class.Sound blocks bad limit image faults arrivals hb hd ha = (hb, hd, ha)

bads_listed : (c : Class) (blocks : ℕ) (bad : List BadBlock) → BadFits c blocks bad → Listed (All (IsValidBadBlock blocks)) 0 64 bad
bads_listed class.Block blocks bad h = h
bads_listed class.Net blocks bad h = subst (Listed (All (IsValidBadBlock blocks)) 0 64) (sym h) (no_bads blocks)
bads_listed class.Sound blocks bad h = subst (Listed (All (IsValidBadBlock blocks)) 0 64) (sym h) (no_bads blocks)

-- a valid part whose name differs from the earlier ones
abbrev pub IsNewPart : List PartSpec → PartSpec → Type 0
IsNewPart earlier part = IsValidPart part × (is_among (part_names earlier) part.name ≡ false)

new_part : (earlier : List PartSpec) (name : List ℕ) (c : Class) (blocks : ℕ) (bad : List BadBlock) (limit : ℕ) (image : Image) (faults : List Fault) (arrivals : List (List ℕ))
    → IsNewName (part_names earlier) name → BlocksFit c blocks → BadFits c blocks bad → IsBetween 0 16 limit → IsImageOf c image
    → Listed (All IsValidFault) 0 64 faults → ArrivalsFit c arrivals → IsNewPart earlier (part_with name c blocks bad limit image faults arrivals)
new_part earlier name c blocks bad limit image faults arrivals hn hb hd hl hi hf ha = (
  record {
    name = hn.0;
    fits = fits name c blocks bad limit image faults arrivals hb hd ha;
    bad_count = (bads_listed c blocks bad hd).2;
    bad = (bads_listed c blocks bad hd).0;
    limit = hl.1;
    class = hi.1;
    image = hi.0;
    fault_count = hf.2;
    faults = hf.0;
  },
  hn.1,
)

no_faults : Listed (All IsValidFault) 0 64 []
no_faults = (All-nil IsValidFault, omega arith, omega arith)

-- the steps of the reading, last to first

abbrev reads_arrivals : Data → Class → List ℕ → ℕ → List BadBlock → ℕ → Image → List Fault → Result PartSpec Refusal
reads_arrivals d c name blocks bad limit image faults =
    part_arrivals c d >>= λ arrivals. let read : Result PartSpec Refusal = Ok (part_with name c blocks bad limit image faults arrivals) in read

abbrev reads_faults : Data → Class → List ℕ → ℕ → List BadBlock → ℕ → Image → Result PartSpec Refusal
reads_faults d c name blocks bad limit image = optional key.Faults faults_of [] d >>= reads_arrivals d c name blocks bad limit image

abbrev reads_image : Data → Class → List ℕ → ℕ → List BadBlock → ℕ → Result PartSpec Refusal
reads_image d c name blocks bad limit = required key.Driver (driver_of c) d >>= reads_faults d c name blocks bad limit

abbrev reads_limit : Data → Class → List ℕ → ℕ → List BadBlock → Result PartSpec Refusal
reads_limit d c name blocks bad = number_or key.Limit 0 16 0 d >>= reads_image d c name blocks bad

abbrev reads_bad : Data → Class → List ℕ → ℕ → Result PartSpec Refusal
reads_bad d c name blocks = part_bad c blocks d >>= reads_limit d c name blocks

abbrev reads_blocks : Data → Class → List ℕ → Result PartSpec Refusal
reads_blocks d c name = part_blocks c d >>= reads_bad d c name

abbrev reads_name : Data → List PartSpec → Class → Result PartSpec Refusal
reads_name d earlier c = required key.Name (name_of (part_names earlier)) d >>= reads_blocks d c

abbrev checks_part : ℕ → Data → List PartSpec → Class → Result PartSpec Refusal
checks_part version d earlier c = object_with (part_keys version c) d >>= λ known. reads_name d earlier c

arrivals_then : (earlier : List PartSpec) (d : Data) (c : Class) (name : List ℕ) (blocks : ℕ) (bad : List BadBlock) (limit : ℕ) (image : Image) (faults : List Fault)
    → IsNewName (part_names earlier) name → BlocksFit c blocks → BadFits c blocks bad → IsBetween 0 16 limit → IsImageOf c image
    → Listed (All IsValidFault) 0 64 faults → IfOk (reads_arrivals d c name blocks bad limit image faults) (IsNewPart earlier)
arrivals_then earlier d c name blocks bad limit image faults hn hb hd hl hi hf =
    chained (ArrivalsFit c) (IsNewPart earlier) (part_arrivals c d)
    (λ arrivals. let read : Result PartSpec Refusal = Ok (part_with name c blocks bad limit image faults arrivals) in read)
    (arrivals_hold c d) (λ arrivals ha. new_part earlier name c blocks bad limit image faults arrivals hn hb hd hl hi hf ha)

faults_then : (earlier : List PartSpec) (d : Data) (c : Class) (name : List ℕ) (blocks : ℕ) (bad : List BadBlock) (limit : ℕ) (image : Image)
    → IsNewName (part_names earlier) name → BlocksFit c blocks → BadFits c blocks bad → IsBetween 0 16 limit → IsImageOf c image
    → IfOk (reads_faults d c name blocks bad limit image) (IsNewPart earlier)
faults_then earlier d c name blocks bad limit image hn hb hd hl hi =
    chained (Listed (All IsValidFault) 0 64) (IsNewPart earlier) (optional key.Faults faults_of [] d) (reads_arrivals d c name blocks bad limit image)
    (optional_holds (Listed (All IsValidFault) 0 64) key.Faults faults_of [] d faults_hold no_faults)
    (λ faults hf. arrivals_then earlier d c name blocks bad limit image faults hn hb hd hl hi hf)

image_then : (earlier : List PartSpec) (d : Data) (c : Class) (name : List ℕ) (blocks : ℕ) (bad : List BadBlock) (limit : ℕ)
    → IsNewName (part_names earlier) name → BlocksFit c blocks → BadFits c blocks bad → IsBetween 0 16 limit
    → IfOk (reads_image d c name blocks bad limit) (IsNewPart earlier)
image_then earlier d c name blocks bad limit hn hb hd hl =
    chained (IsImageOf c) (IsNewPart earlier) (required key.Driver (driver_of c) d) (reads_faults d c name blocks bad limit)
    (required_holds (IsImageOf c) key.Driver (driver_of c) d (driver_holds c))
    (λ image hi. faults_then earlier d c name blocks bad limit image hn hb hd hl hi)

bad_then : (earlier : List PartSpec) (d : Data) (c : Class) (name : List ℕ) (blocks : ℕ)
    → IsNewName (part_names earlier) name → BlocksFit c blocks → IfOk (reads_bad d c name blocks) (IsNewPart earlier)
bad_then earlier d c name blocks hn hb =
    chained (BadFits c blocks) (IsNewPart earlier) (part_bad c blocks d) (reads_limit d c name blocks) (bad_fits c blocks d hb)
    (λ bad hd. chained (IsBetween 0 16) (IsNewPart earlier) (number_or key.Limit 0 16 0 d) (reads_image d c name blocks bad)
    (number_or_holds key.Limit 0 16 0 d (omega arith, omega arith))
    (λ limit hl. image_then earlier d c name blocks bad limit hn hb hd hl))

name_then : (earlier : List PartSpec) (d : Data) (c : Class) → IfOk (reads_name d earlier c) (IsNewPart earlier)
name_then earlier d c =
    chained (IsNewName (part_names earlier)) (IsNewPart earlier) (required key.Name (name_of (part_names earlier)) d) (reads_blocks d c)
    (required_holds (IsNewName (part_names earlier)) key.Name (name_of (part_names earlier)) d (name_holds (part_names earlier)))
    (λ name hn. chained (BlocksFit c) (IsNewPart earlier) (part_blocks c d) (reads_bad d c name) (blocks_hold c d)
    (λ blocks hb. bad_then earlier d c name blocks hn hb))

part_holds : (version : ℕ) (earlier : List PartSpec) (d : Data) → IfOk (part_of version earlier d) (IsNewPart earlier)
unfolding part_of
part_holds version earlier d =
    passed (IsNewPart earlier) (is_object d) (λ members. required key.Class known_class d >>= checks_part version d earlier)
    (λ members. passed (IsNewPart earlier) (required key.Class known_class d) (checks_part version d earlier)
    (λ c. passed (IsNewPart earlier) (object_with (part_keys version c) d) (λ known. reads_name d earlier c) (λ known. name_then earlier d c)))

-- ---- all parts

names_push : (parts : List PartSpec) (part : PartSpec) → part_names (parts ++ part ∷ []) ≡ part_names parts ++ part.name ∷ []
names_push [] part = refl
names_push (first ∷ more) part = ap (λ names. first.name ∷ names) (names_push more part)

-- valid parts with distinct names
abbrev pub ArePartsRead : List PartSpec → Type 0
ArePartsRead parts = All IsValidPart parts × (are_distinct (part_names parts) ≡ true)

one_more : (earlier : List PartSpec) → ArePartsRead earlier → (part : PartSpec) → IsNewPart earlier part → ArePartsRead (earlier ++ part ∷ [])
one_more earlier h part k = (
  All-push IsValidPart earlier part h.0 k.0,
  ap are_distinct (names_push earlier part) ∙ distinct_push (part_names earlier) part.name h.1 k.1,
)

pub parts_hold : (version : ℕ) (d : Data) → IfOk (list_of (part_of version) 1 8 d) (Listed ArePartsRead 1 8)
parts_hold version d =
    list_holds ArePartsRead (part_of version) 1 8
    (λ earlier d' h. less (IsNewPart earlier) (λ part. ArePartsRead (earlier ++ part ∷ [])) (part_of version earlier d') (part_holds version earlier d') (one_more earlier h))
    (All-nil IsValidPart, refl) d
