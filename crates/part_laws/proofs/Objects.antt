use Rattle.std.proofs.Common.{◌≡◌, ◌≢◌, inl, inr, ℕ, ◌+◌, ◌-◌, ◌/◌, ◌%◌, ◌<◌, ◌≤◌, ◌==◌, ◌&&◌, nat_le, nat_lt, false, Option, Some, None, List, [], ◌∷◌, ◌++◌, length, take, drop, slice_index, slice_set, refl, ap, ◌∙◌, arith, length-append, length-drop, get_or-drop, get_or-set_other, eqb-true}
use Rattle.std.specs.List.{list_any}
use Rattle.std.proofs.lemmas.Bool.{and_parts, and_left, and_right, or_from, le-ltb, ltb-true, leb-true, cases_order}
use Rattle.std.proofs.lemmas.List.{get_or-append_right, drop-set-add, set-append_left, set_at, length-set}
use Rattle.nook_data.specs.declared.classes.Class.{Class}
use Rattle.nook_data.specs.declared.entries.Entry.{Entry}
use Rattle.nook_data.specs.declared.scenario.Fault.{Fault}
use Rattle.nook_data.specs.declared.scenario.FaultKind.{FaultKind}
use Rattle.nook_data.specs.declared.scenario.FaultKind.TheVariants as fault
use Rattle.nook_data.specs.declared.scenario.Image.{Image}
use Rattle.nook_data.specs.declared.calls.Op.{Op}
use Rattle.nook_data.specs.declared.calls.Op.TheVariants as op
use Rattle.machine_defs.specs.Burst.{burst}
use Rattle.nook_data.specs.Classes.{static_check, check_op, check_length, is_block_length, is_of_class}
use Rattle.part_defs.specs.Domain.{Lent, buffer_of, lent_memory}
use Rattle.promise_defs.specs.Isolation.{writes_code}
use Rattle.machine_defs.proofs.MachineCases.{is_code_at}
use Rattle.machine_defs.specs.Pages.{may_write, is_lent, object_words, with_words, padded_words, loaded_memory}
use Rattle.nook_data.specs.Layout.{object_start, buffer_start}
use Rattle.machine_defs.specs.Execution.{Machine}
use Rattle.machine_defs.proofs.BurstKeeps.{split}
use Rattle.part_laws.proofs.BurstIsolation.{changes_only_allowed, burst_keeps_length}
use Rattle.part_laws.proofs.Words.{same_range, length-with_words, with_words_below, with_words_above, with_words_there, take-set}
use Rattle.machine_defs.proofs.Padded.{length-padded_words}

-- Which changes of memory keep the kernel objects.

-- memory keeps its length and all words of the objects
pub record SameObjects (before after : List ℕ) : Type 0 where
  pub lengths : length after ≡ length before
  pub words : (i : ℕ) → 7360 ≤ i → slice_index after i ≡ slice_index before i

pub nothing_changed : (memory : List ℕ) → SameObjects memory memory
nothing_changed memory = record { lengths = refl; words = λ i h. refl }

pub object_stays : (object : ℕ) (before after : List ℕ) → SameObjects before after
    → object_words object after ≡ object_words object before
object_stays object before after s =
    same_range after before (object_start object) (object_start object + 64) s.lengths (λ i low high. s.words i (omega arith))

pub words_put : (start : ℕ) (words memory : List ℕ) → length memory ≡ 8192 → start + length words ≤ 7360
    → SameObjects memory (with_words start words memory)
words_put start words memory h room = record {
  lengths = length-with_words start words memory (omega arith);
  words = λ i low. with_words_above start words memory i (omega arith) (omega arith);
}

-- a call's buffer

abbrev pub FitsBuffer : Option Lent → Type 0
FitsBuffer None = Unit {0}
FitsBuffer (Some l) = length l.words ≤ 128

pub lent_keeps : (context : ℕ) (o : Option Lent) (memory : List ℕ) → length memory ≡ 8192 → context ≤ 16 → FitsBuffer o
    → SameObjects memory (lent_memory context o memory)
lent_keeps context None memory h c f = nothing_changed memory
lent_keeps context (Some l) memory h c f =
    let n : length (padded_words 128 l.words) ≡ 128 = length-padded_words 128 l.words f in
    words_put (buffer_start context) (padded_words 128 l.words) memory h (omega arith)

-- properties of an operation that passed the static check

no_answer : {X : Type 0} {x : X} {G : Type 0} → Some x ≡ None → G
no_answer h = cc

checked_op : (c : Class) (blocks : ℕ) (o : Op) → static_check c blocks o ≡ None → check_op c blocks o ≡ None
checked_op c blocks o h = split (is_of_class c o)
    (λ e. rw e at h)
    (λ e. no_answer (rw e at h))

short_words : (words : List ℕ) → check_length words ≡ None → length words ≤ 64
short_words words h = split (nat_le 1 (length words) && nat_le (length words) 64)
    (λ e. leb-true (length words) 64 (and_parts (nat_le 1 (length words)) (nat_le (length words) 64) e).1)
    (λ e. no_answer (rw e at h))

pub op_fits_buffer : (c : Class) (blocks : ℕ) (o : Op) → static_check c blocks o ≡ None → FitsBuffer (buffer_of o)
op_fits_buffer c blocks (op.Read first count) h = omega arith
op_fits_buffer c blocks (op.Write first words) h =
    let k : check_op c blocks (op.Write first words) ≡ None = checked_op c blocks (op.Write first words) h in
    split (is_block_length (length words))
    (λ e. leb-true (length words) 128 (and_parts (nat_le 16 (length words)) (nat_le (length words) 128)
    (and_parts (nat_le 16 (length words) && nat_le (length words) 128) (length words % 16 == 0) e).0).1)
    (λ e. no_answer (rw e at k))
op_fits_buffer c blocks (op.Send frame) h =
    let k : length frame ≤ 64 = short_words frame (checked_op c blocks (op.Send frame) h) in omega arith
op_fits_buffer c blocks op.Recv h = tt
op_fits_buffer c blocks op.Open h = tt
op_fits_buffer c blocks (op.Play samples) h =
    let k : length samples ≤ 64 = short_words samples (checked_op c blocks (op.Play samples) h) in omega arith
op_fits_buffer c blocks op.Close h = tt
op_fits_buffer c blocks (op.Get key) h = omega arith
op_fits_buffer c blocks (op.Set key value) h = tt

pub set_key : (c : Class) (blocks key value : ℕ) → static_check c blocks (op.Set key value) ≡ None → key < 4
set_key c blocks key value h =
    let k : check_op c blocks (op.Set key value) ≡ None = checked_op c blocks (op.Set key value) h in
    split (nat_le key 3)
    (λ e. let low : key ≤ 3 = leb-true key 3 e in omega arith)
    (λ e. no_answer (rw e at k))

-- an image that is loaded

pub load_keeps : (image : Image) (memory : List ℕ) → length memory ≡ 8192 → length image.text ≤ 2048 → length image.initial ≤ 2048
    → SameObjects memory (loaded_memory image memory)
unfolding loaded_memory
load_keeps image memory h text initial =
    let t : length (padded_words 2048 image.text) ≡ 2048 = length-padded_words 2048 image.text text in
    let n : length (padded_words 5312 image.initial) ≡ 5312 = length-padded_words 5312 image.initial (omega arith) in
    let rest : length (drop 7360 memory) ≡ length memory - 7360 = length-drop 7360 memory in
    let both : length (padded_words 5312 image.initial ++ drop 7360 memory) ≡ length (padded_words 5312 image.initial) + length (drop 7360 memory)
    = length-append (padded_words 5312 image.initial) (drop 7360 memory) in
    let all : length (padded_words 2048 image.text ++ (padded_words 5312 image.initial ++ drop 7360 memory))
    ≡ length (padded_words 2048 image.text) + length (padded_words 5312 image.initial ++ drop 7360 memory)
    = length-append (padded_words 2048 image.text) (padded_words 5312 image.initial ++ drop 7360 memory) in
    record {
      lengths = omega arith;
      words = λ i low.
          let e : 7360 + (i - 2048 - 5312) ≡ i = omega arith in
          get_or-append_right (padded_words 2048 image.text) (padded_words 5312 image.initial ++ drop 7360 memory) 2048 i 0 t (omega arith)
          ∙ get_or-append_right (padded_words 5312 image.initial) (drop 7360 memory) 5312 (i - 2048) 0 n (omega arith)
          ∙ get_or-drop 7360 memory (i - 2048 - 5312) 0
          ∙ ap (λ (k : ℕ). slice_index memory k) e;
    }

-- a burst

no_right : (entries : List Entry) (address : ℕ) → 7360 ≤ address → may_write entries address ≡ false
no_right entries address h =
    let data' : nat_lt address 5184 ≡ false = le-ltb address 5184 (omega arith) in
    let buffers : nat_lt address 7360 ≡ false = le-ltb address 7360 h in
    or_from (nat_le 2048 address && nat_lt address 5184) ((nat_le 5184 address && nat_lt address 7360) && is_lent entries ((address - 5184) / 128))
    (and_right (nat_le 2048 address) (nat_lt address 5184) data')
    (and_left (nat_le 5184 address && nat_lt address 7360) (is_lent entries ((address - 5184) / 128))
    (and_right (nat_le 5184 address) (nat_lt address 7360) buffers))

not_code : (address : ℕ) (k : FaultKind) → 7360 ≤ address → is_code_at address k ≡ false
not_code address (fault.Code a value) h = split (nat_lt a 2048)
    (λ e. split (a == address)
    (λ same. let low : a < 2048 = ltb-true a 2048 e in let e' : a ≡ address = eqb-true a address same in absurd (omega arith))
    (λ other. and_right (nat_lt a 2048) (a == address) other))
    (λ e. and_left (nat_lt a 2048) (a == address) e)
not_code address _ h = refl

no_code_named : (address : ℕ) (faults : List Fault) → 7360 ≤ address → list_any (writes_code address) faults ≡ false
no_code_named address [] h = refl
no_code_named address (f ∷ faults) h =
    or_from (writes_code address f) (list_any (writes_code address) faults) (not_code address f.kind h) (no_code_named address faults h)

pub burst_keeps_objects : (entries : List Entry) (faults : List Fault) (m : Machine)
    → SameObjects m.memory (burst entries faults m).machine.memory
burst_keeps_objects entries faults m = record {
  lengths = burst_keeps_length entries faults m;
  words = λ i low. changes_only_allowed entries faults m i (no_right entries i low) (no_code_named i faults low);
}

-- an object that takes the words of its copy

pub object_taken : (object : ℕ) (words memory : List ℕ) → length memory ≡ 8192 → length words ≡ 64 → object ≤ 12
    → object_words object (with_words (object_start object) words memory) ≡ words
object_taken object words memory h n o =
    with_words_there (object_start object) words memory (object_start object + 64) (omega arith) (omega arith)

pub other_object_stays : (object other : ℕ) (words memory : List ℕ) → length memory ≡ 8192 → length words ≡ 64 → object ≤ 12 → other ≢ object
    → object_words other (with_words (object_start object) words memory) ≡ object_words other memory
other_object_stays object other words memory h n o apart =
    same_range (with_words (object_start object) words memory) memory (object_start other) (object_start other + 64)
    (length-with_words (object_start object) words memory (omega arith))
    (λ i low high. elim (cases_order other object) [
      | inl e ↦ absurd (apart e)
      | inr (inl less) ↦ with_words_below (object_start object) words memory i (omega arith) (omega arith)
      | inr (inr more) ↦ with_words_above (object_start object) words memory i (omega arith) (omega arith)
    ])

-- a word of object 0

pub kernel_word : (word value : ℕ) (memory : List ℕ)
    → object_words 0 (slice_set memory (object_start 0 + word) value) ≡ slice_set (object_words 0 memory) word value
kernel_word word value memory = ap (take 64) (drop-set-add 7360 memory word value) ∙ take-set 64 (drop 7360 memory) word value

pub kernel_word_elsewhere : (object word value : ℕ) (memory : List ℕ) → 1 ≤ object → word < 64
    → object_words object (slice_set memory (object_start 0 + word) value) ≡ object_words object memory
kernel_word_elsewhere object word value memory one w =
    same_range (slice_set memory (object_start 0 + word) value) memory (object_start object) (object_start object + 64)
    (length-set memory (object_start 0 + word) value)
    (λ i low high. get_or-set_other memory (object_start 0 + word) i value 0 (omega arith))

pub set_reported : (config : List ℕ) (key value : ℕ) (rest : List ℕ) → length config ≡ 4 → key < 4
    → slice_set (config ++ rest) key value ≡ slice_set config key value ++ rest
set_reported config key value rest n k = set-append_left config rest key value (omega arith)

pub failures_reported : (config : List ℕ) (failures more : ℕ) (rest : List ℕ) → length config ≡ 4
    → slice_set (config ++ (failures ∷ rest)) 4 more ≡ config ++ (more ∷ rest)
failures_reported config failures more rest n = set_at config failures rest more 4 n
