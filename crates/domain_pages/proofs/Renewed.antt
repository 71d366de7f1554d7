-- How the kernel objects and the text become again what they are at first.
use Rattle.std.proofs.Common.{◌≡◌, ◌≢◌, inl, inr, ℕ, zero, suc, ◌+◌, ◌-◌, ◌*◌, ◌/◌, ◌<◌, ◌≤◌, ◌==◌, ◌&&◌, nat_lt, if◌then◌else◌, List, [], false, length, get_or, set, replicate, arith, refl, sym, ap, ◌∙◌}
use Rattle.std.proofs.lemmas.Bool.{cases_eq}
use Rattle.std.proofs.lemmas.List.{get_or-set_same, get_or-set_other, get_or_append_left, get_or-append_right, get_or-replicate, length-replicate}
use Rattle.machine_defs.specs.Pages.{opening_memory, opening_object, opening_objects, padded_words, with_words}
use Rattle.machine_defs.specs.Views.PageMap.{opening_pages}
use Rattle.domain_pages.specs.Frames.{shown, opening_table}
use Rattle.domain_pages.proofs.Shown.{lent_opening, map_of, shown_begun, take_opening, words_at}
use Rattle.domain_pages.proofs.Texts.{shown_same}

-- the word at an index of the objects' pages if the first objects have their numbers
abbrev pub number_at : ℕ → ℕ → ℕ
number_at done i = if nat_lt (i / 64) done && (i / 64 * 64 == i) then i / 64 else 0

-- the first objects have their numbers
abbrev pub AreNumbered : ℕ → List ℕ → Type 0
AreNumbered done frames = (k : ℕ) → 7360 ≤ k → k < 8192 → get_or frames k 0 ≡ number_at done (k - 7360)

object_first : (o n p : ℕ) → p < n → get_or (opening_objects o n) (p * 64) 0 ≡ o + p
object_first o zero p low = absurd (omega arith)
object_first o (suc n) zero low = omega arith
object_first o (suc n) (suc p) low =
    get_or-append_right (opening_object o) (opening_objects (suc o) n) 64 (suc p * 64) 0 refl (omega arith)
    ∙ ap (λ i. get_or (opening_objects (suc o) n) i 0) (omega arith)
    ∙ object_first (suc o) n p (omega arith)
    ∙ omega arith

object_rest : (o n p j : ℕ) → p < n → 0 < j → j < 64 → get_or (opening_objects o n) (p * 64 + j) 0 ≡ 0
object_rest o zero p j low some few = absurd (omega arith)
object_rest o (suc n) zero (suc j) low some few =
    let here : 0 * 64 + suc j ≡ suc j = omega arith in
    ap (λ i. get_or (opening_objects o (suc n)) i 0) here
    ∙ get_or_append_left (opening_object o) (opening_objects (suc o) n) 0 (suc j) few
    ∙ get_or-replicate 63 j 0 0 (omega arith)
object_rest o (suc n) zero zero low some few = absurd (omega arith)
object_rest o (suc n) (suc p) j low some few =
    get_or-append_right (opening_object o) (opening_objects (suc o) n) 64 (suc p * 64 + j) 0 refl (omega arith)
    ∙ ap (λ i. get_or (opening_objects (suc o) n) i 0) (omega arith)
    ∙ object_rest (suc o) n p j (omega arith) some few

object_at : (i : ℕ) → i < 832 → get_or (opening_objects 0 13) i 0 ≡ number_at 13 i
object_at i low = elim (cases_eq (i / 64 * 64) i) [
  | inl here ↦
      ap (λ j. get_or (opening_objects 0 13) j 0) (sym here)
      ∙ object_first 0 13 (i / 64) (omega arith)
      ∙ numbered i low here
  | inr there ↦
      ap (λ j. get_or (opening_objects 0 13) j 0) (sym (rest i))
      ∙ object_rest 0 13 (i / 64) (i - i / 64 * 64) (omega arith) (omega (arith, there)) (omega arith)
      ∙ not_numbered i there
]
  where
    numbered : (i : ℕ) → i < 832 → i / 64 * 64 ≡ i → 0 + i / 64 ≡ number_at 13 i
    numbered i low here = grind arith

    not_numbered : (i : ℕ) → i / 64 * 64 ≢ i → 0 ≡ number_at 13 i
    not_numbered i there = grind arith

    rest : (i : ℕ) → i / 64 * 64 + (i - i / 64 * 64) ≡ i
    rest i = omega arith

-- zeros were written
pub none_numbered : (memory : List ℕ) → length memory ≡ 8192 → AreNumbered 1 (with_words 7360 (padded_words 832 []) memory)
none_numbered memory size k low high =
    (words_at 7360 (replicate 832 0) memory k (omega (arith, size, length-replicate {A = ℕ} 832 0))).1 low (omega (arith, length-replicate {A = ℕ} 832 0))
    ∙ get_or-replicate 832 (k - 7360) 0 0 (omega arith)
    ∙ zeros (k - 7360)
  where
    zeros : (i : ℕ) → 0 ≡ number_at 1 i
    zeros i = grind arith

-- one more object has its number
pub more_numbered : (frames : List ℕ) (object at : ℕ) → length frames ≡ 8192 → object < 13 → at ≡ 7360 + 64 * object → AreNumbered object frames → AreNumbered (object + 1) (set frames at object)
more_numbered frames object at size low is before k from below = elim (cases_eq k at) [
  | inl here ↦ rw here (get_or-set_same frames at object 0 (omega arith)) ∙ numbered object (k - 7360) (omega (arith, here, is))
  | inr there ↦ get_or-set_other frames at k object 0 there ∙ before k from below ∙ same object (k - 7360) (omega (arith, there, is, from))
]
  where
    numbered : (o i : ℕ) → i ≡ 64 * o → o ≡ number_at (o + 1) i
    numbered o i is = grind arith

    same : (o i : ℕ) → i ≢ 64 * o → number_at o i ≡ number_at (o + 1) i
    same o i differs = grind arith

-- all objects have their numbers
pub all_numbered : (frames : List ℕ) → AreNumbered 13 frames → (k : ℕ) → 7360 ≤ k → k < 8192 → get_or frames k 0 ≡ get_or (opening_memory []) k 0
unfolding opening_memory
all_numbered frames done k low high =
    done k low high
    ∙ sym (object_at (k - 7360) (omega arith))
    ∙ sym (get_or-append_right (replicate 7360 0) (opening_objects 0 13) 7360 k 0 (length-replicate {A = ℕ} 7360 0) low)

-- the map of a new domain, in the memory of another
pub shown_renewed : (frames texts : List ℕ) → length frames ≡ 8192 → ((k : ℕ) → 7360 ≤ k → k < 8192 → get_or frames k 0 ≡ get_or (opening_memory []) k 0) → ((k : ℕ) → get_or texts k 0 ≡ get_or {A = ℕ} [] k 0) → shown opening_table frames texts [] ≡ opening_memory []
shown_renewed frames texts size begun zeros =
    shown_same opening_table frames [] texts [] (λ k low. inl (zeros k)) ∙ shown_begun frames size begun

pub map_renewed : (items frames texts words : List ℕ) → items ≡ frames → texts ≡ words → length frames ≡ 8192 → ((k : ℕ) → 7360 ≤ k → k < 8192 → get_or frames k 0 ≡ get_or (opening_memory []) k 0) → ((k : ℕ) → get_or words k 0 ≡ get_or {A = ℕ} [] k 0) → map_of opening_table items texts [] (replicate 17 false) ≡ opening_pages
map_renewed items frames texts words back texts_back size begun zeros =
    rw (back, texts_back, shown_renewed frames words size begun zeros, take_opening, lent_opening) refl
