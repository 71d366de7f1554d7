use Rattle.std.proofs.Common.{◌≡◌, ◌⊎◌, inl, inr, ℕ, ◌+◌, ◌-◌, ◌≤◌, ◌==◌, ◌&&◌, nat_le, not, Bool, true, false, Option, Some, None, Result, Ok, List, length, slice_range, refl, sym, ap, ◌∙◌, arith, eqb-true}
use Rattle.std.specs.List.{list_any, AllByRecursion}
use Rattle.std.proofs.lemmas.Bool.{and_parts, leb-true, cases_eq}
use Rattle.nook_data.specs.declared.classes.Class.{Class}
use Rattle.nook_data.specs.declared.classes.Class.TheVariants as class
use Rattle.nook_data.specs.declared.entries.Entry.{Entry}
use Rattle.nook_data.specs.declared.entries.Entry.TheVariants as entry
use Rattle.nook_data.specs.declared.machine.BadParam.{BadParam}
use Rattle.nook_data.specs.declared.machine.Service.{Service}
use Rattle.nook_data.specs.declared.machine.Service.TheVariants as service
use Rattle.nook_data.specs.Classes.{same_class, class_code}
use Rattle.machine_defs.specs.Entries.{is_borrow_of, is_heap_at, is_registered, free_start, borrow_start, registered}
use Rattle.machine_defs.specs.Entries.{without_heap}
use Rattle.machine_defs.specs.Pages.{object_words, with_words}
use Rattle.nook_data.specs.Layout.{object_start}
use Rattle.machine_defs.specs.Services.{needs, checked, checked_frame, is_frame_length, tested_length, Served, served}
use Rattle.machine_defs.specs.Services.{alloc_served, borrow_served, give_back_served, frame_served, plainly_served}
use Rattle.machine_defs.proofs.BurstKeeps.{split}
use Rattle.part_laws.proofs.EntriesFit.{with_entry_fits, filter_fits, registered_fits, with_entry_ordered, registered_ordered, without_heap_ordered, without_borrow_ordered, free_start_within, IsBorrowedAt, borrowed_at}
use Rattle.part_laws.proofs.Objects.{SameObjects, object_stays, words_put, object_taken, other_object_stays}
use Rattle.part_laws.proofs.Words.{length-slice_range, length-with_words}
use Rattle.part_laws.specs.Fit.{IsFitEntry, IsOrdered}

-- What each service keeps.

-- what a passed check says of the call's number and first argument
abbrev pub Says : ℕ → ℕ → Result Service BadParam → Type 0
Says number first (Ok (service.GiveBack object)) = (number ≡ 5) × (first ≡ object)
Says number first (Ok (service.Borrow object)) = (1 ≤ object) × (object ≤ 12)
Says number first _ = Unit {0}

needs_says : (number first : ℕ) (passes : Bool) (n argument : ℕ) (s : Service) → (passes ≡ true → Says number first (Ok s))
    → Says number first (needs passes n argument s)
needs_says number first true n argument s h = h refl
needs_says number first false n argument s h = tt

frame_says : (number first second : ℕ) (c : Class) → Says number first (checked_frame first second c)
frame_says number first second c = split (not (same_class c class.Net))
    (λ other. rw other tt)
    (λ net. split (not (nat_le 2048 first && nat_le (first + tested_length second) 7360))
    (λ bad. rw (net, bad) tt)
    (λ good. rw (net, good) (needs_says number first (is_frame_length second) 6 2 (service.NetRx first second) (λ e. tt))))

pub checked_says : (number first second : ℕ) (c : Class) (entries : List Entry) → Says number first (checked number first second c entries)
checked_says number first second c entries = split (number == 1)
    (λ e. rw e (needs_says number first (nat_le 1 first && nat_le first 2048) 1 1 (service.Alloc first) (λ h. tt)))
    (λ n1. split (number == 2)
    (λ e. rw (n1, e) (needs_says number first (list_any (is_heap_at first) entries) 2 1 (service.Free first) (λ h. tt)))
    (λ n2. split (number == 3)
    (λ e. rw (n1, n2, e) (needs_says number first (first == class_code c && not (is_registered entries)) 3 1 service.Register (λ h. tt)))
    (λ n3. split (number == 4)
    (λ e. rw (n1, n2, n3, e) (needs_says number first ((nat_le 1 first && nat_le first 12) && not (list_any (is_borrow_of first) entries)) 4 1 (service.Borrow first)
    (λ h. object_range (and_parts (nat_le 1 first) (nat_le first 12) (and_parts (nat_le 1 first && nat_le first 12) (not (list_any (is_borrow_of first) entries)) h).0))))
    (λ n4. split (number == 5)
    (λ e. rw (n1, n2, n3, n4, e) (needs_says number first (list_any (is_borrow_of first) entries) 5 1 (service.GiveBack first)
    (λ h. (eqb-true number 5 e, refl))))
    (λ n5. split (number == 6)
    (λ e. rw (n1, n2, n3, n4, n5, e) (frame_says number first second c))
    (λ n6. split (number == 7)
    (λ e. rw (n1, n2, n3, n4, n5, n6, e) tt)
    (λ n7. split (number == 8)
    (λ e. rw (n1, n2, n3, n4, n5, n6, n7, e) tt)
    (λ n8. rw (n1, n2, n3, n4, n5, n6, n7, n8) tt))))))))
  where
    object_range : (nat_le 1 first ≡ true) × (nat_le first 12 ≡ true) → (1 ≤ first) × (first ≤ 12)
    object_range h = (leb-true 1 first h.0, leb-true first 12 h.1)

-- after a service memory has its length, entries fit, and an object 1 to 12 is unchanged or given back
pub record ServedKept (heap number first : ℕ) (was : List ℕ) (held : List Entry) (s : Served) : Type 0 where
  pub memory : length s.memory ≡ 8192
  pub entries : AllByRecursion (IsFitEntry heap) s.entries
  pub ordered : IsOrdered s.entries
  pub kernel : object_words 0 s.memory ≡ object_words 0 was
  pub objects : (object : ℕ) → (object_words object s.memory ≡ object_words object was)
      ⊎ ((list_any (is_borrow_of object) held ≡ true) × (number ≡ 5) × (first ≡ object) × (s.moved ≡ object_words object s.memory))

module _ (heap number first : ℕ) (memory : List ℕ) (entries : List Entry) (queue : List (List ℕ))
    (low : 2048 ≤ heap) (n : length memory ≡ 8192) (fit : AllByRecursion (IsFitEntry heap) entries) (ordered : IsOrdered entries) where
  plain : (s : Served) → s.memory ≡ memory → AllByRecursion (IsFitEntry heap) s.entries → IsOrdered s.entries
      → ServedKept heap number first memory entries s
  plain s e f o = record {
    memory = ap length e ∙ n;
    entries = f;
    ordered = o;
    kernel = ap (object_words 0) e;
    objects = λ object. inl (ap (object_words object) e);
  }

  alloc_kept : (len : ℕ) (o : Option ℕ) → free_start heap len entries ≡ o
      → ServedKept heap number first memory entries (alloc_served len o memory entries queue)
  alloc_kept len None e = plain (alloc_served len None memory entries queue) refl fit ordered
  alloc_kept len (Some start) e = plain (alloc_served len (Some start) memory entries queue) refl
      (with_entry_fits heap (entry.Heap start len) entries (free_start_within heap len entries start e) fit)
      (with_entry_ordered (entry.Heap start len) entries refl ordered)

  borrow_kept : (object : ℕ) → 1 ≤ object → object ≤ 12 → (o : Option ℕ) → free_start heap 64 entries ≡ o
      → ServedKept heap number first memory entries (borrow_served object o memory entries queue)
  borrow_kept object one twelve None e = plain (borrow_served object None memory entries queue) refl fit ordered
  borrow_kept object one twelve (Some start) e =
      let r : (heap ≤ start) × (start + 64 ≤ 4096) = free_start_within heap 64 entries start e in
      let m : length (object_words object memory) ≡ object_start object + 64 - object_start object
      = length-slice_range memory (object_start object) (object_start object + 64) (omega arith) (omega arith) in
      let s : SameObjects memory (with_words start (object_words object memory) memory) = words_put start (object_words object memory) memory n (omega arith) in
      record {
        memory = s.lengths ∙ n;
        entries = with_entry_fits heap (entry.Borrow object start) entries (one, twelve, r.0, r.1) fit;
        ordered = with_entry_ordered (entry.Borrow object start) entries refl ordered;
        kernel = object_stays 0 memory (with_words start (object_words object memory) memory) s;
        objects = λ other. inl (object_stays other memory (with_words start (object_words object memory) memory) s);
      }

  give_back_kept : (object : ℕ) → number ≡ 5 → first ≡ object → (o : Option ℕ) → borrow_start object entries ≡ o
      → ServedKept heap number first memory entries (give_back_served object o memory entries queue)
  give_back_kept object five same None e = plain (give_back_served object None memory entries queue) refl fit ordered
  give_back_kept object five same (Some start) e =
      let b : IsBorrowedAt heap object start × (list_any (is_borrow_of object) entries ≡ true) = borrowed_at heap object entries start fit e in
      let at = b.0 in
      let w : List ℕ = slice_range memory start (start + 64) in
      let hi : start + 64 ≤ 4096 = at.high in
      let tw : object ≤ 12 = at.twelve in
      let on : 1 ≤ object = at.one in
      let lw : length w ≡ start + 64 - start = length-slice_range memory start (start + 64) (omega arith) (omega arith) in
      let l64 : length w ≡ 64 = omega arith in
      record {
        memory = length-with_words (object_start object) w memory (omega arith) ∙ n;
        entries = filter_fits (IsFitEntry heap) _ entries fit;
        ordered = without_borrow_ordered object entries ordered;
        kernel = other_object_stays object 0 w memory n l64 tw (λ z. zero_not_object object on z);
        objects = λ other. elim (cases_eq other object) [
          | inl it ↦ inr (rw it b.1, five, same ∙ sym it, rw it (sym (object_taken object w memory n l64 tw)))
          | inr apart ↦ inl (other_object_stays object other w memory n l64 tw apart)
        ];
      }
    where
      zero_not_object : (k : ℕ) → 1 ≤ k → 0 ≡ k → ⊥
      zero_not_object k h z = omega arith

  pub served_kept : (s : Service) → Says number first (Ok s) → ServedKept heap number first memory entries (served heap s memory entries queue)
  unfolding served
  served_kept (service.Alloc len) h = alloc_kept len (free_start heap len entries) refl
  served_kept (service.Free address) h = plain (plainly_served memory (without_heap address entries) queue) refl
      (filter_fits (IsFitEntry heap) _ entries fit) (without_heap_ordered address entries ordered)
  served_kept service.Register h = plain (plainly_served memory (registered true entries) queue) refl
      (registered_fits heap true entries fit) (registered_ordered true entries ordered)
  served_kept (service.Borrow object) h = borrow_kept object h.0 h.1 (free_start heap 64 entries) refl
  served_kept (service.GiveBack object) h = give_back_kept object h.0 h.1 (borrow_start object entries) refl
  served_kept (service.NetRx start len) h = plain (frame_served (slice_range memory start (start + len)) memory entries queue) refl fit ordered
  served_kept service.Log h = plain (plainly_served memory entries queue) refl fit ordered
  served_kept service.Yield h = plain (plainly_served memory entries queue) refl fit ordered
