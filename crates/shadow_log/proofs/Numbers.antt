-- Open calls whose numbers rise.
use Rattle.std.proofs.Common.{◌≡◌, ℕ, suc, ◌+◌, ◌≤◌, ◌<◌, Bool, true, false, cond, Option, Some, None, List, [], ◌∷◌, ◌++◌, filter, map, length, slice_set, slice_index_or, refl, sym, ap, ◌∙◌, inl, inr, arith}
use Rattle.std.specs.List.{find, position, position_or_len}
use Rattle.std.specs.Option.{MatchOption, IfSome, option_map}
use Rattle.std.proofs.lemmas.Bool.{cases_Bool, cases_lt, eq-eqb, eqb-true, ne_eqb, lt-ltb, le-ltb}
use Rattle.std.proofs.lemmas.Option.{slice_get_past}
use Rattle.std.proofs.lemmas.List.{get_or_read}
use Rattle.std.proofs.lemmas.List.Folds.{find_at}
use Rattle.nook_data.specs.declared.calls.CallEntry.{CallEntry}
use Rattle.part_defs.specs.Log.{is_call, open_call, call_of_thread}
use Rattle.part_defs.specs.Views.CallLogs.{IsNumbered}
use Rattle.part_defs.proofs.PartCases.{change_entry, is_of_thread}
use Rattle.shadow_log.specs.Indices.{IsPosition}

pub numbered_more : (low count : ℕ) (xs : List CallEntry) → IsNumbered low count xs → IsNumbered low (count + 1) xs
numbered_more low count [] h = omega (arith, h)
numbered_more low count (x ∷ xs) h = (h.0, numbered_more x.call count xs h.1)

numbered_top : (low count : ℕ) (xs : List CallEntry) → IsNumbered low count xs → low ≤ count
numbered_top low count [] h = h
numbered_top low count (x ∷ xs) h = omega (arith, h.0, numbered_top x.call count xs h.1)

pub numbered_push : (low count : ℕ) (xs : List CallEntry) (x : CallEntry) → IsNumbered low count xs → x.call ≡ count + 1
    → IsNumbered low (count + 1) (xs ++ x ∷ [])
numbered_push low count [] x h e = (omega (arith, h, e), omega (arith, e))
numbered_push low count (y ∷ xs) x h e = (h.0, numbered_push y.call count xs x h.1 e)

numbered_lower : (low high count : ℕ) (xs : List CallEntry) → low ≤ high → IsNumbered high count xs → IsNumbered low count xs
numbered_lower low high count [] l h = omega (arith, l, h)
numbered_lower low high count (x ∷ xs) l h = (omega (arith, l, h.0), h.1)

numbered_choice : (low count : ℕ) (t : Bool) (x : CallEntry) (xs : List CallEntry) → low < x.call → IsNumbered x.call count xs
    → IsNumbered low count (cond t (x ∷ xs) xs)
numbered_choice low count true x xs l h = (l, h)
numbered_choice low count false x xs l h = numbered_lower low x.call count xs (omega (arith, l)) h

pub numbered_filter : (low count : ℕ) (p : CallEntry → Bool) (xs : List CallEntry) → IsNumbered low count xs → IsNumbered low count (filter p xs)
numbered_filter low count p [] h = h
numbered_filter low count p (x ∷ xs) h = numbered_choice low count (p x) x (filter p xs) h.0 (numbered_filter x.call count p xs h.1)

pub numbered_map : (low count : ℕ) (f : CallEntry → CallEntry) (xs : List CallEntry) → ((x : CallEntry) → (f x).call ≡ x.call)
    → IsNumbered low count xs → IsNumbered low count (map f xs)
numbered_map low count f [] e h = h
numbered_map low count f (x ∷ xs) e h =
    (omega (arith, e x, h.0), rw (e x) (numbered_map x.call count f xs e h.1))

-- a call at an index

number_cases : (call n : ℕ) (xs : List CallEntry) → n ≡ position_or_len (is_call call) xs
    → MatchOption (position (is_call call) xs) (open_call call xs ≡ None) (λ index. IsPosition call index xs)
number_cases call n xs e = elim (cases_lt n (length xs)) [
  | inl l ↦ rw (lt-ltb (position_or_len (is_call call) xs) (length xs) (omega (arith, e, l)))
      (record { first = refl; within = omega (arith, e, l); there = find_at (is_call call) xs })
  | inr l ↦ rw (le-ltb (position_or_len (is_call call) xs) (length xs) (omega (arith, e, l)))
      (find_at (is_call call) xs ∙ slice_get_past xs _ (omega (arith, e, l)))
]

pub position_is : (call : ℕ) (xs : List CallEntry) (r : Option ℕ) → r ≡ position (is_call call) xs
    → MatchOption r (open_call call xs ≡ None) (λ index. IsPosition call index xs)
position_is call xs r e = rw e (number_cases call (position_or_len (is_call call) xs) xs refl)

none_above : (call low count : ℕ) (f : CallEntry → CallEntry) (xs : List CallEntry) → call ≤ low → IsNumbered low count xs
    → map (change_entry call f) xs ≡ xs
none_above call low count f [] l h = refl
none_above call low count f (x ∷ xs) l h =
    rw (ne_eqb x.call call (λ e. omega (arith, e, l, h.0)), none_above call x.call count f xs (omega (arith, l, h.0)) h.1) refl

later : (p : CallEntry → Bool) (x : CallEntry) (xs : List CallEntry) → p x ≡ false → position_or_len p (x ∷ xs) ≡ suc (position_or_len p xs)
later p x xs e = rw e (omega arith)

-- changing the item at the index of a call changes the call
set_at : (call low count : ℕ) (f : CallEntry → CallEntry) (xs : List CallEntry) (index : ℕ) (y : CallEntry) → IsNumbered low count xs
    → index ≡ position_or_len (is_call call) xs → index < length xs → ((d : CallEntry) → y ≡ f (slice_index_or xs index d))
    → slice_set xs index y ≡ map (change_entry call f) xs
set_at call low count f [] index y n e l h = absurd (omega (arith, l))
set_at call low count f (x ∷ xs) index y n e l h = elim (cases_Bool (is_call call x)) [
  | inl t ↦
      let z : index ≡ 0 = e ∙ rw t refl in
      let k : y ≡ f x = h x ∙ rw z refl in
      rw (z, t, k, none_above call x.call count f xs (omega (arith, eqb-true x.call call t)) n.1) refl
  | inr t ↦
      let z : index ≡ suc (position_or_len (is_call call) xs) = e ∙ later (is_call call) x xs t in
      rw (z, t) (ap (λ w. x ∷ w) (set_at call x.call count f xs (position_or_len (is_call call) xs) y n.1 refl (omega (arith, z, l))
      (λ d. h d ∙ rw z refl)))
]

pub changed_at : (call count : ℕ) (f : CallEntry → CallEntry) (xs : List CallEntry) (index : ℕ) (x : CallEntry) → IsNumbered 0 count xs
    → IsPosition call index xs → x ≡ slice_index_or xs index x → slice_set xs index (f x) ≡ map (change_entry call f) xs
changed_at call count f xs index x n p e =
    set_at call 0 count f xs index (f x) n p.first p.within (λ d. ap f (get_or_read xs index x p.within e d))

change_keeps : (call : ℕ) (f : CallEntry → CallEntry) (x : CallEntry) (t : Bool) → (f x).call ≡ x.call → (cond t (f x) x).call ≡ x.call
change_keeps call f x true e = e
change_keeps call f x false e = refl

pub numbered_set : (call count : ℕ) (f : CallEntry → CallEntry) (xs : List CallEntry) (index : ℕ) (x : CallEntry) → ((c : CallEntry) → (f c).call ≡ c.call)
    → IsNumbered 0 count xs → IsPosition call index xs → x ≡ slice_index_or xs index x → IsNumbered 0 count (slice_set xs index (f x))
numbered_set call count f xs index x k n p e = rw (changed_at call count f xs index x n p e)
    (numbered_map 0 count (change_entry call f) xs (λ c. change_keeps call f c (is_call call c) (k c)) n)

-- if no call has the number
pub changed_nowhere : (call : ℕ) (f : CallEntry → CallEntry) (xs : List CallEntry) → open_call call xs ≡ None → map (change_entry call f) xs ≡ xs
changed_nowhere call f [] e = refl
changed_nowhere call f (x ∷ xs) e = elim (cases_Bool (is_call call x)) [
  | inl t ↦ let k : Some x ≡ None = rw (← e) (rw t refl) in absurd (cc)
  | inr t ↦ let k : open_call call xs ≡ None = rw (← e) (rw t refl) in rw (t, changed_nowhere call f xs k) refl
]

-- the open call of a thread is the open call with its number

open_above : (call low count : ℕ) (xs : List CallEntry) (x : CallEntry) → IsNumbered low count xs → find (is_call call) xs ≡ Some x → low < x.call
open_above call low count [] x n e = absurd (cc)
open_above call low count (y ∷ xs) x n e = elim (cases_Bool (is_call call y)) [
  | inl t ↦ let k : Some y ≡ Some x = rw (← e) (rw t refl) in let same : y ≡ x = cc in rw (← same) n.0
  | inr t ↦ let k : find (is_call call) xs ≡ Some x = rw (← e) (rw t refl) in omega (arith, n.0, open_above call y.call count xs x n.1 k)
]

pub open_of_thread : (thread low count : ℕ) (xs : List CallEntry) (x : CallEntry) → IsNumbered low count xs
    → call_of_thread thread xs ≡ Some x → (low < x.call) × (open_call x.call xs ≡ Some x)
open_of_thread thread low count [] x n e = absurd (cc)
open_of_thread thread low count (y ∷ xs) x n e = elim (cases_Bool (is_of_thread thread y)) [
  | inl t ↦ let k : Some y ≡ Some x = rw (← e) (rw t refl) in let same : y ≡ x = cc in rw (← same) (n.0, rw (eq-eqb y.call y.call refl) refl)
  | inr t ↦
      let k : call_of_thread thread xs ≡ Some x = rw (← e) (rw t refl) in
      let r = open_of_thread thread y.call count xs x n.1 k in
      (omega (arith, n.0, r.0), rw (ne_eqb y.call x.call (λ i. omega (arith, i, r.0))) r.1)
]

-- the same for a call that is lent
pub lent_open : {B : Type 0} (now : B → CallEntry) (r : Option B) (thread count : ℕ) (xs : List CallEntry) → IsNumbered 0 count xs
    → option_map now r ≡ call_of_thread thread xs → IfSome r (λ x. open_call (now x).call xs ≡ Some (now x))
lent_open now None thread count xs n e = tt
lent_open now (Some x) thread count xs n e = (open_of_thread thread 0 count xs (now x) n (sym e)).1
