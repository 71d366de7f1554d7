-- The open calls are those of all calls whose flags say so, numbered by their positions.
use Rattle.std.proofs.Common.{◌≡◌, ℕ, zero, suc, ◌+◌, ◌<◌, ◌||◌, ◌&&◌, not, Bool, true, false, cond, Option, Some, None, List, [], ◌∷◌, ◌++◌, map, length, filter, find, slice_get, sym, refl, ap, ap₂, ◌∙◌, subst, arith, option_map}
use Rattle.std.specs.Prelude.{◌==◌, if◌then◌else◌}
use Rattle.std.specs.List.{list_any}
use Rattle.std.proofs.lemmas.Bool.{eqb-true, eq-eqb, ne_eqb}
use Rattle.nook_data.specs.declared.calls.Answer.{Answer}
use Rattle.nook_data.specs.declared.calls.Op.{Op}
use Rattle.part_laws.specs.Watch.{Watched, leaves, watched}
use Rattle.nook_data.specs.Numbered.{at_number, change_number, number_where, one_later}
use Rattle.part_laws.proofs.Indices.{change_found, split}
use Rattle.promise_defs.specs.Contract.{OpenCall, call_of, change_call, change_first, is_answered_in, leave_call}
use Rattle.part_laws.specs.Orderly.{is_open, is_reported, kept_from}

-- ---- lists of all calls, searched by number

-- the item with a number; the first has the number `first`
abbrev pub find_at : {X : Type 0} → ℕ → ℕ → List X → Option X
find_at number first [] = None
find_at number first (x ∷ xs) = if first == number then Some x else find_at number (suc first) xs

abbrev pub change_at : {X : Type 0} → (X → X) → ℕ → ℕ → List X → List X
change_at f number first [] = []
change_at f number first (x ∷ xs) = (if first == number then f x else x) ∷ change_at f number (suc first) xs

pub found_below : {X : Type 0} (xs : List X) (number first : ℕ) → number < first → find_at number first xs ≡ None
found_below [] number first l = refl
found_below (x ∷ xs) number first l =
    rw (ne_eqb first number (λ e. omega (arith, l, e))) (found_below xs number (suc first) (omega (arith, l)))

pub changed_below : {X : Type 0} (f : X → X) (xs : List X) (number first : ℕ) → number < first → change_at f number first xs ≡ xs
changed_below f [] number first l = refl
changed_below f (x ∷ xs) number first l =
    rw (ne_eqb first number (λ e. omega (arith, l, e))) (ap (λ l. x ∷ l) (changed_below f xs number (suc first) (omega (arith, l))))

found_at : {X : Type 0} (xs : List X) (first k : ℕ) → slice_get xs k ≡ find_at (first + k) first xs
found_at [] first k = refl
found_at (x ∷ xs) first zero = rw (eq-eqb first (first + 0) (omega arith)) refl
found_at (x ∷ xs) first (suc k) =
    rw (ne_eqb first (first + suc k) (λ e. omega (arith, e)))
    (found_at xs (suc first) k ∙ ap (λ n. find_at n (suc first) xs) (omega arith))

pub at_one : {X : Type 0} (number : ℕ) (xs : List X) → at_number number xs ≡ find_at number 1 xs
at_one zero xs = sym (found_below xs 0 1 (omega arith))
at_one (suc k) xs = found_at xs 1 k ∙ ap (λ n. find_at n 1 xs) (omega arith)

put_later : {X : Type 0} (f : X → X) (k : ℕ) (x : X) (xs : List X) (o : Option X)
    → change_found f (suc (suc k)) (x ∷ xs) o ≡ x ∷ change_found f (suc k) xs o
put_later f k x xs None = refl
put_later f k x xs (Some y) = refl

changed_at : {X : Type 0} (f : X → X) (xs : List X) (first k : ℕ)
    → change_found f (suc k) xs (slice_get xs k) ≡ change_at f (first + k) first xs
changed_at f [] first k = refl
changed_at f (x ∷ xs) first zero =
    rw (eq-eqb first (first + 0) (omega arith)) (ap (λ l. f x ∷ l) (sym (changed_below f xs (first + 0) (suc first) (omega arith))))
changed_at f (x ∷ xs) first (suc k) =
    rw (ne_eqb first (first + suc k) (λ e. omega (arith, e)))
    (put_later f k x xs (slice_get xs k)
    ∙ ap (λ l. x ∷ l) (changed_at f xs (suc first) k ∙ ap (λ n. change_at f n (suc first) xs) (omega arith)))

pub change_one : {X : Type 0} (f : X → X) (number : ℕ) (xs : List X) → change_number f number xs ≡ change_at f number 1 xs
change_one f zero xs = sym (changed_below f xs 0 1 (omega arith))
change_one f (suc k) xs = changed_at f xs 1 k ∙ ap (λ n. change_at f n 1 xs) (omega arith)

-- ---- the first that passes a test

abbrev pub change_where : {X : Type 0} → (X → Bool) → (X → X) → List X → List X
change_where test f [] = []
change_where test f (x ∷ xs) = if test x then f x ∷ xs else x ∷ change_where test f xs

past_found : {X : Type 0} (n : ℕ) (x : X) (xs : List X) → at_number (one_later n) (x ∷ xs) ≡ at_number n xs
past_found zero x xs = refl
past_found (suc k) x xs = refl

past_changed : {X : Type 0} (f : X → X) (n : ℕ) (x : X) (xs : List X) → change_number f (one_later n) (x ∷ xs) ≡ x ∷ change_number f n xs
past_changed f zero x xs = refl
past_changed f (suc k) x xs = put_later f k x xs (slice_get xs k)

pub at_where : {X : Type 0} (test : X → Bool) (xs : List X) → at_number (number_where test xs) xs ≡ find test xs
at_where test [] = refl
at_where test (x ∷ xs) = split (test x)
    (λ e. rw e refl)
    (λ e. rw e (past_found (number_where test xs) x xs ∙ at_where test xs))

pub changed_where : {X : Type 0} (test : X → Bool) (f : X → X) (xs : List X)
    → change_number f (number_where test xs) xs ≡ change_where test f xs
changed_where test f [] = refl
changed_where test f (x ∷ xs) = split (test x)
    (λ e. rw e refl)
    (λ e. rw e (past_changed f (number_where test xs) x xs ∙ ap (λ l. x ∷ l) (changed_where test f xs)))

-- ---- flags

pub kept_none : (first : ℕ) (flags : List Bool) → kept_from first [] flags ≡ flags
kept_none first [] = refl
kept_none first (true ∷ flags) = ap (λ l. true ∷ l) (kept_none (suc first) flags)
kept_none first (false ∷ flags) = ap (λ l. false ∷ l) (kept_none (suc first) flags)

pub kept_new : (first : ℕ) (flags : List Bool) (a : Answer)
    → kept_from first ((first + length flags, a) ∷ []) (flags ++ true ∷ []) ≡ flags ++ false ∷ []
kept_new first [] a = rw (eq-eqb (first + 0) first (omega arith)) refl
kept_new first (o ∷ flags) a =
    rw (ne_eqb (first + suc (length flags)) first (λ e. omega (arith, e)))
    (ap₂ ◌∷◌ (and_true o)
    (ap (λ n. kept_from (suc first) ((n, a) ∷ []) (flags ++ true ∷ [])) (omega arith) ∙ kept_new (suc first) flags a))
  where
    and_true : (b : Bool) → (b && true) ≡ b
    and_true true = refl
    and_true false = refl

-- ---- the open calls among all

abbrev pub opened_call : ℕ → Watched → OpenCall
opened_call n w = record
    { number = n; op = w.op; inside = w.inside; sent = w.sent; played = w.played; handed = w.handed; failed = w.failed }

-- the calls whose flags say that they are open; the first has the number `first`
abbrev pub picked : ℕ → List Bool → List Watched → List OpenCall
picked first [] ws = []
picked first (o ∷ flags) [] = []
picked first (true ∷ flags) (w ∷ ws) = opened_call first w ∷ picked (suc first) flags ws
picked first (false ∷ flags) (w ∷ ws) = picked (suc first) flags ws

-- each call has a flag, and one that is not open is not Inside
abbrev pub AreShut : List Bool → List Watched → Type 0
AreShut [] [] = Unit {0}
AreShut [] (w ∷ ws) = ⊥
AreShut (o ∷ flags) [] = ⊥
AreShut (o ∷ flags) (w ∷ ws) = (o ≡ false → w.inside ≡ false) × AreShut flags ws

pub picked_call : (number first : ℕ) (flags : List Bool) (ws : List Watched) → is_open number first flags ≡ true
    → call_of number (picked first flags ws) ≡ option_map (opened_call number) (find_at number first ws)
picked_call number first [] ws h = absurd cc
picked_call number first (o ∷ flags) [] h = refl
picked_call number first (true ∷ flags) (w ∷ ws) h = split (first == number)
    (λ e. rw e (ap (λ n. Some (opened_call n w)) (eqb-true first number e)))
    (λ e. rw e (picked_call number (suc first) flags ws (rw e at h)))
picked_call number first (false ∷ flags) (w ∷ ws) h = split (first == number)
    (λ e. let f : false ≡ true = rw e at h in absurd cc)
    (λ e. rw e (picked_call number (suc first) flags ws (rw e at h)))

pub picked_below : (number first : ℕ) (flags : List Bool) (ws : List Watched) → number < first
    → call_of number (picked first flags ws) ≡ None
picked_below number first [] ws l = refl
picked_below number first (o ∷ flags) [] l = refl
picked_below number first (true ∷ flags) (w ∷ ws) l =
    rw (ne_eqb first number (λ e. omega (arith, l, e))) (picked_below number (suc first) flags ws (omega (arith, l)))
picked_below number first (false ∷ flags) (w ∷ ws) l = picked_below number (suc first) flags ws (omega (arith, l))

pub picked_change : (g : OpenCall → OpenCall) (f : Watched → Watched) → ((n : ℕ) (w : Watched) → g (opened_call n w) ≡ opened_call n (f w))
    → (number first : ℕ) (flags : List Bool) (ws : List Watched)
    → change_call number g (picked first flags ws) ≡ picked first flags (change_at f number first ws)
picked_change g f h number first [] ws = refl
picked_change g f h number first (o ∷ flags) [] = refl
picked_change g f h number first (true ∷ flags) (w ∷ ws) = split (first == number)
    (λ e. rw e (ap₂ ◌∷◌ (h first w) (picked_change g f h number (suc first) flags ws)))
    (λ e. rw e (ap (λ l. opened_call first w ∷ l) (picked_change g f h number (suc first) flags ws)))
picked_change g f h number first (false ∷ flags) (w ∷ ws) = picked_change g f h number (suc first) flags ws

pub any_picked : (p : OpenCall → Bool) (q : Watched → Bool) → ((n : ℕ) (w : Watched) → p (opened_call n w) ≡ q w)
    → ((w : Watched) → w.inside ≡ false → q w ≡ false) → (first : ℕ) (flags : List Bool) (ws : List Watched) → AreShut flags ws
    → list_any p (picked first flags ws) ≡ list_any q ws
any_picked p q same out first [] [] s = refl
any_picked p q same out first [] (w ∷ ws) s = absurd s
any_picked p q same out first (o ∷ flags) [] s = absurd s
any_picked p q same out first (true ∷ flags) (w ∷ ws) s =
    ap₂ ◌||◌ (same first w) (any_picked p q same out (suc first) flags ws s.1)
any_picked p q same out first (false ∷ flags) (w ∷ ws) s =
    any_picked p q same out (suc first) flags ws s.1 ∙ ap (λ b. b || list_any q ws) (sym (out w (s.0 refl)))

-- what a question finds out about the first call that passes a test
pub find_picked : {R : Type 0} (p : OpenCall → Bool) (q : Watched → Bool) → ((n : ℕ) (w : Watched) → p (opened_call n w) ≡ q w)
    → ((w : Watched) → w.inside ≡ false → q w ≡ false)
    → (f : Option OpenCall → R) (g : Option Watched → R) → f None ≡ g None → ((n : ℕ) (w : Watched) → f (Some (opened_call n w)) ≡ g (Some w))
    → (first : ℕ) (flags : List Bool) (ws : List Watched) → AreShut flags ws
    → f (find p (picked first flags ws)) ≡ g (find q ws)
find_picked p q same out f g none some first [] [] s = none
find_picked p q same out f g none some first [] (w ∷ ws) s = absurd s
find_picked p q same out f g none some first (o ∷ flags) [] s = absurd s
find_picked p q same out f g none some first (true ∷ flags) (w ∷ ws) s = split (q w)
    (λ e. rw e (rw (same first w ∙ e) (some first w)))
    (λ e. rw e (rw (same first w ∙ e) (find_picked p q same out f g none some (suc first) flags ws s.1)))
find_picked p q same out f g none some first (false ∷ flags) (w ∷ ws) s =
    rw (out w (s.0 refl)) (find_picked p q same out f g none some (suc first) flags ws s.1)

pub first_picked : (p : OpenCall → Bool) (q : Watched → Bool) (g : OpenCall → OpenCall) (f : Watched → Watched)
    → ((n : ℕ) (w : Watched) → p (opened_call n w) ≡ q w) → ((w : Watched) → w.inside ≡ false → q w ≡ false)
    → ((n : ℕ) (w : Watched) → g (opened_call n w) ≡ opened_call n (f w))
    → (first : ℕ) (flags : List Bool) (ws : List Watched) → AreShut flags ws
    → change_first p g (picked first flags ws) ≡ picked first flags (change_where q f ws)
first_picked p q g f same out h first [] [] s = refl
first_picked p q g f same out h first [] (w ∷ ws) s = absurd s
first_picked p q g f same out h first (o ∷ flags) [] s = absurd s
first_picked p q g f same out h first (true ∷ flags) (w ∷ ws) s = split (q w)
    (λ e. rw e (rw (same first w ∙ e) (ap (λ c. c ∷ picked (suc first) flags ws) (h first w))))
    (λ e. rw e (rw (same first w ∙ e) (ap (λ l. opened_call first w ∷ l) (first_picked p q g f same out h (suc first) flags ws s.1))))
first_picked p q g f same out h first (false ∷ flags) (w ∷ ws) s =
    rw (out w (s.0 refl)) (first_picked p q g f same out h (suc first) flags ws s.1)

pub picked_kept : (answers : List (ℕ × Answer)) (first : ℕ) (flags : List Bool) (ws : List Watched)
    → filter (λ c. not (is_answered_in answers c)) (picked first flags ws) ≡ picked first (kept_from first answers flags) ws
picked_kept answers first [] ws = refl
picked_kept answers first (o ∷ flags) [] = refl
picked_kept answers first (true ∷ flags) (w ∷ ws) = split (is_reported answers first)
    (λ e. rw e (picked_kept answers (suc first) flags ws))
    (λ e. rw e (ap (λ l. opened_call first w ∷ l) (picked_kept answers (suc first) flags ws)))
picked_kept answers first (false ∷ flags) (w ∷ ws) = picked_kept answers (suc first) flags ws

pub picked_left : (first : ℕ) (flags : List Bool) (ws : List Watched)
    → map leave_call (picked first flags ws) ≡ picked first flags (map leaves ws)
picked_left first [] ws = refl
picked_left first (o ∷ flags) [] = refl
picked_left first (true ∷ flags) (w ∷ ws) = ap (λ l. opened_call first (leaves w) ∷ l) (picked_left (suc first) flags ws)
picked_left first (false ∷ flags) (w ∷ ws) = picked_left (suc first) flags ws

pub picked_push : (first : ℕ) (flags : List Bool) (ws : List Watched) (w : Watched) → AreShut flags ws
    → picked first flags ws ++ opened_call (first + length flags) w ∷ [] ≡ picked first (flags ++ true ∷ []) (ws ++ w ∷ [])
picked_push first [] [] w s = ap (λ n. opened_call n w ∷ []) (omega arith)
picked_push first [] (x ∷ ws) w s = absurd s
picked_push first (o ∷ flags) [] w s = absurd s
picked_push first (true ∷ flags) (x ∷ ws) w s =
    ap (λ l. opened_call first x ∷ l)
    (ap (λ n. picked (suc first) flags ws ++ opened_call n w ∷ []) (omega arith) ∙ picked_push (suc first) flags ws w s.1)
picked_push first (false ∷ flags) (x ∷ ws) w s =
    ap (λ n. picked (suc first) flags ws ++ opened_call n w ∷ []) (omega arith) ∙ picked_push (suc first) flags ws w s.1

-- ---- calls that are not open are not Inside

abbrev pub StaysOut : (Watched → Watched) → Type 0
StaysOut f = (w : Watched) → w.inside ≡ false → (f w).inside ≡ false

pub shut_change : (f : Watched → Watched) → StaysOut f → (number first : ℕ) (flags : List Bool) (ws : List Watched)
    → AreShut flags ws → AreShut flags (change_at f number first ws)
shut_change f h number first [] [] s = tt
shut_change f h number first [] (w ∷ ws) s = absurd s
shut_change f h number first (o ∷ flags) [] s = absurd s
shut_change f h number first (o ∷ flags) (w ∷ ws) s = split (first == number)
    (λ e. rw e ((λ q. h w (s.0 q)), shut_change f h number (suc first) flags ws s.1))
    (λ e. rw e (s.0, shut_change f h number (suc first) flags ws s.1))

pub shut_open : (f : Watched → Watched) (number first : ℕ) (flags : List Bool) (ws : List Watched) → is_open number first flags ≡ true
    → AreShut flags ws → AreShut flags (change_at f number first ws)
shut_open f number first [] [] h s = tt
shut_open f number first [] (w ∷ ws) h s = absurd s
shut_open f number first (o ∷ flags) [] h s = absurd s
shut_open f number first (o ∷ flags) (w ∷ ws) h s = split (first == number)
    (λ e.
    let here : o ≡ true = rw e at h in
    rw e ((λ q. absurd cc), shut_later e))
    (λ e. rw e (s.0, shut_open f number (suc first) flags ws (rw e at h) s.1))
  where
    shut_later : (first == number) ≡ true → AreShut flags (change_at f number (suc first) ws)
    shut_later e = subst (AreShut flags) (sym (changed_below f ws number (suc first) (let k = eqb-true first number e in omega arith))) s.1

pub shut_where : (q : Watched → Bool) (f : Watched → Watched) → StaysOut f → (flags : List Bool) (ws : List Watched)
    → AreShut flags ws → AreShut flags (change_where q f ws)
shut_where q f h [] [] s = tt
shut_where q f h [] (w ∷ ws) s = absurd s
shut_where q f h (o ∷ flags) [] s = absurd s
shut_where q f h (o ∷ flags) (w ∷ ws) s = split (q w)
    (λ e. rw e ((λ n. h w (s.0 n)), s.1))
    (λ e. rw e (s.0, shut_where q f h flags ws s.1))

pub shut_push : (flags : List Bool) (ws : List Watched) (o : Bool) (p : Op) → AreShut flags ws
    → AreShut (flags ++ o ∷ []) (ws ++ watched p ∷ [])
shut_push [] [] o p s = ((λ e. refl), tt)
shut_push [] (w ∷ ws) o p s = absurd s
shut_push (x ∷ flags) [] o p s = absurd s
shut_push (x ∷ flags) (w ∷ ws) o p s = (s.0, shut_push flags ws o p s.1)

-- one call is answered and leaves
pub shut_answered : (f : Watched → Watched) → ((w : Watched) → (f w).inside ≡ false) → (number first : ℕ) (a : Answer)
    (flags : List Bool) (ws : List Watched) → AreShut flags ws
    → AreShut (kept_from first ((number, a) ∷ []) flags) (change_at f number first ws)
shut_answered f h number first a [] [] s = tt
shut_answered f h number first a [] (w ∷ ws) s = absurd s
shut_answered f h number first a (o ∷ flags) [] s = absurd s
shut_answered f h number first a (o ∷ flags) (w ∷ ws) s = split (first == number)
    (λ e. rw e ((λ q. h w), shut_answered f h number (suc first) a flags ws s.1))
    (λ e. rw e (rw (turned e) ((λ q. s.0 (from_and o q)), shut_answered f h number (suc first) a flags ws s.1)))
  where
    turned : (first == number) ≡ false → (number == first) ≡ false
    turned e = ne_eqb number first (λ q. let f = eq-eqb first number (sym q) in absurd cc)

    from_and : (b : Bool) → (b && true) ≡ false → b ≡ false
    from_and true q = q
    from_and false q = refl

-- every call leaves
pub shut_left : (answers : List (ℕ × Answer)) (first : ℕ) (flags : List Bool) (ws : List Watched) → AreShut flags ws
    → AreShut (kept_from first answers flags) (map leaves ws)
shut_left answers first [] [] s = tt
shut_left answers first [] (w ∷ ws) s = absurd s
shut_left answers first (o ∷ flags) [] s = absurd s
shut_left answers first (o ∷ flags) (w ∷ ws) s = ((λ e. refl), shut_left answers (suc first) flags ws s.1)

pub shut_length : (flags : List Bool) (ws : List Watched) → AreShut flags ws → length ws ≡ length flags
shut_length [] [] s = refl
shut_length [] (w ∷ ws) s = absurd s
shut_length (o ∷ flags) [] s = absurd s
shut_length (o ∷ flags) (w ∷ ws) s = ap suc (shut_length flags ws s.1)

-- a change of an answered call is not seen
pub picked_answered : (f : Watched → Watched) (number first : ℕ) (a : Answer) (flags : List Bool) (ws : List Watched)
    → picked first (kept_from first ((number, a) ∷ []) flags) (change_at f number first ws)
    ≡ picked first (kept_from first ((number, a) ∷ []) flags) ws
picked_answered f number first a [] ws = refl
picked_answered f number first a (o ∷ flags) [] = refl
picked_answered f number first a (false ∷ flags) (w ∷ ws) = picked_answered f number (suc first) a flags ws
picked_answered f number first a (true ∷ flags) (w ∷ ws) = split (number == first)
    (λ e. rw e (picked_answered f number (suc first) a flags ws))
    (λ e. rw e (rw (turned e) (ap (λ l. opened_call first w ∷ l) (picked_answered f number (suc first) a flags ws))))
  where
    turned : (number == first) ≡ false → (first == number) ≡ false
    turned e = ne_eqb first number (λ q. let f = eq-eqb number first (sym q) in absurd cc)
