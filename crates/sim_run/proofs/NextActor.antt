-- The actor that a round robin takes next is found without a list of all that have a step.
use Rattle.std.proofs.Common.{◌≡◌, inl, inr, ℕ, ◌+◌, ◌*◌, ◌<◌, ◌≤◌, nat_le, Bool, true, false, Option, Some, None, List, [], ◌∷◌, ◌++◌, drop, get_or, length, slice_get, slice_index, refl, sym, ap, ◌∙◌, arith, IfOk, Result, Ok, Err}
use Rattle.std.specs.Option.{option_or}
use Rattle.std.specs.List.{position_or_len}
use Rattle.std.proofs.Math.ListN.{drop_of_length-le}
use Rattle.std.proofs.lemmas.Bool.{cases_lt, lt-ltb, le-ltb}
use Rattle.std.proofs.lemmas.List.Folds.{find-append, find_at}
use Rattle.std.proofs.lemmas.Option.{get_or_from_slice_get, slice_get-get_or, slice_get_read, slice_get_within}
use Rattle.run_defs.specs.Schedules.{Order, picked, round}
use Rattle.schedule.specs.Standings.{position_from}
use Rattle.run_defs.specs.Simulation.{Choice, RunningPart, ThreadState}
use Rattle.nook_data.specs.declared.memory.NoMemory.{NoMemory}
use Rattle.sim_run.proofs.AbleThreads.{ready_named}
use Rattle.sim_run.proofs.Advancing.{none_picked, pick_is}
use Rattle.sim_run.proofs.Choosing.{drop_at}
use Rattle.sim_run.specs.Able.{AreAble, able_actors}
use Rattle.sim_run.specs.Actors.{actors_of_seat, actors_of_seats, choice_at, first_from, named_if, next_from}
use Rattle.sim_run.specs.Advanced.{IsPick, state_at}

-- Looking through flags.

pub named_found : (flag : Bool) (least i : ℕ) → flag ≡ true → least ≤ i → first_from least (named_if flag i) ≡ Some i
named_found flag least i on low =
    let at_least : nat_le least i ≡ true = grind arith in rw (on, at_least) refl

pub named_below : (flag : Bool) (least i : ℕ) → i < least → first_from least (named_if flag i) ≡ None
named_below false least i below = refl
named_below true least i below =
    let less : nat_le least i ≡ false = grind arith in rw less refl

pub named_off : (flag : Bool) (least i : ℕ) → flag ≡ false → first_from least (named_if flag i) ≡ None
named_off flag least i off = rw off refl

pub flag_passed : (least : ℕ) (able : List Bool) (i : ℕ) (flag : Bool) (whole : Option ℕ) → slice_get able i ≡ Some flag
    → first_from least (named_if flag i) ≡ None → first_from least (able_actors i (drop i able)) ≡ whole
    → first_from least (able_actors (i + 1) (drop (i + 1) able)) ≡ whole
unfolding able_actors
flag_passed least able i flag whole at none h =
    let rest = able_actors (i + 1) (drop (i + 1) able) in
    ap (λ o. option_or o (first_from least rest)) (sym none)
    ∙ sym (find-append (nat_le least) (named_if flag i) rest)
    ∙ ap (λ xs. first_from least (able_actors i xs)) (sym (drop_at able i (i + 1) flag at (omega arith)))
    ∙ h

pub flag_found : (least : ℕ) (able : List Bool) (i a : ℕ) (flag : Bool) (whole : Option ℕ) → slice_get able i ≡ Some flag
    → first_from least (named_if flag i) ≡ Some a → first_from least (able_actors i (drop i able)) ≡ whole → Some a ≡ whole
unfolding able_actors
flag_found least able i a flag whole at found h =
    let rest = able_actors (i + 1) (drop (i + 1) able) in
    ap (λ o. option_or o (first_from least rest)) (sym found)
    ∙ sym (find-append (nat_le least) (named_if flag i) rest)
    ∙ ap (λ xs. first_from least (able_actors i xs)) (sym (drop_at able i (i + 1) flag at (omega arith)))
    ∙ h

pub flags_over : (least : ℕ) (able : List Bool) (i : ℕ) (whole : Option ℕ) → length able ≤ i
    → first_from least (able_actors i (drop i able)) ≡ whole → None ≡ whole
unfolding able_actors
flags_over least able i whole l h = ap (λ xs. first_from least (able_actors i xs)) (sym (drop_of_length-le able l)) ∙ h

-- The threads, then the parts.

pub found_thread : (least a : ℕ) (xs ys : List ℕ) → Some a ≡ first_from least xs → Some a ≡ first_from least (xs ++ ys)
found_thread least a xs ys found =
    ap (λ o. option_or o (first_from least ys)) found ∙ sym (find-append (nat_le least) xs ys)

pub none_of_threads : (least : ℕ) (xs ys : List ℕ) (o : Option ℕ) → None ≡ first_from least xs → o ≡ first_from least ys → o ≡ first_from least (xs ++ ys)
none_of_threads least xs ys o none e =
    e ∙ ap (λ o. option_or o (first_from least ys)) none ∙ sym (find-append (nat_le least) xs ys)

-- Looking through parts.

one_seat : (least first : ℕ) (seats : List RunningPart) (i : ℕ) (seat : RunningPart) (o : Option ℕ) → i < length seats → seat ≡ get_or seats i seat
    → first_from least (actors_of_seat (first + 2 * i) seat) ≡ o
    → option_or o (first_from least (actors_of_seats (first + 2 * (i + 1)) (drop (i + 1) seats)))
    ≡ first_from least (actors_of_seats (first + 2 * i) (drop i seats))
unfolding actors_of_seats
one_seat least first seats i seat o l r e =
    let rest = actors_of_seats (first + 2 * (i + 1)) (drop (i + 1) seats) in
    let at : slice_get seats i ≡ Some seat = slice_get_read seats (length seats) i seat refl l r in
    ap (λ o. option_or o (first_from least rest)) (sym e)
    ∙ sym (find-append (nat_le least) (actors_of_seat (first + 2 * i) seat) rest)
    ∙ ap (λ n. first_from least (actors_of_seat (first + 2 * i) seat ++ actors_of_seats n (drop (i + 1) seats))) (plus first i)
    ∙ ap (λ xs. first_from least (actors_of_seats (first + 2 * i) xs)) (sym (drop_at seats i (i + 1) seat at (omega arith)))
  where
    plus : (n k : ℕ) → n + 2 * (k + 1) ≡ n + 2 * k + 2
    plus n k = omega arith

pub seat_passed : (least first : ℕ) (seats : List RunningPart) (i : ℕ) (seat : RunningPart) (whole : Option ℕ) → i < length seats → seat ≡ get_or seats i seat
    → None ≡ first_from least (actors_of_seat (first + 2 * i) seat) → first_from least (actors_of_seats (first + 2 * i) (drop i seats)) ≡ whole
    → first_from least (actors_of_seats (first + 2 * (i + 1)) (drop (i + 1) seats)) ≡ whole
seat_passed least first seats i seat whole l r none h = one_seat least first seats i seat None l r (sym none) ∙ h

pub seat_found : (least first : ℕ) (seats : List RunningPart) (i a : ℕ) (seat : RunningPart) (whole : Option ℕ) → i < length seats → seat ≡ get_or seats i seat
    → Some a ≡ first_from least (actors_of_seat (first + 2 * i) seat) → first_from least (actors_of_seats (first + 2 * i) (drop i seats)) ≡ whole → Some a ≡ whole
seat_found least first seats i a seat whole l r found h = one_seat least first seats i seat (Some a) l r (sym found) ∙ h

pub seats_begin : (least first : ℕ) (seats : List RunningPart)
    → first_from least (actors_of_seats (first + 2 * 0) seats) ≡ first_from least (actors_of_seats first seats)
seats_begin least first seats = ap (λ n. first_from least (actors_of_seats n seats)) (omega arith)

pub seats_over : (least first : ℕ) (seats : List RunningPart) (i : ℕ) (whole : Option ℕ) → length seats ≤ i
    → first_from least (actors_of_seats (first + 2 * i) (drop i seats)) ≡ whole → None ≡ whole
unfolding actors_of_seats
seats_over least first seats i whole l h =
    ap (λ xs. first_from least (actors_of_seats (first + 2 * i) xs)) (sym (drop_of_length-le seats l)) ∙ h

-- The next actor is the one that the schedule picks.

found_at : (least : ℕ) (actors : List ℕ) (a : ℕ) → first_from least actors ≡ Some a
    → (0 < length actors) × (slice_index actors (position_from least actors) ≡ a)
found_at least actors a e =
    let test = nat_le least in
    let index = position_or_len test actors in
    let at : slice_get actors index ≡ Some a = sym (find_at test actors) ∙ e in
    let within : index < length actors = slice_get_within actors index a at in
    (omega arith, rw (lt-ltb index (length actors) within) (get_or_from_slice_get actors index a 0 at))

none_from : (least : ℕ) (actors : List ℕ) → first_from least actors ≡ None → position_from least actors ≡ 0
none_from least actors e =
    let test = nat_le least in
    let index = position_or_len test actors in
    elim (cases_lt index (length actors)) [
      | inl within ↦ absurd (apart (sym (sym (find_at test actors) ∙ e) ∙ slice_get-get_or actors index 0 within))
      | inr past ↦ rw (le-ltb index (length actors) past) refl
    ]
  where
    apart : {n : ℕ} → None ≡ Some n → ⊥
    apart h = cc

all_at_least : (x : ℕ) (xs : List ℕ) → first_from 0 (x ∷ xs) ≡ Some x
all_at_least x xs =
    let least : nat_le 0 x ≡ true = grind arith in rw least refl

first_of_all : (actors : List ℕ) (a : ℕ) → first_from 0 actors ≡ Some a → (0 < length actors) × (slice_index actors 0 ≡ a)
first_of_all [] a e = cc
first_of_all (x ∷ xs) a e = (omega arith, inner (sym (all_at_least x xs) ∙ e))
  where
    inner : {n m : ℕ} → Some n ≡ Some m → n ≡ m
    inner h = cc

next_is : (cursor : ℕ) (actors : List ℕ) (a : ℕ) → next_from cursor actors ≡ Some a
    → (0 < length actors) × (slice_index actors (position_from cursor actors) ≡ a)
next_is cursor actors a h = by_first (first_from cursor actors) refl h
  where
    by_first : (o : Option ℕ) → first_from cursor actors ≡ o → option_or o (first_from 0 actors) ≡ Some a
        → (0 < length actors) × (slice_index actors (position_from cursor actors) ≡ a)
    by_first (Some b) e h = found_at cursor actors a (e ∙ h)
    by_first None e h =
        let first = first_of_all actors a h in
        (first.0, ap (slice_index actors) (none_from cursor actors e) ∙ first.1)

no_first : (actors : List ℕ) → first_from 0 actors ≡ None → length actors ≡ 0
no_first [] e = refl
no_first (x ∷ xs) e = absurd (apart (sym e ∙ all_at_least x xs))
  where
    apart : {n : ℕ} → None ≡ Some n → ⊥
    apart h = cc

none_next : (cursor : ℕ) (actors : List ℕ) → next_from cursor actors ≡ None → length actors ≡ 0
none_next cursor actors h = by_first (first_from cursor actors) h
  where
    by_first : (o : Option ℕ) → option_or o (first_from 0 actors) ≡ None → length actors ≡ 0
    by_first (Some b) h = cc
    by_first None h = no_first actors h

pub no_choice : (order : Order) (cursor : ℕ) (parts : List RunningPart) (threads : List ThreadState) (able : List Bool) → AreAble parts threads able
    → next_from cursor (able_actors 0 able ++ actors_of_seats (length able) parts) ≡ None → IsPick (state_at order parts threads) None (state_at order parts threads)
no_choice order cursor parts threads able a h =
    let actors = able_actors 0 able ++ actors_of_seats (length able) parts in
    none_picked (state_at order parts threads) actors (ready_named parts threads able actors a refl) (none_next cursor actors h)

pub next_choice : (r : Result (Option Choice) NoMemory) (order order' : Order) (cursor a : ℕ) (parts : List RunningPart) (threads : List ThreadState) (able : List Bool)
    → order ≡ round cursor → order' ≡ round (a + 1) → AreAble parts threads able
    → next_from cursor (able_actors 0 able ++ actors_of_seats (length able) parts) ≡ Some a
    → IfOk r (λ o. o ≡ choice_at parts threads a) → IfOk r (λ o. IsPick (state_at order parts threads) o (state_at order' parts threads))
unfolding picked
next_choice (Err x) order order' cursor a parts threads able e e' is n h = h
next_choice (Ok o) order order' cursor a parts threads able e e' is n h =
    let actors = able_actors 0 able ++ actors_of_seats (length able) parts in
    let next = next_is cursor actors a n in
    pick_is order order' parts threads actors (position_from cursor actors) o (ready_named parts threads able actors is refl) next.0
    (ap (λ q. (picked q actors).index) (sym e))
    (e' ∙ ap (λ n. round (n + 1)) (sym next.1) ∙ ap (λ q. (picked q actors).order) (sym e))
    (h ∙ ap (choice_at parts threads) (sym next.1))
