-- The deeds before the first that breaks a clause break none.
use Rattle.std.proofs.Common.{true, ◌≡◌, ◌≤◌, ◌<◌, ℕ, zero, suc, Bool, false, nat_lt, Some, None, List, [], ◌∷◌, ◌++◌, length, take, filter, fold, find, refl, sym, ap, ◌∙◌, arith, take_all}
use Rattle.std.proofs.lemmas.Bool.{ltb-false, ltb-true, or_from, or_left, or_right}
use Rattle.std.specs.List.{AllByRecursion}
use Rattle.nook_data.specs.Clauses.{all_clauses}
use Rattle.nook_data.specs.declared.clause.Clause.{Clause}
use Rattle.nook_data.specs.declared.clause.Clause.TheVariants.{UnaskedStore, OtherStore, UnstoredWrite, OtherRead}
use Rattle.nook_data.specs.declared.clause.Clause.TheVariants.{UnaskedFrame, SecondFrame, UnsentSend, OutOfOrder}
use Rattle.nook_data.specs.declared.clause.Clause.TheVariants.{LeftInRing, OtherSample, UnplayedPlay, UnaskedRegister}
use Rattle.nook_data.specs.declared.clause.Clause.TheVariants.{UnmadeSet, OtherGet, UnseenFailure}
use Rattle.guard_defs.proofs.DeedCases.{before_first, before_none, first_none, first_some}
use Rattle.guard_defs.specs.Deeds.{clause_of_deed, deeds_before}
use Rattle.machine_defs.proofs.BurstKeeps.{split}
use Rattle.promise_defs.specs.Contract.{Deed, Known, after_deed, breaks, call_of, is_broken_by}
use Rattle.front_laws.specs.Guarded.{IsFirstWrong, broken_by}
use Rattle.front_laws.proofs.Striking.{by_option}

-- a clause is among all clauses

find_none : (test : Clause → Bool) (clauses : List Clause) → find test clauses ≡ None → AllByRecursion (λ c. test c ≡ false) clauses
find_none test [] h = tt
find_none test (c ∷ clauses) h = split (test c)
    (λ e. let no : Some c ≡ None = rw (e, find) at h in absurd cc)
    (λ e. (e, find_none test clauses (rw (e, find) at h)))

filter_none : (test : Clause → Bool) (clauses : List Clause) → AllByRecursion (λ c. test c ≡ false) clauses → filter test clauses ≡ []
filter_none test [] h = refl
filter_none test (c ∷ clauses) h = rw (h.0, filter) (filter_none test clauses h.1)

each_clause : (test : Clause → Bool) → AllByRecursion (λ c. test c ≡ false) all_clauses → (c : Clause) → test c ≡ false
each_clause test h UnaskedStore = h.0
each_clause test h OtherStore = h.1.0
each_clause test h UnstoredWrite = h.1.1.0
each_clause test h OtherRead = h.1.1.1.0
each_clause test h UnaskedFrame = h.1.1.1.1.0
each_clause test h SecondFrame = h.1.1.1.1.1.0
each_clause test h UnsentSend = h.1.1.1.1.1.1.0
each_clause test h OutOfOrder = h.1.1.1.1.1.1.1.0
each_clause test h LeftInRing = h.1.1.1.1.1.1.1.1.0
each_clause test h OtherSample = h.1.1.1.1.1.1.1.1.1.0
each_clause test h UnplayedPlay = h.1.1.1.1.1.1.1.1.1.1.0
each_clause test h UnaskedRegister = h.1.1.1.1.1.1.1.1.1.1.1.0
each_clause test h UnmadeSet = h.1.1.1.1.1.1.1.1.1.1.1.1.0
each_clause test h OtherGet = h.1.1.1.1.1.1.1.1.1.1.1.1.1.0
each_clause test h UnseenFailure = h.1.1.1.1.1.1.1.1.1.1.1.1.1.1.0

all_false : (test : Clause → Bool) → ((c : Clause) → test c ≡ false) → (clauses : List Clause) → AllByRecursion (λ c. test c ≡ false) clauses
all_false test h [] = tt
all_false test h (c ∷ clauses) = (h c, all_false test h clauses)

pub front_keeps : (c : Clause) (n call : ℕ) (k : Known) (ds : List Deed) → n ≤ deeds_before call k ds → is_broken_by c call k (take n ds) ≡ false
front_keeps c zero call k ds h = refl
front_keeps c (suc n) call k [] h = refl
front_keeps c (suc n) call k (d ∷ ds) h = by_option (clause_of_deed call k d)
    (λ first some. let z : deeds_before call k (d ∷ ds) ≡ 0 = before_first call k d ds first some in absurd (omega arith))
    (λ none. let more : deeds_before call k (d ∷ ds) ≡ suc (deeds_before call (after_deed call k d) ds) = before_none call k d ds none in
    or_from (breaks c k (call_of call k.calls) d) (is_broken_by c call (after_deed call k d) (take n ds))
    (each_clause (λ x. breaks x k (call_of call k.calls) d) (find_none (λ x. breaks x k (call_of call k.calls) d) all_clauses none) c)
    (front_keeps c n call (after_deed call k d) ds (omega arith)))

pub front_broken : (n call : ℕ) (k : Known) (ds : List Deed) → n ≤ deeds_before call k ds → broken_by call k (take n ds) ≡ []
front_broken n call k ds h =
    filter_none (λ clause. is_broken_by clause call k (take n ds)) all_clauses
    (all_false (λ clause. is_broken_by clause call k (take n ds)) (λ c. front_keeps c n call k ds h) all_clauses)

pub some_broken : (call : ℕ) (k : Known) (ds : List Deed) (clause : Clause) (more : List Clause) → broken_by call k ds ≡ clause ∷ more
    → deeds_before call k ds < length ds
some_broken call k ds clause more h = split (nat_lt (deeds_before call k ds) (length ds))
    (λ e. ltb-true (deeds_before call k ds) (length ds) e)
    (λ e. let all : length ds ≤ deeds_before call k ds = ltb-false (deeds_before call k ds) (length ds) e in
    let none : broken_by call k (take (length ds) ds) ≡ [] = front_broken (length ds) call k ds all in
    let same : broken_by call k (take (length ds) ds) ≡ clause ∷ more = ap (broken_by call k) (take_all (length ds) ds (omega arith)) ∙ h in
    let no : [] ≡ clause ∷ more = sym none ∙ same in absurd cc)

-- the first deed that breaks a clause, and the smallest clause that it breaks

find_first : (test : Clause → Bool) (clauses : List Clause) (c : Clause) → find test clauses ≡ Some c
    → (more : List Clause) × (filter test clauses ≡ c ∷ more)
find_first test [] c h = let no : None ≡ Some c = h in absurd cc
find_first test (x ∷ clauses) c h = split (test x)
    (λ e. let same : Some x ≡ Some c = rw (e, find) at h in
    let one : x ≡ c = cc in
    (filter test clauses, rw (e, filter) (ap (λ (y : Clause). y ∷ filter test clauses) one)))
    (λ e. let more = find_first test clauses c (rw (e, find) at h) in (more.0, rw (e, filter) more.1))

-- a list of one deed breaks what the deed breaks
alone : (c : Clause) (call : ℕ) (k : Known) (d : Deed) → is_broken_by c call k (d ∷ []) ≡ breaks c k (call_of call k.calls) d
alone c call k d = split (breaks c k (call_of call k.calls) d) (λ e. rw (e, is_broken_by) refl) (λ e. rw (e, is_broken_by) refl)

same_filter : (a b : Clause → Bool) → ((c : Clause) → a c ≡ b c) → (clauses : List Clause) → filter a clauses ≡ filter b clauses
same_filter a b h [] = refl
same_filter a b h (c ∷ clauses) = split (b c)
    (λ e. rw (h c ∙ e, e, filter) (ap (λ (xs : List Clause). c ∷ xs) (same_filter a b h clauses)))
    (λ e. rw (h c ∙ e, e, filter) (same_filter a b h clauses))

pub first_wrong : (call : ℕ) (k : Known) (ds : List Deed) → deeds_before call k ds < length ds → IsFirstWrong call k ds
first_wrong call k [] h = absurd (omega arith)
first_wrong call k (d ∷ ds) h = by_option (clause_of_deed call k d)
    (λ c some. let z : deeds_before call k (d ∷ ds) ≡ 0 = before_first call k d ds c some in
    let found = find_first (λ x. breaks x k (call_of call k.calls) d) all_clauses c some in
    record {
      wrong = d;
      later = ds;
      clause = c;
      more = found.0;
      splits = ap (λ (n : ℕ). take n (d ∷ ds) ++ d ∷ ds) (sym z);
      reported = first_some call k d ds c some;
      first_broken = ap (λ (n : ℕ). broken_by call (fold (after_deed call) k (take n (d ∷ ds))) (d ∷ [])) z
          ∙ same_filter (λ x. is_broken_by x call k (d ∷ [])) (λ x. breaks x k (call_of call k.calls) d) (λ x. alone x call k d) all_clauses
          ∙ found.1;
    })
    (λ none. let z : deeds_before call k (d ∷ ds) ≡ suc (deeds_before call (after_deed call k d) ds) = before_none call k d ds none in
    let more : IsFirstWrong call (after_deed call k d) ds = first_wrong call (after_deed call k d) ds (omega arith) in
    record {
      wrong = more.wrong;
      later = more.later;
      clause = more.clause;
      more = more.more;
      splits = ap (λ (xs : List Deed). d ∷ xs) more.splits ∙ ap (λ (n : ℕ). take n (d ∷ ds) ++ more.wrong ∷ more.later) (sym z);
      reported = first_none call k d ds none ∙ more.reported;
      first_broken = ap (λ (n : ℕ). broken_by call (fold (after_deed call) k (take n (d ∷ ds))) (more.wrong ∷ [])) z ∙ more.first_broken;
    })

-- deeds after the first wrong one change nothing before it

pub before_front : (call : ℕ) (k : Known) (front rest rest' : List Deed) → deeds_before call k (front ++ rest) < length front
    → deeds_before call k (front ++ rest') ≡ deeds_before call k (front ++ rest)
before_front call k [] rest rest' h = absurd (omega arith)
before_front call k (d ∷ front) rest rest' h = by_option (clause_of_deed call k d)
    (λ c some. before_first call k d (front ++ rest') c some ∙ sym (before_first call k d (front ++ rest) c some))
    (λ none. let one : deeds_before call k (d ∷ (front ++ rest)) ≡ suc (deeds_before call (after_deed call k d) (front ++ rest)) =
    before_none call k d (front ++ rest) none in
    before_none call k d (front ++ rest') none ∙ ap suc (before_front call (after_deed call k d) front rest rest' (omega arith)) ∙ sym one)

-- a deed that was found breaks a clause

find_true : (test : Clause → Bool) (clauses : List Clause) (c : Clause) → find test clauses ≡ Some c → test c ≡ true
find_true test [] c h = let no : None ≡ Some c = h in absurd cc
find_true test (x ∷ clauses) c h = split (test x)
    (λ e. let same : Some x ≡ Some c = rw (e, find) at h in
    let one : x ≡ c = cc in ap test (sym one) ∙ e)
    (λ e. find_true test clauses c (rw (e, find) at h))

some_breaks : (call : ℕ) (k : Known) (ds : List Deed) → deeds_before call k ds < length ds → (c : Clause) × (is_broken_by c call k ds ≡ true)
some_breaks call k [] h = absurd (omega arith)
some_breaks call k (d ∷ ds) h = by_option (clause_of_deed call k d)
    (λ c some. (
      c,
      or_left (breaks c k (call_of call k.calls) d) (is_broken_by c call (after_deed call k d) ds)
          (find_true (λ x. breaks x k (call_of call k.calls) d) all_clauses c some),
    ))
    (λ none. let one : deeds_before call k (d ∷ ds) ≡ suc (deeds_before call (after_deed call k d) ds) = before_none call k d ds none in
    let more = some_breaks call (after_deed call k d) ds (omega arith) in
    (more.0, or_right (breaks more.0 k (call_of call k.calls) d) (is_broken_by more.0 call (after_deed call k d) ds) more.1))

none_false : (test : Clause → Bool) (clauses : List Clause) → filter test clauses ≡ [] → AllByRecursion (λ c. test c ≡ false) clauses
none_false test [] h = tt
none_false test (c ∷ clauses) h = split (test c)
    (λ e. let no : c ∷ filter test clauses ≡ [] = rw (e, filter) at h in absurd cc)
    (λ e. (e, none_false test clauses (rw (e, filter) at h)))

abbrev pub IsSome : List Clause → Type 0
IsSome [] = ⊥
IsSome (c ∷ more) = Unit {0}

pub broken_some : (call : ℕ) (k : Known) (ds : List Deed) → deeds_before call k ds < length ds → IsSome (broken_by call k ds)
broken_some call k ds h = by_clauses (broken_by call k ds) refl (some_breaks call k ds h)
  where
    by_clauses : (cs : List Clause) → broken_by call k ds ≡ cs → (c : Clause) × (is_broken_by c call k ds ≡ true) → IsSome cs
    by_clauses (c ∷ more) e some = tt
    by_clauses [] e (c, is) =
        let never : is_broken_by c call k ds ≡ false =
        each_clause (λ x. is_broken_by x call k ds) (none_false (λ x. is_broken_by x call k ds) all_clauses e) c in absurd cc
