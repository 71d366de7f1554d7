-- Which workers there are, by their indices.
use Rattle.std.proofs.Common.{◌≡◌, ℕ, zero, suc, ◌+◌, ◌<◌, true, false, Some, List, [], ◌∷◌, ◌++◌, take, length, get_or, slice_get, subst, refl, ap, ◌∙◌, arith, append-nil}
use Rattle.std.specs.Prelude.{if◌then◌else◌, ◌==◌, slice_index_or}
use Rattle.std.proofs.lemmas.Option.{get_or_from_slice_get}
use Rattle.nook_data.specs.declared.desks.Receipt.{Receipt}
use Rattle.nook_data.specs.declared.scenario.ThreadSpec.{ThreadSpec}
use Rattle.app_threads.specs.declared.work.Work.{Work}
use Rattle.app_threads.specs.declared.work.Work.TheVariants as work
use Rattle.app_threads.specs.Ends.{count_on_all}
use Rattle.app_threads.specs.Workers.{count_on, invokes_of, invokes_of_all}
use Rattle.app_threads.specs.Works.{arrival_works, frames_for, ops_for, ops_of, script_works, thread_of}
use Rattle.app_threads.proofs.Counted.{only_of}
use Rattle.app_threads.proofs.Listed.{if_other, if_same, some_same}

-- ---- all that works add

abbrev pub works_invokes : ℕ → List ThreadSpec → List Work → List (List Receipt) → List ℕ
works_invokes d scripts (k ∷ works) (row ∷ rows) = invokes_of d (ops_for scripts k) row ++ works_invokes d scripts works rows
works_invokes d scripts _ _ = []

abbrev pub works_frames : ℕ → List (List (List ℕ)) → List Work → List (List ℕ)
works_frames d arrivals [] = []
works_frames d arrivals (k ∷ works) = frames_for d arrivals k ++ works_frames d arrivals works

-- the items of a list are those of another one from an index on
abbrev AreFrom : {X : Type 0} → ℕ → List X → List X → Type 0
AreFrom {X} from xs all = (i : ℕ) (x : X) → slice_get xs i ≡ Some x → slice_get all (from + i) ≡ Some x

hold_next : {X : Type 0} (from : ℕ) (x : X) (xs all : List X) → AreFrom from (x ∷ xs) all → AreFrom (from + 1) xs all
hold_next from x xs all h i y e = subst (λ k. slice_get all k ≡ Some y) (omega arith) (h (suc i) y e)

hold_first : {X : Type 0} (from : ℕ) (x : X) (xs all : List X) → AreFrom from (x ∷ xs) all → slice_get all from ≡ Some x
hold_first from x xs all h = subst (λ k. slice_get all k ≡ Some x) (omega arith) (h 0 x refl)

no_invokes : (d : ℕ) (scripts : List ThreadSpec) (q : ℕ) (arrivals : List (List (List ℕ))) (rows : List (List Receipt)) → works_invokes d scripts (arrival_works q arrivals) rows ≡ []
no_invokes d scripts q [] rows = refl
no_invokes d scripts q ([] ∷ arrivals) rows = no_invokes d scripts (q + 1) arrivals rows
no_invokes d scripts q ((f ∷ fs) ∷ arrivals) [] = refl
no_invokes d scripts q ((f ∷ fs) ∷ arrivals) (row ∷ rows) = no_invokes d scripts (q + 1) arrivals rows

invokes_from : (d : ℕ) (all : List ThreadSpec) (from : ℕ) (scripts : List ThreadSpec) (q : ℕ) (arrivals : List (List (List ℕ))) (rows : List (List Receipt)) → AreFrom from scripts all
    → length rows ≡ length (script_works from scripts ++ arrival_works q arrivals)
    → works_invokes d all (script_works from scripts ++ arrival_works q arrivals) rows ≡ invokes_of_all d scripts (take (length scripts) rows)
invokes_from d all from [] q arrivals rows h n = no_invokes d all q arrivals rows
invokes_from d all from (s ∷ scripts) q arrivals [] h n = absurd (omega arith)
invokes_from d all from (s ∷ scripts) q arrivals (row ∷ rows) h n =
    let first : ops_of (slice_get all from) ≡ s.ops = ap ops_of (hold_first from s scripts all h) in
    let rest = invokes_from d all (from + 1) scripts q arrivals rows (hold_next from s scripts all h) (omega arith) in
    ap (λ ops. invokes_of d ops row ++ works_invokes d all (script_works (from + 1) scripts ++ arrival_works q arrivals) rows) first
    ∙ ap (λ (l : List ℕ). invokes_of d s.ops row ++ l) rest

pub invokes_are : (d : ℕ) (scripts : List ThreadSpec) (arrivals : List (List (List ℕ))) (rows : List (List Receipt)) → length rows ≡ length (script_works 0 scripts ++ arrival_works 0 arrivals)
    → works_invokes d scripts (script_works 0 scripts ++ arrival_works 0 arrivals) rows ≡ invokes_of_all d scripts (take (length scripts) rows)
invokes_are d scripts arrivals rows n =
    invokes_from d scripts 0 scripts 0 arrivals rows (λ i x e. subst (λ k. slice_get scripts k ≡ Some x) (omega arith) e) n

frames_below : (d : ℕ) (all : List (List (List ℕ))) (q : ℕ) (arrivals : List (List (List ℕ))) → d < q → works_frames d all (arrival_works q arrivals) ≡ []
frames_below d all q [] l = refl
frames_below d all q ([] ∷ arrivals) l = frames_below d all (q + 1) arrivals (omega arith)
frames_below d all q ((f ∷ fs) ∷ arrivals) l =
    ap (λ (x : List (List ℕ)). x ++ works_frames d all (arrival_works (q + 1) arrivals)) (if_other q d (slice_index_or all q []) [] (λ e. absurd (omega arith)))
    ∙ frames_below d all (q + 1) arrivals (omega arith)

frames_from : (d m : ℕ) (all : List (List (List ℕ))) (q : ℕ) (arrivals : List (List (List ℕ))) → AreFrom q arrivals all → d ≡ q + m → works_frames d all (arrival_works q arrivals) ≡ get_or arrivals m []
frames_from d m all q [] h e = refl
frames_from d zero all q ([] ∷ arrivals) h e = frames_below d all (q + 1) arrivals (omega arith)
frames_from d (suc m) all q ([] ∷ arrivals) h e = frames_from d m all (q + 1) arrivals (hold_next q [] arrivals all h) (omega arith)
frames_from d zero all q ((f ∷ fs) ∷ arrivals) h e =
    let is : q ≡ d = omega arith in
    let own : (if q == d then slice_index_or all q [] else []) ≡ f ∷ fs =
    subst (λ k. (if q == k then slice_index_or all q [] else []) ≡ f ∷ fs) is
    (if_same q (slice_index_or all q []) [] ∙ get_or_from_slice_get all q (f ∷ fs) [] (hold_first q (f ∷ fs) arrivals all h)) in
    ap (λ (x : List (List ℕ)). x ++ works_frames d all (arrival_works (q + 1) arrivals)) own
    ∙ (ap (λ (x : List (List ℕ)). (f ∷ fs) ++ x) (frames_below d all (q + 1) arrivals (omega arith)) ∙ append-nil (f ∷ fs))
frames_from d (suc m) all q ((f ∷ fs) ∷ arrivals) h e =
    ap (λ (x : List (List ℕ)). x ++ works_frames d all (arrival_works (q + 1) arrivals)) (if_other q d (slice_index_or all q []) [] (λ k. absurd (omega arith)))
    ∙ frames_from d m all (q + 1) arrivals (hold_next q (f ∷ fs) arrivals all h) (omega arith)

scripts_no_frames : (d : ℕ) (all : List (List (List ℕ))) (from : ℕ) (scripts : List ThreadSpec) (works : List Work) → works_frames d all (script_works from scripts ++ works) ≡ works_frames d all works
scripts_no_frames d all from [] works = refl
scripts_no_frames d all from (s ∷ scripts) works = scripts_no_frames d all (from + 1) scripts works

pub frames_are : (d : ℕ) (scripts : List ThreadSpec) (arrivals : List (List (List ℕ))) → works_frames d arrivals (script_works 0 scripts ++ arrival_works 0 arrivals) ≡ get_or arrivals d []
frames_are d scripts arrivals =
    scripts_no_frames d arrivals 0 scripts (arrival_works 0 arrivals)
    ∙ frames_from d d arrivals 0 arrivals (λ i x e. subst (λ k. slice_get arrivals k ≡ Some x) (omega arith) e) (omega arith)

-- ---- how many operations on one part the works have

-- those of all threads
abbrev pub calls_in : ℕ → List ThreadSpec → List Work → ℕ
calls_in d scripts [] = 0
calls_in d scripts (k ∷ works) = count_on d (ops_for scripts k) + calls_in d scripts works

-- those by one thread
abbrev pub calls_by : ℕ → List ThreadSpec → List Work → ℕ → ℕ
calls_by d scripts [] t = 0
calls_by d scripts (k ∷ works) t = only_of (thread_of k) (count_on d (ops_for scripts k)) t + calls_by d scripts works t

no_calls : (d : ℕ) (scripts : List ThreadSpec) (q : ℕ) (arrivals : List (List (List ℕ))) → calls_in d scripts (arrival_works q arrivals) ≡ 0
no_calls d scripts q [] = refl
no_calls d scripts q ([] ∷ arrivals) = no_calls d scripts (q + 1) arrivals
no_calls d scripts q ((f ∷ fs) ∷ arrivals) = let rest = no_calls d scripts (q + 1) arrivals in omega arith

calls_from : (d : ℕ) (all : List ThreadSpec) (from : ℕ) (scripts : List ThreadSpec) (q : ℕ) (arrivals : List (List (List ℕ))) → AreFrom from scripts all
    → calls_in d all (script_works from scripts ++ arrival_works q arrivals) ≡ count_on_all d scripts
calls_from d all from [] q arrivals h = no_calls d all q arrivals
calls_from d all from (s ∷ scripts) q arrivals h =
    let first : ops_of (slice_get all from) ≡ s.ops = ap ops_of (hold_first from s scripts all h) in
    let rest = calls_from d all (from + 1) scripts q arrivals (hold_next from s scripts all h) in
    ap (λ ops. count_on d ops + calls_in d all (script_works (from + 1) scripts ++ arrival_works q arrivals)) first ∙ ap (λ n. count_on d s.ops + n) rest

pub calls_are : (d : ℕ) (scripts : List ThreadSpec) (arrivals : List (List (List ℕ))) → calls_in d scripts (script_works 0 scripts ++ arrival_works 0 arrivals) ≡ count_on_all d scripts
calls_are d scripts arrivals = calls_from d scripts 0 scripts 0 arrivals (λ i x e. subst (λ k. slice_get scripts k ≡ Some x) (omega arith) e)

-- no thread has any of 0 operations
only_none : (t u : ℕ) → only_of t 0 u ≡ 0
only_none t u = elim (t == u) as (λ b. ◌≡◌ {A = ℕ} (if b then 0 else 0) 0) [ true ↦ refl | false ↦ refl ]

none_by : (t d : ℕ) (scripts : List ThreadSpec) (q : ℕ) (arrivals : List (List (List ℕ))) → calls_by d scripts (arrival_works q arrivals) t ≡ 0
none_by t d scripts q [] = refl
none_by t d scripts q ([] ∷ arrivals) = none_by t d scripts (q + 1) arrivals
none_by t d scripts q ((f ∷ fs) ∷ arrivals) = let rest = none_by t d scripts (q + 1) arrivals in omega (arith, only_none 255 t)

-- scripts of threads with larger numbers have none
later_by : (t d : ℕ) (all : List ThreadSpec) (from : ℕ) (scripts : List ThreadSpec) (q : ℕ) (arrivals : List (List (List ℕ))) → t < from → calls_by d all (script_works from scripts ++ arrival_works q arrivals) t ≡ 0
later_by t d all from [] q arrivals l = none_by t d all q arrivals
later_by t d all from (s ∷ scripts) q arrivals l =
    let rest = later_by t d all (from + 1) scripts q arrivals (omega arith) in
    omega (arith, if_other from t (count_on d (ops_of (slice_get all from))) 0 (λ e. absurd (omega arith)))

by_from : (m t d : ℕ) (all : List ThreadSpec) (from : ℕ) (scripts : List ThreadSpec) (q : ℕ) (arrivals : List (List (List ℕ))) → AreFrom from scripts all → t ≡ from + m
    → calls_by d all (script_works from scripts ++ arrival_works q arrivals) t ≡ count_on d (ops_of (slice_get scripts m))
by_from m t d all from [] q arrivals h e = none_by t d all q arrivals
by_from zero t d all from (s ∷ scripts) q arrivals h e =
    let first : ops_of (slice_get all from) ≡ s.ops = ap ops_of (hold_first from s scripts all h) in
    let is : from ≡ t = omega arith in
    let own : only_of from (count_on d (ops_of (slice_get all from))) t ≡ count_on d (ops_of (slice_get all from)) =
    subst (λ k. only_of from (count_on d (ops_of (slice_get all from))) k ≡ count_on d (ops_of (slice_get all from))) is (if_same from (count_on d (ops_of (slice_get all from))) 0) in
    omega (arith, own, later_by t d all (from + 1) scripts q arrivals (omega arith), ap (count_on d) first)
by_from (suc m) t d all from (s ∷ scripts) q arrivals h e =
    let rest = by_from m t d all (from + 1) scripts q arrivals (hold_next from s scripts all h) (omega arith) in
    omega (arith, rest, if_other from t (count_on d (ops_of (slice_get all from))) 0 (λ k. absurd (omega arith)))

pub calls_by_are : (t d : ℕ) (scripts : List ThreadSpec) (arrivals : List (List (List ℕ))) → calls_by d scripts (script_works 0 scripts ++ arrival_works 0 arrivals) t ≡ count_on d (ops_of (slice_get scripts t))
calls_by_are t d scripts arrivals = by_from t t d scripts 0 scripts 0 arrivals (λ i x e. subst (λ k. slice_get scripts k ≡ Some x) (omega arith) e) (omega arith)

-- ---- the index of each work

script_from : (from : ℕ) (scripts : List ThreadSpec) (works : List Work) (t : ℕ) (s : ThreadSpec) → slice_get scripts t ≡ Some s → slice_get (script_works from scripts ++ works) t ≡ Some (work.Script (from + t))
script_from from [] works t s h = absurd cc
script_from from (x ∷ scripts) works zero s h = ap (λ k. Some (work.Script k)) (omega arith)
script_from from (x ∷ scripts) works (suc t) s h = script_from (from + 1) scripts works t s h ∙ ap (λ k. Some (work.Script k)) (omega arith)

pub script_there : (scripts : List ThreadSpec) (works : List Work) (t : ℕ) (s : ThreadSpec) → slice_get scripts t ≡ Some s → slice_get (script_works 0 scripts ++ works) t ≡ Some (work.Script t)
script_there scripts works t s h = script_from 0 scripts works t s h ∙ ap (λ k. Some (work.Script k)) (omega arith)

abbrev script_number : Work → ℕ
script_number (work.Script thread) = thread
script_number (work.Arrivals part) = 0

abbrev part_number : Work → ℕ
part_number (work.Script thread) = 0
part_number (work.Arrivals part) = part

abbrev IsScript : Work → Type 0
IsScript (work.Script thread) = Unit {0}
IsScript (work.Arrivals part) = ⊥

abbrev IsArrivals : Work → Type 0
IsArrivals (work.Script thread) = ⊥
IsArrivals (work.Arrivals part) = Unit {0}

same_scripts : (a b : ℕ) → Some (work.Script a) ≡ Some (work.Script b) → a ≡ b
same_scripts a b e = ap script_number (some_same (work.Script a) (work.Script b) e)

same_parts : (a b : ℕ) → Some (work.Arrivals a) ≡ Some (work.Arrivals b) → a ≡ b
same_parts a b e = ap part_number (some_same (work.Arrivals a) (work.Arrivals b) e)

not_script : (a b : ℕ) → Some (work.Arrivals a) ≡ Some (work.Script b) → ⊥
not_script a b e = subst IsArrivals (some_same (work.Arrivals a) (work.Script b) e) tt

not_arrivals : (a b : ℕ) → Some (work.Script a) ≡ Some (work.Arrivals b) → ⊥
not_arrivals a b e = subst IsScript (some_same (work.Script a) (work.Arrivals b) e) tt

no_script : (q : ℕ) (arrivals : List (List (List ℕ))) (i t : ℕ) → slice_get (arrival_works q arrivals) i ≡ Some (work.Script t) → ⊥
no_script q [] i t h = absurd cc
no_script q ([] ∷ arrivals) i t h = no_script (q + 1) arrivals i t h
no_script q ((f ∷ fs) ∷ arrivals) zero t h = not_script q t h
no_script q ((f ∷ fs) ∷ arrivals) (suc i) t h = no_script (q + 1) arrivals i t h

script_is_from : (from : ℕ) (scripts : List ThreadSpec) (q : ℕ) (arrivals : List (List (List ℕ))) (i t : ℕ) → slice_get (script_works from scripts ++ arrival_works q arrivals) i ≡ Some (work.Script t)
    → (t ≡ from + i) × ((s : ThreadSpec) × (slice_get scripts i ≡ Some s))
script_is_from from [] q arrivals i t h = absurd (no_script q arrivals i t h)
script_is_from from (s ∷ scripts) q arrivals zero t h = (let e = same_scripts from t h in omega arith, (s, refl))
script_is_from from (s ∷ scripts) q arrivals (suc i) t h = let r = script_is_from (from + 1) scripts q arrivals i t h in (let e = r.0 in omega arith, r.1)

-- the index of a thread's work is the thread's number
pub script_is : (scripts : List ThreadSpec) (arrivals : List (List (List ℕ))) (i t : ℕ) → slice_get (script_works 0 scripts ++ arrival_works 0 arrivals) i ≡ Some (work.Script t)
    → (t ≡ i) × ((s : ThreadSpec) × (slice_get scripts i ≡ Some s))
script_is scripts arrivals i t h = let r = script_is_from 0 scripts 0 arrivals i t h in (let e = r.0 in omega arith, r.1)

-- arrivals come after all scripts
pub arrivals_after : (from : ℕ) (scripts : List ThreadSpec) (works : List Work) (i p : ℕ) → slice_get (script_works from scripts ++ works) i ≡ Some (work.Arrivals p)
    → (j : ℕ) × (i ≡ length scripts + j) × (slice_get works j ≡ Some (work.Arrivals p))
arrivals_after from [] works i p h = (i, omega arith, h)
arrivals_after from (s ∷ scripts) works zero p h = absurd (not_arrivals from p h)
arrivals_after from (s ∷ scripts) works (suc i) p h = let r = arrivals_after (from + 1) scripts works i p h in (r.0, (let e = r.1 in omega arith), r.2)

pub after_scripts : (from : ℕ) (scripts : List ThreadSpec) (works : List Work) (j : ℕ) → slice_get (script_works from scripts ++ works) (length scripts + j) ≡ slice_get works j
after_scripts from [] works j = ap (slice_get works) (omega arith)
after_scripts from (s ∷ scripts) works j =
    let e : length (s ∷ scripts) + j ≡ suc (length scripts + j) = omega arith in
    ap (slice_get (work.Script from ∷ (script_works (from + 1) scripts ++ works))) e ∙ after_scripts (from + 1) scripts works j

pub arrivals_are : (q : ℕ) (arrivals : List (List (List ℕ))) (j p : ℕ) → slice_get (arrival_works q arrivals) j ≡ Some (work.Arrivals p)
    → (m : ℕ) × (p ≡ q + m) × ((frames : List (List ℕ)) × (slice_get arrivals m ≡ Some frames))
arrivals_are q [] j p h = absurd cc
arrivals_are q ([] ∷ arrivals) j p h = let r = arrivals_are (q + 1) arrivals j p h in (suc r.0, (let e = r.1 in omega arith), r.2)
arrivals_are q ((f ∷ fs) ∷ arrivals) zero p h = (0, (let e = same_parts q p h in omega arith), (f ∷ fs, refl))
arrivals_are q ((f ∷ fs) ∷ arrivals) (suc j) p h = let r = arrivals_are (q + 1) arrivals j p h in (suc r.0, (let e = r.1 in omega arith), r.2)

-- the arrivals of an earlier desk come first
pub arrivals_before : (q : ℕ) (arrivals : List (List (List ℕ))) (j p m : ℕ) (frames : List (List ℕ)) → slice_get (arrival_works q arrivals) j ≡ Some (work.Arrivals p) → slice_get arrivals m ≡ Some frames → 0 < length frames → q + m < p
    → (i : ℕ) × (i < j) × (slice_get (arrival_works q arrivals) i ≡ Some (work.Arrivals (q + m)))
arrivals_before q [] j p m frames h at some l = absurd cc
arrivals_before q ([] ∷ arrivals) j p zero frames h at some l = absurd (let e = ap length (some_same [] frames at) in omega arith)
arrivals_before q ([] ∷ arrivals) j p (suc m) frames h at some l =
    let r = arrivals_before (q + 1) arrivals j p m frames h at some (omega arith) in
    (r.0, r.1, r.2 ∙ ap (λ k. Some (work.Arrivals k)) (omega arith))
arrivals_before q ((f ∷ fs) ∷ arrivals) zero p m frames h at some l = absurd (let e = same_parts q p h in omega arith)
arrivals_before q ((f ∷ fs) ∷ arrivals) (suc j) p zero frames h at some l = (0, omega arith, ap (λ k. Some (work.Arrivals k)) (omega arith))
arrivals_before q ((f ∷ fs) ∷ arrivals) (suc j) p (suc m) frames h at some l =
    let r = arrivals_before (q + 1) arrivals j p m frames h at some (omega arith) in
    (suc r.0, (let k = r.1 in omega arith), r.2 ∙ ap (λ k. Some (work.Arrivals k)) (omega arith))

-- the worker of a desk's arrivals, if it has any
pub arrivals_there : (q : ℕ) (arrivals : List (List (List ℕ))) (m : ℕ) (frames : List (List ℕ)) → slice_get arrivals m ≡ Some frames → 0 < length frames
    → (i : ℕ) × (slice_get (arrival_works q arrivals) i ≡ Some (work.Arrivals (q + m)))
arrivals_there q [] m frames at some = absurd cc
arrivals_there q ([] ∷ arrivals) zero frames at some = absurd (let e = ap length (some_same [] frames at) in omega arith)
arrivals_there q ([] ∷ arrivals) (suc m) frames at some =
    let r = arrivals_there (q + 1) arrivals m frames at some in
    (r.0, r.1 ∙ ap (λ k. Some (work.Arrivals k)) (omega arith))
arrivals_there q ((f ∷ fs) ∷ arrivals) zero frames at some = (0, ap (λ k. Some (work.Arrivals k)) (omega arith))
arrivals_there q ((f ∷ fs) ∷ arrivals) (suc m) frames at some =
    let r = arrivals_there (q + 1) arrivals m frames at some in
    (suc r.0, r.1 ∙ ap (λ k. Some (work.Arrivals k)) (omega arith))

scripts_long_from : (from : ℕ) (scripts : List ThreadSpec) → length (script_works from scripts) ≡ length scripts
scripts_long_from from [] = refl
scripts_long_from from (s ∷ scripts) = ap suc (scripts_long_from (from + 1) scripts)

pub works_long : (scripts : List ThreadSpec) → length (script_works 0 scripts) ≡ length scripts
works_long scripts = scripts_long_from 0 scripts
