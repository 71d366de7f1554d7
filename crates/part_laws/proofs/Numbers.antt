-- The numbers of the open calls, and which of them Stop answers.
use Rattle.std.proofs.Common.{◌≡◌, ◌⊎◌, inl, inr, ℕ, suc, ◌+◌, ◌<◌, ◌≤◌, ◌||◌, not, Bool, true, false, cond, Option, Some, None, List, [], ◌∷◌, ◌++◌, map, length, filter, find, sym, refl, ap, ap₂, ◌∙◌, subst, arith}
use Rattle.std.specs.Prelude.{◌==◌, if◌then◌else◌}
use Rattle.std.proofs.lemmas.Bool.{eqb-true, eq-eqb, ne_eqb}
use Rattle.std.proofs.lemmas.Bool.Decides.{nat_tests}
use Rattle.nook_data.specs.declared.calls.Answer.{Answer}
use Rattle.nook_data.specs.declared.calls.Answer.TheVariants as answer
use Rattle.nook_data.specs.declared.calls.CallEntry.{CallEntry}
use Rattle.nook_data.specs.declared.steps.Stage.TheVariants as stage
use Rattle.part_defs.specs.Log.{call_of_thread, gone_answers, held_call, is_call, is_held, queue_after, shadow_answer}
use Rattle.part_defs.specs.Log.{stop_answers, with_answer}
use Rattle.part_defs.proofs.PartCases.{change_entry, entered_call, is_of_thread, stop_calls}
use Rattle.part_laws.proofs.Answered.{shadow_says}
use Rattle.part_laws.proofs.Indices.{some_same, split}
use Rattle.part_laws.specs.Orderly.{AreOwn, is_open, is_reported, kept_from}

-- the numbers of the open calls, by their flags
abbrev pub opened : ℕ → List Bool → List ℕ
opened first [] = []
opened first (true ∷ flags) = first ∷ opened (suc first) flags
opened first (false ∷ flags) = opened (suc first) flags

abbrev pub numbers_of : List CallEntry → List ℕ
numbers_of calls = map (λ c. c.call) calls

-- ---- lists of numbers

abbrev pub RisesFrom : ℕ → List ℕ → Type 0
RisesFrom low [] = Unit {0}
RisesFrom low (n ∷ ns) = (low ≤ n) × RisesFrom (suc n) ns

rises_lower : (low more : ℕ) (ns : List ℕ) → low ≤ more → RisesFrom more ns → RisesFrom low ns
rises_lower low more [] l r = tt
rises_lower low more (n ∷ ns) l r = (let m = r.0 in omega arith, r.1)

pub opened_rises : (first : ℕ) (flags : List Bool) → RisesFrom first (opened first flags)
opened_rises first [] = tt
opened_rises first (true ∷ flags) = (omega arith, opened_rises (suc first) flags)
opened_rises first (false ∷ flags) = rises_lower first (suc first) (opened (suc first) flags) (omega arith) (opened_rises (suc first) flags)

pub filter_same : (p q : ℕ → Bool) (low : ℕ) (ns : List ℕ) → RisesFrom low ns → ((n : ℕ) → low ≤ n → p n ≡ q n) → filter p ns ≡ filter q ns
filter_same p q low [] r h = refl
filter_same p q low (n ∷ ns) r h =
    let first : low ≤ n = r.0 in
    ap₂ (λ b l. cond b (n ∷ l) l) (h n first) (filter_same p q (suc n) ns r.1 (λ m k. h m (omega arith)))

pub filter_map : (test : ℕ → Bool) (calls : List CallEntry) → numbers_of (filter (λ c. test c.call) calls) ≡ filter test (numbers_of calls)
filter_map test [] = refl
filter_map test (c ∷ calls) = split (test c.call)
    (λ e. rw e (ap (λ l. c.call ∷ l) (filter_map test calls)))
    (λ e. rw e (filter_map test calls))

abbrev pub Has : ℕ → List ℕ → Type 0
Has number [] = ⊥
Has number (n ∷ ns) = (n ≡ number) ⊎ Has number ns

has_above : (number low : ℕ) (ns : List ℕ) → RisesFrom low ns → Has number ns → low ≤ number
has_above number low [] r h = absurd h
has_above number low (n ∷ ns) r (inl e) = let k = r.0 in omega arith
has_above number low (n ∷ ns) r (inr h) = let k = r.0 in let l = has_above number (suc n) ns r.1 h in omega arith

pub has_open : (number first : ℕ) (flags : List Bool) → Has number (opened first flags) → is_open number first flags ≡ true
has_open number first [] h = absurd h
has_open number first (true ∷ flags) (inl e) = rw (eq-eqb first number e) refl
has_open number first (true ∷ flags) (inr h) =
    let l = has_above number (suc first) (opened (suc first) flags) (opened_rises (suc first) flags) h in
    rw (ne_eqb first number (λ e. omega arith)) (has_open number (suc first) flags h)
has_open number first (false ∷ flags) h =
    let l = has_above number (suc first) (opened (suc first) flags) (opened_rises (suc first) flags) h in
    rw (ne_eqb first number (λ e. omega arith)) (has_open number (suc first) flags h)

pub found_has : (thread : ℕ) (calls : List CallEntry) (c : CallEntry) → call_of_thread thread calls ≡ Some c → Has c.call (numbers_of calls)
found_has thread [] c h = absurd cc
found_has thread (x ∷ calls) c h = split (x.thread == thread)
    (λ e. inl (ap (λ (y : CallEntry). y.call) (some_same x c (rw e at h))))
    (λ e. inr (found_has thread calls c (rw e at h)))

-- ---- flags

pub opened_kept : (answers : List (ℕ × Answer)) (first : ℕ) (flags : List Bool)
    → opened first (kept_from first answers flags) ≡ filter (λ n. not (is_reported answers n)) (opened first flags)
opened_kept answers first [] = refl
opened_kept answers first (true ∷ flags) = split (is_reported answers first)
    (λ e. rw e (opened_kept answers (suc first) flags))
    (λ e. rw e (ap (λ l. first ∷ l) (opened_kept answers (suc first) flags)))
opened_kept answers first (false ∷ flags) = opened_kept answers (suc first) flags

pub opened_push : (first : ℕ) (flags : List Bool) → opened first (flags ++ true ∷ []) ≡ opened first flags ++ (first + length flags) ∷ []
opened_push first [] = ap (λ n. n ∷ []) (omega arith)
opened_push first (true ∷ flags) =
    ap (λ l. first ∷ l) (opened_push (suc first) flags ∙ ap (λ n. opened (suc first) flags ++ n ∷ []) (omega arith))
opened_push first (false ∷ flags) = opened_push (suc first) flags ∙ ap (λ n. opened (suc first) flags ++ n ∷ []) (omega arith)

pub opened_shut : (first : ℕ) (flags : List Bool) → opened first (flags ++ false ∷ []) ≡ opened first flags
opened_shut first [] = refl
opened_shut first (true ∷ flags) = ap (λ l. first ∷ l) (opened_shut (suc first) flags)
opened_shut first (false ∷ flags) = opened_shut (suc first) flags

pub length_kept : (answers : List (ℕ × Answer)) (first : ℕ) (flags : List Bool) → length (kept_from first answers flags) ≡ length flags
length_kept answers first [] = refl
length_kept answers first (o ∷ flags) = ap suc (length_kept answers (suc first) flags)

pub length_push : (flags : List Bool) (o : Bool) → length (flags ++ o ∷ []) ≡ suc (length flags)
length_push [] o = refl
length_push (x ∷ flags) o = ap suc (length_push flags o)

-- ---- changes of the open calls

pub numbers_push : (calls : List CallEntry) (c : CallEntry) → numbers_of (calls ++ c ∷ []) ≡ numbers_of calls ++ c.call ∷ []
numbers_push [] c = refl
numbers_push (x ∷ calls) c = ap (λ l. x.call ∷ l) (numbers_push calls c)

pub numbers_entered : (call : ℕ) (calls : List CallEntry) → numbers_of (map (change_entry call entered_call) calls) ≡ numbers_of calls
numbers_entered call [] = refl
numbers_entered call (c ∷ calls) = split (c.call == call)
    (λ e. rw e (ap (λ l. c.call ∷ l) (numbers_entered call calls)))
    (λ e. rw e (ap (λ l. c.call ∷ l) (numbers_entered call calls)))

one_reported : (call n : ℕ) (a : Answer) → not (n == call) ≡ not (is_reported ((call, a) ∷ []) n)
one_reported call n a = split (n == call)
    (λ e. rw e (rw (eq-eqb call n (sym (eqb-true n call e))) refl))
    (λ e. rw e (rw (ne_eqb call n (λ q. let f = eq-eqb n call (sym q) in absurd cc)) refl))

pub numbers_answered : (call : ℕ) (a : Answer) (calls : List CallEntry) (flags : List Bool) → numbers_of calls ≡ opened 1 flags
    → numbers_of (filter (λ c. not (is_call call c)) calls) ≡ opened 1 (kept_from 1 ((call, a) ∷ []) flags)
numbers_answered call a calls flags h =
    filter_map (λ n. not (n == call)) calls
    ∙ ap (filter (λ n. not (n == call))) h
    ∙ filter_same (λ n. not (n == call)) (λ n. not (is_reported ((call, a) ∷ []) n)) 1 (opened 1 flags) (opened_rises 1 flags) (λ n l. one_reported call n a)
    ∙ sym (opened_kept ((call, a) ∷ []) 1 flags)

-- ---- Stop

reported_with : (n call : ℕ) (o : Option Answer) (answers : List (ℕ × Answer)) → (call ≡ n → ⊥) → is_reported answers n ≡ false
    → is_reported (with_answer call o answers) n ≡ false
reported_with n call None answers d h = h
reported_with n call (Some a) answers d h = rw (ne_eqb call n d) h

stop_below : (n low : ℕ) (calls : List CallEntry) (config : List ℕ) (holder : Option ℕ) (queue : List (List ℕ)) → RisesFrom low (numbers_of calls) → n < low
    → is_reported (stop_answers calls config holder queue) n ≡ false
stop_below n low [] config holder queue r l = refl
stop_below n low (c ∷ calls) config holder queue r l =
    let first : low ≤ c.call = r.0 in
    reported_with n c.call (shadow_answer c.op c.thread config holder stage.Stop queue) (stop_answers calls config holder (queue_after c.op queue))
    (λ e. omega arith) (stop_below n (suc c.call) calls config holder (queue_after c.op queue) r.1 (omega arith))

-- after an answered call the others are as they were
past_reported : (call : ℕ) (a : Answer) (answers : List (ℕ × Answer)) (ns : List ℕ) → RisesFrom (suc call) ns
    → filter (λ n. not (is_reported ((call, a) ∷ answers) n)) ns ≡ filter (λ n. not (is_reported answers n)) ns
past_reported call a answers ns r =
    filter_same (λ n. not (is_reported ((call, a) ∷ answers) n)) (λ n. not (is_reported answers n)) (suc call) ns r
    (λ n l. rw (ne_eqb call n (λ e. omega arith)) refl)

pub stop_keeps : (low : ℕ) (calls : List CallEntry) (config : List ℕ) (holder : Option ℕ) (queue : List (List ℕ)) → RisesFrom low (numbers_of calls)
    → filter (λ n. not (is_reported (stop_answers calls config holder queue) n)) (numbers_of calls) ≡ numbers_of (stop_calls calls)
stop_keeps low [] config holder queue r = refl
stop_keeps low (c ∷ calls) config holder queue r =
    by_shadow (stop_keeps (suc c.call) calls config holder (queue_after c.op queue) r.1) (shadow_says c.op c.thread config holder queue)
  where
    rest : List (ℕ × Answer)
    rest = stop_answers calls config holder (queue_after c.op queue)

    left : List ℕ
    left = filter (λ m. not (is_reported rest m)) (numbers_of calls)

    others : Answer → List ℕ
    others a = filter (λ m. not (is_reported ((c.call, a) ∷ rest) m)) (numbers_of calls)

    by_shadow : filter (λ n. not (is_reported (stop_answers calls config holder (queue_after c.op queue)) n)) (numbers_of calls) ≡ numbers_of (stop_calls calls)
        → ((is_held c.op ≡ true) × (shadow_answer c.op c.thread config holder stage.Stop queue ≡ None))
        ⊎ ((is_held c.op ≡ false) × ((a : Answer) × (shadow_answer c.op c.thread config holder stage.Stop queue ≡ Some a)))
        → filter (λ n. not (is_reported (stop_answers (c ∷ calls) config holder queue) n)) (numbers_of (c ∷ calls)) ≡ numbers_of (stop_calls (c ∷ calls))
    by_shadow later (inl (k, n)) =
        ap (λ o. filter (λ m. not (is_reported (with_answer c.call o rest) m)) (c.call ∷ numbers_of calls)) n
        ∙ ap (λ b. cond (not b) (c.call ∷ left) left)
        (stop_below c.call (suc c.call) calls config holder (queue_after c.op queue) r.1 (omega arith))
        ∙ ap (λ l. c.call ∷ l) later
        ∙ ap (λ b. numbers_of (map held_call (cond b (c ∷ filter (λ d. is_held d.op) calls) (filter (λ d. is_held d.op) calls)))) (sym k)
    by_shadow later (inr (k, (a, n))) =
        ap (λ o. filter (λ m. not (is_reported (with_answer c.call o rest) m)) (c.call ∷ numbers_of calls)) n
        ∙ ap (λ b. cond (not (b || is_reported rest c.call)) (c.call ∷ others a) (others a)) (eq-eqb c.call c.call refl)
        ∙ past_reported c.call a rest (numbers_of calls) r.1
        ∙ later
        ∙ ap (λ b. numbers_of (map held_call (cond b (c ∷ filter (λ d. is_held d.op) calls) (filter (λ d. is_held d.op) calls)))) (sym k)

abbrev pub AreOpen : List Bool → List CallEntry → Type 0
AreOpen flags calls = (n : ℕ) → Has n (numbers_of calls) → is_open n 1 flags ≡ true

pub stop_own : (low : ℕ) (flags : List Bool) (calls : List CallEntry) (config : List ℕ) (holder : Option ℕ) (queue : List (List ℕ))
    → RisesFrom low (numbers_of calls) → AreOpen flags calls → AreOwn flags (stop_answers calls config holder queue)
stop_own low flags [] config holder queue r h = tt
stop_own low flags (c ∷ calls) config holder queue r h =
    with_own (shadow_answer c.op c.thread config holder stage.Stop queue)
    (stop_own (suc c.call) flags calls config holder (queue_after c.op queue) r.1 (λ n k. h n (inr k)))
  where
    with_own : (o : Option Answer) → AreOwn flags (stop_answers calls config holder (queue_after c.op queue))
        → AreOwn flags (with_answer c.call o (stop_answers calls config holder (queue_after c.op queue)))
    with_own None k = k
    with_own (Some a) k =
        (h c.call (inl refl), stop_below c.call (suc c.call) calls config holder (queue_after c.op queue) r.1 (omega arith), k)

gone_below : (n low failures : ℕ) (calls : List CallEntry) → RisesFrom low (numbers_of calls) → n < low → is_reported (gone_answers failures calls) n ≡ false
gone_below n low failures [] r l = refl
gone_below n low failures (c ∷ calls) r l =
    let first : low ≤ c.call = r.0 in
    rw (ne_eqb c.call n (λ e. omega arith)) (gone_below n (suc c.call) failures calls r.1 (omega arith))

pub gone_keeps : (low failures : ℕ) (calls : List CallEntry) → RisesFrom low (numbers_of calls)
    → filter (λ n. not (is_reported (gone_answers failures calls) n)) (numbers_of calls) ≡ []
gone_keeps low failures [] r = refl
gone_keeps low failures (c ∷ calls) r =
    rw (eq-eqb c.call c.call refl)
    (past_reported c.call (answer.Gone failures) (gone_answers failures calls) (numbers_of calls) r.1 ∙ gone_keeps (suc c.call) failures calls r.1)

pub gone_own : (low failures : ℕ) (flags : List Bool) (calls : List CallEntry) → RisesFrom low (numbers_of calls) → AreOpen flags calls
    → AreOwn flags (gone_answers failures calls)
gone_own low failures flags [] r h = tt
gone_own low failures flags (c ∷ calls) r h = (
  h c.call (inl refl),
  gone_below c.call (suc c.call) failures calls r.1 (omega arith),
  gone_own (suc c.call) failures flags calls r.1 (λ n k. h n (inr k)),
)
