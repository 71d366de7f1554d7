-- The open calls with their counts are those of all calls whose flags say so.
use Rattle.std.proofs.Common.{◌≡◌, ℕ, zero, suc, ◌+◌, ◌||◌, ◌&&◌, not, Bool, true, false, cond, Option, Some, None, List, [], ◌∷◌, ◌++◌, map, length, filter, find, sym, refl, ap, ap₂, ◌∙◌, subst, arith, sum_by, count_by}
use Rattle.std.specs.Prelude.{◌==◌, if◌then◌else◌}
use Rattle.std.specs.List.{list_any}
use Rattle.std.proofs.lemmas.Bool.{eqb-true, eq-eqb, ne_eqb}
use Rattle.std.proofs.lemmas.List.Sums.{sum_by-cons}
use Rattle.nook_data.specs.declared.machine.Act.{Act}
use Rattle.nook_data.specs.declared.machine.Act.TheVariants as act
use Rattle.nook_data.specs.declared.calls.Answer.{Answer}
use Rattle.nook_data.specs.declared.calls.Op.{Op}
use Rattle.part_laws.specs.Counts.{Counted, Counts, count_act, count_acts, count_answer, count_answered, count_answers, count_handed, count_played, count_sent, counted}
use Rattle.nook_data.specs.Numbered.{change_number}
use Rattle.part_laws.proofs.Indices.{split}
use Rattle.promise_defs.specs.Losses.{CallEffects, is_played, is_sent, new_effects}
use Rattle.promise_defs.proofs.PromiseChanges.{with_acts}
use Rattle.part_laws.specs.Orderly.{is_open, is_reported, kept_from}
use Rattle.part_laws.proofs.Picked.{change_at, change_one, find_at}

abbrev pub effects_of : ℕ → Counted → CallEffects
effects_of number c = record { number = number; op = c.op; sent = c.sent; played = c.played }

abbrev pub tallied : ℕ → List Bool → List Counted → List CallEffects
tallied first [] cs = []
tallied first (o ∷ flags) [] = []
tallied first (true ∷ flags) (c ∷ cs) = effects_of first c ∷ tallied (suc first) flags cs
tallied first (false ∷ flags) (c ∷ cs) = tallied (suc first) flags cs

-- each call has a flag, and was answered exactly if it is no longer open
abbrev pub AreReported : List Bool → List Counted → Type 0
AreReported [] [] = Unit {0}
AreReported [] (c ∷ cs) = ⊥
AreReported (o ∷ flags) [] = ⊥
AreReported (o ∷ flags) (c ∷ cs) = (c.answered ≡ not o) × AreReported flags cs

pub tallied_change : (g : CallEffects → CallEffects) (f : Counted → Counted) → ((n : ℕ) (c : Counted) → g (effects_of n c) ≡ effects_of n (f c))
    → (number first : ℕ) (flags : List Bool) (cs : List Counted)
    → map (λ t. if t.number == number then g t else t) (tallied first flags cs) ≡ tallied first flags (change_at f number first cs)
tallied_change g f h number first [] cs = refl
tallied_change g f h number first (o ∷ flags) [] = refl
tallied_change g f h number first (true ∷ flags) (c ∷ cs) = split (first == number)
    (λ e. rw e (ap₂ ◌∷◌ (h first c) (tallied_change g f h number (suc first) flags cs)))
    (λ e. rw e (ap (λ l. effects_of first c ∷ l) (tallied_change g f h number (suc first) flags cs)))
tallied_change g f h number first (false ∷ flags) (c ∷ cs) = tallied_change g f h number (suc first) flags cs

pub tallied_kept : (answers : List (ℕ × Answer)) (first : ℕ) (flags : List Bool) (cs : List Counted)
    → filter (λ t. not (list_any (λ a. a.0 == t.number) answers)) (tallied first flags cs) ≡ tallied first (kept_from first answers flags) cs
tallied_kept answers first [] cs = refl
tallied_kept answers first (o ∷ flags) [] = refl
tallied_kept answers first (true ∷ flags) (c ∷ cs) = split (is_reported answers first)
    (λ e. rw e (tallied_kept answers (suc first) flags cs))
    (λ e. rw e (ap (λ l. effects_of first c ∷ l) (tallied_kept answers (suc first) flags cs)))
tallied_kept answers first (false ∷ flags) (c ∷ cs) = tallied_kept answers (suc first) flags cs

pub tallied_push : (first : ℕ) (flags : List Bool) (cs : List Counted) (o : Op) → AreReported flags cs
    → tallied first flags cs ++ new_effects (first + length flags) o ∷ [] ≡ tallied first (flags ++ true ∷ []) (cs ++ counted o ∷ [])
tallied_push first [] [] o s = ap (λ n. new_effects n o ∷ []) (omega arith)
tallied_push first [] (c ∷ cs) o s = absurd s
tallied_push first (b ∷ flags) [] o s = absurd s
tallied_push first (true ∷ flags) (c ∷ cs) o s =
    ap (λ l. effects_of first c ∷ l)
    (ap (λ n. tallied (suc first) flags cs ++ new_effects n o ∷ []) (omega arith) ∙ tallied_push (suc first) flags cs o s.1)
tallied_push first (false ∷ flags) (c ∷ cs) o s =
    ap (λ n. tallied (suc first) flags cs ++ new_effects n o ∷ []) (omega arith) ∙ tallied_push (suc first) flags cs o s.1

pub reported_push : (flags : List Bool) (cs : List Counted) (o : Op) → AreReported flags cs → AreReported (flags ++ true ∷ []) (cs ++ counted o ∷ [])
reported_push [] [] o s = (refl, tt)
reported_push [] (c ∷ cs) o s = absurd s
reported_push (b ∷ flags) [] o s = absurd s
reported_push (b ∷ flags) (c ∷ cs) o s = (s.0, reported_push flags cs o s.1)

pub reported_change : (f : Counted → Counted) → ((c : Counted) → (f c).answered ≡ c.answered) → (number first : ℕ) (flags : List Bool) (cs : List Counted)
    → AreReported flags cs → AreReported flags (change_at f number first cs)
reported_change f h number first [] [] s = tt
reported_change f h number first [] (c ∷ cs) s = absurd s
reported_change f h number first (o ∷ flags) [] s = absurd s
reported_change f h number first (o ∷ flags) (c ∷ cs) s = split (first == number)
    (λ e. rw e (h c ∙ s.0, reported_change f h number (suc first) flags cs s.1))
    (λ e. rw e (s.0, reported_change f h number (suc first) flags cs s.1))

-- ---- answers

reported_one : (number first : ℕ) (a : Answer) (flags : List Bool) (cs : List Counted) → AreReported flags cs
    → AreReported (kept_from first ((number, a) ∷ []) flags) (change_at count_answered number first cs)
reported_one number first a [] [] s = tt
reported_one number first a [] (c ∷ cs) s = absurd s
reported_one number first a (o ∷ flags) [] s = absurd s
reported_one number first a (o ∷ flags) (c ∷ cs) s = split (first == number)
    (λ e. rw e (rw (eq-eqb number first (sym (eqb-true first number e))) (ap not (sym (no_more o)), reported_one number (suc first) a flags cs s.1)))
    (λ e. rw e (rw (ne_eqb number first (λ q. let f = eq-eqb first number (sym q) in absurd cc))
    (s.0 ∙ ap not (sym (as_before o)), reported_one number (suc first) a flags cs s.1)))
  where
    no_more : (b : Bool) → (b && false) ≡ false
    no_more true = refl
    no_more false = refl

    as_before : (b : Bool) → (b && true) ≡ b
    as_before true = refl
    as_before false = refl

kept_more : (a : ℕ × Answer) (answers : List (ℕ × Answer)) (first : ℕ) (flags : List Bool)
    → kept_from first answers (kept_from first (a ∷ []) flags) ≡ kept_from first (a ∷ answers) flags
kept_more a answers first [] = refl
kept_more a answers first (o ∷ flags) =
    ap₂ ◌∷◌ (both o (a.0 == first) (is_reported answers first)) (kept_more a answers (suc first) flags)
  where
    both : (o x y : Bool) → ((o && not (x || false)) && not y) ≡ (o && not (x || y))
    both true true y = refl
    both true false y = refl
    both false x y = refl

-- the calls after these answers
pub reported_answers : (answers : List (ℕ × Answer)) (flags : List Bool) (n : Counts) → AreReported flags n.calls
    → AreReported (kept_from 1 answers flags) (count_answers answers n).calls
reported_answers [] flags n s = subst (λ f. AreReported f n.calls) (sym (none 1 flags)) s
  where
    none : (first : ℕ) (flags : List Bool) → kept_from first [] flags ≡ flags
    none first [] = refl
    none first (true ∷ flags) = ap (λ l. true ∷ l) (none (suc first) flags)
    none first (false ∷ flags) = ap (λ l. false ∷ l) (none (suc first) flags)
reported_answers (a ∷ answers) flags n s =
    subst (λ f. AreReported f (count_answers (a ∷ answers) n).calls) (kept_more a answers 1 flags)
    (reported_answers answers (kept_from 1 (a ∷ []) flags) (count_answer a.0 a.1 n)
    (subst (AreReported (kept_from 1 (a ∷ []) flags)) (sym (change_one count_answered a.0 n.calls)) (reported_one a.0 1 a.1 flags n.calls s)))

-- the results do not show whether a call was answered
answered_same : (number first : ℕ) (flags : List Bool) (cs : List Counted)
    → tallied first flags (change_at count_answered number first cs) ≡ tallied first flags cs
answered_same number first [] cs = refl
answered_same number first (o ∷ flags) [] = refl
answered_same number first (true ∷ flags) (c ∷ cs) = split (first == number)
    (λ e. rw e (ap (λ l. effects_of first c ∷ l) (answered_same number (suc first) flags cs)))
    (λ e. rw e (ap (λ l. effects_of first c ∷ l) (answered_same number (suc first) flags cs)))
answered_same number first (false ∷ flags) (c ∷ cs) = answered_same number (suc first) flags cs

pub tallied_answers : (answers : List (ℕ × Answer)) (flags : List Bool) (n : Counts)
    → tallied 1 flags n.calls ≡ tallied 1 flags (count_answers answers n).calls
tallied_answers [] flags n = refl
tallied_answers (a ∷ answers) flags n =
    sym (ap (tallied 1 flags) (change_one count_answered a.0 n.calls) ∙ answered_same a.0 1 flags n.calls)
    ∙ tallied_answers answers flags (count_answer a.0 a.1 n)

-- ---- acts

-- a call with the acts of one of its bursts
abbrev pub counted_acts : List Act → Counted → Counted
counted_acts done c = record c { sent = c.sent + count_by is_sent done; played = c.played + count_by is_played done }

change_same : (f g : Counted → Counted) → ((c : Counted) → f c ≡ g c) → (number first : ℕ) (cs : List Counted)
    → change_at f number first cs ≡ change_at g number first cs
change_same f g h number first [] = refl
change_same f g h number first (c ∷ cs) =
    ap₂ (λ x l. (if first == number then x else c) ∷ l) (h c) (change_same f g h number (suc first) cs)

change_none : (f : Counted → Counted) → ((c : Counted) → f c ≡ c) → (number first : ℕ) (cs : List Counted) → change_at f number first cs ≡ cs
change_none f h number first [] = refl
change_none f h number first (c ∷ cs) = split (first == number)
    (λ e. rw e (ap₂ ◌∷◌ (h c) (change_none f h number (suc first) cs)))
    (λ e. rw e (ap (λ l. c ∷ l) (change_none f h number (suc first) cs)))

change_both : (f g : Counted → Counted) (number first : ℕ) (cs : List Counted)
    → change_at f number first (change_at g number first cs) ≡ change_at (λ c. f (g c)) number first cs
change_both f g number first [] = refl
change_both f g number first (c ∷ cs) = split (first == number)
    (λ e. rw e (ap (λ l. f (g c) ∷ l) (change_both f g number (suc first) cs)))
    (λ e. rw e (ap (λ l. c ∷ l) (change_both f g number (suc first) cs)))

abbrev one : Bool → ℕ
one b = cond b 1 0

-- one act before the others
acts_more : (a : Act) (done : List Act) (c : Counted)
    → record c { sent = (c.sent + one (is_sent a)) + count_by is_sent done; played = (c.played + one (is_played a)) + count_by is_played done }
    ≡ counted_acts (a ∷ done) c
acts_more a done c =
    ap₂ (λ x y. record c { sent = x; played = y })
    (let s = sum_by-cons (λ x. cond (is_sent x) 1 0) a done in omega arith)
    (let s = sum_by-cons (λ x. cond (is_played x) 1 0) a done in omega arith)

acts_none : (done : List Act) (c : Counted)
    → counted_acts done c ≡ record c { sent = (c.sent + 0) + count_by is_sent done; played = (c.played + 0) + count_by is_played done }
acts_none done c = ap₂ (λ x y. record c { sent = x; played = y }) (omega arith) (omega arith)

sent_first : (done : List Act) (c : Counted)
    → counted_acts done (count_sent c) ≡ record c { sent = (c.sent + 1) + count_by is_sent done; played = (c.played + 0) + count_by is_played done }
sent_first done c = ap₂ (λ x y. record c { sent = x; played = y }) (omega arith) (omega arith)

played_first : (done : List Act) (c : Counted)
    → counted_acts done (count_played c) ≡ record c { sent = (c.sent + 0) + count_by is_sent done; played = (c.played + 1) + count_by is_played done }
played_first done c = ap₂ (λ x y. record c { sent = x; played = y }) (omega arith) (omega arith)

pub acts_calls : (call : ℕ) (done : List Act) (n : Counts) → (count_acts call done n).calls ≡ change_at (counted_acts done) call 1 n.calls
acts_calls call [] n = sym (change_none (counted_acts []) none call 1 n.calls)
  where
    none : (c : Counted) → counted_acts [] c ≡ c
    none c = ap₂ (λ x y. record c { sent = x; played = y }) (omega arith) (omega arith)
acts_calls call (a ∷ done) n = by_act a (λ m. acts_calls call done m)
  where
    plain : (a : Act) → one (is_sent a) ≡ 0 → one (is_played a) ≡ 0
        → change_at (counted_acts done) call 1 n.calls ≡ change_at (counted_acts (a ∷ done)) call 1 n.calls
    plain a s p = change_same (counted_acts done) (counted_acts (a ∷ done))
        (λ c. acts_none done c
        ∙ ap₂ (λ x y. record c { sent = (c.sent + x) + count_by is_sent done; played = (c.played + y) + count_by is_played done }) (sym s) (sym p)
        ∙ acts_more a done c) call 1 n.calls

    by_act : (a : Act) → ((m : Counts) → (count_acts call done m).calls ≡ change_at (counted_acts done) call 1 m.calls)
        → (count_acts call (a ∷ done) n).calls ≡ change_at (counted_acts (a ∷ done)) call 1 n.calls
    by_act (act.Load block) h = h n ∙ plain (act.Load block) refl refl
    by_act (act.Store block words) h = h n ∙ plain (act.Store block words) refl refl
    by_act (act.Failed block store) h = h n ∙ plain (act.Failed block store) refl refl
    by_act (act.Sent frame) h =
        h (count_act call (act.Sent frame) n)
        ∙ ap (change_at (counted_acts done) call 1) (change_one count_sent call n.calls)
        ∙ change_both (counted_acts done) count_sent call 1 n.calls
        ∙ change_same (λ c. counted_acts done (count_sent c)) (counted_acts (act.Sent frame ∷ done))
        (λ c. sent_first done c ∙ acts_more (act.Sent frame) done c) call 1 n.calls
    by_act (act.Popped frame) h = h (count_act call (act.Popped frame) n) ∙ plain (act.Popped frame) refl refl
    by_act (act.Played word rate volume) h =
        h (count_act call (act.Played word rate volume) n)
        ∙ ap (change_at (counted_acts done) call 1) (change_one count_played call n.calls)
        ∙ change_both (counted_acts done) count_played call 1 n.calls
        ∙ change_same (λ c. counted_acts done (count_played c)) (counted_acts (act.Played word rate volume ∷ done))
        (λ c. played_first done c ∙ acts_more (act.Played word rate volume) done c) call 1 n.calls
    by_act (act.Register key value) h = h n ∙ plain (act.Register key value) refl refl

pub handed_calls : (r : Option ℕ) (n : Counts) → (count_handed r n).calls ≡ n.calls
handed_calls None n = refl
handed_calls (Some result) n = refl
