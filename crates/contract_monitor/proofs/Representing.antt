-- After one more event a monitor represents its earlier list of events with that event.
use Rattle.std.proofs.Common.{◌≡◌, ℕ, suc, ◌+◌, Bool, true, false, cond, Option, Some, None, List, [], ◌∷◌, ◌++◌, length, refl, sym, ap, ◌∙◌, arith, add-zero, length-append}
use Rattle.std.specs.List.{filter, find, fold}
use Rattle.std.proofs.lemmas.List.Sums.{fold-append}
use Rattle.nook_data.specs.declared.verdicts.Break.{Break}
use Rattle.nook_data.specs.declared.classes.Class.{Class}
use Rattle.nook_data.specs.declared.steps.Event.{Event}
use Rattle.nook_data.specs.declared.steps.Event.TheVariants as event
use Rattle.nook_data.specs.declared.clause.Clause.{Clause}
use Rattle.promise_defs.specs.Contract.{Known, known_after, break_from, broken, deeds_of, first_break, is_broken_by}
use Rattle.promise_defs.specs.Contract.{known_first}
use Rattle.nook_data.specs.Clauses.{all_clauses, clause_number}
use Rattle.promise_defs.proofs.PromiseChanges.{break_or}
use Rattle.promise_defs.specs.Losses.{losses, call_effects_after}
use Rattle.contract_monitor.specs.Judging.{event_broken}
use Rattle.contract_monitor.specs.Keeping.{MonitorState, kept_after, kept_first, losses_of}
use Rattle.contract_monitor.specs.Monitors.{Monitored, Represents, after_event, break_of, or_break}
use Rattle.contract_monitor.proofs.Numbers.{counts_more, counts_reported}
use Rattle.contract_monitor.proofs.Tracking.{clause_tracked, tracked}

-- ---- the first break of a list and one event more

abbrev break_at : Option Clause → ℕ → Option Break → Option Break
break_at None number later = later
break_at (Some clause) number later = Some (record { event = number; clause = clause_number clause })

first_one : (number : ℕ) (c : Clause) (cs : List Clause) (found : Option Clause) (later : Option Break) (b : Bool)
    → break_or number cs later ≡ break_at found number later
    → break_or number (cond b (c ∷ cs) cs) later ≡ break_at (cond b (Some c) found) number later
first_one number c cs found later true h = refl
first_one number c cs found later false h = h

first_of : (number : ℕ) (p : Clause → Bool) (cs : List Clause) (later : Option Break) →
    break_or number (filter p cs) later ≡ break_at (find p cs) number later
first_of number p [] later = refl
first_of number p (c ∷ cs) later = first_one number c (filter p cs) (find p cs) later (p c) (first_of number p cs later)

event_first : (number : ℕ) (k : Known) (e : Event) (later : Option Break) →
    break_or number (broken k e) later ≡ break_at (event_broken k e) number later
event_first number k (event.Burst context call burst count e done a failure) later =
    first_of number (λ clause. is_broken_by clause call k (deeds_of done e a failure)) all_clauses later
event_first number k (event.Invoke call thread o a) later = refl
event_first number k (event.Enter call thread attempt a) later = refl
event_first number k (event.Stage s answers released) later = refl
event_first number k (event.Arrive frame kept) later = refl

at_last : (clause : Option Clause) (number : ℕ) → break_at clause number None ≡ break_of number clause
at_last None number = refl
at_last (Some clause) number = refl

at_first : (clause : Option Clause) (number : ℕ) (a b : Option Break) → break_at clause number (or_break a b) ≡ or_break (break_at clause number a) b
at_first None number a b = refl
at_first (Some clause) number a b = refl

break_more : (number : ℕ) (k : Known) (xs : List Event) (e : Event) →
    break_from number k (xs ++ e ∷ []) ≡ or_break (break_from number k xs) (break_of (number + length xs) (event_broken (fold known_after k xs) e))
unfolding break_from
break_more number k [] e =
    event_first number k e None
    ∙ (at_last (event_broken k e) number ∙ ap (λ n. break_of n (event_broken k e)) (sym (add-zero number)))
break_more number k (x ∷ xs) e =
    let later : Option Break = break_from (suc number) (known_after k x) xs in
    let last : ℕ → Option Break = λ (n : ℕ). break_of n (event_broken (fold known_after (known_after k x) xs) e) in
    let locations : suc number + length xs ≡ number + suc (length xs) = omega arith in
    ap (break_or number (broken k x)) (break_more (suc number) (known_after k x) xs e)
    ∙ (event_first number k x (or_break later (last (suc number + length xs)))
    ∙ (at_first (event_broken k x) number later (last (suc number + length xs))
    ∙ (ap (λ b. or_break b (last (suc number + length xs))) (sym (event_first number k x later))
    ∙ ap (λ n. or_break (break_or number (broken k x) later) (last n)) locations)))

first_break_more : (class : Class) (size : ℕ) (xs : List Event) (e : Event) →
    first_break class size (xs ++ e ∷ [])
    ≡ or_break (first_break class size xs) (break_of (length xs + 1) (event_broken (fold known_after (known_first class size) xs) e))
unfolding first_break
first_break_more class size xs e =
    let locations : 1 + length xs ≡ length xs + 1 = omega arith in
    break_more 1 (known_first class size) xs e
    ∙ ap (λ n. or_break (break_from 1 (known_first class size) xs) (break_of n (event_broken (fold known_after (known_first class size) xs) e))) locations

-- ---- the first break that a monitor keeps

or_none : (a b : Option Break) → or_break a b ≡ None → a ≡ None
or_none None b h = refl
or_none (Some x) b h = h

none_later : (was : Option Break) (number : ℕ) (clause : Option Clause) → or_break was (break_of number clause) ≡ None → clause ≡ None
none_later None number None h = refl
none_later None number (Some clause) h = absurd cc
none_later (Some b) number clause h = absurd cc

or_same : (was : Option Break) (number : ℕ) (a b : Option Clause) → (was ≡ None → a ≡ b)
    → or_break was (break_of number a) ≡ or_break was (break_of number b)
or_same None number a b h = ap (break_of number) (h refl)
or_same (Some x) number a b h = refl

-- ---- the monitor

pub holds_first : (class : Class) (size : ℕ) (k : MonitorState) → k ≡ kept_first class size
    → Represents class size [] (record { kept = k; seen = 0; broken = None })
unfolding first_break break_from
holds_first class size k e = record {
  known = λ _. record { same = ap (λ kept. kept.known) e; front = refl };
  call_effects = ap (λ kept. kept.call_effects) e;
  counts = ap (λ kept. kept.counts) e;
  seen = refl;
  broken = refl;
}

-- a monitor whose fields are those after one more event
pub is_after : (e : Event) (m : Monitored) (knew kept : MonitorState) (had seen : ℕ) (was broken : Option Break) (clause : Option Clause) →
    record { kept = knew; seen = had; broken = was } ≡ m → kept ≡ kept_after knew e → seen ≡ had + 1
    → clause ≡ event_broken knew.known e → broken ≡ or_break was (break_of seen clause)
    → record { kept = kept; seen = seen; broken = broken } ≡ after_event e m
is_after e m knew kept had seen was broken clause is k n c b = rw (← is, b, c, k, n) refl

pub represents_more : (class : Class) (size : ℕ) (events : List Event) (e : Event) (m n : Monitored) → Represents class size events m
    → n ≡ after_event e m → Represents class size (events ++ e ∷ []) n
represents_more class size events e m n s is = rw is record {
  known = λ none. rw (fold-append known_after (known_first class size) events (e ∷ []))
      (tracked e m.kept.known (fold known_after (known_first class size) events) (s.known (or_none m.broken _ none))
      (none_later m.broken (m.seen + 1) _ none));
  call_effects = ap (λ ts. call_effects_after ts e) s.call_effects ∙ sym (fold-append call_effects_after [] events (e ∷ []));
  counts = rw (s.counts, s.call_effects) (counts_more events e);
  seen = omega (arith, s.seen, length-append events (e ∷ []));
  broken =
      or_same m.broken (m.seen + 1) _ _
      (λ none. clause_tracked e m.kept.known (fold known_after (known_first class size) events) (s.known none))
      ∙ rw (s.broken, s.seen) (sym (first_break_more class size events e));
}

pub losses_hold : (class : Class) (size : ℕ) (events : List Event) (m : Monitored) → Represents class size events m
    → losses_of m.kept.counts ≡ losses events
losses_hold class size events m s = ap losses_of s.counts ∙ counts_reported events
