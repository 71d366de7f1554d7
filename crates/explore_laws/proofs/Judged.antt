-- What the contract's judge continues from after one more event of a journal.
use Rattle.std.proofs.Common.{◌≡◌, ℕ, ◌+◌, Option, Some, None, List, [], ◌∷◌, ◌++◌, fold, option_map, refl, sym}
use Rattle.std.proofs.Common.{ap, ◌∙◌, subst, append_assoc, append-nil}
use Rattle.std.proofs.lemmas.List.Sums.{fold-append}
use Rattle.contract_monitor.proofs.Representing.{holds_first, represents_more}
use Rattle.contract_monitor.proofs.Tracking.{tracked}
use Rattle.contract_monitor.specs.Judging.{event_broken}
use Rattle.contract_monitor.specs.Keeping.{kept_first, shorter, shorter_after}
use Rattle.contract_monitor.specs.Monitors.{Monitored, Represents, Tracks, after_event, break_of, or_break}
use Rattle.explore_defs.specs.Outcomes.{clause_of}
use Rattle.explore_laws.specs.Present.{broken_after, judged_from, known_next}
use Rattle.nook_data.specs.Clauses.{clause_number}
use Rattle.nook_data.specs.Types.{Break, Class, Clause, Event}
use Rattle.promise_defs.specs.Contract.{Known, first_break, known_after, known_first}

-- ---- a monitor of any journal

monitor_on : (class : Class) (size : ℕ) (front events : List Event) (m : Monitored) → Represents class size front m
    → (n : Monitored) × Represents class size (front ++ events) n
monitor_on class size front [] m s = (m, subst (λ xs. Represents class size xs m) (sym (append-nil front)) s)
monitor_on class size front (e ∷ events) m s =
    subst (λ xs. (n : Monitored) × Represents class size xs n) (append_assoc front (e ∷ []) events)
    (monitor_on class size (front ++ e ∷ []) events (after_event e m)
    (represents_more class size front e m (after_event e m) s refl))

monitor_of : (class : Class) (size : ℕ) (events : List Event) → (m : Monitored) × Represents class size events m
monitor_of class size events = monitor_on class size [] events
    (record { kept = kept_first class size; seen = 0; broken = None }) (holds_first class size (kept_first class size) refl)

-- ---- one more event

-- the clause that was broken first, and what the judge continues from, are those after the event
pub record IsJudgedOn (was now : Option ℕ) (knew known : Known) (e : Event) : Type 0 where
  pub broken : now ≡ broken_after was (judged_from was knew) e
  pub from : judged_from now known ≡ known_next now (judged_from was knew) e

clause_at : (n : ℕ) (clause : Option Clause) → clause_of (break_of n clause) ≡ option_map clause_number clause
clause_at n None = refl
clause_at n (Some clause) = refl

judged_by : (was now : Option Break) (knew known kept : Known) (n : ℕ) (e : Event) → (was ≡ None → Tracks kept knew)
    → now ≡ or_break was (break_of n (event_broken kept e)) → known ≡ known_after knew e
    → IsJudgedOn (clause_of was) (clause_of now) knew known e
judged_by (Some b) now knew known kept n e tracks h j =
    let same : clause_of now ≡ Some b.clause = ap clause_of h in record {
      broken = same;
      from = ap (λ o. judged_from o known) same ∙ sym (ap (λ o. known_next o None e) same);
    }
judged_by None now knew known kept n e tracks h j = by_clause (event_broken kept e) refl
  where
    by_clause : (clause : Option Clause) → event_broken kept e ≡ clause → IsJudgedOn None (clause_of now) knew known e
    by_clause None none =
        let t : Tracks kept knew = tracks refl in
        let same : clause_of now ≡ None = ap clause_of h ∙ ap (λ o. clause_of (break_of n o)) none in
        let same_broken : event_broken (shorter knew) e ≡ None = ap (λ k. event_broken k e) (sym t.same) ∙ none in record {
          broken = same ∙ sym (ap (option_map clause_number) same_broken);
          from = ap (λ o. judged_from o known) same
              ∙ ap {B = Option Known} (λ k. Some (shorter k)) j
              ∙ ap {B = Option Known} (λ k. Some k) (sym (tracked e kept knew t none).same ∙ ap (λ k. shorter_after k e) t.same)
              ∙ sym (ap (λ o. known_next o (Some (shorter knew)) e) same);
        }
    by_clause (Some clause) some =
        let t : Tracks kept knew = tracks refl in
        let same : clause_of now ≡ Some (clause_number clause) = ap clause_of h ∙ ap (λ o. clause_of (break_of n o)) some in
        let same_broken : event_broken (shorter knew) e ≡ Some clause = ap (λ k. event_broken k e) (sym t.same) ∙ some in record {
          broken = same ∙ sym (ap (option_map clause_number) same_broken);
          from = ap (λ o. judged_from o known) same ∙ sym (ap (λ o. known_next o (Some (shorter knew)) e) same);
        }

pub judged_on : (class : Class) (size : ℕ) (events : List Event) (e : Event)
    → IsJudgedOn (clause_of (first_break class size events)) (clause_of (first_break class size (events ++ e ∷ [])))
    (fold known_after (known_first class size) events) (fold known_after (known_first class size) (events ++ e ∷ [])) e
judged_on class size events e =
    let m = monitor_of class size events in
    let after : Represents class size (events ++ e ∷ []) (after_event e m.0) =
    represents_more class size events e m.0 (after_event e m.0) m.1 refl in
    judged_by (first_break class size events) (first_break class size (events ++ e ∷ []))
    (fold known_after (known_first class size) events) (fold known_after (known_first class size) (events ++ e ∷ []))
    m.0.kept.known (m.0.seen + 1) e (λ none. m.1.known (m.1.broken ∙ none))
    (sym after.broken ∙ ap (λ b. or_break b (break_of (m.0.seen + 1) (event_broken m.0.kept.known e))) m.1.broken)
    (fold-append known_after (known_first class size) events (e ∷ []))
