-- What an audit finds out of order: one line, and none exactly if the journals are one run.
use Rattle.std.proofs.Common.{◌≡◌, ◌⊎◌, inl, inr, ℕ, zero, suc, ◌+◌, ◌<◌, ◌≤◌, ◌==◌, Option, Some, None, List, [], ◌∷◌, length, slice_get, slice_index_or, slice_set, refl, sym, ap, ◌∙◌, subst, arith, eqb-true}
use Rattle.std.proofs.lemmas.Bool.{eqb-false}
use Rattle.nook_data.proofs.Options.{none_is_some, same_inside}
use Rattle.nook_data.specs.Valid.{IsValidScenario}
use Rattle.nook_data.specs.declared.calls.Op.{Op}
use Rattle.nook_data.specs.declared.scenario.PartSpec.{PartSpec}
use Rattle.nook_data.specs.declared.scenario.Scenario.{Scenario}
use Rattle.nook_data.specs.declared.steps.Event.{Event}
use Rattle.nook_data.specs.declared.steps.Event.TheVariants as event
use Rattle.part_laws.proofs.Indices.{split}
use Rattle.report_defs.specs.ReportText.{part_text}
use Rattle.run_defs.specs.Simulation.{ThreadState, Waiting, events_count}
use Rattle.run_laws.proofs.Passing.{report_fits}
use Rattle.run_laws.specs.Audit.{audited}
use Rattle.run_laws.specs.Fitting.{AllFit, fitting_text}
use Rattle.audited_runs.proofs.NoOthers.{have_no_others}
use Rattle.audited_runs.proofs.Threaded.{same_count}
use Rattle.order_defs.specs.OneClock.{AreOneRun}
use Rattle.order_defs.specs.OutOfOrder.{Finds, FindsAfter, IsOutOfOrder, first_left, lines_in}
use Rattle.order_defs.specs.Taking.{IsNextOf, IsStuck, IsTimely, Leads, MayTake, Taking, after_taking, opening_taking}
use Rattle.order_laws.proofs.Emptied.{emptied_one_run, set_length}
use Rattle.order_laws.proofs.Greedy.{all_stuck, ends_same, one_run_taken}
use Rattle.order_laws.proofs.Ordered.{left_is, one_fewer, one_run_ordered}
use Rattle.order_laws.proofs.PartAlone.{AllFitLeft, FitsLeft, all_fit_left, fit_after, next_op}

not_empty : {X : Type 0} {x : X} {xs : List X} → [] ≡ x ∷ xs → ⊥
not_empty h = cc

-- ---- the first event left

first_none : (line part : ℕ) (specs : List PartSpec) (journals left : List (List Event)) → ((k : ℕ) → slice_index_or left k [] ≡ [])
    → first_left line part specs journals left ≡ None
first_none line part [] journals left h = refl
first_none line part (spec ∷ specs) [] left h = refl
first_none line part (spec ∷ specs) (journal ∷ journals) [] h = refl
first_none line part (spec ∷ specs) (journal ∷ journals) ([] ∷ left) h =
    first_none (line + lines_in (part_text part spec journal)) (suc part) specs journals left (λ k. h (suc k))
first_none line part (spec ∷ specs) (journal ∷ journals) ((e ∷ events) ∷ left) h = absurd (not_empty (sym (h 0)))

none_first : (line part : ℕ) (specs : List PartSpec) (journals left : List (List Event)) → length journals ≡ length specs → length left ≡ length journals
    → first_left line part specs journals left ≡ None → (k : ℕ) → slice_index_or left k [] ≡ []
none_first line part specs journals [] sections sizes h k = refl
none_first line part [] [] (x ∷ left) sections sizes h k = absurd (omega arith)
none_first line part [] (journal ∷ journals) (x ∷ left) sections sizes h k = absurd (omega arith)
none_first line part (spec ∷ specs) [] (x ∷ left) sections sizes h k = absurd (omega arith)
none_first line part (spec ∷ specs) (journal ∷ journals) ([] ∷ left) sections sizes h zero = refl
none_first line part (spec ∷ specs) (journal ∷ journals) ([] ∷ left) sections sizes h (suc k) =
    none_first (line + lines_in (part_text part spec journal)) (suc part) specs journals left (omega arith) (omega arith) h k
none_first line part (spec ∷ specs) (journal ∷ journals) ((e ∷ events) ∷ left) sections sizes h k = none_is_some (sym h)

size_along : (order : List ℕ) (s end : Taking) → Leads s order end → length end.left ≡ length s.left
size_along [] s end leads = sym (ap (λ (x : Taking). length x.left) leads)
size_along (k ∷ order) s end leads =
    size_along order (after_taking s k leads.0.event leads.0.rest) end leads.1 ∙ set_length s.left k leads.0.rest

-- ---- none exactly if the journals are one run

pub in_order_one_run : (scenario : Scenario) (journals : List (List Event)) → IsValidScenario scenario → AllFit scenario.threads 0 scenario.parts journals
    → IsOutOfOrder scenario journals None → AreOneRun scenario.threads journals
in_order_one_run scenario journals v fits o =
    emptied_one_run scenario journals o.order o.end v fits o.leads
    (none_first 1 0 scenario.parts journals o.end.left (same_count scenario.threads 0 scenario.parts journals fits)
    (size_along o.order (opening_taking scenario.threads journals) o.end o.leads) (sym o.line_is))

pub one_run_in_order : (scenario : Scenario) (journals : List (List Event)) (line : Option ℕ) → AllFit scenario.threads 0 scenario.parts journals
    → AreOneRun scenario.threads journals → IsOutOfOrder scenario journals line → line ≡ None
one_run_in_order scenario journals line fits one o =
    o.line_is
    ∙ first_none 1 0 scenario.parts journals o.end.left
    (one_run_taken scenario.threads scenario.parts journals o.order o.end (have_no_others scenario.threads 0 scenario.parts journals fits) one o.leads o.stuck).none_left

pub one_run_none_out : (scenario : Scenario) (journals : List (List Event)) → AllFit scenario.threads 0 scenario.parts journals
    → AreOneRun scenario.threads journals → IsOutOfOrder scenario journals None
one_run_none_out scenario journals fits one =
    let o = one_run_ordered scenario.threads scenario.parts journals (have_no_others scenario.threads 0 scenario.parts journals fits) one in
    record {
      order = o.0;
      end = o.1.0;
      leads = o.1.1.0;
      stuck = all_stuck o.1.0 o.1.1.1;
      line_is = sym (first_none 1 0 scenario.parts journals o.1.0.left o.1.1.1.none_left);
    }

-- ---- one line

pub out_of_order_once : (scenario : Scenario) (journals : List (List Event)) (line other : Option ℕ) → IsOutOfOrder scenario journals line
    → IsOutOfOrder scenario journals other → line ≡ other
out_of_order_once scenario journals line other a b =
    a.line_is
    ∙ ap (λ (x : Taking). first_left 1 0 scenario.parts journals x.left)
    (ends_same a.order b.order (opening_taking scenario.threads journals) a.end b.end a.leads a.stuck b.leads b.stuck)
    ∙ sym b.line_is

-- ---- whether an event may be taken

abbrev Decided : Type 0 → Type 0
Decided P = P ⊎ (P → ⊥)

same_part : {p k : ℕ} {o op : Op} {xs ys : List (ℕ × Op)} → (p, o) ∷ xs ≡ (k, op) ∷ ys → p ≡ k
same_part {p} h = ap (part_of p) h
  where
    part_of : ℕ → List (ℕ × Op) → ℕ
    part_of d [] = d
    part_of d (x ∷ xs) = x.0

first_same : {x y : Event} {xs ys : List Event} → x ∷ xs ≡ y ∷ ys → x ≡ y
first_same h = cc

module _ (threads : List ThreadState) (k : ℕ) where
  decide_next : (thread : ℕ) (o : Op) (t : ThreadState) (left : List (ℕ × Op)) (w : Option Waiting) → slice_get threads thread ≡ Some t
      → t.waiting ≡ w → t.rest ≡ left → ((op : Op) (more : List (ℕ × Op)) → t.rest ≡ (k, op) ∷ more → op ≡ o) → Decided (IsNextOf threads thread k o)
  decide_next thread o t left (Some w) at wait next same =
      inr (λ h. none_is_some (sym (subst (λ (x : ThreadState). x.waiting ≡ None) (same_inside (sym h.at ∙ at)) h.free) ∙ wait))
  decide_next thread o t [] None at wait next same =
      inr (λ h. not_empty (sym next ∙ subst (λ (x : ThreadState). x.rest ≡ (k, o) ∷ h.more) (same_inside (sym h.at ∙ at)) h.next))
  decide_next thread o t ((p, op) ∷ more) None at wait next same = split (p == k)
      (λ here.
      let on : t.rest ≡ (k, op) ∷ more = subst (λ (q : ℕ). t.rest ≡ (q, op) ∷ more) (eqb-true p k here) next in
      inl (record {
        t = t;
        more = more;
        at = at;
        free = wait;
        next = subst (λ (x : Op). t.rest ≡ (k, x) ∷ more) (same op more on) on;
      }))
      (λ there.
      inr (λ h. eqb-false p k there
      (same_part (sym next ∙ subst (λ (x : ThreadState). x.rest ≡ (k, o) ∷ h.more) (same_inside (sym h.at ∙ at)) h.next))))

  decide_timely : (e : Event) (rest : List Event) → FitsLeft k (e ∷ rest) threads → Decided (IsTimely threads k e)
  decide_timely (event.Invoke call thread o a) rest fits = by_thread (slice_get threads thread) refl
    where
      by_thread : (found : Option ThreadState) → slice_get threads thread ≡ found → Decided (IsNextOf threads thread k o)
      by_thread None is = inr (λ h. none_is_some (sym is ∙ h.at))
      by_thread (Some t) is =
          decide_next thread o t t.rest t.waiting is refl refl (λ op more next. next_op k call thread o op a rest threads t more fits is next)
  decide_timely (event.Enter call thread attempt a) rest fits = inl tt
  decide_timely (event.Burst context call burst count end acts a failure) rest fits = inl tt
  decide_timely (event.Stage stage answers released) rest fits = inl tt
  decide_timely (event.Arrive frame kept) rest fits = inl tt

decide : (n : ℕ) (s : Taking) (k : ℕ) → AllFitLeft n s → k < n → Decided (MayTake s k)
decide n s k fits low = by_left (slice_get s.left k) refl
  where
    by_left : (found : Option (List Event)) → slice_get s.left k ≡ found → Decided (MayTake s k)
    by_left None is = inr (λ may. none_is_some (sym is ∙ may.at))
    by_left (Some []) is = inr (λ may. not_empty (same_inside (sym is ∙ may.at)))
    by_left (Some (e ∷ rest)) is =
        elim (decide_timely s.threads k e rest (subst (λ (l : List Event). FitsLeft k l s.threads) (left_is s.left k (e ∷ rest) is).0 (fits k low))) [
          | inl timely ↦ inl (record { event = e; rest = rest; at = is; timely = timely })
          | inr late ↦ inr (λ may. late (subst (IsTimely s.threads k) (first_same (same_inside (sym may.at ∙ is))) may.timely))
        ]

-- no event of the first parts may be taken, or one may
search : (n : ℕ) (s : Taking) → AllFitLeft n s → (j : ℕ) → j ≤ n → ((k : ℕ) → k < j → MayTake s k → ⊥) ⊎ ((k : ℕ) × MayTake s k)
search n s fits zero l = inl (λ k low may. none_below k low)
  where
    none_below : (k : ℕ) → k < 0 → ⊥
    none_below k low = omega arith
search n s fits (suc j) l = elim (decide n s j fits (omega arith)) [
  | inl may ↦ inr (j, may)
  | inr late ↦ elim (search n s fits j (omega arith)) [
    | inl none ↦ inl (λ k low may. split (k == j)
        (λ here. late (subst (MayTake s) (eqb-true k j here) may))
        (λ there. none k (lower k j low (eqb-false k j there)) may))
    | inr some ↦ inr some
  ]
]
  where
    lower : (k j : ℕ) → k < suc j → (k ≡ j → ⊥) → k < j
    lower k j low apart = omega arith

-- ---- an order that takes what may be taken

record HasEnd (s : Taking) : Type 0 where
  order : List ℕ
  end : Taking
  leads : Leads s order end
  stuck : IsStuck end

has_end : (m n : ℕ) (s : Taking) → events_count s.left ≡ m → length s.left ≡ n → AllFitLeft n s → HasEnd s
has_end zero n s count size fits = record {
  order = [];
  end = s;
  leads = refl;
  stuck = λ k may. none_left (events_count s.left) (events_count (slice_set s.left k may.rest)) count (one_fewer s.left k may.event may.rest may.at);
}
  where
    none_left : (a b : ℕ) → a ≡ 0 → a ≡ suc b → ⊥
    none_left a b e f = omega arith
has_end (suc m) n s count size fits = elim (search n s fits n (same n)) [
  | inl none ↦ record {
    order = [];
    end = s;
    leads = refl;
    stuck = λ k may. none k (subst (λ (j : ℕ). k < j) size (left_is s.left k (may.event ∷ may.rest) may.at).1) may;
  }
  | inr some ↦
      let more : HasEnd (after_taking s some.0 some.1.event some.1.rest) =
      has_end m n (after_taking s some.0 some.1.event some.1.rest)
      (fewer (events_count s.left) (events_count (slice_set s.left some.0 some.1.rest)) m count (one_fewer s.left some.0 some.1.event some.1.rest some.1.at))
      (set_length s.left some.0 some.1.rest ∙ size) (fit_after n s some.0 some.1 fits) in
      record { order = some.0 ∷ more.order; end = more.end; leads = (some.1, more.leads); stuck = more.stuck }
]
  where
    same : (n : ℕ) → n ≤ n
    same n = omega arith

    fewer : (a b m : ℕ) → a ≡ suc m → a ≡ suc b → b ≡ m
    fewer a b m e f = omega arith

pub out_of_order_exists : (scenario : Scenario) (journals : List (List Event)) → AllFit scenario.threads 0 scenario.parts journals
    → (line : Option ℕ) × IsOutOfOrder scenario journals line
out_of_order_exists scenario journals fits =
    let first : Taking = opening_taking scenario.threads journals in
    let e : HasEnd first =
    has_end (events_count journals) (length journals) first refl refl (all_fit_left scenario.threads scenario.parts journals [] first fits refl) in (
      first_left 1 0 scenario.parts journals e.end.left,
      record { order = e.order; end = e.end; leads = e.leads; stuck = e.stuck; line_is = refl },
    )

-- ---- reports that pass

found_one_run : (scenario : Scenario) (report : List ℕ) (first : Option ℕ) → IsValidScenario scenario → FindsAfter scenario report first None
    → (journals : List (List Event)) × AllFit scenario.threads 0 scenario.parts journals × AreOneRun scenario.threads journals
    × (report ≡ fitting_text scenario journals)
found_one_run scenario report None v found =
    (found.journals, found.fit, in_order_one_run scenario found.journals v found.fit found.out_of_order, found.text_is)
found_one_run scenario report (Some number) v found = none_is_some found

pub passed_one_run : (scenario : Scenario) (report : List ℕ) → IsValidScenario scenario → Finds scenario report None
    → (journals : List (List Event)) × AllFit scenario.threads 0 scenario.parts journals × AreOneRun scenario.threads journals
    × (report ≡ fitting_text scenario journals)
passed_one_run scenario report v found = found_one_run scenario report (audited scenario report) v found

pub one_run_passes : (scenario : Scenario) (report : List ℕ) (journals : List (List Event)) → IsValidScenario scenario
    → AllFit scenario.threads 0 scenario.parts journals → AreOneRun scenario.threads journals → report ≡ fitting_text scenario journals
    → Finds scenario report None
one_run_passes scenario report journals v fits one text =
    let none : audited scenario report ≡ None = ap (audited scenario) text ∙ report_fits scenario journals v fits in
    subst (λ (first : Option ℕ). FindsAfter scenario report first None) (sym none) (record {
      journals = journals;
      fit = fits;
      text_is = text;
      out_of_order = one_run_none_out scenario journals fits one;
    })
