-- What threads leave fits, if no journal has invocations or arrivals other than those asked for.
use Rattle.std.proofs.Common.{◌≡◌, ℕ, zero, suc, ◌+◌, ◌==◌, true, Some, None, List, [], ◌∷◌, filter, map, length, slice_get, slice_index_or, refl, sym, ap, ◌∙◌, subst, arith, eqb-true, eq-eqb}
use Rattle.std.proofs.lemmas.List.Elements.{recursion_from_All}
use Rattle.std.specs.List.{AllByRecursion}
use Rattle.desk_like.specs.Desks.{IsAt, IsInvoke}
use Rattle.part_defs.specs.Log.{opening_log}
use Rattle.nook_data.specs.Numbered.{at_number}
use Rattle.part_defs.specs.Runs.{IsRun, next_any, state_of}
use Rattle.part_defs.specs.Steps.{opening}
use Rattle.nook_data.specs.Valid.{IsValidPart, IsValidScenario}
use Rattle.nook_data.specs.declared.calls.Answer.{Answer}
use Rattle.nook_data.specs.declared.steps.Event.{Event}
use Rattle.nook_data.specs.declared.steps.Event.TheVariants as event
use Rattle.nook_data.specs.declared.calls.Op.{Op}
use Rattle.nook_data.specs.declared.scenario.PartSpec.{PartSpec}
use Rattle.nook_data.specs.declared.desks.Receipt.{Receipt}
use Rattle.nook_data.specs.declared.scenario.Scenario.{Scenario}
use Rattle.nook_data.specs.declared.scenario.ThreadSpec.{ThreadSpec}
use Rattle.part_laws.proofs.Indices.{from_map, split}
use Rattle.part_laws.proofs.RunBound.{opening_tied}
use Rattle.part_laws.proofs.StepsFit.{opening_fit}
use Rattle.part_laws.proofs.ValidFits.{valid_fits}
use Rattle.run_results.specs.Journals.{AreRuns}
use Rattle.threaded_run.specs.Threaded.{AreServed, AreSettled, HasArrivals, HaveArrivals, HaveReceipts, IsServed, IsThreaded, invoked_on, journal_at}
use Rattle.nook_data.proofs.Options.{none_is_some, same_inside}
use Rattle.run_laws.specs.Audit.{is_on, opening_section, thread_on}
use Rattle.run_laws.specs.Fitting.{AllFit}
use Rattle.audited_runs.proofs.Exact.{HasLeft, HasThread, InvokedAt, IsExact, IsInvokeOf, exact_fits}
use Rattle.threaded_run.proofs.Counted.{frames_numbered, if_false, if_true}
use Rattle.threaded_run.proofs.Numbered.{IsFoundAt}
use Rattle.audited_runs.proofs.Shares.{filter_none, filter_same}
use Rattle.threaded_run.specs.Others.{HasNoOthers, HaveNoOthers, is_invocation_by, operations_on}

-- ---- invocations

invoke_of : (call thread : ℕ) (o : Op) (e : Event) → IsInvoke call thread o e → IsInvokeOf thread o e
invoke_of call thread o (event.Invoke c t x a) h = (h.1, h.2)
invoke_of call thread o (event.Enter c t attempt a) h = absurd h
invoke_of call thread o (event.Burst context c burst count end acts a failure) h = absurd h
invoke_of call thread o (event.Stage stage answers released) h = absurd h
invoke_of call thread o (event.Arrive frame kept) h = absurd h

invoke_passes : (thread : ℕ) (o : Op) (e : Event) → IsInvokeOf thread o e → is_invocation_by thread e ≡ true
invoke_passes thread o (event.Invoke c t x a) h = eq-eqb t thread h.0
invoke_passes thread o (event.Enter c t attempt a) h = absurd h
invoke_passes thread o (event.Burst context c burst count end acts a failure) h = absurd h
invoke_passes thread o (event.Stage stage answers released) h = absurd h
invoke_passes thread o (event.Arrive frame kept) h = absurd h

module _ (index : ℕ) (journal : List Event) (journals : List (List Event)) (own : journal_at journals index ≡ journal) (i : ℕ) where
  -- the script's operations on a part are invoked in its journal
  pub invoked_are : (ops : List (ℕ × Op)) (receipts : List Receipt) → HaveReceipts journals i ops receipts
      → InvokedAt journal i (filter (is_on index) ops) (invoked_on index ops receipts)
  invoked_are [] [] h = tt
  invoked_are [] (r ∷ receipts) h = absurd h
  invoked_are (o ∷ ops) [] h = absurd h
  invoked_are ((part, op) ∷ ops) (r ∷ receipts) h =
      let more : InvokedAt journal i (filter (is_on index) ops) (invoked_on index ops receipts) = invoked_are ops receipts h.1 in
      split (part == index)
      (λ e.
      let is : journal_at journals part ≡ journal = ap (journal_at journals) (eqb-true part index e) ∙ own in
      let at : IsAt journal r.at_invoke (IsInvokeOf i op) = record {
        event = h.0.invoked.event;
        there = sym (ap (at_number r.at_invoke) is) ∙ h.0.invoked.there;
        is = invoke_of r.call i op h.0.invoked.event h.0.invoked.is;
      } in
      subst (λ xs. InvokedAt journal i xs (invoked_on index ((part, op) ∷ ops) (r ∷ receipts))) (sym (filter_same (is_on index) (part, op) ops e))
      (subst (InvokedAt journal i ((part, op) ∷ filter (is_on index) ops))
      (sym (if_true (part == index) (r.at_invoke ∷ invoked_on index ops receipts) (invoked_on index ops receipts) e)) (at, more)))
      (λ e.
      subst (λ xs. InvokedAt journal i xs (invoked_on index ((part, op) ∷ ops) (r ∷ receipts))) (sym (filter_none (is_on index) (part, op) ops e))
      (subst (InvokedAt journal i (filter (is_on index) ops))
      (sym (if_false (part == index) (r.at_invoke ∷ invoked_on index ops receipts) (invoked_on index ops receipts) e)) more))

pub numbered_are : (journal : List Event) (i : ℕ) (ops : List (ℕ × Op)) (numbers : List ℕ) → InvokedAt journal i ops numbers
    → AllByRecursion (IsFoundAt (is_invocation_by i) journal) numbers × (length numbers ≡ length ops)
numbered_are journal i [] [] h = (tt, refl)
numbered_are journal i [] (index ∷ numbers) h = absurd h
numbered_are journal i (o ∷ ops) [] h = absurd h
numbered_are journal i (o ∷ ops) (index ∷ numbers) h =
    let more = numbered_are journal i ops numbers h.1 in
    ((record { event = h.0.event; there = h.0.there; is = invoke_passes i o.1 h.0.event h.0.is }, more.0), ap suc more.1)

-- ---- threads

served_at : (journals : List (List Event)) (n : ℕ) (threads : List ThreadSpec) (table : List (List (ℕ × Answer))) (i : ℕ) (t : ThreadSpec) → AreServed journals n threads table
    → slice_get threads i ≡ Some t → (answers : List (ℕ × Answer)) × IsServed journals (n + i) t.ops answers
served_at journals n [] [] i t h at = none_is_some at
served_at journals n [] (own ∷ table) i t h at = absurd h
served_at journals n (x ∷ threads) [] i t h at = absurd h
served_at journals n (x ∷ threads) (own ∷ table) zero t h at =
    (own, subst (λ (m : ℕ). IsServed journals m t.ops own) (plus n) (subst (λ (y : ThreadSpec). IsServed journals n y.ops own) (same_inside at) h.0))
  where
    plus : (n : ℕ) → n ≡ n + 0
    plus n = omega arith
served_at journals n (x ∷ threads) (own ∷ table) (suc i) t h at =
    let more = served_at journals (suc n) threads table i t h.1 at in
    (more.0, subst (λ (m : ℕ). IsServed journals m t.ops more.0) (next n i) more.1)
  where
    next : (n i : ℕ) → suc n + i ≡ n + suc i
    next n i = omega arith

none_of_map : {X Y : Type 0} (f : X → Y) (xs : List X) (k : ℕ) → slice_get (map f xs) k ≡ None → slice_get xs k ≡ None
none_of_map f [] k h = refl
none_of_map f (x ∷ xs) zero h = cc
none_of_map f (x ∷ xs) (suc k) h = none_of_map f xs k h

-- ---- a part at the beginning

part_exact : (threads : List ThreadSpec) (index : ℕ) (spec : PartSpec) (journal : List Event) (journals : List (List Event)) (table : List (List (ℕ × Answer)))
    → journal_at journals index ≡ journal → IsValidPart spec → IsRun spec journal → next_any (state_of spec journal) ≡ None → AreServed journals 0 threads table
    → HasArrivals journal spec.arrivals → HasNoOthers threads index spec journal
    → IsExact journal index 0 (opening spec) spec.arrivals (map (thread_on index) threads) journal
unfolding opening opening_log
part_exact threads index spec journal journals table own v run settled served arrived none = record {
  fit = opening_fit spec (valid_fits spec v);
  tied = opening_tied spec;
  run = run;
  settled = settled;
  each = λ i t h.
      let from = from_map (thread_on index) threads i t h in
      let s = served_at journals 0 threads table i from.0 served from.1 in
      let mine : IsServed journals i from.0.ops s.0 = subst (λ (n : ℕ). IsServed journals n from.0.ops s.0) (first i) s.1 in
      let on : InvokedAt journal i (filter (is_on index) from.0.ops) (invoked_on index from.0.ops mine.receipts) =
      invoked_are index journal journals own i from.0.ops mine.receipts mine.have in
      let indexed = numbered_are journal i (filter (is_on index) from.0.ops) (invoked_on index from.0.ops mine.receipts) on in
      let left : HasLeft journal i 0 journal (filter (is_on index) from.0.ops) = record {
        numbers = invoked_on index from.0.ops mine.receipts;
        on = on;
        all = record { rising = mine.rising index; indexed = indexed.0; count = indexed.1 ∙ sym (none.invoked i ∙ ap (operations_on index) from.1) };
      } in
      subst (HasThread journal index i 0 (opening spec) journal) (sym from.2) (record { left = left; here = tt; opened = refl });
  others = λ i h. none.invoked i ∙ ap (operations_on index) (none_of_map (thread_on index) threads i h);
  frames =
      let indexed = frames_numbered journal spec.arrivals arrived.numbers arrived.arrive in
      record {
        numbers = arrived.numbers;
        arrive = arrived.arrive;
        all = record { rising = arrived.rising; indexed = indexed.0; count = indexed.1 ∙ sym none.arrived };
      };
}
  where
    first : (i : ℕ) → 0 + i ≡ i
    first i = omega arith

all_exact : (threads : List ThreadSpec) (whole : List (List Event)) (table : List (List (ℕ × Answer))) (index : ℕ) (parts : List PartSpec) (journals : List (List Event))
    → ((k : ℕ) → slice_index_or journals k [] ≡ slice_index_or whole (index + k) []) → AllByRecursion IsValidPart parts → AreRuns parts journals → AreSettled parts journals
    → AreServed whole 0 threads table → HaveArrivals parts journals → HaveNoOthers threads index parts journals → AllFit threads index parts journals
unfolding AllFit
all_exact threads whole table index [] [] same v runs settled served arrived none = tt
all_exact threads whole table index [] (journal ∷ journals) same v runs settled served arrived none = absurd runs
all_exact threads whole table index (spec ∷ parts) [] same v runs settled served arrived none = absurd runs
all_exact threads whole table index (spec ∷ parts) (journal ∷ journals) same v runs settled served arrived none =
    let own : journal_at whole index ≡ journal = ap (λ (k : ℕ). slice_index_or whole k []) (plus index) ∙ sym (same 0) in (
      exact_fits journal (opening_section threads index spec) 0 journal (λ k. ap (slice_get journal) (first k))
          (part_exact threads index spec journal whole table own v.0 runs.0 settled.0 served arrived.0 none.0),
      all_exact threads whole table (suc index) parts journals (λ k. same (suc k) ∙ ap (λ (n : ℕ). slice_index_or whole n []) (next index k)) v.1 runs.1 settled.1 served arrived.1
          none.1,
    )
  where
    plus : (n : ℕ) → n ≡ n + 0
    plus n = omega arith

    first : (k : ℕ) → k ≡ 0 + k
    first k = omega arith

    next : (n k : ℕ) → n + suc k ≡ suc n + k
    next n k = omega arith

pub threaded_fits : (scenario : Scenario) (journals : List (List Event)) (answers : List (List (ℕ × Answer))) → IsValidScenario scenario → AreRuns scenario.parts journals
    → IsThreaded scenario journals answers → AllFit scenario.threads 0 scenario.parts journals
threaded_fits scenario journals answers v runs threaded =
    all_exact scenario.threads journals answers 0 scenario.parts journals (λ k. ap (λ (n : ℕ). slice_index_or journals n []) (first k))
    (recursion_from_All IsValidPart scenario.parts v.parts) runs threaded.settled threaded.served threaded.arrived threaded.no_others
  where
    first : (k : ℕ) → k ≡ 0 + k
    first k = omega arith
