-- Journals determine what each thread was answered.
use Rattle.std.proofs.Common.{◌≡◌, ℕ, zero, suc, ◌+◌, ◌==◌, Bool, true, Some, List, [], ◌∷◌, filter, length, slice_get, slice_index_or, refl, sym, ap, ap₂, ◌∙◌, subst, arith, eq-eqb, inl, inr, ◌⊎◌}
use Rattle.std.specs.List.{AllByRecursion}
use Rattle.desk_like.specs.Desks.{IsReply, IsAt, IsInvoke, IsReceipt, IsRisingFrom}
use Rattle.nook_data.specs.Numbered.{at_number}
use Rattle.nook_data.specs.Valid.{IsValidPart}
use Rattle.nook_data.specs.declared.calls.Answer.{Answer}
use Rattle.nook_data.specs.declared.steps.Event.{Event}
use Rattle.nook_data.specs.declared.steps.Event.TheVariants as event
use Rattle.nook_data.specs.declared.calls.Op.{Op}
use Rattle.nook_data.specs.declared.scenario.PartSpec.{PartSpec}
use Rattle.nook_data.specs.declared.desks.Receipt.{Receipt}
use Rattle.nook_data.specs.declared.scenario.ThreadSpec.{ThreadSpec}
use Rattle.part_laws.proofs.Indices.{split}
use Rattle.part_laws.proofs.ValidFits.{valid_fits}
use Rattle.run_results.specs.Journals.{AreRuns}
use Rattle.threaded_run.specs.Threaded.{AreServed, HaveReceipts, answers_by, invoked_on, journal_at}
use Rattle.nook_data.proofs.Options.{none_is_some, same_inside}
use Rattle.run_laws.specs.Audit.{is_on}
use Rattle.audited_runs.proofs.Asked.{invoked_are, numbered_are}
use Rattle.threaded_run.proofs.Counted.{if_false, if_true}
use Rattle.audited_runs.proofs.Exact.{InvokedAt, IsInvokeOf}
use Rattle.audited_runs.proofs.Once.{answered_once}
use Rattle.audited_runs.proofs.Numbered.{AreAll, passes_first, passes_not}
use Rattle.threaded_run.proofs.Numbered.{ComeAfter, rest_after}
use Rattle.audited_runs.proofs.Shares.{filter_same}
use Rattle.threaded_run.specs.Others.{HaveNoOthers, is_invocation_by, operations_on}

-- ---- the numbers of all events of a kind

module _ (test : Event → Bool) (journal : List Event) where
  no_numbers : (numbers : List ℕ) → length numbers ≡ 0 → numbers ≡ []
  no_numbers [] h = refl
  no_numbers (index ∷ numbers) h = absurd (omega arith)

  wrong : (n : ℕ) → 0 ≡ suc n → ⊥
  wrong n e = omega arith

  same_positions : (n : ℕ) (events : List Event) (a b : List ℕ) → ComeAfter journal n events → AreAll test journal n events a → AreAll test journal n events b → a ≡ b
  same_positions n [] a b are h k = no_numbers a h.count ∙ sym (no_numbers b k.count)
  same_positions n (e ∷ events) a b are h k = split (test e) (λ passes. by_positions a b passes h k (λ x y. same_positions (suc n) events x y (rest_after journal n e events are)))
      (λ fails. same_positions (suc n) events a b (rest_after journal n e events are) (passes_not test journal n e events a are fails h) (passes_not test journal n e events b are fails k))
    where
      one : test e ≡ true → length (filter test (e ∷ events)) ≡ suc (length (filter test events))
      one passes = ap length (filter_same test e events passes)

      by_positions : (a b : List ℕ) → test e ≡ true → AreAll test journal n (e ∷ events) a → AreAll test journal n (e ∷ events) b
          → ((x y : List ℕ) → AreAll test journal (suc n) events x → AreAll test journal (suc n) events y → x ≡ y) → a ≡ b
      by_positions [] b passes h k more = absurd (wrong (length (filter test events)) (h.count ∙ one passes))
      by_positions (x ∷ a) [] passes h k more = absurd (wrong (length (filter test events)) (k.count ∙ one passes))
      by_positions (x ∷ a) (y ∷ b) passes h k more =
          let first = passes_first test journal n e events x a are passes h in
          let other = passes_first test journal n e events y b are passes k in
          ap₂ (λ (z : ℕ) zs. z ∷ zs) (first.0 ∙ sym other.0) (more a b first.1 other.1)

-- ---- two receipts of one operation

-- in each part's journal a call is answered once
abbrev AnswersOnce : List Event → Type 0
AnswersOnce journal = (call q r : ℕ) (a b : Answer) → IsAt journal q (IsReply call a) → IsAt journal r (IsReply call b) → a ≡ b

call_of : (call thread : ℕ) (o : Op) (c : ℕ) (e : Event) → IsInvoke call thread o e → IsInvoke c thread o e → call ≡ c
call_of call thread o c (event.Invoke k t x a) h i = sym h.0 ∙ i.0
call_of call thread o c (event.Enter k t attempt a) h i = absurd h
call_of call thread o c (event.Burst context k burst count end acts a failure) h i = absurd h
call_of call thread o c (event.Stage stage answers released) h i = absurd h
call_of call thread o c (event.Arrive frame kept) h i = absurd h

same_answer : (journal : List Event) (thread : ℕ) (o : Op) (r s : Receipt) → AnswersOnce journal → r.at_invoke ≡ s.at_invoke → IsReceipt journal thread o r
    → IsReceipt journal thread o s → r.answer ≡ s.answer
same_answer journal thread o r s once at h k =
    let event : h.invoked.event ≡ k.invoked.event = same_inside (sym h.invoked.there ∙ ap (λ (p : ℕ). at_number p journal) at ∙ k.invoked.there) in
    let call : r.call ≡ s.call = call_of r.call thread o s.call k.invoked.event (subst (IsInvoke r.call thread o) event h.invoked.is) k.invoked.is in
    once s.call r.at_reply s.at_reply r.answer s.answer (subst (λ (c : ℕ). IsAt journal r.at_reply (IsReply c r.answer)) call h.answered) k.answered

-- ---- two receipts of each operation of a script

module _ (journals : List (List Event)) (i : ℕ) where
  same_answers : (ops : List (ℕ × Op)) (a b : List Receipt) → ((part : ℕ) → AnswersOnce (journal_at journals part))
      → ((part : ℕ) → invoked_on part ops a ≡ invoked_on part ops b) → HaveReceipts journals i ops a → HaveReceipts journals i ops b
      → answers_by ops a ≡ answers_by ops b
  same_answers [] [] [] once same h k = refl
  same_answers [] [] (y ∷ b) once same h k = absurd k
  same_answers [] (x ∷ a) b once same h k = absurd h
  same_answers (o ∷ ops) [] b once same h k = absurd h
  same_answers (o ∷ ops) (x ∷ a) [] once same h k = absurd k
  same_answers ((part, op) ∷ ops) (x ∷ a) (y ∷ b) once same h k =
      let mine : (part == part) ≡ true = eq-eqb part part refl in
      let here : x.at_invoke ∷ invoked_on part ops a ≡ y.at_invoke ∷ invoked_on part ops b =
      sym (if_true (part == part) (x.at_invoke ∷ invoked_on part ops a) (invoked_on part ops a) mine) ∙ same part
      ∙ if_true (part == part) (y.at_invoke ∷ invoked_on part ops b) (invoked_on part ops b) mine in
      ap₂ (λ (z : Answer) (zs : List (ℕ × Answer)). (part, z) ∷ zs)
      (same_answer (journal_at journals part) i op x y (once part) (first here) h.0 k.0)
      (same_answers ops a b once (λ p. others p (same p)) h.1 k.1)
    where
      first : {c d : ℕ} {cs ds : List ℕ} → c ∷ cs ≡ d ∷ ds → c ≡ d
      first e = cc

      rest : {c d : ℕ} {cs ds : List ℕ} → c ∷ cs ≡ d ∷ ds → cs ≡ ds
      rest e = cc

      others : (p : ℕ) → invoked_on p ((part, op) ∷ ops) (x ∷ a) ≡ invoked_on p ((part, op) ∷ ops) (y ∷ b) → invoked_on p ops a ≡ invoked_on p ops b
      others p e = split (part == p)
          (λ t. rest (sym (if_true (part == p) (x.at_invoke ∷ invoked_on p ops a) (invoked_on p ops a) t) ∙ e
          ∙ if_true (part == p) (y.at_invoke ∷ invoked_on p ops b) (invoked_on p ops b) t))
          (λ f. sym (if_false (part == p) (x.at_invoke ∷ invoked_on p ops a) (invoked_on p ops a) f) ∙ e
          ∙ if_false (part == p) (y.at_invoke ∷ invoked_on p ops b) (invoked_on p ops b) f)

-- ---- the numbers of a thread's invocations

no_event : (index : ℕ) (P : Event → Type 0) → IsAt [] index P → ⊥
no_event zero P at = none_is_some at.there
no_event (suc index) P at = none_is_some at.there

empty_positions : (i : ℕ) (ops : List (ℕ × Op)) (numbers : List ℕ) → InvokedAt [] i ops numbers → numbers ≡ []
empty_positions i [] [] h = refl
empty_positions i [] (index ∷ numbers) h = absurd h
empty_positions i (o ∷ ops) [] h = refl
empty_positions i (o ∷ ops) (index ∷ numbers) h = absurd (no_event index (IsInvokeOf i o.1) h.0)

-- a part's journal has the thread's operations on the part; a part that does not exist has no journal
counted_at : (threads : List ThreadSpec) (i index : ℕ) (parts : List PartSpec) (journals : List (List Event)) → HaveNoOthers threads index parts journals → (k : ℕ)
    → (length (filter (is_invocation_by i) (slice_index_or journals k [])) ≡ operations_on (index + k) (slice_get threads i)) ⊎ (slice_index_or journals k [] ≡ [])
counted_at threads i index [] [] h k = inr refl
counted_at threads i index [] (journal ∷ journals) h k = absurd h
counted_at threads i index (spec ∷ parts) [] h k = absurd h
counted_at threads i index (spec ∷ parts) (journal ∷ journals) h zero =
    inl (h.0.invoked i ∙ ap (λ (p : ℕ). operations_on p (slice_get threads i)) (plus index))
  where
    plus : (n : ℕ) → n ≡ n + 0
    plus n = omega arith
counted_at threads i index (spec ∷ parts) (journal ∷ journals) h (suc k) =
    elim (counted_at threads i (suc index) parts journals h.1 k) [
      | inl e ↦ inl (e ∙ ap (λ (p : ℕ). operations_on p (slice_get threads i)) (next index k))
      | inr e ↦ inr e
    ]
  where
    next : (n k : ℕ) → suc n + k ≡ n + suc k
    next n k = omega arith

module _ (threads : List ThreadSpec) (parts : List PartSpec) (journals : List (List Event)) (none : HaveNoOthers threads 0 parts journals) where
  invoked_same : (i : ℕ) (t : ThreadSpec) (part : ℕ) (a b : List Receipt) → slice_get threads i ≡ Some t → HaveReceipts journals i t.ops a → HaveReceipts journals i t.ops b
      → IsRisingFrom 0 (invoked_on part t.ops a) → IsRisingFrom 0 (invoked_on part t.ops b) → invoked_on part t.ops a ≡ invoked_on part t.ops b
  invoked_same i t part a b at h k rise rise' =
      let j : List Event = journal_at journals part in
      let ops : List (ℕ × Op) = filter (is_on part) t.ops in
      let on : InvokedAt j i ops (invoked_on part t.ops a) = invoked_are part j journals refl i t.ops a h in
      let on' : InvokedAt j i ops (invoked_on part t.ops b) = invoked_are part j journals refl i t.ops b k in
      let indexed = numbered_are j i ops (invoked_on part t.ops a) on in
      let indexed' = numbered_are j i ops (invoked_on part t.ops b) on' in
      elim (counted_at threads i 0 parts journals none part) [
        | inl e ↦ same_positions (is_invocation_by i) j 0 j (invoked_on part t.ops a) (invoked_on part t.ops b) (λ n. ap (slice_get j) (plus n))
            (record { rising = rise; indexed = indexed.0; count = indexed.1 ∙ sym (operations e) })
            (record { rising = rise'; indexed = indexed'.0; count = indexed'.1 ∙ sym (operations e) })
        | inr e ↦ empty_positions i ops (invoked_on part t.ops a) (subst (λ x. InvokedAt x i ops (invoked_on part t.ops a)) e on)
            ∙ sym (empty_positions i ops (invoked_on part t.ops b) (subst (λ x. InvokedAt x i ops (invoked_on part t.ops b)) e on'))
      ]
    where
      plus : (n : ℕ) → n ≡ 0 + n
      plus n = omega arith

      operations : length (filter (is_invocation_by i) (journal_at journals part)) ≡ operations_on (0 + part) (slice_get threads i)
          → length (filter (is_invocation_by i) (journal_at journals part)) ≡ length (filter (is_on part) t.ops)
      operations e = e ∙ ap (λ (p : ℕ). operations_on p (slice_get threads i)) (sym (plus part)) ∙ ap (operations_on part) at

  table_same : (once : (part : ℕ) → AnswersOnce (journal_at journals part)) (n : ℕ) (some : List ThreadSpec) (a b : List (List (ℕ × Answer)))
      → ((k : ℕ) → slice_get some k ≡ slice_get threads (n + k)) → AreServed journals n some a → AreServed journals n some b → a ≡ b
  table_same once n [] [] [] same h k = refl
  table_same once n [] [] (y ∷ b) same h k = absurd k
  table_same once n [] (x ∷ a) b same h k = absurd h
  table_same once n (t ∷ some) [] b same h k = absurd h
  table_same once n (t ∷ some) (x ∷ a) [] same h k = absurd k
  table_same once n (t ∷ some) (x ∷ a) (y ∷ b) same h k =
      let at : slice_get threads n ≡ Some t = ap (slice_get threads) (first n) ∙ sym (same 0) in
      ap₂ (λ (z : List (ℕ × Answer)) zs. z ∷ zs)
      (h.0.same ∙ same_answers journals n t.ops h.0.receipts k.0.receipts once
      (λ part. invoked_same n t part h.0.receipts k.0.receipts at h.0.have k.0.have (h.0.rising part) (k.0.rising part)) h.0.have k.0.have ∙ sym k.0.same)
      (table_same once (suc n) some a b (λ j. same (suc j) ∙ ap (slice_get threads) (next n j)) h.1 k.1)
    where
      first : (n : ℕ) → n ≡ n + 0
      first n = omega arith

      next : (n k : ℕ) → n + suc k ≡ suc n + k
      next n k = omega arith

all_once : (parts : List PartSpec) (journals : List (List Event)) → AllByRecursion IsValidPart parts → AreRuns parts journals → (k : ℕ) → AnswersOnce (slice_index_or journals k [])
all_once [] [] v runs k = λ call q r a b x y. absurd (no_event q (IsReply call a) x)
all_once [] (journal ∷ journals) v runs k = absurd runs
all_once (spec ∷ parts) [] v runs k = absurd runs
all_once (spec ∷ parts) (journal ∷ journals) v runs zero = λ call q r a b x y. answered_once spec journal call q r a b (valid_fits spec v.0) runs.0 x y
all_once (spec ∷ parts) (journal ∷ journals) v runs (suc k) = all_once parts journals v.1 runs.1 k

-- runs that have exactly what was asked determine the answers of all threads
pub answers_unique : (threads : List ThreadSpec) (parts : List PartSpec) (journals : List (List Event)) (a b : List (List (ℕ × Answer))) → AllByRecursion IsValidPart parts
    → AreRuns parts journals → HaveNoOthers threads 0 parts journals → AreServed journals 0 threads a → AreServed journals 0 threads b → a ≡ b
answers_unique threads parts journals a b v runs none h k =
    table_same threads parts journals none (all_once parts journals v runs) 0 threads a b (λ n. ap (slice_get threads) (plus n)) h k
  where
    plus : (n : ℕ) → n ≡ 0 + n
    plus n = omega arith
