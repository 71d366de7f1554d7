-- Journals that fit have no invocations or arrivals other than those asked for.
use Rattle.std.proofs.Common.{drop, ◌≡◌, ℕ, zero, suc, ◌+◌, is_none, Bool, true, false, Option, Some, None, List, [], ◌∷◌, filter, length, map, slice_get, refl, sym, ap, ◌∙◌, subst, arith, eqb-true, true≢false}
use Rattle.std.proofs.lemmas.Bool.{and_parts}
use Rattle.part_defs.specs.Runs.{next_any, step_of}
use Rattle.run_defs.specs.Simulation.{ThreadState, coming_after, started, threads_after, thread_after}
use Rattle.nook_data.specs.declared.steps.Event.{Event}
use Rattle.nook_data.specs.declared.steps.Event.TheVariants as event
use Rattle.nook_data.specs.declared.calls.Op.{Op}
use Rattle.nook_data.specs.declared.scenario.PartSpec.{PartSpec}
use Rattle.nook_data.specs.declared.steps.Step.TheVariants as step
use Rattle.nook_data.specs.declared.scenario.ThreadSpec.{ThreadSpec}
use Rattle.part_laws.proofs.Indices.{split}
use Rattle.part_laws.specs.Bound.{is_arrival}
use Rattle.threaded_run.specs.Others.{HasNoOthers, HaveNoOthers, is_invocation_by, operations_on}
use Rattle.nook_data.proofs.Options.{none_is_some}
use Rattle.run_laws.specs.Audit.{Section, are_through, arrival_of, has_nothing, invocation_by, is_complete, opening_section, section_after, thread_on}
use Rattle.run_laws.specs.Fitting.{AllFit, FitsFrom, IsNext}
use Rattle.audited_runs.proofs.Exact.{started_rest, started_same, reported_rest}
use Rattle.audited_runs.proofs.Shares.{filter_none, filter_same}

-- ---- the end

no_items : {X : Type 0} (xs : List X) → has_nothing xs ≡ true → length xs ≡ 0
no_items [] h = refl
no_items (x ∷ xs) h = absurd (true≢false (sym h))

-- how many operations a thread has not invoked
abbrev left_to : Option ThreadState → ℕ
left_to None = 0
left_to (Some t) = length t.rest

none_left : (threads : List ThreadState) (i : ℕ) → are_through threads ≡ true → left_to (slice_get threads i) ≡ 0
none_left [] i h = refl
none_left (t ∷ threads) zero h =
    no_items t.rest (and_parts (has_nothing t.rest) (is_none t.waiting) (and_parts _ (are_through threads) h).0).0
none_left (t ∷ threads) (suc i) h = none_left threads i (and_parts _ (are_through threads) h).1

complete_parts : (s : Section) → is_complete s ≡ true → (are_through s.threads ≡ true) × (has_nothing s.seat.coming ≡ true)
unfolding is_complete
complete_parts s h =
    let both = and_parts (are_through s.threads) _ h in
    (both.0, (and_parts (has_nothing s.seat.coming) (is_none (next_any s.seat.run.state)) both.1).0)

-- ---- an event

after_none : (n index : ℕ) (e : Event) (threads : List ThreadState) (k : ℕ) → slice_get threads k ≡ None → slice_get (threads_after n index e threads) k ≡ None
after_none n index e [] k h = refl
after_none n index e (t ∷ threads) zero h = absurd (some_none h)
  where
    some_none : {y : ThreadState} → Some y ≡ None → ⊥
    some_none h = cc
after_none n index e (t ∷ threads) (suc k) h = after_none (n + 1) index e threads k h

after_some : (n index : ℕ) (e : Event) (threads : List ThreadState) (k : ℕ) (t : ThreadState) → slice_get threads k ≡ Some t
    → slice_get (threads_after n index e threads) k ≡ Some (thread_after index e (started (n + k) index e t))
after_some n index e [] k t h = none_is_some h
after_some n index e (x ∷ threads) zero t h = same (plus n) h
  where
    plus : (n : ℕ) → n ≡ n + 0
    plus n = omega arith

    same : {m : ℕ} → n ≡ m → Some x ≡ Some t → Some (thread_after index e (started n index e x)) ≡ Some (thread_after index e (started m index e t))
    same f g = cc
after_some n index e (x ∷ threads) (suc k) t h =
    after_some (n + 1) index e threads k t h ∙ ap {B = Option ThreadState} (λ (m : ℕ). Some (thread_after index e (started m index e t))) (next n k)
  where
    next : (n k : ℕ) → n + 1 + k ≡ n + suc k
    next n k = omega arith

-- an invocation is that of the thread's next operation
asked_by : (i : ℕ) (s : Section) (e : Event) → is_invocation_by i e ≡ true → IsNext s (step_of e)
    → (o : Op) × (invocation_by i (slice_get s.threads i) ≡ Some (step.Invoke i o))
asked_by i s (event.Invoke call thread o a) is next =
    (o, subst (λ (k : ℕ). invocation_by k (slice_get s.threads k) ≡ Some (step.Invoke k o)) (eqb-true thread i is) next)
asked_by i s (event.Enter call thread attempt a) is next = absurd (true≢false (sym is))
asked_by i s (event.Burst context call burst count end acts a failure) is next = absurd (true≢false (sym is))
asked_by i s (event.Stage stage answers released) is next = absurd (true≢false (sym is))
asked_by i s (event.Arrive frame kept) is next = absurd (true≢false (sym is))

one_less : (i : ℕ) (ops : List (ℕ × Op)) (t : ThreadState) (o : Op) → t.rest ≡ ops → invocation_by i (Some t) ≡ Some (step.Invoke i o)
    → suc (length (drop 1 t.rest)) ≡ length t.rest
one_less i [] t o is h = none_is_some (rw is at h)
one_less i (x ∷ ops) t o is h = rw is refl

module _ (i : ℕ) (s : Section) (e : Event) (events : List Event) (next : IsNext s (step_of e)) where
  left_before : (q : Option ThreadState) → slice_get s.threads i ≡ q
      → length (filter (is_invocation_by i) events) ≡ left_to (slice_get (threads_after 0 s.index e s.threads) i)
      → length (filter (is_invocation_by i) (e ∷ events)) ≡ left_to q
  left_before None at more = split (is_invocation_by i e)
      (λ is. let asked = asked_by i s e is next in none_is_some (sym (ap (invocation_by i) at) ∙ asked.1))
      (λ not. ap length (filter_none (is_invocation_by i) e events not) ∙ more ∙ ap left_to (after_none 0 s.index e s.threads i at))
  left_before (Some t) at more =
      let after : length (filter (is_invocation_by i) events) ≡ length (thread_after s.index e (started i s.index e t)).rest =
      more ∙ ap left_to (after_some 0 s.index e s.threads i t at) ∙ ap (λ (k : ℕ). length (thread_after s.index e (started k s.index e t)).rest) (plus i) in
      let rest : (thread_after s.index e (started i s.index e t)).rest ≡ (started i s.index e t).rest =
      reported_rest s.index e (started i s.index e t) (started i s.index e t).waiting in
      split (is_invocation_by i e)
      (λ is.
      let asked = asked_by i s e is next in
      ap length (filter_same (is_invocation_by i) e events is)
      ∙ ap suc (after ∙ ap length (rest ∙ started_rest i s.index e t is))
      ∙ one_less i t.rest t asked.0 refl (sym (ap (invocation_by i) at) ∙ asked.1))
      (λ not. ap length (filter_none (is_invocation_by i) e events not) ∙ after ∙ ap length (rest ∙ started_same i s.index e t not))
    where
      plus : (n : ℕ) → 0 + n ≡ n
      plus n = omega arith

-- ---- all events

left_counted : (i : ℕ) (s : Section) (events : List Event) → FitsFrom s events → length (filter (is_invocation_by i) events) ≡ left_to (slice_get s.threads i)
unfolding FitsFrom section_after
left_counted i s [] h = sym (none_left s.threads i (complete_parts s h).0)
left_counted i s (e ∷ events) h =
    left_before i s e events h.2 (slice_get s.threads i) refl
    (left_counted i (section_after s (step_of e)) events h.3 ∙ ap (λ (x : Event). left_to (slice_get (threads_after 0 s.index x s.threads) i)) h.1)

frame_before : (frame : List ℕ) (kept : Bool) (events : List Event) (coming : List (List ℕ)) → arrival_of coming ≡ Some (step.Arrive frame)
    → length (filter is_arrival events) ≡ length (coming_after (step.Arrive frame) coming)
    → length (filter is_arrival (event.Arrive frame kept ∷ events)) ≡ length coming
frame_before frame kept events [] next more = none_is_some next
frame_before frame kept events (first ∷ coming) next more = ap suc more

arrives_before : (s : Section) (e : Event) (events : List Event) → IsNext s (step_of e)
    → length (filter is_arrival events) ≡ length (coming_after (step_of e) s.seat.coming) → length (filter is_arrival (e ∷ events)) ≡ length s.seat.coming
arrives_before s (event.Invoke call thread o a) events next more = more
arrives_before s (event.Enter call thread attempt a) events next more = more
arrives_before s (event.Burst context call burst count end acts a failure) events next more = more
arrives_before s (event.Stage stage answers released) events next more = more
arrives_before s (event.Arrive frame kept) events next more = frame_before frame kept events s.seat.coming next more

arrivals_counted : (s : Section) (events : List Event) → FitsFrom s events → length (filter is_arrival events) ≡ length s.seat.coming
unfolding FitsFrom section_after
arrivals_counted s [] h = sym (no_items s.seat.coming (complete_parts s h).1)
arrivals_counted s (e ∷ events) h = arrives_before s e events h.2 (arrivals_counted (section_after s (step_of e)) events h.3)

-- ---- all parts

left_at_first : (index : ℕ) (threads : List ThreadSpec) (i : ℕ) → left_to (slice_get (map (thread_on index) threads) i) ≡ operations_on index (slice_get threads i)
left_at_first index [] i = refl
left_at_first index (t ∷ threads) zero = refl
left_at_first index (t ∷ threads) (suc i) = left_at_first index threads i

part_alone : (threads : List ThreadSpec) (index : ℕ) (spec : PartSpec) (journal : List Event) → FitsFrom (opening_section threads index spec) journal
    → HasNoOthers threads index spec journal
part_alone threads index spec journal h = record {
  invoked = λ thread. left_counted thread (opening_section threads index spec) journal h ∙ left_at_first index threads thread;
  arrived = arrivals_counted (opening_section threads index spec) journal h;
}

pub have_no_others : (threads : List ThreadSpec) (index : ℕ) (parts : List PartSpec) (journals : List (List Event)) → AllFit threads index parts journals
    → HaveNoOthers threads index parts journals
unfolding AllFit
have_no_others threads index [] [] h = tt
have_no_others threads index [] (journal ∷ journals) h = absurd h
have_no_others threads index (spec ∷ parts) [] h = absurd h
have_no_others threads index (spec ∷ parts) (journal ∷ journals) h =
    (part_alone threads index spec journal h.0, have_no_others threads (suc index) parts journals h.1)
