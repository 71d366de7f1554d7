-- A part's journal fits if it has exactly what the scripts and the scenario ask for.
use Rattle.std.proofs.Common.{◌==◌, if◌then◌else◌, drop, ◌≡◌, ℕ, zero, suc, ◌+◌, Bool, true, false, Option, Some, None, List, [], ◌∷◌, filter, length, slice_get, refl, sym, ap, ◌∙◌, subst, arith, eq-eqb, true≢false}
use Rattle.std.proofs.lemmas.Bool.{and_from}
use Rattle.desk_like.specs.Desks.{IsArrive, IsAt}
use Rattle.nook_data.specs.Numbered.{at_number}
use Rattle.part_defs.specs.Runs.{IsRunFrom, next_any, state_after, state_from, step_of}
use Rattle.run_defs.specs.Simulation.{ThreadState, Waiting, coming_after, started, threads_after, thread_after}
use Rattle.run_defs.proofs.RunChanges.{settled, settled_by}
use Rattle.nook_data.specs.Answers.{answer_at}
use Rattle.part_defs.specs.State.{PartState}
use Rattle.nook_data.specs.declared.calls.Answer.{Answer}
use Rattle.nook_data.specs.declared.steps.Event.{Event}
use Rattle.nook_data.specs.declared.steps.Event.TheVariants as event
use Rattle.nook_data.specs.declared.calls.Op.{Op}
use Rattle.nook_data.specs.declared.steps.Step.{Step}
use Rattle.nook_data.specs.declared.steps.Step.TheVariants as step
use Rattle.part_laws.proofs.Indices.{split}
use Rattle.part_laws.proofs.RunProgress.{none_still}
use Rattle.part_laws.proofs.StepsFit.{fit_after}
use Rattle.part_laws.proofs.TiedBursts.{tied_after}
use Rattle.part_laws.specs.Fit.{IsFit}
use Rattle.part_laws.specs.Tied.{IsTied}
use Rattle.run_laws.proofs.Numbers.{number}
use Rattle.threaded_run.specs.Threaded.{ArriveAt}
use Rattle.nook_data.proofs.Options.{none_is_some, same_inside}
use Rattle.run_laws.specs.Audit.{Section, are_through, arrival_of, has_nothing, invocation_by, is_complete, is_through, section_after}
use Rattle.run_laws.specs.Fitting.{FitsFrom, IsNext}
use Rattle.audited_runs.proofs.Numbered.{AreAll, passes_first, passes_not}
use Rattle.threaded_run.proofs.Numbered.{ComeAfter, first_after, rest_after}
use Rattle.audited_runs.proofs.Sections.{IsOpen, here_after, open_after, waits_nowhere}
use Rattle.audited_runs.proofs.Serves.{IsHere}
use Rattle.audited_runs.proofs.Shares.{filter_none, filter_same}
use Rattle.part_laws.specs.Bound.{is_arrival}
use Rattle.threaded_run.specs.Others.{is_invocation_by}

-- an invocation of an operation by a thread
abbrev pub IsInvokeOf : ℕ → Op → Event → Type 0
IsInvokeOf thread o (event.Invoke call t x a) = (t ≡ thread) × (x ≡ o)
IsInvokeOf thread o e = ⊥

-- the thread's operations were invoked by the events with these numbers
abbrev pub InvokedAt : List Event → ℕ → List (ℕ × Op) → List ℕ → Type 0
InvokedAt journal thread [] [] = Unit {0}
InvokedAt journal thread [] (position ∷ numbers) = ⊥
InvokedAt journal thread (o ∷ ops) [] = ⊥
InvokedAt journal thread (o ∷ ops) (position ∷ numbers) = IsAt journal position (IsInvokeOf thread o.1) × InvokedAt journal thread ops numbers

pub reported_rest : (position : ℕ) (e : Event) (t : ThreadState) (w : Option Waiting) → (settled position e t w).rest ≡ t.rest
reported_rest position e t None = refl
reported_rest position e t (Some w) = by_answer (if w.part == position then answer_at w.call e else None)
  where
    by_answer : (a : Option Answer) → (settled_by position t a).rest ≡ t.rest
    by_answer None = refl
    by_answer (Some a) = refl

pub started_rest : (i position : ℕ) (e : Event) (t : ThreadState) → is_invocation_by i e ≡ true → (started i position e t).rest ≡ drop 1 t.rest
started_rest i position (event.Invoke call thread o a) t h = rw h refl
started_rest i position (event.Enter call thread attempt a) t h = absurd (true≢false (sym h))
started_rest i position (event.Burst context call burst count end acts a failure) t h = absurd (true≢false (sym h))
started_rest i position (event.Stage stage answers released) t h = absurd (true≢false (sym h))
started_rest i position (event.Arrive frame kept) t h = absurd (true≢false (sym h))

pub started_same : (i position : ℕ) (e : Event) (t : ThreadState) → is_invocation_by i e ≡ false → (started i position e t).rest ≡ t.rest
started_same i position (event.Invoke call thread o a) t h = rw h refl
started_same i position (event.Enter call thread attempt a) t h = refl
started_same i position (event.Burst context call burst count end acts a failure) t h = refl
started_same i position (event.Stage stage answers released) t h = refl
started_same i position (event.Arrive frame kept) t h = refl

one_at : (journal : List Event) (position n : ℕ) (e : Event) (P : Event → Type 0) → position ≡ suc n → slice_get journal n ≡ Some e → IsAt journal position P → P e
one_at journal position n e P is here at = subst P (same_inside (sym at.there ∙ ap (λ (p : ℕ). at_number p journal) is ∙ here)) at.is

module _ (journal : List Event) where
  -- ---- a thread

  -- the thread's remaining operations are invoked after the first n events, and it invokes nothing else there
  pub record HasLeft (i n : ℕ) (events : List Event) (ops : List (ℕ × Op)) : Type 0 where
    pub numbers : List ℕ
    pub on : InvokedAt journal i ops numbers
    pub all : AreAll (is_invocation_by i) journal n events numbers

  no_position : (i n : ℕ) (e : Event) (events : List Event) → is_invocation_by i e ≡ true → AreAll (is_invocation_by i) journal n (e ∷ events) [] → ⊥
  no_position i n e events passes h =
      let one : length (filter (is_invocation_by i) (e ∷ events)) ≡ suc (length (filter (is_invocation_by i) events)) =
      ap length (filter_same (is_invocation_by i) e events passes) in
      wrong (length (filter (is_invocation_by i) events)) (h.count ∙ one)
    where
      wrong : (n : ℕ) → 0 ≡ suc n → ⊥
      wrong n e = omega arith

  -- it invokes the first operation
  invokes_first : (i n : ℕ) (e : Event) (events : List Event) (ops : List (ℕ × Op)) (numbers : List ℕ) → ComeAfter journal n (e ∷ events) → is_invocation_by i e ≡ true
      → InvokedAt journal i ops numbers → AreAll (is_invocation_by i) journal n (e ∷ events) numbers
      → HasLeft i (suc n) events (drop 1 ops) × ((p : ℕ) × ((o : Op) × ((more : List (ℕ × Op)) × (ops ≡ (p, o) ∷ more) × IsInvokeOf i o e)))
  invokes_first i n e events ops [] are passes on all = absurd (no_position i n e events passes all)
  invokes_first i n e events [] (position ∷ numbers) are passes on all = absurd on
  invokes_first i n e events (x ∷ ops) (position ∷ numbers) are passes on all =
      let first = passes_first (is_invocation_by i) journal n e events position numbers are passes all in (
        record { numbers = numbers; on = on.1; all = first.1 },
        (x.0, (x.1, (ops, refl, one_at journal position n e (IsInvokeOf i x.1) first.0 (first_after journal n e events are) on.0))),
      )

  left_after : (i position n : ℕ) (e : Event) (events : List Event) (t : ThreadState) → ComeAfter journal n (e ∷ events) → HasLeft i n (e ∷ events) t.rest
      → HasLeft i (suc n) events (thread_after position e (started i position e t)).rest
  left_after i position n e events t are h =
      let s : ThreadState = started i position e t in
      subst (HasLeft i (suc n) events) (sym (reported_rest position e s s.waiting)) (split (is_invocation_by i e)
      (λ passes. subst (HasLeft i (suc n) events) (sym (started_rest i position e t passes)) (invokes_first i n e events t.rest h.numbers are passes h.on h.all).0)
      (λ fails. subst (HasLeft i (suc n) events) (sym (started_same i position e t fails))
      (record { numbers = h.numbers; on = h.on; all = passes_not (is_invocation_by i) journal n e events h.numbers are fails h.all })))

  none_left : (i n : ℕ) (ops : List (ℕ × Op)) → HasLeft i n [] ops → ops ≡ []
  none_left i n ops h = by_positions ops h.numbers h.on h.all.count
    where
      by_positions : (ops : List (ℕ × Op)) (numbers : List ℕ) → InvokedAt journal i ops numbers → length numbers ≡ 0 → ops ≡ []
      by_positions [] numbers on c = refl
      by_positions (o ∷ ops) [] on c = absurd on
      by_positions (o ∷ ops) (position ∷ numbers) on c = absurd (omega arith)

  -- ---- frames

  -- the frames still to come arrive after the first n events, and no others do
  pub record HasComing (n : ℕ) (events : List Event) (coming : List (List ℕ)) : Type 0 where
    pub numbers : List ℕ
    pub arrive : ArriveAt journal coming numbers
    pub all : AreAll is_arrival journal n events numbers

  frame_first : (n : ℕ) (frame : List ℕ) (kept : Bool) (events : List Event) (coming : List (List ℕ)) (numbers : List ℕ) → ComeAfter journal n (event.Arrive frame kept ∷ events)
      → ArriveAt journal coming numbers → AreAll is_arrival journal n (event.Arrive frame kept ∷ events) numbers
      → HasComing (suc n) events (coming_after (step.Arrive frame) coming) × (arrival_of coming ≡ Some (step.Arrive frame))
  frame_first n frame kept events coming [] are arrive all =
      let one : length (filter is_arrival (event.Arrive frame kept ∷ events)) ≡ suc (length (filter is_arrival events)) =
      ap length (filter_same is_arrival (event.Arrive frame kept) events refl) in
      absurd (wrong (length (filter is_arrival events)) (all.count ∙ one))
    where
      wrong : (n : ℕ) → 0 ≡ suc n → ⊥
      wrong n e = omega arith
  frame_first n frame kept events [] (position ∷ numbers) are arrive all = absurd arrive
  frame_first n frame kept events (first ∷ coming) (position ∷ numbers) are arrive all =
      let next = passes_first is_arrival journal n (event.Arrive frame kept) events position numbers are refl all in
      let is = one_at journal position n (event.Arrive frame kept) (IsArrive first arrive.0.0) next.0 (first_after journal n (event.Arrive frame kept) events are) arrive.0.1 in
      (record { numbers = numbers; arrive = arrive.1; all = next.1 }, ap {B = Option Step} (λ f. Some (step.Arrive f)) (sym is.0))

  coming_not : (n : ℕ) (e : Event) (events : List Event) (coming : List (List ℕ)) → ComeAfter journal n (e ∷ events) → is_arrival e ≡ false → HasComing n (e ∷ events) coming
      → HasComing (suc n) events coming
  coming_not n e events coming are fails h =
      record { numbers = h.numbers; arrive = h.arrive; all = passes_not is_arrival journal n e events h.numbers are fails h.all }

  coming_next : (n : ℕ) (e : Event) (events : List Event) (coming : List (List ℕ)) → ComeAfter journal n (e ∷ events) → HasComing n (e ∷ events) coming
      → HasComing (suc n) events (coming_after (step_of e) coming)
  coming_next n (event.Invoke call thread o a) events coming are h = coming_not n (event.Invoke call thread o a) events coming are refl h
  coming_next n (event.Enter call thread attempt a) events coming are h = coming_not n (event.Enter call thread attempt a) events coming are refl h
  coming_next n (event.Burst context call burst count end acts a failure) events coming are h =
      coming_not n (event.Burst context call burst count end acts a failure) events coming are refl h
  coming_next n (event.Stage stage answers released) events coming are h = coming_not n (event.Stage stage answers released) events coming are refl h
  coming_next n (event.Arrive frame kept) events coming are h = (frame_first n frame kept events coming h.numbers are h.arrive h.all).0

  nothing_comes : (n : ℕ) (coming : List (List ℕ)) → HasComing n [] coming → has_nothing coming ≡ true
  nothing_comes n coming h = by_positions coming h.numbers h.arrive h.all.count
    where
      by_positions : (coming : List (List ℕ)) (numbers : List ℕ) → ArriveAt journal coming numbers → length numbers ≡ 0 → has_nothing coming ≡ true
      by_positions [] numbers on c = refl
      by_positions (frame ∷ coming) [] on c = absurd on
      by_positions (frame ∷ coming) (position ∷ numbers) on c = absurd (omega arith)

  -- ---- a part

  -- what a thread has left, if its open call is on the part
  pub record HasThread (position i n : ℕ) (p : PartState) (events : List Event) (t : ThreadState) : Type 0 where
    pub left : HasLeft i n events t.rest
    pub here : IsHere position t.waiting
    pub opened : IsOpen i p t.waiting

  -- what a part has left after the first n events
  pub record IsExact (position n : ℕ) (p : PartState) (coming : List (List ℕ)) (threads : List ThreadState) (events : List Event) : Type 0 where
    pub fit : IsFit p
    pub tied : IsTied p
    pub run : IsRunFrom p events
    pub settled : next_any (state_from p events) ≡ None
    pub each : (i : ℕ) (t : ThreadState) → slice_get threads i ≡ Some t → HasThread position i n p events t
    pub others : (i : ℕ) → slice_get threads i ≡ None → length (filter (is_invocation_by i) events) ≡ 0
    pub frames : HasComing n events coming

  -- the threads before an event, from those after it
  thread_before : (n position : ℕ) (e : Event) (threads : List ThreadState) (k : ℕ) (t' : ThreadState) → slice_get (threads_after n position e threads) k ≡ Some t'
      → (t : ThreadState) × (slice_get threads k ≡ Some t) × (thread_after position e (started (n + k) position e t) ≡ t')
  thread_before n position e [] k t' h = none_is_some h
  thread_before n position e (x ∷ threads) zero t' h = (x, refl, ap (λ (m : ℕ). thread_after position e (started m position e x)) (plus n) ∙ same_inside h)
    where
      plus : (n : ℕ) → n + 0 ≡ n
      plus n = omega arith
  thread_before n position e (x ∷ threads) (suc k) t' h =
      let b = thread_before (n + 1) position e threads k t' h in
      (b.0, b.1, ap (λ (m : ℕ). thread_after position e (started m position e b.0)) (next n k) ∙ b.2)
    where
      next : (n k : ℕ) → n + suc k ≡ n + 1 + k
      next n k = omega arith

  none_before : (n position : ℕ) (e : Event) (threads : List ThreadState) (k : ℕ) → slice_get (threads_after n position e threads) k ≡ None → slice_get threads k ≡ None
  none_before n position e [] k h = refl
  none_before n position e (x ∷ threads) zero h = absurd (some_none h)
    where
      some_none : {y : ThreadState} → Some y ≡ None → ⊥
      some_none h = cc
  none_before n position e (x ∷ threads) (suc k) h = none_before (n + 1) position e threads k h

  fewer : (test : Event → Bool) (e : Event) (events : List Event) → length (filter test (e ∷ events)) ≡ 0 → length (filter test events) ≡ 0
  fewer test e events h = split (test e)
      (λ passes. absurd (wrong (length (filter test events)) (sym h ∙ ap length (filter_same test e events passes))))
      (λ fails. sym (ap length (filter_none test e events fails)) ∙ h)
    where
      wrong : (n : ℕ) → 0 ≡ suc n → ⊥
      wrong n e = omega arith

  -- one more event
  exact_after : (position n : ℕ) (p : PartState) (coming : List (List ℕ)) (threads : List ThreadState) (e : Event) (events : List Event) → ComeAfter journal n (e ∷ events)
      → IsExact position n p coming threads (e ∷ events)
      → IsExact position (suc n) (state_after p (step_of e)) (coming_after (step_of e) coming) (threads_after 0 position e threads) events
  unfolding IsRunFrom state_from
  exact_after position n p coming threads e events are x = record {
    fit = fit_after p (step_of e) x.fit x.run.0;
    tied = tied_after p (step_of e) x.fit x.tied x.run.0;
    run = x.run.2;
    settled = x.settled;
    each = λ i t' h.
        let b = thread_before 0 position e threads i t' h in
        let old : HasThread position i n p (e ∷ events) b.0 = x.each i b.0 b.1 in
        let is : thread_after position e (started i position e b.0) ≡ t' = ap (λ (m : ℕ). thread_after position e (started m position e b.0)) (none i) ∙ b.2 in
        subst (HasThread position i (suc n) (state_after p (step_of e)) events) is (record {
          left = left_after i position n e events b.0 are old.left;
          here = here_after i position e b.0 old.here;
          opened = open_after i position p e b.0 x.tied x.run.0 x.run.1 old.here old.opened;
        });
    others = λ i h. fewer (is_invocation_by i) e events (x.others i (none_before 0 position e threads i h));
    frames = coming_next n e events coming are x.frames;
  }
    where
      none : (i : ℕ) → i ≡ 0 + i
      none i = omega arith

  invocation_is : (thread p : ℕ) (o : Op) (more : List (ℕ × Op)) (t : ThreadState) → t.rest ≡ (p, o) ∷ more → invocation_by thread (Some t) ≡ Some (step.Invoke thread o)
  invocation_is thread p o more t h = rw h refl

  -- the event's step is the next of its kind
  invoke_next : (position n : ℕ) (p : PartState) (coming : List (List ℕ)) (threads : List ThreadState) (call thread : ℕ) (o : Op) (a : Option Answer) (events : List Event)
      → ComeAfter journal n (event.Invoke call thread o a ∷ events) → IsExact position n p coming threads (event.Invoke call thread o a ∷ events)
      → (q : Option ThreadState) → slice_get threads thread ≡ q → invocation_by thread q ≡ Some (step.Invoke thread o)
  invoke_next position n p coming threads call thread o a events are x None at =
      let mine : is_invocation_by thread (event.Invoke call thread o a) ≡ true = eq-eqb thread thread refl in
      absurd (wrong (length (filter (is_invocation_by thread) events))
      (sym (x.others thread at) ∙ ap length (filter_same (is_invocation_by thread) (event.Invoke call thread o a) events mine)))
    where
      wrong : (n : ℕ) → 0 ≡ suc n → ⊥
      wrong n e = omega arith
  invoke_next position n p coming threads call thread o a events are x (Some t) at =
      let left : HasLeft thread n (event.Invoke call thread o a ∷ events) t.rest = (x.each thread t at).left in
      let first = (invokes_first thread n (event.Invoke call thread o a) events t.rest left.numbers are (eq-eqb thread thread refl) left.on left.all).1 in
      invocation_is thread first.0 first.1.0 first.1.1.0 t first.1.1.1 ∙ ap {B = Option Step} (λ y. Some (step.Invoke thread y)) (sym first.1.1.2.1)

  exact_next : (s : Section) (n : ℕ) (e : Event) (events : List Event) → ComeAfter journal n (e ∷ events)
      → IsExact s.index n s.seat.run.state s.seat.coming s.threads (e ∷ events) → IsNext s (step_of e)
  exact_next s n (event.Invoke call thread o a) events are x =
      invoke_next s.index n s.seat.run.state s.seat.coming s.threads call thread o a events are x (slice_get s.threads thread) refl
  exact_next s n (event.Enter call thread attempt a) events are x = tt
  exact_next s n (event.Burst context call burst count end acts a failure) events are x = tt
  exact_next s n (event.Stage stage answers released) events are x = tt
  exact_next s n (event.Arrive frame kept) events are x = (frame_first n frame kept events s.seat.coming x.frames.numbers are x.frames.arrive x.frames.all).1

  all_through : (threads : List ThreadState) → ((i : ℕ) (t : ThreadState) → slice_get threads i ≡ Some t → is_through t ≡ true) → are_through threads ≡ true
  all_through [] h = refl
  all_through (t ∷ threads) h = and_from (is_through t) (are_through threads) (h 0 t refl) (all_through threads (λ i x e. h (suc i) x e))

  done_through : (t : ThreadState) → t.rest ≡ [] → t.waiting ≡ None → is_through t ≡ true
  done_through t r w = rw (r, w) refl

  exact_complete : (s : Section) (n : ℕ) → IsExact s.index n s.seat.run.state s.seat.coming s.threads [] → is_complete s ≡ true
  unfolding is_complete state_from
  exact_complete s n x =
      let p : PartState = s.seat.run.state in
      let still : p.log.pending ≡ [] = (none_still p x.fit x.tied x.settled).calls in
      let through : are_through s.threads ≡ true = all_through s.threads (λ i t at.
      let h : HasThread s.index i n p [] t = x.each i t at in
      done_through t (none_left i n t.rest h.left) (waits_nowhere t.waiting (sym (ap (number i) still) ∙ h.opened))) in
      rw (through, nothing_comes n s.seat.coming x.frames, x.settled) refl

  pub exact_fits : (s : Section) (n : ℕ) (events : List Event) → ComeAfter journal n events → IsExact s.index n s.seat.run.state s.seat.coming s.threads events
      → FitsFrom s events
  unfolding FitsFrom section_after IsRunFrom
  exact_fits s n [] are x = exact_complete s n x
  exact_fits s n (e ∷ events) are x =
      let p : PartState = s.seat.run.state in (
        x.run.0,
        x.run.1,
        exact_next s n e events are x,
        exact_fits (section_after s (step_of e)) (suc n) events (rest_after journal n e events are)
            (subst (λ y. IsExact s.index (suc n) (state_after p (step_of e)) (coming_after (step_of e) s.seat.coming) (threads_after 0 s.index y s.threads) events) (sym x.run.1)
            (exact_after s.index n p s.seat.coming s.threads e events are x)),
      )
