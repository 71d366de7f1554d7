-- The whole journal of a section serves each thread.
use Rattle.std.proofs.Common.{◌≡◌, ℕ, zero, suc, ◌+◌, ◌==◌, ◌&&◌, nat_lt, if◌then◌else◌, is_none, is_some, Bool, true, Option, Some, None, List, [], ◌∷◌, map, slice_get, slice_index_or, refl, sym, ap, ◌∙◌, subst, arith, append-nil, eq-eqb, true≢false}
use Rattle.std.proofs.lemmas.Bool.{and_parts}
use Rattle.std.proofs.lemmas.Option.{slice_get-map}
use Rattle.std.specs.Option.{option_map}
use Rattle.part_defs.specs.Log.{call_of_thread, opening_log}
use Rattle.nook_data.specs.Answers.{answer_at}
use Rattle.part_defs.specs.Runs.{event_of, state_after, step_of}
use Rattle.run_defs.specs.Simulation.{ThreadState, Waiting, answers_of_thread, started, threads_after, thread_after}
use Rattle.run_defs.proofs.RunChanges.{settled, settled_by}
use Rattle.part_defs.specs.State.{PartState}
use Rattle.part_defs.specs.Steps.{enabled, opening}
use Rattle.nook_data.specs.Valid.{IsValidPart}
use Rattle.nook_data.specs.declared.calls.Answer.{Answer}
use Rattle.nook_data.specs.declared.steps.Event.{Event}
use Rattle.nook_data.specs.declared.steps.Event.TheVariants as event
use Rattle.nook_data.specs.declared.calls.Op.{Op}
use Rattle.nook_data.specs.declared.scenario.PartSpec.{PartSpec}
use Rattle.nook_data.specs.declared.steps.Step.{Step}
use Rattle.nook_data.specs.declared.steps.Step.TheVariants as step
use Rattle.nook_data.specs.declared.scenario.ThreadSpec.{ThreadSpec}
use Rattle.part_laws.proofs.Indices.{split}
use Rattle.part_laws.proofs.RunBound.{opening_tied}
use Rattle.part_laws.proofs.StepsFit.{fit_after, opening_fit}
use Rattle.part_laws.proofs.TiedBursts.{tied_after}
use Rattle.part_laws.proofs.ValidFits.{valid_fits}
use Rattle.part_laws.specs.Fit.{IsFit}
use Rattle.part_laws.specs.Tied.{IsTied}
use Rattle.run_laws.proofs.Numbers.{none_found, number, started_number, step_says, pending_number}
use Rattle.nook_data.proofs.Options.{none_is_some, same_inside}
use Rattle.run_laws.specs.Audit.{Section, are_through, has_nothing, invocation_by, is_complete, is_through, opening_section, section_after, thread_on}
use Rattle.run_laws.specs.Fitting.{FitsFrom, IsNext, section_from}
use Rattle.threaded_run.proofs.Numbered.{ComeAfter}
use Rattle.audited_runs.proofs.Serves.{AreOn, IsGiven, IsHere, Serves, Starts, serves_before, waiting_number}

-- ---- a thread's open call is the one that the part has open

-- the open call of the thread has the number that the part has for it
abbrev pub IsOpen : ℕ → PartState → Option Waiting → Type 0
IsOpen i p w = number i p.log.pending ≡ waiting_number w

started_open : (i index : ℕ) (e : Event) (t : ThreadState) → waiting_number (started i index e t).waiting ≡ started_number i e (waiting_number t.waiting)
started_open i index (event.Invoke call thread o a) t = split (thread == i)
    (λ e. rw e refl)
    (λ e. rw e refl)
started_open i index (event.Enter call thread attempt a) t = refl
started_open i index (event.Burst context call burst count end acts a failure) t = refl
started_open i index (event.Stage stage answers released) t = refl
started_open i index (event.Arrive frame kept) t = refl

started_here : (i index : ℕ) (e : Event) (t : ThreadState) → IsHere index t.waiting → IsHere index (started i index e t).waiting
started_here i index (event.Invoke call thread o a) t h = split (thread == i)
    (λ e. rw e refl)
    (λ e. rw e h)
started_here i index (event.Enter call thread attempt a) t h = h
started_here i index (event.Burst context call burst count end acts a failure) t h = h
started_here i index (event.Stage stage answers released) t h = h
started_here i index (event.Arrive frame kept) t h = h

settled_open : (index : ℕ) (t : ThreadState) (w : Waiting) (a : Option Answer) → t.waiting ≡ Some w
    → waiting_number (settled_by index t a).waiting ≡ (if is_some a then None else Some w.call)
settled_open index t w None h = ap waiting_number h
settled_open index t w (Some a) h = refl

reported_open : (index : ℕ) (e : Event) (t : ThreadState) (w : Option Waiting) → t.waiting ≡ w → IsHere index w
    → waiting_number (settled index e t w).waiting ≡ pending_number (λ call. answer_at call e) (waiting_number w)
reported_open index e t None h here = ap waiting_number h
reported_open index e t (Some w) h here =
    ap (λ o. waiting_number (settled_by index t o).waiting) (mine (w.part == index) (eq-eqb w.part index here)) ∙ settled_open index t w (answer_at w.call e) h
  where
    mine : (b : Bool) → b ≡ true → (if b then answer_at w.call e else None) ≡ answer_at w.call e
    mine b h = rw h refl

settled_here : (index : ℕ) (t : ThreadState) (a : Option Answer) → IsHere index t.waiting → IsHere index (settled_by index t a).waiting
settled_here index t None h = h
settled_here index t (Some a) h = tt

reported_here : (index : ℕ) (e : Event) (t : ThreadState) (w : Option Waiting) → IsHere index t.waiting → IsHere index (settled index e t w).waiting
reported_here index e t None h = h
reported_here index e t (Some w) h = settled_here index t (if w.part == index then answer_at w.call e else None) h

-- both hold after an event
pub here_after : (i index : ℕ) (e : Event) (t : ThreadState) → IsHere index t.waiting → IsHere index (thread_after index e (started i index e t)).waiting
here_after i index e t here = reported_here index e (started i index e t) (started i index e t).waiting (started_here i index e t here)

pub open_after : (i index : ℕ) (p : PartState) (e : Event) (t : ThreadState) → IsTied p → enabled p (step_of e) ≡ true → event_of p (step_of e) ≡ e
    → IsHere index t.waiting → IsOpen i p t.waiting → IsOpen i (state_after p (step_of e)) (thread_after index e (started i index e t)).waiting
open_after i index p e t tied may is here opened =
    let begun : ThreadState = started i index e t in
    step_says p (step_of e) i tied may
    ∙ ap (λ y. pending_number (λ call. answer_at call y) (started_number i y (number i p.log.pending))) is
    ∙ ap (λ o. pending_number (λ call. answer_at call e) (started_number i e o)) opened
    ∙ ap (pending_number (λ call. answer_at call e)) (sym (started_open i index e t))
    ∙ sym (reported_open index e begun begun.waiting refl (started_here i index e t here))

-- ---- the threads of a section

pub after_at : (n index : ℕ) (e : Event) (threads : List ThreadState) (k : ℕ) (t : ThreadState) → slice_get threads k ≡ Some t
    → slice_get (threads_after n index e threads) k ≡ Some (thread_after index e (started (n + k) index e t))
after_at n index e [] k t h = none_is_some h
after_at n index e (x ∷ threads) zero t h =
    ap {B = Option ThreadState} (λ (y : ThreadState). Some (thread_after index e (started n index e y))) (same_inside h)
    ∙ ap {B = Option ThreadState} (λ (m : ℕ). Some (thread_after index e (started m index e t))) (plus n)
  where
    plus : (n : ℕ) → n ≡ n + 0
    plus n = omega arith
after_at n index e (x ∷ threads) (suc k) t h =
    after_at (n + 1) index e threads k t h ∙ ap {B = Option ThreadState} (λ (m : ℕ). Some (thread_after index e (started m index e t))) (next n k)
  where
    next : (n k : ℕ) → n + 1 + k ≡ n + suc k
    next n k = omega arith

rest_next : (thread : ℕ) (o : Op) (t : ThreadState) → invocation_by thread (Some t) ≡ Some (step.Invoke thread o) → (p : ℕ) × ((more : List (ℕ × Op)) × (t.rest ≡ (p, o) ∷ more))
rest_next thread o t h = by_rest t.rest refl h
  where
    by_rest : (rest : List (ℕ × Op)) → t.rest ≡ rest → elim rest as (λ x. Option Step) [ [] ↦ None | (x ∷ more) ↦ Some (step.Invoke thread x.1) ] ≡ Some (step.Invoke thread o)
        → (p : ℕ) × ((more : List (ℕ × Op)) × (t.rest ≡ (p, o) ∷ more))
    by_rest [] e k = none_is_some k
    by_rest (x ∷ more) e k =
        let same : x.1 ≡ o = cc in
        (x.0, (more, e ∙ ap {B = List (ℕ × Op)} (λ (y : Op). (x.0, y) ∷ more) same))

pub waits_nowhere : (w : Option Waiting) → None ≡ waiting_number w → w ≡ None
waits_nowhere None h = refl
waits_nowhere (Some w) h = none_is_some h

starts_own : (i : ℕ) (s : Section) (e : Event) (t : ThreadState) → slice_get s.threads i ≡ Some t → enabled s.seat.run.state (step_of e) ≡ true
    → IsNext s (step_of e) → IsOpen i s.seat.run.state t.waiting → Starts i e t
unfolding enabled
starts_own i s (event.Invoke call thread o a) t at may next opened = λ same.
    let p : PartState = s.seat.run.state in
    let free : is_none (call_of_thread thread p.log.pending) ≡ true =
    (and_parts (nat_lt thread 16) (is_none (call_of_thread thread p.log.pending))
    (and_parts (nat_lt thread 16 && is_none (call_of_thread thread p.log.pending)) (nat_lt p.log.count 100000) may).0).1 in
    let none : number i p.log.pending ≡ None = subst (λ (n : ℕ). number n p.log.pending ≡ None) same (none_found thread p.log.pending free) in (
      waits_nowhere t.waiting (sym none ∙ opened),
      rest_next thread o t (sym (ap (invocation_by thread) (ap (slice_get s.threads) same ∙ at)) ∙ next),
    )
starts_own i s (event.Enter call thread attempt a) t at may next opened = tt
starts_own i s (event.Burst context call burst count end acts a failure) t at may next opened = tt
starts_own i s (event.Stage stage answers released) t at may next opened = tt
starts_own i s (event.Arrive frame kept) t at may next opened = tt

-- ---- each event

-- at the end of a section a thread has nothing left
through_at : (threads : List ThreadState) (i : ℕ) (t : ThreadState) → slice_get threads i ≡ Some t → are_through threads ≡ true → is_through t ≡ true
through_at [] i t h k = none_is_some h
through_at (x ∷ threads) zero t h k = subst (λ y. is_through y ≡ true) (same_inside h) (and_parts (is_through x) (are_through threads) k).0
through_at (x ∷ threads) (suc i) t h k = through_at threads i t h (and_parts (is_through x) (are_through threads) k).1

answers_at : (threads : List ThreadState) (i : ℕ) (t : ThreadState) → slice_get threads i ≡ Some t → slice_index_or (map answers_of_thread threads) i [] ≡ t.answers
answers_at [] i t h = none_is_some h
answers_at (x ∷ threads) zero t h = ap (λ (y : ThreadState). y.answers) (same_inside h)
answers_at (x ∷ threads) (suc i) t h = answers_at threads i t h

serves_through : (index i n : ℕ) (journal : List Event) (t : ThreadState) (rest : List (ℕ × Op)) (w : Option Waiting) (final : List (ℕ × Answer)) → t.rest ≡ rest → t.waiting ≡ w
    → (has_nothing rest && is_none w) ≡ true → final ≡ t.answers → Serves index i journal n t final
serves_through index i n journal t [] None final r w h e = record {
  receipts = [];
  on = subst (λ ops. AreOn journal i ops []) (sym r) tt;
  rising = tt;
  given = subst (λ o. IsGiven index i journal n t.answers o [] final) (sym w) (e ∙ sym (append-nil t.answers));
}
serves_through index i n journal t [] (Some x) final r w h e = absurd (true≢false (sym h))
serves_through index i n journal t (o ∷ rest) w final r is h e = absurd (true≢false (sym h))

pub serves_from : (i n : ℕ) (journal : List Event) (s : Section) (events : List Event) (t : ThreadState) → IsFit s.seat.run.state → IsTied s.seat.run.state
    → FitsFrom s events → slice_get s.threads i ≡ Some t → IsHere s.index t.waiting → IsOpen i s.seat.run.state t.waiting → ComeAfter journal n events
    → Serves s.index i journal n t (slice_index_or (map answers_of_thread (section_from s events).threads) i [])
unfolding FitsFrom section_after is_complete
serves_from i n journal s [] t f tied h at here opened are =
    serves_through s.index i n journal t t.rest t.waiting (slice_index_or (map answers_of_thread s.threads) i []) refl refl
    (through_at s.threads i t at (and_parts (are_through s.threads) _ h).0) (answers_at s.threads i t at)
serves_from i n journal s (e ∷ events) t f tied h at here opened are =
    let p : PartState = s.seat.run.state in
    let x : Step = step_of e in
    let t' : ThreadState = thread_after s.index e (started i s.index e t) in
    let first : slice_get journal n ≡ Some e = ap (slice_get journal) (plus n) ∙ sym (are 0) in
    let at' : slice_get (threads_after 0 s.index (event_of p x) s.threads) i ≡ Some t' =
    ap (λ y. slice_get (threads_after 0 s.index y s.threads) i) h.1 ∙ after_at 0 s.index e s.threads i t at
    ∙ ap {B = Option ThreadState} (λ (m : ℕ). Some (thread_after s.index e (started m s.index e t))) (none i) in
    let opened' : IsOpen i (section_after s x).seat.run.state t'.waiting = open_after i s.index p e t tied h.0 h.1 here opened in
    serves_before s.index i journal n e t (slice_index_or (map answers_of_thread (section_from (section_after s x) events).threads) i []) first here
    (starts_own i s e t at h.0 h.2 opened)
    (serves_from i (suc n) journal (section_after s x) events t' (fit_after p x f h.0) (tied_after p x f tied h.0) h.3 at'
    (here_after i s.index e t here) opened' (λ k. are (suc k) ∙ ap (slice_get journal) (next n k)))
  where
    plus : (n : ℕ) → n ≡ n + 0
    plus n = omega arith

    none : (n : ℕ) → 0 + n ≡ n
    none n = omega arith

    next : (n k : ℕ) → n + suc k ≡ suc n + k
    next n k = omega arith

-- the whole journal of a part serves a thread
pub part_serves : (threads : List ThreadSpec) (index : ℕ) (spec : PartSpec) (journal : List Event) (i : ℕ) (t : ThreadSpec) → IsValidPart spec
    → FitsFrom (opening_section threads index spec) journal → slice_get threads i ≡ Some t
    → Serves index i journal 0 (thread_on index t) (slice_index_or (map answers_of_thread (section_from (opening_section threads index spec) journal).threads) i [])
unfolding opening opening_log
part_serves threads index spec journal i t v h at =
    serves_from i 0 journal (opening_section threads index spec) journal (thread_on index t) (opening_fit spec (valid_fits spec v)) (opening_tied spec) h
    (get_map (thread_on index) threads i t at) tt refl (λ k. ap (slice_get journal) (none k))
  where
    none : (n : ℕ) → n ≡ 0 + n
    none n = omega arith

    get_map : {X Y : Type 0} (f : X → Y) (xs : List X) (k : ℕ) (x : X) → slice_get xs k ≡ Some x → slice_get (map f xs) k ≡ Some (f x)
    get_map f xs k x h = slice_get-map f xs k ∙ ap (option_map f) h
