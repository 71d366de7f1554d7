-- An arrival that may be chosen is that of its part's next frame.
use Rattle.std.proofs.Common.{◌≡◌, ℕ, suc, ◌+◌, Option, Some, None, List, [], ◌∷◌, length, slice_get, refl, sym, ap, ◌∙◌, subst, arith}
use Rattle.std.specs.List.{AllByRecursion}
use Rattle.nook_data.specs.declared.calls.Op.{Op}
use Rattle.nook_data.specs.declared.steps.Step.{Step}
use Rattle.nook_data.specs.declared.steps.Step.TheVariants as step
use Rattle.part_defs.specs.Runs.{if_enabled, next_for, next_recovery}
use Rattle.run_defs.specs.Simulation.{Choice, RunningPart, Simulation, ThreadState, Waiting, arrival, going_on}
use Rattle.run_defs.specs.Simulation.{invocation, choices_of}
use Rattle.run_defs.proofs.ChoicesInOrder.{with_choice, with_invocation, with_thread, thread_choices, part_choices}
use Rattle.run_defs.proofs.ChoicesInOrder.{choices_in_order}
use Rattle.part_defs.specs.State.{PartState}
use Rattle.part_defs.specs.Steps.{enabled}
use Rattle.part_defs.proofs.NextSteps.{next_for_case}
use Rattle.part_laws.proofs.Indices.{split}
use Rattle.nook_data.proofs.Options.{none_is_some, same_inside}
use Rattle.run_laws.specs.Audit.{arrival_of}

-- if the step is an arrival, it is that of the part's next frame
abbrev pub IsFrameNext : Option RunningPart → Step → Type 0
IsFrameNext None s = Unit {0}
IsFrameNext (Some seat) (step.Arrive frame) = arrival_of seat.coming ≡ Some (step.Arrive frame)
IsFrameNext (Some seat) s = Unit {0}

abbrev IsNoArrival : Step → Type 0
IsNoArrival (step.Arrive frame) = ⊥
IsNoArrival s = Unit {0}

no_frame : (q : Option RunningPart) (s : Step) → IsNoArrival s → IsFrameNext q s
no_frame None s h = tt
no_frame (Some seat) (step.Invoke thread o) h = tt
no_frame (Some seat) (step.Enter thread) h = tt
no_frame (Some seat) (step.Burst context) h = tt
no_frame (Some seat) step.Stage h = tt
no_frame (Some seat) (step.Arrive frame) h = absurd h

-- the step that is found is the first or one of the others
if_case : (P : Step → Type 0) (p : PartState) (s s' : Step) (others : Option Step) → P s → (others ≡ Some s' → P s') → if_enabled p s others ≡ Some s' → P s'
if_case P p s s' others here more h = split (enabled p s)
    (λ e. subst P (same_inside (rw e at h)) here)
    (λ e. more (rw e at h))

for_no_arrival : (p : PartState) (thread : ℕ) (s : Step) → next_for p thread ≡ Some s → IsNoArrival s
for_no_arrival p thread s h = next_for_case IsNoArrival p thread s (λ e. tt) (λ e. tt) h

recovery_no_arrival : (p : PartState) (s : Step) → next_recovery p ≡ Some s → IsNoArrival s
unfolding next_recovery
recovery_no_arrival p s h =
    if_case IsNoArrival p step.Stage s (if_enabled p (step.Burst 16) None) tt
    (if_case IsNoArrival p (step.Burst 16) s None tt none_is_some) h

arrival_framed : (seat : RunningPart) (coming : List (List ℕ)) (s : Step) → seat.coming ≡ coming → arrival seat.run coming ≡ Some s → IsFrameNext (Some seat) s
arrival_framed seat [] s e h = none_is_some h
arrival_framed seat (frame ∷ coming) s e h = if_case (IsFrameNext (Some seat)) seat.run.state (step.Arrive frame) s None (ap arrival_of e) none_is_some h

module _ (parts : List RunningPart) where
  abbrev pub IsFramed : Choice → Type 0
  IsFramed c = IsFrameNext (slice_get parts c.part) c.step

  framed_with : (actor part : ℕ) (o : Option Step) (choices : List Choice) → ((s : Step) → o ≡ Some s → IsFrameNext (slice_get parts part) s)
      → AllByRecursion IsFramed choices → AllByRecursion IsFramed (with_choice actor part o choices)
  framed_with actor part None choices next more = more
  framed_with actor part (Some s) choices next more = (next s refl, more)

  framed_going : (thread part : ℕ) (q : Option RunningPart) (choices : List Choice) → AllByRecursion IsFramed choices
      → AllByRecursion IsFramed (with_choice thread part (going_on thread q) choices)
  framed_going thread part None choices more = more
  framed_going thread part (Some seat) choices more =
      framed_with thread part (next_for seat.run.state thread) choices
      (λ s h. no_frame (slice_get parts part) s (for_no_arrival seat.run.state thread s h)) more

  framed_invoking : (thread part : ℕ) (o : Op) (q : Option RunningPart) (choices : List Choice) → AllByRecursion IsFramed choices
      → AllByRecursion IsFramed (with_choice thread part (invocation thread o q) choices)
  framed_invoking thread part o None choices more = more
  framed_invoking thread part o (Some seat) choices more =
      framed_with thread part (if_enabled seat.run.state (step.Invoke thread o) None) choices
      (λ s h. no_frame (slice_get parts part) s (if_case IsNoArrival seat.run.state (step.Invoke thread o) s None tt none_is_some h)) more

  framed_rest : (thread : ℕ) (rest : List (ℕ × Op)) (choices : List Choice) → AllByRecursion IsFramed choices
      → AllByRecursion IsFramed (with_invocation thread parts rest choices)
  framed_rest thread [] choices more = more
  framed_rest thread ((part, o) ∷ rest) choices more = framed_invoking thread part o (slice_get parts part) choices more

  framed_thread : (thread : ℕ) (t : ThreadState) (w : Option Waiting) (choices : List Choice) → AllByRecursion IsFramed choices
      → AllByRecursion IsFramed (with_thread thread parts t w choices)
  framed_thread thread t None choices more = framed_rest thread t.rest choices more
  framed_thread thread t (Some w) choices more = framed_going thread w.part (slice_get parts w.part) choices more

  framed_threads : (thread : ℕ) (threads : List ThreadState) (choices : List Choice) → AllByRecursion IsFramed choices
      → AllByRecursion IsFramed (thread_choices thread parts threads choices)
  framed_threads thread [] choices more = more
  framed_threads thread (t ∷ threads) choices more =
      framed_thread thread t t.waiting (thread_choices (thread + 1) parts threads choices) (framed_threads (thread + 1) threads choices more)

  framed_parts : (actor part : ℕ) (seats : List RunningPart) → ((k : ℕ) → slice_get seats k ≡ slice_get parts (part + k))
      → AllByRecursion IsFramed (part_choices actor part seats)
  framed_parts actor part [] same = tt
  framed_parts actor part (seat ∷ seats) same =
      let at : slice_get parts part ≡ Some seat = ap (slice_get parts) (first part) ∙ sym (same 0) in
      framed_with actor part (next_recovery seat.run.state) _
      (λ s h. no_frame (slice_get parts part) s (recovery_no_arrival seat.run.state s h))
      (framed_with (actor + 1) part (arrival seat.run seat.coming) _
      (λ s h. subst (λ q. IsFrameNext q s) (sym at) (arrival_framed seat seat.coming s refl h))
      (framed_parts (actor + 2) (part + 1) seats (λ k. same (suc k) ∙ ap (slice_get parts) (next part k))))
    where
      first : (n : ℕ) → n ≡ n + 0
      first n = omega arith

      next : (n k : ℕ) → n + suc k ≡ n + 1 + k
      next n k = omega arith

pub choices_framed : (s : Simulation) → AllByRecursion (IsFramed s.parts) (choices_of s)
choices_framed s =
    subst (AllByRecursion (IsFramed s.parts)) (sym (choices_in_order s))
    (framed_threads s.parts 0 s.threads (part_choices (length s.threads) 0 s.parts)
    (framed_parts s.parts (length s.threads) 0 s.parts (λ k. ap (slice_get s.parts) (plus k))))
  where
    plus : (k : ℕ) → k ≡ 0 + k
    plus k = omega arith
