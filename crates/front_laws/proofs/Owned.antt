-- A simulation whose parts have other faults takes the same steps, as long as the bursts are the same.
use Rattle.std.proofs.Common.{◌≡◌, ℕ, zero, suc, ◌+◌, Option, Some, None, List, [], ◌∷◌, ◌++◌, map, length, option_map, slice_get, slice_set, refl, sym, ap, ◌∙◌, arith}
use Rattle.nook_data.specs.declared.calls.Op.{Op}
use Rattle.nook_data.specs.declared.scenario.Fault.{Fault}
use Rattle.nook_data.specs.declared.scenario.PartSpec.{PartSpec}
use Rattle.nook_data.specs.declared.steps.Event.{Event}
use Rattle.nook_data.specs.declared.steps.Step.{Step}
use Rattle.guard_defs.specs.Guard.{with_own}
use Rattle.part_defs.specs.Runs.{event_of, next_for, next_recovery, state_after}
use Rattle.part_defs.specs.State.{PartState}
use Rattle.part_defs.specs.Steps.{enabled}
use Rattle.part_laws.proofs.DeviceStays.{spec_after}
use Rattle.run_defs.proofs.ChoicesInOrder.{choices_in_order, part_choices, thread_choices, with_choice, with_invocation, with_thread}
use Rattle.run_defs.proofs.RunChanges.{taken_by}
use Rattle.run_defs.specs.Schedules.{Order, picked}
use Rattle.run_defs.specs.Simulation.{Choice, RunningPart, Simulation, ThreadState, Waiting, actor_of, arrival, choices_of, coming_after, opening_part}
use Rattle.run_defs.specs.Simulation.{going_on, invocation, part_after, runs, stepped_by, taken, threads_after}
use Rattle.front_laws.specs.Owned.{owned, owning, seat_with}
use Rattle.front_laws.proofs.Same.{IsSameBurst, after_same, event_same, opening_with}

-- what a part may do next

for_same : (faults : List Fault) (p : PartState) (thread : ℕ) → next_for (with_own faults p) thread ≡ next_for p thread
unfolding next_for enabled
for_same faults p thread = refl

recovery_same : (faults : List Fault) (p : PartState) → next_recovery (with_own faults p) ≡ next_recovery p
unfolding next_recovery enabled
recovery_same faults p = refl

arrival_same : (faults : List Fault) (seat : RunningPart) (coming : List (List ℕ)) → arrival (seat_with faults seat).run coming ≡ arrival seat.run coming
unfolding enabled
arrival_same faults seat [] = refl
arrival_same faults seat (frame ∷ coming) = refl

-- the choice that the schedule picks, the rest of the schedule, and the rest of a run

abbrev pub pick_of : Simulation → List Choice → Option Choice
pick_of s choices = slice_get choices (picked s.order (map actor_of choices)).index

abbrev pub order_of : Simulation → List Choice → Order
order_of s choices = (picked s.order (map actor_of choices)).order

abbrev pub go_on : ℕ → Simulation → List Choice → Simulation
go_on more s [] = s
go_on more s (c ∷ choices) = runs more (taken s (c ∷ choices))

-- parts with other faults

module _ (change : ℕ → List Fault → List Fault) where
  abbrev pub seat_at : ℕ → RunningPart → RunningPart
  seat_at n seat = seat_with (change n seat.run.state.spec.faults) seat

  pub get_owning : (n i j : ℕ) (parts : List RunningPart) → j ≡ n + i
      → slice_get (owning change n parts) i ≡ option_map (seat_at j) (slice_get parts i)
  get_owning n i j [] h = refl
  get_owning n zero j (seat ∷ parts) h = let e : j ≡ n = omega arith in ap (λ (k : ℕ). Some (seat_at k seat)) (sym e)
  get_owning n (suc i) j (seat ∷ parts) h = get_owning (n + 1) i j parts (omega arith)

  set_owning : (n i j : ℕ) (parts : List RunningPart) (seat : RunningPart) → j ≡ n + i
      → slice_set (owning change n parts) i (seat_at j seat) ≡ owning change n (slice_set parts i seat)
  set_owning n i j [] seat h = refl
  set_owning n zero j (x ∷ parts) seat h =
      let e : j ≡ n = omega arith in ap (λ (k : ℕ). seat_at k seat ∷ owning change (n + 1) parts) e
  set_owning n (suc i) j (x ∷ parts) seat h = ap (λ (xs : List RunningPart). seat_at n x ∷ xs) (set_owning (n + 1) i j parts seat (omega arith))

  -- the choices

  going_same : (thread i : ℕ) (parts : List RunningPart) → going_on thread (slice_get (owning change 0 parts) i) ≡ going_on thread (slice_get parts i)
  going_same thread i parts = ap (going_on thread) (get_owning 0 i i parts (omega arith)) ∙ by_seat (slice_get parts i)
    where
      by_seat : (o : Option RunningPart) → going_on thread (option_map (seat_at i) o) ≡ going_on thread o
      by_seat None = refl
      by_seat (Some seat) = for_same (change i seat.run.state.spec.faults) seat.run.state thread

  invocation_same : (thread i : ℕ) (o : Op) (parts : List RunningPart)
      → invocation thread o (slice_get (owning change 0 parts) i) ≡ invocation thread o (slice_get parts i)
  unfolding enabled
  invocation_same thread i o parts = ap (invocation thread o) (get_owning 0 i i parts (omega arith)) ∙ by_seat (slice_get parts i)
    where
      by_seat : (x : Option RunningPart) → invocation thread o (option_map (seat_at i) x) ≡ invocation thread o x
      by_seat None = refl
      by_seat (Some seat) = refl

  thread_same : (thread : ℕ) (parts : List RunningPart) (t : ThreadState) (w : Option Waiting) (choices : List Choice)
      → with_thread thread (owning change 0 parts) t w choices ≡ with_thread thread parts t w choices
  thread_same thread parts t (Some w) choices = ap (λ (o : Option Step). with_choice thread w.part o choices) (going_same thread w.part parts)
  thread_same thread parts t None choices = by_rest t.rest
    where
      by_rest : (rest : List (ℕ × Op)) → with_invocation thread (owning change 0 parts) rest choices ≡ with_invocation thread parts rest choices
      by_rest [] = refl
      by_rest ((part, o) ∷ rest) = ap (λ (s : Option Step). with_choice thread part s choices) (invocation_same thread part o parts)

  threads_same : (thread : ℕ) (parts : List RunningPart) (threads : List ThreadState) (choices : List Choice)
      → thread_choices thread (owning change 0 parts) threads choices ≡ thread_choices thread parts threads choices
  threads_same thread parts [] choices = refl
  threads_same thread parts (t ∷ threads) choices =
      ap (with_thread thread (owning change 0 parts) t t.waiting) (threads_same (thread + 1) parts threads choices)
      ∙ thread_same thread parts t t.waiting (thread_choices (thread + 1) parts threads choices)

  parts_same : (actor part n : ℕ) (parts : List RunningPart) → part_choices actor part (owning change n parts) ≡ part_choices actor part parts
  parts_same actor part n [] = refl
  parts_same actor part n (seat ∷ parts) =
      let more : List Choice = part_choices (actor + 2) (part + 1) parts in
      let faults : List Fault = change n seat.run.state.spec.faults in
      ap (λ (xs : List Choice). with_choice actor part (next_recovery (with_own faults seat.run.state))
      (with_choice (actor + 1) part (arrival (seat_with faults seat).run seat.coming) xs)) (parts_same (actor + 2) (part + 1) (n + 1) parts)
      ∙ ap (λ (o : Option Step). with_choice actor part o (with_choice (actor + 1) part (arrival (seat_with faults seat).run seat.coming) more))
      (recovery_same faults seat.run.state)
      ∙ ap (λ (o : Option Step). with_choice actor part (next_recovery seat.run.state) (with_choice (actor + 1) part o more))
      (arrival_same faults seat seat.coming)

  pub choices_same : (s : Simulation) → choices_of (owned change s) ≡ choices_of s
  choices_same s =
      choices_in_order (owned change s)
      ∙ ap (thread_choices 0 (owning change 0 s.parts) s.threads) (parts_same (length s.threads) 0 0 s.parts)
      ∙ threads_same 0 s.parts s.threads (part_choices (length s.threads) 0 s.parts)
      ∙ sym (choices_in_order s)

  -- a step

  -- if the step is a burst, it is the same with the other faults
  abbrev pub IsSameIn : ℕ → Step → Option RunningPart → Type 0
  IsSameIn index s None = Unit {0}
  IsSameIn index s (Some seat) = IsSameBurst (change index seat.run.state.spec.faults) seat.run.state s

  part_same : (index : ℕ) (s : Step) (seat : RunningPart) → IsSameIn index s (Some seat)
      → part_after s (seat_at index seat) ≡ seat_at index (part_after s seat)
  part_same index s seat h =
      let faults : List Fault = change index seat.run.state.spec.faults in
      let after : state_after (with_own faults seat.run.state) s
      ≡ with_own (change index (state_after seat.run.state s).spec.faults) (state_after seat.run.state s) =
      after_same faults seat.run.state s h
      ∙ ap (λ (spec : PartSpec). with_own (change index spec.faults) (state_after seat.run.state s)) (sym (spec_after seat.run.state s)) in
      ap (λ (p : PartState). seat_after p (event_of (with_own faults seat.run.state) s)) after
      ∙ ap (seat_after (with_own (change index (state_after seat.run.state s).spec.faults) (state_after seat.run.state s))) (event_same faults seat.run.state s h)
    where
      seat_after : PartState → Event → RunningPart
      seat_after p e = record {
        run = record { state = p; journal = seat.run.journal ++ e ∷ [] };
        coming = coming_after s seat.coming;
      }

  pub stepped_seat : (s : Simulation) (order : Order) (c : Choice) (seat : RunningPart) → IsSameIn c.part c.step (Some seat)
      → stepped_by (owned change s) order c (Some (seat_at c.part seat)) ≡ owned change (stepped_by s order c (Some seat))
  stepped_seat s order c seat h =
      let faults : List Fault = change c.part seat.run.state.spec.faults in
      ap (λ (x : RunningPart). record {
        order = order;
        parts = slice_set (owning change 0 s.parts) c.part x;
        threads = threads_after 0 c.part (event_of (with_own faults seat.run.state) c.step) s.threads;
      }) (part_same c.part c.step seat h)
      ∙ ap (λ (xs : List RunningPart). record {
        order = order;
        parts = xs;
        threads = threads_after 0 c.part (event_of (with_own faults seat.run.state) c.step) s.threads;
      }) (set_owning 0 c.part c.part s.parts (part_after c.step seat) (omega arith))
      ∙ ap (λ (e : Event). record {
        order = order;
        parts = owning change 0 (slice_set s.parts c.part (part_after c.step seat));
        threads = threads_after 0 c.part e s.threads;
      }) (event_same faults seat.run.state c.step h)

  stepped_same : (s : Simulation) (order : Order) (c : Choice) → IsSameIn c.part c.step (slice_get s.parts c.part)
      → stepped_by (owned change s) order c (slice_get (owning change 0 s.parts) c.part) ≡ owned change (stepped_by s order c (slice_get s.parts c.part))
  stepped_same s order c h =
      ap (stepped_by (owned change s) order c) (get_owning 0 c.part c.part s.parts (omega arith)) ∙ by_seat (slice_get s.parts c.part) h
    where
      by_seat : (o : Option RunningPart) → IsSameIn c.part c.step o
          → stepped_by (owned change s) order c (option_map (seat_at c.part) o) ≡ owned change (stepped_by s order c o)
      by_seat None h' = refl
      by_seat (Some seat) h' = stepped_seat s order c seat h'

  -- the picked choice does the same burst
  abbrev pub IsSamePick : Simulation → Option Choice → Type 0
  IsSamePick s None = Unit {0}
  IsSamePick s (Some c) = IsSameIn c.part c.step (slice_get s.parts c.part)

  pub taken_same : (s : Simulation) (choices : List Choice) → IsSamePick s (pick_of s choices)
      → taken (owned change s) choices ≡ owned change (taken s choices)
  unfolding taken
  taken_same s choices h = by_pick (pick_of s choices) h
    where
      by_pick : (o : Option Choice) → IsSamePick s o
          → taken_by (owned change s) (order_of s choices) o ≡ owned change (taken_by s (order_of s choices) o)
      by_pick None h' = refl
      by_pick (Some c) h' = stepped_same s (order_of s choices) c h'

  -- a run

  abbrev pub IsSameRest : ℕ → Simulation → List Choice → (Simulation → Type 0) → Type 0
  IsSameRest more s [] rest = Unit {0}
  IsSameRest more s (c ∷ choices) rest = IsSamePick s (pick_of s (c ∷ choices)) × rest (taken s (c ∷ choices))

  -- the same for this number of steps
  unfoldable pub AreSameSteps : ℕ → Simulation → Type 0
  AreSameSteps zero s = Unit {0}
  AreSameSteps (suc more) s = IsSameRest more s (choices_of s) (AreSameSteps more)

  pub runs_same : (n : ℕ) (s : Simulation) → AreSameSteps n s → runs n (owned change s) ≡ owned change (runs n s)
  unfolding runs AreSameSteps
  runs_same zero s h = refl
  runs_same (suc more) s h = ap (go_on more (owned change s)) (choices_same s) ∙ by_choices (choices_of s) h (runs_same more)
    where
      by_choices : (choices : List Choice) → IsSameRest more s choices (AreSameSteps more)
          → ((x : Simulation) → AreSameSteps more x → runs more (owned change x) ≡ owned change (runs more x))
          → go_on more (owned change s) choices ≡ owned change (go_on more s choices)
      by_choices [] h' again = refl
      by_choices (c ∷ choices) h' again = ap (runs more) (taken_same s (c ∷ choices) h'.0) ∙ again (taken s (c ∷ choices)) h'.1

-- opening parts

pub opens_with : (faults : List Fault) (spec : PartSpec) → opening_part (record spec { faults = faults }) ≡ seat_with faults (opening_part spec)
opens_with faults spec =
    ap (λ (q : PartState). record { run = record { state = q; journal = [] }; coming = spec.arrivals }) (opening_with faults spec)

pub seat_same : (seat : RunningPart) (faults : List Fault) → faults ≡ seat.run.state.spec.faults → seat_with faults seat ≡ seat
seat_same seat faults e = ap (λ (xs : List Fault). seat_with xs seat) e
