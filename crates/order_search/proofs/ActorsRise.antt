-- The choices of a simulation are in rising order of their actors.
use Rattle.std.proofs.Common.{◌≡◌, ℕ, suc, ◌+◌, ◌≤◌, All, Option, Some, None, List, [], ◌∷◌, length, slice_get, sym}
use Rattle.std.proofs.Common.{subst, arith}
use Rattle.std.proofs.lemmas.List.Elements.{All-cons, All-nil}
use Rattle.explore_laws.specs.Held.{choices_in}
use Rattle.explore_laws.specs.Present.{Present, bare_run}
use Rattle.nook_data.specs.Types.{Op, Step}
use Rattle.part_defs.specs.Runs.{next_recovery}
use Rattle.run_defs.proofs.ChoicesInOrder.{choices_in_order, part_choices, thread_choices, with_choice, with_thread}
use Rattle.run_defs.specs.Simulation.{Choice, RunningPart, Simulation, ThreadState, Waiting, arrival, going_on}
use Rattle.run_defs.specs.Simulation.{invocation}

-- the actors rise, beginning at this number or above
abbrev pub RiseFrom : ℕ → List Choice → Type 0
RiseFrom n [] = Unit {0}
RiseFrom n (c ∷ choices) = (n ≤ c.actor) × RiseFrom (suc c.actor) choices

rise_earlier : (m n : ℕ) (choices : List Choice) → m ≤ n → RiseFrom n choices → RiseFrom m choices
rise_earlier m n [] l h = tt
rise_earlier m n (c ∷ choices) l h = (earlier h.0, h.1)
  where
    earlier : n ≤ c.actor → m ≤ c.actor
    earlier k = omega arith

choice_rises : (actor part : ℕ) (o : Option Step) (choices : List Choice) → RiseFrom (actor + 1) choices
    → RiseFrom actor (with_choice actor part o choices)
choice_rises actor part None choices h = rise_earlier actor (actor + 1) choices (omega arith) h
choice_rises actor part (Some s) choices h = (omega arith, rise_earlier (suc actor) (actor + 1) choices (omega arith) h)

parts_rise : (actor part : ℕ) (parts : List RunningPart) → RiseFrom actor (part_choices actor part parts)
parts_rise actor part [] = tt
parts_rise actor part (seat ∷ parts) =
    let more : List Choice = part_choices (actor + 2) (part + 1) parts in
    choice_rises actor part (next_recovery seat.run.state)
    (with_choice (actor + 1) part (arrival seat.run seat.coming) more)
    (choice_rises (actor + 1) part (arrival seat.run seat.coming) more
    (rise_earlier (actor + 1 + 1) (actor + 2) more (omega arith) (parts_rise (actor + 2) (part + 1) parts)))

thread_rises : (n : ℕ) (parts : List RunningPart) (t : ThreadState) (w : Option Waiting) (rest : List (ℕ × Op))
    (choices : List Choice) → RiseFrom (n + 1) choices → RiseFrom n
    (with_thread n parts (record t { rest = rest }) w choices)
thread_rises n parts t (Some w) rest choices h = choice_rises n w.part (going_on n (slice_get parts w.part)) choices h
thread_rises n parts t None [] choices h = rise_earlier n (n + 1) choices (omega arith) h
thread_rises n parts t None ((part, o) ∷ rest) choices h =
    choice_rises n part (invocation n o (slice_get parts part)) choices h

threads_rise : (n m : ℕ) (parts : List RunningPart) (threads : List ThreadState) (choices : List Choice)
    → n + length threads ≡ m
    → RiseFrom m choices → RiseFrom n (thread_choices n parts threads choices)
threads_rise n m parts [] choices e h = rise_earlier n m choices (omega arith) h
threads_rise n m parts (t ∷ threads) choices e h =
    thread_rises n parts t t.waiting t.rest (thread_choices (n + 1) parts threads choices)
    (threads_rise (n + 1) m parts threads choices (omega arith) h)

run_rises : (s : Simulation)
    → RiseFrom 0 (thread_choices 0 s.parts s.threads (part_choices (length s.threads) 0 s.parts))
run_rises s =
    threads_rise 0 (length s.threads) s.parts s.threads (part_choices (length s.threads) 0 s.parts) (omega arith)
    (parts_rise (length s.threads) 0 s.parts)

-- the choices rise by their actors, whatever the present is
pub choices_rise : (now : Present) → RiseFrom 0 (choices_in now)
choices_rise now = subst (RiseFrom 0) (sym (choices_in_order (bare_run now))) (run_rises (bare_run now))

pub all_later : (n : ℕ) (choices : List Choice) → RiseFrom n choices → All (λ (c : Choice). n ≤ c.actor) choices
all_later n [] h = All-nil (λ (c : Choice). n ≤ c.actor)
all_later n (c ∷ choices) h =
    All-cons (λ (d : Choice). n ≤ d.actor) c choices h.0
    (all_later n choices (rise_earlier n (suc c.actor) choices (earlier h.0) h.1))
  where
    earlier : n ≤ c.actor → n ≤ suc c.actor
    earlier k = omega arith
