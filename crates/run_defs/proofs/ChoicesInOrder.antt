-- The choices of a simulation are in the order of their actors.
use Rattle.std.proofs.Common.{◌≡◌, ℕ, ◌+◌, ◌*◌, Option, Some, None, List, [], ◌∷◌, ◌++◌, length, slice_get, refl, sym, ap, ◌∙◌, arith}
use Rattle.std.specs.Prelude.{filter_map, flat_map}
use Rattle.std.specs.List.{cons_option, enumerate_from}
use Rattle.nook_data.specs.declared.calls.Op.{Op}
use Rattle.nook_data.specs.declared.steps.Step.{Step}
use Rattle.part_defs.specs.Runs.{next_recovery}
use Rattle.run_defs.specs.Simulation.{Choice, RunningPart, Simulation, ThreadState, Waiting, arrival, choice_of}
use Rattle.run_defs.specs.Simulation.{choice_of_thread, choices_of, choices_of_part, going_on, invocation}

-- puts a choice, if there is a step, before those of later actors
abbrev pub with_choice : ℕ → ℕ → Option Step → List Choice → List Choice
with_choice actor part None choices = choices
with_choice actor part (Some s) choices = record { actor = actor; part = part; step = s } ∷ choices

-- puts the invocation of a thread's next operation before the choices of later actors
abbrev pub with_invocation : ℕ → List RunningPart → List (ℕ × Op) → List Choice → List Choice
with_invocation thread parts [] choices = choices
with_invocation thread parts ((part, o) ∷ rest) choices =
    with_choice thread part (invocation thread o (slice_get parts part)) choices

-- a thread continues its open call if it has one; otherwise it invokes an operation
abbrev pub with_thread : ℕ → List RunningPart → ThreadState → Option Waiting → List Choice → List Choice
with_thread thread parts t None choices = with_invocation thread parts t.rest choices
with_thread thread parts t (Some w) choices =
    with_choice thread w.part (going_on thread (slice_get parts w.part)) choices

-- the steps of a part's recovery, followed by its arrivals
abbrev pub part_choices : ℕ → ℕ → List RunningPart → List Choice
part_choices actor part [] = []
part_choices actor part (seat ∷ parts) =
    with_choice actor part (next_recovery seat.run.state)
    (with_choice (actor + 1) part (arrival seat.run seat.coming) (part_choices (actor + 2) (part + 1) parts))

-- the choices of threads from a number on, followed by the choices of later actors
abbrev pub thread_choices : ℕ → List RunningPart → List ThreadState → List Choice → List Choice
thread_choices thread parts [] choices = choices
thread_choices thread parts (t ∷ threads) choices =
    with_thread thread parts t t.waiting (thread_choices (thread + 1) parts threads choices)

choice_before : (actor part : ℕ) (o : Option Step) (choices : List Choice)
    → cons_option (choice_of actor part o) choices ≡ with_choice actor part o choices
choice_before actor part None choices = refl
choice_before actor part (Some s) choices = refl

option_before : {X : Type 0} (o : Option X) (xs ys : List X) → cons_option o xs ++ ys ≡ cons_option o (xs ++ ys)
option_before None xs ys = refl
option_before (Some x) xs ys = refl

thread_before : (thread : ℕ) (parts : List RunningPart) (t : ThreadState) (choices : List Choice)
    → cons_option (choice_of_thread parts (thread, t)) choices ≡ with_thread thread parts t t.waiting choices
thread_before thread parts t choices = by_open t.waiting t.rest
  where
    by_open : (w : Option Waiting) (rest : List (ℕ × Op))
        → cons_option (choice_of_thread parts (thread, record t { waiting = w; rest = rest })) choices
        ≡ with_thread thread parts (record t { rest = rest }) w choices
    by_open (Some w) rest = choice_before thread w.part (going_on thread (slice_get parts w.part)) choices
    by_open None [] = refl
    by_open None ((part, o) ∷ rest) = choice_before thread part (invocation thread o (slice_get parts part)) choices

threads_before : (thread : ℕ) (parts : List RunningPart) (threads : List ThreadState) (choices : List Choice)
    → filter_map (choice_of_thread parts) (enumerate_from thread threads) ++ choices ≡ thread_choices thread parts threads choices
threads_before thread parts [] choices = refl
threads_before thread parts (t ∷ threads) choices =
    option_before (choice_of_thread parts (thread, t)) (filter_map (choice_of_thread parts) (enumerate_from (thread + 1) threads)) choices
    ∙ ap (cons_option (choice_of_thread parts (thread, t))) (threads_before (thread + 1) parts threads choices)
    ∙ thread_before thread parts t (thread_choices (thread + 1) parts threads choices)

parts_in_order : (count actor part : ℕ) (parts : List RunningPart) → actor ≡ count + 2 * part
    → flat_map (choices_of_part count) (enumerate_from part parts) ≡ part_choices actor part parts
parts_in_order count actor part [] h = refl
parts_in_order count actor part (seat ∷ parts) h =
    let more : List Choice = flat_map (choices_of_part count) (enumerate_from (part + 1) parts) in
    option_before (choice_of (count + 2 * part) part (next_recovery seat.run.state)) _ more
    ∙ ap (cons_option (choice_of (count + 2 * part) part (next_recovery seat.run.state)))
    (option_before (choice_of (count + 2 * part + 1) part (arrival seat.run seat.coming)) [] more)
    ∙ choice_before (count + 2 * part) part (next_recovery seat.run.state) _
    ∙ ap (with_choice (count + 2 * part) part (next_recovery seat.run.state))
    (choice_before (count + 2 * part + 1) part (arrival seat.run seat.coming) more)
    ∙ ap (λ xs. with_choice (count + 2 * part) part (next_recovery seat.run.state)
    (with_choice (count + 2 * part + 1) part (arrival seat.run seat.coming) xs))
    (parts_in_order count (actor + 2) (part + 1) parts (omega arith))
    ∙ ap (λ n. with_choice n part (next_recovery seat.run.state)
    (with_choice (n + 1) part (arrival seat.run seat.coming) (part_choices (actor + 2) (part + 1) parts))) (sym h)

-- the choices of all threads come before those of all parts, and each list is in the order of the actors
pub choices_in_order : (s : Simulation)
    → choices_of s ≡ thread_choices 0 s.parts s.threads (part_choices (length s.threads) 0 s.parts)
unfolding choices_of
choices_in_order s =
    threads_before 0 s.parts s.threads (flat_map (choices_of_part (length s.threads)) (enumerate_from 0 s.parts))
    ∙ ap (thread_choices 0 s.parts s.threads) (parts_in_order (length s.threads) (length s.threads) 0 s.parts (omega arith))
