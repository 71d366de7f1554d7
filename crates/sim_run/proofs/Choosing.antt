use Rattle.std.proofs.Common.{◌≡◌, ℕ, zero, suc, ◌+◌, ◌-◌, ◌*◌, ◌/◌, ◌%◌, ◌<◌, ◌≤◌, ◌==◌, nat_lt, true, false, Option, Some, None, List, [], ◌∷◌, ◌++◌, length, slice_get, refl, sym, ap, ◌∙◌, subst, zero-add, arith, map, is_some, append_assoc, append-nil, get_or, drop, true≢false}
use Rattle.std.proofs.Math.ListN.{drop_of_length-le}
use Rattle.std.proofs.lemmas.Option.{slice_get_read}
use Rattle.std.specs.List.{AllByRecursion}
use Rattle.std.proofs.lemmas.Bool.{false≢true, le-ltb, lt-ltb}
use Rattle.nook_data.specs.declared.calls.Op.{Op}
use Rattle.nook_data.specs.declared.steps.Step.{Step}
use Rattle.nook_data.specs.declared.steps.Step.TheVariants as step
use Rattle.part_defs.specs.Runs.{if_enabled, next_recovery}
use Rattle.run_defs.specs.Simulation.{actor_of, Choice, RunningPart, Simulation, ThreadState, Waiting, arrival}
use Rattle.run_defs.specs.Simulation.{going_on, invocation, choices_of}
use Rattle.run_defs.proofs.ChoicesInOrder.{with_choice, with_invocation, with_thread, thread_choices, part_choices}
use Rattle.run_defs.proofs.ChoicesInOrder.{choices_in_order}
use Rattle.part_defs.specs.State.{PartState}
use Rattle.part_defs.specs.Steps.{enabled}
use Rattle.part_defs.proofs.NextSteps.{next_for_case}
use Rattle.machine_defs.proofs.BurstKeeps.{split}
use Rattle.sim_run.specs.Actors.{choice_by, invocation_of, choice_when, choice_of_thread, step_of_seat, choice_of_seat, choice_at, named_if, actors_of_seat, actors_of_seats, actor_of_thread, actors_of_threads}
use Rattle.sim_run.specs.Reached.{MayTake, IsOpenChoice}

-- A choice followed by others is one of them, if there is a step.

all_with : (P : Choice → Type 0) (actor part : ℕ) (o : Option Step) (choices : List Choice)
    → ((c : Choice) → choice_by actor part o ≡ Some c → P c) → AllByRecursion P choices → AllByRecursion P (with_choice actor part o choices)
all_with P actor part None choices here more = more
all_with P actor part (Some s) choices here more = (here (record { actor = actor; part = part; step = s }) refl, more)

-- a property of each actor's choice holds for all choices

all_invocation : (P : Choice → Type 0) (thread : ℕ) (parts : List RunningPart) (rest : List (ℕ × Op)) (choices : List Choice)
    → ((c : Choice) → invocation_of thread parts rest ≡ Some c → P c) → AllByRecursion P choices
    → AllByRecursion P (with_invocation thread parts rest choices)
all_invocation P thread parts [] choices here more = more
all_invocation P thread parts ((part, o) ∷ rest) choices here more =
    all_with P thread part (invocation thread o (slice_get parts part)) choices here more

all_thread : (P : Choice → Type 0) (thread : ℕ) (parts : List RunningPart) (t : ThreadState) (w : Option Waiting) (choices : List Choice)
    → ((c : Choice) → choice_when thread parts t w ≡ Some c → P c) → AllByRecursion P choices
    → AllByRecursion P (with_thread thread parts t w choices)
all_thread P thread parts t None choices here more = all_invocation P thread parts t.rest choices here more
all_thread P thread parts t (Some w) choices here more =
    all_with P thread w.part (going_on thread (slice_get parts w.part)) choices here more

all_threads : (P : Choice → Type 0) (thread : ℕ) (parts : List RunningPart) (threads : List ThreadState) (choices : List Choice)
    → ((k : ℕ) (c : Choice) → k < length threads → choice_of_thread (thread + k) parts (slice_get threads k) ≡ Some c → P c)
    → AllByRecursion P choices → AllByRecursion P (thread_choices thread parts threads choices)
all_threads P thread parts [] choices each more = more
all_threads P thread parts (t ∷ threads) choices each more =
    all_thread P thread parts t t.waiting (thread_choices (thread + 1) parts threads choices)
    (λ c h. each 0 c (omega arith) (subst (λ (n : ℕ). choice_of_thread n parts (Some t) ≡ Some c) (plus_none thread) h))
    (all_threads P (thread + 1) parts threads choices
    (λ k c l h. each (suc k) c (omega arith) (subst (λ (n : ℕ). choice_of_thread n parts (slice_get threads k) ≡ Some c) (plus_one thread k) h))
    more)
  where
    plus_none : (n : ℕ) → n ≡ n + 0
    plus_none n = omega arith

    plus_one : (n k : ℕ) → n + 1 + k ≡ n + suc k
    plus_one n k = omega arith

all_parts : (P : Choice → Type 0) (actor part : ℕ) (parts : List RunningPart)
    → ((k which : ℕ) (c : Choice) → which < 2 → choice_of_seat (actor + (2 * k + which)) (part + k) which (slice_get parts k) ≡ Some c → P c)
    → AllByRecursion P (part_choices actor part parts)
all_parts P actor part [] each = tt
all_parts P actor part (seat ∷ parts) each =
    all_with P actor part (next_recovery seat.run.state)
    (with_choice (actor + 1) part (arrival seat.run seat.coming) (part_choices (actor + 2) (part + 1) parts))
    (λ c h. each 0 0 c (omega arith) (subst (λ (n : ℕ). choice_by n (part + 0) (next_recovery seat.run.state) ≡ Some c) (first actor)
    (subst (λ (n : ℕ). choice_by actor n (next_recovery seat.run.state) ≡ Some c) (plus_none part) h)))
    (all_with P (actor + 1) part (arrival seat.run seat.coming) (part_choices (actor + 2) (part + 1) parts)
    (λ c h. each 0 1 c (omega arith) (subst (λ (n : ℕ). choice_by n (part + 0) (arrival seat.run seat.coming) ≡ Some c) (second actor)
    (subst (λ (n : ℕ). choice_by (actor + 1) n (arrival seat.run seat.coming) ≡ Some c) (plus_none part) h)))
    (all_parts P (actor + 2) (part + 1) parts
    (λ k which c l h. each (suc k) which c l (subst (λ (n : ℕ). choice_of_seat n (part + suc k) which (slice_get parts k) ≡ Some c) (next actor k which)
    (subst (λ (n : ℕ). choice_of_seat (actor + 2 + (2 * k + which)) n which (slice_get parts k) ≡ Some c) (plus_one part k) h)))))
  where
    plus_none : (n : ℕ) → n ≡ n + 0
    plus_none n = omega arith

    plus_one : (n k : ℕ) → n + 1 + k ≡ n + suc k
    plus_one n k = omega arith

    first : (n : ℕ) → n ≡ n + (2 * 0 + 0)
    first n = omega arith

    second : (n : ℕ) → n + 1 ≡ n + (2 * 0 + 1)
    second n = omega arith

    next : (n k w : ℕ) → n + 2 + (2 * k + w) ≡ n + (2 * suc k + w)
    next n k w = omega arith

-- Each choice is that of its actor.

actor_named : (actor part : ℕ) (o : Option Step) (c : Choice) → choice_by actor part o ≡ Some c → actor ≡ c.actor
actor_named actor part None c h = cc
actor_named actor part (Some s) c h = same h
  where
    same : {x : Choice} → Some x ≡ Some c → x.actor ≡ c.actor
    same h = ap (λ (x : Choice). x.actor) (inner h)
      where
        inner : {x y : Choice} → Some x ≡ Some y → x ≡ y
        inner h = cc

thread_named : (thread : ℕ) (parts : List RunningPart) (o : Option ThreadState) (c : Choice) → choice_of_thread thread parts o ≡ Some c → thread ≡ c.actor
thread_named thread parts None c h = cc
thread_named thread parts (Some t) c h = by_open t.waiting t.rest h
  where
    by_open : (w : Option Waiting) (rest : List (ℕ × Op)) → choice_when thread parts (record t { rest = rest }) w ≡ Some c → thread ≡ c.actor
    by_open (Some w) rest h = actor_named thread w.part (going_on thread (slice_get parts w.part)) c h
    by_open None [] h = cc
    by_open None ((part, o) ∷ rest) h = actor_named thread part (invocation thread o (slice_get parts part)) c h

seat_named : (actor part which : ℕ) (o : Option RunningPart) (c : Choice) → choice_of_seat actor part which o ≡ Some c → actor ≡ c.actor
seat_named actor part which None c h = cc
seat_named actor part which (Some seat) c h = actor_named actor part (step_of_seat which seat) c h

at_thread : (s : Simulation) (actor : ℕ) (c : Choice) → actor < length s.threads → choice_of_thread actor s.parts (slice_get s.threads actor) ≡ Some c
    → choice_at s.parts s.threads actor ≡ Some c
unfolding choice_at
at_thread s actor c l h = rw (lt-ltb actor (length s.threads) l) h

at_seat : (s : Simulation) (actor k which : ℕ) (c : Choice) → which < 2 → actor ≡ length s.threads + (2 * k + which)
    → choice_of_seat actor k which (slice_get s.parts k) ≡ Some c → choice_at s.parts s.threads actor ≡ Some c
unfolding choice_at
at_seat s actor k which c l e h =
    let no : nat_lt actor (length s.threads) ≡ false = le-ltb actor (length s.threads) (omega arith)
    in let half : (actor - length s.threads) / 2 ≡ k = halves (length s.threads) actor k which l e
    in let rest : (actor - length s.threads) % 2 ≡ which = rests (length s.threads) actor k which l e
    in rw (no, half, rest) h
  where
    halves : (n actor k which : ℕ) → which < 2 → actor ≡ n + (2 * k + which) → (actor - n) / 2 ≡ k
    halves n actor k which l e = omega arith

    rests : (n actor k which : ℕ) → which < 2 → actor ≡ n + (2 * k + which) → (actor - n) % 2 ≡ which
    rests n actor k which l e = omega arith

IsFound : Simulation → Choice → Type 0
IsFound s c = choice_at s.parts s.threads c.actor ≡ Some c

found_thread : (s : Simulation) (actor k : ℕ) (c : Choice) → actor ≡ k → k < length s.threads → choice_of_thread actor s.parts (slice_get s.threads k) ≡ Some c
    → IsFound s c
unfolding IsFound
found_thread s actor k c e l h =
    let n : actor ≡ c.actor = thread_named actor s.parts (slice_get s.threads k) c h in
    subst (λ (x : ℕ). choice_at s.parts s.threads x ≡ Some c) (sym e ∙ n)
    (at_thread s k c l (subst (λ (x : ℕ). choice_of_thread x s.parts (slice_get s.threads k) ≡ Some c) e h))

found_seat : (s : Simulation) (actor part k which : ℕ) (c : Choice) → part ≡ k → which < 2 → actor ≡ length s.threads + (2 * k + which)
    → choice_of_seat actor part which (slice_get s.parts k) ≡ Some c → IsFound s c
unfolding IsFound
found_seat s actor part k which c p l e h =
    let n : actor ≡ c.actor = seat_named actor part which (slice_get s.parts k) c h in
    subst (λ (x : ℕ). choice_at s.parts s.threads x ≡ Some c) n
    (at_seat s actor k which c l e (subst (λ (x : ℕ). choice_of_seat actor x which (slice_get s.parts k) ≡ Some c) p h))

pub choices_found : (s : Simulation) → AllByRecursion (λ c. choice_at s.parts s.threads c.actor ≡ Some c) (choices_of s)
unfolding IsFound
choices_found s =
    subst (AllByRecursion (IsFound s)) (sym (choices_in_order s))
    (all_threads (IsFound s) 0 s.parts s.threads (part_choices (length s.threads) 0 s.parts)
    (λ k c l h. found_thread s (0 + k) k c (omega arith) l h)
    (all_parts (IsFound s) (length s.threads) 0 s.parts
    (λ k which c l h. found_seat s (length s.threads + (2 * k + which)) (0 + k) k which c (omega arith) l refl h)))

-- Each choice may be taken.

if_ok : (p : PartState) (s s' : Step) (others : Option Step) → (others ≡ Some s' → enabled p s' ≡ true) → if_enabled p s others ≡ Some s'
    → enabled p s' ≡ true
if_ok p s s' others ok h = split (enabled p s)
    (λ e. subst (λ x. enabled p x ≡ true) (same (rw e at h)) e)
    (λ e. ok (rw e at h))
  where
    same : {a b : Step} → Some a ≡ Some b → a ≡ b
    same h = cc

none_ok : (p : PartState) (s : Step) → None ≡ Some s → enabled p s ≡ true
none_ok p s h = cc

may_invoke : (thread : ℕ) (o : Op) (q : Option RunningPart) (s : Step) → invocation thread o q ≡ Some s → MayTake q s
may_invoke thread o None s h = cc
may_invoke thread o (Some seat) s h = if_ok seat.run.state (step.Invoke thread o) s None (none_ok seat.run.state s) h

may_go_on : (thread : ℕ) (q : Option RunningPart) (s : Step) → going_on thread q ≡ Some s → MayTake q s
may_go_on thread None s h = cc
may_go_on thread (Some seat) s h =
    next_for_case (λ x. enabled seat.run.state x ≡ true) seat.run.state thread s (λ e. e) (λ e. e) h

may_recover : (p : PartState) (s : Step) → next_recovery p ≡ Some s → enabled p s ≡ true
unfolding next_recovery
may_recover p s h =
    if_ok p step.Stage s (if_enabled p (step.Burst 16) None) (if_ok p (step.Burst 16) s None (none_ok p s)) h

may_arrive : (seat : RunningPart) (coming : List (List ℕ)) (s : Step) → arrival seat.run coming ≡ Some s → enabled seat.run.state s ≡ true
may_arrive seat [] s h = cc
may_arrive seat (frame ∷ coming) s h = if_ok seat.run.state (step.Arrive frame) s None (none_ok seat.run.state s) h

open_by : (parts : List RunningPart) (actor part : ℕ) (o : Option Step) (c : Choice) → ((s : Step) → o ≡ Some s → MayTake (slice_get parts part) s)
    → choice_by actor part o ≡ Some c → IsOpenChoice parts c
open_by parts actor part None c ok h = cc
open_by parts actor part (Some s) c ok h = subst (IsOpenChoice parts) (inner h) (ok s refl)
  where
    inner : {x y : Choice} → Some x ≡ Some y → x ≡ y
    inner h = cc

open_invocation : (parts : List RunningPart) (thread : ℕ) (rest : List (ℕ × Op)) (c : Choice) → invocation_of thread parts rest ≡ Some c → IsOpenChoice parts c
open_invocation parts thread [] c h = cc
open_invocation parts thread ((part, o) ∷ rest) c h =
    open_by parts thread part (invocation thread o (slice_get parts part)) c (may_invoke thread o (slice_get parts part)) h

open_when : (parts : List RunningPart) (thread : ℕ) (t : ThreadState) (w : Option Waiting) (c : Choice) → choice_when thread parts t w ≡ Some c → IsOpenChoice parts c
open_when parts thread t None c h = open_invocation parts thread t.rest c h
open_when parts thread t (Some w) c h =
    open_by parts thread w.part (going_on thread (slice_get parts w.part)) c (may_go_on thread (slice_get parts w.part)) h

open_thread : (parts : List RunningPart) (thread : ℕ) (o : Option ThreadState) (c : Choice) → choice_of_thread thread parts o ≡ Some c → IsOpenChoice parts c
open_thread parts thread None c h = cc
open_thread parts thread (Some t) c h = open_when parts thread t t.waiting c h

may_step : (which : ℕ) (seat : RunningPart) (s : Step) → step_of_seat which seat ≡ Some s → enabled seat.run.state s ≡ true
may_step which seat s h = split (which == 0)
    (λ e. may_recover seat.run.state s (rw e at h))
    (λ e. may_arrive seat seat.coming s (rw e at h))

open_seat : (parts : List RunningPart) (actor part which : ℕ) (o : Option RunningPart) (c : Choice) → slice_get parts part ≡ o
    → choice_of_seat actor part which o ≡ Some c → IsOpenChoice parts c
open_seat parts actor part which None c e h = cc
open_seat parts actor part which (Some seat) c e h =
    open_by parts actor part (step_of_seat which seat) c (λ s g. rw e (may_step which seat s g)) h

pub choices_open : (s : Simulation) → AllByRecursion (IsOpenChoice s.parts) (choices_of s)
choices_open s =
    subst (AllByRecursion (IsOpenChoice s.parts)) (sym (choices_in_order s))
    (all_threads (IsOpenChoice s.parts) 0 s.parts s.threads (part_choices (length s.threads) 0 s.parts)
    (λ k c l h. open_thread s.parts (0 + k) (slice_get s.threads k) c h)
    (all_parts (IsOpenChoice s.parts) (length s.threads) 0 s.parts
    (λ k which c l h. open_seat s.parts (length s.threads + (2 * k + which)) (0 + k) which (slice_get s.parts k) c
    (ap (slice_get s.parts) (zero-add k)) h)))

-- The actors that have a choice.

named_with : (actor part : ℕ) (o : Option Step) (choices : List Choice)
    → map actor_of (with_choice actor part o choices) ≡ named_if (is_some o) actor ++ map actor_of choices
named_with actor part None choices = refl
named_with actor part (Some s) choices = refl

some_choice : (actor part : ℕ) (o : Option Step) → is_some (choice_by actor part o) ≡ is_some o
some_choice actor part None = refl
some_choice actor part (Some s) = refl

named_choice : (actor part : ℕ) (o : Option Step) (choices : List Choice)
    → map actor_of (with_choice actor part o choices) ≡ named_if (is_some (choice_by actor part o)) actor ++ map actor_of choices
named_choice actor part o choices =
    named_with actor part o choices ∙ ap (λ b. named_if b actor ++ map actor_of choices) (sym (some_choice actor part o))

named_invocation : (thread : ℕ) (parts : List RunningPart) (rest : List (ℕ × Op)) (choices : List Choice)
    → map actor_of (with_invocation thread parts rest choices)
    ≡ named_if (is_some (invocation_of thread parts rest)) thread ++ map actor_of choices
named_invocation thread parts [] choices = refl
named_invocation thread parts ((part, o) ∷ rest) choices = named_choice thread part (invocation thread o (slice_get parts part)) choices

named_thread : (thread : ℕ) (parts : List RunningPart) (t : ThreadState) (w : Option Waiting) (choices : List Choice)
    → map actor_of (with_thread thread parts t w choices) ≡ named_if (is_some (choice_when thread parts t w)) thread ++ map actor_of choices
named_thread thread parts t None choices = named_invocation thread parts t.rest choices
named_thread thread parts t (Some w) choices = named_choice thread w.part (going_on thread (slice_get parts w.part)) choices

named_threads : (thread : ℕ) (parts : List RunningPart) (threads : List ThreadState) (choices : List Choice)
    → map actor_of (thread_choices thread parts threads choices) ≡ actors_of_threads thread parts threads ++ map actor_of choices
unfolding actors_of_threads
named_threads thread parts [] choices = refl
named_threads thread parts (t ∷ threads) choices =
    named_thread thread parts t t.waiting (thread_choices (thread + 1) parts threads choices)
    ∙ ap (λ xs. actor_of_thread thread parts t ++ xs) (named_threads (thread + 1) parts threads choices)
    ∙ sym (append_assoc (actor_of_thread thread parts t) (actors_of_threads (thread + 1) parts threads) (map actor_of choices))

named_seats : (actor part : ℕ) (parts : List RunningPart) → map actor_of (part_choices actor part parts) ≡ actors_of_seats actor parts
unfolding actors_of_seats
named_seats actor part [] = refl
named_seats actor part (seat ∷ parts) =
    named_with actor part (next_recovery seat.run.state)
    (with_choice (actor + 1) part (arrival seat.run seat.coming) (part_choices (actor + 2) (part + 1) parts))
    ∙ ap (λ xs. named_if (is_some (next_recovery seat.run.state)) actor ++ xs)
    (named_with (actor + 1) part (arrival seat.run seat.coming) (part_choices (actor + 2) (part + 1) parts))
    ∙ ap (λ xs. named_if (is_some (next_recovery seat.run.state)) actor ++ (named_if (is_some (arrival seat.run seat.coming)) (actor + 1) ++ xs))
    (named_seats (actor + 2) (part + 1) parts)
    ∙ sym (append_assoc (named_if (is_some (next_recovery seat.run.state)) actor) (named_if (is_some (arrival seat.run seat.coming)) (actor + 1))
    (actors_of_seats (actor + 2) parts))

pub actors_named : (s : Simulation)
    → map actor_of (choices_of s) ≡ actors_of_threads 0 s.parts s.threads ++ actors_of_seats (length s.threads) s.parts
actors_named s =
    ap (map actor_of) (choices_in_order s)
    ∙ named_threads 0 s.parts s.threads (part_choices (length s.threads) 0 s.parts)
    ∙ ap (λ xs. actors_of_threads 0 s.parts s.threads ++ xs) (named_seats (length s.threads) 0 s.parts)

-- whether there is an invocation determines which one it is

pub some_invocation : (thread : ℕ) (o : Op) (q : Option RunningPart) → is_some (invocation thread o q) ≡ true
    → invocation thread o q ≡ Some (step.Invoke thread o)
some_invocation thread o None h = cc
some_invocation thread o (Some seat) h = split (enabled seat.run.state (step.Invoke thread o))
    (λ e. rw e)
    (λ e. absurd (false≢true (rw e at h)))

pub no_invocation : (thread : ℕ) (o : Op) (q : Option RunningPart) → is_some (invocation thread o q) ≡ false → invocation thread o q ≡ None
no_invocation thread o None h = refl
no_invocation thread o (Some seat) h = split (enabled seat.run.state (step.Invoke thread o))
    (λ e. absurd (true≢false (rw e at h)))
    (λ e. rw e)

-- One more thread or part of a list is looked at.

pub drop_at : {X : Type 0} (xs : List X) (i n : ℕ) (x : X) → slice_get xs i ≡ Some x → n ≡ suc i → drop i xs ≡ x ∷ drop n xs
drop_at [] i n x h e = cc
drop_at (y ∷ xs) zero n x h e = rw e (cc)
drop_at (y ∷ xs) (suc i) n x h e =
    rw e (drop_at xs i (suc i) x h refl)

pub seats_more : (first : ℕ) (seats : List RunningPart) (i : ℕ) (seat : RunningPart) (made : List ℕ) → slice_get seats i ≡ Some seat
    → (made ++ actors_of_seat (first + 2 * i) seat) ++ actors_of_seats (first + 2 * (i + 1)) (drop (i + 1) seats)
    ≡ made ++ actors_of_seats (first + 2 * i) (drop i seats)
unfolding actors_of_seats
seats_more first seats i seat made h =
    append_assoc made (actors_of_seat (first + 2 * i) seat) (actors_of_seats (first + 2 * (i + 1)) (drop (i + 1) seats))
    ∙ ap (λ n. made ++ (actors_of_seat (first + 2 * i) seat ++ actors_of_seats n (drop (i + 1) seats))) (plus first i)
    ∙ ap (λ xs. made ++ actors_of_seats (first + 2 * i) xs) (sym (drop_at seats i (i + 1) seat h (omega arith)))
  where
    plus : (n k : ℕ) → n + 2 * (k + 1) ≡ n + 2 * k + 2
    plus n k = omega arith

pub seats_step : (first : ℕ) (seats : List RunningPart) (i : ℕ) (seat : RunningPart) (made now whole : List ℕ)
    → i < length seats → seat ≡ get_or seats i seat → now ≡ made ++ actors_of_seat (first + 2 * i) seat
    → made ++ actors_of_seats (first + 2 * i) (drop i seats) ≡ whole
    → now ++ actors_of_seats (first + 2 * (i + 1)) (drop (i + 1) seats) ≡ whole
seats_step first seats i seat made now whole l r e h =
    ap (λ xs. xs ++ actors_of_seats (first + 2 * (i + 1)) (drop (i + 1) seats)) e
    ∙ seats_more first seats i seat made (slice_get_read seats (length seats) i seat refl l r) ∙ h

pub seats_end : (first : ℕ) (seats : List RunningPart) (i : ℕ) (made old : List ℕ) → length seats ≤ i
    → made ++ actors_of_seats (first + 2 * i) (drop i seats) ≡ old ++ actors_of_seats (first + 2 * 0) seats
    → made ≡ old ++ actors_of_seats first seats
unfolding actors_of_seats
seats_end first seats i made old l h =
    sym (append-nil made) ∙ ap (λ xs. made ++ actors_of_seats (first + 2 * i) xs) (sym (drop_of_length-le seats l)) ∙ h
    ∙ ap (λ n. old ++ actors_of_seats n seats) (plus first)
  where
    plus : (n : ℕ) → n + 2 * 0 ≡ n
    plus n = omega arith
