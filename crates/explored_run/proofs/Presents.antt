-- The present of a simulation: its choices, its successor after a step, and when two simulations have the same one.
use Rattle.std.proofs.Common.{◌≡◌, ℕ, ◌<◌, Option, Some, None, List, [], ◌∷◌, length, map, slice_get, refl, sym, ap, ap₂, ◌∙◌}
use Rattle.std.proofs.Common.{fold, subst, IfOk, Result, Ok, Err}
use Rattle.contract_monitor.proofs.Alike.{GoAlike, alike}
use Rattle.contract_monitor.specs.Keeping.{shorter}
use Rattle.contract_monitor.specs.Monitors.{JudgeAlike, Monitored, Represents}
use Rattle.explore_defs.specs.Outcomes.{clause_of, given_by, outcome_of, part_outcome}
use Rattle.explore_defs.specs.Explored.{IsExplored}
use Rattle.explore_defs.specs.declared.outcome.Outcome.{Outcome}
use Rattle.explore_defs.specs.declared.outcome.PartOutcome.{PartOutcome}
use Rattle.explore_laws.proofs.SamePresent.{choices_bare, outcome_present, present_follows, same_present}
use Rattle.explore_laws.specs.Held.{choices_in, held_first}
use Rattle.explore_laws.specs.Present.{goes_on_by, judged_from, outcome_in, part_present, present}
use Rattle.explored_run.specs.Alike.{MonitorsAlike, given_at}
use Rattle.guard_defs.specs.Guard.{known_at_first}
use Rattle.nook_data.specs.Types.{Answer, Break, Event, PartSpec, Scenario}
use Rattle.nook_data.specs.declared.memory.NoMemory.{NoMemory}
use Rattle.order_search.proofs.Answered.{found_answer}
use Rattle.order_search.specs.Found.{IsFound, found_status, found_text}
use Rattle.order_search.specs.Moments.{IsAfter, actors_in}
use Rattle.order_search.specs.declared.rows.Explored.{Explored}
use Rattle.part_defs.specs.State.{PartState}
use Rattle.promise_defs.specs.Contract.{Known, first_break, known_after}
use Rattle.report_defs.specs.ReportText.{journal_acts}
use Rattle.run_defs.specs.Schedules.{Order, round}
use Rattle.run_defs.specs.Simulation.{Choice, RunningPart, Simulation, actor_of, answer_table, choices_of, stepped_by}
use Rattle.sim_run.proofs.Branching.{choices_hold}
use Rattle.sim_run.proofs.Choosing.{actors_named}
use Rattle.sim_run.specs.Actors as ready
use Rattle.sim_run.specs.Advanced.{state_at}
use Rattle.sim_run.specs.Branching.{SeatNow, AreStatesAlike, seat_now}
use Rattle.sim_run.specs.Watched.{HasSeen, HaveSeen}

-- ---- the choices

pub actors_present : (s : Simulation) → map actor_of (choices_of s) ≡ actors_in (present s)
actors_present s = ap (map actor_of) (sym (choices_bare s))

pub choices_within : (s : Simulation) (index : ℕ) → index < length (choices_in (present s)) → index < length (choices_of s)
choices_within s index l = subst (λ (cs : List Choice). index < length cs) (choices_bare s) l

pub actors_seen : (s : Simulation) (held : List ℕ) (r : Result (List ℕ) NoMemory) → held ≡ ready.actors_in s.parts s.threads
    → IfOk r (λ made. made ≡ held) → IfOk r (λ actors. actors ≡ map actor_of (choices_in (present s)))
actors_seen s held (Err x) a h = h
actors_seen s held (Ok actors) a h = h ∙ a ∙ sym (actors_named s) ∙ actors_present s

pub index_within : (s : Simulation) (index : ℕ) → index < length (choices_in (present s))
    → index < length (choices_of (state_at (round 0) s.parts s.threads))
index_within s index l = subst (λ (cs : List Choice). index < length cs) (sym (choices_hold s)) (choices_within s index l)

-- ---- after a step

unordered : (s : Simulation) (o : Order) (c : Choice) (q : Option RunningPart)
    → present (stepped_by (record s { order = o }) o c q) ≡ present (stepped_by s s.order c q)
unfolding present
unordered s o c None = refl
unordered s o c (Some seat) = refl

one_choice : (cs ds : List Choice) (index : ℕ) (c d : Choice) → cs ≡ ds → slice_get ds index ≡ Some c
    → slice_get cs index ≡ Some d → c ≡ d
one_choice cs ds index c d e h g = inner (sym h ∙ ap (λ xs. slice_get xs index) (sym e) ∙ g)
  where
    inner : {a b : Choice} → Some a ≡ Some b → a ≡ b
    inner h = cc

pub present_after_step : (s next : Simulation) (o : Order) (c : Choice) (index : ℕ) → slice_get (choices_of s) index ≡ Some c
    → next ≡ stepped_by (record s { order = o }) o c (slice_get s.parts c.part) → IsAfter (present s) index (present next)
present_after_step s next o c index at is = record {
  by = λ d other.
      ap present is ∙ unordered s o c (slice_get s.parts c.part) ∙ present_follows s c
      ∙ ap (goes_on_by (present s)) (one_choice (choices_in (present s)) (choices_of s) index c d (choices_bare s) at other);
}

pub present_unordered : (s : Simulation) (o : Order) → present (record s { order = o }) ≡ present s
unfolding present
present_unordered s o = refl

after_taken : (s branch next made : Simulation) (c : Choice) (index : ℕ)
    → slice_get (choices_of (state_at (round 0) branch.parts branch.threads)) index ≡ Some c → branch ≡ s
    → next ≡ stepped_by branch branch.order c (slice_get branch.parts c.part) → made ≡ record next { order = round 0 }
    → IsAfter (present s) index (present made)
after_taken s branch next made c index at b n m =
    subst (IsAfter (present s) index) (sym (ap present m ∙ present_unordered next (round 0)))
    (subst (λ (t : Simulation). IsAfter (present t) index (present next)) b
    (present_after_step branch next branch.order c index (ap (λ cs. slice_get cs index) (sym (choices_hold branch)) ∙ at) n))

pub after_held : (s branch next : Simulation) (c : Choice) (index : ℕ) (r : Result Simulation NoMemory)
    → slice_get (choices_of (state_at (round 0) branch.parts branch.threads)) index ≡ Some c → branch ≡ s
    → next ≡ stepped_by branch branch.order c (slice_get branch.parts c.part)
    → IfOk r (λ made. made ≡ record next { order = round 0 }) → IfOk r (λ made. IsAfter (present s) index (present made))
after_held s branch next c index (Err x) at b n h = h
after_held s branch next c index (Ok made) at b n h = after_taken s branch next made c index at b n h

pub first_present : (first s made : Simulation) → s ≡ first → made ≡ record s { order = round 0 } → present made ≡ present first
first_present first s made b m = ap present m ∙ present_unordered s (round 0) ∙ ap present b

-- ---- the same present

same_from : (was now : Option Break) (k l : Known) → clause_of was ≡ clause_of now → (was ≡ None → shorter k ≡ shorter l)
    → judged_from (clause_of was) k ≡ judged_from (clause_of now) l
same_from None None k l e h = ap {B = Option Known} (λ known. Some known) (h refl)
same_from None (Some b) k l e h = absurd cc
same_from (Some a) None k l e h = absurd cc
same_from (Some a) (Some b) k l e h = refl

-- a part in a state, with frames to come and a journal
abbrev seat_from : PartState → List (List ℕ) → List Event → RunningPart
seat_from state coming events = record { run = record { state = state; journal = events }; coming = coming }

journals_alike : (state : PartState) (coming : List (List ℕ)) (events others : List Event) (m n : Monitored)
    → Represents state.spec.class state.spec.blocks events m → Represents state.spec.class state.spec.blocks others n
    → JudgeAlike m n
    → given_by state.spec.class (journal_acts events) ≡ given_by state.spec.class (journal_acts others)
    → part_present (seat_from state coming events) ≡ part_present (seat_from state coming others)
journals_alike state coming events others m n s t j g =
    let spec : PartSpec = state.spec in
    let a : GoAlike spec.class spec.blocks events others = alike spec.class spec.blocks events others m n s t j in
    same_present state coming _ _ _ _ _ _ _ _ _ _
    (same_from (first_break spec.class spec.blocks events) (first_break spec.class spec.blocks others)
    (fold known_after (known_at_first spec) events) (fold known_after (known_at_first spec) others) a.broken a.known)
    a.broken a.call_effects a.counts g

seats_alike : (p q : RunningPart) (m n : Monitored) → seat_now p ≡ seat_now q → HasSeen p m → HasSeen q n → JudgeAlike m n
    → given_at p ≡ given_at q → part_present p ≡ part_present q
seats_alike p q m n same s t j g =
    subst (λ (x : SeatNow). Represents x.state.spec.class x.state.spec.blocks q.run.journal n
    → given_at p ≡ given_by x.state.spec.class (journal_acts q.run.journal)
    → part_present p ≡ part_present (seat_from x.state x.coming q.run.journal)) same
    (λ t g. journals_alike p.run.state p.coming p.run.journal q.run.journal m n s t j g) t g

first_same : {X : Type 0} {x y : X} {xs ys : List X} → x ∷ xs ≡ y ∷ ys → x ≡ y
first_same h = cc

rest_same : {X : Type 0} {x y : X} {xs ys : List X} → x ∷ xs ≡ y ∷ ys → xs ≡ ys
rest_same h = cc

all_alike : (ps qs : List RunningPart) (ms ns : List Monitored) → map seat_now ps ≡ map seat_now qs → HaveSeen ps ms
    → HaveSeen qs ns → MonitorsAlike ms ns → map given_at ps ≡ map given_at qs → map part_present ps ≡ map part_present qs
all_alike [] [] ms ns same s t j g = refl
all_alike [] (q ∷ qs) ms ns same s t j g = absurd cc
all_alike (p ∷ ps) [] ms ns same s t j g = absurd cc
all_alike (p ∷ ps) (q ∷ qs) [] ns same s t j g = absurd s
all_alike (p ∷ ps) (q ∷ qs) (m ∷ ms) [] same s t j g = absurd t
all_alike (p ∷ ps) (q ∷ qs) (m ∷ ms) (n ∷ ns) same s t j g =
    ap₂ (λ x xs. x ∷ xs) (seats_alike p q m n (first_same same) s.0 t.0 j.0 (first_same g))
    (all_alike ps qs ms ns (rest_same same) s.1 t.1 j.1 (rest_same g))

-- ---- the outcome

pub outcome_made : (s : Simulation) (answers : List (List (ℕ × Answer))) (parts : List PartOutcome) → answers ≡ answer_table s
    → parts ≡ map part_outcome s.parts → ◌≡◌ {A = Outcome} (record { answers = answers; parts = parts }) (outcome_in (present s))
unfolding outcome_of
outcome_made s answers parts a p =
    ap₂ (λ xs ys. outcome_as xs ys) a p ∙ outcome_present s
  where
    outcome_as : List (List (ℕ × Answer)) → List PartOutcome → Outcome
    outcome_as xs ys = record { answers = xs; parts = ys }

-- ---- what is found

pub explored : (scenario : Scenario) (r : Result Explored NoMemory) → IfOk r (IsFound (held_first scenario))
    → IfOk r (λ found. IsExplored scenario (found_text found) (found_status found))
explored scenario (Err x) h = h
explored scenario (Ok found) h = found_answer scenario found h

pub same_now : (s t : Simulation) (ms ns : List Monitored) → AreStatesAlike s t → HaveSeen s.parts ms → HaveSeen t.parts ns
    → MonitorsAlike ms ns → map given_at s.parts ≡ map given_at t.parts → present s ≡ present t
unfolding present
same_now s t ms ns a seen others j g =
    ap₂ (λ parts threads. record { parts = parts; threads = threads })
    (all_alike s.parts t.parts ms ns a.parts seen others j g) a.threads
