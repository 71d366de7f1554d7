-- Each possible next step, by the index of its actor.
use Rattle.std.proofs.Common.{◌≡◌, ℕ, zero, suc, ◌<◌, Option, Some, None, List, [], ◌∷◌, length, map, slice_get, slice_index, refl, sym, ap}
use Rattle.std.proofs.Common.{◌∙◌, subst, arith}
use Rattle.std.proofs.lemmas.Option.{get_or_from_slice_get}
use Rattle.part_laws.proofs.Indices.{length_map}
use Rattle.run_defs.specs.Schedules.{round}
use Rattle.run_defs.specs.Simulation.{Choice, RunningPart, Simulation, ThreadState, actor_of, choices_of}
use Rattle.sim_run.proofs.Advancing.{map_at}
use Rattle.sim_run.proofs.Choosing.{actors_named, choices_found, choices_open}
use Rattle.sim_run.proofs.Reaching.{at_position}
use Rattle.sim_run.specs.Actors.{actors_in, choice_at}
use Rattle.sim_run.specs.Advanced.{state_at}
use Rattle.sim_run.specs.Reached.{IsOpenChoice}

some_at : {X : Type 0} (xs : List X) (i : ℕ) → i < length xs → (x : X) × (slice_get xs i ≡ Some x)
some_at [] i l = absurd (omega arith)
some_at (x ∷ xs) zero l = (x, refl)
some_at (x ∷ xs) (suc i) l = some_at xs i (omega arith)

-- the choice with an index is that of the actor with that index, and may be taken
pub record IsChosenAt (s : Simulation) (index : ℕ) (o : Option Choice) : Type 0 where
  pub choice : Choice
  pub is : o ≡ Some choice
  pub at : slice_get (choices_of s) index ≡ Some choice
  pub may : IsOpenChoice s.parts choice

pub chosen_at : (s : Simulation) (actors : List ℕ) (index : ℕ) (o : Option Choice) → actors ≡ actors_in s.parts s.threads
    → index < length (choices_of s) → o ≡ choice_at s.parts s.threads (slice_index actors index) → IsChosenAt s index o
chosen_at s actors index o a l h =
    let one = some_at (choices_of s) index l in
    let c : Choice = one.0 in
    let named : actors ≡ map actor_of (choices_of s) = a ∙ sym (actors_named s) in
    let actor : slice_index actors index ≡ c.actor =
    ap (λ xs. slice_index xs index) named
    ∙ get_or_from_slice_get (map actor_of (choices_of s)) index c.actor 0 (map_at (choices_of s) index c one.1) in
    let found : choice_at s.parts s.threads c.actor ≡ Some c =
    at_position (λ c. choice_at s.parts s.threads c.actor ≡ Some c) (choices_of s) index c (choices_found s) one.1 in record {
      choice = c;
      is = h ∙ ap (choice_at s.parts s.threads) actor ∙ found;
      at = one.1;
      may = at_position (IsOpenChoice s.parts) (choices_of s) index c (choices_open s) one.1;
    }

pub within_actors : (s : Simulation) (actors : List ℕ) (index : ℕ) → actors ≡ actors_in s.parts s.threads
    → index < length (choices_of s) → index < length actors
within_actors s actors index a l =
    let named : length actors ≡ length (map actor_of (choices_of s)) = ap length (a ∙ sym (actors_named s)) in
    let size : length (map actor_of (choices_of s)) ≡ length (choices_of s) = length_map actor_of (choices_of s) in
    omega arith

-- ---- the same for parts and threads, under any schedule

pub choices_hold : (s : Simulation) → choices_of (state_at (round 0) s.parts s.threads) ≡ choices_of s
unfolding choices_of
choices_hold s = refl

pub chosen_is : (parts : List RunningPart) (threads : List ThreadState) (actors : List ℕ) (index : ℕ) (o : Option Choice)
    → actors ≡ actors_in parts threads → index < length (choices_of (state_at (round 0) parts threads))
    → o ≡ choice_at parts threads (slice_index actors index) → IsChosenAt (state_at (round 0) parts threads) index o
chosen_is parts threads actors index o a l h = chosen_at (state_at (round 0) parts threads) actors index o a l h

pub index_within : (parts : List RunningPart) (threads : List ThreadState) (actors : List ℕ) (index : ℕ)
    → actors ≡ actors_in parts threads → index < length (choices_of (state_at (round 0) parts threads))
    → index < length actors
index_within parts threads actors index a l = within_actors (state_at (round 0) parts threads) actors index a l

pub none_chosen : (s : Simulation) (index : ℕ) (o : Option Choice) → IsChosenAt s index o → o ≡ None → ⊥
none_chosen s index o i none = absurd (differ (sym none ∙ i.is))
  where
    differ : {c : Choice} → None ≡ Some c → ⊥
    differ h = absurd cc

one_choice : (o : Option Choice) (c d : Choice) → o ≡ Some c → o ≡ Some d → c ≡ d
one_choice o c d h g = inner (sym h ∙ g)
  where
    inner : {a b : Choice} → Some a ≡ Some b → a ≡ b
    inner h = cc

pub at_chosen : (s : Simulation) (index : ℕ) (o : Option Choice) (c : Choice) → IsChosenAt s index o → o ≡ Some c
    → slice_get (choices_of s) index ≡ Some c
at_chosen s index o c i is = i.at ∙ ap {B = Option Choice} (λ (d : Choice). Some d) (one_choice o i.choice c i.is is)

pub open_chosen : (s : Simulation) (index : ℕ) (o : Option Choice) (c : Choice) → IsChosenAt s index o → o ≡ Some c
    → IsOpenChoice s.parts c
open_chosen s index o c i is = subst (IsOpenChoice s.parts) (one_choice o i.choice c i.is is) i.may
