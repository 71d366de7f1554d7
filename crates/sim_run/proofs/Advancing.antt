use Rattle.std.proofs.Common.{◌≡◌, ℕ, zero, suc, ◌+◌, ◌<◌, ◌≤◌, Option, Some, None, List, [], ◌∷◌, ◌++◌, drop, get_or, map, length, slice_get, slice_index, slice_set, take, refl, sym, ap, ◌∙◌, subst, arith, append_assoc, length-take-le, IfOk, Result, Ok, Err}
use Rattle.std.proofs.lemmas.Option.{get_or_from_slice_get}
use Rattle.std.proofs.Math.Seq.{get_or-append_seam, set-append_seam}
use Rattle.std.proofs.lemmas.List.{drop_more, get_or_default, take_more}
use Rattle.nook_data.specs.declared.steps.Event.{Event}
use Rattle.nook_data.specs.declared.memory.NoMemory.{NoMemory}
use Rattle.run_defs.specs.Schedules.{Order, picked}
use Rattle.run_defs.specs.Simulation.{Choice, RunningPart, Simulation, ThreadState, actor_of, choices_of, started}
use Rattle.run_defs.specs.Simulation.{stepped_by, threads_after, thread_after}
use Rattle.part_laws.proofs.Indices.{length_map}
use Rattle.sim_run.proofs.Choosing.{actors_named, choices_found, choices_open}
use Rattle.sim_run.proofs.Picking.{picked_within}
use Rattle.sim_run.proofs.Reaching.{IsPicked, at_position, picked_one}
use Rattle.sim_run.specs.Actors.{actors_in, choice_at}
use Rattle.sim_run.specs.Advanced.{IsPick, state_at}
use Rattle.sim_run.specs.Published.{made, made_by}
use Rattle.sim_run.specs.Reached.{MayTake}

-- The pick among the actors is the pick among the choices.

no_items : {X Y : Type 0} (f : X → Y) (xs : List X) → length (map f xs) ≤ 0 → xs ≡ []
no_items f [] l = refl
no_items f (x ∷ xs) l = absurd (omega arith)

pub none_picked : (s : Simulation) (actors : List ℕ) → actors ≡ actors_in s.parts s.threads → length actors ≡ 0 → IsPick s None s
none_picked s actors e l =
    let n : length actors ≡ length (map actor_of (choices_of s)) = ap length (e ∙ sym (actors_named s)) in
    (no_items actor_of (choices_of s) (omega arith), refl)

pub position_within : (order : Order) (actors : List ℕ) (index : ℕ) → 0 < length actors → index ≡ (picked order actors).index → index < length actors
position_within order actors index l e = subst (λ (n : ℕ). n < length actors) (sym e) (picked_within order actors l)

pub map_at : (xs : List Choice) (i : ℕ) (c : Choice) → slice_get xs i ≡ Some c → slice_get (map actor_of xs) i ≡ Some c.actor
map_at [] i c h = cc
map_at (x ∷ xs) zero c h = ap {B = Option ℕ} (λ (y : Choice). Some y.actor) (inner h)
  where
    inner : {a b : Choice} → Some a ≡ Some b → a ≡ b
    inner h = cc
map_at (x ∷ xs) (suc i) c h = map_at xs i c h

pick_by : (s : Simulation) (actors : List ℕ) (index : ℕ) (order : Order) (o : Option Choice) (c : Choice) (seat : RunningPart)
    → actors ≡ map actor_of (choices_of s) → 0 < length (choices_of s) → index ≡ (picked s.order actors).index → order ≡ (picked s.order actors).order
    → o ≡ choice_at s.parts s.threads (slice_index actors index) → IsPicked s (choices_of s) c seat → IsPick s o (record s { order = order })
unfolding made
pick_by s actors index order o c seat a l p r h one =
    let index' : (picked s.order (map actor_of (choices_of s))).index ≡ index = ap (λ xs. (picked s.order xs).index) (sym a) ∙ sym p in
    let order' : (picked s.order (map actor_of (choices_of s))).order ≡ order = ap (λ xs. (picked s.order xs).order) (sym a) ∙ sym r in
    let at : slice_get (choices_of s) index ≡ Some c = ap (slice_get (choices_of s)) (sym index') ∙ one.found in
    let actor : slice_index actors index ≡ c.actor =
    ap (λ xs. slice_index xs index) a ∙ get_or_from_slice_get (map actor_of (choices_of s)) index c.actor 0 (map_at (choices_of s) index c at) in
    let found : choice_at s.parts s.threads c.actor ≡ Some c = at_position (λ c. choice_at s.parts s.threads c.actor ≡ Some c) (choices_of s) index c (choices_found s) at in
    let is : Some c ≡ o = sym found ∙ ap (choice_at s.parts s.threads) (sym actor) ∙ sym h in
    subst (λ o. IsPick s o (record s { order = order })) is (
      l,
      subst (λ q. MayTake q c.step) (sym one.at_part) one.may,
      ap (stepped_by (record s { order = order }) order c) one.at_part
          ∙ ap (λ (r : Order). stepped_by s r c (Some seat)) (sym order') ∙ sym one.step,
      sym (ap (made_by s.parts) one.found),
      one.found,
    )

pub pick_is : (order order' : Order) (parts : List RunningPart) (threads : List ThreadState) (actors : List ℕ) (index : ℕ) (o : Option Choice)
    → actors ≡ actors_in parts threads → 0 < length actors → index ≡ (picked order actors).index → order' ≡ (picked order actors).order
    → o ≡ choice_at parts threads (slice_index actors index) → IsPick (state_at order parts threads) o (state_at order' parts threads)
pick_is order order' parts threads actors index o a l p r h =
    let s : Simulation = state_at order parts threads in
    let a' : actors ≡ map actor_of (choices_of s) = a ∙ sym (actors_named s) in
    let n : length actors ≡ length (choices_of s) = ap length a' ∙ length_map actor_of (choices_of s) in
    let some : 0 < length (choices_of s) = omega arith in
    let one = picked_one s (choices_of s) (choices_open s) some in
    pick_by s actors index order' o one.0 one.1.0 a' some p r h one.1.1

-- Threads hear an event one after another.

heard_push : (thread part : ℕ) (e : Event) (threads : List ThreadState) (t : ThreadState)
    → threads_after thread part e (threads ++ t ∷ [])
    ≡ threads_after thread part e threads ++ thread_after part e (started (thread + length threads) part e t) ∷ []
heard_push thread part e [] t = ap {B = List ThreadState} (λ (n : ℕ). thread_after part e (started n part e t) ∷ []) (plus thread)
  where
    plus : (n : ℕ) → n ≡ n + 0
    plus n = omega arith
heard_push thread part e (x ∷ threads) t =
    ap {B = List ThreadState} (λ xs. thread_after part e (started thread part e x) ∷ xs) (heard_push (thread + 1) part e threads t
    ∙ ap {B = List ThreadState} (λ (n : ℕ). threads_after (thread + 1) part e threads ++ thread_after part e (started n part e t) ∷ []) (plus thread (length threads)))
  where
    plus : (n k : ℕ) → n + 1 + k ≡ n + suc k
    plus n k = omega arith

heard_length : (thread part : ℕ) (e : Event) (threads : List ThreadState) → length (threads_after thread part e threads) ≡ length threads
heard_length thread part e [] = refl
heard_length thread part e (x ∷ threads) = ap suc (heard_length (thread + 1) part e threads)

pub heard_more : (part : ℕ) (e : Event) (threads now : List ThreadState) (i : ℕ) (d new : ThreadState) → i < length threads
    → now ≡ threads_after 0 part e (take i threads) ++ drop i threads → new ≡ thread_after part e (started i part e (get_or now i d))
    → slice_set now i new ≡ threads_after 0 part e (take (i + 1) threads) ++ drop (i + 1) threads
heard_more part e threads now i d new l h n =
    let count : length (take i threads) ≡ i = length-take-le i threads (omega arith) in
    let size : length (threads_after 0 part e (take i threads)) ≡ i = heard_length 0 part e (take i threads) ∙ count in
    let rest : drop i threads ≡ get_or threads i d ∷ drop (i + 1) threads = drop_more threads i d l in
    let old : now ≡ threads_after 0 part e (take i threads) ++ get_or threads i d ∷ drop (i + 1) threads =
    h ∙ ap (λ xs. threads_after 0 part e (take i threads) ++ xs) rest in
    let here : get_or now i d ≡ get_or threads i d =
    ap (λ xs. get_or xs i d) old
    ∙ ap (λ (k : ℕ). get_or (threads_after 0 part e (take i threads) ++ get_or threads i d ∷ drop (i + 1) threads) k d) (sym size)
    ∙ get_or-append_seam (threads_after 0 part e (take i threads)) (get_or threads i d) (drop (i + 1) threads) d in
    let first : new ≡ thread_after part e (started (0 + length (take i threads)) part e (get_or threads i d)) =
    n ∙ ap (λ x. thread_after part e (started i part e x)) here
    ∙ ap (λ (k : ℕ). thread_after part e (started k part e (get_or threads i d))) (plus i (length (take i threads)) count) in
    ap (λ xs. slice_set xs i new) old
    ∙ ap (λ (k : ℕ). slice_set (threads_after 0 part e (take i threads) ++ get_or threads i d ∷ drop (i + 1) threads) k new) (sym size)
    ∙ set-append_seam (threads_after 0 part e (take i threads)) (get_or threads i d) (drop (i + 1) threads) new
    ∙ ap (λ (x : ThreadState). threads_after 0 part e (take i threads) ++ x ∷ drop (i + 1) threads) first
    ∙ sym (append_assoc (threads_after 0 part e (take i threads)) (thread_after part e (started (0 + length (take i threads)) part e (get_or threads i d)) ∷ []) (drop (i + 1) threads))
    ∙ ap (λ xs. xs ++ drop (i + 1) threads) (sym (heard_push 0 part e (take i threads) (get_or threads i d)))
    ∙ ap (λ xs. threads_after 0 part e xs ++ drop (i + 1) threads) (sym (take_more threads i d l))
  where
    plus : (i k : ℕ) → k ≡ i → i ≡ 0 + k
    plus i k e = omega arith

-- A property of a choice, as a property of a result.

pub pick_result : (r : Result (Option Choice) NoMemory) (order order' : Order) (parts : List RunningPart) (threads : List ThreadState)
    (ready listed : List ℕ) (index actor : ℕ) → ready ≡ actors_in parts threads → listed ≡ ready
    → index ≡ (picked order listed).index → order' ≡ (picked order listed).order → index < length listed → actor ≡ get_or ready index actor
    → IfOk r (λ o. o ≡ choice_at parts threads actor) → IfOk r (λ o. IsPick (state_at order parts threads) o (state_at order' parts threads))
pick_result (Err x) order order' parts threads ready listed index actor a e p n w at h = h
pick_result (Ok o) order order' parts threads ready listed index actor a e p n w at h =
    let size : length listed ≡ length ready = ap length e in
    let within : index < length ready = omega arith in
    pick_is order order' parts threads ready index o a (omega arith) (p ∙ ap (λ xs. (picked order xs).index) e) (n ∙ ap (λ xs. (picked order xs).order) e)
    (h ∙ ap (choice_at parts threads) (at ∙ get_or_default ready index actor 0 within))
