use Rattle.std.proofs.Common.{◌≡◌, ◌⊎◌, ℕ, suc, ◌+◌, ◌<◌, ◌≤◌, ◌==◌, ◌||◌, Bool, true, false, is_some, Option, Some, None, List, [], ◌∷◌, ◌++◌, length, slice_get, slice_set, drop, get_or, refl, sym, ap, ◌∙◌, subst, inl, inr, arith, append-nil, append_assoc}
use Rattle.std.proofs.Math.ListN.{drop_of_length-le}
use Rattle.std.proofs.lemmas.Bool.{eqb-false, eqb-true}
use Rattle.std.proofs.lemmas.List.{length-append, length-set}
use Rattle.std.proofs.lemmas.Option.{slice_get-get_or, slice_get_within}
use Rattle.nook_data.specs.declared.steps.Event.{Event}
use Rattle.nook_data.specs.declared.calls.Op.{Op}
use Rattle.nook_data.specs.declared.steps.Step.{Step}
use Rattle.run_defs.specs.Simulation.{RunningPart, ThreadState, Waiting, part_after}
use Rattle.part_laws.proofs.Indices.{get_keep, get_mid, get_set, get_set_other, get_set_same, split}
use Rattle.sim_run.proofs.Choosing.{drop_at}
use Rattle.sim_run.specs.Able.{AreAble, AreAbleUpTo, able_actors, concerns, is_invocation, looks_at, looks_when}
use Rattle.sim_run.specs.Actors.{actors_in, actors_of_seats, actors_of_threads, choice_when, has_step, named_if}
use Rattle.sim_run.specs.Advanced.{IsSteppedSeat}

-- Correct flags list the threads that have a step.

named_by_flags : (first : ℕ) (parts : List RunningPart) (threads : List ThreadState) (able : List Bool) → length able ≡ length threads
    → ((k : ℕ) (t : ThreadState) → slice_get threads k ≡ Some t → slice_get able k ≡ Some (has_step (first + k) parts t))
    → able_actors first able ≡ actors_of_threads first parts threads
unfolding able_actors actors_of_threads
named_by_flags first parts [] [] count each = refl
named_by_flags first parts [] (flag ∷ able) count each = absurd (omega arith)
named_by_flags first parts (t ∷ threads) [] count each = absurd (omega arith)
named_by_flags first parts (t ∷ threads) (flag ∷ able) count each =
    ap (λ b. named_if b first ++ able_actors (first + 1) able) (here (each 0 t refl))
    ∙ ap (λ xs. named_if (has_step first parts t) first ++ xs)
    (named_by_flags (first + 1) parts threads able (omega arith)
    (λ k x h. each (suc k) x h ∙ ap {B = Option Bool} (λ (n : ℕ). Some (has_step n parts x)) (plus first k)))
  where
    inner : {x y : Bool} → Some x ≡ Some y → x ≡ y
    inner h = cc

    none : (n : ℕ) → n + 0 ≡ n
    none n = omega arith

    here : Some flag ≡ Some (has_step (first + 0) parts t) → flag ≡ has_step first parts t
    here h = inner h ∙ ap (λ (n : ℕ). has_step n parts t) (none first)

    plus : (n k : ℕ) → n + suc k ≡ n + 1 + k
    plus n k = omega arith

pub named_as_able : (parts : List RunningPart) (threads : List ThreadState) (able : List Bool) → AreAble parts threads able
    → able_actors 0 able ≡ actors_of_threads 0 parts threads
named_as_able parts threads able a =
    named_by_flags 0 parts threads able a.count (λ k t h. a.each k t h ∙ ap {B = Option Bool} (λ (n : ℕ). Some (has_step n parts t)) (plus k))
  where
    plus : (n : ℕ) → n ≡ 0 + n
    plus n = omega arith

pub ready_named : (parts : List RunningPart) (threads : List ThreadState) (able : List Bool) (ready : List ℕ) → AreAble parts threads able
    → ready ≡ able_actors 0 able ++ actors_of_seats (length able) parts → ready ≡ actors_in parts threads
ready_named parts threads able ready a h =
    h ∙ ap (λ xs. xs ++ actors_of_seats (length able) parts) (named_as_able parts threads able a)
    ∙ ap (λ (n : ℕ). actors_of_threads 0 parts threads ++ actors_of_seats n parts) a.count

-- One more flag of a list is looked at.

pub flags_step : (able : List Bool) (i : ℕ) (flag : Bool) (made now whole : List ℕ) → slice_get able i ≡ Some flag
    → now ≡ made ++ named_if flag i → made ++ able_actors i (drop i able) ≡ whole
    → now ++ able_actors (i + 1) (drop (i + 1) able) ≡ whole
unfolding able_actors
flags_step able i flag made now whole at e h =
    ap (λ xs. xs ++ able_actors (i + 1) (drop (i + 1) able)) e
    ∙ append_assoc made (named_if flag i) (able_actors (i + 1) (drop (i + 1) able))
    ∙ ap (λ xs. made ++ able_actors i xs) (sym (drop_at able i (i + 1) flag at (omega arith))) ∙ h

pub flags_end : (able : List Bool) (i : ℕ) (made whole : List ℕ) → length able ≤ i → made ++ able_actors i (drop i able) ≡ whole → made ≡ whole
unfolding able_actors
flags_end able i made whole l h =
    sym (append-nil made) ∙ ap (λ xs. made ++ able_actors i xs) (sym (drop_of_length-le able l)) ∙ h

-- Flags are found one after another.

-- there are `count` flags, each that of its thread
pub record HasFlags (count : ℕ) (parts : List RunningPart) (threads : List ThreadState) (able : List Bool) : Type 0 where
  pub size : length able ≡ count
  pub each : (thread : ℕ) (t : ThreadState) → thread < count → slice_get threads thread ≡ Some t → slice_get able thread ≡ Some (has_step thread parts t)

pub no_flags : (parts : List RunningPart) (threads : List ThreadState) → HasFlags 0 parts threads []
no_flags parts threads = record { size = refl; each = λ thread t l h. absurd (omega arith) }

pub one_flag_more : (i : ℕ) (parts : List RunningPart) (threads : List ThreadState) (able : List Bool) (t : ThreadState) (flag : Bool)
    → slice_get threads i ≡ Some t → flag ≡ has_step i parts t → HasFlags i parts threads able → HasFlags (i + 1) parts threads (able ++ flag ∷ [])
one_flag_more i parts threads able t flag at e has = record {
  size = length-append able (flag ∷ []) ∙ ap (λ (n : ℕ). n + 1) has.size;
  each = λ k x l h. split (k == i)
      (λ same. subst (λ (n : ℕ). slice_get (able ++ flag ∷ []) n ≡ Some (has_step k parts x)) (has.size ∙ sym (equal k i same))
      (get_mid able [] flag ∙ ap {B = Option Bool} (λ (b : Bool). Some b) (e ∙ here k x (equal k i same) h)))
      (λ other. get_keep able (flag ∷ []) k (has_step k parts x) (has.each k x (less k i other l) h));
}
  where
    equal : (a b : ℕ) → (a == b) ≡ true → a ≡ b
    equal a b h = eqb-true a b h

    less : (a b : ℕ) → (a == b) ≡ false → a < b + 1 → a < b
    less a b h l = omega (arith, eqb-false a b h)

    here : (k : ℕ) (x : ThreadState) → k ≡ i → slice_get threads k ≡ Some x → has_step i parts t ≡ has_step k parts x
    here k x same h =
        let is : t ≡ x = inner (sym at ∙ ap (slice_get threads) (sym same) ∙ h) in
        ap (λ (n : ℕ). has_step n parts t) (sym same) ∙ ap (has_step k parts) is
      where
        inner : {a b : ThreadState} → Some a ≡ Some b → a ≡ b
        inner h = cc

pub all_flags : (i : ℕ) (parts : List RunningPart) (threads : List ThreadState) (able : List Bool) → i ≡ length threads
    → HasFlags i parts threads able → AreAble parts threads able
all_flags i parts threads able e has = record {
  count = has.size ∙ e;
  each = λ k t h. has.each k t (subst (λ (n : ℕ). k < n) (sym e) (slice_get_within threads k t h)) h;
}

-- A part's step leaves the flags of the threads that it does not concern.

elsewhere : (thread part : ℕ) (parts : List RunningPart) (seat : RunningPart) (t : ThreadState) → looks_at part t ≡ false
    → has_step thread parts t ≡ has_step thread (slice_set parts part seat) t
elsewhere thread part parts seat t h = by_open t.waiting t.rest h
  where
    same : (p : ℕ) → (p == part) ≡ false → slice_get parts p ≡ slice_get (slice_set parts part seat) p
    same p h = sym (get_set_other parts p part seat (eqb-false p part h))

    by_open : (w : Option Waiting) (rest : List (ℕ × Op)) → looks_when part (record t { rest = rest }) w ≡ false
        → is_some (choice_when thread parts (record t { rest = rest }) w) ≡ is_some (choice_when thread (slice_set parts part seat) (record t { rest = rest }) w)
    by_open (Some w) rest h = rw (same w.part h) refl
    by_open None [] h = refl
    by_open None ((p, o) ∷ rest) h = rw (same p h) refl

not_either : (a b : Bool) → (a || b) ≡ false → a ≡ false
not_either true b h = h
not_either false b h = refl

pub able_elsewhere : (part : ℕ) (e : Event) (parts : List RunningPart) (seat : RunningPart) (threads : List ThreadState) (able : List Bool)
    → AreAble parts threads able → AreAbleUpTo 0 part e (slice_set parts part seat) threads able
able_elsewhere part e parts seat threads able a = record {
  count = a.count;
  heard = λ k t l h. absurd (omega arith);
  later = λ k t l h not. a.each k t h
      ∙ ap {B = Option Bool} (λ (b : Bool). Some b) (elsewhere k part parts seat t (not_either (looks_at part t) (is_invocation k e) not));
}

pub able_stepped : (q : Option RunningPart) (index part : ℕ) (s : Step) (e : Event) (parts new : List RunningPart) (threads : List ThreadState) (able : List Bool)
    → index ≡ part → IsSteppedSeat q parts index s new → AreAble parts threads able → AreAbleUpTo 0 part e new threads able
able_stepped None index part s e parts new threads able same h a = absurd h
able_stepped (Some seat) index part s e parts new threads able same h a =
    subst (λ xs. AreAbleUpTo 0 part e xs threads able) (ap (λ (n : ℕ). slice_set parts n (part_after s seat)) (sym same) ∙ sym h.0)
    (able_elsewhere part e parts (part_after s seat) threads able a)

-- One more thread has heard the event.

pub one_more_heard : (i part : ℕ) (e : Event) (parts : List RunningPart) (threads : List ThreadState) (able : List Bool) (t : ThreadState) (flag : Bool)
    → i < length threads → flag ≡ has_step i parts t → AreAbleUpTo i part e parts threads able
    → AreAbleUpTo (i + 1) part e parts (slice_set threads i t) (slice_set able i flag)
one_more_heard i part e parts threads able t flag l h a = record {
  count = length-set able i flag ∙ a.count ∙ sym (length-set threads i t);
  heard = λ k x m g. by_position k x m (get_set threads k i t x g);
  later = λ k x m g not. by_later k x m not (get_set threads k i t x g);
}
  where
    by_position : (k : ℕ) (x : ThreadState) → k < i + 1 → ((k ≡ i) × (x ≡ t)) ⊎ ((k ≡ i → ⊥) × (slice_get threads k ≡ Some x))
        → slice_get (slice_set able i flag) k ≡ Some (has_step k parts x)
    by_position k x m (inl same) =
        ap (slice_get (slice_set able i flag)) (same.0)
        ∙ get_set_same able i (get_or able i flag) flag (slice_get-get_or able i flag (subst (λ (n : ℕ). i < n) (sym a.count) l))
        ∙ ap {B = Option Bool} (λ (b : Bool). Some b) (h ∙ ap (has_step i parts) (sym same.1) ∙ ap (λ (n : ℕ). has_step n parts x) (sym same.0))
    by_position k x m (inr other) = get_set_other able k i flag other.0 ∙ a.heard k x (omega (arith, other.0)) other.1

    by_later : (k : ℕ) (x : ThreadState) → i + 1 ≤ k → concerns k part e x ≡ false
        → ((k ≡ i) × (x ≡ t)) ⊎ ((k ≡ i → ⊥) × (slice_get threads k ≡ Some x))
        → slice_get (slice_set able i flag) k ≡ Some (has_step k parts x)
    by_later k x m not (inl same) = absurd (omega (arith, same.0))
    by_later k x m not (inr other) = get_set_other able k i flag other.0 ∙ a.later k x (omega arith) other.1 not

pub all_heard : (i part : ℕ) (e : Event) (parts : List RunningPart) (threads : List ThreadState) (able : List Bool) → length threads ≤ i
    → AreAbleUpTo i part e parts threads able → AreAble parts threads able
all_heard i part e parts threads able l a = record {
  count = a.count;
  each = λ k t h. a.heard k t (within k t h) h;
}
  where
    within : (k : ℕ) (t : ThreadState) → slice_get threads k ≡ Some t → k < i
    within k t h =
        let less : k < length threads = slice_get_within threads k t h in omega arith
