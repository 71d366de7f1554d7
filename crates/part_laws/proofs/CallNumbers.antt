-- In a run only its thread invoked a call that is open, and nothing has answered it.
use Rattle.std.proofs.Common.{◌≡◌, ◌⊎◌, ℕ, ◌+◌, ◌<◌, ◌≤◌, Bool, true, false, not, cond, Option, Some, None, List, [], ◌∷◌, ◌++◌, map, filter, subst, sym, refl, inl, inr, arith}
use Rattle.std.specs.Prelude.{if◌then◌else◌, ◌==◌}
use Rattle.std.specs.List.{AllByRecursion}
use Rattle.std.proofs.lemmas.Bool.Decides.{nat_tests}
use Rattle.nook_data.specs.declared.calls.Answer.{Answer}
use Rattle.nook_data.specs.declared.calls.CallEntry.{CallEntry}
use Rattle.nook_data.specs.declared.steps.Event.{Event}
use Rattle.nook_data.specs.declared.steps.Event.TheVariants as event
use Rattle.nook_data.specs.declared.calls.Op.{Op}
use Rattle.part_defs.specs.Log.{is_call, with_answered_call, with_call}
use Rattle.part_defs.specs.Views.CallLogs.{IsNumbered}
use Rattle.part_defs.proofs.PartCases.{new_entry}
use Rattle.nook_data.specs.Answers.{one_answer}
use Rattle.nook_data.specs.Answers.{answer_at, answer_among}
use Rattle.part_defs.specs.State.{CallLog}

-- ---- what an event does to a call

abbrev pub InvokesBy : ℕ → ℕ → Event → Type 0
InvokesBy call thread (event.Invoke c t o answer) = c ≡ call → t ≡ thread
InvokesBy call thread _ = Unit {0}

abbrev pub InvokesAbove : ℕ → Event → Type 0
InvokesAbove count (event.Invoke c t o answer) = count < c
InvokesAbove count _ = Unit {0}

-- the event does not answer the call, and invokes it only for its thread
abbrev pub Quiet : ℕ → ℕ → Event → Type 0
Quiet call thread e = (answer_at call e ≡ None) × InvokesBy call thread e

-- this thread has an open call with this number
abbrev pub HasEntry : List CallEntry → ℕ → ℕ → Type 0
HasEntry [] call thread = ⊥
HasEntry (c ∷ pending) call thread = ((c.call ≡ call) × (c.thread ≡ thread)) ⊎ HasEntry pending call thread

abbrev pub CameFrom : CallLog → ℕ → ℕ → Type 0
CameFrom log call thread = HasEntry log.pending call thread ⊎ (log.count < call)

-- what a step does to the log, and what its event says of it
pub record LogStepped (a b : CallLog) (e : Event) : Type 0 where
  pub numbered : IsNumbered 0 b.count b.pending
  pub more : a.count ≤ b.count
  pub fresh : InvokesAbove a.count e
  pub quiet : AllByRecursion (λ x. Quiet x.call x.thread e × CameFrom a x.call x.thread) b.pending
  pub beyond : (call thread : ℕ) → b.count < call → Quiet call thread e

-- ---- lists of open calls

pub numbered_bound : (low count : ℕ) (xs : List CallEntry) → IsNumbered low count xs → low ≤ count
numbered_bound low count [] h = h
numbered_bound low count (x ∷ xs) h = let k = numbered_bound x.call count xs h.1 in let l = h.0 in omega arith

pub all_bounds : (low count : ℕ) (xs : List CallEntry) → IsNumbered low count xs → AllByRecursion (λ x. (low < x.call) × (x.call ≤ count)) xs
all_bounds low count [] h = tt
all_bounds low count (x ∷ xs) h = ((h.0, numbered_bound x.call count xs h.1), lower xs (all_bounds x.call count xs h.1))
  where
    lower : (ys : List CallEntry) → AllByRecursion (λ y. (x.call < y.call) × (y.call ≤ count)) ys → AllByRecursion (λ y. (low < y.call) × (y.call ≤ count)) ys
    lower [] k = tt
    lower (y ∷ ys) k = ((let l = h.0 in let m = k.0.0 in omega arith, k.0.1), lower ys k.1)

pub numbered_more : (low count more : ℕ) (xs : List CallEntry) → count ≤ more → IsNumbered low count xs → IsNumbered low more xs
numbered_more low count more [] l h = omega arith
numbered_more low count more (x ∷ xs) l h = (h.0, numbered_more x.call count more xs l h.1)

pub numbered_push : (low count : ℕ) (xs : List CallEntry) (thread : ℕ) (o : Op) → IsNumbered low count xs → IsNumbered low (count + 1) (xs ++ new_entry (count + 1) thread o ∷ [])
numbered_push low count [] thread o h = (omega arith, omega arith)
numbered_push low count (x ∷ xs) thread o h = (h.0, numbered_push x.call count xs thread o h.1)

pub numbered_lower : (low from count : ℕ) (xs : List CallEntry) → low ≤ from → IsNumbered from count xs → IsNumbered low count xs
numbered_lower low from count [] l h = omega arith
numbered_lower low from count (x ∷ xs) l h = (let k = h.0 in omega arith, h.1)

pub numbered_filter : (test : CallEntry → Bool) (low count : ℕ) (xs : List CallEntry) → IsNumbered low count xs → IsNumbered low count (filter test xs)
numbered_filter test low count [] h = h
numbered_filter test low count (x ∷ xs) h =
    let rest = numbered_filter test x.call count xs h.1 in
    let above : low < x.call = h.0 in
    elim (test x) as (λ b. IsNumbered low count (cond b (x ∷ filter test xs) (filter test xs))) [ true ↦ (above, rest) | false ↦ numbered_lower low x.call count (filter test xs) (omega arith) rest ]

-- a change that keeps a call's number and thread
abbrev pub KeepsCall : (CallEntry → CallEntry) → Type 0
KeepsCall f = (x : CallEntry) → ((f x).call ≡ x.call) × ((f x).thread ≡ x.thread)

pub numbered_map : (f : CallEntry → CallEntry) (low count : ℕ) (xs : List CallEntry) → KeepsCall f → IsNumbered low count xs → IsNumbered low count (map f xs)
numbered_map f low count [] k h = h
numbered_map f low count (x ∷ xs) k h =
    (let l = h.0 in let e = (k x).0 in omega arith, subst (λ n. IsNumbered n count (map f xs)) (sym (k x).0) (numbered_map f x.call count xs k h.1))

-- ---- what stays open

-- P holds of each open call
abbrev pub AllOpen : (ℕ → ℕ → Type 0) → List CallEntry → Type 0
AllOpen P xs = AllByRecursion (λ x. P x.call x.thread) xs

pub open_weaker : (P Q : ℕ → ℕ → Type 0) (xs : List CallEntry) → ((call thread : ℕ) → P call thread → Q call thread) → AllOpen P xs → AllOpen Q xs
open_weaker P Q [] f h = tt
open_weaker P Q (x ∷ xs) f h = (f x.call x.thread h.0, open_weaker P Q xs f h.1)

pub open_itself : (xs : List CallEntry) → AllOpen (λ call thread. HasEntry xs call thread) xs
open_itself [] = tt
open_itself (x ∷ xs) = (inl (refl, refl), open_weaker (λ call thread. HasEntry xs call thread) (λ call thread. HasEntry (x ∷ xs) call thread) xs (λ c t h. inr h) (open_itself xs))

pub open_filter : (P : ℕ → ℕ → Type 0) (test : CallEntry → Bool) (xs : List CallEntry) → AllOpen P xs → AllOpen P (filter test xs)
open_filter P test [] h = tt
open_filter P test (x ∷ xs) h =
    let rest = open_filter P test xs h.1 in
    let first : P x.call x.thread = h.0 in
    elim (test x) as (λ b. AllOpen P (cond b (x ∷ filter test xs) (filter test xs))) [ true ↦ (first, rest) | false ↦ rest ]

pub open_map : (P : ℕ → ℕ → Type 0) (f : CallEntry → CallEntry) (xs : List CallEntry) → KeepsCall f → AllOpen P xs → AllOpen P (map f xs)
open_map P f [] k h = tt
open_map P f (x ∷ xs) k h = (subst (λ c. P c (f x).thread) (sym (k x).0) (subst (P x.call) (sym (k x).1) h.0), open_map P f xs k h.1)

pub open_push : (P : ℕ → ℕ → Type 0) (xs : List CallEntry) (x : CallEntry) → AllOpen P xs → P x.call x.thread → AllOpen P (xs ++ x ∷ [])
open_push P [] x h k = (k, tt)
open_push P (y ∷ xs) x h k = (h.0, open_push P xs x h.1 k)

pub open_both : (P Q : ℕ → ℕ → Type 0) (xs : List CallEntry) → AllOpen P xs → AllOpen Q xs → AllOpen (λ c t. P c t × Q c t) xs
open_both P Q [] h k = tt
open_both P Q (x ∷ xs) h k = ((h.0, k.0), open_both P Q xs h.1 k.1)

pub open_has : (P : ℕ → ℕ → Type 0) (xs : List CallEntry) (call thread : ℕ) → AllOpen P xs → HasEntry xs call thread → P call thread
open_has P [] call thread h k = absurd k
open_has P (x ∷ xs) call thread h (inl k) = subst (λ c. P c thread) k.0 (subst (P x.call) k.1 h.0)
open_has P (x ∷ xs) call thread h (inr k) = open_has P xs call thread h.1 k

-- ---- the kinds of steps

-- an event that answers nothing and invokes nothing
abbrev pub Silent : Event → Type 0
Silent e = ((call thread : ℕ) → Quiet call thread e) × ((count : ℕ) → InvokesAbove count e)

pub stepped_same : (a b : CallLog) (e : Event) → IsNumbered 0 a.count a.pending → b.pending ≡ a.pending → b.count ≡ a.count → Silent e → LogStepped a b e
stepped_same a b e h p n s = record {
  numbered = subst (λ c. IsNumbered 0 c b.pending) (sym n) (subst (λ xs. IsNumbered 0 a.count xs) (sym p) h);
  more = omega arith;
  fresh = s.1 a.count;
  quiet = subst (AllOpen (λ c t. Quiet c t e × CameFrom a c t)) (sym p) (open_weaker (λ c t. HasEntry a.pending c t) (λ c t. Quiet c t e × CameFrom a c t) a.pending (λ c t k. (s.0 c t, inl k)) (open_itself a.pending));
  beyond = λ c t l. s.0 c t;
}

pub other_call : (call c : ℕ) (a : Option Answer) → (c ≡ call → ⊥) → answer_among call (one_answer c a) ≡ None
other_call call c None n = refl
other_call call c (Some a) n = grind (arith, nat_tests)

pub none_call : (call c : ℕ) → answer_among call (one_answer c None) ≡ None
none_call call c = refl

-- a call is invoked and stays open
pub stepped_open : (a : CallLog) (thread : ℕ) (o : Op) → IsNumbered 0 a.count a.pending → LogStepped a (with_call thread o a) (event.Invoke (a.count + 1) thread o None)
unfolding with_call
stepped_open a thread o h =
    let e : Event = event.Invoke (a.count + 1) thread o None in
    let old = open_weaker (λ c t. HasEntry a.pending c t × (c ≤ a.count)) (λ c t. Quiet c t e × CameFrom a c t) a.pending
    (λ c t k. ((none_call c (a.count + 1), λ q. absurd (let l = k.1 in omega arith)), inl k.0))
    (open_both (λ c t. HasEntry a.pending c t) (λ c t. c ≤ a.count) a.pending (open_itself a.pending) (bounds a.pending (all_bounds 0 a.count a.pending h))) in
    record {
      numbered = numbered_push 0 a.count a.pending thread o h;
      more = omega arith;
      fresh = omega arith;
      quiet = open_push (λ c t. Quiet c t e × CameFrom a c t) a.pending (new_entry (a.count + 1) thread o) old ((none_call (a.count + 1) (a.count + 1), λ q. refl), inr (omega arith));
      beyond = λ c t l. (none_call c (a.count + 1), λ q. absurd (omega arith));
    }
  where
    bounds : (xs : List CallEntry) → AllByRecursion (λ x. (0 < x.call) × (x.call ≤ a.count)) xs → AllOpen (λ c t. c ≤ a.count) xs
    bounds [] k = tt
    bounds (x ∷ xs) k = (k.0.1, bounds xs k.1)

pub small_calls : (count : ℕ) (xs : List CallEntry) → IsNumbered 0 count xs → AllOpen (λ c t. c ≤ count) xs
small_calls count xs h = bounds xs (all_bounds 0 count xs h)
  where
    bounds : (ys : List CallEntry) → AllByRecursion (λ x. (0 < x.call) × (x.call ≤ count)) ys → AllOpen (λ c t. c ≤ count) ys
    bounds [] k = tt
    bounds (x ∷ ys) k = (k.0.1, bounds ys k.1)

-- a call is invoked and answered at once
pub stepped_at_once : (a : CallLog) (thread : ℕ) (o : Op) (answer : Answer) → IsNumbered 0 a.count a.pending → LogStepped a (with_answered_call a) (event.Invoke (a.count + 1) thread o (Some answer))
unfolding with_answered_call
stepped_at_once a thread o answer h =
    let e : Event = event.Invoke (a.count + 1) thread o (Some answer) in
    record {
      numbered = numbered_more 0 a.count (a.count + 1) a.pending (omega arith) h;
      more = omega arith;
      fresh = omega arith;
      quiet = open_weaker (λ c t. HasEntry a.pending c t × (c ≤ a.count)) (λ c t. Quiet c t e × CameFrom a c t) a.pending
          (λ c t k. ((other_call c (a.count + 1) (Some answer) (λ q. absurd (let l = k.1 in omega arith)), λ q. absurd (let l = k.1 in omega arith)), inl k.0))
          (open_both (λ c t. HasEntry a.pending c t) (λ c t. c ≤ a.count) a.pending (open_itself a.pending) (small_calls a.count a.pending h));
      beyond = λ c t l. (other_call c (a.count + 1) (Some answer) (λ q. absurd (omega arith)), λ q. absurd (omega arith));
    }

pub apart : (c call : ℕ) → (c == call) ≡ false → call ≡ c → ⊥
apart c call q r = absurd (grind (arith, nat_tests))

pub others_left : (call : ℕ) (xs : List CallEntry) → AllOpen (λ c t. call ≡ c → ⊥) (filter (λ c. not (is_call call c)) xs)
others_left call [] = tt
others_left call (x ∷ xs) = by_test (x.call == call) refl (others_left call xs)
  where
    rest : List CallEntry
    rest = filter (λ c. not (is_call call c)) xs

    by_test : (b : Bool) → (x.call == call) ≡ b → AllOpen (λ c t. call ≡ c → ⊥) rest → AllOpen (λ c t. call ≡ c → ⊥) (cond (not (x.call == call)) (x ∷ rest) rest)
    by_test true q r = subst (λ b. AllOpen (λ c t. call ≡ c → ⊥) (cond (not b) (x ∷ rest) rest)) (sym q) r
    by_test false q r = subst (λ b. AllOpen (λ c t. call ≡ c → ⊥) (cond (not b) (x ∷ rest) rest)) (sym q) ((λ e. apart x.call call q e), r)

-- a call is answered by an event that answers no other
pub stepped_answered : (a b : CallLog) (e : Event) (call : ℕ) → IsNumbered 0 a.count a.pending → call ≤ a.count → b.pending ≡ filter (λ c. not (is_call call c)) a.pending → b.count ≡ a.count
    → ((c t : ℕ) → (call ≡ c → ⊥) → Quiet c t e) → ((count : ℕ) → InvokesAbove count e) → LogStepped a b e
stepped_answered a b e call h l p n s f = record {
  numbered = subst (λ c. IsNumbered 0 c b.pending) (sym n) (subst (λ xs. IsNumbered 0 a.count xs) (sym p) (numbered_filter (λ c. not (is_call call c)) 0 a.count a.pending h));
  more = omega arith;
  fresh = f a.count;
  quiet =
      subst (AllOpen (λ c t. Quiet c t e × CameFrom a c t)) (sym p)
      (open_weaker (λ c t. (call ≡ c → ⊥) × HasEntry a.pending c t) (λ c t. Quiet c t e × CameFrom a c t) (filter (λ c. not (is_call call c)) a.pending) (λ c t k. (s c t k.0, inl k.1))
      (open_both (λ c t. call ≡ c → ⊥) (λ c t. HasEntry a.pending c t) (filter (λ c. not (is_call call c)) a.pending) (others_left call a.pending) (open_filter (λ c t. HasEntry a.pending c t) (λ c. not (is_call call c)) a.pending (open_itself a.pending))));
  beyond = λ c t m. s c t (λ q. absurd (omega arith));
}

-- open calls change, except for number and thread
pub stepped_changed : (a b : CallLog) (e : Event) (f : CallEntry → CallEntry) → KeepsCall f → IsNumbered 0 a.count a.pending → b.pending ≡ map f a.pending → b.count ≡ a.count → Silent e → LogStepped a b e
stepped_changed a b e f k h p n s = record {
  numbered = subst (λ c. IsNumbered 0 c b.pending) (sym n) (subst (λ xs. IsNumbered 0 a.count xs) (sym p) (numbered_map f 0 a.count a.pending k h));
  more = omega arith;
  fresh = s.1 a.count;
  quiet =
      subst (AllOpen (λ c t. Quiet c t e × CameFrom a c t)) (sym p)
      (open_map (λ c t. Quiet c t e × CameFrom a c t) f a.pending k (open_weaker (λ c t. HasEntry a.pending c t) (λ c t. Quiet c t e × CameFrom a c t) a.pending (λ c t m. (s.0 c t, inl m)) (open_itself a.pending)));
  beyond = λ c t l. s.0 c t;
}
