use Rattle.std.proofs.Common.{◌≡◌, ◌≢◌, ℕ, zero, suc, ◌+◌, ◌<◌, ◌==◌, if◌then◌else◌, not, Bool, true, false, Option, Some, None, List, [], ◌∷◌, ◌++◌, drop, filter, length, map, slice_get, slice_set, refl, sym, ap, ap₂, ◌∙◌, subst, arith, eq-eqb, eqb-true, ne_eqb}
use Rattle.nook_data.proofs.Options.{none_is_some, same_inside}
use Rattle.nook_data.specs.Answers.{answer_at}
use Rattle.nook_data.specs.declared.calls.Answer.{Answer}
use Rattle.nook_data.specs.declared.calls.Op.{Op}
use Rattle.nook_data.specs.declared.steps.Event.{Event}
use Rattle.nook_data.specs.declared.steps.Event.TheVariants as event
use Rattle.part_defs.specs.Runs.{event_of, step_of}
use Rattle.part_laws.proofs.Indices.{get_map, get_set_other, get_set_same, split}
use Rattle.part_laws.proofs.RunsDetermined.{step_named}
use Rattle.run_defs.proofs.RunChanges.{settled, settled_by}
use Rattle.run_defs.specs.Simulation.{Choice, RunningPart, Simulation, ThreadState, Waiting, journal_of}
use Rattle.run_defs.specs.Simulation.{part_after, started, stepped_by, thread_after, threads_after}
use Rattle.explore_defs.specs.Orders.{follows}
use Rattle.run_laws.proofs.Choices.{IsGood}
use Rattle.run_laws.proofs.Threads.{IsOwnOf, heard_length, own_of}
use Rattle.containment_laws.specs.Containment.{LookAlike, answers_elsewhere}

-- What steps of a part change outside of it: nothing. And what steps of the other parts change depends on them alone.

-- ---- lists

pub within : {X : Type 0} (xs : List X) (k : ℕ) (x : X) → slice_get xs k ≡ Some x → k < length xs
within [] k x h = none_is_some h
within (y ∷ xs) zero x h = omega arith
within (y ∷ xs) (suc k) x h = let l : k < length xs = within xs k x h in omega arith

pub some_at : {X : Type 0} (xs : List X) (k : ℕ) → k < length xs → (x : X) × (slice_get xs k ≡ Some x)
some_at [] k l = absurd (omega arith)
some_at (x ∷ xs) zero l = (x, refl)
some_at (x ∷ xs) (suc k) l = some_at xs k (omega arith)

filter_push : {X : Type 0} (test : X → Bool) (xs : List X) (x : X) → filter test (xs ++ x ∷ []) ≡ filter test xs ++ filter test (x ∷ [])
filter_push test [] x = refl
filter_push test (y ∷ xs) x = split (test y)
    (λ kept. rw (kept, filter) (ap (λ l. y ∷ l) (filter_push test xs x)))
    (λ gone. rw (gone, filter) (filter_push test xs x))

-- ---- threads

-- where a thread waits, unless it waits in the part
abbrev pub waits_elsewhere : ℕ → Option Waiting → Option Waiting
waits_elsewhere a None = None
waits_elsewhere a (Some w) = if w.part == a then None else Some w

-- the operations on the other parts
abbrev pub ops_elsewhere : ℕ → List (ℕ × Op) → List (ℕ × Op)
ops_elsewhere a ops = filter (λ (o : ℕ × Op). not (o.0 == a)) ops

pub record SameThread (a : ℕ) (t u : ThreadState) : Type 0 where
  pub waits : waits_elsewhere a t.waiting ≡ waits_elsewhere a u.waiting
  pub rest : ops_elsewhere a t.rest ≡ ops_elsewhere a u.rest
  pub answers : answers_elsewhere a t ≡ answers_elsewhere a u

pub same_thread : (a : ℕ) (t : ThreadState) → SameThread a t t
same_thread a t = record { waits = refl; rest = refl; answers = refl }

swapped_thread : (a : ℕ) (t u : ThreadState) → SameThread a t u → SameThread a u t
swapped_thread a t u s = record { waits = sym s.waits; rest = sym s.rest; answers = sym s.answers }

joined_thread : (a : ℕ) (t u v : ThreadState) → SameThread a t u → SameThread a u v → SameThread a t v
joined_thread a t u v s r = record { waits = s.waits ∙ r.waits; rest = s.rest ∙ r.rest; answers = s.answers ∙ r.answers }

-- the first operation that is elsewhere
pub head_elsewhere : (a b : ℕ) (o : Op) (rest : List (ℕ × Op)) → (b == a) ≡ false → ops_elsewhere a ((b, o) ∷ rest) ≡ (b, o) ∷ ops_elsewhere a rest
head_elsewhere a b o rest h = rw (h, filter) refl

head_here : (a b : ℕ) (o : Op) (rest : List (ℕ × Op)) → (b == a) ≡ true → ops_elsewhere a ((b, o) ∷ rest) ≡ ops_elsewhere a rest
head_here a b o rest h = rw (h, filter) refl

-- a step of the part itself

own_started : (a n : ℕ) (e : Event) (t : ThreadState) → IsOwnOf n a t (step_of e) → SameThread a t (started n a e t)
own_started a n (event.Invoke call thread o answer) t own = split (thread == n)
    (λ mine.
    let next = own mine in
    record {
      waits = rw mine (ap (waits_elsewhere a) next.0 ∙ rw (eq-eqb a a refl) refl);
      rest = rw mine (ap (ops_elsewhere a) next.1.1 ∙ head_here a a o next.1.0 (eq-eqb a a refl)
          ∙ ap (λ (xs : List (ℕ × Op)). ops_elsewhere a (drop 1 xs)) (sym next.1.1));
      answers = refl;
    })
    (λ other. rw other (same_thread a t))
own_started a n (event.Enter call thread attempt answer) t own = same_thread a t
own_started a n (event.Burst context call burst count end acts answer failure) t own = same_thread a t
own_started a n (event.Stage s answers released) t own = same_thread a t
own_started a n (event.Arrive frame kept) t own = same_thread a t

own_answer : (a : ℕ) (t : ThreadState) (w : Waiting) (o : Option Answer) → t.waiting ≡ Some w → (w.part == a) ≡ true
    → SameThread a t (settled_by a t o)
own_answer a t w None h here = same_thread a t
own_answer a t w (Some answer) h here = record {
  waits = ap (waits_elsewhere a) h ∙ rw here refl;
  rest = refl;
  answers = sym (filter_push (λ (x : ℕ × Answer). not (x.0 == a)) t.answers (a, answer)
      ∙ rw (eq-eqb a a refl) (append_nil (answers_elsewhere a t)));
}
  where
    append_nil : {X : Type 0} (xs : List X) → xs ++ [] ≡ xs
    append_nil [] = refl
    append_nil (x ∷ xs) = ap (λ l. x ∷ l) (append_nil xs)

own_settled : (a : ℕ) (e : Event) (t : ThreadState) (w : Option Waiting) → t.waiting ≡ w → SameThread a t (settled a e t w)
own_settled a e t None h = same_thread a t
own_settled a e t (Some w) h = split (w.part == a)
    (λ here. own_answer a t w (if w.part == a then answer_at w.call e else None) h here)
    (λ other. rw other (same_thread a t))

own_heard : (a n : ℕ) (e : Event) (t : ThreadState) → IsOwnOf n a t (step_of e) → SameThread a t (thread_after a e (started n a e t))
own_heard a n e t own =
    let one : ThreadState = started n a e t in
    joined_thread a t one (thread_after a e one) (own_started a n e t own) (own_settled a e one one.waiting refl)

-- a step of another part

tails : {X : Type 0} {x : X} {xs ys : List X} → x ∷ xs ≡ x ∷ ys → xs ≡ ys
tails e = cc

other_started : (a b n : ℕ) (e : Event) (t u : ThreadState) → (b == a) ≡ false → SameThread a t u
    → IsOwnOf n b t (step_of e) → IsOwnOf n b u (step_of e) → SameThread a (started n b e t) (started n b e u)
other_started a b n (event.Invoke call thread o answer) t u apart s own mine = split (thread == n)
    (λ here.
    let x = own here in
    let y = mine here in
    let rests : (b, o) ∷ ops_elsewhere a x.1.0 ≡ (b, o) ∷ ops_elsewhere a y.1.0 =
    sym (head_elsewhere a b o x.1.0 apart) ∙ sym (ap (ops_elsewhere a) x.1.1) ∙ s.rest ∙ ap (ops_elsewhere a) y.1.1
    ∙ head_elsewhere a b o y.1.0 apart in
    record {
      waits = rw here refl;
      rest = rw here (ap (λ (xs : List (ℕ × Op)). ops_elsewhere a (drop 1 xs)) x.1.1 ∙ tails rests
          ∙ sym (ap (λ (xs : List (ℕ × Op)). ops_elsewhere a (drop 1 xs)) y.1.1));
      answers = s.answers;
    })
    (λ elsewhere. rw elsewhere s)
other_started a b n (event.Enter call thread attempt answer) t u apart s own mine = s
other_started a b n (event.Burst context call burst count end acts answer failure) t u apart s own mine = s
other_started a b n (event.Stage stage answers released) t u apart s own mine = s
other_started a b n (event.Arrive frame kept) t u apart s own mine = s

-- a thread that waits in the part hears nothing of the others
hears_elsewhere : (a b : ℕ) (e : Event) (t : ThreadState) (w : Option Waiting) → (b == a) ≡ false
    → settled b e t w ≡ settled b e t (waits_elsewhere a w)
hears_elsewhere a b e t None apart = refl
hears_elsewhere a b e t (Some w) apart = split (w.part == a)
    (λ here.
    let not_b : (w.part == b) ≡ false = ne_eqb w.part b (λ same. absurd cc (apart, eq-eqb b a (sym same ∙ eqb-true w.part a here))) in
    rw (here, not_b) refl)
    (λ other. rw other refl)

other_answer : (a b : ℕ) (t u : ThreadState) (o : Option Answer) → SameThread a t u → SameThread a (settled_by b t o) (settled_by b u o)
other_answer a b t u None s = s
other_answer a b t u (Some answer) s = record {
  waits = refl;
  rest = s.rest;
  answers = filter_push (λ (x : ℕ × Answer). not (x.0 == a)) t.answers (b, answer)
      ∙ ap (λ xs. xs ++ filter (λ (x : ℕ × Answer). not (x.0 == a)) ((b, answer) ∷ [])) s.answers
      ∙ sym (filter_push (λ (x : ℕ × Answer). not (x.0 == a)) u.answers (b, answer));
}

other_settled : (a b : ℕ) (e : Event) (t u : ThreadState) (w : Option Waiting) → SameThread a t u
    → SameThread a (settled b e t w) (settled b e u w)
other_settled a b e t u None s = s
other_settled a b e t u (Some w) s = other_answer a b t u (if w.part == b then answer_at w.call e else None) s

other_heard : (a b n : ℕ) (e : Event) (t u : ThreadState) → (b == a) ≡ false → SameThread a t u
    → IsOwnOf n b t (step_of e) → IsOwnOf n b u (step_of e)
    → SameThread a (thread_after b e (started n b e t)) (thread_after b e (started n b e u))
other_heard a b n e t u apart s own mine =
    let x : ThreadState = started n b e t in
    let y : ThreadState = started n b e u in
    let one : SameThread a x y = other_started a b n e t u apart s own mine in
    let first : thread_after b e x ≡ settled b e x (waits_elsewhere a x.waiting) = hears_elsewhere a b e x x.waiting apart in
    let second : thread_after b e y ≡ settled b e y (waits_elsewhere a x.waiting) =
    hears_elsewhere a b e y y.waiting apart ∙ ap (settled b e y) (sym one.waits) in
    subst (λ (z : ThreadState). SameThread a z (thread_after b e y)) (sym first)
    (subst (λ (z : ThreadState). SameThread a (settled b e x (waits_elsewhere a x.waiting)) z) (sym second)
    (other_settled a b e x y (waits_elsewhere a x.waiting) one))

-- all threads

heard_at : (n part k : ℕ) (e : Event) (threads : List ThreadState) (t : ThreadState) → slice_get threads k ≡ Some t
    → slice_get (threads_after n part e threads) k ≡ Some (thread_after part e (started (n + k) part e t))
heard_at n part k e [] t at = none_is_some at
heard_at n part zero e (x ∷ threads) t at =
    ap (λ (m : ℕ). Some (thread_after part e (started m part e x))) (plus n)
    ∙ ap (λ (y : ThreadState). Some (thread_after part e (started (n + 0) part e y))) (same_inside at)
  where
    plus : (n : ℕ) → n ≡ n + 0
    plus n = omega arith
heard_at n part (suc k) e (x ∷ threads) t at =
    heard_at (n + 1) part k e threads t at ∙ ap (λ (m : ℕ). Some (thread_after part e (started m part e t))) (next n k)
  where
    next : (n k : ℕ) → n + 1 + k ≡ n + suc k
    next n k = omega arith

pub from_heard : (part k : ℕ) (e : Event) (threads : List ThreadState) (x : ThreadState) → slice_get (threads_after 0 part e threads) k ≡ Some x
    → (t : ThreadState) × (slice_get threads k ≡ Some t) × (x ≡ thread_after part e (started k part e t))
from_heard part k e threads x at =
    let low : k < length (threads_after 0 part e threads) = within (threads_after 0 part e threads) k x at in
    let one = some_at threads k (subst (λ (n : ℕ). k < n) (heard_length 0 part e threads) low) in
    (one.0, one.1, same_inside (sym at ∙ heard_at 0 part k e threads one.0 one.1) ∙ ap (λ (m : ℕ). thread_after part e (started m part e one.0)) (plus k))
  where
    plus : (n : ℕ) → 0 + n ≡ n
    plus n = omega arith

-- ---- simulations

-- two simulations are the same outside of a part
pub record SameOutside (a : ℕ) (x y : Simulation) : Type 0 where
  pub count : length x.threads ≡ length y.threads
  pub parts : (k : ℕ) → k ≢ a → slice_get x.parts k ≡ slice_get y.parts k
  pub threads : (n : ℕ) (t u : ThreadState) → slice_get x.threads n ≡ Some t → slice_get y.threads n ≡ Some u → SameThread a t u

pub same_outside : (a : ℕ) (x : Simulation) → SameOutside a x x
same_outside a x = record {
  count = refl;
  parts = λ k n. refl;
  threads = λ n t u h i. subst (SameThread a t) (same_inside (sym h ∙ i)) (same_thread a t);
}

pub swapped_outside : (a : ℕ) (x y : Simulation) → SameOutside a x y → SameOutside a y x
swapped_outside a x y s = record {
  count = sym s.count;
  parts = λ k n. sym (s.parts k n);
  threads = λ n t u h i. swapped_thread a u t (s.threads n u t i h);
}

pub joined_outside : (a : ℕ) (x y z : Simulation) → SameOutside a x y → SameOutside a y z → SameOutside a x z
joined_outside a x y z s r = record {
  count = s.count ∙ r.count;
  parts = λ k n. s.parts k n ∙ r.parts k n;
  threads = λ n t v h i.
      let low : n < length x.threads = within x.threads n t h in
      let u = some_at y.threads n (subst (λ (m : ℕ). n < m) s.count low) in
      joined_thread a t u.0 v (s.threads n t u.0 h u.1) (r.threads n u.0 v u.1 i);
}

-- a choice of a part that exists leads to this
abbrev step_by : Simulation → Choice → RunningPart → Simulation
step_by s c seat = stepped_by s s.order c (Some seat)

pub followed : (s : Simulation) (c : Choice) (seat : RunningPart) → slice_get s.parts c.part ≡ Some seat → follows s c ≡ step_by s c seat
followed s c seat at = ap (stepped_by s s.order c) at

own_step_by : (a : ℕ) (x : Simulation) (c : Choice) (g : IsGood x.parts x.threads c) → c.part ≡ a → SameOutside a x (step_by x c g.seat)
own_step_by a x c g here =
    let e : Event = event_of g.seat.run.state c.step in
    record {
      count = sym (heard_length 0 c.part e x.threads);
      parts = λ k n. sym (get_set_other x.parts k c.part (part_after c.step g.seat) (λ same. n (same ∙ here)));
      threads = λ n t u h i.
          let one = from_heard c.part n e x.threads u i in
          let first : t ≡ one.0 = same_inside (sym h ∙ one.1) in
          let own : IsOwnOf n c.part one.0 (step_of e) =
          subst (IsOwnOf n c.part one.0) (sym (step_named g.seat.run.state c.step)) (own_of x.threads n c.part one.0 c.step g.own one.1) in
          let kept : SameThread c.part one.0 u =
          subst (SameThread c.part one.0) (sym one.2) (own_heard c.part n e one.0 own) in
          subst (λ (m : ℕ). SameThread m t u) here (subst (λ (z : ThreadState). SameThread c.part z u) (sym first) kept);
    }

-- a step of the part itself changes nothing outside of it
pub own_step : (a : ℕ) (x : Simulation) (c : Choice) → IsGood x.parts x.threads c → c.part ≡ a → SameOutside a x (follows x c)
own_step a x c g here = subst (SameOutside a x) (sym (followed x c g.seat g.at)) (own_step_by a x c g here)

other_step_by : (a : ℕ) (x y : Simulation) (c : Choice) (seat : RunningPart) → SameOutside a x y → (c.part == a) ≡ false
    → slice_get x.parts c.part ≡ Some seat → slice_get y.parts c.part ≡ Some seat
    → ((n : ℕ) (t : ThreadState) → slice_get x.threads n ≡ Some t → IsOwnOf n c.part t c.step)
    → ((n : ℕ) (t : ThreadState) → slice_get y.threads n ≡ Some t → IsOwnOf n c.part t c.step)
    → SameOutside a (step_by x c seat) (step_by y c seat)
other_step_by a x y c seat s apart at_x at_y own_x own_y =
    let e : Event = event_of seat.run.state c.step in
    let named : c.step ≡ step_of e = sym (step_named seat.run.state c.step) in
    record {
      count = heard_length 0 c.part e x.threads ∙ s.count ∙ sym (heard_length 0 c.part e y.threads);
      parts = λ k n. split (k == c.part)
          (λ here.
          let same : k ≡ c.part = eqb-true k c.part here in
          subst (λ (m : ℕ). slice_get (slice_set x.parts c.part (part_after c.step seat)) m ≡ slice_get (slice_set y.parts c.part (part_after c.step seat)) m) (sym same)
          (get_set_same x.parts c.part seat (part_after c.step seat) at_x ∙ sym (get_set_same y.parts c.part seat (part_after c.step seat) at_y)))
          (λ other.
          let away : k ≡ c.part → ⊥ = λ same. absurd cc (other, eq-eqb k c.part same) in
          get_set_other x.parts k c.part (part_after c.step seat) away ∙ s.parts k n
          ∙ sym (get_set_other y.parts k c.part (part_after c.step seat) away));
      threads = λ n t u h i.
          let one = from_heard c.part n e x.threads t h in
          let two = from_heard c.part n e y.threads u i in
          subst (λ (z : ThreadState). SameThread a z u) (sym one.2)
          (subst (λ (z : ThreadState). SameThread a (thread_after c.part e (started n c.part e one.0)) z) (sym two.2)
          (other_heard a c.part n e one.0 two.0 apart (s.threads n one.0 two.0 one.1 two.1)
          (subst (IsOwnOf n c.part one.0) named (own_x n one.0 one.1)) (subst (IsOwnOf n c.part two.0) named (own_y n two.0 two.1))));
    }

-- the same step of another part leads to simulations that are the same outside
pub other_step : (a : ℕ) (x y : Simulation) (c : Choice) → SameOutside a x y → (c.part == a) ≡ false
    → IsGood x.parts x.threads c → IsGood y.parts y.threads c → SameOutside a (follows x c) (follows y c)
other_step a x y c s apart g h =
    let away : c.part ≢ a = λ same. absurd cc (apart, eq-eqb c.part a same) in
    let seats : h.seat ≡ g.seat = same_inside (sym h.at ∙ sym (s.parts c.part away) ∙ g.at) in
    let there : slice_get y.parts c.part ≡ Some g.seat = h.at ∙ ap (λ (z : RunningPart). Some z) seats in
    subst (λ (z : Simulation). SameOutside a z (follows y c)) (sym (followed x c g.seat g.at))
    (subst (SameOutside a (step_by x c g.seat)) (sym (followed y c g.seat there))
    (other_step_by a x y c g.seat s apart g.at there (λ n t at. own_of x.threads n c.part t c.step g.own at)
    (λ n t at. own_of y.threads n c.part t c.step h.own at)))

-- ---- what is seen

none_mapped : {X Y : Type 0} (f : X → Y) (xs : List X) (k : ℕ) → slice_get xs k ≡ None → slice_get (map f xs) k ≡ None
none_mapped f [] k h = refl
none_mapped f (x ∷ xs) zero h = none_is_some (sym h)
none_mapped f (x ∷ xs) (suc k) h = none_mapped f xs k h

-- lists with the same item at an index, changed in the same way
pub same_mapped : {X Y : Type 0} (f : X → Y) (xs ys : List X) (k : ℕ) → slice_get xs k ≡ slice_get ys k
    → slice_get (map f xs) k ≡ slice_get (map f ys) k
same_mapped {X = X} f xs ys k h = by_item (slice_get ys k) refl
  where
    by_item : (o : Option X) → slice_get ys k ≡ o → slice_get (map f xs) k ≡ slice_get (map f ys) k
    by_item None e = none_mapped f xs k (h ∙ e) ∙ sym (none_mapped f ys k e)
    by_item (Some y) e = get_map f xs k y (h ∙ e) ∙ sym (get_map f ys k y e)

same_answers : (a : ℕ) (xs ys : List ThreadState) → length xs ≡ length ys
    → ((n : ℕ) (t u : ThreadState) → slice_get xs n ≡ Some t → slice_get ys n ≡ Some u → SameThread a t u)
    → map (answers_elsewhere a) xs ≡ map (answers_elsewhere a) ys
same_answers a [] [] e each = refl
same_answers a [] (y ∷ ys) e each = absurd (omega arith)
same_answers a (x ∷ xs) [] e each = absurd (omega arith)
same_answers a (x ∷ xs) (y ∷ ys) e each =
    ap₂ (λ (z : List (ℕ × Answer)) zs. z ∷ zs) (each 0 x y refl refl).answers
    (same_answers a xs ys (omega arith) (λ n t u h i. each (suc n) t u h i))

pub looks_alike : (a : ℕ) (x y : Simulation) → SameOutside a x y → LookAlike a x y
looks_alike a x y s = record {
  journals = λ k n. same_mapped journal_of x.parts y.parts k (s.parts k n);
  answers = same_answers a x.threads y.threads s.count s.threads;
}
