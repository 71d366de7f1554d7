-- Upper bounds on the invocations and arrivals that a seat gained.
use Rattle.std.proofs.Common.{◌≡◌, ◌⊎◌, ℕ, zero, suc, ◌+◌, ◌≤◌, Bool, true, false, cond, Option, Some, None, List, [], ◌∷◌, ◌++◌, take, length, slice_get, subst, sym, refl, ap, ◌∙◌, inl, inr, arith, length-append}
use Rattle.std.specs.Prelude.{All, if◌then◌else◌, ◌==◌}
use Rattle.std.specs.List.{filter}
use Rattle.std.proofs.lemmas.Bool.Decides.{nat_tests}
use Rattle.std.proofs.lemmas.List.Elements.{All-weaker, filter-append, filter_map-append}
use mathlib.Core.List.{IsPrefix}
use Rattle.nook_data.specs.declared.steps.Event.{Event}
use Rattle.nook_data.specs.declared.steps.Event.TheVariants as event
use Rattle.nook_data.specs.declared.calls.Op.{Op}
use Rattle.nook_data.specs.declared.desks.Receipt.{Receipt}
use Rattle.nook_data.specs.Numbered.{at_number}
use Rattle.desk_like.specs.Desks.{AddsNothing, DeskView, IsAt, Invokes, Joins}
use Rattle.app_threads.specs.Steps.{Same}
use Rattle.app_threads.specs.Workers.{Gains, GainsAtMost, Grows, IsBy, count_on, frame_of, frames_at, invokes_at, invokes_by, invokes_of, is_invoke, is_invoke_by}
use Rattle.app_threads.proofs.Grown.{all_there_grow, frames_grow, grows_more, grows_none, invokes_does, invokes_grow, nothing_does, same_event, There}
use Rattle.app_threads.proofs.Listed.{filter_none, filter_same, if_same, same_or_other, take_next}

-- ---- a script's operations on one part

-- a list stays no longer than another if both get an item, or neither does
more_few : {X Y : Type 0} (b : Bool) (x : X) (xs : List X) (y : Y) (ys : List Y) → length xs ≤ length ys → length (cond b (x ∷ xs) xs) ≤ length (cond b (y ∷ ys) ys)
more_few true x xs y ys l = omega arith
more_few false x xs y ys l = l

pub invokes_few : (d : ℕ) (ops : List (ℕ × Op)) (rs : List Receipt) → length (invokes_of d ops rs) ≤ count_on d ops
invokes_few d [] rs = omega arith
invokes_few d (o ∷ ops) [] = omega arith
invokes_few d (o ∷ ops) (r ∷ rs) = more_few (o.0 == d) r.at_invoke (invokes_of d ops rs) o (filter (λ x. x.0 == d) ops) (invokes_few d ops rs)

pub count_take : (d n : ℕ) (ops : List (ℕ × Op)) → count_on d (take n ops) ≤ count_on d ops
count_take d zero ops = omega arith
count_take d (suc n) [] = omega arith
count_take d (suc n) (o ∷ ops) = more_few (o.0 == d) o (filter (λ x. x.0 == d) (take n ops)) o (filter (λ x. x.0 == d) ops) (count_take d n ops)

abbrev on_part : ℕ → ℕ × Op → Bool
on_part part o = o.0 == part

-- before an operation on a part, fewer operations are on that part than in the whole list
pub count_next : (ops : List (ℕ × Op)) (index part : ℕ) (op : Op) → slice_get ops index ≡ Some (part, op) → count_on part (take index ops) + 1 ≤ count_on part ops
count_next ops index part op h =
    let more = count_take part (index + 1) ops in
    let next = ap (count_on part) (take_next ops index (part, op) h) in
    let last : List (ℕ × Op) = (part, op) ∷ [] in
    let both = ap length (filter-append (on_part part) (take index ops) last) in
    let one : length (filter (on_part part) last) ≡ 1 = ap length (if_same part last []) in
    let sum = length-append (filter (on_part part) (take index ops)) (filter (on_part part) last) in
    omega (arith, more, next, both, one, sum)

-- ---- upper bounds on gains

pub gains_at_most : (v w : DeskView) (is : List ℕ) (fs : List (List ℕ)) → Gains v w is fs → GainsAtMost v w (length is) (length fs)
gains_at_most v w is fs g = record {
  numbers = g.numbers;
  grows = g.grows;
  invoked = omega (arith, ap length g.invoked);
  arrived = omega (arith, ap length g.arrived);
}

pub at_most_weaker : (v w : DeskView) (m n f g : ℕ) → m ≤ n → f ≤ g → GainsAtMost v w m f → GainsAtMost v w n g
at_most_weaker v w m n f g l k h = record {
  numbers = h.numbers;
  grows = h.grows;
  invoked = let i = h.invoked in omega arith;
  arrived = let a = h.arrived in omega arith;
}

invokes_both : (u v w : DeskView) (ps qs : List ℕ) → Grows u v ps → Grows v w qs → length (invokes_at w.seen (ps ++ qs)) ≡ length (invokes_at v.seen ps) + length (invokes_at w.seen qs)
invokes_both u v w ps qs g h =
    omega (arith, ap length (filter-append (λ index. is_invoke (at_number index w.seen)) ps qs), length-append (invokes_at w.seen ps) (invokes_at w.seen qs), ap length (invokes_grow v.seen w.seen ps h.seen g.there))

frames_both : (u v w : DeskView) (ps qs : List ℕ) → Grows u v ps → Grows v w qs → length (frames_at w.seen (ps ++ qs)) ≡ length (frames_at v.seen ps) + length (frames_at w.seen qs)
frames_both u v w ps qs g h =
    omega (arith, ap length (filter_map-append (λ index. frame_of (at_number index w.seen)) ps qs), length-append (frames_at w.seen ps) (frames_at w.seen qs), ap length (frames_grow v.seen w.seen ps h.seen g.there))

pub at_most_more : (u v w : DeskView) (m n f g : ℕ) → GainsAtMost u v m f → GainsAtMost v w n g → GainsAtMost u w (m + n) (f + g)
at_most_more u v w m n f g h k = record {
  numbers = h.numbers ++ k.numbers;
  grows = grows_more u v w h.numbers k.numbers h.grows k.grows;
  invoked = let a = h.invoked in let b = k.invoked in omega (arith, invokes_both u v w h.numbers k.numbers h.grows k.grows);
  arrived = let a = h.arrived in let b = k.arrived in omega (arith, frames_both u v w h.numbers k.numbers h.grows k.grows);
}

pub nothing_at_most : (v w : DeskView) → AddsNothing v w → GainsAtMost v w 0 0
nothing_at_most v w a = gains_at_most v w [] [] (nothing_does v w a).gains

pub invokes_at_most : (v w : DeskView) (call thread : ℕ) (op : Op) (at : ℕ) → Invokes v w call thread op at → GainsAtMost v w 1 0
invokes_at_most v w call thread op at h = gains_at_most v w (at ∷ []) [] (invokes_does v w call thread op at h).gains

-- ---- by thread

filter_weaker : {X : Type 0} (p q : X → Bool) (xs : List X) → ((x : X) → p x ≡ true → q x ≡ true) → length (filter p xs) ≤ length (filter q xs)
filter_weaker p q [] f = omega arith
filter_weaker p q (x ∷ xs) f = by_test (p x) (q x) (f x) (filter_weaker p q xs f)
  where
    by_test : (a b : Bool) → (a ≡ true → b ≡ true) → length (filter p xs) ≤ length (filter q xs) → length (cond a (x ∷ filter p xs) (filter p xs)) ≤ length (cond b (x ∷ filter q xs) (filter q xs))
    by_test true true g rest = omega arith
    by_test true false g rest = absurd (let e = g refl in cc)
    by_test false true g rest = omega arith
    by_test false false g rest = rest

by_is_invoke : (thread : ℕ) (e : Event) → is_invoke_by thread (Some e) ≡ true → is_invoke (Some e) ≡ true
by_is_invoke thread (event.Invoke c t o answer) h = refl
by_is_invoke thread (event.Enter c t attempt answer) h = absurd cc
by_is_invoke thread (event.Burst context c burst count end acts answer failure) h = absurd cc
by_is_invoke thread (event.Stage stage answers released) h = absurd cc
by_is_invoke thread (event.Arrive frame kept) h = absurd cc

not_by_other : (thread other : ℕ) (e : Event) → (thread ≡ other → ⊥) → IsBy thread e → is_invoke_by other (Some e) ≡ false
not_by_other thread other (event.Invoke c t o answer) n h = by_test (t == other) refl
  where
    by_test : (b : Bool) → (t == other) ≡ b → (t == other) ≡ false
    by_test true q = absurd (n (sym h ∙ grind (arith, nat_tests)))
    by_test false q = q
not_by_other thread other (event.Enter c t attempt answer) n h = refl
not_by_other thread other (event.Burst context c burst count end acts answer failure) n h = refl
not_by_other thread other (event.Stage stage answers released) n h = refl
not_by_other thread other (event.Arrive frame kept) n h = refl

invokes_by_few : (thread : ℕ) (seen : List Event) (numbers : List ℕ) → length (invokes_by thread seen numbers) ≤ length (invokes_at seen numbers)
invokes_by_few thread seen numbers = filter_weaker (λ index. is_invoke_by thread (at_number index seen)) (λ index. is_invoke (at_number index seen)) numbers (λ index h. weaker (at_number index seen) h)
  where
    weaker : (o : Option Event) → is_invoke_by thread o ≡ true → is_invoke o ≡ true
    weaker None h = absurd cc
    weaker (Some e) h = by_is_invoke thread e h

-- if one thread made all invocations, no other thread made any
invokes_by_none : (thread other : ℕ) (seen : List Event) (numbers : List ℕ) → (thread ≡ other → ⊥) → All (λ index. IsAt seen index (IsBy thread)) numbers → invokes_by other seen numbers ≡ []
invokes_by_none thread other seen numbers n h =
    filter_none (λ index. is_invoke_by other (at_number index seen)) numbers
    (All-weaker (λ index. IsAt seen index (IsBy thread)) (λ index. is_invoke_by other (at_number index seen) ≡ false) (λ index k. ap (is_invoke_by other) k.there ∙ not_by_other thread other k.event n k.is) numbers h)

pub by_grow : (thread : ℕ) (seen more : List Event) (numbers : List ℕ) → IsPrefix seen more → All (There seen) numbers → invokes_by thread more numbers ≡ invokes_by thread seen numbers
by_grow thread seen more numbers p h =
    filter_same (λ index. is_invoke_by thread (at_number index more)) (λ index. is_invoke_by thread (at_number index seen)) numbers
    (All-weaker (There seen) (λ index. is_invoke_by thread (at_number index more) ≡ is_invoke_by thread (at_number index seen)) (λ index t. ap (is_invoke_by thread) (same_event seen more index p t)) numbers h)

by_both : (thread : ℕ) (u v w : DeskView) (ps qs : List ℕ) → Grows u v ps → Grows v w qs → length (invokes_by thread w.seen (ps ++ qs)) ≡ length (invokes_by thread v.seen ps) + length (invokes_by thread w.seen qs)
by_both thread u v w ps qs g h =
    omega (arith, ap length (filter-append (λ index. is_invoke_by thread (at_number index w.seen)) ps qs), length-append (invokes_by thread w.seen ps) (invokes_by thread w.seen qs), ap length (by_grow thread v.seen w.seen ps h.seen g.there))

-- ---- upper bounds on what all workers gained

-- upper bounds for what was added through a seat: invocations by each thread, all invocations, and arrivals
pub record Counts (old new : DeskView) (by : ℕ → ℕ) (calls frames : ℕ) : Type 0 where
  pub numbers : List ℕ
  pub grows : Grows old new numbers
  pub invoked : (thread : ℕ) → length (invokes_by thread new.seen numbers) ≤ by thread
  pub invoked_in_all : length (invokes_at new.seen numbers) ≤ calls
  pub arrived : length (frames_at new.seen numbers) ≤ frames

-- this number for one thread, and 0 for every other
abbrev pub only_of : ℕ → ℕ → ℕ → ℕ
only_of thread calls other = if thread == other then calls else 0

pub counts_none : (v : DeskView) → Counts v v (λ t. 0) 0 0
counts_none v = record { numbers = []; grows = grows_none v; invoked = λ t. omega arith; invoked_in_all = omega arith; arrived = omega arith }

pub counts_more : (u v w : DeskView) (f g : ℕ → ℕ) (m n a b : ℕ) → Counts u v f m a → Counts v w g n b → Counts u w (λ t. f t + g t) (m + n) (a + b)
counts_more u v w f g m n a b h k = record {
  numbers = h.numbers ++ k.numbers;
  grows = grows_more u v w h.numbers k.numbers h.grows k.grows;
  invoked = λ t. let x = h.invoked t in let y = k.invoked t in omega (arith, by_both t u v w h.numbers k.numbers h.grows k.grows);
  invoked_in_all = let x = h.invoked_in_all in let y = k.invoked_in_all in omega (arith, invokes_both u v w h.numbers k.numbers h.grows k.grows);
  arrived = let x = h.arrived in let y = k.arrived in omega (arith, frames_both u v w h.numbers k.numbers h.grows k.grows);
}

pub counts_same : (v u w : DeskView) (f : ℕ → ℕ) (m a : ℕ) → Same 0 v u → Counts u w f m a → Counts v w f m a
counts_same v u w f m a s c = record {
  numbers = c.numbers;
  grows = record {
    seen = subst (λ seen. IsPrefix seen w.seen) s.0 c.grows.seen;
    made = c.grows.made ∙ ap (λ (l : List ℕ). l ++ c.numbers) s.1;
    there = c.grows.there;
  };
  invoked = c.invoked;
  invoked_in_all = c.invoked_in_all;
  arrived = c.arrived;
}

pub at_most_same : (v u w : DeskView) (m f : ℕ) → Same 0 v u → GainsAtMost u w m f → GainsAtMost v w m f
at_most_same v u w m f s g = record {
  numbers = g.numbers;
  grows = record {
    seen = subst (λ seen. IsPrefix seen w.seen) s.0 g.grows.seen;
    made = g.grows.made ∙ ap (λ (l : List ℕ). l ++ g.numbers) s.1;
    there = g.grows.there;
  };
  invoked = g.invoked;
  arrived = g.arrived;
}

-- what a worker's seat gained goes to the seat into which it is joined
pub joins_counts : (s o v w : DeskView) (thread calls frames : ℕ) → s.made ≡ [] → Joins v o w → GainsAtMost s o calls frames → All (λ index. IsAt o.seen index (IsBy thread)) o.made → Counts v w (only_of thread calls) calls frames
joins_counts s o v w thread calls frames none j g by = record {
  numbers = g.numbers;
  grows = record {
    seen = j.seen;
    made = j.made ∙ ap (λ (m : List ℕ). v.made ++ m) own;
    there = all_there_grow o.seen w.seen g.numbers j.other_seen g.grows.there;
  };
  invoked = λ t. by_position t (same_or_other thread t);
  invoked_in_all = let i = g.invoked in omega (arith, ap length (invokes_grow o.seen w.seen g.numbers j.other_seen g.grows.there));
  arrived = let a = g.arrived in omega (arith, ap length (frames_grow o.seen w.seen g.numbers j.other_seen g.grows.there));
}
  where
    own : o.made ≡ g.numbers
    own = g.grows.made ∙ ap (λ (m : List ℕ). m ++ g.numbers) none

    by_position : (t : ℕ) → (thread ≡ t) ⊎ (thread ≡ t → ⊥) → length (invokes_by t w.seen g.numbers) ≤ only_of thread calls t
    by_position t (inl e) =
        let few = invokes_by_few t o.seen g.numbers in
        let i = g.invoked in
        let is : only_of thread calls t ≡ calls = subst (λ k. only_of thread calls k ≡ calls) e (if_same thread calls 0) in
        omega (arith, is, ap length (by_grow t o.seen w.seen g.numbers j.other_seen g.grows.there))
    by_position t (inr n) =
        let has = subst (λ (l : List ℕ). All (λ index. IsAt o.seen index (IsBy thread)) l) own by in
        omega (arith, ap length (by_grow t o.seen w.seen g.numbers j.other_seen g.grows.there), ap length (invokes_by_none thread t o.seen g.numbers n has))
