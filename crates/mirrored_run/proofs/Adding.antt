-- The answers and the invocations in events that are added to what a side's seat has seen.
use Rattle.std.proofs.Common.{◌≡◌, ◌⊎◌, inl, inr, ℕ, suc, ◌≤◌, Option, Some, None, List, [], ◌∷◌, ◌++◌, length, refl, sym, ap, subst, ◌∙◌, arith, append-nil, length-append}
use Rattle.std.specs.List.{AllByRecursion}
use Rattle.nook_data.specs.declared.calls.Answer.{Answer}
use Rattle.nook_data.specs.declared.steps.Event.{Event}
use Rattle.nook_data.specs.declared.steps.Event.TheVariants as event
use Rattle.nook_data.specs.declared.calls.Op.{Op}
use Rattle.nook_data.specs.declared.classes.Class.TheVariants.{Block}
use Rattle.nook_data.specs.Classes.{static_check}
use Rattle.desk_like.specs.Desks.{DeskView, IsOther}
use Rattle.mirror_block.specs.Sides.{Invocation, IsAskedFor, IsServed, and_more, answers_gained, answers_given, first_answer, gained, invocations, or_later}
use Rattle.mirror_block.proofs.Gains.{gained_is}
use Rattle.mirrored_run.specs.Exchanges.{IsAsking}
use Rattle.threaded_run.specs.Leaving.{GoesOn}
use Rattle.mirrored_run.proofs.ClassRuns.{AreChecked, invoked_parts}

-- each call that is invoked in these events is answered in them
abbrev pub AllAnswered : List Event → Type 0
AllAnswered events = length (answers_given events) ≡ length (invocations events)

pub answers_fewer : (events : List Event) → length (answers_given events) ≤ length (invocations events)
answers_fewer [] = omega arith
answers_fewer (event.Invoke c t o a ∷ events) =
    let more = answers_fewer events in
    by_first (first_answer c (event.Invoke c t o a ∷ events)) more
  where
    by_first : (x : Option Answer) → length (answers_given events) ≤ length (invocations events) → length (and_more x (answers_given events)) ≤ suc (length (invocations events))
    by_first None more = omega arith
    by_first (Some b) more = omega arith
answers_fewer (event.Enter c t attempt a ∷ events) = answers_fewer events
answers_fewer (event.Burst context c burst count end acts a failure ∷ events) = answers_fewer events
answers_fewer (event.Stage s answers released ∷ events) = answers_fewer events
answers_fewer (event.Arrive frame kept ∷ events) = answers_fewer events

later_kept : (x y z : Option Answer) (b : Answer) → or_later x y ≡ Some b → (y ≡ Some b → z ≡ Some b) → or_later x z ≡ Some b
later_kept None y z b h f = f h
later_kept (Some a) y z b h f = h

-- the first answer stays the first
first_kept : (call : ℕ) (b : Answer) (xs ys : List Event) → first_answer call xs ≡ Some b → first_answer call (xs ++ ys) ≡ Some b
first_kept call b [] ys h = absurd cc
first_kept call b (e ∷ xs) ys h = later_kept _ (first_answer call xs) (first_answer call (xs ++ ys)) b h (first_kept call b xs ys)

pub given_parts : (xs ys : List Event) → AllAnswered xs → answers_given (xs ++ ys) ≡ answers_given xs ++ answers_given ys
given_parts [] ys all = refl
given_parts (event.Invoke c t o a ∷ xs) ys all = by_first (first_answer c (event.Invoke c t o a ∷ xs)) refl all (λ k. given_parts xs ys k)
  where
    by_first : (x : Option Answer) → first_answer c (event.Invoke c t o a ∷ xs) ≡ x → length (and_more x (answers_given xs)) ≡ suc (length (invocations xs))
        → (AllAnswered xs → answers_given (xs ++ ys) ≡ answers_given xs ++ answers_given ys)
        → answers_given (event.Invoke c t o a ∷ (xs ++ ys)) ≡ and_more (first_answer c (event.Invoke c t o a ∷ xs)) (answers_given xs) ++ answers_given ys
    by_first None h k rest = let few = answers_fewer xs in absurd (omega arith)
    by_first (Some b) h k rest =
        ap (λ (x : Option Answer). and_more x (answers_given (xs ++ ys))) (first_kept c b (event.Invoke c t o a ∷ xs) ys h)
        ∙ ap (λ (l : List Answer). b ∷ l) (rest (omega arith))
        ∙ sym (ap (λ (x : Option Answer). and_more x (answers_given xs) ++ answers_given ys) h)
given_parts (event.Enter c t attempt a ∷ xs) ys all = given_parts xs ys all
given_parts (event.Burst context c burst count end acts a failure ∷ xs) ys all = given_parts xs ys all
given_parts (event.Stage s answers released ∷ xs) ys all = given_parts xs ys all
given_parts (event.Arrive frame kept ∷ xs) ys all = given_parts xs ys all

pub answered_parts : (xs ys : List Event) → AllAnswered xs → AllAnswered ys → AllAnswered (xs ++ ys)
answered_parts xs ys h k =
    let g = length-append (answers_given xs) (answers_given ys) in
    let i = length-append (invocations xs) (invocations ys) in
    let same : length (answers_given xs ++ answers_given ys) ≡ length (invocations xs ++ invocations ys) = omega arith in
    ap (λ (l : List Answer). length l) (given_parts xs ys h) ∙ same ∙ ap (λ (l : List Invocation). length l) (sym (invoked_parts xs ys))

-- ---- events that invoke nothing

pub others_invoke : (events : List Event) → AllByRecursion IsOther events → invocations events ≡ []
others_invoke [] h = refl
others_invoke (event.Invoke c t o a ∷ events) h = absurd h.0
others_invoke (event.Enter c t attempt a ∷ events) h = others_invoke events h.1
others_invoke (event.Burst context c burst count end acts a failure ∷ events) h = others_invoke events h.1
others_invoke (event.Stage s answers released ∷ events) h = others_invoke events h.1
others_invoke (event.Arrive frame kept ∷ events) h = absurd h.0

pub others_given : (events : List Event) → AllByRecursion IsOther events → answers_given events ≡ []
others_given [] h = refl
others_given (event.Invoke c t o a ∷ events) h = absurd h.0
others_given (event.Enter c t attempt a ∷ events) h = others_given events h.1
others_given (event.Burst context c burst count end acts a failure ∷ events) h = others_given events h.1
others_given (event.Stage s answers released ∷ events) h = others_given events h.1
others_given (event.Arrive frame kept ∷ events) h = absurd h.0

-- ---- what one operation adds to what a side has seen

-- an operation added these events
pub record Grows (old new : DeskView) (o : Op) (more : List Event) : Type 0 where
  pub seen : old.seen ++ more ≡ new.seen
  pub given : answers_given more ≡ answers_gained old new
  pub all : AllAnswered more
  pub asked : IsAsking o more (answers_given more)

pub grows : (old new : DeskView) (o : Op) → IsServed old new o → (more : List Event) × Grows old new o more
grows old new o h = by_answers (answers_gained old new) refl h
  where
    by_answers : (answers : List Answer) → answers_gained old new ≡ answers → IsAskedFor old new o answers → (more : List Event) × Grows old new o more
    by_answers [] e h = ([], record { seen = append-nil old.seen ∙ sym h.seen; given = sym e; all = refl; asked = refl })
    by_answers (a ∷ answers) e h =
        let more : List Event = h.seen.0 in
        let is : gained old new ≡ more = gained_is old new more h.seen.1 in
        let given : answers_given more ≡ answers_gained old new = ap answers_given (sym is) in
        let invoked : invocations more ≡ record { call = h.call; thread = 0; op = o } ∷ [] = ap invocations (sym is) ∙ h.invoked in
        let few = answers_fewer more in
        let one : length (invocations more) ≡ 1 = ap (λ (l : List Invocation). length l) invoked in
        let long : length (answers_given more) ≡ suc (length answers) = ap (λ (l : List Answer). length l) (given ∙ e) in (
          more,
          record {
            seen = h.seen.1;
            given = given;
            all = omega arith;
            asked = subst (IsAsking o more) (sym (given ∙ e)) (h.call, invoked);
          },
        )

-- a side was asked at most once
pub asked_once : (o : Op) (more : List Event) (answers : List Answer) → IsAsking o more answers → length (invocations more) ≤ 1
asked_once o more [] h = let none : length (invocations more) ≡ 0 = ap (λ (l : List Event). length (invocations l)) h in omega arith
asked_once o more (a ∷ answers) h = let one : length (invocations more) ≡ 1 = ap (λ (l : List Invocation). length l) h.1 in omega arith

-- if a side was asked, its call passed the static check
pub own_checked : (blocks : ℕ) (o : Op) (more : List Event) (answers : List Answer) → IsAsking o more answers → (static_check Block blocks o ≡ None) ⊎ (answers ≡ [])
    → AreChecked blocks (invocations more)
own_checked blocks o more [] h check = subst (λ (l : List Event). AreChecked blocks (invocations l)) (sym h) tt
own_checked blocks o more (a ∷ answers) h (inl c) = subst (AreChecked blocks) (sym h.1) (c, tt)
own_checked blocks o more (a ∷ answers) h (inr none) = absurd cc

-- a journal that continues what was seen, without an invocation, gives the same answers
pub same_given : (seen journal : List Event) → AllAnswered seen → GoesOn seen journal → answers_given journal ≡ answers_given seen
same_given seen journal all g =
    ap answers_given (sym g.begins) ∙ given_parts seen g.rest all ∙ ap (λ (l : List Answer). answers_given seen ++ l) (others_given g.rest g.others)
    ∙ append-nil (answers_given seen)
