-- Journals have only the invocations and arrivals that were asked for: a count by event numbers.
use Rattle.std.proofs.Common.{◌≡◌, inl, inr, ℕ, zero, suc, ◌+◌, ◌<◌, ◌≤◌, ◌==◌, if◌then◌else◌, is_some, Bool, true, false, Option, Some, None, List, [], ◌∷◌, ◌++◌, filter, length, map, slice_get, refl, sym, ap, ◌∙◌, subst, arith, eqb-true, eq-eqb}
use Rattle.std.specs.Prelude.{Contains}
use Rattle.std.specs.List.{AllByRecursion}
use Rattle.std.proofs.lemmas.Option.{slice_get_within}
use Rattle.app_threads.specs.Workers.{frame_of, frames_at, invokes_at, is_invoke}
use Rattle.app_threads.specs.Workers.{invokes_of, invokes_of_all}
use Rattle.desk_like.specs.Desks.{Accounts, DeskView, IsAlone, IsAt, IsArrive, IsInvoke, IsRisingFrom}
use Rattle.nook_data.specs.declared.steps.Event.{Event}
use Rattle.nook_data.specs.declared.steps.Event.TheVariants as event
use Rattle.nook_data.specs.declared.calls.Op.{Op}
use Rattle.nook_data.specs.declared.scenario.PartSpec.{PartSpec}
use Rattle.nook_data.specs.declared.desks.Receipt.{Receipt}
use Rattle.nook_data.specs.declared.scenario.ThreadSpec.{ThreadSpec}
use Rattle.nook_data.specs.Numbered.{at_number}
use Rattle.part_laws.proofs.Indices.{some_same, split}
use Rattle.threaded_run.proofs.Numbered.{Has, IsFoundAt, all_after, has_append, has_contained, has_filter, has_held, kept_here, left_out, positions_all, positions_few}
use Rattle.threaded_run.specs.Leaving.{HaveRows}
use Rattle.part_laws.specs.Bound.{is_arrival}
use Rattle.threaded_run.specs.Others.{HasNoOthers, HaveNoOthers, is_invocation_by, operations_on}
use Rattle.threaded_run.specs.Threaded.{ArriveAt, HasArrivals, HaveReceipts, invoked_on, journal_at}
use Rattle.nook_data.proofs.Options.{none_is_some}

-- ---- one event

invoke_passes : (call thread : ℕ) (o : Op) (e : Event) → IsInvoke call thread o e → is_invocation_by thread e ≡ true
invoke_passes call thread o (event.Invoke c t x a) h = eq-eqb t thread h.1
invoke_passes call thread o (event.Enter c t attempt a) h = absurd h
invoke_passes call thread o (event.Burst context c burst count end acts a failure) h = absurd h
invoke_passes call thread o (event.Stage stage answers released) h = absurd h
invoke_passes call thread o (event.Arrive frame kept) h = absurd h

arrive_passes : (frame : List ℕ) (kept : Bool) (e : Event) → IsArrive frame kept e → is_arrival e ≡ true
arrive_passes frame kept (event.Invoke c t x a) h = absurd h
arrive_passes frame kept (event.Enter c t attempt a) h = absurd h
arrive_passes frame kept (event.Burst context c burst count end acts a failure) h = absurd h
arrive_passes frame kept (event.Stage stage answers released) h = absurd h
arrive_passes frame kept (event.Arrive f k) h = refl

false_is : {G : Type 0} → false ≡ true → G
false_is h = cc

-- an event is an invocation by at most one thread
one_thread : (a b : ℕ) (e : Event) → is_invocation_by a e ≡ true → is_invocation_by b e ≡ true → a ≡ b
one_thread a b (event.Invoke c t x r) h k = sym (eqb-true t a h) ∙ eqb-true t b k
one_thread a b (event.Enter c t attempt r) h k = false_is h
one_thread a b (event.Burst context c burst count end acts r failure) h k = false_is h
one_thread a b (event.Stage stage answers released) h k = false_is h
one_thread a b (event.Arrive f kept) h k = false_is h

pub invocation_found : (a : ℕ) (e : Event) → is_invocation_by a e ≡ true → is_invoke (Some e) ≡ true
invocation_found a (event.Invoke c t x r) h = refl
invocation_found a (event.Enter c t attempt r) h = false_is h
invocation_found a (event.Burst context c burst count end acts r failure) h = false_is h
invocation_found a (event.Stage stage answers released) h = false_is h
invocation_found a (event.Arrive f kept) h = false_is h

pub arrival_found : (e : Event) → is_arrival e ≡ true → is_some (frame_of (Some e)) ≡ true
arrival_found (event.Invoke c t x r) h = false_is h
arrival_found (event.Enter c t attempt r) h = false_is h
arrival_found (event.Burst context c burst count end acts r failure) h = false_is h
arrival_found (event.Stage stage answers released) h = false_is h
arrival_found (event.Arrive f kept) h = refl

-- ---- the event numbers of receipts and of frames

pub if_true : {X : Type 0} (b : Bool) (x y : X) → b ≡ true → (if b then x else y) ≡ x
if_true b x y h = rw h refl

pub if_false : {X : Type 0} (b : Bool) (x y : X) → b ≡ false → (if b then x else y) ≡ y
if_false b x y h = rw h refl

abbrev on : ℕ → ℕ × Op → Bool
on part o = o.0 == part

-- a script's operations on a part have as many invocations, by their numbers
ops_numbered : (journals : List (List Event)) (part thread : ℕ) (ops : List (ℕ × Op)) (receipts : List Receipt) → HaveReceipts journals thread ops receipts
    → AllByRecursion (IsFoundAt (is_invocation_by thread) (journal_at journals part)) (invoked_on part ops receipts)
    × (length (invoked_on part ops receipts) ≡ length (filter (on part) ops))
ops_numbered journals part thread [] [] h = (tt, refl)
ops_numbered journals part thread [] (r ∷ receipts) h = absurd h
ops_numbered journals part thread (o ∷ ops) [] h = absurd h
ops_numbered journals part thread ((p, op) ∷ ops) (r ∷ receipts) h =
    let more = ops_numbered journals part thread ops receipts h.1 in
    let P : ℕ → Type 0 = IsFoundAt (is_invocation_by thread) (journal_at journals part) in
    split (p == part)
    (λ e.
    let at : IsAt (journal_at journals p) r.at_invoke (λ x. is_invocation_by thread x ≡ true) = record {
      event = h.0.invoked.event;
      there = h.0.invoked.there;
      is = invoke_passes r.call thread op h.0.invoked.event h.0.invoked.is;
    } in
    let here : P r.at_invoke = subst (λ (k : ℕ). IsFoundAt (is_invocation_by thread) (journal_at journals k) r.at_invoke) (eqb-true p part e) at in
    let numbers = if_true (p == part) (r.at_invoke ∷ invoked_on part ops receipts) (invoked_on part ops receipts) e in (
      subst (AllByRecursion P) (sym numbers) (here, more.0),
      ap length numbers ∙ ap suc more.1 ∙ sym (ap length (kept_here (on part) (p, op) ops e)),
    ))
    (λ e.
    let numbers = if_false (p == part) (r.at_invoke ∷ invoked_on part ops receipts) (invoked_on part ops receipts) e in (
      subst (AllByRecursion P) (sym numbers) more.0,
      ap length numbers ∙ more.1 ∙ sym (ap length (left_out (on part) (p, op) ops e)),
    ))

pub frames_numbered : (journal : List Event) (frames : List (List ℕ)) (numbers : List ℕ) → ArriveAt journal frames numbers
    → AllByRecursion (IsFoundAt is_arrival journal) numbers × (length numbers ≡ length frames)
frames_numbered journal [] [] h = (tt, refl)
frames_numbered journal [] (position ∷ numbers) h = absurd h
frames_numbered journal (frame ∷ frames) [] h = absurd h
frames_numbered journal (frame ∷ frames) (position ∷ numbers) h =
    let more = frames_numbered journal frames numbers h.1 in
    ((record { event = h.0.1.event; there = h.0.1.there; is = arrive_passes frame h.0.0 h.0.1.event h.0.1.is }, more.0), ap suc more.1)

pub invoked_same : (part : ℕ) (ops : List (ℕ × Op)) (receipts : List Receipt) → invokes_of part ops receipts ≡ invoked_on part ops receipts
invoked_same part [] receipts = refl
invoked_same part (o ∷ ops) [] = refl
invoked_same part ((p, op) ∷ ops) (receipt ∷ receipts) = rw (invoked_same part ops receipts) refl

-- ---- the rows of receipts

-- the thread with this index, if the first has the number n, with its row
record HasRowFrom (seens : List (List Event)) (n : ℕ) (threads : List ThreadSpec) (rows : List (List Receipt)) (k : ℕ) : Type 0 where
  script : ThreadSpec
  row : List Receipt
  script_there : slice_get threads k ≡ Some script
  row_there : slice_get rows k ≡ Some row
  have : HaveReceipts seens (n + k) script.ops row
  rising : (part : ℕ) → IsRisingFrom 0 (invoked_on part script.ops row)

later_row : (seens : List (List Event)) (n : ℕ) (t : ThreadSpec) (threads : List ThreadSpec) (row : List Receipt) (rows : List (List Receipt)) (k : ℕ)
    → HasRowFrom seens (suc n) threads rows k → HasRowFrom seens n (t ∷ threads) (row ∷ rows) (suc k)
later_row seens n t threads row rows k h = record {
  script = h.script;
  row = h.row;
  script_there = h.script_there;
  row_there = h.row_there;
  have = subst (λ (m : ℕ). HaveReceipts seens m h.script.ops h.row) (next n k) h.have;
  rising = h.rising;
}
  where
    next : (n k : ℕ) → suc n + k ≡ n + suc k
    next n k = omega arith

first_row : (seens : List (List Event)) (n : ℕ) (t : ThreadSpec) (threads : List ThreadSpec) (row : List Receipt) (rows : List (List Receipt))
    → HaveReceipts seens n t.ops row × ((part : ℕ) → IsRisingFrom 0 (invoked_on part t.ops row)) → HasRowFrom seens n (t ∷ threads) (row ∷ rows) 0
first_row seens n t threads row rows h = record {
  script = t;
  row = row;
  script_there = refl;
  row_there = refl;
  have = subst (λ (m : ℕ). HaveReceipts seens m t.ops row) (plus n) h.0;
  rising = h.1;
}
  where
    plus : (n : ℕ) → n ≡ n + 0
    plus n = omega arith

row_from : (seens : List (List Event)) (n : ℕ) (threads : List ThreadSpec) (rows : List (List Receipt)) (k : ℕ) (t : ThreadSpec) → HaveRows seens n threads rows
    → slice_get threads k ≡ Some t → HasRowFrom seens n threads rows k
row_from seens n [] [] k t h at = none_is_some at
row_from seens n [] (row ∷ rows) k t h at = absurd h
row_from seens n (x ∷ threads) [] k t h at = absurd h
row_from seens n (x ∷ threads) (row ∷ rows) zero t h at = first_row seens n x threads row rows h.0
row_from seens n (x ∷ threads) (row ∷ rows) (suc k) t h at = later_row seens n x threads row rows k (row_from seens (suc n) threads rows k t h.1 at)

-- a row that has this event number
record HasNumber (seens : List (List Event)) (n : ℕ) (threads : List ThreadSpec) (rows : List (List Receipt)) (part position : ℕ) : Type 0 where
  number : ℕ
  of_row : HasRowFrom seens n threads rows number
  has : Has position (invoked_on part of_row.script.ops of_row.row)

position_from : (seens : List (List Event)) (n : ℕ) (threads : List ThreadSpec) (rows : List (List Receipt)) (part position : ℕ) → HaveRows seens n threads rows
    → Has position (invokes_of_all part threads rows) → HasNumber seens n threads rows part position
unfolding first_row later_row
position_from seens n [] [] part position h has = absurd has
position_from seens n [] (row ∷ rows) part position h has = absurd has
position_from seens n (x ∷ threads) [] part position h has = absurd has
position_from seens n (x ∷ threads) (row ∷ rows) part position h has = elim (has_append position (invokes_of part x.ops row) (invokes_of_all part threads rows) has) [
  | inl a ↦ record { number = 0; of_row = first_row seens n x threads row rows h.0; has = subst (Has position) (invoked_same part x.ops row) a }
  | inr b ↦
      let more = position_from seens (suc n) threads rows part position h.1 b in
      record { number = suc more.number; of_row = later_row seens n x threads row rows more.number more.of_row; has = more.has }
]

-- ---- a seat that added all that it has seen

-- these numbers include that of every event that it has seen
abbrev pub AddedAll : DeskView → List ℕ → Type 0
AddedAll view numbers = (position : ℕ) → 0 < position → position ≤ length view.seen → Has position numbers

pub position_there : (seen : List Event) (position : ℕ) (e : Event) → at_number position seen ≡ Some e → position ≤ length seen
position_there seen zero e h = omega arith
position_there seen (suc position) e h = let within : position < length seen = slice_get_within seen position e h in omega arith

-- a seat that is alone, and through which only these events were added, added all that it has seen
pub added_all : (old new : DeskView) (numbers : List ℕ) → old.made ≡ [] → new.made ≡ old.made ++ numbers → Accounts new → IsAlone new → AddedAll new numbers
added_all old new numbers none made accounts alone position low high =
    let c : Contains new.made position = accounts.all alone position low high in
    let made' : new.made ≡ numbers = made ∙ ap (λ (xs : List ℕ). xs ++ numbers) none in
    subst (Has position) made' (has_contained position new.made c.0 c.1 c.2)

-- if the number of every event that passes one test passes another test, no more events pass than numbers do
pub counted_within : (view : DeskView) (numbers : List ℕ) (test : Event → Bool) (found : ℕ → Bool) → AddedAll view numbers
    → ((e : Event) (position : ℕ) → at_number position view.seen ≡ Some e → test e ≡ true → found position ≡ true)
    → length (filter test view.seen) ≤ length (filter found numbers)
counted_within view numbers test found whole agree =
    positions_all test view.seen (filter found numbers)
    (λ position low at. has_filter found position numbers (whole position low (position_there view.seen position at.event at.there)) (agree at.event position at.there at.is))

pub frames_counted : (seen : List Event) (numbers : List ℕ) → length (filter (λ p. is_some (frame_of (at_number p seen))) numbers) ≡ length (frames_at seen numbers)
frames_counted seen [] = refl
frames_counted seen (position ∷ numbers) = by_frame (frame_of (at_number position seen)) refl (frames_counted seen numbers)
  where
    by_frame : (o : Option (List ℕ)) → frame_of (at_number position seen) ≡ o
        → length (filter (λ p. is_some (frame_of (at_number p seen))) numbers) ≡ length (frames_at seen numbers)
        → length (filter (λ p. is_some (frame_of (at_number p seen))) (position ∷ numbers)) ≡ length (frames_at seen (position ∷ numbers))
    by_frame None e more = rw e more
    by_frame (Some frame) e more = rw e (ap suc more)

both_ways : (a b : ℕ) → a ≤ b → b ≤ a → a ≡ b
both_ways a b h k = omega arith

none_counted : (n : ℕ) → n ≤ 0 → n ≡ 0
none_counted n h = omega arith

zero_plus : (n : ℕ) → 0 + n ≡ n
zero_plus n = omega arith

module _ (view : DeskView) (numbers : List ℕ) (whole : AddedAll view numbers) where
  -- there are no arrivals other than these frames
  arrivals_counted : (frames : List (List ℕ)) → frames_at view.seen numbers ≡ frames → HasArrivals view.seen frames
      → length (filter is_arrival view.seen) ≡ length frames
  arrivals_counted frames same h =
      let most : length (filter is_arrival view.seen) ≤ length (filter (λ p. is_some (frame_of (at_number p view.seen))) numbers) =
      counted_within view numbers is_arrival (λ p. is_some (frame_of (at_number p view.seen))) whole
      (λ e position at passes. subst (λ o. is_some (frame_of o) ≡ true) (sym at) (arrival_found e passes)) in
      let few : length (filter (λ p. is_some (frame_of (at_number p view.seen))) numbers) ≡ length frames = frames_counted view.seen numbers ∙ ap length same in
      let indexed = frames_numbered view.seen frames h.numbers h.arrive in
      let least : length h.numbers ≤ length (filter is_arrival view.seen) =
      positions_few is_arrival view.seen 0 view.seen h.numbers (all_after view.seen) h.rising indexed.0 in
      let size : length h.numbers ≡ length frames = indexed.1 in
      both_ways (length (filter is_arrival view.seen)) (length frames) (omega arith) (omega arith)

  module _ (seens : List (List Event)) (threads : List ThreadSpec) (rows : List (List Receipt)) (have : HaveRows seens 0 threads rows) (part : ℕ)
      (own : journal_at seens part ≡ view.seen) (invoked : invokes_at view.seen numbers ≡ invokes_of_all part threads rows) where
    -- an operation of this thread was invoked in the event with this number
    record HasThread (thread position : ℕ) : Type 0 where
      of_row : HasRowFrom seens 0 threads rows thread
      has : Has position (invoked_on part of_row.script.ops of_row.row)

    thread_has : (thread position : ℕ) → 0 < position → IsFoundAt (is_invocation_by thread) view.seen position → HasThread thread position
    thread_has thread position low at =
        let among : Has position (invokes_at view.seen numbers) =
        has_filter (λ p. is_invoke (at_number p view.seen)) position numbers (whole position low (position_there view.seen position at.event at.there))
        (subst (λ o. is_invoke o ≡ true) (sym at.there) (invocation_found thread at.event at.is)) in
        let h : HasNumber seens 0 threads rows part position = position_from seens 0 threads rows part position have (subst (Has position) invoked among) in
        let indexed = ops_numbered seens part (0 + h.number) h.of_row.script.ops h.of_row.row h.of_row.have in
        let other : IsFoundAt (is_invocation_by (0 + h.number)) (journal_at seens part) position =
        has_held (IsFoundAt (is_invocation_by (0 + h.number)) (journal_at seens part)) position (invoked_on part h.of_row.script.ops h.of_row.row) indexed.0 h.has in
        let event : other.event ≡ at.event = some_same other.event at.event (sym other.there ∙ ap (at_number position) own ∙ at.there) in
        let same : 0 + h.number ≡ thread =
        one_thread (0 + h.number) thread at.event (subst (λ e. is_invocation_by (0 + h.number) e ≡ true) event other.is) at.is in
        subst (λ (k : ℕ). HasThread k position) (sym (zero_plus h.number) ∙ same) record { of_row = h.of_row; has = h.has }

    -- a thread invoked exactly its operations
    thread_counted : (thread : ℕ) (t : ThreadSpec) → slice_get threads thread ≡ Some t → length (filter (is_invocation_by thread) view.seen) ≡ operations_on part (Some t)
    thread_counted thread t there =
        let r : HasRowFrom seens 0 threads rows thread = row_from seens 0 threads rows thread t have there in
        let ops : List (ℕ × Op) = r.script.ops in
        let mine : HaveReceipts seens thread ops r.row = subst (λ (k : ℕ). HaveReceipts seens k ops r.row) (zero_plus thread) r.have in
        let indexed = ops_numbered seens part thread ops r.row mine in
        let most : length (filter (is_invocation_by thread) view.seen) ≤ length (invoked_on part ops r.row) =
        positions_all (is_invocation_by thread) view.seen (invoked_on part ops r.row)
        (λ position low at.
        let h : HasThread thread position = thread_has thread position low at in
        let script : h.of_row.script ≡ r.script = some_same h.of_row.script r.script (sym h.of_row.script_there ∙ r.script_there) in
        let row : h.of_row.row ≡ r.row = some_same h.of_row.row r.row (sym h.of_row.row_there ∙ r.row_there) in
        subst (λ (x : ThreadSpec). Has position (invoked_on part x.ops r.row)) script
        (subst (λ (xs : List Receipt). Has position (invoked_on part h.of_row.script.ops xs)) row h.has)) in
        let least : length (invoked_on part ops r.row) ≤ length (filter (is_invocation_by thread) view.seen) =
        positions_few (is_invocation_by thread) view.seen 0 view.seen (invoked_on part ops r.row) (all_after view.seen) (r.rising part)
        (subst (λ (xs : List Event). AllByRecursion (IsFoundAt (is_invocation_by thread) xs) (invoked_on part ops r.row)) own indexed.0) in
        both_ways (length (filter (is_invocation_by thread) view.seen)) (length (invoked_on part ops r.row)) most least
        ∙ indexed.1
        ∙ ap (λ (x : ThreadSpec). length (filter (on part) x.ops)) (some_same r.script t (sym r.script_there ∙ there))

    -- each thread did, and no other thread invoked any operation
    pub has_no_others : (spec : PartSpec) → frames_at view.seen numbers ≡ spec.arrivals → HasArrivals view.seen spec.arrivals
        → HasNoOthers threads part spec view.seen
    has_no_others spec same arrived = record {
      invoked = λ thread. by_thread thread (slice_get threads thread) refl;
      arrived = arrivals_counted spec.arrivals same arrived;
    }
      where
        by_thread : (thread : ℕ) (o : Option ThreadSpec) → slice_get threads thread ≡ o
            → length (filter (is_invocation_by thread) view.seen) ≡ operations_on part (slice_get threads thread)
        by_thread thread None e =
            none_counted (length (filter (is_invocation_by thread) view.seen))
            (positions_all (is_invocation_by thread) view.seen [] (λ position low at. none_is_some (sym e ∙ (thread_has thread position low at).of_row.script_there)))
            ∙ sym (ap (operations_on part) e)
        by_thread thread (Some t) e = thread_counted thread t e ∙ sym (ap (operations_on part) e)

-- ---- all parts

pub no_others_from : (threads : List ThreadSpec) (position : ℕ) (parts : List PartSpec) (views : List DeskView) → length views ≡ length parts
    → ((d : ℕ) (spec : PartSpec) (view : DeskView) → slice_get parts d ≡ Some spec → slice_get views d ≡ Some view → HasNoOthers threads (position + d) spec view.seen)
    → HaveNoOthers threads position parts (map (λ v. v.seen) views)
no_others_from threads position [] [] l h = tt
no_others_from threads position [] (view ∷ views) l h = absurd (omega arith)
no_others_from threads position (spec ∷ parts) [] l h = absurd (omega arith)
no_others_from threads position (spec ∷ parts) (view ∷ views) l h = (
  subst (λ (n : ℕ). HasNoOthers threads n spec view.seen) (plus position) (h 0 spec view refl refl),
  no_others_from threads (suc position) parts views (omega arith)
      (λ d s v a b. subst (λ (n : ℕ). HasNoOthers threads n s v.seen) (next position d) (h (suc d) s v a b)),
)
  where
    plus : (n : ℕ) → n + 0 ≡ n
    plus n = omega arith

    next : (n d : ℕ) → n + suc d ≡ suc n + d
    next n d = omega arith
