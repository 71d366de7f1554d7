-- Calls by a worker's clock, and the order of a thread's operations by the stamps that its seats have seen.
use Rattle.std.proofs.Common.{◌≡◌, ◌⊎◌, ℕ, zero, suc, ◌<◌, ◌≤◌, nat_lt, None, Some, List, [], ◌∷◌, ◌++◌, map, length, get_or, slice_get, subst, sym, refl, ◌∙◌, inl, inr, arith}
use Rattle.std.specs.Prelude.{All, IfOk, Result, Ok, Err, slice_set}
use Rattle.std.proofs.lemmas.Bool.{cases_lt, cond_both, ltb-true, ltb-false}
use Rattle.std.proofs.lemmas.List.{append_cancel_left}
use Rattle.std.proofs.lemmas.List.Elements.{All-head}
use Rattle.std.proofs.lemmas.Option.{get_or_from_slice_get}
use mathlib.Core.List.{IsPrefix}
use Rattle.clocks.specs.Clocks.{last_of, latest}
use Rattle.nook_data.specs.declared.calls.Op.{Op}
use Rattle.nook_data.specs.declared.desks.DeskRefused.{DeskRefused}
use Rattle.nook_data.specs.declared.desks.DeskRefused.TheVariants as refused
use Rattle.nook_data.specs.declared.desks.Receipt.{Receipt}
use Rattle.nook_data.specs.declared.scenario.PartSpec.{PartSpec}
use Rattle.nook_data.specs.declared.scenario.ThreadSpec.{ThreadSpec}
use Rattle.desk_like.specs.Desks.{Adds, CallEnds, DeskView, Invokes, IsRisingFrom}
use Rattle.desk_like.specs.Stamps.{Clocked, Ticks, raised_view, stamp_at, stamp_of, stamps_on}
use Rattle.app_threads.specs.Order.{AllFollow, Follows, all_stamps}
use Rattle.app_threads.specs.Steps.{IsTimely, KeepsStamps}
use Rattle.app_threads.specs.Workers.{AtDesks}
use Rattle.app_threads.proofs.Grown.{position_within}
use Rattle.app_threads.proofs.Listed.{get_map, get_set_same, some_at}

-- ---- numbers

later_both : (a b : ℕ) → b ≤ latest a b
later_both a b = cond_both (nat_lt a b) b a (λ x. b ≤ x) (λ e. omega arith) (λ e. ltb-false a b e)

later_first : (a b : ℕ) → a ≤ latest a b
later_first a b = cond_both (nat_lt a b) b a (λ x. a ≤ x) (λ e. let l = ltb-true a b e in omega arith) (λ e. omega arith)

below_next : (a b c : ℕ) → a ≤ b → b < c → a < c
below_next a b c h k = omega arith

at_most_next : (a b c d : ℕ) → a ≤ b → b ≤ c → c ≤ d → a ≤ d
at_most_next a b c d h k l = omega arith

above_low : (low : ℕ) (xs : List ℕ) (q : ℕ) → IsRisingFrom low xs → q < length xs → low < get_or xs q 0
above_low low [] q h l = absurd (omega arith)
above_low low (x ∷ xs) zero h l = h.0
above_low low (x ∷ xs) (suc q) h l =
    let more : x < get_or xs q 0 = above_low x xs q h.1 (omega arith) in
    let first : low < x = h.0 in
    omega arith

-- in a rising list a later number is no smaller
numbers_rise : (low : ℕ) (xs : List ℕ) (p q : ℕ) → IsRisingFrom low xs → p ≤ q → q ≤ length xs → get_or (low ∷ xs) p 0 ≤ get_or (low ∷ xs) q 0
numbers_rise low xs zero zero h l m = omega arith
numbers_rise low xs (suc p) zero h l m = absurd (omega arith)
numbers_rise low xs zero (suc q) h l m = let more : low < get_or xs q 0 = above_low low xs q h (omega arith) in omega arith
numbers_rise low [] (suc p) (suc q) h l m = absurd (omega arith)
numbers_rise low (x ∷ xs) (suc p) (suc q) h l m = numbers_rise x xs p q h.1 (omega arith) (omega arith)

-- no number is larger than the last
most_is_last : (low : ℕ) (xs : List ℕ) (q : ℕ) → IsRisingFrom low xs → q < length xs → get_or xs q 0 ≤ last_of xs
most_is_last low [] q h l = absurd (omega arith)
most_is_last low (x ∷ []) zero h l = omega arith
most_is_last low (x ∷ []) (suc q) h l = absurd (omega arith)
most_is_last low (x ∷ (y ∷ xs)) zero h l =
    let more : y ≤ last_of (y ∷ xs) = most_is_last x (y ∷ xs) zero h.1 (omega arith) in
    let first : x < y = h.1.0 in
    omega arith
most_is_last low (x ∷ (y ∷ xs)) (suc q) h l = most_is_last x (y ∷ xs) q h.1 (omega arith)

stamp_at_most : (xs : List ℕ) (q : ℕ) → IsRisingFrom 0 xs → q ≤ length xs → stamp_of xs q ≤ last_of xs
stamp_at_most xs zero h l = omega arith
stamp_at_most xs (suc q) h l = most_is_last 0 xs q h (omega arith)

-- ---- a call between two settings of the clocks

adds_raised : (v w : DeskView) (c d : ℕ) (numbers : List ℕ) → Adds (raised_view v c) w numbers → Adds v (raised_view w d) numbers
adds_raised v w c d numbers a = record { seen = a.seen; made = a.made; rising = a.rising; share = a.share; own = a.own }

invokes_raised : (v w : DeskView) (c d call thread : ℕ) (op : Op) (at : ℕ) → Invokes (raised_view v c) w call thread op at → Invokes v (raised_view w d) call thread op at
invokes_raised v w c d call thread op at h = record {
  others = h.others;
  adds = adds_raised v w c d (at ∷ h.others) h.adds;
  invoked = h.invoked;
  rest = h.rest;
}

ends_raised : (spec : PartSpec) (v w : DeskView) (c d thread : ℕ) (op : Op) (e : Result Receipt DeskRefused) → CallEnds spec (raised_view v c) w thread op e → CallEnds spec v (raised_view w d) thread op e
ends_raised spec v w c d thread op (Ok r) h = (invokes_raised v w c d r.call thread op r.at_invoke h.0, h.1)
ends_raised spec v w c d thread op (Err (refused.NoMemory None)) h = adds_raised v w c d [] h
ends_raised spec v w c d thread op (Err (refused.NoMemory (Some call))) h = (h.0, (h.1.0, invokes_raised v w c d call thread op h.1.0 h.1.1))
ends_raised spec v w c d thread op (Err refused.TooManyCalls) h = (adds_raised v w c d [] h.0, h.1, h.2)
ends_raised spec v w c d thread op (Err (refused.OpenCall call)) h = (adds_raised v w c d [] h.0, h.1)
ends_raised spec v w c d thread op (Err refused.NoOpenCall) h = absurd h
ends_raised spec v w c d thread op (Err refused.TooManyArrivals) h = absurd h

timely_raised : (spec : PartSpec) (v w : DeskView) (c d thread : ℕ) (op : Op) (e : Result Receipt DeskRefused) → CallEnds spec (raised_view v c) w thread op e → Ticks (raised_view v c) w → Clocked w
    → IfOk e (λ r. IsTimely w.stamps r c (latest w.clock d))
timely_raised spec v w c d thread op (Err why) h t k = tt
timely_raised spec v w c d thread op (Ok r) h t k =
    let Later : ℕ → Type 0 = λ number. latest v.clock c < stamp_of w.stamps number in
    let numbers : t.numbers ≡ r.at_invoke ∷ h.0.others = append_cancel_left v.made t.numbers (r.at_invoke ∷ h.0.others) (sym t.made ∙ h.0.adds.made) in
    let first : Later r.at_invoke = All-head Later r.at_invoke h.0.others (subst (λ (ps : List ℕ). All Later ps) numbers t.later) in
    let within : r.at_reply ≤ length w.stamps = subst (λ n. r.at_reply ≤ n) (sym k.stamped.count) (position_within w.seen r.at_reply h.1.answered.event h.1.answered.there) in (
      below_next c (latest v.clock c) (stamp_of w.stamps r.at_invoke) (later_both v.clock c) first,
      numbers_rise 0 w.stamps r.at_invoke r.at_reply k.stamped.rising h.1.ordered within,
      at_most_next (stamp_of w.stamps r.at_reply) (last_of w.stamps) w.clock (latest w.clock d) (stamp_at_most w.stamps r.at_reply k.stamped.rising within) k.last (later_first w.clock d),
    )

-- the same if the clocks were set before the call and after it
module _ (spec : PartSpec) (old raised called new : DeskView) (before between thread : ℕ) (op : Op) (e : Result Receipt DeskRefused) (first : raised ≡ raised_view old before) (last : new ≡ raised_view called between) where
  pub call_ended : CallEnds spec raised called thread op e → CallEnds spec old new thread op e
  call_ended h = subst (λ (v : DeskView). CallEnds spec old v thread op e) (sym last) (ends_raised spec old called before between thread op e (subst (λ (v : DeskView). CallEnds spec v called thread op e) first h))

  pub call_keeps : Ticks raised called → IsPrefix old.stamps new.stamps
  call_keeps t = subst (λ (v : DeskView). IsPrefix old.stamps v.stamps) (sym last) (subst (λ (v : DeskView). Ticks v called) first t).stamps

  pub call_timely : (after : ℕ) → after ≡ new.clock → CallEnds spec raised called thread op e → Ticks raised called → Clocked called → IfOk e (λ r. IsTimely new.stamps r before after)
  call_timely after is h t k =
      subst (λ (n : ℕ). IfOk e (λ r. IsTimely new.stamps r before n)) (sym is)
      (subst (λ (v : DeskView). IfOk e (λ r. IsTimely v.stamps r before v.clock)) (sym last)
      (timely_raised spec old called before between thread op e (subst (λ (v : DeskView). CallEnds spec v called thread op e) first h) (subst (λ (v : DeskView). Ticks v called) first t) k))

-- ---- the stamps of each desk

stamps_there : (views : List DeskView) (part : ℕ) (v : DeskView) → slice_get views part ≡ Some v → stamps_on (all_stamps views) part ≡ v.stamps
stamps_there views part v h = get_or_from_slice_get (all_stamps views) part v.stamps [] (get_map (λ (u : DeskView). u.stamps) views part v h)

stamps_beyond : (views : List DeskView) (part : ℕ) → length views ≤ part → stamps_on (all_stamps views) part ≡ []
stamps_beyond [] part l = refl
stamps_beyond (v ∷ views) zero l = absurd (omega arith)
stamps_beyond (v ∷ views) (suc part) l = stamps_beyond views part (omega arith)

-- the seat after a step
pub timely_there : {S : Type 0} (view : S → DeskView) (seats : List S) (part : ℕ) (seat : S) (e : Result Receipt DeskRefused) (before after : ℕ) → part < length seats
    → IfOk e (λ r. IsTimely (view seat).stamps r before after) → IfOk e (λ r. IsTimely (stamps_on (all_stamps (map view (slice_set seats part seat))) part) r before after)
timely_there view seats part seat e before after l h =
    let old = some_at seats part l in
    let there = get_map view (slice_set seats part seat) part seat (get_set_same seats part old.0 seat old.1) in
    subst (λ (stamps : List ℕ). IfOk e (λ r. IsTimely stamps r before after)) (sym (stamps_there (map view (slice_set seats part seat)) part (view seat) there)) h

-- each list is a prefix of the other list with the same index
abbrev Begin : List (List ℕ) → List (List ℕ) → Type 0
Begin olds news = (part : ℕ) → IsPrefix (stamps_on olds part) (stamps_on news part)

views_begin : (olds news : List DeskView) → AtDesks KeepsStamps olds news → Begin (all_stamps olds) (all_stamps news)
views_begin olds news h part = by_length (cases_lt part (length olds))
  where
    by_length : (part < length olds) ⊎ (length olds ≤ part) → IsPrefix (stamps_on (all_stamps olds) part) (stamps_on (all_stamps news) part)
    by_length (inl l) =
        let v = some_at olds part l in
        let w = some_at news part (let n = h.0 in omega arith) in
        subst (λ (xs : List ℕ). IsPrefix xs (stamps_on (all_stamps news) part)) (sym (stamps_there olds part v.0 v.1))
        (subst (λ (ys : List ℕ). IsPrefix v.0.stamps ys) (sym (stamps_there news part w.0 w.1)) (h.1 part v.0 w.0 v.1 w.1))
    by_length (inr l) = subst (λ (xs : List ℕ). IsPrefix xs (stamps_on (all_stamps news) part)) (sym (stamps_beyond olds part l)) (stamps_on (all_stamps news) part, refl)

-- a number above 0 in a list stays if the list grows
number_stays : (xs more : List ℕ) (i : ℕ) → 0 < get_or xs i 0 → get_or (xs ++ more) i 0 ≡ get_or xs i 0
number_stays [] more i h = absurd (omega arith)
number_stays (x ∷ xs) more zero h = refl
number_stays (x ∷ xs) more (suc i) h = number_stays xs more i h

stamp_stays : (olds news : List (List ℕ)) (part number : ℕ) → Begin olds news → 0 < stamp_at olds part number → stamp_at news part number ≡ stamp_at olds part number
stamp_stays olds news part number b h =
    subst (λ (stamps : List ℕ). stamp_of stamps number ≡ stamp_at olds part number) (b part).1 (number_stays (0 ∷ stamps_on olds part) (b part).0 number h)

-- ---- the order of a thread's operations

-- `Follows`, and the last answer is no later than `until`
abbrev pub FollowsUntil : List (List ℕ) → ℕ → ℕ → List (ℕ × Op) → List Receipt → Type 0
FollowsUntil stamps last until [] [] = last ≤ until
FollowsUntil stamps last until ((part, op) ∷ ops) (receipt ∷ receipts) =
    (last < stamp_at stamps part receipt.at_invoke)
    × (stamp_at stamps part receipt.at_invoke ≤ stamp_at stamps part receipt.at_reply)
    × FollowsUntil stamps (stamp_at stamps part receipt.at_reply) until ops receipts
FollowsUntil stamps last until _ _ = ⊥

pub until_none : (stamps : List (List ℕ)) (until : ℕ) → FollowsUntil stamps 0 until [] []
until_none stamps until = omega arith

pub until_follows : (stamps : List (List ℕ)) (last until : ℕ) (ops : List (ℕ × Op)) (rs : List Receipt) → FollowsUntil stamps last until ops rs → Follows stamps last ops rs
until_follows stamps last until [] [] h = tt
until_follows stamps last until [] (r ∷ rs) h = absurd h
until_follows stamps last until (o ∷ ops) [] h = absurd h
until_follows stamps last until (o ∷ ops) (r ∷ rs) h = (h.0, h.1, until_follows stamps (stamp_at stamps o.0 r.at_reply) until ops rs h.2)

follows_until : (stamps : List (List ℕ)) (last : ℕ) (ops : List (ℕ × Op)) (rs : List Receipt) → Follows stamps last ops rs → (until : ℕ) × FollowsUntil stamps last until ops rs
follows_until stamps last [] [] h = (last, omega arith)
follows_until stamps last [] (r ∷ rs) h = absurd h
follows_until stamps last (o ∷ ops) [] h = absurd h
follows_until stamps last (o ∷ ops) (r ∷ rs) h = let k = follows_until stamps (stamp_at stamps o.0 r.at_reply) ops rs h.2 in (k.0, (h.0, h.1, k.1))

until_grows : (olds news : List (List ℕ)) (last until : ℕ) (ops : List (ℕ × Op)) (rs : List Receipt) → Begin olds news → FollowsUntil olds last until ops rs → FollowsUntil news last until ops rs
until_grows olds news last until [] [] b h = h
until_grows olds news last until [] (r ∷ rs) b h = absurd h
until_grows olds news last until (o ∷ ops) [] b h = absurd h
until_grows olds news last until (o ∷ ops) (r ∷ rs) b h =
    let first : last < stamp_at olds o.0 r.at_invoke = h.0 in
    let second : stamp_at olds o.0 r.at_invoke ≤ stamp_at olds o.0 r.at_reply = h.1 in
    let invoke = stamp_stays olds news o.0 r.at_invoke b (above last (stamp_at olds o.0 r.at_invoke) first) in
    let reply = stamp_stays olds news o.0 r.at_reply b (above last (stamp_at olds o.0 r.at_reply) (less last (stamp_at olds o.0 r.at_invoke) (stamp_at olds o.0 r.at_reply) first second)) in (
      subst (λ (n : ℕ). last < n) (sym invoke) first,
      subst (λ (n : ℕ). n ≤ stamp_at news o.0 r.at_reply) (sym invoke) (subst (λ (n : ℕ). stamp_at olds o.0 r.at_invoke ≤ n) (sym reply) second),
      subst (λ (n : ℕ). FollowsUntil news n until ops rs) (sym reply) (until_grows olds news (stamp_at olds o.0 r.at_reply) until ops rs b h.2),
    )
  where
    above : (a b : ℕ) → a < b → 0 < b
    above a b l = omega arith

    less : (a b c : ℕ) → a < b → b ≤ c → a < c
    less a b c l m = omega arith

until_push : (stamps : List (List ℕ)) (last before after part : ℕ) (op : Op) (r : Receipt) (ops : List (ℕ × Op)) (rs : List Receipt) → IsTimely (stamps_on stamps part) r before after
    → FollowsUntil stamps last before ops rs → FollowsUntil stamps last after (ops ++ (part, op) ∷ []) (rs ++ r ∷ [])
until_push stamps last before after part op r [] [] t h = (below_next last before (stamp_at stamps part r.at_invoke) h t.0, t.1, t.2)
until_push stamps last before after part op r [] (q ∷ rs) t h = absurd h
until_push stamps last before after part op r (o ∷ ops) [] t h = absurd h
until_push stamps last before after part op r (o ∷ ops) (q ∷ rs) t h = (h.0, h.1, until_push stamps (stamp_at stamps o.0 q.at_reply) before after part op r ops rs t h.2)

-- one more operation of a script
pub until_more : (mids news : List DeskView) (before after part : ℕ) (op : Op) (r : Receipt) (ops : List (ℕ × Op)) (rs : List Receipt) → AtDesks KeepsStamps mids news
    → IsTimely (stamps_on (all_stamps news) part) r before after → FollowsUntil (all_stamps mids) 0 before ops rs → FollowsUntil (all_stamps news) 0 after (ops ++ (part, op) ∷ []) (rs ++ r ∷ [])
until_more mids news before after part op r ops rs keeps t h =
    until_push (all_stamps news) 0 before after part op r ops rs t (until_grows (all_stamps mids) (all_stamps news) 0 before ops rs (views_begin mids news keeps) h)

-- the order is preserved if stamps are only added
pub follows_grow : (olds news : List DeskView) (ops : List (ℕ × Op)) (rs : List Receipt) → AtDesks KeepsStamps olds news → Follows (all_stamps olds) 0 ops rs → Follows (all_stamps news) 0 ops rs
follows_grow olds news ops rs keeps h =
    let k = follows_until (all_stamps olds) 0 ops rs h in
    until_follows (all_stamps news) 0 k.0 ops rs (until_grows (all_stamps olds) (all_stamps news) 0 k.0 ops rs (views_begin olds news keeps) k.1)

pub rows_follow : (stamps : List (List ℕ)) (scripts : List ThreadSpec) (rows : List (List Receipt)) → length rows ≡ length scripts
    → ((t : ℕ) (s : ThreadSpec) (row : List Receipt) → slice_get scripts t ≡ Some s → slice_get rows t ≡ Some row → Follows stamps 0 s.ops row) → AllFollow stamps scripts rows
rows_follow stamps [] [] n f = tt
rows_follow stamps [] (row ∷ rows) n f = absurd (omega arith)
rows_follow stamps (s ∷ scripts) [] n f = absurd (omega arith)
rows_follow stamps (s ∷ scripts) (row ∷ rows) n f = (f 0 s row refl refl, rows_follow stamps scripts rows (omega arith) (λ t x y a b. f (suc t) x y a b))
