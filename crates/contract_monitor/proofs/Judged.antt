-- The smallest clause that deeds break is found deed by deed.
use Rattle.std.proofs.Common.{◌≡◌, ◌==◌, ◌&&◌, ◌||◌, ℕ, zero, suc, Bool, true, false, not, cond, if◌then◌else◌, nat_lt, List, [], ◌∷◌, ◌++◌, Option, Some, None, refl, sym, ap, ap₂, ◌∙◌, arith}
use Rattle.std.specs.List.{find}
use Rattle.std.proofs.lemmas.Bool.Decides.{nat_tests}
use Rattle.nook_data.specs.declared.machine.Act.{Act}
use Rattle.nook_data.specs.declared.machine.Act.TheVariants as act
use Rattle.nook_data.specs.declared.calls.Answer.{Answer}
use Rattle.nook_data.specs.declared.calls.Answer.TheVariants as answer
use Rattle.nook_data.specs.declared.calls.Op.{Op}
use Rattle.nook_data.specs.declared.calls.Op.TheVariants.{Read, Write, Send, Recv, Open, Play, Close, Get, Set}
use Rattle.nook_data.specs.declared.clause.Clause.{Clause}
use Rattle.nook_data.specs.declared.clause.Clause.TheVariants.{UnsentSend, OutOfOrder, LeftInRing, UnmadeSet}
use Rattle.promise_defs.specs.Contract.{Deed, Known, OpenCall, acts, after_deed, breaks, call_of, hands_up}
use Rattle.promise_defs.specs.Contract.{is_broken_by, is_front, is_replayed, replays, replies}
use Rattle.nook_data.specs.Clauses.{all_clauses, clause_number}
use Rattle.nook_data.specs.Frames.{is_empty}
use Rattle.promise_defs.proofs.PromiseChanges.{after_deeds}
use Rattle.contract_monitor.specs.Judging.{act_broken, first_broken, least, reply_broken, reply_broken_of, smaller, unless}

-- ---- clauses in the order of their numbers

abbrev above : ℕ → List Clause → Bool
above n [] = true
above n (c ∷ cs) = nat_lt n (clause_number c) && above n cs

abbrev is_rising : List Clause → Bool
is_rising [] = true
is_rising (c ∷ cs) = above (clause_number c) cs && is_rising cs

left_true : (a b : Bool) → a && b ≡ true → a ≡ true
left_true true b h = refl
left_true false b h = h

right_true : (a b : Bool) → a && b ≡ true → b ≡ true
right_true true b h = h
right_true false b h = absurd cc

not_both : (m n : ℕ) → nat_lt m n ≡ true → nat_lt n m ≡ false
not_both m n h = grind (arith, nat_tests)

not_self : (n : ℕ) → nat_lt n n ≡ false
not_self n = grind (arith, nat_tests)

before_one : (b : Bool) (c d : Clause) (y : Option Clause) → nat_lt (clause_number c) (clause_number d) ≡ true → smaller (Some c) y ≡ Some c
    → smaller (Some c) (cond b (Some d) y) ≡ Some c
before_one true c d y h e = rw (not_both (clause_number c) (clause_number d) h) refl
before_one false c d y h e = e

before : (q : Clause → Bool) (c : Clause) (cs : List Clause) → above (clause_number c) cs ≡ true → smaller (Some c) (find q cs) ≡ Some c
before q c [] h = refl
before q c (d ∷ cs) h =
    before_one (q d) c d (find q cs) (left_true (nat_lt (clause_number c) (clause_number d)) (above (clause_number c) cs) h)
    (before q c cs (right_true (nat_lt (clause_number c) (clause_number d)) (above (clause_number c) cs) h))

beyond_one : (b : Bool) (c d : Clause) (x : Option Clause) → nat_lt (clause_number c) (clause_number d) ≡ true → smaller x (Some c) ≡ Some c
    → smaller (cond b (Some d) x) (Some c) ≡ Some c
beyond_one true c d x h e = rw h refl
beyond_one false c d x h e = e

beyond : (p : Clause → Bool) (c : Clause) (cs : List Clause) → above (clause_number c) cs ≡ true → smaller (find p cs) (Some c) ≡ Some c
beyond p c [] h = refl
beyond p c (d ∷ cs) h =
    beyond_one (p d) c d (find p cs) (left_true (nat_lt (clause_number c) (clause_number d)) (above (clause_number c) cs) h)
    (beyond p c cs (right_true (nat_lt (clause_number c) (clause_number d)) (above (clause_number c) cs) h))

either : (a b : Bool) (c : Clause) (x y z : Option Clause) → z ≡ smaller x y → smaller (Some c) y ≡ Some c → smaller x (Some c) ≡ Some c
    → cond (a || b) (Some c) z ≡ smaller (cond a (Some c) x) (cond b (Some c) y)
either true true c x y z e r l = rw (not_self (clause_number c)) refl
either true false c x y z e r l = sym r
either false true c x y z e r l = sym l
either false false c x y z e r l = e

found_or : (p q : Clause → Bool) (cs : List Clause) → is_rising cs ≡ true
    → find (λ c. p c || q c) cs ≡ smaller (find p cs) (find q cs)
found_or p q [] h = refl
found_or p q (c ∷ cs) h =
    let first = left_true (above (clause_number c) cs) (is_rising cs) h in
    either (p c) (q c) c (find p cs) (find q cs) (find (λ d. p d || q d) cs)
    (found_or p q cs (right_true (above (clause_number c) cs) (is_rising cs) h)) (before q c cs first) (beyond p c cs first)

found_alike : (p q : Clause → Bool) → ((c : Clause) → p c ≡ q c) → (cs : List Clause) → find p cs ≡ find q cs
found_alike p q same [] = refl
found_alike p q same (c ∷ cs) = ap₂ (λ b more. cond b (Some c) more) (same c) (found_alike p q same cs)

pub smaller_none : (b : Option Clause) → smaller b None ≡ b
smaller_none None = refl
smaller_none (Some b) = refl

-- ---- deeds

pub broken_first : (call : ℕ) (k : Known) (d : Deed) (ds : List Deed) →
    first_broken call k (d ∷ ds) ≡ smaller (least k (call_of call k.calls) d) (first_broken call (after_deed call k d) ds)
broken_first call k d ds =
    found_or (λ clause. breaks clause k (call_of call k.calls) d) (λ clause. is_broken_by clause call (after_deed call k d) ds) all_clauses refl

pub broken_one : (call : ℕ) (k : Known) (d : Deed) → first_broken call k (d ∷ []) ≡ least k (call_of call k.calls) d
broken_one call k d = broken_first call k d [] ∙ smaller_none (least k (call_of call k.calls) d)

or_assoc : (a b c : Bool) → a || (b || c) ≡ (a || b) || c
or_assoc true b c = refl
or_assoc false b c = refl

broken_by_more : (clause : Clause) (call : ℕ) (k : Known) (xs ys : List Deed) →
    is_broken_by clause call k (xs ++ ys) ≡ is_broken_by clause call k xs || is_broken_by clause call (after_deeds call k xs) ys
broken_by_more clause call k [] ys = refl
broken_by_more clause call k (d ∷ xs) ys =
    ap (λ b. breaks clause k (call_of call k.calls) d || b) (broken_by_more clause call (after_deed call k d) xs ys)
    ∙ or_assoc (breaks clause k (call_of call k.calls) d) _ _

pub broken_more : (call : ℕ) (k : Known) (xs ys : List Deed) →
    first_broken call k (xs ++ ys) ≡ smaller (first_broken call k xs) (first_broken call (after_deeds call k xs) ys)
broken_more call k xs ys =
    found_alike (λ clause. is_broken_by clause call k (xs ++ ys))
    (λ clause. is_broken_by clause call k xs || is_broken_by clause call (after_deeds call k xs) ys)
    (λ clause. broken_by_more clause call k xs ys) all_clauses
    ∙ found_or (λ clause. is_broken_by clause call k xs) (λ clause. is_broken_by clause call (after_deeds call k xs) ys) all_clauses refl

-- ---- each kind of deed

neither : (a b : Bool) (clause : Clause) → (if not a && not b then Some clause else None) ≡ unless (a || b) clause
neither true b clause = refl
neither false true clause = refl
neither false false clause = refl

pub act_least : (k : Known) (c : Option OpenCall) (a : Act) → least k c (acts a) ≡ act_broken k c a
act_least k None (act.Load block) = refl
act_least k None (act.Failed block store) = refl
act_least k None (act.Store block words) = refl
act_least k None (act.Sent frame) = refl
act_least k None (act.Popped frame) = refl
act_least k None (act.Played word rate volume) = refl
act_least k None (act.Register key value) = neither _ _ _
act_least k (Some c) (act.Load block) = refl
act_least k (Some c) (act.Failed block store) = refl
act_least k (Some c) (act.Store block words) = refl
act_least k (Some c) (act.Sent frame) = refl
act_least k (Some c) (act.Popped frame) = refl
act_least k (Some c) (act.Played word rate volume) = refl
act_least k (Some c) (act.Register key value) = neither _ _ _

pub handed_least : (k : Known) (c : Option OpenCall) (frame : List ℕ) →
    least k c (hands_up frame) ≡ unless (is_front (k.handed ++ frame ∷ []) k.popped) OutOfOrder
handed_least k None frame = refl
handed_least k (Some c) frame = refl

replays_least : (k : Known) (c : Option OpenCall) → least k c replays ≡ unless (is_replayed k.replay k.registers) UnmadeSet
replays_least k None = refl
replays_least k (Some c) = refl

positive : (n : ℕ) → nat_lt 0 (suc n) ≡ true
positive n = grind (arith, nat_tests)

not_zero : (n : ℕ) → (suc n == 0) ≡ false
not_zero n = grind (arith, nat_tests)

none_sent : (n : ℕ) → (n == 0) ≡ not (nat_lt 0 n)
none_sent zero = refl
none_sent (suc n) = not_zero n ∙ ap not (sym (positive n))

recv_least : (k : Known) (c : OpenCall) (a : Answer) →
    least k (Some (record c { op = Recv })) (replies a) ≡ (if not (is_empty k.ring) && not c.handed then Some LeftInRing else None)
recv_least k c answer.Done = refl
recv_least k c (answer.Blocks words) = refl
recv_least k c (answer.Value word) = refl
recv_least k c (answer.IoError block) = refl
recv_least k c a = refl

open_least : (k : Known) (c : OpenCall) (a : Answer) → least k (Some (record c { op = Open })) (replies a) ≡ None
open_least k c answer.Done = refl
open_least k c (answer.Blocks words) = refl
open_least k c (answer.Value word) = refl
open_least k c (answer.IoError block) = refl
open_least k c a = refl

close_least : (k : Known) (c : OpenCall) (a : Answer) → least k (Some (record c { op = Close })) (replies a) ≡ None
close_least k c answer.Done = refl
close_least k c (answer.Blocks words) = refl
close_least k c (answer.Value word) = refl
close_least k c (answer.IoError block) = refl
close_least k c a = refl

reply_least : (k : Known) (c : OpenCall) (o : Op) (a : Answer) →
    least k (Some (record c { op = o })) (replies a) ≡ reply_broken k (record c { op = o }) o a
reply_least k c (Write first words) answer.Done = refl
reply_least k c (Read first count) (answer.Blocks words) = refl
reply_least k c (Send frame) answer.Done = ap (λ b. if b then Some UnsentSend else None) (none_sent c.sent)
reply_least k c Recv a = recv_least k c a ∙ neither (is_empty k.ring) c.handed LeftInRing
reply_least k c Open a = open_least k c a
reply_least k c Close a = close_least k c a
reply_least k c (Play samples) answer.Done = refl
reply_least k c (Set key value) answer.Done = refl
reply_least k c (Get key) (answer.Value word) = refl
reply_least k c (Read first count) (answer.IoError block) = refl
reply_least k c (Write first words) (answer.IoError block) = refl
reply_least k c o a = refl

reply_of : (k : Known) (c : Option OpenCall) (a : Answer) → least k c (replies a) ≡ reply_broken_of k c a
reply_of k None a = refl
reply_of k (Some c) a = reply_least k c c.op a

-- ---- as the only deed

pub handed_first : (call : ℕ) (k : Known) (frame : List ℕ) →
    first_broken call k (hands_up frame ∷ []) ≡ unless (is_front (k.handed ++ frame ∷ []) k.popped) OutOfOrder
handed_first call k frame = broken_one call k (hands_up frame) ∙ handed_least k (call_of call k.calls) frame

pub replays_first : (call : ℕ) (k : Known) → first_broken call k (replays ∷ []) ≡ unless (is_replayed k.replay k.registers) UnmadeSet
replays_first call k = broken_one call k replays ∙ replays_least k (call_of call k.calls)

pub reply_first : (call : ℕ) (k : Known) (a : Answer) →
    first_broken call k (replies a ∷ []) ≡ reply_broken_of k (call_of call k.calls) a
reply_first call k a = broken_one call k (replies a) ∙ reply_of k (call_of call k.calls) a
