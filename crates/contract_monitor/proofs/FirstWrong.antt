-- The first deed that breaks a clause is found deed by deed, and is the same in what is kept as in what is known.
use Rattle.std.proofs.Common.{◌≡◌, ◌<◌, ◌+◌, ◌==◌, ◌&&◌, is_some, ℕ, suc, Bool, true, false, cond, nat_lt, Option, Some, None, List, [], ◌∷◌, ◌++◌, length, map, take, drop, get_or, filter, refl, sym, ap, ap₂, ◌∙◌, arith, add-zero, zero-add}
use Rattle.std.specs.List.{find, fold}
use Rattle.std.proofs.Math.Seq.{split_at}
use Rattle.std.proofs.lemmas.List.{length-map, length-take-le, map-append, take_more}
use Rattle.nook_data.specs.Clauses.{all_clauses, clause_number}
use Rattle.nook_data.specs.declared.calls.Answer.{Answer}
use Rattle.nook_data.specs.declared.classes.Class.{Class}
use Rattle.nook_data.specs.declared.clause.Clause.{Clause}
use Rattle.nook_data.specs.declared.machine.Act.{Act}
use Rattle.nook_data.specs.declared.steps.End.{End}
use Rattle.nook_data.specs.declared.steps.End.TheVariants as end
use Rattle.nook_data.specs.declared.steps.Event.{Event}
use Rattle.nook_data.specs.declared.steps.Event.TheVariants as event
use Rattle.nook_data.specs.declared.steps.FailCause.{FailCause}
use Rattle.guard_defs.proofs.DeedCases.{before_first, before_none, first_none, first_some}
use Rattle.guard_defs.specs.Deeds.{clause_of_deed, deeds_before, first_clause}
use Rattle.promise_defs.proofs.PromiseChanges.{after_deeds}
use Rattle.promise_defs.specs.Contract.{Deed, Known, OpenCall, acts, after_deed, call_of, crossing_deeds, deeds_of}
use Rattle.promise_defs.specs.Contract.{first_break, hands_up, is_broken_by, is_front, known_after, known_first, replays, replies}
use Rattle.contract_monitor.specs.Judging.{act_broken, first_broken, smaller}
use Rattle.contract_monitor.specs.Keeping.{MonitorState, kept_act, shorter}
use Rattle.contract_monitor.specs.Monitors.{Monitored, Represents, Tracks}
use Rattle.contract_monitor.specs.Wrong.{first_wrong, wrong_among, wrong_at, wrong_of}
use Rattle.contract_monitor.specs.declared.wrong.WrongDeed.{WrongDeed}
use Rattle.contract_monitor.proofs.Bursts.{known_acts}
use Rattle.contract_monitor.proofs.Judged.{act_least, broken_first, broken_one}
use Rattle.contract_monitor.proofs.Tracking.{act_front, act_judged, act_same, crossed, second_none, some_chosen}

by_option : {X G : Type 0} (o : Option X) → ((x : X) → o ≡ Some x → G) → (o ≡ None → G) → G
by_option (Some x) there not_there = there x refl
by_option None there not_there = not_there refl

-- ---- deeds one after the other, with a number of others before the first of them

abbrev pub wrong_from : ℕ → ℕ → Known → List Deed → Option WrongDeed
wrong_from index call k ds = wrong_at (index + deeds_before call k ds) (first_clause call k ds)

from_first : (call : ℕ) (k : Known) (ds : List Deed) → wrong_from 0 call k ds ≡ wrong_among call k ds
from_first call k ds = ap (λ (n : ℕ). wrong_at n (first_clause call k ds)) (zero-add (deeds_before call k ds))

plus_suc : (m n : ℕ) → m + suc n ≡ suc m + n
plus_suc m n = omega arith

wrong_later : (index call : ℕ) (k : Known) (d : Deed) (ds : List Deed) → clause_of_deed call k d ≡ None
    → wrong_from index call k (d ∷ ds) ≡ wrong_from (suc index) call (after_deed call k d) ds
wrong_later index call k d ds none =
    ap₂ wrong_at
    (ap (λ (n : ℕ). index + n) (before_none call k d ds none) ∙ plus_suc index (deeds_before call (after_deed call k d) ds))
    (first_none call k d ds none)

wrong_here : (index call : ℕ) (k : Known) (d : Deed) (ds : List Deed) (c : Clause) → clause_of_deed call k d ≡ Some c
    → wrong_from index call k (d ∷ ds) ≡ wrong_at index (Some c)
wrong_here index call k d ds c some =
    ap₂ wrong_at (ap (λ (n : ℕ). index + n) (before_first call k d ds c some) ∙ add-zero index) (first_some call k d ds c some)

-- after deeds that break nothing
wrong_past : (index call : ℕ) (k : Known) (xs ys : List Deed) → wrong_from index call k xs ≡ None
    → wrong_from index call k (xs ++ ys) ≡ wrong_from (index + length xs) call (after_deeds call k xs) ys
wrong_past index call k [] ys h = ap (λ (n : ℕ). wrong_from n call k ys) (sym (add-zero index))
wrong_past index call k (d ∷ xs) ys h = by_option (clause_of_deed call k d)
    (λ c some. let no : wrong_at index (Some c) ≡ None = sym (wrong_here index call k d xs c some) ∙ h in absurd cc)
    (λ none. wrong_later index call k d (xs ++ ys) none
    ∙ wrong_past (suc index) call (after_deed call k d) xs ys (sym (wrong_later index call k d xs none) ∙ h)
    ∙ ap (λ (n : ℕ). wrong_from n call (after_deeds call k (d ∷ xs)) ys) (sym (plus_suc index (length xs))))

-- before deeds that no longer matter
wrong_before : (index call : ℕ) (k : Known) (xs ys : List Deed) (w : WrongDeed) → wrong_from index call k xs ≡ Some w
    → wrong_from index call k (xs ++ ys) ≡ Some w
wrong_before index call k [] ys w h = absurd cc
wrong_before index call k (d ∷ xs) ys w h = by_option (clause_of_deed call k d)
    (λ c some. wrong_here index call k d (xs ++ ys) c some ∙ sym (wrong_here index call k d xs c some) ∙ h)
    (λ none. wrong_later index call k d (xs ++ ys) none
    ∙ wrong_before (suc index) call (after_deed call k d) xs ys w (sym (wrong_later index call k d xs none) ∙ h))

-- ---- the acts of a burst

judged : (call : ℕ) (k now : MonitorState) (front : List Act) (a : Act) (clause : Option Clause) → now ≡ fold (kept_act call) k front
    → clause ≡ act_broken now.known (call_of call now.known.calls) a
    → clause_of_deed call (after_deeds call k.known (map acts front)) (acts a) ≡ clause
judged call k now front a clause e c =
    let reached : Known = after_deeds call k.known (map acts front) in
    let known : now.known ≡ reached = ap (λ (kept : MonitorState). kept.known) e ∙ known_acts call k front in
    act_least reached (call_of call reached.calls) a
    ∙ sym (c ∙ ap (λ (w : Known). act_broken w (call_of call w.calls) a) known)

-- the deeds after acts that break nothing
past_acts : (call : ℕ) (k : Known) (front : List Act) (ds : List Deed) → wrong_among call k (map acts front) ≡ None
    → wrong_among call k (map acts front ++ ds) ≡ wrong_from (length front) call (after_deeds call k (map acts front)) ds
past_acts call k front ds h =
    let index : 0 + length (map acts front) ≡ length front = zero-add (length (map acts front)) ∙ length-map front acts in
    sym (from_first call k (map acts front ++ ds))
    ∙ wrong_past 0 call k (map acts front) ds (from_first call k (map acts front) ∙ h)
    ∙ ap (λ (n : ℕ). wrong_from n call (after_deeds call k (map acts front)) ds) index

-- one more act that breaks nothing
pub quiet_more : (call : ℕ) (k now : MonitorState) (done : List Act) (i : ℕ) (a : Act) (clause : Option Clause) → i < length done
    → a ≡ get_or done i a → now ≡ fold (kept_act call) k (take i done) → wrong_among call k.known (map acts (take i done)) ≡ None
    → clause ≡ act_broken now.known (call_of call now.known.calls) a → clause ≡ None
    → wrong_among call k.known (map acts (take (i + 1) done)) ≡ None
quiet_more call k now done i a clause l is e quiet c none =
    let reached : Known = after_deeds call k.known (map acts (take i done)) in
    let more : map acts (take (i + 1) done) ≡ map acts (take i done) ++ acts a ∷ [] =
    ap (map acts) (take_more done i a l ∙ ap (λ (x : Act). take i done ++ x ∷ []) (sym is)) ∙ map-append acts (take i done) (a ∷ []) in
    ap (wrong_among call k.known) more
    ∙ past_acts call k.known (take i done) (acts a ∷ []) quiet
    ∙ wrong_later (length (take i done)) call reached (acts a) [] (judged call k now (take i done) a clause e c ∙ none)

-- an act that breaks a clause, after acts that break nothing
pub wrong_found : (call : ℕ) (k now : MonitorState) (done : List Act) (i : ℕ) (a : Act) (clause : Option Clause) (first : Clause) → i < length done
    → a ≡ get_or done i a → now ≡ fold (kept_act call) k (take i done) → wrong_among call k.known (map acts (take i done)) ≡ None
    → clause ≡ act_broken now.known (call_of call now.known.calls) a → clause ≡ Some first
    → wrong_at i (Some first) ≡ wrong_among call k.known (map acts done)
wrong_found call k now done i a clause first l is e quiet c some =
    let front : List Act = take i done in
    let later : List Act = drop (suc i) done in
    let reached : Known = after_deeds call k.known (map acts front) in
    let index : length front ≡ i = length-take-le i done (omega arith) in
    let all : done ≡ front ++ a ∷ later = split_at done i a l ∙ ap (λ (x : Act). front ++ x ∷ later) (sym is) in
    sym (ap (λ (xs : List Act). wrong_among call k.known (map acts xs)) all
    ∙ ap (wrong_among call k.known) (map-append acts front (a ∷ later))
    ∙ past_acts call k.known front (acts a ∷ map acts later) quiet
    ∙ wrong_here (length front) call reached (acts a) (map acts later) first (judged call k now front a clause e c ∙ some)
    ∙ ap (λ (n : ℕ). wrong_at n (Some first)) index)

-- ---- the crossing

one_wrong : (index call : ℕ) (k : Known) (d : Deed) → wrong_from index call k (d ∷ []) ≡ wrong_at index (first_broken call k (d ∷ []))
one_wrong index call k d = by_option (clause_of_deed call k d)
    (λ c some. wrong_here index call k d [] c some ∙ ap (wrong_at index) (sym (broken_one call k d ∙ some)))
    (λ none. wrong_later index call k d [] none ∙ ap (wrong_at index) (sym (broken_one call k d ∙ none)))

up_wrong : (up : Bool) (index call : ℕ) (k : Known) (moved : List ℕ) →
    wrong_from index call k (cond up (hands_up moved ∷ []) []) ≡ wrong_at index (first_broken call k (cond up (hands_up moved ∷ []) []))
up_wrong true index call k moved = one_wrong index call k (hands_up moved)
up_wrong false index call k moved = refl

crossing_wrong : (index call : ℕ) (k : Known) (e : End) (a : Option Answer) (failure : Option FailCause) →
    wrong_from index call k (crossing_deeds e a failure) ≡ wrong_at index (first_broken call k (crossing_deeds e a failure))
crossing_wrong index call k (end.Service number first second result moved) a failure = up_wrong (number == 6 && is_some result) index call k moved
crossing_wrong index call k (end.Reply status) (Some a) None = one_wrong index call k (replies a)
crossing_wrong index call k (end.Reply status) None None = one_wrong index call k replays
crossing_wrong index call k (end.Reply status) (Some a) (Some cause) = refl
crossing_wrong index call k (end.Reply status) None (Some cause) = refl
crossing_wrong index call k end.Pause a failure = refl
crossing_wrong index call k end.Trap a failure = refl

-- the crossing after acts that break nothing
pub burst_wrong : (call : ℕ) (done : List Act) (e : End) (a : Option Answer) (failure : Option FailCause) (k now : MonitorState) (clause : Option Clause)
    → wrong_among call k.known (map acts done) ≡ None → now ≡ fold (kept_act call) k done
    → clause ≡ first_broken call now.known (crossing_deeds e a failure)
    → wrong_at (length done) clause ≡ wrong_among call k.known (deeds_of done e a failure)
burst_wrong call done e a failure k now clause quiet is c =
    let reached : Known = after_deeds call k.known (map acts done) in
    let known : now.known ≡ reached = ap (λ (kept : MonitorState). kept.known) is ∙ known_acts call k done in
    ap (wrong_at (length done)) (c ∙ ap (λ (w : Known). first_broken call w (crossing_deeds e a failure)) known)
    ∙ sym (past_acts call k.known done (crossing_deeds e a failure) quiet ∙ crossing_wrong (length done) call reached e a failure)

-- an act that breaks a clause, before the crossing
pub burst_act_wrong : (call : ℕ) (done : List Act) (e : End) (a : Option Answer) (failure : Option FailCause) (k : Known) (w : WrongDeed)
    → Some w ≡ wrong_among call k (map acts done) → Some w ≡ wrong_among call k (deeds_of done e a failure)
burst_act_wrong call done e a failure k w h =
    sym (sym (from_first call k (deeds_of done e a failure))
    ∙ wrong_before 0 call k (map acts done) (crossing_deeds e a failure) w (from_first call k (map acts done) ∙ sym h))

-- ---- an event

front_none : (a b : Option Clause) → smaller a b ≡ None → a ≡ None
front_none None b h = refl
front_none (Some a) None h = h
front_none (Some a) (Some b) h = absurd (some_chosen (nat_lt (clause_number b) (clause_number a)) a b h)

first_is_none : (call : ℕ) (k : Known) (ds : List Deed) → first_broken call k ds ≡ None → first_clause call k ds ≡ None
first_is_none call k [] h = refl
first_is_none call k (d ∷ ds) h =
    let both = sym (broken_first call k d ds) ∙ h in
    first_none call k d ds (front_none _ (first_broken call (after_deed call k d) ds) both)
    ∙ first_is_none call (after_deed call k d) ds (second_none _ (first_broken call (after_deed call k d) ds) both)

none_found : (p : Clause → Bool) (cs : List Clause) → filter p cs ≡ [] → find p cs ≡ None
none_found p [] h = refl
none_found p (c ∷ cs) h = at_first (p c) c (filter p cs) (find p cs) (λ e. none_found p cs e) h
  where
    at_first : (b : Bool) (c : Clause) (cs : List Clause) (found : Option Clause) → (cs ≡ [] → found ≡ None)
        → cond b (c ∷ cs) cs ≡ [] → cond b (Some c) found ≡ None
    at_first true c cs found h e = absurd cc
    at_first false c cs found h e = h e

of_broken : (cs : List Clause) (o : Option WrongDeed) → (cs ≡ [] → o ≡ None) → o ≡ wrong_of cs o
of_broken [] o h = h refl
of_broken (c ∷ cs) o h = refl

-- if an event breaks nothing, there is no such deed
pub wrong_reported : (call : ℕ) (k : Known) (ds : List Deed) →
    wrong_among call k ds ≡ wrong_of (filter (λ clause. is_broken_by clause call k ds) all_clauses) (wrong_among call k ds)
wrong_reported call k ds =
    let p : Clause → Bool = λ clause. is_broken_by clause call k ds in
    of_broken (filter p all_clauses) (wrong_among call k ds)
    (λ none. ap (wrong_at (deeds_before call k ds)) (first_is_none call k ds (none_found p all_clauses none)))

-- the first such deed of a burst's event, found on a copy of what is kept
pub burst_reported : (context call burst count : ℕ) (e : End) (read done : List Act) (a : Option Answer) (failure : Option FailCause) (k copy : MonitorState)
    (wrong : Option WrongDeed) → copy ≡ k → read ≡ done → wrong ≡ wrong_among call copy.known (deeds_of read e a failure)
    → wrong ≡ first_wrong k.known (event.Burst context call burst count e done a failure)
burst_reported context call burst count e read done a failure k copy wrong same is h =
    h ∙ ap₂ (λ (kept : MonitorState) (all : List Act). wrong_among call kept.known (deeds_of all e a failure)) same is
    ∙ wrong_reported call k.known (deeds_of done e a failure)

-- ---- what is kept, and what is known

-- the deeds of a burst, if its last ones are judged alike
alike : (call : ℕ) (last : List Deed) → ((index : ℕ) (w : Known) → is_front w.handed w.popped ≡ true
    → wrong_from index call (shorter w) last ≡ wrong_from index call w last) → (index : ℕ) (done : List Act) (w : Known)
    → is_front w.handed w.popped ≡ true
    → wrong_from index call (shorter w) (map acts done ++ last) ≡ wrong_from index call w (map acts done ++ last)
alike call last same index [] w h = same index w h
alike call last same index (a ∷ done) w h =
    let c : Option OpenCall = call_of call w.calls in
    let ds : List Deed = map acts done ++ last in
    let judges : clause_of_deed call (shorter w) (acts a) ≡ clause_of_deed call w (acts a) =
    act_least (shorter w) c a ∙ (act_judged w c a ∙ sym (act_least w c a)) in
    by_option (clause_of_deed call w (acts a))
    (λ first some. wrong_here index call (shorter w) (acts a) ds first (judges ∙ some)
    ∙ sym (wrong_here index call w (acts a) ds first some))
    (λ none. wrong_later index call (shorter w) (acts a) ds (judges ∙ none)
    ∙ ap (λ (k : Known). wrong_from (suc index) call k ds) (act_same call a w h)
    ∙ alike call last same (suc index) done (after_deed call w (acts a)) (act_front call a w h)
    ∙ sym (wrong_later index call w (acts a) ds none))

burst_alike : (call : ℕ) (done : List Act) (e : End) (a : Option Answer) (failure : Option FailCause) (w : Known)
    → is_front w.handed w.popped ≡ true
    → wrong_among call (shorter w) (deeds_of done e a failure) ≡ wrong_among call w (deeds_of done e a failure)
burst_alike call done e a failure w h =
    let last : List Deed = crossing_deeds e a failure in
    let crosses = λ (index : ℕ) (v : Known) (front : is_front v.handed v.popped ≡ true).
    crossing_wrong index call (shorter v) e a failure ∙ ap (wrong_at index) (crossed call e a failure v front).broken
    ∙ sym (crossing_wrong index call v e a failure) in
    sym (from_first call (shorter w) (map acts done ++ last))
    ∙ alike call last crosses 0 done w h
    ∙ from_first call w (map acts done ++ last)

event_alike : (e : Event) (w : Known) → is_front w.handed w.popped ≡ true → first_wrong (shorter w) e ≡ first_wrong w e
event_alike (event.Burst context call burst count e done a failure) w h =
    sym (wrong_reported call (shorter w) (deeds_of done e a failure))
    ∙ burst_alike call done e a failure w h
    ∙ wrong_reported call w (deeds_of done e a failure)
event_alike (event.Invoke call thread o a) w h = refl
event_alike (event.Enter call thread attempt a) w h = refl
event_alike (event.Stage s answers released) w h = refl
event_alike (event.Arrive frame kept) w h = refl

-- a monitor finds the first such deed after the events that it represents
pub holds_wrong : (class : Class) (size : ℕ) (events : List Event) (e : Event) (m : Monitored) → Represents class size events m
    → first_break class size events ≡ None
    → first_wrong m.kept.known e ≡ first_wrong (fold known_after (known_first class size) events) e
holds_wrong class size events e m s none =
    let w : Known = fold known_after (known_first class size) events in
    let t : Tracks m.kept.known w = s.known (s.broken ∙ none) in
    ap (λ (k : Known). first_wrong k e) t.same ∙ event_alike e w t.front
