-- What the never-failing disk shows while one call is made on a side.
use Rattle.std.proofs.Common.{◌≡◌, ◌⊎◌, ℕ, zero, suc, ◌&&◌, not, Bool, true, false, Option, Some, None, List, [], ◌∷◌, ◌++◌, length, set, slice_get, subst, sym, refl, ap, ◌∙◌, inl, inr, arith, true≢false, eqb-true}
use Rattle.std.specs.Prelude.{if◌then◌else◌, ◌==◌, option_and_then, bytes_eq}
use Rattle.std.specs.List.{AllByRecursion, list_all}
use Rattle.std.proofs.lemmas.Bool.{and_parts}
use Rattle.std.proofs.lemmas.Bool.Decides.{nat_tests}
use Rattle.std.proofs.lemmas.List.Folds.{list_all-append}
use Rattle.std.proofs.lemmas.Slice.Eq.{bytes_eq-Decides}
use Rattle.nook_data.specs.declared.machine.Act.{Act}
use Rattle.nook_data.specs.declared.machine.Act.TheVariants as act
use Rattle.nook_data.specs.declared.calls.Answer.{Answer}
use Rattle.nook_data.specs.declared.calls.Answer.TheVariants as answered
use Rattle.nook_data.specs.declared.classes.Class.{Class}
use Rattle.nook_data.specs.declared.classes.Class.TheVariants.{Block, Net, Sound}
use Rattle.nook_data.specs.declared.steps.Event.{Event}
use Rattle.nook_data.specs.declared.steps.Event.TheVariants as event
use Rattle.nook_data.specs.declared.calls.Op.{Op}
use Rattle.nook_data.specs.declared.calls.Op.TheVariants.{Read, Write, Send, Recv, Open, Play, Close, Get, Set}
use Rattle.promise_defs.specs.Blocks.{get_blocks, has_block}
use Rattle.nook_data.specs.Classes.{covers, same_class, static_check}
use Rattle.promise_defs.specs.Ideal.{Ideal, Opened, after_answer, is_due, may_answer, may_call, may_sound, may_wire}
use Rattle.promise_defs.specs.Ideal.{never_failing, play_of, ran, shows, when}
use Rattle.promise_defs.proofs.PromiseCases.{answers, closes}
use Rattle.promise_defs.proofs.PromiseChanges.{opens, stops_waiting}
use Rattle.nook_data.specs.Numbered.{at_number}
use Rattle.nook_data.specs.Answers.{one_answer}
use Rattle.nook_data.specs.Answers.{answer_among, answer_at}
use Rattle.promise_defs.specs.Trace.{Track, Visible, called, wire, sample, arrived, answer, shown, shown_acts}
use Rattle.promise_defs.specs.Trace.{shown_answers, shown_option, trace, trace_from, tracks_after}
use Rattle.part_laws.proofs.Indices.{change_at, get_mid, get_push, set_mid, some_same}
use Rattle.desk_like.specs.Desks.{DeskView, IsOther}
use Rattle.mirror_block.specs.Disk.{IsIdleAfter, IsShown, ServesSaid, ShowsDevice, is_over}
use Rattle.mirror_block.specs.Rule.{is_disk_op}
use Rattle.mirror_block.specs.Sides.{first_answer, or_later}
use Rattle.mirror_block.proofs.Gains.{IsCalled}

-- ---- steps of the device

when_is : (b : Bool) (x y : Ideal) → when b x ≡ Some y → (b ≡ true) × (x ≡ y)
when_is true x y h = (refl, some_same x y h)
when_is false x y h = absurd cc

found_is : {X : Type 0} (f : X → Option Ideal) (o : Option X) (n : Ideal) → option_and_then f o ≡ Some n
    → (x : X) × (o ≡ Some x) × (f x ≡ Some n)
found_is f None n h = absurd cc
found_is f (Some x) n h = (x, refl, h)

ran_next : (m : Ideal) (v : Visible) (vs : List Visible) (n : Ideal) → ran m (v ∷ vs) ≡ Some n → (k : Ideal) × (shows m v ≡ Some k) × (ran k vs ≡ Some n)
unfolding ran
ran_next m v vs n h = found_is (λ after. ran after vs) (shows m v) n h

ran_none : (m n : Ideal) → ran m [] ≡ Some n → m ≡ n
unfolding ran
ran_none m n h = some_same m n h

ran_parts : (m : Ideal) (xs ys : List Visible) (n : Ideal) → ran m (xs ++ ys) ≡ Some n → (k : Ideal) × (ran m xs ≡ Some k) × (ran k ys ≡ Some n)
unfolding ran
ran_parts m [] ys n h = (m, refl, h)
ran_parts m (v ∷ xs) ys n h =
    let k = ran_next m v (xs ++ ys) n h in
    let rest = ran_parts k.0 xs ys n k.2 in
    (rest.0, ap (option_and_then (λ after. ran after xs)) k.1 ∙ rest.1, rest.2)

tracks_following : List Track → List Event → List Track
tracks_following ts [] = ts
tracks_following ts (e ∷ events) = tracks_following (tracks_after e ts) events

append_parts : (xs ys zs : List Visible) → (xs ++ ys) ++ zs ≡ xs ++ (ys ++ zs)
append_parts [] ys zs = refl
append_parts (x ∷ xs) ys zs = ap (λ (l : List Visible). x ∷ l) (append_parts xs ys zs)

trace_parts : (ts : List Track) (xs ys : List Event) → trace_from ts (xs ++ ys) ≡ trace_from ts xs ++ trace_from (tracks_following ts xs) ys
unfolding trace_from tracks_following
trace_parts ts [] ys = refl
trace_parts ts (e ∷ xs) ys =
    ap (λ (l : List Visible). shown e (tracks_after e ts) ++ l) (trace_parts (tracks_after e ts) xs ys)
    ∙ sym (append_parts (shown e (tracks_after e ts)) (trace_from (tracks_after e ts) xs) (trace_from (tracks_following (tracks_after e ts) xs) ys))

-- a run of a longer list continues from the device to which its prefix leads
record Continues (size : ℕ) (xs ys : List Event) (device : Ideal) : Type 0 where
  tracks : List Track
  between : Ideal
  shows_between : ShowsDevice size xs between
  ran_on : ran between (trace_from tracks ys) ≡ Some device

continues : (size : ℕ) (xs ys : List Event) (device : Ideal) → ShowsDevice size (xs ++ ys) device → Continues size xs ys device
unfolding trace
continues size xs ys device h =
    let k = ran_parts (never_failing Block size) (trace_from [] xs) (trace_from (tracks_following [] xs) ys) device
    (ap (ran (never_failing Block size)) (sym (trace_parts [] xs ys)) ∙ h) in
    record { tracks = tracks_following [] xs; between = k.0; shows_between = k.1; ran_on = k.2 }

-- ---- the device keeps its class and its size

abbrev Kept : Ideal → Ideal → Type 0
Kept m n = (n.class ≡ m.class) × (n.size ≡ m.size)

kept_same : (m x n : Ideal) → x.class ≡ m.class → x.size ≡ m.size → x ≡ n → Kept m n
kept_same m x n c s e = (ap (λ (d : Ideal). d.class) (sym e) ∙ c, ap (λ (d : Ideal). d.size) (sym e) ∙ s)

kept_when : (b : Bool) (m x n : Ideal) → x.class ≡ m.class → x.size ≡ m.size → when b x ≡ Some n → Kept m n
kept_when b m x n c s h = kept_same m x n c s (when_is b x n h).1

-- an answer changes neither the class nor the size, nor which calls are open
after_keeps : (m : Ideal) (t : ℕ) (o : Op) (a : Answer) (stored : List ℕ) → ((after_answer m t o a stored).class ≡ m.class)
    × ((after_answer m t o a stored).size ≡ m.size) × ((after_answer m t o a stored).opened ≡ m.opened)
after_keeps m t (Write first words) answered.Done stored = (refl, refl, refl)
after_keeps m t (Write first words) (answered.IoError block) stored = (refl, refl, refl)
after_keeps m t Recv (answered.Frame frame) stored = (refl, refl, refl)
after_keeps m t Open answered.Done stored = (refl, refl, refl)
after_keeps m t Close answered.Done stored = (refl, refl, refl)
after_keeps m t (Set key value) answered.Done stored = (refl, refl, refl)
after_keeps m t o a stored = (refl, refl, refl)

-- the answered call was waiting, the answer was due, and the device is that after the answer
record Answering (m n : Ideal) (c : ℕ) (a : Answer) (stored : List ℕ) : Type 0 where
  call : Opened
  there : at_number c m.opened ≡ Some call
  waits : call.waits ≡ true
  due : is_due (closes c m) call a ≡ true
  after : after_answer (closes c m) call.thread call.op a stored ≡ n

answering : (m n : Ideal) (c : ℕ) (a : Answer) (stored : List ℕ) → shows m (answer c a stored) ≡ Some n → Answering m n c a stored
answering m n c a stored h =
    let k = found_is (answers (closes c m) a stored) (at_number c m.opened) n h in
    let w = when_is (k.0.waits && is_due (closes c m) k.0 a) (after_answer (closes c m) k.0.thread k.0.op a stored) n k.2 in
    let both = and_parts k.0.waits (is_due (closes c m) k.0 a) w.0 in
    record { call = k.0; there = k.1; waits = both.0; due = both.1; after = w.1 }

kept_shown : (m : Ideal) (v : Visible) (n : Ideal) → shows m v ≡ Some n → Kept m n
kept_shown m (called call t o) n h = kept_when _ m _ n refl refl h
kept_shown m (wire call frame) n h = kept_when _ m _ n refl refl (found_is _ (at_number call m.opened) n h).2
kept_shown m (sample word rate volume) n h = kept_when _ m _ n refl refl (found_is _ (at_number (play_of m) m.opened) n h).2
kept_shown m (arrived frame) n h = kept_when _ m _ n refl refl h
kept_shown m (answer call a stored) n h =
    let y = answering m n call a stored h in
    let k = after_keeps (closes call m) y.call.thread y.call.op a stored in
    kept_same m (after_answer (closes call m) y.call.thread y.call.op a stored) n k.0 k.1 y.after

kept_ran : (m : Ideal) (vs : List Visible) (n : Ideal) → ran m vs ≡ Some n → Kept m n
unfolding ran
kept_ran m [] n h = kept_same m m n refl refl (some_same m n h)
kept_ran m (v ∷ vs) n h =
    let k = ran_next m v vs n h in
    let first = kept_shown m v k.0 k.1 in
    let later = kept_ran k.0 vs n k.2 in
    (later.0 ∙ first.0, later.1 ∙ first.1)

-- ---- the first answer that is shown

abbrev first_shown : ℕ → List Visible → Option Answer
first_shown call [] = None
first_shown call (answer c a stored ∷ vs) = or_later (answer_among call (one_answer c (Some a))) (first_shown call vs)
first_shown call (v ∷ vs) = first_shown call vs

or_parts : (a b c : Option Answer) → or_later (or_later a b) c ≡ or_later a (or_later b c)
or_parts None b c = refl
or_parts (Some a) b c = refl

or_none : (a : Option Answer) → or_later a None ≡ a
or_none None = refl
or_none (Some a) = refl

first_shown_parts : (call : ℕ) (xs ys : List Visible) → first_shown call (xs ++ ys) ≡ or_later (first_shown call xs) (first_shown call ys)
first_shown_parts call [] ys = refl
first_shown_parts call (answer c a stored ∷ xs) ys =
    ap (or_later (answer_among call (one_answer c (Some a)))) (first_shown_parts call xs ys)
    ∙ sym (or_parts (answer_among call (one_answer c (Some a))) (first_shown call xs) (first_shown call ys))
first_shown_parts call (called c t o ∷ xs) ys = first_shown_parts call xs ys
first_shown_parts call (wire c frame ∷ xs) ys = first_shown_parts call xs ys
first_shown_parts call (sample word rate volume ∷ xs) ys = first_shown_parts call xs ys
first_shown_parts call (arrived frame ∷ xs) ys = first_shown_parts call xs ys

if_none : (call c : ℕ) → answer_among call (one_answer c None) ≡ None
if_none call c = refl

own_answer : (call : ℕ) (a : Option Answer) → answer_among call (one_answer call a) ≡ a
own_answer call None = refl
own_answer call (Some a) = grind (arith, nat_tests)

option_shown : (call c : ℕ) (a : Option Answer) (ts : List Track) → first_shown call (shown_option c a ts) ≡ answer_among call (one_answer c a)
option_shown call c None ts = sym (if_none call c)
option_shown call c (Some a) ts = or_none (answer_among call (one_answer c (Some a)))

acts_shown : (call c : ℕ) (acts : List Act) → first_shown call (shown_acts c acts) ≡ None
acts_shown call c [] = refl
acts_shown call c (act.Sent frame ∷ acts) = acts_shown call c acts
acts_shown call c (act.Played word rate volume ∷ acts) = acts_shown call c acts
acts_shown call c (a ∷ acts) = acts_shown call c acts

answers_shown : (call : ℕ) (answers : List (ℕ × Answer)) (ts : List Track) → first_shown call (shown_answers answers ts) ≡ answer_among call answers
answers_shown call [] ts = refl
answers_shown call (a ∷ answers) ts = by_test (a.0 == call) (answers_shown call answers ts)
  where
    by_test : (b : Bool) → first_shown call (shown_answers answers ts) ≡ answer_among call answers
        → or_later (if b then Some a.1 else None) (first_shown call (shown_answers answers ts)) ≡ (if b then Some a.1 else answer_among call answers)
    by_test true later = refl
    by_test false later = later

event_shown : (call : ℕ) (e : Event) (ts : List Track) → first_shown call (shown e ts) ≡ answer_at call e
event_shown call (event.Invoke c t o a) ts = option_shown call c a ts
event_shown call (event.Enter c t attempt a) ts = option_shown call c a ts
event_shown call (event.Burst context c burst count end acts a failure) ts =
    first_shown_parts call (shown_acts c acts) (shown_option c a ts)
    ∙ ap (λ (x : Option Answer). or_later x (first_shown call (shown_option c a ts))) (acts_shown call c acts) ∙ option_shown call c a ts
event_shown call (event.Stage stage answers released) ts = answers_shown call answers ts
event_shown call (event.Arrive frame kept) ts = refl

-- the first answer that is shown is the first that is given
trace_shown : (call : ℕ) (ts : List Track) (events : List Event) → first_shown call (trace_from ts events) ≡ first_answer call events
unfolding trace_from
trace_shown call ts [] = refl
trace_shown call ts (e ∷ events) =
    first_shown_parts call (shown e (tracks_after e ts)) (trace_from (tracks_after e ts) events)
    ∙ ap (λ (x : Option Answer). or_later x (first_shown call (trace_from (tracks_after e ts) events))) (event_shown call e (tracks_after e ts))
    ∙ ap (or_later (answer_at call e)) (trace_shown call (tracks_after e ts) events)

-- ---- what is shown after an invocation

-- neither a call nor an arrival
abbrev IsAnswering : Visible → Type 0
IsAnswering (called c t o) = ⊥
IsAnswering (arrived frame) = ⊥
IsAnswering _ = Unit {0}

answering_parts : (xs ys : List Visible) → AllByRecursion IsAnswering xs → AllByRecursion IsAnswering ys → AllByRecursion IsAnswering (xs ++ ys)
answering_parts [] ys h k = k
answering_parts (x ∷ xs) ys h k = (h.0, answering_parts xs ys h.1 k)

option_answering : (c : ℕ) (a : Option Answer) (ts : List Track) → AllByRecursion IsAnswering (shown_option c a ts)
option_answering c None ts = tt
option_answering c (Some a) ts = (tt, tt)

acts_answering : (c : ℕ) (acts : List Act) → AllByRecursion IsAnswering (shown_acts c acts)
acts_answering c [] = tt
acts_answering c (act.Sent frame ∷ acts) = (tt, acts_answering c acts)
acts_answering c (act.Played word rate volume ∷ acts) = (tt, acts_answering c acts)
acts_answering c (a ∷ acts) = acts_answering c acts

answers_answering : (answers : List (ℕ × Answer)) (ts : List Track) → AllByRecursion IsAnswering (shown_answers answers ts)
answers_answering [] ts = tt
answers_answering (a ∷ answers) ts = (tt, answers_answering answers ts)

event_answering : (e : Event) (ts : List Track) → IsOther e → AllByRecursion IsAnswering (shown e ts)
event_answering (event.Invoke c t o a) ts h = absurd h
event_answering (event.Enter c t attempt a) ts h = option_answering c a ts
event_answering (event.Burst context c burst count end acts a failure) ts h =
    answering_parts (shown_acts c acts) (shown_option c a ts) (acts_answering c acts) (option_answering c a ts)
event_answering (event.Stage stage answers released) ts h = answers_answering answers ts
event_answering (event.Arrive frame kept) ts h = absurd h

trace_answering : (events : List Event) (ts : List Track) → AllByRecursion IsOther events → AllByRecursion IsAnswering (trace_from ts events)
unfolding trace_from
trace_answering [] ts h = tt
trace_answering (e ∷ events) ts h =
    answering_parts (shown e (tracks_after e ts)) (trace_from (tracks_after e ts) events) (event_answering e (tracks_after e ts) h.0)
    (trace_answering events (tracks_after e ts) h.1)

-- ---- what a disk shows

passes : (test : Opened → Bool) (xs : List Opened) (i : ℕ) (x : Opened) → list_all test xs ≡ true → slice_get xs i ≡ Some x → test x ≡ true
passes test [] i x h at = absurd cc
passes test (y ∷ xs) zero x h at = ap test (sym (some_same y x at)) ∙ (and_parts (test y) (list_all test xs) h).0
passes test (y ∷ xs) (suc i) x h at = passes test xs i x (and_parts (test y) (list_all test xs) h).1 at

number_passes : (test : Opened → Bool) (xs : List Opened) (n : ℕ) (x : Opened) → list_all test xs ≡ true → at_number n xs ≡ Some x → test x ≡ true
number_passes test xs zero x h at = absurd cc
number_passes test xs (suc i) x h at = passes test xs i x h at

-- a disk shows nothing that belongs to another class
disk_shows_not : (m n x : Ideal) (other : Class) (may : Bool) → m.class ≡ Block → same_class Block other ≡ false
    → when (same_class m.class other && may) x ≡ Some n → ⊥
disk_shows_not m n x other may disk differs h = true≢false (
    sym (and_parts (same_class m.class other) may (when_is (same_class m.class other && may) x n h).0).0
    ∙ ap (λ c. same_class c other) disk ∙ differs
    )

wire_not : (m n : Ideal) (c : ℕ) (frame : List ℕ) → m.class ≡ Block → shows m (wire c frame) ≡ Some n → ⊥
wire_not m n c frame disk h =
    let k = found_is _ (at_number c m.opened) n h in disk_shows_not m n _ Net (may_wire frame k.0) disk refl k.2

sample_not : (m n : Ideal) (word rate volume : ℕ) → m.class ≡ Block → shows m (sample word rate volume) ≡ Some n → ⊥
sample_not m n word rate volume disk h =
    let k = found_is _ (at_number (play_of m) m.opened) n h in
    disk_shows_not m n _ Sound (may_sound word rate volume m k.0) disk refl k.2

-- if no call waits, nothing is shown
idle_ran : (m n : Ideal) (vs : List Visible) → m.class ≡ Block → list_all is_over m.opened ≡ true → AllByRecursion IsAnswering vs → ran m vs ≡ Some n → vs ≡ []
idle_ran m n [] disk over reported h = refl
idle_ran m n (v ∷ vs) disk over reported h = absurd (by_first v reported.0 (ran_next m v vs n h))
  where
    by_first : (v : Visible) → IsAnswering v → (k : Ideal) × (shows m v ≡ Some k) × (ran k vs ≡ Some n) → ⊥
    by_first (called c t o) t' k = t'
    by_first (wire c frame) t' k = wire_not m k.0 c frame disk k.1
    by_first (sample word rate volume) t' k = sample_not m k.0 word rate volume disk k.1
    by_first (arrived frame) t' k = t'
    by_first (answer c a stored) t' k =
        let y : Answering m k.0 c a stored = answering m k.0 c a stored k.1 in
        let over' : not y.call.waits ≡ true = number_passes is_over m.opened c y.call over y.there in
        absurd (true≢false (sym (sym (ap not y.waits) ∙ over')))

-- ---- what an answer does to the disk

same_words : (xs ys : List ℕ) → bytes_eq xs ys ≡ true → xs ≡ ys
same_words xs ys h = (bytes_eq-Decides xs ys).0 h

serves_with : (m : Ideal) (t : ℕ) (o : Op) (a : Answer) (stored : List ℕ) → is_disk_op o ≡ true → may_answer m t o a ≡ true
    → ServesSaid m.blocks o a (after_answer m t o a stored).blocks
serves_with m t (Read first count) (answered.Blocks words) stored d h =
    (same_words words (get_blocks m.blocks first count) h, refl)
serves_with m t (Read first count) (answered.IoError block) stored d h = (h, refl)
serves_with m t (Write first words) answered.Done stored d h = refl
serves_with m t (Write first words) (answered.IoError block) stored d h = (
  h,
  record {
    stored = λ b. covers (Write first words) b && has_block b stored;
    covered = λ b s. (and_parts (covers (Write first words) b) (has_block b stored) s).0;
    after_is = refl;
  },
)
serves_with m t (Send frame) a stored d h = absurd cc
serves_with m t Recv a stored d h = absurd cc
serves_with m t Open a stored d h = absurd cc
serves_with m t (Play samples) a stored d h = absurd cc
serves_with m t Close a stored d h = absurd cc
serves_with m t (Get key) a stored d h = absurd cc
serves_with m t (Set key value) a stored d h = absurd cc
serves_with m t o a stored d h = absurd cc

-- an answer that is due is allowed if the static check gives none
due_may : (m : Ideal) (o : Opened) (a : Answer) → static_check m.class m.size o.op ≡ None → is_due m o a ≡ true
    → may_answer m o.thread o.op a ≡ true
due_may m o a e h = rw (e, is_due) at h

-- ---- a Read or Write that waits

-- the call is the last, and no other waits
record Waits (m : Ideal) (o : Op) : Type 0 where
  earlier : List Opened
  call : Opened
  opened : m.opened ≡ earlier ++ call ∷ []
  over : list_all is_over earlier ≡ true
  op : call.op ≡ o

-- the one answer that is shown, and what it does
record Shows (m n : Ideal) (o : Op) (number : ℕ) (vs : List Visible) : Type 0 where
  a : Answer
  stored : List ℕ
  shown_is : vs ≡ answer number a stored ∷ []
  over : list_all is_over n.opened ≡ true
  serves : static_check m.class m.size o ≡ None → ServesSaid m.blocks o a n.blocks

module _ (m : Ideal) (o : Op) (disk : m.class ≡ Block) (disk_op : is_disk_op o ≡ true) (w : Waits m o) where
  -- only the last call may be answered
  last_answered : (n : Ideal) (c : ℕ) (a : Answer) (stored : List ℕ) → (y : Answering m n c a stored) → (c ≡ suc (length w.earlier)) × (y.call ≡ w.call)
  last_answered n zero a stored y = absurd (let f = y.there in cc)
  last_answered n (suc i) a stored y = by_position (get_push w.earlier i w.call y.call (ap (λ (xs : List Opened). slice_get xs i) (sym w.opened) ∙ y.there))
    where
      by_position : (slice_get w.earlier i ≡ Some y.call) ⊎ ((i ≡ length w.earlier) × (y.call ≡ w.call)) → (suc i ≡ suc (length w.earlier)) × (y.call ≡ w.call)
      by_position (inl e) =
          let over' : not y.call.waits ≡ true = passes is_over w.earlier i y.call w.over e in
          absurd (true≢false (sym (sym (ap not y.waits) ∙ over')))
      by_position (inr e) = (ap suc e.0, e.1)

  closed : (n : Ideal) → n.opened ≡ (closes (suc (length w.earlier)) m).opened → list_all is_over n.opened ≡ true
  closed n e =
      let at : slice_get m.opened (length w.earlier) ≡ Some w.call =
      ap (λ (xs : List Opened). slice_get xs (length w.earlier)) w.opened ∙ get_mid w.earlier [] w.call in
      let list : n.opened ≡ w.earlier ++ stops_waiting w.call ∷ [] =
      e ∙ change_at stops_waiting (length w.earlier) m.opened w.call at
      ∙ ap (λ (xs : List Opened). set xs (length w.earlier) (stops_waiting w.call)) w.opened ∙ set_mid w.earlier [] w.call (stops_waiting w.call) in
      ap (list_all is_over) list ∙ list_all-append is_over w.earlier (stops_waiting w.call ∷ []) ∙ ap (λ (b : Bool). b && true) w.over

  -- nothing is shown, or the answer of the call
  waiting_ran : (n : Ideal) (vs : List Visible) → AllByRecursion IsAnswering vs → ran m vs ≡ Some n → (vs ≡ []) ⊎ Shows m n o (suc (length w.earlier)) vs
  waiting_ran n [] reported h = inl refl
  waiting_ran n (v ∷ vs) reported h = by_first v reported.0 (ran_next m v vs n h)
    where
      by_first : (v : Visible) → IsAnswering v → (k : Ideal) × (shows m v ≡ Some k) × (ran k vs ≡ Some n) → (v ∷ vs ≡ []) ⊎ Shows m n o (suc (length w.earlier)) (v ∷ vs)
      by_first (called c t p) t' k = absurd t'
      by_first (wire c frame) t' k = absurd (wire_not m k.0 c frame disk k.1)
      by_first (sample word rate volume) t' k = absurd (sample_not m k.0 word rate volume disk k.1)
      by_first (arrived frame) t' k = absurd t'
      by_first (answer c a stored) t' k =
          let y : Answering m k.0 c a stored = answering m k.0 c a stored k.1 in
          let l = last_answered k.0 c a stored y in
          let same_op : y.call.op ≡ o = ap (λ (x : Opened). x.op) l.1 ∙ w.op in
          let disk' : k.0.class ≡ Block = (kept_shown m (answer c a stored) k.0 k.1).0 ∙ disk in
          let over' : list_all is_over k.0.opened ≡ true = closed k.0 (
          ap (λ (x : Ideal). x.opened) (sym y.after) ∙ (after_keeps (closes c m) y.call.thread y.call.op a stored).2
          ∙ ap (λ (j : ℕ). (closes j m).opened) l.0
          ) in
          let rest : vs ≡ [] = idle_ran k.0 n vs disk' over' reported.1 k.2 in
          let end : k.0 ≡ n = ran_none k.0 n (ap (ran k.0) (sym rest) ∙ k.2) in
          inr (record {
            a = a;
            stored = stored;
            shown_is = ap (λ (l : List Visible). answer c a stored ∷ l) rest ∙ ap (λ (j : ℕ). answer j a stored ∷ []) l.0;
            over = ap (λ (x : Ideal). list_all is_over x.opened) (sym end) ∙ over';
            serves = λ e. subst (λ (x : Ideal). ServesSaid m.blocks o a x.blocks) (y.after ∙ end)
                (subst (λ (p : Op). ServesSaid m.blocks p a (after_answer (closes c m) y.call.thread y.call.op a stored).blocks) same_op
                (serves_with (closes c m) y.call.thread y.call.op a stored (ap is_disk_op same_op ∙ disk_op)
                (due_may (closes c m) y.call a (ap (static_check m.class m.size) same_op ∙ e) y.due)));
          })

-- ---- one call on a side

-- the device of a side whose seat saw one more call, with this answer
pub record IsServedBy (size : ℕ) (old new : DeskView) (o : Op) (a : Answer) (device : Ideal) : Type 0 where
  pub over : list_all is_over device.opened ≡ true
  pub before : Ideal
  pub shows_before : ShowsDevice size old.seen before
  pub serves : static_check Block size o ≡ None → ServesSaid before.blocks o a device.blocks

module _ (size : ℕ) (old new : DeskView) (call : ℕ) (o : Op) (disk_op : is_disk_op o ≡ true) (c : IsCalled old new call o) (a : Answer)
    (given : first_answer call (event.Invoke call 0 o c.answer ∷ c.tail) ≡ Some a) (idle : IsIdleAfter size old.seen)
    (device : Ideal) (shows_device : ShowsDevice size new.seen device) where
  abbrev first : Event
  first = event.Invoke call 0 o c.answer

  goes_on : Continues size old.seen (first ∷ c.tail) device
  goes_on = continues size old.seen (first ∷ c.tail) device (subst (λ (l : List Event). ShowsDevice size l device) (sym c.seen) shows_device)

  abbrev tracks : List Track
  tracks = tracks_after first goes_on.tracks

  -- what is shown after the call itself
  abbrev rest_after : List Visible
  rest_after = shown_option call c.answer tracks ++ trace_from tracks c.tail

  trace_is : trace_from goes_on.tracks (first ∷ c.tail) ≡ called call 0 o ∷ rest_after
  unfolding trace_from
  trace_is = refl

  abbrev made : Ideal
  made = record goes_on.between { opened = goes_on.between.opened ++ opens 0 o ∷ [] }

  next : (k : Ideal) × (shows goes_on.between (called call 0 o) ≡ Some k) × (ran k rest_after ≡ Some device)
  next = ran_next goes_on.between (called call 0 o) rest_after device (ap (ran goes_on.between) (sym trace_is) ∙ goes_on.ran_on)

  called_so : (may_call call 0 goes_on.between.opened ≡ true) × (made ≡ next.0)
  called_so = when_is (may_call call 0 goes_on.between.opened) made next.0 next.1

  number : call ≡ suc (length goes_on.between.opened)
  number = eqb-true call (suc (length goes_on.between.opened)) (and_parts (call == suc (length goes_on.between.opened)) _ called_so.0).0

  waits : Waits made o
  waits = record { earlier = goes_on.between.opened; call = opens 0 o; opened = refl; over = idle goes_on.between goes_on.shows_between; op = refl }

  shown_first : first_shown call rest_after ≡ Some a
  shown_first = ap (first_shown call) (sym trace_is) ∙ trace_shown call goes_on.tracks (first ∷ c.tail) ∙ given

  reported : AllByRecursion IsAnswering rest_after
  reported = answering_parts (shown_option call c.answer tracks) (trace_from tracks c.tail) (option_answering call c.answer tracks) (trace_answering c.tail tracks c.others)

  class_kept : Kept (never_failing Block size) goes_on.between
  class_kept = kept_ran (never_failing Block size) (trace old.seen) goes_on.between goes_on.shows_between

  pub served_by : IsServedBy size old new o a device
  unfolding waits
  served_by = by_shown (waiting_ran made o class_kept.0 disk_op waits device rest_after reported (subst (λ (k : Ideal). ran k rest_after ≡ Some device) (sym called_so.1) next.2))
    where
      by_shown : (rest_after ≡ []) ⊎ Shows made device o (suc (length goes_on.between.opened)) rest_after → IsServedBy size old new o a device
      by_shown (inl e) = absurd (let f : None ≡ Some a = sym (ap (first_shown call) e) ∙ shown_first in cc)
      by_shown (inr s) =
          let own : answer_among call (one_answer call (Some s.a)) ≡ Some s.a = own_answer call (Some s.a) in
          let shown_so : first_shown call rest_after ≡ or_later (answer_among call (one_answer call (Some s.a))) None =
          ap (first_shown call) (s.shown_is ∙ ap (λ (j : ℕ). answer j s.a s.stored ∷ []) (sym number)) in
          let same : s.a ≡ a = some_same s.a a (sym (shown_so ∙ or_none (answer_among call (one_answer call (Some s.a))) ∙ own) ∙ shown_first) in
          record {
            over = s.over;
            before = goes_on.between;
            shows_before = goes_on.shows_between;
            serves = λ e. subst (λ (x : Answer). ServesSaid goes_on.between.blocks o x device.blocks) same
                (s.serves (ap (λ (x : Class). static_check x goes_on.between.size o) class_kept.0 ∙ ap (λ (n : ℕ). static_check Block n o) class_kept.1 ∙ e));
          }

-- two devices that the same events show are equal
pub same_device : (size : ℕ) (seen : List Event) (d e : Ideal) → ShowsDevice size seen d → ShowsDevice size seen e → d ≡ e
same_device size seen d e h k = some_same d e (sym h ∙ k)

pub call_shown : (size : ℕ) (old new : DeskView) (call : ℕ) (o : Op) → is_disk_op o ≡ true → (c : IsCalled old new call o) (a : Answer)
    → first_answer call (event.Invoke call 0 o c.answer ∷ c.tail) ≡ Some a → IsIdleAfter size old.seen → IsShown size old.seen new.seen o a
call_shown size old new call o disk_op c a given idle = record {
  continues = λ device shows. let k = served_by size old new call o disk_op c a given idle device shows in (k.before, k.shows_before);
  serves = λ checked disk after was is.
      let k = served_by size old new call o disk_op c a given idle is.device is.shows in
      let same : k.before ≡ was.device = same_device size old.seen k.before was.device k.shows_before was.shows in
      subst (λ (d : List (List ℕ)). ServesSaid disk o a d) is.disk_is
      (subst (λ (d : List (List ℕ)). ServesSaid d o a is.device.blocks) (ap (λ (x : Ideal). x.blocks) same ∙ was.disk_is) (k.serves checked));
}

-- if no call waits after events, further events without an invocation or an arrival show nothing
pub nothing_more : (size : ℕ) (xs ys : List Event) (device : Ideal) → IsIdleAfter size xs → AllByRecursion IsOther ys → ShowsDevice size (xs ++ ys) device
    → ShowsDevice size xs device
nothing_more size xs ys device idle others h =
    let c = continues size xs ys device h in
    let kept : Kept (never_failing Block size) c.between = kept_ran (never_failing Block size) (trace xs) c.between c.shows_between in
    let none : trace_from c.tracks ys ≡ [] =
    idle_ran c.between device (trace_from c.tracks ys) kept.0 (idle c.between c.shows_between) (trace_answering ys c.tracks others) c.ran_on in
    let same : c.between ≡ device = ran_none c.between device (ap (ran c.between) (sym none) ∙ c.ran_on) in
    subst (ShowsDevice size xs) same c.shows_between
