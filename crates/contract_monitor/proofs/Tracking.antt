-- What is kept follows what is known, as long as each frame was handed up as it was popped.
use Rattle.std.proofs.Common.{◌≡◌, ◌≤◌, ◌==◌, ℕ, Bool, true, false, not, if◌then◌else◌, Option, Some, None, is_some, List, [], ◌∷◌, ◌++◌, length, map, drop, ◌&&◌, bytes_eq, refl, sym, ap, ap₂, ◌∙◌, subst, arith, length-append, nat_lt}
use Rattle.std.specs.List.{filter, fold}
use Rattle.std.proofs.lemmas.List.{drop-drop, drop-append-le}
use Rattle.std.proofs.lemmas.List.Sums.{fold-append}
use Rattle.nook_data.specs.declared.machine.Act.{Act}
use Rattle.nook_data.specs.declared.machine.Act.TheVariants as act
use Rattle.nook_data.specs.declared.calls.Answer.{Answer}
use Rattle.nook_data.specs.declared.calls.Answer.TheVariants as answer
use Rattle.nook_data.specs.declared.steps.End.{End}
use Rattle.nook_data.specs.declared.steps.End.TheVariants as end
use Rattle.nook_data.specs.declared.steps.Event.{Event}
use Rattle.nook_data.specs.declared.steps.Event.TheVariants as event
use Rattle.nook_data.specs.declared.steps.FailCause.{FailCause}
use Rattle.nook_data.specs.declared.calls.Op.{Op}
use Rattle.nook_data.specs.declared.calls.Op.TheVariants.{Read, Write, Send, Recv, Play, Get, Set}
use Rattle.nook_data.specs.declared.steps.Stage.{Stage}
use Rattle.nook_data.specs.declared.steps.Stage.TheVariants as stage
use Rattle.nook_data.specs.Answers.{one_answer}
use Rattle.nook_data.specs.declared.clause.Clause.{Clause}
use Rattle.nook_data.specs.declared.clause.Clause.TheVariants.{OutOfOrder}
use Rattle.promise_defs.specs.Contract.{Deed, Known, OpenCall, acts, known_after, after_deed, after_failure}
use Rattle.promise_defs.specs.Contract.{after_stage, call_of, crossing_deeds, deeds_of, hands_up, is_answered_in}
use Rattle.promise_defs.specs.Contract.{is_front, replays, replies}
use Rattle.nook_data.specs.Clauses.{clause_number}
use Rattle.promise_defs.proofs.PromiseChanges.{after_deeds}
use Rattle.contract_monitor.specs.Judging.{act_broken, event_broken, first_broken, least, reply_broken, reply_broken_of, smaller, unless}
use Rattle.contract_monitor.specs.Keeping.{kept_deed, shorter, shorter_after}
use Rattle.contract_monitor.specs.Monitors.{Tracks}
use Rattle.contract_monitor.proofs.Bursts.{acts_kept}
use Rattle.contract_monitor.proofs.Judged.{act_least, broken_first, broken_more, handed_first, replays_first, reply_first}

-- ---- the frames of the prefix

first_same : (a b : Bool) → a && b ≡ true → a ≡ true
first_same true b h = refl
first_same false b h = h

rest_same : (a b : Bool) → a && b ≡ true → b ≡ true
rest_same true b h = h
rest_same false b h = absurd cc

front_within : (xs ys : List (List ℕ)) → is_front xs ys ≡ true → length xs ≤ length ys
front_within [] ys h = omega arith
front_within (x ∷ xs) [] h = absurd cc
front_within (x ∷ xs) (y ∷ ys) h =
    let within = front_within xs ys (rest_same (bytes_eq x y) (is_front xs ys) h) in omega (arith, within)

front_more : (xs ys zs : List (List ℕ)) → is_front xs ys ≡ true → is_front xs (ys ++ zs) ≡ true
front_more [] ys zs h = refl
front_more (x ∷ xs) [] zs h = absurd cc
front_more (x ∷ xs) (y ∷ ys) zs h =
    rw (first_same (bytes_eq x y) (is_front xs ys) h) (front_more xs ys zs (rest_same (bytes_eq x y) (is_front xs ys) h))

-- one more frame extends the prefix exactly if it is the first after the prefix
front_next : (xs ys : List (List ℕ)) (x : List ℕ) → is_front xs ys ≡ true
    → is_front (x ∷ []) (drop (length xs) ys) ≡ is_front (xs ++ x ∷ []) ys
front_next [] ys x h = refl
front_next (z ∷ xs) [] x h = absurd cc
front_next (z ∷ xs) (y ∷ ys) x h =
    rw (first_same (bytes_eq z y) (is_front xs ys) h) (front_next xs ys x (rest_same (bytes_eq z y) (is_front xs ys) h))

drop_next : (xs ys : List (List ℕ)) (x : List ℕ) → drop 1 (drop (length xs) ys) ≡ drop (length (xs ++ x ∷ [])) ys
drop_next xs ys x = drop-drop 1 (length xs) ys ∙ ap (λ n. drop n ys) (sym (length-append xs (x ∷ [])))

-- ---- acts

pub act_front : (call : ℕ) (a : Act) (w : Known) → is_front w.handed w.popped ≡ true
    → is_front (after_deed call w (acts a)).handed (after_deed call w (acts a)).popped ≡ true
act_front call (act.Popped frame) w h = front_more w.handed w.popped (frame ∷ []) h
act_front call (act.Load block) w h = h
act_front call (act.Failed block store) w h = h
act_front call (act.Store block words) w h = h
act_front call (act.Sent frame) w h = h
act_front call (act.Played word rate volume) w h = h
act_front call (act.Register key value) w h = h

pub act_same : (call : ℕ) (a : Act) (w : Known) → is_front w.handed w.popped ≡ true
    → after_deed call (shorter w) (acts a) ≡ shorter (after_deed call w (acts a))
act_same call (act.Popped frame) w h =
    ap (λ frames. record (shorter w) { ring = drop 1 w.ring; popped = frames })
    (sym (drop-append-le (length w.handed) w.popped (frame ∷ []) (front_within w.handed w.popped h)))
act_same call (act.Load block) w h = refl
act_same call (act.Failed block store) w h = refl
act_same call (act.Store block words) w h = refl
act_same call (act.Sent frame) w h = refl
act_same call (act.Played word rate volume) w h = refl
act_same call (act.Register key value) w h = refl

pub act_judged : (w : Known) (c : Option OpenCall) (a : Act) → act_broken (shorter w) c a ≡ act_broken w c a
act_judged w c (act.Load block) = refl
act_judged w c (act.Failed block store) = refl
act_judged w c (act.Store block words) = refl
act_judged w c (act.Sent frame) = refl
act_judged w c (act.Popped frame) = refl
act_judged w c (act.Played word rate volume) = refl
act_judged w c (act.Register key value) = refl

acts_front : (call : ℕ) (done : List Act) (w : Known) → is_front w.handed w.popped ≡ true
    → is_front (after_deeds call w (map acts done)).handed (after_deeds call w (map acts done)).popped ≡ true
acts_front call [] w h = h
acts_front call (a ∷ done) w h = acts_front call done (after_deed call w (acts a)) (act_front call a w h)

acts_same : (call : ℕ) (done : List Act) (w : Known) → is_front w.handed w.popped ≡ true
    → after_deeds call (shorter w) (map acts done) ≡ shorter (after_deeds call w (map acts done))
acts_same call [] w h = refl
acts_same call (a ∷ done) w h =
    ap (λ k. after_deeds call k (map acts done)) (act_same call a w h)
    ∙ acts_same call done (after_deed call w (acts a)) (act_front call a w h)

acts_judged : (call : ℕ) (done : List Act) (w : Known) → is_front w.handed w.popped ≡ true
    → first_broken call (shorter w) (map acts done) ≡ first_broken call w (map acts done)
acts_judged call [] w h = refl
acts_judged call (a ∷ done) w h =
    let c : Option OpenCall = call_of call w.calls in
    let now : least (shorter w) c (acts a) ≡ least w c (acts a) =
    act_least (shorter w) c a ∙ (act_judged w c a ∙ sym (act_least w c a)) in
    let later : first_broken call (after_deed call (shorter w) (acts a)) (map acts done)
    ≡ first_broken call (after_deed call w (acts a)) (map acts done) =
    ap (λ k. first_broken call k (map acts done)) (act_same call a w h)
    ∙ acts_judged call done (after_deed call w (acts a)) (act_front call a w h) in
    broken_first call (shorter w) (acts a) (map acts done)
    ∙ (ap₂ smaller now later ∙ sym (broken_first call w (acts a) (map acts done)))

-- ---- crossings

reply_judged : (w : Known) (c : OpenCall) (o : Op) (a : Answer) → reply_broken (shorter w) c o a ≡ reply_broken w c o a
reply_judged w c (Write first words) answer.Done = refl
reply_judged w c (Read first count) (answer.Blocks words) = refl
reply_judged w c (Send frame) answer.Done = refl
reply_judged w c Recv a = refl
reply_judged w c (Play samples) answer.Done = refl
reply_judged w c (Set key value) answer.Done = refl
reply_judged w c (Get key) (answer.Value word) = refl
reply_judged w c (Read first count) (answer.IoError block) = refl
reply_judged w c (Write first words) (answer.IoError block) = refl
reply_judged w c o a = refl

found_judged : (w : Known) (c : Option OpenCall) (a : Answer) → reply_broken_of (shorter w) c a ≡ reply_broken_of w c a
found_judged w None a = refl
found_judged w (Some c) a = reply_judged w c c.op a

-- deeds break the same clauses in what is kept as in what is known, and have the same effect; if they break nothing,
-- each frame was handed up as it was popped
pub record Crossed (call : ℕ) (ds : List Deed) (w : Known) : Type 0 where
  pub broken : first_broken call (shorter w) ds ≡ first_broken call w ds
  pub same : fold (kept_deed call) (shorter w) ds ≡ shorter (after_deeds call w ds)
  pub front : first_broken call w ds ≡ None → is_front (after_deeds call w ds).handed (after_deeds call w ds).popped ≡ true

kept_if : (b : Bool) (clause : Clause) → unless b clause ≡ None → b ≡ true
kept_if true clause h = refl
kept_if false clause h = absurd cc

nothing : (call : ℕ) (w : Known) → is_front w.handed w.popped ≡ true → Crossed call [] w
nothing call w h = record { broken = refl; same = refl; front = λ _. h }

handed : (call : ℕ) (frame : List ℕ) (w : Known) → is_front w.handed w.popped ≡ true → Crossed call (hands_up frame ∷ []) w
handed call frame w h = record {
  broken = handed_first call (shorter w) frame
      ∙ (ap (λ b. unless b OutOfOrder) (front_next w.handed w.popped frame h) ∙ sym (handed_first call w frame));
  same = ap (λ frames. record (shorter (after_deed call w (hands_up frame))) { popped = frames }) (drop_next w.handed w.popped frame);
  front = λ none. kept_if (is_front (w.handed ++ frame ∷ []) w.popped) OutOfOrder (sym (handed_first call w frame) ∙ none);
}

replied : (call : ℕ) (a : Answer) (w : Known) → is_front w.handed w.popped ≡ true → Crossed call (replies a ∷ []) w
replied call a w h = record {
  broken = reply_first call (shorter w) a ∙ (found_judged w (call_of call w.calls) a ∙ sym (reply_first call w a));
  same = refl;
  front = λ _. h;
}

replayed : (call : ℕ) (w : Known) → is_front w.handed w.popped ≡ true → Crossed call (replays ∷ []) w
replayed call w h = record {
  broken = replays_first call (shorter w) ∙ sym (replays_first call w);
  same = refl;
  front = λ _. h;
}

served : (up : Bool) (call : ℕ) (moved : List ℕ) (w : Known) → is_front w.handed w.popped ≡ true
    → Crossed call (if up then hands_up moved ∷ [] else []) w
served true call moved w h = handed call moved w h
served false call moved w h = nothing call w h

pub crossed : (call : ℕ) (e : End) (a : Option Answer) (failure : Option FailCause) (w : Known) → is_front w.handed w.popped ≡ true
    → Crossed call (crossing_deeds e a failure) w
crossed call (end.Service number first second result moved) a failure w h = served (number == 6 && is_some result) call moved w h
crossed call (end.Reply status) (Some a) None w h = replied call a w h
crossed call (end.Reply status) None None w h = replayed call w h
crossed call (end.Reply status) (Some a) (Some cause) w h = nothing call w h
crossed call (end.Reply status) None (Some cause) w h = nothing call w h
crossed call end.Pause a failure w h = nothing call w h
crossed call end.Trap a failure w h = nothing call w h

pub some_chosen : (t : Bool) (a b : Clause) → (if t then Some b else Some a) ≡ None → ⊥
some_chosen true a b h = cc
some_chosen false a b h = cc

pub second_none : (a b : Option Clause) → smaller a b ≡ None → b ≡ None
second_none None b h = h
second_none (Some a) None h = refl
second_none (Some a) (Some b) h = absurd (some_chosen (nat_lt (clause_number b) (clause_number a)) a b h)

-- the deeds of a burst
burst_crossed : (call : ℕ) (done : List Act) (e : End) (a : Option Answer) (failure : Option FailCause) (w : Known)
    → is_front w.handed w.popped ≡ true → Crossed call (deeds_of done e a failure) w
burst_crossed call done e a failure w h =
    let first : List Deed = map acts done in
    let last : List Deed = crossing_deeds e a failure in
    let reached : Known = after_deeds call w first in
    let c = crossed call e a failure reached (acts_front call done w h) in
    let all : after_deeds call w (first ++ last) ≡ after_deeds call reached last = fold-append (after_deed call) w first last in
    record {
      broken = broken_more call (shorter w) first last
          ∙ (ap₂ smaller (acts_judged call done w h) (ap (λ k. first_broken call k last) (acts_same call done w h) ∙ c.broken)
          ∙ sym (broken_more call w first last));
      same = fold-append (kept_deed call) (shorter w) first last
          ∙ (ap (λ k. fold (kept_deed call) k last) (acts_kept call (shorter w) done ∙ acts_same call done w h)
          ∙ (c.same ∙ ap shorter (sym all)));
      front = λ none. subst (λ k. is_front k.handed k.popped ≡ true) (sym all)
          (c.front (second_none (first_broken call w first) (first_broken call reached last) (sym (broken_more call w first last) ∙ none)));
    }

-- ---- events

-- an event breaks the same clauses in what is kept as in the whole, and what is kept still follows the whole
record Together (e : Event) (w : Known) : Type 0 where
  broken : event_broken (shorter w) e ≡ event_broken w e
  same : shorter_after (shorter w) e ≡ shorter (known_after w e)
  front : event_broken w e ≡ None → is_front (known_after w e).handed (known_after w e).popped ≡ true

abbrev closed : Option FailCause → List (ℕ × Answer) → Known → Known
closed failure answers k =
    record (after_failure failure k) { calls = filter (λ c. not (is_answered_in answers c)) (after_failure failure k).calls }

closed_shorter : (failure : Option FailCause) (answers : List (ℕ × Answer)) (k : Known) →
    shorter (closed failure answers k) ≡ closed failure answers (shorter k)
closed_shorter None answers k = refl
closed_shorter (Some cause) answers k = refl

closed_front : (failure : Option FailCause) (answers : List (ℕ × Answer)) (k : Known) → is_front k.handed k.popped ≡ true
    → is_front (closed failure answers k).handed (closed failure answers k).popped ≡ true
closed_front None answers k h = h
closed_front (Some cause) answers k h = h

burst_together : (context call burst count : ℕ) (e : End) (done : List Act) (a : Option Answer) (failure : Option FailCause) (w : Known)
    → is_front w.handed w.popped ≡ true → Together (event.Burst context call burst count e done a failure) w
burst_together context call burst count e done a failure w h =
    let c = burst_crossed call done e a failure w h in
    let answers : List (ℕ × Answer) = one_answer call a in
    record {
      broken = c.broken;
      same = ap (closed failure answers) c.same
          ∙ sym (closed_shorter failure answers (after_deeds call w (deeds_of done e a failure)));
      front = λ none. closed_front failure answers (after_deeds call w (deeds_of done e a failure)) (c.front none);
    }

stage_together : (s : Stage) (answers : List (ℕ × Answer)) (w : Known) → is_front w.handed w.popped ≡ true
    → record (after_stage s (shorter w)) { calls = filter (λ c. not (is_answered_in answers c)) (after_stage s (shorter w)).calls }
    ≡ shorter (record (after_stage s w) { calls = filter (λ c. not (is_answered_in answers c)) (after_stage s w).calls })
stage_together stage.Load answers w h = refl
stage_together stage.Stop answers w h = refl
stage_together stage.Reset answers w h = refl
stage_together (stage.ReplaySet key value) answers w h = refl
stage_together s answers w h = refl

stage_front : (s : Stage) (w : Known) → is_front w.handed w.popped ≡ true
    → is_front (after_stage s w).handed (after_stage s w).popped ≡ true
stage_front stage.Load w h = refl
stage_front stage.Stop w h = h
stage_front stage.Reset w h = h
stage_front (stage.ReplaySet key value) w h = h
stage_front s w h = h

event_together : (e : Event) (w : Known) → is_front w.handed w.popped ≡ true → Together e w
event_together (event.Invoke call thread o a) w h = record { broken = refl; same = refl; front = λ _. h }
event_together (event.Enter call thread attempt a) w h = record { broken = refl; same = refl; front = λ _. h }
event_together (event.Burst context call burst count e done a failure) w h = burst_together context call burst count e done a failure w h
event_together (event.Stage s answers released) w h =
    record { broken = refl; same = stage_together s answers w h; front = λ _. stage_front s w h }
event_together (event.Arrive frame kept) w h = record { broken = refl; same = refl; front = λ _. h }

-- what is kept follows the whole over one more event
pub clause_tracked : (e : Event) (k w : Known) → Tracks k w → event_broken k e ≡ event_broken w e
clause_tracked e k w t = ap (λ x. event_broken x e) t.same ∙ (event_together e w t.front).broken

pub tracked : (e : Event) (k w : Known) → Tracks k w → event_broken k e ≡ None → Tracks (shorter_after k e) (known_after w e)
tracked e k w t none = record {
  same = ap (λ x. shorter_after x e) t.same ∙ (event_together e w t.front).same;
  front = (event_together e w t.front).front (sym (clause_tracked e k w t) ∙ none);
}
