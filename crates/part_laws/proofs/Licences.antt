-- Over orderly events losses are licensed if the fold of the contract licenses them.
use Rattle.std.proofs.Common.{◌≡◌, ◌⊎◌, inl, inr, ℕ, suc, ◌+◌, not, Bool, true, false, Option, Some, None, List, [], ◌∷◌, ◌++◌, map, length, sym, refl, ap, ap₂, ◌∙◌, subst, arith, option_map, is_some, eqb-true}
use Rattle.std.specs.Prelude.{◌==◌, ◌&&◌, ◌||◌, nat_lt, is_none}
use Rattle.std.specs.List.{list_any}
use Rattle.std.proofs.lemmas.Bool.{eq-eqb, ne_eqb}
use Rattle.nook_data.specs.declared.machine.Act.{Act}
use Rattle.nook_data.specs.declared.calls.Answer.{Answer}
use Rattle.nook_data.specs.declared.calls.Answer.TheVariants as answer
use Rattle.nook_data.specs.declared.steps.End.{End}
use Rattle.nook_data.specs.declared.steps.End.TheVariants as end
use Rattle.nook_data.specs.declared.steps.Event.{Event}
use Rattle.nook_data.specs.declared.steps.Event.TheVariants as event
use Rattle.nook_data.specs.declared.steps.FailCause.{FailCause}
use Rattle.nook_data.specs.declared.calls.Op.{Op}
use Rattle.nook_data.specs.declared.calls.Op.TheVariants as op
use Rattle.nook_data.specs.declared.steps.Stage.{Stage}
use Rattle.nook_data.specs.declared.steps.Stage.TheVariants as stage
use Rattle.part_laws.specs.Watch.{Watch, Watched, enters, leaves, sees, sees_acts, sees_crossing, watched}
use Rattle.nook_data.specs.Frames.{is_empty, is_empty as was_empty}
use Rattle.part_laws.specs.Allowed.{allows as allowed, allows_each, allows_event, allows_option, has_failed as had_failed, is_served as was_served, is_served_found, licenses as allows_at, licensed_from as allowed_from}
use Rattle.promise_defs.specs.Licence.{is_stage, shadow_stage}
use Rattle.nook_data.specs.Numbered.{at_number, change_number}
use Rattle.part_defs.specs.Runs.{state_after, step_of}
use Rattle.part_defs.specs.State.{PartState}
use Rattle.part_laws.proofs.Indices.{split}
use Rattle.nook_data.specs.Answers.{answers_of, one_answer}
use Rattle.promise_defs.specs.Contract.{Known, OpenCall, known_after, after_failure, call_of, change_call}
use Rattle.promise_defs.specs.Contract.{crossing_deeds, deeds_of, during}
use Rattle.promise_defs.proofs.PromiseChanges.{after_deeds, enter_call}
use Rattle.promise_defs.specs.Licence.{allows, is_served_call, licenses, is_licensed_from, refuses}
use Rattle.promise_defs.proofs.PromiseCases.{has_failed, is_served}
use Rattle.part_laws.specs.Orderly.{AreOwn, IsFitting, IsOfCall, IsOrderlyFrom, flags_after, is_open}
use Rattle.part_laws.proofs.Breaks.{SeesAlike, event_alike}
use Rattle.part_laws.proofs.Deeds.{acts_known, own_call, own_change}
use Rattle.part_laws.proofs.Known.{known_of}
use Rattle.part_laws.proofs.Picked.{AreShut, at_one, change_at, change_one, find_at, opened_call, picked, picked_left, picked_push}
use Rattle.part_laws.proofs.Replies.{same_empty}

-- ---- a call that is the same, except for whether it is Inside

abbrev Alike : Watched → Watched → Type 0
Alike c d = (c.op ≡ d.op) × (c.sent ≡ d.sent) × (c.played ≡ d.played) × (c.failed ≡ d.failed)

abbrev BothAlike : Option Watched → Option Watched → Type 0
BothAlike None None = Unit {0}
BothAlike None (Some d) = ⊥
BothAlike (Some c) None = ⊥
BothAlike (Some c) (Some d) = Alike c d

alike_same : (o : Option Watched) → BothAlike o o
alike_same None = tt
alike_same (Some c) = (refl, refl, refl, refl)

found_changed : (f g : Watched → Watched) → ((c : Watched) → Alike (f c) (g c)) → (number first : ℕ) (ws : List Watched)
    → BothAlike (find_at number first (change_at f number first ws)) (find_at number first (change_at g number first ws))
found_changed f g h number first [] = tt
found_changed f g h number first (w ∷ ws) = split (first == number)
    (λ e. rw e (h w))
    (λ e. rw e (found_changed f g h number (suc first) ws))

found_after : (g : Watched → Watched) → ((c : Watched) → Alike c (g c)) → (number first : ℕ) (ws : List Watched)
    → BothAlike (find_at number first ws) (find_at number first (change_at g number first ws))
found_after g h number first [] = tt
found_after g h number first (w ∷ ws) = split (first == number)
    (λ e. rw e (h w))
    (λ e. rw e (found_after g h number (suc first) ws))

changed_alike : (f g : Watched → Watched) → ((c : Watched) → Alike (f c) (g c)) → (number : ℕ) (ws : List Watched)
    → BothAlike (at_number number (change_number f number ws)) (at_number number (change_number g number ws))
changed_alike f g h number ws =
    rw (at_one number (change_number f number ws), at_one number (change_number g number ws), change_one f number ws, change_one g number ws)
    (found_changed f g h number 1 ws)

after_alike : (g : Watched → Watched) → ((c : Watched) → Alike c (g c)) → (number : ℕ) (ws : List Watched)
    → BothAlike (at_number number ws) (at_number number (change_number g number ws))
after_alike g h number ws =
    rw (at_one number (change_number g number ws), change_one g number ws, at_one number ws) (found_after g h number 1 ws)

-- ---- one answer

served_alike : (n : ℕ) (c d : Watched) (o p : Op) → o ≡ p → Alike c d → is_served o (opened_call n c) ≡ was_served p d
served_alike n c d o p e a = subst (λ q. is_served o (opened_call n c) ≡ was_served q d) e (by_op o)
  where
    by_op : (o : Op) → is_served o (opened_call n c) ≡ was_served o d
    by_op (op.Send frame) = ap (λ m. nat_lt 0 m) a.1
    by_op (op.Play samples) = ap (λ m. m == length samples) a.2
    by_op (op.Read first count) = refl
    by_op (op.Write first words) = refl
    by_op op.Recv = refl
    by_op op.Open = refl
    by_op op.Close = refl
    by_op (op.Get key) = refl
    by_op (op.Set key value) = refl

call_served : (n : ℕ) (x y : Option Watched) → BothAlike x y → is_served_call (option_map (opened_call n) x) ≡ is_served_found y
call_served n None None a = refl
call_served n None (Some d) a = absurd a
call_served n (Some c) None a = absurd a
call_served n (Some c) (Some d) a = served_alike n c d c.op d.op a.0 a

call_failed : (n block : ℕ) (x y : Option Watched) → BothAlike x y → has_failed block (option_map (opened_call n) x) ≡ had_failed block y
call_failed n block None None a = refl
call_failed n block None (Some d) a = absurd a
call_failed n block (Some c) None a = absurd a
call_failed n block (Some c) (Some d) a = ap (λ l. had_failed block (Some (record c { failed = l }))) a.3

-- an answer to an open call, by what is known with the event and by the fold after it
answer_alike : (shadow : Option Stage) (queue : List (List ℕ)) (flags : List Bool) (w v : Watch) (call : ℕ) (a : Answer)
    → w.ring ≡ v.ring → is_open call 1 flags ≡ true → BothAlike (at_number call w.calls) (at_number call v.calls)
    → allows shadow queue (known_of flags w) call a ≡ allowed shadow queue v call a
answer_alike shadow queue flags w v call a r o same = by_answer a
  where
    own : call_of call (picked 1 flags w.calls) ≡ option_map (opened_call call) (at_number call w.calls)
    own = own_call flags call w.calls (inr o)

    by_answer : (a : Answer) → allows shadow queue (known_of flags w) call a ≡ allowed shadow queue v call a
    by_answer answer.Done = ap (λ b. is_some shadow || b)
        (ap is_served_call own ∙ call_served call (at_number call w.calls) (at_number call v.calls) same)
    by_answer (answer.Busy s) = refl
    by_answer answer.Empty = ap (λ b. is_some shadow || was_empty queue && b) (same_empty w.ring ∙ ap was_empty r)
        ∙ refl
    by_answer (answer.IoError block) = ap (λ b. is_none shadow && b)
        (ap (has_failed block) own ∙ call_failed call block (at_number call w.calls) (at_number call v.calls) same)
    by_answer a = refl

not_none : (b : Bool) → not (not b || false) ≡ b
not_none true = refl
not_none false = refl

-- an event that answers one call, or none
one_alike : (shadow : Option Stage) (queue : List (List ℕ)) (k : Known) (v : Watch) (call : ℕ) (a : Option Answer)
    → ((x : Answer) → a ≡ Some x → allows shadow queue k call x ≡ allowed shadow queue v call x)
    → not (list_any (refuses shadow queue k) (one_answer call a)) ≡ allows_option shadow queue v call a
one_alike shadow queue k v call None h = refl
one_alike shadow queue k v call (Some x) h = not_none (allows shadow queue k call x) ∙ h x refl

not_either : (a b : Bool) → not (not a || b) ≡ (a && not b)
not_either true b = refl
not_either false b = refl

-- the answers of a Stop
all_alike : (shadow : Option Stage) (queue : List (List ℕ)) (flags : List Bool) (w : Watch) (answers : List (ℕ × Answer)) → AreOwn flags answers
    → not (list_any (refuses shadow queue (known_of flags w)) answers) ≡ allows_each shadow queue w answers
all_alike shadow queue flags w [] h = refl
all_alike shadow queue flags w (a ∷ answers) h =
    not_either (allows shadow queue (known_of flags w) a.0 a.1) (list_any (refuses shadow queue (known_of flags w)) answers)
    ∙ ap₂ ◌&&◌ (answer_alike shadow queue flags w w a.0 a.1 refl h.0 (alike_same (at_number a.0 w.calls)))
    (all_alike shadow queue flags w answers h.2)

-- ---- events

last_open : (first : ℕ) (flags : List Bool) → is_open (first + length flags) first (flags ++ true ∷ []) ≡ true
last_open first [] = rw (eq-eqb first (first + 0) (omega arith)) refl
last_open first (o ∷ flags) =
    rw (ne_eqb first (first + suc (length flags)) (λ e. omega (arith, e)))
    (ap (λ n. is_open n (suc first) (flags ++ true ∷ [])) (omega arith) ∙ last_open (suc first) flags)

invoke_licensed : (shadow : Option Stage) (queue : List (List ℕ)) (flags : List Bool) (w : Watch) (call thread : ℕ) (o : Op) (a : Option Answer)
    → AreShut flags w.calls → call ≡ suc (length flags)
    → not (list_any (refuses shadow queue (during (known_of flags w) (event.Invoke call thread o a))) (one_answer call a))
    ≡ allows_option shadow queue (sees w (event.Invoke call thread o a)) call a
invoke_licensed shadow queue flags w call thread o a s h =
    subst (λ k. not (list_any (refuses shadow queue k) (one_answer call a)) ≡ allows_option shadow queue next call a) (sym same)
    (one_alike shadow queue (known_of (flags ++ true ∷ []) next) next call a
    (λ x e. answer_alike shadow queue (flags ++ true ∷ []) next next call x refl
    (ap (λ n. is_open n 1 (flags ++ true ∷ [])) number ∙ last_open 1 flags) (alike_same (at_number call next.calls))))
  where
    next : Watch
    next = sees w (event.Invoke call thread o a)

    number : call ≡ 1 + length flags
    number = omega (arith, h)

    same : during (known_of flags w) (event.Invoke call thread o a) ≡ known_of (flags ++ true ∷ []) next
    same = ap (λ l. record (known_of flags w) { calls = l })
        (ap (λ n. picked 1 flags w.calls ++ opened_call n (watched o) ∷ []) number ∙ picked_push 1 flags w.calls (watched o) s)

enters_alike : (b : Bool) (c : Watched) → Alike (enters true c) (enters b c)
enters_alike b c = (refl, refl, refl, refl)

enter_licensed : (shadow : Option Stage) (queue : List (List ℕ)) (flags : List Bool) (w : Watch) (call thread attempt : ℕ) (a : Option Answer)
    → is_open call 1 flags ≡ true
    → not (list_any (refuses shadow queue (during (known_of flags w) (event.Enter call thread attempt a))) (one_answer call a))
    ≡ allows_option shadow queue (sees w (event.Enter call thread attempt a)) call a
enter_licensed shadow queue flags w call thread attempt a h =
    subst (λ k. not (list_any (refuses shadow queue k) (one_answer call a)) ≡ allows_option shadow queue next call a) (sym same)
    (one_alike shadow queue (known_of flags entered) next call a
    (λ x e. answer_alike shadow queue flags entered next call x refl h
    (changed_alike (enters true) (enters (is_none a)) (enters_alike (is_none a)) call w.calls)))
  where
    next : Watch
    next = sees w (event.Enter call thread attempt a)

    entered : Watch
    entered = record w { calls = change_number (enters true) call w.calls }

    same : during (known_of flags w) (event.Enter call thread attempt a) ≡ known_of flags entered
    same = ap (λ l. record (known_of flags w) { calls = l }) (own_change enter_call (enters true) (λ n c. refl) call flags w.calls)

leaves_alike : (c : Watched) → Alike c (leaves c)
leaves_alike c = (refl, refl, refl, refl)

burst_licensed : (shadow : Option Stage) (queue : List (List ℕ)) (flags : List Bool) (w : Watch) (context call burst count : ℕ) (e : End) (done : List Act)
    (a : Option Answer) (failure : Option FailCause) → AreShut flags w.calls → IsFitting flags (event.Burst context call burst count e done a failure)
    → not (list_any (refuses shadow queue (during (known_of flags w) (event.Burst context call burst count e done a failure))) (one_answer call a))
    ≡ allows_option shadow queue (sees w (event.Burst context call burst count e done a failure)) call a
burst_licensed shadow queue flags w context call burst count e done None failure s h = refl
burst_licensed shadow queue flags w context call burst count (end.Service number first second result moved) done (Some x) failure s h = absurd h.2
burst_licensed shadow queue flags w context call burst count end.Pause done (Some x) failure s h = absurd h.2
burst_licensed shadow queue flags w context call burst count end.Trap done (Some x) failure s h = absurd h.2
burst_licensed shadow queue flags w context call burst count (end.Reply status) done (Some x) (Some cause) s h = absurd h.2
burst_licensed shadow queue flags w context call burst count (end.Reply status) done (Some x) None s h =
    subst (λ k. not (list_any (refuses shadow queue k) (one_answer call (Some x))) ≡ allows_option shadow queue next call (Some x))
    (sym (acts_known flags call (crossing_deeds (end.Reply status) (Some x) None) done w s))
    (one_alike shadow queue (known_of flags acted) next call (Some x)
    (λ y e. answer_alike shadow queue flags acted next call y refl h.1.0
    (after_alike leaves leaves_alike call acted.calls)))
  where
    acted : Watch
    acted = sees_acts call done w

    next : Watch
    next = sees w (event.Burst context call burst count (end.Reply status) done (Some x) None)

-- only Stop answers calls
none_licensed : (shadow : Option Stage) (queue : List (List ℕ)) (k : Known) (v : Watch) (answers : List (ℕ × Answer)) → answers ≡ []
    → not (list_any (refuses shadow queue k) answers) ≡ allows_each shadow queue v answers
none_licensed shadow queue k v answers e =
    subst (λ l. not (list_any (refuses shadow queue k) l) ≡ allows_each shadow queue v l) (sym e) refl

stage_licensed : (shadow : Option Stage) (queue : List (List ℕ)) (flags : List Bool) (w : Watch) (t : Stage) (answers : List (ℕ × Answer)) (released : _)
    → IsFitting flags (event.Stage t answers released)
    → not (list_any (refuses shadow queue (during (known_of flags w) (event.Stage t answers released))) answers)
    ≡ allows_each shadow queue (sees w (event.Stage t answers released)) answers
stage_licensed shadow queue flags w stage.Stop answers released h =
    ap (λ l. not (list_any (refuses shadow queue (record (known_of flags w) { calls = l })) answers)) (picked_left 1 flags w.calls)
    ∙ all_alike shadow queue flags (sees w (event.Stage stage.Stop answers released)) answers h.1
stage_licensed shadow queue flags w stage.Collect answers released h = none_licensed shadow queue
    (during (known_of flags w) (event.Stage stage.Collect answers released)) (sees w (event.Stage stage.Collect answers released)) answers h.0
stage_licensed shadow queue flags w stage.Reset answers released h = none_licensed shadow queue
    (during (known_of flags w) (event.Stage stage.Reset answers released)) (sees w (event.Stage stage.Reset answers released)) answers h.0
stage_licensed shadow queue flags w stage.Load answers released h = none_licensed shadow queue
    (during (known_of flags w) (event.Stage stage.Load answers released)) (sees w (event.Stage stage.Load answers released)) answers h.0
stage_licensed shadow queue flags w stage.Init answers released h = none_licensed shadow queue
    (during (known_of flags w) (event.Stage stage.Init answers released)) (sees w (event.Stage stage.Init answers released)) answers h.0
stage_licensed shadow queue flags w (stage.ReplaySet key value) answers released h = none_licensed shadow queue
    (during (known_of flags w) (event.Stage (stage.ReplaySet key value) answers released)) (sees w (event.Stage (stage.ReplaySet key value) answers released)) answers h.0
stage_licensed shadow queue flags w stage.ReplayOpen answers released h = none_licensed shadow queue
    (during (known_of flags w) (event.Stage stage.ReplayOpen answers released)) (sees w (event.Stage stage.ReplayOpen answers released)) answers h.0
stage_licensed shadow queue flags w stage.Resume answers released h = none_licensed shadow queue
    (during (known_of flags w) (event.Stage stage.Resume answers released)) (sees w (event.Stage stage.Resume answers released)) answers h.0

event_licensed : (p : PartState) (flags : List Bool) (w : Watch) (e : Event) → AreShut flags w.calls → IsFitting flags e
    → licenses p (during (known_of flags w) e) e ≡ allows_at p (sees w e) e
event_licensed p flags w (event.Invoke call thread o a) s h =
    invoke_licensed (shadow_stage p.mode (event.Invoke call thread o a)) p.queue flags w call thread o a s h
event_licensed p flags w (event.Enter call thread attempt a) s h = enter_licensed None p.queue flags w call thread attempt a h
event_licensed p flags w (event.Burst context call burst count e done a failure) s h =
    burst_licensed None p.queue flags w context call burst count e done a failure s h
event_licensed p flags w (event.Stage t answers released) s h =
    stage_licensed (shadow_stage p.mode (event.Stage t answers released)) p.queue flags w t answers released h
event_licensed p flags w (event.Arrive frame kept) s h = refl

pub licensed_alike : (p : PartState) (flags : List Bool) (w : Watch) (events : List Event) → AreShut flags w.calls → IsOrderlyFrom flags events
    → is_licensed_from p (known_of flags w) events ≡ allowed_from p w events
unfolding is_licensed_from allowed_from
licensed_alike p flags w [] s h = refl
licensed_alike p flags w (e ∷ events) s h =
    let alike : SeesAlike flags w e = event_alike flags w e s h.0 in
    ap₂ ◌&&◌ (event_licensed p flags w e s h.0)
    (ap (λ k. is_licensed_from (state_after p (step_of e)) k events) alike.known
    ∙ licensed_alike (state_after p (step_of e)) (flags_after flags e) (sees w e) events alike.shut h.1)
