-- Over orderly events the first break is the one that a monitor finds first.
use Rattle.std.proofs.Common.{◌≡◌, ◌⊎◌, inl, inr, ℕ, suc, ◌+◌, not, Bool, true, false, Option, Some, None, List, [], ◌∷◌, ◌++◌, map, length, filter, sym, refl, ap, ◌∙◌, subst, arith, is_none}
use Rattle.std.specs.Prelude.{◌==◌, ◌&&◌, is_some, if◌then◌else◌}
use Rattle.nook_data.specs.declared.machine.Act.{Act}
use Rattle.nook_data.specs.declared.calls.Answer.{Answer}
use Rattle.nook_data.specs.declared.verdicts.Break.{Break}
use Rattle.nook_data.specs.declared.classes.Class.{Class}
use Rattle.nook_data.specs.declared.steps.End.{End}
use Rattle.nook_data.specs.declared.steps.End.TheVariants as end
use Rattle.nook_data.specs.declared.steps.Event.{Event}
use Rattle.nook_data.specs.declared.steps.Event.TheVariants as event
use Rattle.nook_data.specs.declared.steps.FailCause.{FailCause}
use Rattle.nook_data.specs.declared.steps.Stage.{Stage}
use Rattle.nook_data.specs.declared.steps.Stage.TheVariants as stage
use Rattle.part_laws.specs.Watch.{Watch, Watched, break_at, enters, first_watch, handed_one, leaves, sees, sees_acts, sees_crossing, sees_stage, watched, break_from as watched_from, watched_break as watched_first}
use Rattle.nook_data.specs.Numbered.{change_number}
use Rattle.part_laws.proofs.Indices.{split}
use Rattle.nook_data.specs.Answers.{answers_of, one_answer}
use Rattle.nook_data.specs.declared.clause.Clause.{Clause}
use Rattle.promise_defs.specs.Contract.{Known, OpenCall, known_after, after_failure, break_from, broken, change_call}
use Rattle.promise_defs.specs.Contract.{crossing_deeds, deeds_of, during, first_break, is_answered_in, is_broken_by}
use Rattle.promise_defs.specs.Contract.{known_first, acts}
use Rattle.nook_data.specs.Clauses.{all_clauses}
use Rattle.promise_defs.proofs.PromiseChanges.{after_deeds, break_or, enter_call, handed_frame}
use Rattle.part_laws.specs.Orderly.{IsCrossing, IsFitting, IsOfCall, IsOrderlyFrom, flags_after, flags_during, kept_from}
use Rattle.part_laws.proofs.Deeds.{acts_broken, acts_known, acts_shut, crossing_broken, own_change, own_shut}
use Rattle.part_laws.proofs.Known.{known_of, smallest_by}
use Rattle.part_laws.proofs.Picked.{AreShut, change_at, change_one, kept_new, kept_none, opened_call, picked, picked_answered, picked_change, picked_kept, picked_left, picked_push, shut_answered, shut_change, shut_left, shut_open, shut_push}
use Rattle.part_laws.proofs.Smallest.{first_is_smallest, smallest_or}

-- what is known without the calls that were answered
abbrev without : List (ℕ × Answer) → Known → Known
without answers k = record k { calls = filter (λ c. not (is_answered_in answers c)) k.calls }

kept_known : (answers : List (ℕ × Answer)) (flags : List Bool) (w : Watch)
    → without answers (known_of flags w) ≡ known_of (kept_from 1 answers flags) w
kept_known answers flags w = ap (λ l. record (known_of flags w) { calls = l }) (picked_kept answers 1 flags w.calls)

-- an answered call may change before it is removed
kept_changed : (f : Watched → Watched) (call : ℕ) (a : Answer) (flags : List Bool) (ws : List Watched)
    → picked 1 (kept_from 1 ((call, a) ∷ []) flags) ws ≡ picked 1 (kept_from 1 ((call, a) ∷ []) flags) (change_number f call ws)
kept_changed f call a flags ws =
    sym (picked_answered f call 1 a flags ws)
    ∙ ap (picked 1 (kept_from 1 ((call, a) ∷ []) flags)) (sym (change_one f call ws))

-- ---- crossings

crossing_known : (flags : List Bool) (call : ℕ) (e : End) (a : Option Answer) (failure : Option FailCause) (w : Watch) → IsCrossing e a failure
    → without (one_answer call a) (after_failure failure (after_deeds call (known_of flags w) (crossing_deeds e a failure)))
    ≡ known_of (kept_from 1 (one_answer call a) flags) (sees_crossing call e a failure w)
crossing_known flags call (end.Service number first second result moved) (Some a) failure w h = absurd h
crossing_known flags call (end.Service number first second (Some result) moved) None (Some cause) w h = absurd h
crossing_known flags call (end.Service number first second None moved) None (Some cause) w h =
    rw (no_service (number == 6)) (kept_known [] flags (record w { replay = None }))
  where
    no_service : (b : Bool) → (b && false) ≡ false
    no_service true = refl
    no_service false = refl
crossing_known flags call (end.Service number first second result moved) None None w h = split (number == 6 && is_some result)
    (λ e. rw e
    (ap (λ l. without [] (record (known_of flags w) { handed = w.handed ++ moved ∷ []; calls = l }))
    (own_change handed_frame handed_one (λ n c. refl) call flags w.calls)
    ∙ kept_known [] flags (record w { handed = w.handed ++ moved ∷ []; calls = change_number handed_one call w.calls })))
    (λ e. rw e (kept_known [] flags w))
crossing_known flags call (end.Reply status) (Some a) (Some cause) w h = absurd h
crossing_known flags call (end.Reply status) None (Some cause) w h = kept_known [] flags (record w { replay = None })
crossing_known flags call (end.Reply status) (Some a) None w h =
    kept_known ((call, a) ∷ []) flags w
    ∙ ap (λ l. record (known_of flags w) { calls = l }) (kept_changed leaves call a flags w.calls)
crossing_known flags call (end.Reply status) None None w h = kept_known [] flags (record w { replay = None })
crossing_known flags call end.Pause (Some a) failure w h = absurd h
crossing_known flags call end.Pause None (Some cause) w h = kept_known [] flags (record w { replay = None })
crossing_known flags call end.Pause None None w h = kept_known [] flags w
crossing_known flags call end.Trap (Some a) failure w h = absurd h
crossing_known flags call end.Trap None (Some cause) w h = kept_known [] flags (record w { replay = None })
crossing_known flags call end.Trap None None w h = kept_known [] flags w

shut_none : (flags : List Bool) (ws : List Watched) → AreShut flags ws → AreShut (kept_from 1 [] flags) ws
shut_none flags ws s = subst (λ f. AreShut f ws) (sym (kept_none 1 flags)) s

shut_one : (f : Watched → Watched) → ((w : Watched) → (f w).inside ≡ false) → (call : ℕ) (a : Answer) (flags : List Bool) (ws : List Watched)
    → AreShut flags ws → AreShut (kept_from 1 ((call, a) ∷ []) flags) (change_number f call ws)
shut_one f h call a flags ws s =
    subst (AreShut (kept_from 1 ((call, a) ∷ []) flags)) (sym (change_one f call ws)) (shut_answered f h call 1 a flags ws s)

crossing_shut : (flags : List Bool) (call : ℕ) (e : End) (a : Option Answer) (failure : Option FailCause) (w : Watch) → IsCrossing e a failure
    → AreShut flags w.calls → AreShut (kept_from 1 (one_answer call a) flags) (sees_crossing call e a failure w).calls
crossing_shut flags call (end.Service number first second result moved) (Some a) failure w h s = absurd h
crossing_shut flags call (end.Service number first second result moved) None (Some cause) w h s = shut_none flags w.calls s
crossing_shut flags call (end.Service number first second result moved) None None w h s = split (number == 6 && is_some result)
    (λ e. rw e (shut_none flags (change_number handed_one call w.calls) (own_shut handed_one (λ c i. i) call flags w.calls s)))
    (λ e. rw e (shut_none flags w.calls s))
crossing_shut flags call (end.Reply status) (Some a) (Some cause) w h s = absurd h
crossing_shut flags call (end.Reply status) None (Some cause) w h s = shut_none flags w.calls s
crossing_shut flags call (end.Reply status) (Some a) None w h s = shut_one leaves (λ c. refl) call a flags w.calls s
crossing_shut flags call (end.Reply status) None None w h s = shut_none flags w.calls s
crossing_shut flags call end.Pause (Some a) failure w h s = absurd h
crossing_shut flags call end.Pause None (Some cause) w h s = shut_none flags w.calls s
crossing_shut flags call end.Pause None None w h s = shut_none flags w.calls s
crossing_shut flags call end.Trap (Some a) failure w h s = absurd h
crossing_shut flags call end.Trap None (Some cause) w h s = shut_none flags w.calls s
crossing_shut flags call end.Trap None None w h s = shut_none flags w.calls s

-- ---- events

-- an event, as a monitor sees it and by what is known
pub record SeesAlike (flags : List Bool) (w : Watch) (e : Event) : Type 0 where
  pub known : known_after (known_of flags w) e ≡ known_of (flags_after flags e) (sees w e)
  pub shut : AreShut (flags_after flags e) (sees w e).calls
  pub first : w.clause ≡ None → (position : ℕ) (later : Option Break)
      → break_or position (broken (known_of flags w) e) later ≡ break_at (sees w e).clause position later

-- an event other than a burst breaks nothing
unbroken : (w : Watch) → w.clause ≡ None → (position : ℕ) (later : Option Break) → later ≡ break_at w.clause position later
unbroken w h position later = ap (λ c. break_at c position later) (sym h)

invoke_alike : (flags : List Bool) (w : Watch) (call thread : ℕ) (o : _) (a : Option Answer) → AreShut flags w.calls → call ≡ suc (length flags)
    → SeesAlike flags w (event.Invoke call thread o a)
invoke_alike flags w call thread o a s h = record {
  known = ap (λ l. without (one_answer call a) (record (known_of flags w) { calls = l }))
      (ap (λ n. picked 1 flags w.calls ++ opened_call n (watched o) ∷ []) number ∙ picked_push 1 flags w.calls (watched o) s)
      ∙ kept_known (one_answer call a) (flags ++ true ∷ []) (record w { calls = w.calls ++ watched o ∷ [] });
  shut = by_answer a;
  first = λ c position later. unbroken w c position later;
}
  where
    number : call ≡ 1 + length flags
    number = omega (arith, h)

    by_answer : (a : Option Answer) → AreShut (kept_from 1 (one_answer call a) (flags ++ true ∷ [])) (w.calls ++ watched o ∷ [])
    by_answer None = shut_none (flags ++ true ∷ []) (w.calls ++ watched o ∷ []) (shut_push flags w.calls true o s)
    by_answer (Some x) =
        subst (λ n. AreShut (kept_from 1 ((n, x) ∷ []) (flags ++ true ∷ [])) (w.calls ++ watched o ∷ [])) (sym number)
        (subst (λ f. AreShut f (w.calls ++ watched o ∷ [])) (sym (kept_new 1 flags x)) (shut_push flags w.calls false o s))

enter_alike : (flags : List Bool) (w : Watch) (call thread attempt : ℕ) (a : Option Answer) → AreShut flags w.calls
    → IsFitting flags (event.Enter call thread attempt a) → SeesAlike flags w (event.Enter call thread attempt a)
enter_alike flags w call thread attempt None s h = record {
  known = ap (λ l. without [] (record (known_of flags w) { calls = l })) (own_change enter_call (enters true) (λ n c. refl) call flags w.calls)
      ∙ kept_known [] flags (record w { calls = change_number (enters true) call w.calls });
  shut = shut_none flags (change_number (enters true) call w.calls)
      (subst (AreShut flags) (sym (change_one (enters true) call w.calls)) (shut_open (enters true) call 1 flags w.calls h s));
  first = λ c position later. unbroken w c position later;
}
enter_alike flags w call thread attempt (Some a) s h = record {
  known = ap (λ l. without ((call, a) ∷ []) (record (known_of flags w) { calls = l })) (own_change enter_call (enters true) (λ n c. refl) call flags w.calls)
      ∙ kept_known ((call, a) ∷ []) flags (record w { calls = change_number (enters true) call w.calls })
      ∙ ap (λ l. record (known_of flags w) { calls = l })
      (sym (kept_changed (enters true) call a flags w.calls) ∙ kept_changed (enters false) call a flags w.calls);
  shut = shut_one (enters false) (λ c. refl) call a flags w.calls s;
  first = λ c position later. unbroken w c position later;
}

burst_alike : (flags : List Bool) (w : Watch) (context call burst count : ℕ) (e : End) (done : List Act) (a : Option Answer) (failure : Option FailCause)
    → AreShut flags w.calls → IsOfCall call flags → IsCrossing e a failure
    → SeesAlike flags w (event.Burst context call burst count e done a failure)
burst_alike flags w context call burst count e done a failure s i h = record {
  known = ap (λ k. without (one_answer call a) (after_failure failure k)) (acts_known flags call (crossing_deeds e a failure) done w s)
      ∙ crossing_known flags call e a failure (sees_acts call done w) h;
  shut = crossing_shut flags call e a failure (sees_acts call done w) h (acts_shut flags call done w s);
  first = λ c position later.
      first_is_smallest (λ clause. is_broken_by clause call (known_of flags w) (deeds_of done e a failure)) position later
      ∙ ap (λ x. break_at (smallest_or all_clauses (λ clause. is_broken_by clause call (known_of flags w) (deeds_of done e a failure)) x) position later) (sym c)
      ∙ ap (λ x. break_at x position later)
      (acts_broken flags call (crossing_deeds e a failure) done w i s ∙ crossing_broken flags call e a failure (sees_acts call done w) i h);
}

-- only Stop answers calls
plain_shut : (flags : List Bool) (ws : List Watched) (answers : List (ℕ × Answer)) → AreShut flags ws → answers ≡ []
    → AreShut (kept_from 1 answers flags) ws
plain_shut flags ws answers s e = subst (λ l. AreShut (kept_from 1 l flags) ws) (sym e) (shut_none flags ws s)

stage_alike : (flags : List Bool) (w : Watch) (t : Stage) (answers : List (ℕ × Answer)) (released : _) → AreShut flags w.calls
    → IsFitting flags (event.Stage t answers released) → SeesAlike flags w (event.Stage t answers released)
stage_alike flags w stage.Stop answers released s h = record {
  known = ap (λ l. without answers (record (known_of flags w) { calls = l })) (picked_left 1 flags w.calls)
      ∙ kept_known answers flags (sees_stage stage.Stop w);
  shut = shut_left answers 1 flags w.calls s;
  first = λ c position later. unbroken w c position later;
}
stage_alike flags w stage.Collect answers released s h = record {
  known = kept_known answers flags (sees_stage stage.Collect w);
  shut = plain_shut flags w.calls answers s h.0;
  first = λ c position later. unbroken w c position later;
}
stage_alike flags w stage.Reset answers released s h = record {
  known = kept_known answers flags (sees_stage stage.Reset w);
  shut = plain_shut flags w.calls answers s h.0;
  first = λ c position later. unbroken w c position later;
}
stage_alike flags w stage.Load answers released s h = record {
  known = kept_known answers flags (sees_stage stage.Load w);
  shut = plain_shut flags w.calls answers s h.0;
  first = λ c position later. unbroken w c position later;
}
stage_alike flags w stage.Init answers released s h = record {
  known = kept_known answers flags (sees_stage stage.Init w);
  shut = plain_shut flags w.calls answers s h.0;
  first = λ c position later. unbroken w c position later;
}
stage_alike flags w (stage.ReplaySet key value) answers released s h = record {
  known = kept_known answers flags (sees_stage (stage.ReplaySet key value) w);
  shut = plain_shut flags w.calls answers s h.0;
  first = λ c position later. unbroken w c position later;
}
stage_alike flags w stage.ReplayOpen answers released s h = record {
  known = kept_known answers flags (sees_stage stage.ReplayOpen w);
  shut = plain_shut flags w.calls answers s h.0;
  first = λ c position later. unbroken w c position later;
}
stage_alike flags w stage.Resume answers released s h = record {
  known = kept_known answers flags (sees_stage stage.Resume w);
  shut = plain_shut flags w.calls answers s h.0;
  first = λ c position later. unbroken w c position later;
}

pub event_alike : (flags : List Bool) (w : Watch) (e : Event) → AreShut flags w.calls → IsFitting flags e → SeesAlike flags w e
event_alike flags w (event.Invoke call thread o a) s h = invoke_alike flags w call thread o a s h
event_alike flags w (event.Enter call thread attempt a) s h = enter_alike flags w call thread attempt a s h
event_alike flags w (event.Burst context call burst count e done a failure) s h =
    burst_alike flags w context call burst count e done a failure s h.0 h.2
event_alike flags w (event.Stage t answers released) s h = stage_alike flags w t answers released s h
event_alike flags w (event.Arrive frame kept) s h = record {
  known = kept_known [] flags (sees w (event.Arrive frame kept));
  shut = shut_none flags w.calls s;
  first = λ c position later. unbroken w c position later;
}

-- ---- consecutive events

later_only : (position : ℕ) (o : Option ℕ) (x y : Option Break) → (o ≡ None → x ≡ y) → break_at o position x ≡ break_at o position y
later_only position None x y h = h refl
later_only position (Some clause) x y h = refl

breaks_alike : (position : ℕ) (flags : List Bool) (w : Watch) (events : List Event) → AreShut flags w.calls → w.clause ≡ None → IsOrderlyFrom flags events
    → break_from position (known_of flags w) events ≡ watched_from position w events
unfolding break_from watched_from
breaks_alike position flags w [] s c h = refl
breaks_alike position flags w (e ∷ events) s c h =
    let alike : SeesAlike flags w e = event_alike flags w e s h.0 in
    alike.first c position (break_from (suc position) (known_after (known_of flags w) e) events)
    ∙ later_only position (sees w e).clause (break_from (suc position) (known_after (known_of flags w) e) events) (watched_from (suc position) (sees w e) events)
    (λ n. ap (λ k. break_from (suc position) k events) alike.known
    ∙ breaks_alike (suc position) (flags_after flags e) (sees w e) events alike.shut n h.1)

-- the first break of orderly events is the one that judges drivers
pub first_alike : (class : Class) (size : ℕ) (events : List Event) → IsOrderlyFrom [] events
    → first_break class size events ≡ watched_first class size events
unfolding first_break watched_first
first_alike class size events h = breaks_alike 1 [] (first_watch class size) events tt refl h
