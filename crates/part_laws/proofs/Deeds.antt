-- What a burst's deeds leave and break agrees with what a monitor finds in its acts and its crossing.
use Rattle.std.proofs.Common.{◌≡◌, ◌⊎◌, inl, inr, ℕ, zero, suc, ◌+◌, ◌<◌, ◌||◌, ◌&&◌, not, Bool, true, false, cond, Option, Some, None, List, [], ◌∷◌, ◌++◌, map, length, filter, find, sym, refl, ap, ap₂, ◌∙◌, subst, arith, option_map, nat_lt, is_some}
use Rattle.std.specs.Prelude.{◌==◌, if◌then◌else◌, bytes_eq, slice_index, fold}
use Rattle.std.specs.List.{list_any}
use Rattle.std.proofs.lemmas.Bool.Decides.{nat_tests}
use Rattle.nook_data.specs.declared.machine.Act.{Act}
use Rattle.nook_data.specs.declared.machine.Act.TheVariants as act
use Rattle.nook_data.specs.declared.calls.Answer.{Answer}
use Rattle.nook_data.specs.declared.calls.Answer.TheVariants as answer
use Rattle.nook_data.specs.declared.steps.End.{End}
use Rattle.nook_data.specs.declared.steps.End.TheVariants as end
use Rattle.nook_data.specs.declared.steps.FailCause.{FailCause}
use Rattle.nook_data.specs.declared.calls.Op.{Op}
use Rattle.nook_data.specs.declared.calls.Op.TheVariants as op
use Rattle.promise_defs.specs.Blocks.{has_block, holds_from, words_for}
use Rattle.nook_data.specs.Classes.{covers, is_write, sends as sends_own, is_play, sends}
use Rattle.part_laws.specs.Watch.{Watch, Watched, failed_at as failed_one, handed_one, hands_up as is_handed, is_agreed, is_covered, is_first_frame, is_own_frame, is_playing as plays, is_next_of as is_next_in, is_setting as are_setting, leaves, may_register, owes, owes_found, played_one, sees_act, sees_acts, sees_crossing, sees_reply, sees_service, sent_once, stores_at, required}
use Rattle.promise_defs.specs.Contract.{is_front as is_prefix, is_replayed as was_replayed}
use Rattle.promise_defs.specs.Contract.{is_replay_of as is_replaying, sets as sets_own}
use Rattle.nook_data.specs.Frames.{is_empty, is_empty as was_empty}
use Rattle.nook_data.specs.Numbered.{at_number, change_number, number_where}
use Rattle.part_laws.proofs.Indices.{split}
use Rattle.nook_data.specs.declared.clause.Clause.{Clause}
use Rattle.promise_defs.specs.Contract.{Deed, Known, OpenCall, acts, after_deed, after_failure, breaks, call_of}
use Rattle.promise_defs.specs.Contract.{change_call, change_first, crossing_deeds, deeds_of, hands_up, is_broken_by}
use Rattle.promise_defs.specs.Contract.{is_front, is_next_of, is_playing, is_replay_of, is_replayed, is_send_of}
use Rattle.promise_defs.specs.Contract.{is_setting, play_inside, played_more, replays, replies, sets, may_store}
use Rattle.promise_defs.specs.Contract.{stores_other}
use Rattle.nook_data.specs.Clauses.{all_clauses}
use Rattle.promise_defs.proofs.PromiseChanges.{after_deeds, failed_at, handed_frame, sent_more}
use Rattle.part_laws.specs.Orderly.{IsCrossing, IsOfCall, is_open}
use Rattle.part_laws.proofs.Picked.{AreShut, any_picked, at_one, at_where, change_at, change_one, change_where, changed_where, find_at, find_picked, first_picked, found_below, opened_call, picked, picked_below, picked_call, picked_change, shut_change, shut_where}
use Rattle.part_laws.proofs.Known.{known_of, smallest_by, smallest_of}
use Rattle.part_laws.proofs.Replies.{not_twice, reply_broken}
use Rattle.part_laws.proofs.Smallest.{smallest_join, smallest_or}

-- ---- the burst's call

pub own_call : (flags : List Bool) (call : ℕ) (ws : List Watched) → IsOfCall call flags
    → call_of call (picked 1 flags ws) ≡ option_map (opened_call call) (at_number call ws)
own_call flags call ws (inl e) = subst (λ n. call_of n (picked 1 flags ws) ≡ option_map (opened_call n) (at_number n ws)) (sym e)
    (picked_below 0 1 flags ws (omega arith))
own_call flags call ws (inr h) = picked_call call 1 flags ws h ∙ ap (option_map (opened_call call)) (sym (at_one call ws))

pub own_change : (g : OpenCall → OpenCall) (f : Watched → Watched) → ((n : ℕ) (w : Watched) → g (opened_call n w) ≡ opened_call n (f w))
    → (call : ℕ) (flags : List Bool) (ws : List Watched) → change_call call g (picked 1 flags ws) ≡ picked 1 flags (change_number f call ws)
own_change g f h call flags ws = picked_change g f h call 1 flags ws ∙ ap (picked 1 flags) (sym (change_one f call ws))

pub own_shut : (f : Watched → Watched) → ((w : Watched) → w.inside ≡ false → (f w).inside ≡ false) → (call : ℕ) (flags : List Bool) (ws : List Watched)
    → AreShut flags ws → AreShut flags (change_number f call ws)
own_shut f h call flags ws s = subst (AreShut flags) (sym (change_one f call ws)) (shut_change f h call 1 flags ws s)

-- ---- questions

not_inside : (a b : Bool) → a ≡ false → (a && b) ≡ false
not_inside false b e = refl
not_inside true b e = absurd cc

covered_any : (block : ℕ) (ws : List Watched) → is_covered block ws ≡ list_any (stores_at block) ws
covered_any block [] = refl
covered_any block (w ∷ ws) = ap (λ b. stores_at block w || b) (covered_any block ws)

stores_otherwise : ℕ → List ℕ → Watched → Bool
stores_otherwise block words w = stores_at block w && not (bytes_eq words (words_for w.op block))

both_not : (a b x y : Bool) → x ≡ not y → ((not a || b) && x) ≡ not ((a && not b) || y)
both_not true true x y e = e
both_not true false x y e = refl
both_not false b x y e = e

agreed_any : (block : ℕ) (words : List ℕ) (ws : List Watched)
    → is_agreed block words ws ≡ not (list_any (λ w. stores_at block w && not (bytes_eq words (words_for w.op block))) ws)
agreed_any block words [] = refl
agreed_any block words (w ∷ ws) = both_not (stores_at block w) (bytes_eq words (words_for w.op block)) (is_agreed block words ws)
    (list_any (λ w. stores_at block w && not (bytes_eq words (words_for w.op block))) ws) (agreed_any block words ws)

setting_any : (key value : ℕ) (ws : List Watched) → are_setting key value ws ≡ list_any (λ w. w.inside && sets_own key value w.op) ws
setting_any key value [] = refl
setting_any key value (w ∷ ws) = ap (λ b. (w.inside && sets_own key value w.op) || b) (setting_any key value ws)

same_sets : (key value : ℕ) (o : Op) → sets key value o ≡ sets_own key value o
same_sets key value (op.Read first count) = refl
same_sets key value (op.Write first words) = refl
same_sets key value (op.Send frame) = refl
same_sets key value op.Recv = refl
same_sets key value op.Open = refl
same_sets key value (op.Play samples) = refl
same_sets key value op.Close = refl
same_sets key value (op.Get k) = refl
same_sets key value (op.Set k v) = refl

same_sends : (frame : List ℕ) (o : Op) → sends frame o ≡ sends_own frame o
same_sends frame (op.Read first count) = refl
same_sends frame (op.Write first words) = refl
same_sends frame (op.Send own) = refl
same_sends frame op.Recv = refl
same_sends frame op.Open = refl
same_sends frame (op.Play samples) = refl
same_sends frame op.Close = refl
same_sends frame (op.Get k) = refl
same_sends frame (op.Set k v) = refl

same_front : (front frames : List (List ℕ)) → is_front front frames ≡ is_prefix front frames
same_front [] frames = refl
same_front (x ∷ front) [] = refl
same_front (x ∷ front) (y ∷ frames) = ap (λ b. bytes_eq x y && b) (same_front front frames)

same_replay : (key value : ℕ) (set : Option (ℕ × ℕ)) → is_replay_of key value set ≡ is_replaying key value set
same_replay key value None = refl
same_replay key value (Some set) = refl

same_replayed : (set : Option (ℕ × ℕ)) (registers : List ℕ) → is_replayed set registers ≡ was_replayed set registers
same_replayed None registers = refl
same_replayed (Some set) registers = refl

-- ---- acts

none_inside : (a b c : Bool) → a ≡ false → ((a && b) && c) ≡ false
none_inside false b c e = refl
none_inside true b c e = absurd cc

none_other : (a b c d : Bool) → a ≡ false → (((a && b) && c) && d) ≡ false
none_other false b c d e = refl
none_other true b c d e = absurd cc

is_stored : (flags : List Bool) (block : ℕ) (ws : List Watched) → AreShut flags ws → list_any (may_store block) (picked 1 flags ws) ≡ is_covered block ws
is_stored flags block ws s =
    any_picked (may_store block) (stores_at block) (λ n w. refl) (λ w e. none_inside w.inside (is_write w.op) (covers w.op block) e) 1 flags ws s
    ∙ sym (covered_any block ws)

is_agreed_on : (flags : List Bool) (block : ℕ) (words : List ℕ) (ws : List Watched) → AreShut flags ws
    → not (list_any (stores_other block words) (picked 1 flags ws)) ≡ is_agreed block words ws
is_agreed_on flags block words ws s =
    ap not (any_picked (stores_other block words) (λ w. stores_at block w && not (bytes_eq words (words_for w.op block))) (λ n w. refl)
    (λ w e. none_other w.inside (is_write w.op) (covers w.op block) (not (bytes_eq words (words_for w.op block))) e) 1 flags ws s)
    ∙ sym (agreed_any block words ws)

is_set : (flags : List Bool) (key value : ℕ) (ws : List Watched) → AreShut flags ws
    → list_any (is_setting key value) (picked 1 flags ws) ≡ are_setting key value ws
is_set flags key value ws s =
    any_picked (is_setting key value) (λ w. w.inside && sets_own key value w.op) (λ n w. ap (λ b. w.inside && b) (same_sets key value w.op))
    (λ w e. not_inside w.inside (sets_own key value w.op) e) 1 flags ws s
    ∙ sym (setting_any key value ws)

plays_inside : (w : Watched) → w.inside ≡ false → plays w ≡ false
plays_inside w e = not_inside w.inside (is_play w.op) e

is_next_one : (flags : List Bool) (word : ℕ) (ws : List Watched) → AreShut flags ws
    → is_next_of word (play_inside (picked 1 flags ws)) ≡ is_next_in word (at_number (number_where plays ws) ws)
is_next_one flags word ws s =
    find_picked is_playing plays (λ n w. refl) plays_inside (is_next_of word) (is_next_in word) refl (λ n w. refl) 1 flags ws s
    ∙ ap (is_next_in word) (sym (at_where plays ws))

plays_one : (flags : List Bool) (ws : List Watched) → AreShut flags ws
    → change_first is_playing played_more (picked 1 flags ws) ≡ picked 1 flags (change_number played_one (number_where plays ws) ws)
plays_one flags ws s =
    first_picked is_playing plays played_more played_one (λ n w. refl) plays_inside (λ n w. refl) 1 flags ws s
    ∙ ap (picked 1 flags) (sym (changed_where plays played_one ws))

-- what an act leaves
act_known : (flags : List Bool) (call : ℕ) (a : Act) (w : Watch) → AreShut flags w.calls
    → after_deed call (known_of flags w) (acts a) ≡ known_of flags (sees_act call a w)
act_known flags call (act.Load block) w s = refl
act_known flags call (act.Failed block store) w s =
    ap (λ l. record (known_of flags w) { calls = l }) (own_change (failed_at block) (failed_one block) (λ n w. refl) call flags w.calls)
act_known flags call (act.Store block words) w s = refl
act_known flags call (act.Sent frame) w s =
    ap (λ l. record (known_of flags w) { calls = l }) (own_change sent_more sent_once (λ n w. refl) call flags w.calls)
act_known flags call (act.Popped frame) w s = refl
act_known flags call (act.Played word rate volume) w s = ap (λ l. record (known_of flags w) { calls = l }) (plays_one flags w.calls s)
act_known flags call (act.Register key value) w s = refl

act_shut : (flags : List Bool) (call : ℕ) (a : Act) (w : Watch) → AreShut flags w.calls → AreShut flags (sees_act call a w).calls
act_shut flags call (act.Load block) w s = s
act_shut flags call (act.Failed block store) w s = own_shut (failed_one block) (λ w e. e) call flags w.calls s
act_shut flags call (act.Store block words) w s = s
act_shut flags call (act.Sent frame) w s = own_shut sent_once (λ w e. e) call flags w.calls s
act_shut flags call (act.Popped frame) w s = s
act_shut flags call (act.Played word rate volume) w s =
    subst (AreShut flags) (sym (changed_where plays played_one w.calls)) (shut_where plays played_one (λ w e. e) flags w.calls s)
act_shut flags call (act.Register key value) w s = s

-- what an act breaks
store_breaks : (k : Known) (o : Option OpenCall) (block : ℕ) (words : List ℕ) (x : Option ℕ)
    → smallest_or all_clauses (λ clause. breaks clause k o (acts (act.Store block words))) x
    ≡ required (not (not (list_any (may_store block) k.calls))) 1 (required (not (list_any (stores_other block words) k.calls)) 2 x)
store_breaks k None block words x = refl
store_breaks k (Some c) block words x = refl

sent_breaks : (flags : List Bool) (w : Watch) (n : ℕ) (o : Option Watched) (frame : List ℕ)
    → smallest_or all_clauses (λ clause. breaks clause (known_of flags w) (option_map (opened_call n) o) (acts (act.Sent frame))) w.clause
    ≡ required (is_own_frame frame o) 5 (required (is_first_frame o) 6 w.clause)
sent_breaks flags w n None frame = refl
sent_breaks flags w n (Some c) frame =
    ap₂ (λ a b. required a 5 (required b 6 w.clause)) (not_twice (sends frame c.op) ∙ same_sends frame c.op) (sent_none c.sent)
  where
    sent_none : (n : ℕ) → not (nat_lt 0 n) ≡ (n == 0)
    sent_none n = grind (arith, nat_tests)

played_breaks : (k : Known) (o : Option OpenCall) (word rate volume : ℕ) (x : Option ℕ)
    → smallest_or all_clauses (λ clause. breaks clause k o (acts (act.Played word rate volume))) x
    ≡ required (not (not (is_next_of word (play_inside k.calls)))) 10 x
played_breaks k None word rate volume x = refl
played_breaks k (Some c) word rate volume x = refl

register_breaks : (k : Known) (o : Option OpenCall) (key value : ℕ) (x : Option ℕ)
    → smallest_or all_clauses (λ clause. breaks clause k o (acts (act.Register key value))) x
    ≡ required (not (not (slice_index k.registers key == value) && not (list_any (is_setting key value) k.calls || is_replay_of key value k.replay))) 12 x
register_breaks k None key value x = refl
register_breaks k (Some c) key value x = refl

one_of : (a b c : Bool) → not (not a && not (b || c)) ≡ (a || b || c)
one_of true b c = refl
one_of false true c = refl
one_of false false true = refl
one_of false false false = refl

abbrev is_harmless : Act → Bool
is_harmless (act.Load block) = true
is_harmless (act.Failed block store) = true
is_harmless (act.Popped frame) = true
is_harmless a = false

no_breaks : (k : Known) (o : Option OpenCall) (a : Act) (x : Option ℕ) → is_harmless a ≡ true
    → smallest_or all_clauses (λ clause. breaks clause k o (acts a)) x ≡ x
no_breaks k None (act.Load block) x h = refl
no_breaks k (Some c) (act.Load block) x h = refl
no_breaks k None (act.Failed block store) x h = refl
no_breaks k (Some c) (act.Failed block store) x h = refl
no_breaks k None (act.Popped frame) x h = refl
no_breaks k (Some c) (act.Popped frame) x h = refl
no_breaks k o (act.Store block words) x h = absurd cc
no_breaks k o (act.Sent frame) x h = absurd cc
no_breaks k o (act.Played word rate volume) x h = absurd cc
no_breaks k o (act.Register key value) x h = absurd cc

act_broken : (flags : List Bool) (call : ℕ) (a : Act) (w : Watch) → IsOfCall call flags → AreShut flags w.calls
    → smallest_of flags call w (acts a) ≡ (sees_act call a w).clause
act_broken flags call (act.Load block) w i s = no_breaks (known_of flags w) (call_of call (picked 1 flags w.calls)) (act.Load block) w.clause refl
act_broken flags call (act.Failed block store) w i s =
    no_breaks (known_of flags w) (call_of call (picked 1 flags w.calls)) (act.Failed block store) w.clause refl
act_broken flags call (act.Store block words) w i s =
    store_breaks (known_of flags w) (call_of call (picked 1 flags w.calls)) block words w.clause
    ∙ ap₂ (λ a b. required a 1 (required b 2 w.clause))
    (not_twice (list_any (may_store block) (picked 1 flags w.calls)) ∙ is_stored flags block w.calls s)
    (is_agreed_on flags block words w.calls s)
act_broken flags call (act.Sent frame) w i s =
    ap (λ o. smallest_or all_clauses (λ clause. breaks clause (known_of flags w) o (acts (act.Sent frame))) w.clause) (own_call flags call w.calls i)
    ∙ sent_breaks flags w call (at_number call w.calls) frame
act_broken flags call (act.Popped frame) w i s =
    no_breaks (known_of flags w) (call_of call (picked 1 flags w.calls)) (act.Popped frame) w.clause refl
act_broken flags call (act.Played word rate volume) w i s =
    played_breaks (known_of flags w) (call_of call (picked 1 flags w.calls)) word rate volume w.clause
    ∙ ap (λ b. required b 10 w.clause)
    (not_twice (is_next_of word (play_inside (picked 1 flags w.calls))) ∙ is_next_one flags word w.calls s)
act_broken flags call (act.Register key value) w i s =
    register_breaks (known_of flags w) (call_of call (picked 1 flags w.calls)) key value w.clause
    ∙ ap (λ b. required b 12 w.clause)
    (one_of (slice_index w.registers key == value) (list_any (is_setting key value) (picked 1 flags w.calls)) (is_replay_of key value w.replay)
    ∙ ap₂ (λ a b. (slice_index w.registers key == value) || a || b) (is_set flags key value w.calls s) (same_replay key value w.replay))

pub acts_broken : (flags : List Bool) (call : ℕ) (ds : List Deed) (done : List Act) (w : Watch) → IsOfCall call flags → AreShut flags w.calls
    → smallest_by flags call w (map acts done ++ ds) ≡ smallest_by flags call (sees_acts call done w) ds
acts_broken flags call ds [] w i s = refl
acts_broken flags call ds (a ∷ done) w i s =
    smallest_join all_clauses (λ clause. breaks clause (known_of flags w) (call_of call (picked 1 flags w.calls)) (acts a))
    (λ clause. is_broken_by clause call (after_deed call (known_of flags w) (acts a)) (map acts done ++ ds)) w.clause
    ∙ ap (smallest_or all_clauses (λ clause. is_broken_by clause call (after_deed call (known_of flags w) (acts a)) (map acts done ++ ds)))
    (act_broken flags call a w i s)
    ∙ ap (λ k. smallest_or all_clauses (λ clause. is_broken_by clause call k (map acts done ++ ds)) (sees_act call a w).clause)
    (act_known flags call a w s)
    ∙ acts_broken flags call ds done (sees_act call a w) i (act_shut flags call a w s)

pub acts_known : (flags : List Bool) (call : ℕ) (ds : List Deed) (done : List Act) (w : Watch) → AreShut flags w.calls
    → after_deeds call (known_of flags w) (map acts done ++ ds) ≡ after_deeds call (known_of flags (sees_acts call done w)) ds
acts_known flags call ds [] w s = refl
acts_known flags call ds (a ∷ done) w s =
    ap (λ k. after_deeds call k (map acts done ++ ds)) (act_known flags call a w s)
    ∙ acts_known flags call ds done (sees_act call a w) (act_shut flags call a w s)

pub acts_shut : (flags : List Bool) (call : ℕ) (done : List Act) (w : Watch) → AreShut flags w.calls → AreShut flags (sees_acts call done w).calls
acts_shut flags call [] w s = s
acts_shut flags call (a ∷ done) w s = acts_shut flags call done (sees_act call a w) (act_shut flags call a w s)

-- ---- crossings

one_deed : (flags : List Bool) (call : ℕ) (w : Watch) (d : Deed) → smallest_by flags call w (d ∷ []) ≡ smallest_of flags call w d
one_deed flags call w d =
    smallest_join all_clauses (λ clause. breaks clause (known_of flags w) (call_of call (picked 1 flags w.calls)) d) (λ clause. false) w.clause

up_breaks : (k : Known) (o : Option OpenCall) (frame : List ℕ) (x : Option ℕ)
    → smallest_or all_clauses (λ clause. breaks clause k o (hands_up frame)) x ≡ required (not (not (is_front (k.handed ++ frame ∷ []) k.popped))) 8 x
up_breaks k None frame x = refl
up_breaks k (Some c) frame x = refl

replay_breaks : (k : Known) (o : Option OpenCall) (x : Option ℕ)
    → smallest_or all_clauses (λ clause. breaks clause k o replays) x ≡ required (not (not (is_replayed k.replay k.registers))) 13 x
replay_breaks k None x = refl
replay_breaks k (Some c) x = refl

reply_breaks : (flags : List Bool) (n : ℕ) (o : Option Watched) (a : Answer) (w : Watch)
    → smallest_or all_clauses (λ clause. breaks clause (known_of flags w) (option_map (opened_call n) o) (replies a)) w.clause ≡ owes_found o a w
reply_breaks flags n None a w = refl
reply_breaks flags n (Some c) a w = reply_broken n flags w c c.op a

no_service : (b : Bool) → (b && false) ≡ false
no_service true = refl
no_service false = refl

pub crossing_broken : (flags : List Bool) (call : ℕ) (e : End) (a : Option Answer) (failure : Option FailCause) (w : Watch)
    → IsOfCall call flags → IsCrossing e a failure
    → smallest_by flags call w (crossing_deeds e a failure) ≡ (sees_crossing call e a failure w).clause
crossing_broken flags call (end.Service number first second result moved) (Some a) failure w i h = absurd h
crossing_broken flags call (end.Service number first second (Some result) moved) None (Some cause) w i h = absurd h
crossing_broken flags call (end.Service number first second None moved) None (Some cause) w i h = rw (no_service (number == 6)) refl
crossing_broken flags call (end.Service number first second result moved) None None w i h = split (number == 6 && is_some result)
    (λ e. rw e (one_deed flags call w (hands_up moved)
    ∙ up_breaks (known_of flags w) (call_of call (picked 1 flags w.calls)) moved w.clause
    ∙ ap (λ b. required b 8 w.clause) (not_twice (is_front (w.handed ++ moved ∷ []) w.popped) ∙ same_front (w.handed ++ moved ∷ []) w.popped)))
    (λ e. rw e refl)
crossing_broken flags call (end.Reply status) (Some a) (Some cause) w i h = absurd h
crossing_broken flags call (end.Reply status) None (Some cause) w i h = refl
crossing_broken flags call (end.Reply status) (Some a) None w i h =
    one_deed flags call w (replies a)
    ∙ ap (λ o. smallest_or all_clauses (λ clause. breaks clause (known_of flags w) o (replies a)) w.clause) (own_call flags call w.calls i)
    ∙ reply_breaks flags call (at_number call w.calls) a w
crossing_broken flags call (end.Reply status) None None w i h =
    one_deed flags call w replays
    ∙ replay_breaks (known_of flags w) (call_of call (picked 1 flags w.calls)) w.clause
    ∙ ap (λ b. required b 13 w.clause) (not_twice (is_replayed w.replay w.registers) ∙ same_replayed w.replay w.registers)
crossing_broken flags call end.Pause (Some a) failure w i h = absurd h
crossing_broken flags call end.Pause None (Some cause) w i h = refl
crossing_broken flags call end.Pause None None w i h = refl
crossing_broken flags call end.Trap (Some a) failure w i h = absurd h
crossing_broken flags call end.Trap None (Some cause) w i h = refl
crossing_broken flags call end.Trap None None w i h = refl
