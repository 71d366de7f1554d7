-- A worker's next step, added to what it did so far.
use Rattle.std.proofs.Common.{◌≡◌, ◌⊎◌, ℕ, Bool, true, false, cond, Some, None, List, [], ◌∷◌, ◌++◌, ◌+◌, ◌≤◌, take, length, get_or, slice_get, subst, sym, refl, ap, ◌∙◌, inl, inr, arith, append-nil, length-set}
use Rattle.std.specs.Prelude.{All, if◌then◌else◌, ◌==◌, Result, Ok, Err}
use Rattle.std.specs.List.{filter}
use Rattle.std.proofs.lemmas.List.Elements.{All-append, All-cons, All-nil, All-weaker}
use mathlib.Core.List.{IsPrefix}
use Rattle.nook_data.specs.declared.desks.DeskRefused.{DeskRefused}
use Rattle.nook_data.specs.declared.desks.DeskRefused.TheVariants as refused
use Rattle.nook_data.specs.declared.steps.Event.{Event}
use Rattle.nook_data.specs.declared.steps.Event.TheVariants as event
use Rattle.nook_data.specs.declared.calls.Op.{Op}
use Rattle.nook_data.specs.Numbered.{at_number}
use Rattle.nook_data.specs.declared.scenario.PartSpec.{PartSpec}
use Rattle.nook_data.specs.declared.desks.Receipt.{Receipt}
use Rattle.part_defs.specs.Runs.{state_of}
use Rattle.part_defs.specs.State.{PartState}
use Rattle.desk_like.specs.Desks.{AddsNothing, IsReply, ArriveEnds, CallEnds, DeskView, Invokes, IsAt, IsInvoke, IsOther, IsReceipt}
use Rattle.app_threads.specs.Steps.{IsStepAt, KeepsStamps, NextArrivalEnds, NextCallEnds}
use Rattle.app_threads.specs.declared.stop.WorkerStop.{WorkerStop}
use Rattle.app_threads.specs.declared.stop.WorkerStop.TheVariants as stop
use Rattle.app_threads.specs.Workers.{AreReceipts, ArrivalsEnd, ArriveCause, AtDesks, CallCause, Does, DoesFrames, DoesOps, GainsAtMost, GrewBy, HasReply, HasReplyIn, IsArrivalRefused, IsBy, IsCallRefused, IsReceiptAt, IsRefusedAt, KeepShares, KeepsShare, KnowsOpen, MadeBy, Owns, ScriptEnds, count_on, invokes_of, is_invoke}
use Rattle.app_threads.proofs.Grown.{arrives_does, does_more, does_none, event_there, invokes_does, is_at_grows, receipt_grows}
use Rattle.app_threads.proofs.Counted.{at_most_more, at_most_weaker, count_next, count_take, gains_at_most, invokes_at_most, invokes_few, nothing_at_most}
use Rattle.app_threads.proofs.Listed.{get_set_other, get_set_same, if_other, if_same, prefix_refl, prefix_trans, same_at, same_or_other, some_at, take_next}
use Rattle.std.proofs.lemmas.Option.{slice_get_within}

-- ---- each desk

pub at_desks_refl : (P : ℕ → DeskView → DeskView → Type 0) (views : List DeskView) → ((d : ℕ) (v : DeskView) → P d v v) → AtDesks P views views
at_desks_refl P views f = (refl, λ d v w h k. subst (P d v) (same_at views d v w h k) (f d v))

pub at_desks_weaker : (P Q : ℕ → DeskView → DeskView → Type 0) (olds news : List DeskView) → ((d : ℕ) (v w : DeskView) → P d v w → Q d v w) → AtDesks P olds news → AtDesks Q olds news
at_desks_weaker P Q olds news f h = (h.0, λ d v w i j. f d v w (h.1 d v w i j))

pub at_desks_more : (P Q R : ℕ → DeskView → DeskView → Type 0) (olds mids news : List DeskView) → ((d : ℕ) (u v w : DeskView) → P d u v → Q d v w → R d u w) → AtDesks P olds mids → AtDesks Q mids news → AtDesks R olds news
at_desks_more P Q R olds mids news f g h = (
  h.0 ∙ g.0,
  λ d u w i j.
      let l = slice_get_within olds d u i in
      let v = some_at mids d (let n = g.0 in omega arith) in
      f d u v.0 w (g.1 d u v.0 i v.1) (h.1 d v.0 w v.1 j),
)

-- one seat's step after what all seats did
pub step_more : (P Q : ℕ → DeskView → DeskView → Type 0) (specs : List PartSpec) (olds mids news : List DeskView) (part : ℕ) (Ends : PartSpec → DeskView → DeskView → Type 0) (s : IsStepAt specs mids news part Ends)
    → ((d : ℕ) (u v : DeskView) → (d ≡ part → ⊥) → P d u v → Q d u v) → ((u : DeskView) → P part u s.old → Q part u s.new)
    → AtDesks P olds mids → AtDesks Q olds news
step_more P Q specs olds mids news part Ends s other same h =
    (ap length s.news_are ∙ (length-set mids part s.new ∙ h.0), λ d u w i j. by_position d u w i j (same_or_other d part))
  where
    by_position : (d : ℕ) (u w : DeskView) → slice_get olds d ≡ Some u → slice_get news d ≡ Some w → (d ≡ part) ⊎ (d ≡ part → ⊥) → Q d u w
    by_position d u w i j (inl e) =
        let here : slice_get news part ≡ Some s.new = ap (λ (l : List DeskView). slice_get l part) s.news_are ∙ get_set_same mids part s.old s.new s.old_there in
        let is : s.new ≡ w = same_at news part s.new w here (subst (λ k. slice_get news k ≡ Some w) e j) in
        let q : Q part u s.new = same u (h.1 part u s.old (subst (λ k. slice_get olds k ≡ Some u) e i) s.old_there) in
        subst (λ k. Q k u w) (sym e) (subst (Q part u) is q)
    by_position d u w i j (inr n) =
        let there : slice_get mids d ≡ Some w = sym (ap (λ (l : List DeskView). slice_get l d) s.news_are ∙ get_set_other mids d part s.new n) ∙ j in
        other d u w n (h.1 d u w i there)

abbrev pub SeesMore : ℕ → DeskView → DeskView → Type 0
SeesMore d v w = IsPrefix v.seen w.seen

-- what holds for each seat that a step left as it was, and for the one that it changed
pub step_each : (R : ℕ → DeskView → DeskView → Type 0) (specs : List PartSpec) (mids news : List DeskView) (part : ℕ) (Ends : PartSpec → DeskView → DeskView → Type 0) (s : IsStepAt specs mids news part Ends)
    → ((d : ℕ) (v : DeskView) → R d v v) → R part s.old s.new → AtDesks R mids news
step_each R specs mids news part Ends s stays changed =
    step_more (λ d u v. u ≡ v) R specs mids mids news part Ends s
    (λ d u v n e. subst (R d u) e (stays d u)) (λ u e. subst (λ (v : DeskView). R part v s.new) (sym e) changed)
    (at_desks_refl (λ d u v. u ≡ v) mids (λ d v. refl))

-- after a step each seat has seen at least as much as before
pub step_sees : (specs : List PartSpec) (mids news : List DeskView) (part : ℕ) (Ends : PartSpec → DeskView → DeskView → Type 0) (s : IsStepAt specs mids news part Ends)
    → IsPrefix s.old.seen s.new.seen → AtDesks SeesMore mids news
step_sees specs mids news part Ends s p = step_each SeesMore specs mids news part Ends s (λ d v. prefix_refl v.seen) p

-- a step that only adds to a seat's stamps
pub step_stamps : (specs : List PartSpec) (mids news : List DeskView) (part : ℕ) → IsStepAt specs mids news part (λ spec v w. IsPrefix v.stamps w.stamps) → AtDesks KeepsStamps mids news
step_stamps specs mids news part s = step_each KeepsStamps specs mids news part (λ spec v w. IsPrefix v.stamps w.stamps) s (λ d v. prefix_refl v.stamps) s.ends

pub step_there : (specs : List PartSpec) (mids news : List DeskView) (part : ℕ) (Ends : PartSpec → DeskView → DeskView → Type 0) (s : IsStepAt specs mids news part Ends) → slice_get news part ≡ Some s.new
step_there specs mids news part Ends s = ap (λ (l : List DeskView). slice_get l part) s.news_are ∙ get_set_same mids part s.old s.new s.old_there

-- ---- receipts

pub receipt_at_grows : (mids news : List DeskView) (thread part : ℕ) (op : Op) (r : Receipt) → AtDesks SeesMore mids news → IsReceiptAt mids thread part op r → IsReceiptAt news thread part op r
receipt_at_grows mids news thread part op r more h =
    let l = slice_get_within mids part h.view h.there in
    let w = some_at news part (let n = more.0 in omega arith) in
    record { view = w.0; there = w.1; is = receipt_grows h.view.seen w.0.seen thread op r (more.1 part h.view w.0 h.there w.1) h.is }

pub receipts_grow : (mids news : List DeskView) (thread : ℕ) (ops : List (ℕ × Op)) (rs : List Receipt) → AtDesks SeesMore mids news → AreReceipts mids thread ops rs → AreReceipts news thread ops rs
receipts_grow mids news thread [] [] more h = h
receipts_grow mids news thread [] (r ∷ rs) more h = absurd h
receipts_grow mids news thread (o ∷ ops) [] more h = absurd h
receipts_grow mids news thread (o ∷ ops) (r ∷ rs) more h =
    (receipt_at_grows mids news thread o.0 o.1 r more h.0, receipts_grow mids news thread ops rs more h.1)

pub receipts_push : (views : List DeskView) (thread part : ℕ) (op : Op) (r : Receipt) (ops : List (ℕ × Op)) (rs : List Receipt) → AreReceipts views thread ops rs → IsReceiptAt views thread part op r → AreReceipts views thread (ops ++ (part, op) ∷ []) (rs ++ r ∷ [])
receipts_push views thread part op r [] [] h k = (k, tt)
receipts_push views thread part op r [] (q ∷ rs) h k = absurd h
receipts_push views thread part op r (o ∷ ops) [] h k = absurd h
receipts_push views thread part op r (o ∷ ops) (q ∷ rs) h k = (h.0, receipts_push views thread part op r ops rs h.1 k)

pub invokes_push : (views : List DeskView) (thread d part : ℕ) (op : Op) (r : Receipt) (ops : List (ℕ × Op)) (rs : List Receipt) → AreReceipts views thread ops rs
    → invokes_of d (ops ++ (part, op) ∷ []) (rs ++ r ∷ []) ≡ invokes_of d ops rs ++ (if part == d then r.at_invoke ∷ [] else [])
invokes_push views thread d part op r [] [] h = refl
invokes_push views thread d part op r [] (q ∷ rs) h = absurd h
invokes_push views thread d part op r (o ∷ ops) [] h = absurd h
invokes_push views thread d part op r (o ∷ ops) (q ∷ rs) h =
    let e = invokes_push views thread d part op r ops rs h.1 in
    let more = invokes_of d ops rs in
    let new : List ℕ = if part == d then r.at_invoke ∷ [] else [] in
    elim (o.0 == d) as (λ b. cond b (q.at_invoke ∷ invokes_of d (ops ++ (part, op) ∷ []) (rs ++ r ∷ [])) (invokes_of d (ops ++ (part, op) ∷ []) (rs ++ r ∷ [])) ≡ cond b (q.at_invoke ∷ more) more ++ new)
    [ true ↦ ap (λ (l : List ℕ). q.at_invoke ∷ l) e | false ↦ e ]

-- ---- who made the invocations

answered_grows : (seen more : List Event) (call : ℕ) → IsPrefix seen more → HasReply seen call → HasReply more call
answered_grows seen more call p h = (h.0, h.1, is_at_grows seen more h.0 (IsReply call h.1) p h.2)

own_grows : (seen more : List Event) (thread : ℕ) (e : Event) → IsPrefix seen more → IsBy thread e × HasReplyIn seen e → IsBy thread e × HasReplyIn more e
own_grows seen more thread (event.Invoke c t o answer) p h = (h.0, answered_grows seen more c p h.1)
own_grows seen more thread (event.Enter c t attempt answer) p h = h
own_grows seen more thread (event.Burst context c burst count end acts answer failure) p h = h
own_grows seen more thread (event.Stage stage answers released) p h = h
own_grows seen more thread (event.Arrive frame kept) p h = h

pub is_at_weaker : (seen : List Event) (number : ℕ) (P Q : Event → Type 0) → ((e : Event) → P e → Q e) → IsAt seen number P → IsAt seen number Q
is_at_weaker seen number P Q f h = record { event = h.event; there = h.there; is = f h.event h.is }

all_own_grow : (seen more : List Event) (thread : ℕ) (numbers : List ℕ) → IsPrefix seen more → All (λ number. IsAt seen number (λ e. IsBy thread e × HasReplyIn seen e)) numbers → All (λ number. IsAt more number (λ e. IsBy thread e × HasReplyIn more e)) numbers
all_own_grow seen more thread numbers p h =
    All-weaker (λ number. IsAt seen number (λ e. IsBy thread e × HasReplyIn seen e)) (λ number. IsAt more number (λ e. IsBy thread e × HasReplyIn more e))
    (λ number k. is_at_weaker more number (λ e. IsBy thread e × HasReplyIn seen e) (λ e. IsBy thread e × HasReplyIn more e) (λ e m. own_grows seen more thread e p m)
    (is_at_grows seen more number (λ e. IsBy thread e × HasReplyIn seen e) p k)) numbers h

pub all_by_grow : (seen more : List Event) (P : Event → Type 0) (numbers : List ℕ) → IsPrefix seen more → All (λ number. IsAt seen number P) numbers → All (λ number. IsAt more number P) numbers
all_by_grow seen more P numbers p h = All-weaker (λ number. IsAt seen number P) (λ number. IsAt more number P) (λ number k. is_at_grows seen more number P p k) numbers h

invoke_own : (seen : List Event) (call thread : ℕ) (op : Op) (e : Event) → HasReply seen call → IsInvoke call thread op e → IsBy thread e × HasReplyIn seen e
invoke_own seen call thread op (event.Invoke c t o answer) a h = (h.1, subst (HasReply seen) (sym h.0) a)
invoke_own seen call thread op (event.Enter c t attempt answer) a h = absurd h
invoke_own seen call thread op (event.Burst context c burst count end acts answer failure) a h = absurd h
invoke_own seen call thread op (event.Stage stage answers released) a h = absurd h
invoke_own seen call thread op (event.Arrive frame kept) a h = absurd h

invoke_by : (call thread : ℕ) (op : Op) (e : Event) → IsInvoke call thread op e → IsBy thread e
invoke_by call thread op (event.Invoke c t o answer) h = h.1
invoke_by call thread op (event.Enter c t attempt answer) h = absurd h
invoke_by call thread op (event.Burst context c burst count end acts answer failure) h = absurd h
invoke_by call thread op (event.Stage stage answers released) h = absurd h
invoke_by call thread op (event.Arrive frame kept) h = absurd h

other_own : (seen : List Event) (thread : ℕ) (e : Event) → IsOther e → IsBy thread e × HasReplyIn seen e
other_own seen thread (event.Invoke c t o answer) h = absurd h
other_own seen thread (event.Enter c t attempt answer) h = (tt, tt)
other_own seen thread (event.Burst context c burst count end acts answer failure) h = (tt, tt)
other_own seen thread (event.Stage stage answers released) h = (tt, tt)
other_own seen thread (event.Arrive frame kept) h = absurd h

owns_none : (thread : ℕ) (v : DeskView) → Owns thread v v
owns_none thread v none = subst (λ (l : List ℕ). All (λ number. IsAt v.seen number (λ e. IsBy thread e × HasReplyIn v.seen e)) l) (sym none) (All-nil (λ number. IsAt v.seen number (λ e. IsBy thread e × HasReplyIn v.seen e)))

owns_made : (thread : ℕ) (v w : DeskView) → Owns thread v w → MadeBy thread v w
owns_made thread v w h none =
    All-weaker (λ number. IsAt w.seen number (λ e. IsBy thread e × HasReplyIn w.seen e)) (λ number. IsAt w.seen number (IsBy thread))
    (λ number k. is_at_weaker w.seen number (λ e. IsBy thread e × HasReplyIn w.seen e) (IsBy thread) (λ e m. m.0) k) w.made (h none)

owns_call : (thread : ℕ) (u v w : DeskView) (op : Op) (r : Receipt) → Invokes v w r.call thread op r.at_invoke → IsReceipt w.seen thread op r → Owns thread u v → Owns thread u w
owns_call thread u v w op r i k h none =
    let P : ℕ → Type 0 = λ number. IsAt w.seen number (λ e. IsBy thread e × HasReplyIn w.seen e) in
    let first : P r.at_invoke = is_at_weaker w.seen r.at_invoke (IsInvoke r.call thread op) (λ e. IsBy thread e × HasReplyIn w.seen e) (λ e m. invoke_own w.seen r.call thread op e (r.at_reply, r.answer, k.answered) m) i.invoked in
    let rest : All P i.others = All-weaker (λ number. IsAt w.seen number IsOther) P (λ number m. is_at_weaker w.seen number IsOther (λ e. IsBy thread e × HasReplyIn w.seen e) (other_own w.seen thread) m) i.others i.rest in
    subst (λ (l : List ℕ). All P l) (sym i.adds.made)
    (All-append P v.made (r.at_invoke ∷ i.others) (all_own_grow v.seen w.seen thread v.made i.adds.seen (h none)) (All-cons P r.at_invoke i.others first rest))

made_nothing : (thread : ℕ) (u v w : DeskView) → AddsNothing v w → MadeBy thread u v → MadeBy thread u w
made_nothing thread u v w a h none =
    subst (λ (l : List ℕ). All (λ number. IsAt w.seen number (IsBy thread)) l) (sym (a.made ∙ append-nil v.made)) (all_by_grow v.seen w.seen (IsBy thread) v.made a.seen (h none))

made_call : (thread : ℕ) (u v w : DeskView) (call : ℕ) (op : Op) (at : ℕ) → Invokes v w call thread op at → MadeBy thread u v → MadeBy thread u w
made_call thread u v w call op at i h none =
    let P : ℕ → Type 0 = λ number. IsAt w.seen number (IsBy thread) in
    let first : P at = is_at_weaker w.seen at (IsInvoke call thread op) (IsBy thread) (λ e m. invoke_by call thread op e m) i.invoked in
    let rest : All P i.others = All-weaker (λ number. IsAt w.seen number IsOther) P (λ number m. is_at_weaker w.seen number IsOther (IsBy thread) (λ e n. (other_own w.seen thread e n).0) m) i.others i.rest in
    subst (λ (l : List ℕ). All P l) (sym i.adds.made)
    (All-append P v.made (at ∷ i.others) (all_by_grow v.seen w.seen (IsBy thread) v.made i.adds.seen (h none)) (All-cons P at i.others first rest))

-- if no invocation was gained, none is by another thread
not_invoke_by : (thread : ℕ) (e : Event) → is_invoke (Some e) ≡ false → IsBy thread e
not_invoke_by thread (event.Invoke c t o answer) h = absurd cc
not_invoke_by thread (event.Enter c t attempt answer) h = tt
not_invoke_by thread (event.Burst context c burst count end acts answer failure) h = tt
not_invoke_by thread (event.Stage stage answers released) h = tt
not_invoke_by thread (event.Arrive frame kept) h = tt

none_filtered : (f : ℕ → Bool) (numbers : List ℕ) → filter f numbers ≡ [] → All (λ number. f number ≡ false) numbers
none_filtered f [] h = All-nil (λ number. f number ≡ false)
none_filtered f (p ∷ ps) h = by_test (f p) refl (none_filtered f ps)
  where
    by_test : (b : Bool) → f p ≡ b → (filter f ps ≡ [] → All (λ number. f number ≡ false) ps) → All (λ number. f number ≡ false) (p ∷ ps)
    by_test true q later = absurd (let e : p ∷ filter f ps ≡ [] = sym (ap (λ b. cond b (p ∷ filter f ps) (filter f ps)) q) ∙ h in cc)
    by_test false q later = All-cons (λ number. f number ≡ false) p ps q (later (sym (ap (λ b. cond b (p ∷ filter f ps) (filter f ps)) q) ∙ h))

frames_made_by : (thread : ℕ) (v w : DeskView) (fs : List (List ℕ)) → Does v w [] fs → MadeBy thread v w
frames_made_by thread v w fs h none =
    let numbers = h.gains.numbers in
    let quiet = none_filtered (λ number. is_invoke (at_number number w.seen)) numbers h.gains.invoked in
    let all : All (λ number. IsAt w.seen number (IsBy thread)) numbers = λ k d l.
    let e = event_there w.seen (get_or numbers k d) (h.gains.grows.there k d l) in
    record { event = e.0; there = e.1; is = not_invoke_by thread e.0 (ap is_invoke (sym e.1) ∙ quiet k d l) } in
    subst (λ (l : List ℕ). All (λ number. IsAt w.seen number (IsBy thread)) l) (sym (h.gains.grows.made ∙ ap (λ (m : List ℕ). m ++ numbers) none)) all

pub at_desks_both : (P Q : ℕ → DeskView → DeskView → Type 0) (olds news : List DeskView) → AtDesks P olds news → AtDesks Q olds news → AtDesks (λ d v w. P d v w × Q d v w) olds news
at_desks_both P Q olds news h k = (h.0, λ d v w i j. (h.1 d v w i j, k.1 d v w i j))

-- ---- a script's next call

pub ops_none : (views : List DeskView) (thread : ℕ) → DoesOps views views thread [] []
ops_none views thread = record { receipts_are = tt; does = at_desks_refl (λ d v w. Does v w [] []) views (λ d v. does_none v); own = at_desks_refl (λ d v w. Owns thread v w) views (λ d v. owns_none thread v) }

pub ops_more : (specs : List PartSpec) (olds mids news : List DeskView) (thread number part : ℕ) (op : Op) (r : Receipt) (ops : List (ℕ × Op)) (rs : List Receipt)
    → DoesOps olds mids thread ops rs → IsStepAt specs mids news part (λ spec v w. NextCallEnds spec v w thread number part op (Ok r)) → DoesOps olds news thread (ops ++ (part, op) ∷ []) (rs ++ r ∷ [])
ops_more specs olds mids news thread number part op r ops rs h s = record {
  receipts_are =
      receipts_push news thread part op r ops rs
      (receipts_grow mids news thread ops rs (step_sees specs mids news part _ s s.ends.0.adds.seen) h.receipts_are)
      (record { view = s.new; there = step_there specs mids news part _ s; is = s.ends.1 });
  does =
      step_more (λ d v w. Does v w (invokes_of d ops rs) []) (λ d v w. Does v w (invokes_of d (ops ++ (part, op) ∷ []) (rs ++ r ∷ [])) []) specs olds mids news part _ s
      (λ d u v n k.
      subst (λ (is : List ℕ). Does u v is [])
      (sym (invokes_push mids thread d part op r ops rs h.receipts_are
      ∙ (ap (λ (l : List ℕ). invokes_of d ops rs ++ l) (if_other part d (r.at_invoke ∷ []) [] (λ e. n (sym e))) ∙ append-nil (invokes_of d ops rs))))
      k)
      (λ u k.
      subst (λ (is : List ℕ). Does u s.new is [])
      (sym (invokes_push mids thread part part op r ops rs h.receipts_are ∙ ap (λ (l : List ℕ). invokes_of part ops rs ++ l) (if_same part (r.at_invoke ∷ []) [])))
      (does_more u s.old s.new (invokes_of part ops rs) (r.at_invoke ∷ []) [] [] k (invokes_does s.old s.new r.call thread op r.at_invoke s.ends.0)))
      h.does;
  own = step_more (λ d v w. Owns thread v w) (λ d v w. Owns thread v w) specs olds mids news part _ s (λ d u v n k. k) (λ u k. owns_call thread u s.old s.new op r s.ends.0 s.ends.1 k) h.own;
}

pub ops_made : (olds news : List DeskView) (thread : ℕ) (ops : List (ℕ × Op)) (rs : List Receipt) → DoesOps olds news thread ops rs → AtDesks (λ d v w. MadeBy thread v w) olds news
ops_made olds news thread ops rs h =
    at_desks_weaker (λ d v w. Owns thread v w) (λ d v w. MadeBy thread v w) olds news (λ d v w k. owns_made thread v w k) h.own

-- a worker that did some operations of a script gained at most as many invocations as these
ops_grew : (olds news : List DeskView) (thread : ℕ) (most : ℕ → ℕ) (ops : List (ℕ × Op)) (rs : List Receipt) → ((d : ℕ) → count_on d ops ≤ most d) → DoesOps olds news thread ops rs
    → AtDesks (λ d v w. GrewBy thread (most d) 0 v w) olds news
ops_grew olds news thread most ops rs few h =
    at_desks_both (λ d v w. GainsAtMost v w (most d) 0) (λ d v w. MadeBy thread v w) olds news
    (at_desks_weaker (λ d v w. Does v w (invokes_of d ops rs) []) (λ d v w. GainsAtMost v w (most d) 0) olds news
    (λ d v w k.
    at_most_weaker v w (length (invokes_of d ops rs)) (most d) 0 0 (let l = few d in omega (arith, invokes_few d ops rs)) (omega arith)
    (gains_at_most v w (invokes_of d ops rs) [] k.gains)) h.does) (ops_made olds news thread ops rs h)

nothing_of_one : (v w : DeskView) → AddsNothing v w → GainsAtMost v w 1 0
nothing_of_one v w a = at_most_weaker v w 0 1 0 0 (omega arith) (omega arith) (nothing_at_most v w a)

refused_call : (spec : PartSpec) (v w : DeskView) (thread : ℕ) (op : Op) (refusal : DeskRefused) → CallEnds spec v w thread op (Err refusal)
    → GainsAtMost v w 1 0 × CallCause thread refusal (state_of spec w.seen) × ((u : DeskView) → MadeBy thread u v → MadeBy thread u w)
refused_call spec v w thread op (refused.NoMemory None) h = (nothing_of_one v w h, tt, λ u m. made_nothing thread u v w h m)
refused_call spec v w thread op (refused.NoMemory (Some call)) h =
    (invokes_at_most v w call thread op h.1.0 h.1.1, h.0, λ u m. made_call thread u v w call op h.1.0 h.1.1 m)
refused_call spec v w thread op refused.TooManyCalls h = (nothing_of_one v w h.0, (h.1, h.2), λ u m. made_nothing thread u v w h.0 m)
refused_call spec v w thread op (refused.OpenCall call) h = (nothing_of_one v w h.0, h.1, λ u m. made_nothing thread u v w h.0 m)
refused_call spec v w thread op refused.NoOpenCall h = absurd h
refused_call spec v w thread op refused.TooManyArrivals h = absurd h

-- a step that is refused, after what all seats did: one part may have one more call
refused_at : (thread one : ℕ) (calls most frames : ℕ → ℕ) (specs : List PartSpec) (olds mids news : List DeskView) (part : ℕ) (Ends : PartSpec → DeskView → DeskView → Type 0) (Cause : PartState → Type 0) (s : IsStepAt specs mids news part Ends)
    → ((d : ℕ) → calls d ≤ most d) → calls part + one ≤ most part → AtDesks (λ d v w. GrewBy thread (calls d) (frames d) v w) olds mids → GainsAtMost s.old s.new one 0
    → ((u : DeskView) → MadeBy thread u s.old → MadeBy thread u s.new) → Cause (state_of s.spec s.new.seen)
    → AtDesks (λ d v w. GrewBy thread (most d) (frames d) v w) olds news × IsRefusedAt specs olds news part Cause
refused_at thread one calls most frames specs olds mids news part Ends Cause s few last h g made cause =
    let l = slice_get_within mids part s.old s.old_there in
    let u = some_at olds part (let n = h.0 in omega arith) in
    let k = h.1 part u.0 s.old u.1 s.old_there in (
      step_more (λ d v w. GrewBy thread (calls d) (frames d) v w) (λ d v w. GrewBy thread (most d) (frames d) v w) specs olds mids news part Ends s
          (λ d v w n e. (at_most_weaker v w (calls d) (most d) (frames d) (frames d) (few d) (omega arith) e.0, e.1))
          (λ v e. (
            at_most_weaker v s.new (calls part + one) (most part) (frames part + 0) (frames part) last (omega arith) (at_most_more v s.old s.new (calls part) one (frames part) 0 e.0 g),
            made v e.1,
          )) h,
      record {
        spec = s.spec;
        old = u.0;
        new = s.new;
        spec_there = s.spec_there;
        old_there = u.1;
        new_there = step_there specs mids news part Ends s;
        between = s.new.seen;
        from = prefix_trans u.0.seen s.old.seen s.new.seen k.0.grows.seen g.grows.seen;
        to = prefix_refl s.new.seen;
        cause = cause;
      },
    )

-- an open call is none of those that the worker invoked, because these were answered
knows_open : (specs : List PartSpec) (olds mids news : List DeskView) (thread part : ℕ) (op : Op) (refusal : DeskRefused)
    → AtDesks (λ d v w. Owns thread v w) olds mids → IsStepAt specs mids news part (λ spec v w. CallEnds spec v w thread op (Err refusal)) → KnowsOpen specs olds news thread part refusal
knows_open specs olds mids news thread part op (refused.OpenCall call) h s =
    let l = slice_get_within mids part s.old s.old_there in
    let u = some_at olds part (let n = h.0 in omega arith) in
    let added : AddsNothing s.old s.new = s.ends.0 in
    record {
      spec = s.spec;
      old = u.0;
      new = s.new;
      spec_there = s.spec_there;
      old_there = u.1;
      new_there = step_there specs mids news part _ s;
      open_call = s.ends.1;
      answered = λ none.
          let own = all_own_grow s.old.seen s.new.seen thread s.old.made added.seen (h.1 part u.0 s.old u.1 s.old_there none) in
          let answered = All-weaker (λ number. IsAt s.new.seen number (λ e. IsBy thread e × HasReplyIn s.new.seen e)) (λ number. IsAt s.new.seen number (HasReplyIn s.new.seen))
          (λ number k. is_at_weaker s.new.seen number (λ e. IsBy thread e × HasReplyIn s.new.seen e) (HasReplyIn s.new.seen) (λ e m. m.1) k) s.old.made own in
          subst (λ (l : List ℕ). All (λ number. IsAt s.new.seen number (HasReplyIn s.new.seen)) l) (sym (added.made ∙ append-nil s.old.made)) answered;
    }
knows_open specs olds mids news thread part op (refused.NoMemory call) h s = tt
knows_open specs olds mids news thread part op refused.TooManyCalls h s = tt
knows_open specs olds mids news thread part op refused.NoOpenCall h s = tt
knows_open specs olds mids news thread part op refused.TooManyArrivals h s = tt

ops_refused : (specs : List PartSpec) (olds mids news : List DeskView) (thread number part : ℕ) (op : Op) (refusal : DeskRefused) (all : List (ℕ × Op)) (rs : List Receipt)
    → DoesOps olds mids thread (take number all) rs → slice_get all number ≡ Some (part, op) → IsStepAt specs mids news part (λ spec v w. CallEnds spec v w thread op (Err refusal))
    → AtDesks (λ d v w. GrewBy thread (count_on d all) 0 v w) olds news × IsCallRefused specs olds news all thread number part refusal × KnowsOpen specs olds news thread part refusal
ops_refused specs olds mids news thread number part op refusal all rs h at s =
    let k = refused_call s.spec s.old s.new thread op refusal s.ends in
    let sofar : ℕ → ℕ = λ d. count_on d (take number all) in
    let r = refused_at thread 1 sofar (λ d. count_on d all) (λ d. 0) specs olds mids news part _ (CallCause thread refusal) s (λ d. count_take d number all) (count_next all number part op at)
    (ops_grew olds mids thread sofar (take number all) rs (λ d. omega arith) h) k.0 k.2 k.1 in
    (r.0, record { op = op; operation = at; cause = r.1 }, knows_open specs olds mids news thread part op refusal h.own s)

-- ---- the next arrival

pub frames_none : (views : List DeskView) (part : ℕ) → DoesFrames views views part []
frames_none views part = at_desks_refl (λ d v w. Does v w [] (if part == d then [] else [])) views (λ d v. subst (λ (fs : List (List ℕ)). Does v v [] fs) (none (part == d)) (does_none v))
  where
    none : (b : Bool) → ◌≡◌ {A = List (List ℕ)} [] (if b then [] else [])
    none true = refl
    none false = refl

pub frames_more : (specs : List PartSpec) (olds mids news : List DeskView) (number part : ℕ) (frame : List ℕ) (kept : Bool) (fs : List (List ℕ))
    → DoesFrames olds mids part fs → IsStepAt specs mids news part (λ spec v w. NextArrivalEnds spec v w number part frame (Ok kept)) → DoesFrames olds news part (fs ++ frame ∷ [])
frames_more specs olds mids news number part frame kept fs h s =
    step_more (λ d v w. Does v w [] (if part == d then fs else [])) (λ d v w. Does v w [] (if part == d then fs ++ frame ∷ [] else [])) specs olds mids news part _ s
    (λ d u v n k.
    subst (λ (gs : List (List ℕ)). Does u v [] gs) (if_other part d fs [] (λ e. n (sym e)) ∙ sym (if_other part d (fs ++ frame ∷ []) [] (λ e. n (sym e)))) k)
    (λ u k.
    subst (λ (gs : List (List ℕ)). Does u s.new [] gs) (sym (if_same part (fs ++ frame ∷ []) []))
    (does_more u s.old s.new [] [] fs (frame ∷ []) (subst (λ (gs : List (List ℕ)). Does u s.old [] gs) (if_same part fs []) k) (arrives_does s.old s.new frame kept s.ends)))
    h

frames_made : (olds news : List DeskView) (part : ℕ) (fs : List (List ℕ)) → DoesFrames olds news part fs → AtDesks (λ d v w. MadeBy 255 v w) olds news
frames_made olds news part fs h =
    at_desks_weaker (λ d v w. Does v w [] (if part == d then fs else [])) (λ d v w. MadeBy 255 v w) olds news (λ d v w k. frames_made_by 255 v w (if part == d then fs else []) k) h

fewer_frames : (b : Bool) (fs all : List (List ℕ)) → length fs ≤ length all → length (if b then fs else []) ≤ length (if b then all else [])
fewer_frames true fs all l = l
fewer_frames false fs all l = omega arith

frames_grew : (olds news : List DeskView) (part : ℕ) (fs all : List (List ℕ)) → length fs ≤ length all → DoesFrames olds news part fs → AtDesks (λ d v w. GrewBy 255 0 (length (if part == d then all else [])) v w) olds news
frames_grew olds news part fs all few h =
    at_desks_both (λ d v w. GainsAtMost v w 0 (length (if part == d then all else []))) (λ d v w. MadeBy 255 v w) olds news
    (at_desks_weaker (λ d v w. Does v w [] (if part == d then fs else [])) (λ d v w. GainsAtMost v w 0 (length (if part == d then all else []))) olds news
    (λ d v w k.
    at_most_weaker v w 0 0 (length (if part == d then fs else [])) (length (if part == d then all else [])) (omega arith) (fewer_frames (part == d) fs all few)
    (gains_at_most v w [] (if part == d then fs else []) k.gains)) h) (frames_made olds news part fs h)

refused_arrival : (spec : PartSpec) (v w : DeskView) (frame : List ℕ) (refusal : DeskRefused) → ArriveEnds spec v w frame (Err refusal)
    → GainsAtMost v w 0 0 × ArriveCause refusal (state_of spec w.seen) × ((u : DeskView) → MadeBy 255 u v → MadeBy 255 u w)
refused_arrival spec v w frame (refused.NoMemory None) h = (nothing_at_most v w h, tt, λ u m. made_nothing 255 u v w h m)
refused_arrival spec v w frame (refused.NoMemory (Some call)) h = absurd h
refused_arrival spec v w frame refused.TooManyCalls h = absurd h
refused_arrival spec v w frame (refused.OpenCall call) h = absurd h
refused_arrival spec v w frame refused.NoOpenCall h = absurd h
refused_arrival spec v w frame refused.TooManyArrivals h = (nothing_at_most v w h.0, h.1, λ u m. made_nothing 255 u v w h.0 m)

frames_refused : (specs : List PartSpec) (olds mids news : List DeskView) (number part : ℕ) (frame : List ℕ) (refusal : DeskRefused) (all fs : List (List ℕ))
    → length fs ≤ length all → DoesFrames olds mids part fs → slice_get all number ≡ Some frame → IsStepAt specs mids news part (λ spec v w. ArriveEnds spec v w frame (Err refusal))
    → AtDesks (λ d v w. GrewBy 255 0 (length (if part == d then all else [])) v w) olds news × IsArrivalRefused specs olds news all number part refusal
frames_refused specs olds mids news number part frame refusal all fs few h at s =
    let k = refused_arrival s.spec s.old s.new frame refusal s.ends in
    let r = refused_at 255 0 (λ d. 0) (λ d. 0) (λ d. length (if part == d then all else [])) specs olds mids news part _ (ArriveCause refusal) s (λ d. omega arith) (omega arith)
    (frames_grew olds mids part fs all few h) k.0 k.2 k.1 in
    (r.0, record { frame = slice_get_within all number frame at; cause = r.1 })

-- ---- how workers end

pub ops_ended : (specs : List PartSpec) (olds news : List DeskView) (thread : ℕ) (ops : List (ℕ × Op)) (rs : List Receipt) → DoesOps olds news thread ops rs → ScriptEnds specs olds news thread ops (Ok rs)
ops_ended specs olds news thread ops rs h = (h, ops_made olds news thread ops rs h)

pub ops_stopped : (specs : List PartSpec) (olds mids news : List DeskView) (thread number part : ℕ) (op : Op) (all : List (ℕ × Op)) (rs : List Receipt) (why : WorkerStop)
    → DoesOps olds mids thread (take number all) rs → slice_get all number ≡ Some (part, op) → IsStepAt specs mids news part (λ spec v w. NextCallEnds spec v w thread number part op (Err why))
    → ScriptEnds specs olds news thread all (Err why)
ops_stopped specs olds mids news thread number part op all rs (stop.Refused t k p refusal) h at s =
    let r = ops_refused specs olds mids news thread number part op refusal all rs h at (record { spec = s.spec; old = s.old; new = s.new; spec_there = s.spec_there; old_there = s.old_there; news_are = s.news_are; ends = s.ends.3 }) in (
      r.0,
      s.ends.0,
      subst (λ q. IsCallRefused specs olds news all thread k q refusal) (sym s.ends.2) (subst (λ j. IsCallRefused specs olds news all thread j part refusal) (sym s.ends.1) r.1),
      subst (λ q. KnowsOpen specs olds news thread q refusal) (sym s.ends.2) r.2,
    )
ops_stopped specs olds mids news thread number part op all rs stop.NoMemory h at s = absurd s.ends

pub ops_unkept : (specs : List PartSpec) (olds mids news : List DeskView) (thread number part : ℕ) (op : Op) (r : Receipt) (all : List (ℕ × Op)) (rs : List Receipt)
    → DoesOps olds mids thread (take number all) rs → slice_get all number ≡ Some (part, op) → IsStepAt specs mids news part (λ spec v w. NextCallEnds spec v w thread number part op (Ok r))
    → ScriptEnds specs olds news thread all (Err stop.NoMemory)
ops_unkept specs olds mids news thread number part op r all rs h at s =
    ops_grew olds news thread (λ d. count_on d all) (take number all ++ (part, op) ∷ []) (rs ++ r ∷ [])
    (λ d. let few = count_take d (number + 1) all in omega (arith, few, ap (count_on d) (take_next all number (part, op) at)))
    (ops_more specs olds mids news thread number part op r (take number all) rs h s)

pub frames_ended : (specs : List PartSpec) (olds news : List DeskView) (part : ℕ) (fs : List (List ℕ)) (rs : List Receipt) → rs ≡ [] → DoesFrames olds news part fs → ArrivalsEnd specs olds news part fs (Ok rs)
frames_ended specs olds news part fs rs e h = (e, h, frames_made olds news part fs h)

pub frames_stopped : (specs : List PartSpec) (olds mids news : List DeskView) (number part : ℕ) (frame : List ℕ) (all fs : List (List ℕ)) (why : WorkerStop)
    → length fs ≤ length all → DoesFrames olds mids part fs → slice_get all number ≡ Some frame → IsStepAt specs mids news part (λ spec v w. NextArrivalEnds spec v w number part frame (Err why))
    → ArrivalsEnd specs olds news part all (Err why)
frames_stopped specs olds mids news number part frame all fs (stop.Refused t k p refusal) few h at s =
    let r = frames_refused specs olds mids news number part frame refusal all fs few h at (record { spec = s.spec; old = s.old; new = s.new; spec_there = s.spec_there; old_there = s.old_there; news_are = s.news_are; ends = s.ends.3 }) in
    (r.0, s.ends.0, s.ends.2, subst (λ j. IsArrivalRefused specs olds news all j part refusal) (sym s.ends.1) r.1)
frames_stopped specs olds mids news number part frame all fs stop.NoMemory few h at s = absurd s.ends

-- ---- shares

call_share : (spec : PartSpec) (v w : DeskView) (thread : ℕ) (op : Op) (e : Result Receipt DeskRefused) → CallEnds spec v w thread op e → KeepsShare v w
call_share spec v w thread op (Ok r) h = h.0.adds.share
call_share spec v w thread op (Err (refused.NoMemory None)) h = h.share
call_share spec v w thread op (Err (refused.NoMemory (Some call))) h = h.1.1.adds.share
call_share spec v w thread op (Err refused.TooManyCalls) h = h.0.share
call_share spec v w thread op (Err (refused.OpenCall call)) h = h.0.share
call_share spec v w thread op (Err refused.NoOpenCall) h = absurd h
call_share spec v w thread op (Err refused.TooManyArrivals) h = absurd h

next_share : (spec : PartSpec) (v w : DeskView) (thread number part : ℕ) (op : Op) (e : Result Receipt WorkerStop) → NextCallEnds spec v w thread number part op e → KeepsShare v w
next_share spec v w thread number part op (Ok r) h = call_share spec v w thread op (Ok r) h
next_share spec v w thread number part op (Err (stop.Refused t k p refusal)) h = call_share spec v w thread op (Err refusal) h.3
next_share spec v w thread number part op (Err stop.NoMemory) h = absurd h

arrive_share : (spec : PartSpec) (v w : DeskView) (frame : List ℕ) (e : Result Bool DeskRefused) → ArriveEnds spec v w frame e → KeepsShare v w
arrive_share spec v w frame (Ok kept) h = h.1.share
arrive_share spec v w frame (Err (refused.NoMemory None)) h = h.share
arrive_share spec v w frame (Err (refused.NoMemory (Some call))) h = absurd h
arrive_share spec v w frame (Err refused.TooManyCalls) h = absurd h
arrive_share spec v w frame (Err (refused.OpenCall call)) h = absurd h
arrive_share spec v w frame (Err refused.NoOpenCall) h = absurd h
arrive_share spec v w frame (Err refused.TooManyArrivals) h = h.0.share

next_arrival_share : (spec : PartSpec) (v w : DeskView) (number part : ℕ) (frame : List ℕ) (e : Result Bool WorkerStop) → NextArrivalEnds spec v w number part frame e → KeepsShare v w
next_arrival_share spec v w number part frame (Ok kept) h = arrive_share spec v w frame (Ok kept) h
next_arrival_share spec v w number part frame (Err (stop.Refused t k p refusal)) h = arrive_share spec v w frame (Err refusal) h.3
next_arrival_share spec v w number part frame (Err stop.NoMemory) h = absurd h

share_step : (specs : List PartSpec) (olds mids news : List DeskView) (part : ℕ) (Ends : PartSpec → DeskView → DeskView → Type 0) (s : IsStepAt specs mids news part Ends)
    → KeepsShare s.old s.new → KeepShares olds mids → KeepShares olds news
share_step specs olds mids news part Ends s k h =
    step_more (λ d v w. KeepsShare v w) (λ d v w. KeepsShare v w) specs olds mids news part Ends s (λ d v w n e. e) (λ v e. k ∙ e) h

pub shares_none : (views : List DeskView) → KeepShares views views
shares_none views = at_desks_refl (λ d v w. KeepsShare v w) views (λ d v. refl)

pub call_shares : (specs : List PartSpec) (olds mids news : List DeskView) (thread number part : ℕ) (op : Op) (e : Result Receipt WorkerStop)
    → IsStepAt specs mids news part (λ spec v w. NextCallEnds spec v w thread number part op e) → KeepShares olds mids → KeepShares olds news
call_shares specs olds mids news thread number part op e s h = share_step specs olds mids news part _ s (next_share s.spec s.old s.new thread number part op e s.ends) h

pub arrival_shares : (specs : List PartSpec) (olds mids news : List DeskView) (number part : ℕ) (frame : List ℕ) (e : Result Bool WorkerStop)
    → IsStepAt specs mids news part (λ spec v w. NextArrivalEnds spec v w number part frame e) → KeepShares olds mids → KeepShares olds news
arrival_shares specs olds mids news number part frame e s h = share_step specs olds mids news part _ s (next_arrival_share s.spec s.old s.new number part frame e s.ends) h
