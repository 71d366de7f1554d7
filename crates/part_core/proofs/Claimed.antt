-- The claims of the open calls follow the log.
use Rattle.std.proofs.Common.{◌≡◌, ℕ, ◌+◌, ◌<◌, ◌≤◌, Bool, true, false, not, Option, Some, None, List, [], ◌∷◌, ◌++◌, map, filter, refl, sym, ap, ◌∙◌, inl, inr, arith, ◌⊎◌, if◌then◌else◌}
use Rattle.std.specs.List.{find, list_any}
use Rattle.std.specs.Option.{IfSome, is_some, option_map}
use Rattle.std.proofs.lemmas.Bool.{cases_Bool, cases_lt, eq-eqb, ne_eqb}
use Rattle.claim_index.specs.declared.claim.Claim.{Claim}
use Rattle.claim_index.specs.Claims.{AreBelow, blocker_of, claim_of, claimed_by, claims_of, without_call}
use Rattle.nook_data.specs.declared.calls.Answer.{Answer}
use Rattle.nook_data.specs.declared.calls.Answer.TheVariants as answer
use Rattle.nook_data.specs.declared.calls.CallEntry.{CallEntry}
use Rattle.nook_data.specs.declared.classes.Class.{Class}
use Rattle.nook_data.specs.declared.calls.Op.{Op}
use Rattle.nook_data.specs.declared.calls.Op.TheVariants as op
use Rattle.nook_data.specs.declared.steps.Stage.TheVariants as stage
use Rattle.part_defs.specs.Log.{after_acknowledging, after_answering, blocks_call, after_entering, gone_answers}
use Rattle.part_defs.specs.Log.{held_by_shadow, is_blocked, is_call, is_held, no_call_open, with_answered_call}
use Rattle.part_defs.specs.Log.{open_call, opening_log, queue_after, shadow_answer, stop_answers, with_answer}
use Rattle.part_defs.specs.Log.{with_call}
use Rattle.part_defs.specs.Views.CallLogs.{IsNumbered, acknowledged_call, blocked_by}
use Rattle.part_defs.proofs.PartCases.{change_entry, entered_call, new_entry, stop_calls}
use Rattle.part_defs.specs.State.{CallLog}
use Rattle.shadow_log.proofs.Numbers.{numbered_filter, numbered_map, numbered_more, numbered_push}
use Rattle.shadow_log.proofs.Changes.{numbered_stop}
use Rattle.part_core.specs.Answering.{call_number}
use Rattle.part_core.specs.Claimed.{AreClaimed, without_answered}

pub claimed_at_first : (defaults : List ℕ) → AreClaimed [] (opening_log defaults)
unfolding opening_log
claimed_at_first defaults = record { claims_are = refl; numbered = omega arith }

-- Invoke

claims_push : (xs : List CallEntry) (x : CallEntry) → claims_of (xs ++ x ∷ []) ≡ claims_of xs ++ claim_of x ∷ []
claims_push [] x = refl
claims_push (y ∷ xs) x = ap (λ z. claim_of y ∷ z) (claims_push xs x)

below_count : (low count : ℕ) (xs : List CallEntry) → IsNumbered low count xs → (low ≤ count) × AreBelow (count + 1) (claims_of xs)
below_count low count [] n = (n, tt)
below_count low count (x ∷ xs) n =
    let r = below_count x.call count xs n.1 in (omega (arith, n.0, r.0), (omega (arith, r.0), r.1))

pub all_below : (claims : List Claim) (log : CallLog) → AreClaimed claims log → AreBelow (log.count + 1) claims
all_below claims log a = rw a.claims_are (below_count 0 log.count log.pending a.numbered).1

pub claimed_invoked : (claims more : List Claim) (log : CallLog) (thread : ℕ) (o : Op) (k : Claim) → AreClaimed claims log
    → k.call ≡ log.count + 1 → k.on ≡ claimed_by o → more ≡ claims ++ k ∷ [] → AreClaimed more (with_call thread o log)
unfolding with_call
claimed_invoked claims more log thread o k a c e m = record {
  claims_are =
      let same : k ≡ claim_of (new_entry (log.count + 1) thread o) = rw (c, e) refl in
      m ∙ ap (λ z. z ++ k ∷ []) a.claims_are ∙ ap (λ z. claims_of log.pending ++ z ∷ []) same ∙ sym (claims_push log.pending (new_entry (log.count + 1) thread o));
  numbered = numbered_push 0 log.count log.pending (new_entry (log.count + 1) thread o) a.numbered refl;
}

without_last : (call : ℕ) (xs : List Claim) (k : Claim) → AreBelow call xs → k.call ≡ call → without_call call (xs ++ k ∷ []) ≡ xs
without_last call [] k b e = rw (eq-eqb k.call call e) refl
without_last call (x ∷ xs) k b e = rw (ne_eqb x.call call (λ i. omega (arith, i, b.0)), without_last call xs k b.1 e) refl

-- a claim that was added and removed again
pub claimed_again : (claims more less : List Claim) (log : CallLog) (call : ℕ) (k : Claim) → AreClaimed claims log → call ≡ log.count + 1
    → k.call ≡ call → more ≡ claims ++ k ∷ [] → less ≡ without_call call more → AreClaimed less log
claimed_again claims more less log call k a c e m l =
    let below : AreBelow call claims = rw c (all_below claims log a) in
    let same : less ≡ claims = l ∙ ap (λ z. without_call call z) m ∙ without_last call claims k below e in
    record { claims_are = same ∙ a.claims_are; numbered = a.numbered }

pub claimed_numbered : (claims : List Claim) (log : CallLog) → AreClaimed claims log → AreClaimed claims (with_answered_call log)
unfolding with_answered_call
claimed_numbered claims log a = record { claims_are = a.claims_are; numbered = numbered_more 0 log.count log.pending a.numbered }

-- a call continues

changed_claim : (call : ℕ) (c : CallEntry) (t : Bool) → claim_of (if t then entered_call c else c) ≡ claim_of c
changed_claim call c true = refl
changed_claim call c false = refl

changed_call : (call : ℕ) (c : CallEntry) (t : Bool) → (if t then entered_call c else c).call ≡ c.call
changed_call call c true = refl
changed_call call c false = refl

claims_entered : (call : ℕ) (xs : List CallEntry) → claims_of (map (change_entry call entered_call) xs) ≡ claims_of xs
claims_entered call [] = refl
claims_entered call (x ∷ xs) = rw (changed_claim call x (is_call call x), claims_entered call xs) refl

pub claimed_entered : (claims : List Claim) (log : CallLog) (call : ℕ) → AreClaimed claims log → AreClaimed claims (after_entering call log)
unfolding after_entering
claimed_entered claims log call a = record {
  claims_are = a.claims_are ∙ sym (claims_entered call log.pending);
  numbered = numbered_map 0 log.count (change_entry call entered_call) log.pending (λ c. changed_call call c (is_call call c)) a.numbered;
}

claimed_acknowledged_by : (claims : List Claim) (log : CallLog) (found : Option CallEntry) → AreClaimed claims log
    → AreClaimed claims (elim found as (λ o. CallLog) [ None ↦ log | Some c ↦ after_acknowledging c.thread c.op log ])
unfolding after_acknowledging
claimed_acknowledged_by claims log None a = a
claimed_acknowledged_by claims log (Some c) a = record { claims_are = a.claims_are; numbered = a.numbered }

pub claimed_acknowledged : (claims : List Claim) (log : CallLog) (call : ℕ) → AreClaimed claims log → AreClaimed claims (acknowledged_call call log)
unfolding acknowledged_call
claimed_acknowledged claims log call a = claimed_acknowledged_by claims log (open_call call log.pending) a

-- calls are answered

claims_without : (call : ℕ) (xs : List CallEntry) → without_call call (claims_of xs) ≡ claims_of (filter (λ c. not (is_call call c)) xs)
claims_without call [] = refl
claims_without call (x ∷ xs) = elim (cases_Bool (is_call call x)) [
  | inl t ↦ rw t (claims_without call xs)
  | inr t ↦ rw t (ap (λ z. claim_of x ∷ z) (claims_without call xs))
]

pub claimed_answered : (claims less : List Claim) (log : CallLog) (call : ℕ) → AreClaimed claims log → less ≡ without_call call claims
    → AreClaimed less (after_answering call log)
unfolding after_answering
claimed_answered claims less log call a l = record {
  claims_are = l ∙ ap (λ z. without_call call z) a.claims_are ∙ claims_without call log.pending;
  numbered = numbered_filter 0 log.count (λ c. not (is_call call c)) log.pending a.numbered;
}

-- Stop

abbrev AreAbove : ℕ → List (ℕ × Answer) → Type 0
AreAbove low [] = Unit {0}
AreAbove low (pair ∷ answers) = (low < pair.0) × AreAbove low answers

above_lower : (low high : ℕ) (answers : List (ℕ × Answer)) → low ≤ high → AreAbove high answers → AreAbove low answers
above_lower low high [] l a = tt
above_lower low high (pair ∷ answers) l a = (omega (arith, l, a.0), above_lower low high answers l a.1)

-- answers to later calls do not affect a claim
first_stays : (answers : List (ℕ × Answer)) (k : Claim) (claims : List Claim) → AreAbove k.call answers
    → without_answered answers (k ∷ claims) ≡ k ∷ without_answered answers claims
first_stays [] k claims a = refl
first_stays (pair ∷ answers) k claims a =
    rw (ne_eqb k.call pair.0 (λ i. omega (arith, i, a.0))) (first_stays answers k (without_call pair.0 claims) a.1)

with_above : (low call : ℕ) (found : Option Answer) (answers : List (ℕ × Answer)) → low < call → AreAbove low answers → AreAbove low (with_answer call found answers)
with_above low call None answers l a = a
with_above low call (Some x) answers l a = (l, a)

stop_above : (low count : ℕ) (xs : List CallEntry) (config : List ℕ) (holder : Option ℕ) (queue : List (List ℕ)) → IsNumbered low count xs
    → AreAbove low (stop_answers xs config holder queue)
stop_above low count [] config holder queue n = tt
stop_above low count (x ∷ xs) config holder queue n =
    with_above low x.call (shadow_answer x.op x.thread config holder stage.Stop queue) (stop_answers xs config holder (queue_after x.op queue)) n.0
    (above_lower low x.call (stop_answers xs config holder (queue_after x.op queue)) (omega (arith, n.0)) (stop_above x.call count xs config holder (queue_after x.op queue) n.1))

none_at_or_below : (call low count : ℕ) (xs : List CallEntry) → call ≤ low → IsNumbered low count xs → without_call call (claims_of xs) ≡ claims_of xs
none_at_or_below call low count [] l n = refl
none_at_or_below call low count (x ∷ xs) l n =
    rw (ne_eqb x.call call (λ i. omega (arith, i, l, n.0)), none_at_or_below call x.call count xs (omega (arith, l, n.0)) n.1) refl

-- when a call is answered, its claim ends
first_goes : (answers : List (ℕ × Answer)) (a : Answer) (x : CallEntry) (count : ℕ) (xs : List CallEntry) → IsNumbered x.call count xs
    → without_answered ((x.call, a) ∷ answers) (claims_of (x ∷ xs)) ≡ without_answered answers (claims_of xs)
first_goes answers a x count xs n =
    rw (eq-eqb x.call x.call refl) (ap (λ z. without_answered answers z) (none_at_or_below x.call x.call count xs (omega arith) n))

-- what the shadow answers to a call, and whether it keeps the call
stopped_of : (thread : ℕ) (o : Op) (config : List ℕ) (holder : Option ℕ) (queue : List (List ℕ))
    → ((shadow_answer o thread config holder stage.Stop queue ≡ None) × (is_held o ≡ true))
    ⊎ ((a : Answer) × (shadow_answer o thread config holder stage.Stop queue ≡ Some a) × (is_held o ≡ false))
unfolding shadow_answer
stopped_of thread (op.Read first count) config holder queue = inl (refl, refl)
stopped_of thread (op.Write first words) config holder queue = inl (refl, refl)
stopped_of thread (op.Send frame) config holder queue = inr (_, refl, refl)
stopped_of thread op.Recv config holder queue = inr (_, refl, refl)
stopped_of thread op.Open config holder queue = inr (_, refl, refl)
stopped_of thread (op.Play samples) config holder queue = inr (_, refl, refl)
stopped_of thread op.Close config holder queue = inl (refl, refl)
stopped_of thread (op.Get key) config holder queue = inr (_, refl, refl)
stopped_of thread (op.Set key value) config holder queue = inl (refl, refl)

claims_stopped : (low count : ℕ) (xs : List CallEntry) (config : List ℕ) (holder : Option ℕ) (queue : List (List ℕ)) → IsNumbered low count xs
    → without_answered (stop_answers xs config holder queue) (claims_of xs) ≡ claims_of (stop_calls xs)
claims_stopped low count [] config holder queue n = refl
claims_stopped low count (x ∷ xs) config holder queue n =
    let rest = stop_answers xs config holder (queue_after x.op queue) in
    let h : without_answered rest (claims_of xs) ≡ claims_of (stop_calls xs) = claims_stopped x.call count xs config holder (queue_after x.op queue) n.1 in
    elim (stopped_of x.thread x.op config holder queue) [
      | inl held ↦ rw (held.0, held.1)
          (first_stays rest (claim_of x) (claims_of xs) (stop_above x.call count xs config holder (queue_after x.op queue) n.1) ∙ ap (λ z. claim_of x ∷ z) h)
      | inr gone ↦ rw (gone.1, gone.2) (first_goes rest gone.0 x count xs n.1 ∙ h)
    ]

claims_gone : (low count failures : ℕ) (xs : List CallEntry) → IsNumbered low count xs → without_answered (gone_answers failures xs) (claims_of xs) ≡ []
claims_gone low count failures [] n = refl
claims_gone low count failures (x ∷ xs) n =
    first_goes (gone_answers failures xs) (answer.Gone failures) x count xs n.1 ∙ claims_gone x.call count failures xs n.1

pub claimed_stopped : (claims less : List Claim) (log : CallLog) (answers : List (ℕ × Answer)) (queue : List (List ℕ)) → AreClaimed claims log
    → answers ≡ stop_answers log.pending log.config log.holder queue → less ≡ without_answered answers claims → AreClaimed less (held_by_shadow log)
claimed_stopped claims less log answers queue a e l = record {
  claims_are = l ∙ rw (e, a.claims_are) (claims_stopped 0 log.count log.pending log.config log.holder queue a.numbered);
  numbered = numbered_stop log.count (λ c. is_held c.op) log.pending (stop_calls log.pending) refl a.numbered;
}

pub claimed_given_up : (claims less : List Claim) (log : CallLog) (answers : List (ℕ × Answer)) (failures : ℕ) → AreClaimed claims log
    → answers ≡ gone_answers failures log.pending → less ≡ without_answered answers claims → AreClaimed less (no_call_open log)
claimed_given_up claims less log answers failures a e l = record {
  claims_are = l ∙ rw (e, a.claims_are) (claims_gone 0 log.count failures log.pending a.numbered);
  numbered = omega arith;
}

pub claimed_after_stop : (claims less : List Claim) (log new : CallLog) (answers : List (ℕ × Answer)) (queue : List (List ℕ)) (failures limit : ℕ)
    → AreClaimed claims log → (failures ≤ limit → new ≡ held_by_shadow log)
    → (failures ≤ limit → answers ≡ stop_answers log.pending log.config log.holder queue) → (limit < failures → new ≡ no_call_open log)
    → (limit < failures → answers ≡ gone_answers failures log.pending) → less ≡ without_answered answers claims → AreClaimed less new
claimed_after_stop claims less log new answers queue failures limit a h s n g l = elim (cases_lt limit failures) [
  | inl past ↦ rw (n past) (claimed_given_up claims less log answers failures a (g past) l)
  | inr within ↦ rw (h within) (claimed_stopped claims less log answers queue a (s within) l)
]

-- what blocks a call

some_found : (p : CallEntry → Bool) (xs : List CallEntry) → is_some (option_map (λ e. e.call) (find p xs)) ≡ list_any p xs
some_found p [] = refl
some_found p (x ∷ xs) = elim (cases_Bool (p x)) [
  | inl t ↦ rw t refl
  | inr t ↦ rw t (some_found p xs)
]

pub blocked_is : (class : Class) (c : CallEntry) (pending : List CallEntry) (found : Option ℕ) (b : Bool) → open_call c.call pending ≡ Some c
    → found ≡ blocker_of class (open_call c.call pending) pending → b ≡ is_some found → b ≡ is_blocked class c pending
blocked_is class c pending found b o f e =
    let g : found ≡ option_map (λ x. x.call) (blocked_by class c pending) = rw o at f in
    e ∙ ap (λ z. is_some z) g ∙ some_found (blocks_call class c) pending

number_is : (found : Option CallEntry) → option_map (λ e. e.call) found ≡ call_number found
number_is None = refl
number_is (Some c) = refl

pub blocker_is : (class : Class) (found : Option CallEntry) (pending : List CallEntry) (r : Option ℕ) → r ≡ blocker_of class found pending
    → IfSome found (λ c. r ≡ call_number (blocked_by class c pending))
blocker_is class None pending r e = tt
blocker_is class (Some c) pending r e = e ∙ number_is (blocked_by class c pending)
