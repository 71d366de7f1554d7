-- What is still to come of a thread: its remaining operations follow one another after the answer of its open call.
-- This stays so when the event with the least stamp is taken.
use Rattle.std.proofs.Common.{drop, ◌≡◌, ◌⊎◌, inl, inr, ℕ, suc, ◌<◌, ◌≤◌, ◌==◌, if◌then◌else◌, Bool, true, false, Option, Some, None, List, [], ◌∷◌, refl, sym, ap, ◌∙◌, subst, arith, eqb-true, eq-eqb, true≢false}
use Rattle.desk_like.specs.Desks.{IsAt, IsInvoke, IsReceipt, IsReply}
use Rattle.nook_data.specs.Answers.{answer_at}
use Rattle.nook_data.specs.Numbered.{at_number}
use Rattle.nook_data.specs.declared.calls.Answer.{Answer}
use Rattle.nook_data.specs.declared.calls.Op.{Op}
use Rattle.nook_data.specs.declared.desks.Receipt.{Receipt}
use Rattle.nook_data.specs.declared.steps.Event.{Event}
use Rattle.nook_data.specs.declared.steps.Event.TheVariants as event
use Rattle.nook_data.proofs.Options.{none_is_some, same_inside}
use Rattle.part_laws.proofs.Indices.{split}
use Rattle.run_defs.specs.Simulation.{ThreadState, Waiting, started, thread_after}
use Rattle.run_defs.proofs.RunChanges.{settled, settled_by}
use Rattle.threaded_run.specs.Others.{is_invocation_by}
use Rattle.desk_like.specs.Stamps.{stamp_at}
use Rattle.order_defs.specs.OneClock.{AreStamped, Follow, journal_on}
use Rattle.order_laws.proofs.Stamps.{answered_later}

-- how many events of each part were taken, with one more of a part
abbrev pub one_more : (ℕ → ℕ) → ℕ → ℕ → ℕ
one_more n k part = if part == k then suc (n k) else n part

pub one_more_here : (n : ℕ → ℕ) (k : ℕ) → one_more n k k ≡ suc (n k)
one_more_here n k = rw (eq-eqb k k refl) refl

pub one_more_there : (n : ℕ → ℕ) (k part : ℕ) → (part == k) ≡ false → one_more n k part ≡ n part
one_more_there n k part h = rw h refl

pub no_fewer : (n : ℕ → ℕ) (k part number : ℕ) → one_more n k part < number → n part < number
no_fewer n k part number l = split (part == k)
    (λ e.
    let is : one_more n k part ≡ suc (n k) = rw e refl in
    let same : n part ≡ n k = ap n (eqb-true part k e) in
    (let far : suc (n k) < number = subst (λ (m : ℕ). m < number) is l in omega arith))
    (λ e. subst (λ (m : ℕ). m < number) (one_more_there n k part e) l)

pub one_after : (n : ℕ → ℕ) (k part number : ℕ) → n part < number → (part ≡ k → number ≡ suc (n k) → ⊥) → one_more n k part < number
one_after n k part number l apart = split (part == k)
    (λ e.
    let is : suc (n k) ≡ one_more n k part = rw e refl in
    let part_is : part ≡ k = eqb-true part k e in
    let low : n k < number = subst (λ (m : ℕ). n m < number) part_is l in
    subst (λ (m : ℕ). m < number) is (next (n k) number low (apart part_is)))
    (λ e. subst (λ (m : ℕ). m < number) (sym (one_more_there n k part e)) l)
  where
    next : (m number : ℕ) → m < number → (number ≡ suc m → ⊥) → suc m < number
    next m number l apart = omega arith

-- ---- invocations

abbrev pub IsInvocationBy : ℕ → Event → Type 0
IsInvocationBy i e = is_invocation_by i e ≡ true

invoke_by : (call i : ℕ) (op : Op) (e : Event) → IsInvoke call i op e → IsInvocationBy i e
invoke_by call i op (event.Invoke c t x a) h = eq-eqb t i h.1
invoke_by call i op (event.Enter c t attempt a) h = absurd h
invoke_by call i op (event.Burst context c burst count end acts a failure) h = absurd h
invoke_by call i op (event.Stage stage answers released) h = absurd h
invoke_by call i op (event.Arrive frame kept) h = absurd h

-- an operation on the part was invoked by the event with this number
abbrev pub IsInvokedIn : ℕ → ℕ → List (ℕ × Op) → List Receipt → Type 0
IsInvokedIn part number [] receipts = ⊥
IsInvokedIn part number (o ∷ ops) [] = ⊥
IsInvokedIn part number ((p, op) ∷ ops) (r ∷ receipts) = ((p ≡ part) × (r.at_invoke ≡ number)) ⊎ IsInvokedIn part number ops receipts

-- the operations are invoked after the events that were taken
abbrev pub AreToCome : (ℕ → ℕ) → List (ℕ × Op) → List Receipt → Type 0
AreToCome n [] receipts = Unit {0}
AreToCome n (o ∷ ops) [] = Unit {0}
AreToCome n ((part, op) ∷ ops) (r ∷ receipts) = (n part < r.at_invoke) × AreToCome n ops receipts

still_to_come : (n : ℕ → ℕ) (k : ℕ) (ops : List (ℕ × Op)) (receipts : List Receipt) → AreToCome n ops receipts
    → (IsInvokedIn k (suc (n k)) ops receipts → ⊥) → AreToCome (one_more n k) ops receipts
still_to_come n k [] receipts h apart = tt
still_to_come n k (o ∷ ops) [] h apart = tt
still_to_come n k ((part, op) ∷ ops) (r ∷ receipts) h apart = (
  one_after n k part r.at_invoke h.0 (λ same at. apart (inl (same, at))),
  still_to_come n k ops receipts h.1 (λ x. apart (inr x)),
)

module _ (journals : List (List Event)) (stamps : List (List ℕ)) (stamped : AreStamped journals stamps) where
  -- an operation that follows is invoked later
  follows_later : (i last : ℕ) (ops : List (ℕ × Op)) (receipts : List Receipt) (part number : ℕ) → Follow journals stamps i last ops receipts
      → IsInvokedIn part number ops receipts → last < stamp_at stamps part number
  follows_later i last [] receipts part number f h = absurd h
  follows_later i last (o ∷ ops) [] part number f h = absurd h
  follows_later i last ((p, op) ∷ ops) (r ∷ receipts) part number f (inl e) =
      subst (λ (q : ℕ). last < stamp_at stamps q number) e.0 (subst (λ (m : ℕ). last < stamp_at stamps p m) e.1 f.1)
  follows_later i last ((p, op) ∷ ops) (r ∷ receipts) part number f (inr h) =
      let more : stamp_at stamps p r.at_reply < stamp_at stamps part number = follows_later i (stamp_at stamps p r.at_reply) ops receipts part number f.2 h in
      let mid : stamp_at stamps p r.at_invoke ≤ stamp_at stamps p r.at_reply = answered_later journals stamps stamped p i op r f.0 in
      let first : last < stamp_at stamps p r.at_invoke = f.1 in
      omega arith

  -- and its event is an invocation by the thread
  follows_invoked : (i last : ℕ) (ops : List (ℕ × Op)) (receipts : List Receipt) (part number : ℕ) → Follow journals stamps i last ops receipts
      → IsInvokedIn part number ops receipts → IsAt (journal_on journals part) number (IsInvocationBy i)
  follows_invoked i last [] receipts part number f h = absurd h
  follows_invoked i last (o ∷ ops) [] part number f h = absurd h
  follows_invoked i last ((p, op) ∷ ops) (r ∷ receipts) part number f (inl e) =
      let at : IsAt (journal_on journals p) r.at_invoke (IsInvocationBy i) =
      record { event = f.0.invoked.event; there = f.0.invoked.there; is = invoke_by r.call i op f.0.invoked.event f.0.invoked.is } in
      subst (λ (q : ℕ). IsAt (journal_on journals q) number (IsInvocationBy i)) e.0 (subst (λ (m : ℕ). IsAt (journal_on journals p) m (IsInvocationBy i)) e.1 at)
  follows_invoked i last ((p, op) ∷ ops) (r ∷ receipts) part number f (inr h) =
      follows_invoked i (stamp_at stamps p r.at_reply) ops receipts part number f.2 h

  -- ---- what is still to come of a thread

  -- an open call is answered after the events that were taken, no later than `last`
  pub record HasReply (n : ℕ → ℕ) (last : ℕ) (w : Waiting) : Type 0 where
    pub number : ℕ
    pub answer : Answer
    pub later : n w.part < number
    pub there : IsAt (journal_on journals w.part) number (IsReply w.call answer)
    pub before : stamp_at stamps w.part number ≤ last

  abbrev pub HasReplyIfOpen : (ℕ → ℕ) → ℕ → Option Waiting → Type 0
  HasReplyIfOpen n last None = Unit {0}
  HasReplyIfOpen n last (Some w) = HasReply n last w

  -- after these numbers of events of each part: a thread's remaining operations are invoked later, one after another
  -- and after the answer of its open call, and it invokes no others later
  pub record IsAhead (i : ℕ) (n : ℕ → ℕ) (rest : List (ℕ × Op)) (waiting : Option Waiting) : Type 0 where
    pub last : ℕ
    pub receipts : List Receipt
    pub follow : Follow journals stamps i last rest receipts
    pub to_come : AreToCome n rest receipts
    pub all : (part number : ℕ) → n part < number → IsAt (journal_on journals part) number (IsInvocationBy i) → IsInvokedIn part number rest receipts
    pub reply : HasReplyIfOpen n last waiting

  -- ---- the event with the least stamp

  -- the event is the next of part k, and no event that was not taken has a lower stamp
  pub record IsNextEvent (n : ℕ → ℕ) (k : ℕ) (e : Event) : Type 0 where
    pub here : at_number (suc (n k)) (journal_on journals k) ≡ Some e
    pub least : (part number : ℕ) (x : Event) → n part < number → at_number number (journal_on journals part) ≡ Some x
        → stamp_at stamps k (suc (n k)) ≤ stamp_at stamps part number

  module _ (n : ℕ → ℕ) (k : ℕ) (e : Event) (next : IsNextEvent n k e) where
    same_event : (P : Event → Type 0) → IsAt (journal_on journals k) (suc (n k)) P → P e
    same_event P at = subst P (same_inside (sym at.there ∙ next.here)) at.is

    -- the event invoked the first remaining operation
    pub record IsFirst (i : ℕ) (rest : List (ℕ × Op)) (receipts : List Receipt) : Type 0 where
      pub op : Op
      pub more : List (ℕ × Op)
      pub receipt : Receipt
      pub others : List Receipt
      pub rest_is : rest ≡ (k, op) ∷ more
      pub at : receipt.at_invoke ≡ suc (n k)
      pub is : IsReceipt (journal_on journals k) i op receipt
      pub rest_after : Follow journals stamps i (stamp_at stamps k receipt.at_reply) more others
      pub to_come : AreToCome n more others
      pub all : (part number : ℕ) → IsInvokedIn part number rest receipts → ((part ≡ k) × (number ≡ suc (n k))) ⊎ IsInvokedIn part number more others

    first_invoked : (i last : ℕ) (rest : List (ℕ × Op)) (receipts : List Receipt) → Follow journals stamps i last rest receipts → AreToCome n rest receipts
        → IsInvokedIn k (suc (n k)) rest receipts → IsFirst i rest receipts
    first_invoked i last [] receipts f c h = absurd h
    first_invoked i last (o ∷ rest) [] f c h = absurd h
    first_invoked i last ((p, op) ∷ rest) (r ∷ receipts) f c (inl same) = record {
      op = op;
      more = rest;
      receipt = r;
      others = receipts;
      rest_is = ap {B = List (ℕ × Op)} (λ (q : ℕ). (q, op) ∷ rest) same.0;
      at = same.1;
      is = subst (λ (q : ℕ). IsReceipt (journal_on journals q) i op r) same.0 f.0;
      rest_after = subst (λ (q : ℕ). Follow journals stamps i (stamp_at stamps q r.at_reply) rest receipts) same.0 f.2;
      to_come = c.1;
      all = λ part number x. by_position part number x;
    }
      where
        by_position : (part number : ℕ) → ((p ≡ part) × (r.at_invoke ≡ number)) ⊎ IsInvokedIn part number rest receipts
            → ((part ≡ k) × (number ≡ suc (n k))) ⊎ IsInvokedIn part number rest receipts
        by_position part number (inl x) = inl (sym x.0 ∙ same.0, sym x.1 ∙ same.1)
        by_position part number (inr x) = inr x
    first_invoked i last ((p, op) ∷ rest) (r ∷ receipts) f c (inr h) =
        let late : stamp_at stamps k (suc (n k)) ≤ stamp_at stamps p r.at_invoke = next.least p r.at_invoke f.0.invoked.event c.0 f.0.invoked.there in
        let mid : stamp_at stamps p r.at_invoke ≤ stamp_at stamps p r.at_reply = answered_later journals stamps stamped p i op r f.0 in
        let before : stamp_at stamps p r.at_reply < stamp_at stamps k (suc (n k)) =
        follows_later i (stamp_at stamps p r.at_reply) rest receipts k (suc (n k)) f.2 h in
        absurd (omega arith)

    -- ---- an invocation is its thread's next

    mine : (i : ℕ) (rest : List (ℕ × Op)) (w : Option Waiting) (h : IsAhead i n rest w) → IsInvocationBy i e → IsInvokedIn k (suc (n k)) rest h.receipts
    mine i rest w h is = h.all k (suc (n k)) (less (n k)) record { event = e; there = next.here; is = is }
      where
        less : (m : ℕ) → m < suc m
        less m = omega arith

    pub invokes_first : (i : ℕ) (rest : List (ℕ × Op)) (w : Option Waiting) (h : IsAhead i n rest w) → IsInvocationBy i e → IsFirst i rest h.receipts
    invokes_first i rest w h is = first_invoked i h.last rest h.receipts h.follow h.to_come (mine i rest w h is)

    -- an answer still to come is no earlier than the event
    reply_late : (last : ℕ) (w : Waiting) → HasReply n last w → stamp_at stamps k (suc (n k)) ≤ last
    reply_late last w r =
        let late : stamp_at stamps k (suc (n k)) ≤ stamp_at stamps w.part r.number = next.least w.part r.number r.there.event r.later r.there.there in
        let before : stamp_at stamps w.part r.number ≤ last = r.before in
        omega arith

    pub invokes_free : (i : ℕ) (rest : List (ℕ × Op)) (w : Option Waiting) → IsAhead i n rest w → IsInvocationBy i e → w ≡ None
    invokes_free i rest None h is = refl
    invokes_free i rest (Some w) h is =
        let late : stamp_at stamps k (suc (n k)) ≤ h.last = reply_late h.last w h.reply in
        let before : h.last < stamp_at stamps k (suc (n k)) = follows_later i h.last rest h.receipts k (suc (n k)) h.follow (mine i rest (Some w) h is) in
        absurd (omega arith)

    -- ---- the thread after the event

    -- the thread after the event, except for its answer: the event may answer the open call
    record IsBegun (i : ℕ) (rest : List (ℕ × Op)) (waiting : Option Waiting) : Type 0 where
      last : ℕ
      receipts : List Receipt
      follow : Follow journals stamps i last rest receipts
      to_come : AreToCome (one_more n k) rest receipts
      all : (part number : ℕ) → one_more n k part < number → IsAt (journal_on journals part) number (IsInvocationBy i) → IsInvokedIn part number rest receipts
      reply : HasReplyIfOpen n last waiting

    not_here : (i : ℕ) (last : ℕ) (rest : List (ℕ × Op)) (receipts : List Receipt) → Follow journals stamps i last rest receipts → is_invocation_by i e ≡ false
        → IsInvokedIn k (suc (n k)) rest receipts → ⊥
    not_here i last rest receipts f not h = true≢false (sym (same_event (IsInvocationBy i) (follows_invoked i last rest receipts k (suc (n k)) f h)) ∙ not)

    not_begun : (i : ℕ) (rest : List (ℕ × Op)) (w : Option Waiting) → IsAhead i n rest w → is_invocation_by i e ≡ false → IsBegun i rest w
    not_begun i rest w h not = record {
      last = h.last;
      receipts = h.receipts;
      follow = h.follow;
      to_come = still_to_come n k rest h.receipts h.to_come (not_here i h.last rest h.receipts h.follow not);
      all = λ part number l at. h.all part number (no_fewer n k part number l) at;
      reply = h.reply;
    }

    same_call : (call i : ℕ) (op : Op) (c t : ℕ) (o : Op) (a : Option Answer) → IsInvoke call i op (event.Invoke c t o a) → call ≡ c
    same_call call i op c t o a h = sym h.0

    -- the reply to the call that the event invokes
    first_reply : (i call : ℕ) (rest : List (ℕ × Op)) (receipts : List Receipt) (f : IsFirst i rest receipts) → f.receipt.call ≡ call
        → HasReply n (stamp_at stamps k f.receipt.at_reply) (record { part = k; call = call })
    first_reply i call rest receipts f same = record {
      number = f.receipt.at_reply;
      answer = f.receipt.answer;
      later = above (n k) f.receipt.at_invoke f.receipt.at_reply f.at f.is.ordered;
      there = subst (λ (c : ℕ). IsAt (journal_on journals k) f.receipt.at_reply (IsReply c f.receipt.answer)) same f.is.answered;
      before = no_more (stamp_at stamps k f.receipt.at_reply);
    }
      where
        above : (m a b : ℕ) → a ≡ suc m → a ≤ b → m < b
        above m a b e l = omega arith

        no_more : (m : ℕ) → m ≤ m
        no_more m = omega arith

    begun_first : (i call : ℕ) (rest : List (ℕ × Op)) (w : Option Waiting) (h : IsAhead i n rest w) (is : IsInvocationBy i e)
        → (invokes_first i rest w h is).receipt.call ≡ call → IsBegun i (drop 1 rest) (Some (record { part = k; call = call }))
    begun_first i call rest w h is same =
        let f : IsFirst i rest h.receipts = invokes_first i rest w h is in
        let late : stamp_at stamps k (suc (n k)) ≤ stamp_at stamps k f.receipt.at_reply =
        subst (λ (m : ℕ). stamp_at stamps k m ≤ stamp_at stamps k f.receipt.at_reply) f.at (answered_later journals stamps stamped k i f.op f.receipt f.is) in
        subst (λ xs. IsBegun i (drop 1 xs) (Some (record { part = k; call = call }))) (sym f.rest_is) (record {
          last = stamp_at stamps k f.receipt.at_reply;
          receipts = f.others;
          follow = f.rest_after;
          to_come = still_to_come n k f.more f.others f.to_come (λ x. past _ _ late
              (follows_later i (stamp_at stamps k f.receipt.at_reply) f.more f.others k (suc (n k)) f.rest_after x));
          all = λ part number l at. further f.more f.others part number l (f.all part number (h.all part number (no_fewer n k part number l) at));
          reply = first_reply i call rest h.receipts f same;
        })
      where
        past : (a b : ℕ) → a ≤ b → b < a → ⊥
        past a b l m = omega arith

        further : (more : List (ℕ × Op)) (others : List Receipt) (part number : ℕ) → one_more n k part < number
            → ((part ≡ k) × (number ≡ suc (n k))) ⊎ IsInvokedIn part number more others → IsInvokedIn part number more others
        further more others part number l (inl x) =
            let far : suc (n k) < number = subst (λ (m : ℕ). m < number) (ap (one_more n k) x.0 ∙ one_more_here n k) l in
            let at : number ≡ suc (n k) = x.1 in
            absurd (omega arith)
        further more others part number l (inr x) = x

    -- the event answers the open call, or the answer is still to come
    still_reply : (last : ℕ) (w : Waiting) → HasReply n last w → ((w.part ≡ k) → answer_at w.call e ≡ None) → HasReply (one_more n k) last w
    still_reply last w r silent = record {
      number = r.number;
      answer = r.answer;
      later = one_after n k w.part r.number r.later (λ part_is position_is.
          let at : IsAt (journal_on journals k) (suc (n k)) (IsReply w.call r.answer) =
          subst (λ (m : ℕ). IsAt (journal_on journals k) m (IsReply w.call r.answer)) position_is
          (subst (λ (q : ℕ). IsAt (journal_on journals q) r.number (IsReply w.call r.answer)) part_is r.there) in
          none_is_some (sym (silent part_is) ∙ same_event (IsReply w.call r.answer) at));
      there = r.there;
      before = r.before;
    }

    settle : (i : ℕ) (t : ThreadState) (w : Option Waiting) → t.waiting ≡ w → IsBegun i t.rest w
        → IsAhead i (one_more n k) (settled k e t w).rest (settled k e t w).waiting
    settle i t None is b = subst (λ (o : Option Waiting). IsAhead i (one_more n k) t.rest o) (sym is)
        (record { last = b.last; receipts = b.receipts; follow = b.follow; to_come = b.to_come; all = b.all; reply = tt })
    settle i t (Some w) is b = by_answer (if w.part == k then answer_at w.call e else None) refl
      where
        by_answer : (a : Option Answer) → (if w.part == k then answer_at w.call e else None) ≡ a
            → IsAhead i (one_more n k) (settled_by k t a).rest (settled_by k t a).waiting
        by_answer None silent = subst (λ (o : Option Waiting). IsAhead i (one_more n k) t.rest o) (sym is) (record {
          last = b.last;
          receipts = b.receipts;
          follow = b.follow;
          to_come = b.to_come;
          all = b.all;
          reply = still_reply b.last w b.reply (λ part_is. sym (here (w.part == k) (eq-eqb w.part k part_is)) ∙ silent);
        })
          where
            here : (x : Bool) → x ≡ true → (if x then answer_at w.call e else None) ≡ answer_at w.call e
            here x h = rw h refl
        by_answer (Some a) reported =
            record { last = b.last; receipts = b.receipts; follow = b.follow; to_come = b.to_come; all = b.all; reply = tt }

  -- ---- each thread

  by_own : (P : List (ℕ × Op) → Option Waiting → Type 0) (b : Bool) (rest : List (ℕ × Op)) (w new : Option Waiting) → (b ≡ true → P (drop 1 rest) new)
      → (b ≡ false → P rest w) → P (if b then drop 1 rest else rest) (if b then new else w)
  by_own P true rest w new holds fails = holds refl
  by_own P false rest w new holds fails = fails refl

  begun : (n : ℕ → ℕ) (k : ℕ) (e : Event) (next : IsNextEvent n k e) (i : ℕ) (t : ThreadState) → IsAhead i n t.rest t.waiting
      → IsBegun n k e next i (started i k e t).rest (started i k e t).waiting
  begun n k (event.Invoke call thread o a) next i t h =
      by_own (IsBegun n k (event.Invoke call thread o a) next i) (thread == i) t.rest t.waiting (Some (record { part = k; call = call }))
      (λ holds. begun_first n k (event.Invoke call thread o a) next i call t.rest t.waiting h holds (called holds))
      (λ fails. not_begun n k (event.Invoke call thread o a) next i t.rest t.waiting h fails)
    where
      called : (holds : (thread == i) ≡ true) → (invokes_first n k (event.Invoke call thread o a) next i t.rest t.waiting h holds).receipt.call ≡ call
      called holds =
          let f : IsFirst n k (event.Invoke call thread o a) next i t.rest h.receipts = invokes_first n k (event.Invoke call thread o a) next i t.rest t.waiting h holds in
          let at : IsAt (journal_on journals k) (suc (n k)) (IsInvoke f.receipt.call i f.op) =
          subst (λ (m : ℕ). IsAt (journal_on journals k) m (IsInvoke f.receipt.call i f.op)) f.at f.is.invoked in
          sym (same_event n k (event.Invoke call thread o a) next (IsInvoke f.receipt.call i f.op) at).0
  begun n k (event.Enter call thread attempt a) next i t h = not_begun n k (event.Enter call thread attempt a) next i t.rest t.waiting h refl
  begun n k (event.Burst context call burst count end acts a failure) next i t h =
      not_begun n k (event.Burst context call burst count end acts a failure) next i t.rest t.waiting h refl
  begun n k (event.Stage stage answers released) next i t h = not_begun n k (event.Stage stage answers released) next i t.rest t.waiting h refl
  begun n k (event.Arrive frame kept) next i t h = not_begun n k (event.Arrive frame kept) next i t.rest t.waiting h refl

  -- what is still to come of a thread after the event with the least stamp
  pub ahead_after : (n : ℕ → ℕ) (k : ℕ) (e : Event) (next : IsNextEvent n k e) (i : ℕ) (t : ThreadState) → IsAhead i n t.rest t.waiting
      → IsAhead i (one_more n k) (thread_after k e (started i k e t)).rest (thread_after k e (started i k e t)).waiting
  ahead_after n k e next i t h =
      let s : ThreadState = started i k e t in
      settle n k e next i s s.waiting refl (begun n k e next i t h)
