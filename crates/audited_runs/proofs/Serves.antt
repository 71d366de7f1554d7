-- A part's journal serves each thread: its operations on the part were invoked in order and answered.
use Rattle.std.proofs.Common.{ap, drop, ◌≡◌, ℕ, suc, ◌<◌, ◌==◌, if◌then◌else◌, Bool, true, Option, Some, None, List, [], ◌∷◌, ◌++◌, map, slice_get, refl, sym, ◌∙◌, subst, arith, append_assoc, eqb-true, eq-eqb}
use Rattle.desk_like.specs.Desks.{IsReply, IsAt, IsReceipt, IsRisingFrom}
use Rattle.nook_data.specs.Answers.{answer_at}
use Rattle.run_defs.specs.Simulation.{ThreadState, Waiting, started, thread_after}
use Rattle.run_defs.proofs.RunChanges.{settled, settled_by}
use Rattle.nook_data.specs.declared.calls.Answer.{Answer}
use Rattle.nook_data.specs.declared.steps.Event.{Event}
use Rattle.nook_data.specs.declared.steps.Event.TheVariants as event
use Rattle.nook_data.specs.declared.calls.Op.{Op}
use Rattle.nook_data.specs.declared.desks.Receipt.{Receipt}
use Rattle.part_laws.proofs.Indices.{split}

abbrev pub invoked_at : Receipt → ℕ
invoked_at r = r.at_invoke

abbrev pub answer_on : ℕ → Receipt → ℕ × Answer
answer_on index r = (index, r.answer)

pub rising_before : (n : ℕ) (numbers : List ℕ) → IsRisingFrom (suc n) numbers → IsRisingFrom n numbers
rising_before n [] h = tt
rising_before n (index ∷ numbers) h = (omega arith, h.1)

-- the operations of a thread have these receipts in the part's journal
abbrev pub AreOn : List Event → ℕ → List (ℕ × Op) → List Receipt → Type 0
AreOn journal thread [] [] = Unit {0}
AreOn journal thread [] (r ∷ receipts) = ⊥
AreOn journal thread (o ∷ ops) [] = ⊥
AreOn journal thread (o ∷ ops) (r ∷ receipts) = IsReceipt journal thread o.1 r × AreOn journal thread ops receipts

-- the number of an open call
abbrev pub waiting_number : Option Waiting → Option ℕ
waiting_number None = None
waiting_number (Some w) = Some w.call

-- an open call is on the part
abbrev pub IsHere : ℕ → Option Waiting → Type 0
IsHere index None = Unit {0}
IsHere index (Some w) = w.part ≡ index

-- if the event is the thread's invocation, the thread has no open call, and the operation is its next
abbrev pub Starts : ℕ → Event → ThreadState → Type 0
Starts i (event.Invoke call thread o a) t = thread ≡ i → (t.waiting ≡ None) × ((p : ℕ) × ((more : List (ℕ × Op)) × (t.rest ≡ (p, o) ∷ more)))
Starts i e t = Unit {0}

module _ (index i : ℕ) (journal : List Event) where
  -- a call is answered after the first n events
  pub record Reply (n call : ℕ) : Type 0 where
    pub at : ℕ
    pub answer : Answer
    pub there : IsAt journal at (IsReply call answer)
    pub later : n < at

  -- the answers that the journal gives the thread after its first n events: to its open call, and to what it invokes
  abbrev pub IsGiven : ℕ → List (ℕ × Answer) → Option Waiting → List Receipt → List (ℕ × Answer) → Type 0
  IsGiven n answers None receipts final = final ≡ answers ++ map (answer_on index) receipts
  IsGiven n answers (Some w) receipts final = (r : Reply n w.call) × (final ≡ answers ++ (index, r.answer) ∷ map (answer_on index) receipts)

  pub record Serves (n : ℕ) (t : ThreadState) (final : List (ℕ × Answer)) : Type 0 where
    pub receipts : List Receipt
    pub on : AreOn journal i t.rest receipts
    pub rising : IsRisingFrom n (map invoked_at receipts)
    pub given : IsGiven n t.answers t.waiting receipts final

  -- ---- an event that is not an invocation by the thread

  abbrev later_reply : (n call : ℕ) → Reply (suc n) call → Reply n call
  later_reply n call r = record { at = r.at; answer = r.answer; there = r.there; later = (let l : suc n < r.at = r.later in omega arith) }

  unsettled : (n : ℕ) (t : ThreadState) (w : Waiting) (final : List (ℕ × Answer)) → t.waiting ≡ Some w → Serves (suc n) t final → Serves n t final
  unsettled n t w final is h =
      let given : IsGiven (suc n) t.answers (Some w) h.receipts final = subst (λ o. IsGiven (suc n) t.answers o h.receipts final) is h.given in
      record {
        receipts = h.receipts;
        on = h.on;
        rising = rising_before n (map invoked_at h.receipts) h.rising;
        given = subst (λ o. IsGiven n t.answers o h.receipts final) (sym is) (later_reply n w.call given.0, given.1);
      }

  settled_before : (n : ℕ) (e : Event) (t : ThreadState) (w : Waiting) (a : Option Answer) (final : List (ℕ × Answer)) → slice_get journal n ≡ Some e
      → t.waiting ≡ Some w → answer_at w.call e ≡ a → Serves (suc n) (settled_by index t a) final → Serves n t final
  settled_before n e t w None final at is e_is h = unsettled n t w final is h
  settled_before n e t w (Some a) final at is e_is h = record {
    receipts = h.receipts;
    on = h.on;
    rising = rising_before n (map invoked_at h.receipts) h.rising;
    given = subst (λ o. IsGiven n t.answers o h.receipts final) (sym is) (
      record { at = suc n; answer = a; there = record { event = e; there = at; is = e_is }; later = omega arith },
      h.given ∙ append_assoc t.answers ((index, a) ∷ []) (map (answer_on index) h.receipts),
    );
  }

  waiting_before : (n : ℕ) (e : Event) (t : ThreadState) (w : Option Waiting) (final : List (ℕ × Answer)) → slice_get journal n ≡ Some e
      → t.waiting ≡ w → IsHere index w → Serves (suc n) (settled index e t w) final → Serves n t final
  waiting_before n e t None final at is here h = record {
    receipts = h.receipts;
    on = h.on;
    rising = rising_before n (map invoked_at h.receipts) h.rising;
    given = subst (λ o. IsGiven n t.answers o h.receipts final) (sym is) (subst (λ o. IsGiven (suc n) t.answers o h.receipts final) is h.given);
  }
  waiting_before n e t (Some w) final at is here h =
      settled_before n e t w (answer_at w.call e) final at is refl (subst (λ o. Serves (suc n) (settled_by index t o) final) (mine (w.part == index) (eq-eqb w.part index here)) h)
    where
      mine : (b : Bool) → b ≡ true → (if b then answer_at w.call e else None) ≡ answer_at w.call e
      mine b h = rw h refl

  -- ---- an invocation by the thread

  -- the thread after its invocation, which may be answered at once
  abbrev begun : ThreadState → ℕ → Option Answer → ThreadState
  begun t call None = record { rest = drop 1 t.rest; waiting = Some (record { part = index; call = call }); answers = t.answers }
  begun t call (Some a) = record { rest = drop 1 t.rest; waiting = None; answers = t.answers ++ (index, a) ∷ [] }

  begun_is : (call thread : ℕ) (o : Op) (a : Option Answer) (t : ThreadState) → thread ≡ i
      → thread_after index (event.Invoke call thread o a) (started i index (event.Invoke call thread o a) t) ≡ begun t call a
  begun_is call thread o a t same =
      ap (thread_after index (event.Invoke call thread o a)) (waits_here (thread == i) (eq-eqb thread i same))
      ∙ ap (λ b. settled_by index waits (if b then answer_at call (event.Invoke call thread o a) else None)) (eq-eqb index index refl)
      ∙ by_answer a
    where
      waits : ThreadState
      waits = record { rest = drop 1 t.rest; waiting = Some (record { part = index; call = call }); answers = t.answers }

      waits_here : (b : Bool) → b ≡ true
          → record t { rest = if b then drop 1 t.rest else t.rest; waiting = if b then Some (record { part = index; call = call }) else t.waiting }
          ≡ waits
      waits_here b e = rw e refl

      by_answer : (x : Option Answer) → settled_by index waits (answer_at call (event.Invoke call thread o x)) ≡ begun t call x
      by_answer None = refl
      by_answer (Some x) = ap (λ b. settled_by index waits (if b then Some x else None)) (eq-eqb call call refl)

  invoked_before : (n call thread : ℕ) (o : Op) (a : Option Answer) (t : ThreadState) (p : ℕ) (more : List (ℕ × Op)) (final : List (ℕ × Answer))
      → slice_get journal n ≡ Some (event.Invoke call thread o a) → thread ≡ i → t.waiting ≡ None → t.rest ≡ (p, o) ∷ more
      → Serves (suc n) (begun t call a) final → Serves n t final
  invoked_before n call thread o (Some a) t p more final at same free next h =
      let e : Event = event.Invoke call thread o (Some a) in
      let reported_it : answer_at call e ≡ Some a = rw (eq-eqb call call refl) refl in
      record {
        receipts = record { call = call; at_invoke = suc n; at_reply = suc n; answer = a } ∷ h.receipts;
        on = subst (λ ops. AreOn journal i ops (record { call = call; at_invoke = suc n; at_reply = suc n; answer = a } ∷ h.receipts)) (sym next) (
          record {
            invoked = record { event = e; there = at; is = (refl, same, refl) };
            answered = record { event = e; there = at; is = reported_it };
            ordered = omega arith;
          },
          subst (λ ops. AreOn journal i (drop 1 ops) h.receipts) next h.on,
        );
        rising = (omega arith, h.rising);
        given = subst (λ w. IsGiven n t.answers w (record { call = call; at_invoke = suc n; at_reply = suc n; answer = a } ∷ h.receipts) final) (sym free)
            (h.given ∙ append_assoc t.answers ((index, a) ∷ []) (map (answer_on index) h.receipts));
      }
  invoked_before n call thread o None t p more final at same free next h =
      let e : Event = event.Invoke call thread o None in
      let r : Reply (suc n) call = h.given.0 in
      let receipt : Receipt = record { call = call; at_invoke = suc n; at_reply = r.at; answer = r.answer } in
      record {
        receipts = receipt ∷ h.receipts;
        on = subst (λ ops. AreOn journal i ops (receipt ∷ h.receipts)) (sym next) (
          record {
            invoked = record { event = e; there = at; is = (refl, same, refl) };
            answered = r.there;
            ordered = (let l : suc n < r.at = r.later in omega arith);
          },
          subst (λ ops. AreOn journal i (drop 1 ops) h.receipts) next h.on,
        );
        rising = (omega arith, h.rising);
        given = subst (λ w. IsGiven n t.answers w (receipt ∷ h.receipts) final) (sym free) h.given.1;
      }

  -- ---- each event

  pub serves_before : (n : ℕ) (e : Event) (t : ThreadState) (final : List (ℕ × Answer)) → slice_get journal n ≡ Some e → IsHere index t.waiting → Starts i e t
      → Serves (suc n) (thread_after index e (started i index e t)) final → Serves n t final
  serves_before n (event.Invoke call thread o a) t final at here starts h = split (thread == i)
      (λ e.
      let same : thread ≡ i = eqb-true thread i e in
      let s = starts same in
      invoked_before n call thread o a t s.1.0 s.1.1.0 final at same s.0 s.1.1.1
      (subst (λ x. Serves (suc n) x final) (begun_is call thread o a t same) h))
      (λ e. waiting_before n (event.Invoke call thread o a) t t.waiting final at refl here (rw e at h))
  serves_before n (event.Enter call thread attempt a) t final at here starts h = waiting_before n (event.Enter call thread attempt a) t t.waiting final at refl here h
  serves_before n (event.Burst context call burst count end acts a failure) t final at here starts h =
      waiting_before n (event.Burst context call burst count end acts a failure) t t.waiting final at refl here h
  serves_before n (event.Stage stage answers released) t final at here starts h = waiting_before n (event.Stage stage answers released) t t.waiting final at refl here h
  serves_before n (event.Arrive frame kept) t final at here starts h = waiting_before n (event.Arrive frame kept) t t.waiting final at refl here h
