-- What a list of a mirror's operations adds to what its sides have seen: exchanges, each by the rule.
use Rattle.std.proofs.Common.{◌≡◌, ℕ, suc, ◌+◌, ◌≤◌, ◌||◌, Bool, true, false, List, [], ◌∷◌, ◌++◌, length, refl, sym, ap, subst, ◌∙◌, arith, append-nil, append_assoc, length-append}
use Rattle.nook_data.specs.declared.calls.Answer.{Answer}
use Rattle.nook_data.specs.declared.steps.Event.{Event}
use Rattle.nook_data.specs.declared.mirror.MirrorAnswer.{MirrorAnswer}
use Rattle.nook_data.specs.declared.calls.Op.{Op}
use Rattle.nook_data.specs.declared.scenario.PartSpec.{PartSpec}
use Rattle.mirror_block.specs.Mirrors.{IsMirror, IsMirrorAnswer, MirrorView, SameSides}
use Rattle.mirror_block.specs.Rule.{mirror_step}
use Rattle.mirror_block.specs.Sides.{Invocation, SaysGone, answers_gained, answers_given, invocations}
use Rattle.mirrored_run.specs.Exchanges.{AreExchanges, Exchange, IsExchange, answers_of, left_events, ops_of, right_events}
use Rattle.mirrored_run.specs.Serving.{AreServedBy, HasAsked}
use Rattle.mirrored_run.proofs.Adding.{Grows, asked_once, grows}
use Rattle.mirrored_run.proofs.ClassRuns.{AreChecked, invoked_parts}
use Rattle.mirrored_run.proofs.GivingUp.{has_gone, is_gone}
use Rattle.mirrored_run.proofs.Stepping.{StaysBy}

-- ---- one side

or_false : (b u v : Bool) → (b || u) ≡ false → (u ≡ false → v ≡ false) → (b || v) ≡ false
or_false true u v h f = absurd cc
or_false false u v h f = f h

-- two lists without Gone have no Gone together
no_gone_parts : (xs ys : List Answer) → has_gone xs ≡ false → has_gone ys ≡ false → has_gone (xs ++ ys) ≡ false
no_gone_parts [] ys h k = k
no_gone_parts (x ∷ xs) ys h k = or_false (is_gone x) (has_gone xs) (has_gone (xs ++ ys)) h (λ g. no_gone_parts xs ys g k)

pub stays_on : (old between new : Bool) (xs ys : List Answer) → StaysBy between old xs → StaysBy new between ys → StaysBy new old (xs ++ ys)
stays_on old between new xs ys f g h =
    let later = g h in
    let first = f later.0 in
    (first.0, no_gone_parts xs ys first.1 later.1)

pub checked_parts : (blocks : ℕ) (xs ys : List Event) → AreChecked blocks (invocations xs) → AreChecked blocks (invocations ys) → AreChecked blocks (invocations (xs ++ ys))
checked_parts blocks xs ys h k = subst (AreChecked blocks) (sym (invoked_parts xs ys)) (both (invocations xs) (invocations ys) h k)
  where
    both : (is js : List Invocation) → AreChecked blocks is → AreChecked blocks js → AreChecked blocks (is ++ js)
    both [] js h k = k
    both (i ∷ is) js h k = (h.0, both is js h.1 k)

-- what was added in two steps was added in one
joined : (old more rest between new : List Event) → old ++ more ≡ between → between ++ rest ≡ new → old ++ (more ++ rest) ≡ new
joined old more rest between new e f = sym (append_assoc old more rest) ∙ ap (λ (l : List Event). l ++ rest) e ∙ f

-- ---- a list of operations

module _ {D : Type 0} (spec : D → PartSpec) where
  -- the mirror gave these answers to these operations, and each side has seen what the exchanges say
  abbrev pub Exchanged : MirrorView D → List Exchange → MirrorView D → Type 0
  Exchanged old [] new = new ≡ old
  Exchanged old (x ∷ xs) new =
      (between : MirrorView D) × IsMirrorAnswer old between x.op x.answer × IsMirror spec between
      × Grows old.left between.left x.op x.left × Grows old.right between.right x.op x.right × Exchanged between xs new

  -- operations with these answers, and the exchanges that they were
  pub record HasExchanged (old : MirrorView D) (ops : List Op) (answers : List MirrorAnswer) (new : MirrorView D) : Type 0 where
    pub exchanges : List Exchange
    pub ops_are : ops_of exchanges ≡ ops
    pub answers_are : answers_of exchanges ≡ answers
    pub exchanged : Exchanged old exchanges new

  pub exchanged_by : (old : MirrorView D) (ops : List Op) (answers : List MirrorAnswer) (new : MirrorView D) → AreServedBy spec old ops answers new
      → HasExchanged old ops answers new
  exchanged_by old [] [] new h = record { exchanges = []; ops_are = refl; answers_are = refl; exchanged = h }
  exchanged_by old [] (a ∷ answers) new h = absurd h
  exchanged_by old (o ∷ ops) [] new h = absurd h
  exchanged_by old (o ∷ ops) (a ∷ answers) new h =
      let rest = exchanged_by h.0 ops answers new h.3 in
      let l = grows old.left h.0.left o h.1.left in
      let r = grows old.right h.0.right o h.1.right in
      record {
        exchanges = record { op = o; left = l.0; right = r.0; answer = a } ∷ rest.exchanges;
        ops_are = ap (λ (x : List Op). o ∷ x) rest.ops_are;
        answers_are = ap (λ (x : List MirrorAnswer). a ∷ x) rest.answers_are;
        exchanged = (h.0, h.1, h.2, l.1, r.1, rest.exchanged);
      }

  -- ---- what the exchanges show

  pub same_sides : (old : MirrorView D) (xs : List Exchange) (new : MirrorView D) → Exchanged old xs new → SameSides old new
  same_sides old [] new h = record {
    left_desk = ap (λ (m : MirrorView D). m.left_desk) h;
    right_desk = ap (λ (m : MirrorView D). m.right_desk) h;
    blocks = ap (λ (m : MirrorView D). m.blocks) h;
  }
  same_sides old (x ∷ xs) new h =
      let rest = same_sides h.0 xs new h.5 in
      record {
        left_desk = rest.left_desk ∙ h.1.same.left_desk;
        right_desk = rest.right_desk ∙ h.1.same.right_desk;
        blocks = rest.blocks ∙ h.1.same.blocks;
      }

  pub left_seen : (old : MirrorView D) (xs : List Exchange) (new : MirrorView D) → Exchanged old xs new → old.left.seen ++ left_events xs ≡ new.left.seen
  left_seen old [] new h = append-nil old.left.seen ∙ ap (λ (m : MirrorView D). m.left.seen) (sym h)
  left_seen old (x ∷ xs) new h = joined old.left.seen x.left (left_events xs) h.0.left.seen new.left.seen h.3.seen (left_seen h.0 xs new h.5)

  pub right_seen : (old : MirrorView D) (xs : List Exchange) (new : MirrorView D) → Exchanged old xs new → old.right.seen ++ right_events xs ≡ new.right.seen
  right_seen old [] new h = append-nil old.right.seen ∙ ap (λ (m : MirrorView D). m.right.seen) (sym h)
  right_seen old (x ∷ xs) new h = joined old.right.seen x.right (right_events xs) h.0.right.seen new.right.seen h.4.seen (right_seen h.0 xs new h.5)

  one_exchange : (old between : MirrorView D) (x : Exchange) → IsMirrorAnswer old between x.op x.answer → Grows old.left between.left x.op x.left
      → Grows old.right between.right x.op x.right → IsExchange old.blocks old.present x between.present
  one_exchange old between x h l r = record {
    left = l.asked;
    right = r.asked;
    step = ap (λ (said : List Answer). mirror_step old.blocks old.present x.op said (answers_given x.right)) l.given
        ∙ ap (λ (said : List Answer). mirror_step old.blocks old.present x.op (answers_gained old.left between.left) said) r.given ∙ h.step;
    lost = λ e.
        let k = h.lost e in
        (subst (SaysGone old.present.left) (sym l.given) k.0, subst (SaysGone old.present.right) (sym r.given) k.1);
  }

  pub are_exchanges : (old : MirrorView D) (xs : List Exchange) (new : MirrorView D) → Exchanged old xs new → AreExchanges old.blocks old.present xs new.present
  are_exchanges old [] new h = ap (λ (m : MirrorView D). m.present) h
  are_exchanges old (x ∷ xs) new h = (
    h.0.present,
    one_exchange old h.0 x h.1 h.3 h.4,
    subst (λ (n : ℕ). AreExchanges n h.0.present xs new.present) h.1.same.blocks (are_exchanges h.0 xs new h.5),
  )

  -- a prefix of the exchanges leads to a mirror in between
  pub record Between (old : MirrorView D) (front back : List Exchange) (new : MirrorView D) : Type 0 where
    pub view : MirrorView D
    pub before : Exchanged old front view
    pub after : Exchanged view back new

  pub between : (old : MirrorView D) (front back : List Exchange) (new : MirrorView D) → Exchanged old (front ++ back) new → Between old front back new
  between old [] back new h = record { view = old; before = refl; after = h }
  between old (x ∷ front) back new h =
      let k = between h.0 front back new h.5 in
      record { view = k.view; before = (h.0, h.1, h.2, h.3, h.4, k.before); after = k.after }

  -- ---- operations, one more or all

  -- one more operation is answered
  pub served_more : (old now : MirrorView D) (ops : List Op) (answers : List MirrorAnswer) (o : Op) (a : MirrorAnswer) (new : MirrorView D)
      → AreServedBy spec old ops answers now → IsMirrorAnswer now new o a → IsMirror spec new → AreServedBy spec old (ops ++ o ∷ []) (answers ++ a ∷ []) new
  served_more old now [] [] o a new h k m = (new, subst (λ (x : MirrorView D). IsMirrorAnswer x new o a) h k, m, refl)
  served_more old now [] (b ∷ answers) o a new h k m = absurd h
  served_more old now (p ∷ ops) [] o a new h k m = absurd h
  served_more old now (p ∷ ops) (b ∷ answers) o a new h k m = (h.0, h.1, h.2, served_more h.0 now ops answers o a new h.3 k m)

  -- what holds for the mirror at the end
  pub exchanged_keeps : (old : MirrorView D) (xs : List Exchange) (new : MirrorView D) → IsMirror spec old → old.stopped ≡ false → Exchanged old xs new
      → IsMirror spec new × (new.stopped ≡ false)
  exchanged_keeps old [] new m s h = (subst (IsMirror spec) (sym h) m, ap (λ (x : MirrorView D). x.stopped) h ∙ s)
  exchanged_keeps old (x ∷ xs) new m s h = exchanged_keeps h.0 xs new h.2 h.1.goes_on h.5

  -- ---- how often a side was asked

  one_asked : (n : ℕ) (old more new : List Event) → old ++ more ≡ new → length (invocations more) ≤ 1 → length (invocations old) ≤ n → length (invocations new) ≤ suc n
  one_asked n old more new e few l =
      let parts : length (invocations new) ≡ length (invocations old) + length (invocations more) =
      ap (λ (x : List Event). length (invocations x)) (sym e) ∙ ap (λ (x : List Invocation). length x) (invoked_parts old more)
      ∙ length-append (invocations old) (invocations more) in
      omega arith

  asked_more : (old : MirrorView D) (xs : List Exchange) (new : MirrorView D) (n : ℕ) → Exchanged old xs new → HasAsked n old → HasAsked (n + length xs) new
  asked_more old [] new n h k = subst (HasAsked (n + 0)) (sym h) (record { left = let l = k.left in omega arith; right = let r = k.right in omega arith })
  asked_more old (x ∷ xs) new n h k =
      let one : HasAsked (suc n) h.0 = record {
        left = one_asked n old.left.seen x.left h.0.left.seen h.3.seen (asked_once x.op x.left (answers_given x.left) h.3.asked) k.left;
        right = one_asked n old.right.seen x.right h.0.right.seen h.4.seen (asked_once x.op x.right (answers_given x.right) h.4.asked) k.right;
      } in
      let rest = asked_more h.0 xs new (suc n) h.5 one in
      record { left = let l = rest.left in omega arith; right = let r = rest.right in omega arith }

  exchanged_ops : (xs : List Exchange) → length (ops_of xs) ≡ length xs
  exchanged_ops [] = refl
  exchanged_ops (x ∷ xs) = ap suc (exchanged_ops xs)

  pub asked_so : (old : MirrorView D) (ops : List Op) (answers : List MirrorAnswer) (new : MirrorView D) (n : ℕ) → AreServedBy spec old ops answers new
      → HasAsked n old → HasAsked (n + length ops) new
  asked_so old ops answers new n h k =
      let e = exchanged_by old ops answers new h in
      let same : length e.exchanges ≡ length ops = sym (exchanged_ops e.exchanges) ∙ ap (λ (l : List Op). length l) e.ops_are in
      subst (λ (m : ℕ). HasAsked (n + m) new) same (asked_more old e.exchanges new n e.exchanged k)
