-- One step of a mirror's rule that uses up the answers it is given: who was asked, who stays, and that later answers
-- are left over.
use Rattle.std.proofs.Common.{◌≡◌, ◌⊎◌, inl, inr, ℕ, ◌||◌, not, is_some, Bool, true, false, Option, Some, None, List, [], ◌∷◌, ◌++◌, refl, sym, ap, subst, ◌∙◌, true≢false}
use Rattle.std.specs.Prelude.{if◌then◌else◌, option_and_then}
use Rattle.std.proofs.lemmas.Bool.{and_parts}
use Rattle.nook_data.specs.declared.calls.Answer.{Answer}
use Rattle.nook_data.specs.declared.calls.Answer.TheVariants as answered
use Rattle.nook_data.specs.declared.classes.Class.TheVariants.{Block}
use Rattle.nook_data.specs.declared.mirror.MirrorAnswer.{MirrorAnswer}
use Rattle.nook_data.specs.declared.mirror.MirrorAnswer.TheVariants as mirror
use Rattle.nook_data.specs.declared.calls.Op.{Op}
use Rattle.nook_data.specs.declared.calls.Op.TheVariants.{Read, Write, Send, Recv, Open, Play, Close, Get, Set}
use Rattle.nook_data.specs.Classes.{is_write, static_check}
use Rattle.part_laws.proofs.Indices.{split}
use Rattle.mirror_block.specs.Rule.{Outcome, Presence, Said, MirrorStep, after_asking, after_failed_write, after_read, after_write, asks_right, failed_block, is_done, mirror_step, outcome, refusal_of, says, stays_after_read, step_asking, step_checked, step_refused, mirror_step_of, words_read}
use Rattle.mirror_block.specs.Sides.{and_more}
use Rattle.mirrored_run.proofs.GivingUp.{has_gone, is_gone}

-- ---- what a side said

-- a side gives the first of its answers if it is asked, and nothing otherwise
record Says (asked : Bool) (answers : List Answer) (s : Said) : Type 0 where
  are : answers ≡ and_more s.said s.rest
  so : (a : Answer) → s.said ≡ Some a → asked ≡ true
  more : (later : List Answer) → says asked (answers ++ later) ≡ Some (record { said = s.said; rest = s.rest ++ later })

the_said : (s t : Said) → Some s ≡ Some t → s ≡ t
the_said s t e = cc

says_so : (asked : Bool) (answers : List Answer) (s : Said) → says asked answers ≡ Some s → Says asked answers s
says_so false answers s e =
    subst (Says false answers) (the_said (record { said = None; rest = answers }) s e) (record { are = refl; so = λ a h. absurd cc; more = λ later. refl })
says_so true [] s e = absurd cc
says_so true (a ∷ answers) s e =
    subst (Says true (a ∷ answers)) (the_said (record { said = Some a; rest = answers }) s e) (record { are = refl; so = λ b h. refl; more = λ later. refl })

-- ---- one step

-- a step of the rule: the sides said these, or the static check refused the operation
record Asks (blocks : ℕ) (present : Presence) (o : Op) (lefts rights : List Answer) (z : MirrorStep) : Type 0 where
  left : Said
  right : Said
  checked : static_check Block blocks o ≡ None
  left_says : Says present.left lefts left
  right_says : Says (asks_right present o left.said) rights right
  is : mirror_step_of present o left right ≡ z
  more : (l r : List Answer) → mirror_step blocks present o (lefts ++ l) (rights ++ r)
      ≡ Some (record { outcome = after_asking present o left.said right.said; left = left.rest ++ l; right = right.rest ++ r })

record Refuses (blocks : ℕ) (present : Presence) (o : Op) (lefts rights : List Answer) (z : MirrorStep) : Type 0 where
  answer : MirrorAnswer
  is : record { outcome = record { present = present; answer = answer }; left = lefts; right = rights } ≡ z
  more : (l r : List Answer) → mirror_step blocks present o (lefts ++ l) (rights ++ r)
      ≡ Some (record { outcome = record { present = present; answer = answer }; left = lefts ++ l; right = rights ++ r })

the_step : (x z : MirrorStep) → Some x ≡ Some z → x ≡ z
the_step x z e = cc

module _ (blocks : ℕ) (present : Presence) (o : Op) (lefts rights : List Answer) (z : MirrorStep) where
  -- the rule for a Read or a Write
  abbrev IsStep : Type 0
  IsStep = (l r : List Answer) → mirror_step blocks present o l r ≡ step_checked (static_check Block blocks o) present o l r

  abbrev Result : Type 0
  Result = Asks blocks present o lefts rights z ⊎ Refuses blocks present o lefts rights z

  abbrev right_step : List Answer → Said → Option MirrorStep
  right_step rs left = option_and_then (λ right. Some (mirror_step_of present o left right)) (says (asks_right present o left.said) rs)

  asked_step : IsStep → static_check Block blocks o ≡ None → step_asking present o lefts rights ≡ Some z → Result
  asked_step rule checked e = by_left (says present.left lefts) refl e
    where
      by_right : (left : Said) (s : Option Said) → says present.left lefts ≡ Some left → says (asks_right present o left.said) rights ≡ s
          → option_and_then (λ right. Some (mirror_step_of present o left right)) s ≡ Some z → Result
      by_right left None h i e = absurd cc
      by_right left (Some right) h i e =
          let l = says_so present.left lefts left h in
          let r = says_so (asks_right present o left.said) rights right i in
          inl (record {
            left = left;
            right = right;
            checked = checked;
            left_says = l;
            right_says = r;
            is = the_step (mirror_step_of present o left right) z e;
            more = λ ls rs. rule (lefts ++ ls) (rights ++ rs)
                ∙ ap (λ c. step_checked c present o (lefts ++ ls) (rights ++ rs)) checked
                ∙ ap (option_and_then (right_step (rights ++ rs))) (l.more ls)
                ∙ ap (option_and_then (λ right'. Some (mirror_step_of present o (record { said = left.said; rest = left.rest ++ ls }) right'))) (r.more rs);
          })

      by_left : (s : Option Said) → says present.left lefts ≡ s → option_and_then (right_step rights) s ≡ Some z → Result
      by_left None h e = absurd cc
      by_left (Some left) h e = by_right left (says (asks_right present o left.said) rights) h refl e

  refused_step : IsStep → (refusal : Answer) → static_check Block blocks o ≡ Some refusal → step_refused present (refusal_of refusal) lefts rights ≡ Some z → Result
  refused_step rule refusal check e = by_refusal (refusal_of refusal) refl e
    where
      by_refusal : (r : Option MirrorAnswer) → refusal_of refusal ≡ r → step_refused present r lefts rights ≡ Some z → Result
      by_refusal None h e = absurd cc
      by_refusal (Some a) h e = inr (record {
        answer = a;
        is = the_step (record { outcome = record { present = present; answer = a }; left = lefts; right = rights }) z e;
        more = λ ls rs. rule (lefts ++ ls) (rights ++ rs)
            ∙ ap (λ c. step_checked c present o (lefts ++ ls) (rights ++ rs)) check
            ∙ ap (λ r. step_refused present r (lefts ++ ls) (rights ++ rs)) h;
      })

  by_check : IsStep → (c : Option Answer) → static_check Block blocks o ≡ c → step_checked c present o lefts rights ≡ Some z → Result
  by_check rule None h e = asked_step rule h e
  by_check rule (Some refusal) h e = refused_step rule refusal h e

step_taken : (blocks : ℕ) (present : Presence) (o : Op) (lefts rights : List Answer) (z : MirrorStep) → mirror_step blocks present o lefts rights ≡ Some z
    → Asks blocks present o lefts rights z ⊎ Refuses blocks present o lefts rights z
step_taken blocks present (Read first count) lefts rights z e =
    by_check blocks present (Read first count) lefts rights z (λ l r. refl) (static_check Block blocks (Read first count)) refl e
step_taken blocks present (Write first words) lefts rights z e =
    by_check blocks present (Write first words) lefts rights z (λ l r. refl) (static_check Block blocks (Write first words)) refl e
step_taken blocks present (Send frame) lefts rights z e = absurd cc
step_taken blocks present Recv lefts rights z e = absurd cc
step_taken blocks present Open lefts rights z e = absurd cc
step_taken blocks present (Play samples) lefts rights z e = absurd cc
step_taken blocks present Close lefts rights z e = absurd cc
step_taken blocks present (Get key) lefts rights z e = absurd cc
step_taken blocks present (Set key value) lefts rights z e = absurd cc

-- ---- a step that uses up all its answers

-- further answers are left over
pub step_more : (blocks : ℕ) (present : Presence) (o : Op) (lefts rights l r : List Answer) (x : Outcome)
    → mirror_step blocks present o lefts rights ≡ Some (record { outcome = x; left = []; right = [] })
    → mirror_step blocks present o (lefts ++ l) (rights ++ r) ≡ Some (record { outcome = x; left = l; right = r })
step_more blocks present o lefts rights l r x e = by_step (step_taken blocks present o lefts rights (record { outcome = x; left = []; right = [] }) e)
  where
    by_step : Asks blocks present o lefts rights (record { outcome = x; left = []; right = [] }) ⊎ Refuses blocks present o lefts rights (record { outcome = x; left = []; right = [] })
        → mirror_step blocks present o (lefts ++ l) (rights ++ r) ≡ Some (record { outcome = x; left = l; right = r })
    by_step (inl k) = k.more l r ∙ ap (λ (z : MirrorStep). Some (record { outcome = z.outcome; left = z.left ++ l; right = z.right ++ r })) k.is
    by_step (inr k) = k.more l r ∙ ap (λ (z : MirrorStep). Some (record { outcome = z.outcome; left = z.left ++ l; right = z.right ++ r })) k.is

-- an operation that some side answered passed the static check
pub step_checks : (blocks : ℕ) (present : Presence) (o : Op) (lefts rights : List Answer) (x : Outcome)
    → mirror_step blocks present o lefts rights ≡ Some (record { outcome = x; left = []; right = [] })
    → (static_check Block blocks o ≡ None) ⊎ ((lefts ≡ []) × (rights ≡ []))
step_checks blocks present o lefts rights x e = by_step (step_taken blocks present o lefts rights (record { outcome = x; left = []; right = [] }) e)
  where
    by_step : Asks blocks present o lefts rights (record { outcome = x; left = []; right = [] }) ⊎ Refuses blocks present o lefts rights (record { outcome = x; left = []; right = [] })
        → (static_check Block blocks o ≡ None) ⊎ ((lefts ≡ []) × (rights ≡ []))
    by_step (inl k) = inl k.checked
    by_step (inr k) = inr (ap (λ (z : MirrorStep). z.left) k.is, ap (λ (z : MirrorStep). z.right) k.is)

-- ---- who stays

-- a side stays only if it was present, and did not answer Gone
abbrev Stays : Bool → Bool → Option Answer → Type 0
Stays stays present said = stays ≡ true → (present ≡ true) × (has_gone (and_more said []) ≡ false)

record SaysNothing (said : Option Answer) : Type 0 where
  done : is_done said ≡ false
  failed : failed_block said ≡ None

gone_says : (a : Answer) → is_gone a ≡ true → SaysNothing (Some a) × ((present : Bool) → stays_after_read present (Some a) ≡ false)
gone_says (answered.Gone failures) h = (record { done = refl; failed = refl }, λ present. refl)
gone_says a h = absurd cc

not_gone : (a : Answer) → is_gone a ≡ false → has_gone (a ∷ []) ≡ false
not_gone a h = ap (λ (b : Bool). b || false) h

left_lost : (b : Bool) (f : Option ℕ) → (if false || b then outcome false b mirror.Done else after_failed_write None f).present.left ≡ true → ⊥
left_lost true f h = absurd cc
left_lost false None h = absurd cc
left_lost false (Some block) h = absurd cc

right_lost : (b : Bool) (f : Option ℕ) → (if b || false then outcome b false mirror.Done else after_failed_write f None).present.right ≡ true → ⊥
right_lost true f h = absurd cc
right_lost false None h = absurd cc
right_lost false (Some block) h = absurd cc

left_gone : (said other : Option Answer) → SaysNothing said → (after_write said other).present.left ≡ true → ⊥
left_gone said other n h =
    left_lost (is_done other) (failed_block other)
    (sym (ap (λ (b : Bool). (if b || is_done other then outcome b (is_done other) mirror.Done else after_failed_write (failed_block said) (failed_block other)).present.left) n.done
    ∙ ap (λ (f : Option ℕ). (if false || is_done other then outcome false (is_done other) mirror.Done else after_failed_write f (failed_block other)).present.left) n.failed) ∙ h)

right_gone : (other said : Option Answer) → SaysNothing said → (after_write other said).present.right ≡ true → ⊥
right_gone other said n h =
    right_lost (is_done other) (failed_block other)
    (sym (ap (λ (b : Bool). (if is_done other || b then outcome (is_done other) b mirror.Done else after_failed_write (failed_block other) (failed_block said)).present.right) n.done
    ∙ ap (λ (f : Option ℕ). (if is_done other || false then outcome (is_done other) false mirror.Done else after_failed_write (failed_block other) f).present.right) n.failed) ∙ h)

left_write : (present : Bool) (said other : Option Answer) → ((a : Answer) → said ≡ Some a → present ≡ true) → Stays (after_write said other).present.left present said
left_write present None other asked h = absurd (left_gone None other (record { done = refl; failed = refl }) h)
left_write present (Some a) other asked h = split (is_gone a)
    (λ t. absurd (left_gone (Some a) other (gone_says a t).0 h))
    (λ t. (asked a refl, not_gone a t))

right_write : (present : Bool) (other said : Option Answer) → ((a : Answer) → said ≡ Some a → present ≡ true) → Stays (after_write other said).present.right present said
right_write present other None asked h = absurd (right_gone other None (record { done = refl; failed = refl }) h)
right_write present other (Some a) asked h = split (is_gone a)
    (λ t. absurd (right_gone other (Some a) (gone_says a t).0 h))
    (λ t. (asked a refl, not_gone a t))

side_read : (present : Bool) (said : Option Answer) → ((a : Answer) → said ≡ Some a → present ≡ true) → Stays (stays_after_read present said) present said
side_read present None asked h = (h, refl)
side_read present (Some a) asked h = split (is_gone a)
    (λ t. absurd (true≢false (sym h ∙ (gone_says a t).1 present)))
    (λ t. (asked a refl, not_gone a t))

left_stays : (present : Presence) (o : Op) (left right : Option Answer) → ((a : Answer) → left ≡ Some a → present.left ≡ true)
    → Stays (after_asking present o left right).present.left present.left left
left_stays present o left right asked = by_write (is_write o)
  where
    by_write : (b : Bool) → Stays (if b then after_write left right else after_read present left right).present.left present.left left
    by_write true = left_write present.left left right asked
    by_write false = side_read present.left left asked

right_stays : (present : Presence) (o : Op) (left right : Option Answer) → ((a : Answer) → right ≡ Some a → present.right ≡ true)
    → Stays (after_asking present o left right).present.right present.right right
right_stays present o left right asked = by_write (is_write o)
  where
    by_write : (b : Bool) → Stays (if b then after_write left right else after_read present left right).present.right present.right right
    by_write true = right_write present.right left right asked
    by_write false = side_read present.right right asked

abbrev pub StaysBy : Bool → Bool → List Answer → Type 0
StaysBy stays present answers = stays ≡ true → (present ≡ true) × (has_gone answers ≡ false)

used_up : (answers : List Answer) (s : Said) (asked : Bool) → Says asked answers s → s.rest ≡ [] → answers ≡ and_more s.said []
used_up answers s asked k e = k.are ∙ ap (and_more s.said) e

pub step_stays : (blocks : ℕ) (present : Presence) (o : Op) (lefts rights : List Answer) (x : Outcome)
    → mirror_step blocks present o lefts rights ≡ Some (record { outcome = x; left = []; right = [] })
    → StaysBy x.present.left present.left lefts × StaysBy x.present.right present.right rights
step_stays blocks present o lefts rights x e = by_step (step_taken blocks present o lefts rights (record { outcome = x; left = []; right = [] }) e)
  where
    by_step : Asks blocks present o lefts rights (record { outcome = x; left = []; right = [] }) ⊎ Refuses blocks present o lefts rights (record { outcome = x; left = []; right = [] })
        → StaysBy x.present.left present.left lefts × StaysBy x.present.right present.right rights
    by_step (inl k) =
        let left_used = used_up lefts k.left present.left k.left_says (ap (λ (z : MirrorStep). z.left) k.is) in
        let right_used = used_up rights k.right (asks_right present o k.left.said) k.right_says (ap (λ (z : MirrorStep). z.right) k.is) in (
          λ h.
              let s = left_stays present o k.left.said k.right.said k.left_says.so (ap (λ (z : MirrorStep). z.outcome.present.left) k.is ∙ h) in
              (s.0, ap has_gone left_used ∙ s.1),
          λ h.
              let s = right_stays present o k.left.said k.right.said (λ a i. (and_parts present.right (is_write o || not (is_some (words_read k.left.said))) (k.right_says.so a i)).0)
              (ap (λ (z : MirrorStep). z.outcome.present.right) k.is ∙ h) in
              (s.0, ap has_gone right_used ∙ s.1),
        )
    by_step (inr k) = (
      λ h. (ap (λ (z : MirrorStep). z.outcome.present.left) k.is ∙ h, ap has_gone (ap (λ (z : MirrorStep). z.left) k.is)),
      λ h. (ap (λ (z : MirrorStep). z.outcome.present.right) k.is ∙ h, ap has_gone (ap (λ (z : MirrorStep). z.right) k.is)),
    )
