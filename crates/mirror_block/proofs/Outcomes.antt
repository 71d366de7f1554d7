-- The rule's outcome from what both sides said: who stays, and that the disk of one of the sides gives the answer.
use Rattle.std.proofs.Common.{◌≡◌, ℕ, ◌&&◌, ◌||◌, not, Bool, true, false, Option, Some, None, is_some, List, subst, sym, refl, ap, ◌∙◌, true≢false, inl, inr, ◌⊎◌}
use Rattle.std.specs.Prelude.{if◌then◌else◌, option_and_then}
use Rattle.nook_data.specs.declared.calls.Answer.{Answer}
use Rattle.nook_data.specs.declared.calls.Answer.TheVariants as answered
use Rattle.nook_data.specs.declared.mirror.MirrorAnswer.TheVariants as mirror
use Rattle.nook_data.specs.declared.calls.Op.{Op}
use Rattle.nook_data.specs.declared.calls.Op.TheVariants.{Read, Write, Send, Recv, Open, Play, Close, Get, Set}
use Rattle.nook_data.specs.Classes.{is_write, static_check}
use Rattle.nook_data.specs.declared.classes.Class.TheVariants.{Block}
use Rattle.nook_data.specs.declared.mirror.MirrorAnswer.{MirrorAnswer}
use Rattle.part_laws.proofs.Indices.{some_same}
use Rattle.mirror_block.specs.Disk.{MayAnswer, ServesChecked, ServesSaid}
use Rattle.mirror_block.specs.Rule.{Outcome, Presence, Said, MirrorStep, after_asking, after_failed_write, after_read, after_write, asks_right, failed_block, failed_read, is_disk_op, is_done, mirror_step, outcome, read_answer, refusal_of, says, stays_after_read, step_checked, step_refused, mirror_step_of, words_read}

abbrev Blocks : Type 0
Blocks = List (List ℕ)

-- ---- what the tests of a side's answer show

done_is : (l : Option Answer) → is_done l ≡ true → l ≡ Some answered.Done
done_is None h = absurd cc
done_is (Some answered.Done) h = refl
done_is (Some a) h = absurd cc

words_are : (l : Option Answer) (words : List ℕ) → words_read l ≡ Some words → l ≡ Some (answered.Blocks words)
words_are None words h = absurd cc
words_are (Some (answered.Blocks own)) words h = cc
words_are (Some a) words h = absurd cc

failed_at : (l : Option Answer) (block : ℕ) → failed_block l ≡ Some block → l ≡ Some (answered.IoError block)
failed_at None block h = absurd cc
failed_at (Some (answered.IoError own)) block h = cc
failed_at (Some a) block h = absurd cc

-- a side does not stay after a Read if it was asked and gave neither blocks nor the block that failed
goes_after_read : (present : Bool) (l : Option Answer) → words_read l ≡ None → failed_block l ≡ None → (l ≡ None → present ≡ false) → stays_after_read present l ≡ false
goes_after_read present None w f h = h refl
goes_after_read present (Some (answered.Blocks words)) w f h = absurd cc
goes_after_read present (Some (answered.IoError block)) w f h = absurd cc
goes_after_read present (Some a) w f h = refl

-- ---- the answer is one that a side's disk gives

-- if a side stays, its disk serves the operation with what the side said
abbrev pub Serving : Blocks → Blocks → Op → Option Answer → Bool → Type 0
Serving disk after o said stays = (a : Answer) → said ≡ Some a → stays ≡ true → ServesSaid disk o a after

write_serves : (disk after : Blocks) (o : Op) (l r : Option Answer) (dl dr : Bool) → is_done l ≡ dl → is_done r ≡ dr
    → (fl fr : Option ℕ) → failed_block l ≡ fl → failed_block r ≡ fr
    → Serving disk after o l (if dl || dr then outcome dl dr mirror.Done else after_failed_write fl fr).present.left
    → Serving disk after o r (if dl || dr then outcome dl dr mirror.Done else after_failed_write fl fr).present.right
    → ((if dl || dr then outcome dl dr mirror.Done else after_failed_write fl fr).present.left || (if dl || dr then outcome dl dr mirror.Done else after_failed_write fl fr).present.right) ≡ true
    → ServesChecked disk o (if dl || dr then outcome dl dr mirror.Done else after_failed_write fl fr).answer after
write_serves disk after o l r true dr el er fl fr gl gr L R some = L answered.Done (done_is l el) refl
write_serves disk after o l r false true el er fl fr gl gr L R some = R answered.Done (done_is r er) refl
write_serves disk after o l r false false el er (Some block) fr gl gr L R some = L (answered.IoError block) (failed_at l block gl) refl
write_serves disk after o l r false false el er None (Some block) gl gr L R some = R (answered.IoError block) (failed_at r block gr) refl
write_serves disk after o l r false false el er None None gl gr L R some = absurd cc

read_serves : (disk after : Blocks) (o : Op) (present : Presence) (l r : Option Answer) (wl wr : Option (List ℕ)) → words_read l ≡ wl → words_read r ≡ wr
    → (fl fr : Option ℕ) → failed_block l ≡ fl → failed_block r ≡ fr
    → Serving disk after o l (stays_after_read present.left l) → Serving disk after o r (stays_after_read present.right r)
    → (l ≡ None → present.left ≡ false) → (words_read l ≡ None → r ≡ None → present.right ≡ false)
    → (stays_after_read present.left l || stays_after_read present.right r) ≡ true
    → ServesChecked disk o (read_answer wl wr (failed_read fl fr)) after
read_serves disk after o present l r (Some words) wr el er fl fr gl gr L R hl hr some =
    let e = words_are l words el in L (answered.Blocks words) e (ap (stays_after_read present.left) e)
read_serves disk after o present l r None (Some words) el er fl fr gl gr L R hl hr some =
    let e = words_are r words er in R (answered.Blocks words) e (ap (stays_after_read present.right) e)
read_serves disk after o present l r None None el er (Some block) fr gl gr L R hl hr some =
    let e = failed_at l block gl in L (answered.IoError block) e (ap (stays_after_read present.left) e)
read_serves disk after o present l r None None el er None (Some block) gl gr L R hl hr some =
    let e = failed_at r block gr in R (answered.IoError block) e (ap (stays_after_read present.right) e)
read_serves disk after o present l r None None el er None None gl gr L R hl hr some =
    let a = goes_after_read present.left l el gl hl in
    let b = goes_after_read present.right r er gr (hr el) in
    absurd (true≢false (sym some ∙ ap (λ (x : Bool). x || stays_after_read present.right r) a ∙ b))

-- if a Read did not ask the right side although the left gave no blocks, the right side was not present
unasked : (present : Presence) (first count : ℕ) (l : Option Answer) → asks_right present (Read first count) l ≡ false → words_read l ≡ None → present.right ≡ false
unasked present first count l h w = by_right present.right (sym (ap (λ (o : Option (List ℕ)). present.right && (false || not (is_some o))) w) ∙ h)
  where
    by_right : (b : Bool) → (b && true) ≡ false → b ≡ false
    by_right false h = refl
    by_right true h = absurd cc

-- the disk of a side that stays gives the answer to the operation
pub outcome_serves : (disk after : Blocks) (present : Presence) (o : Op) (l r : Option Answer) → is_disk_op o ≡ true
    → Serving disk after o l (after_asking present o l r).present.left → Serving disk after o r (after_asking present o l r).present.right
    → (l ≡ None → present.left ≡ false) → (r ≡ None → asks_right present o l ≡ false)
    → ((after_asking present o l r).present.left || (after_asking present o l r).present.right) ≡ true
    → ServesChecked disk o (after_asking present o l r).answer after
outcome_serves disk after present (Read first count) l r d L R hl hr some =
    read_serves disk after (Read first count) present l r (words_read l) (words_read r) refl refl (failed_block l) (failed_block r) refl refl L R hl
    (λ w e. unasked present first count l (hr e) w) some
outcome_serves disk after present (Write first words) l r d L R hl hr some =
    write_serves disk after (Write first words) l r (is_done l) (is_done r) refl refl (failed_block l) (failed_block r) refl refl L R some
outcome_serves disk after present (Send frame) l r d L R hl hr some = absurd cc
outcome_serves disk after present Recv l r d L R hl hr some = absurd cc
outcome_serves disk after present Open l r d L R hl hr some = absurd cc
outcome_serves disk after present (Play samples) l r d L R hl hr some = absurd cc
outcome_serves disk after present Close l r d L R hl hr some = absurd cc
outcome_serves disk after present (Get key) l r d L R hl hr some = absurd cc
outcome_serves disk after present (Set key value) l r d L R hl hr some = absurd cc

-- ---- if both sides stay, both have the same disk

both_did : (dl dr : Bool) (fl fr : Option ℕ) → (if dl || dr then outcome dl dr mirror.Done else after_failed_write fl fr).present.left ≡ true
    → (if dl || dr then outcome dl dr mirror.Done else after_failed_write fl fr).present.right ≡ true → (dl ≡ true) × (dr ≡ true)
both_did true true fl fr h k = (refl, refl)
both_did true false fl fr h k = absurd cc
both_did false true fl fr h k = absurd cc
both_did false false (Some block) fr h k = absurd cc
both_did false false None (Some block) h k = absurd cc
both_did false false None None h k = absurd cc

-- a side's disk after an operation: unchanged if the side was not asked, otherwise as it serves the operation
abbrev pub Changes : Blocks → Blocks → Op → Option Answer → Type 0
Changes disk after o None = after ≡ disk
Changes disk after o (Some a) = ServesSaid disk o a after

stays_same : (disk after : Blocks) (first count : ℕ) (present : Bool) (l : Option Answer) → stays_after_read present l ≡ true → Changes disk after (Read first count) l → after ≡ disk
stays_same disk after first count present None s h = h
stays_same disk after first count present (Some (answered.Blocks words)) s h = h.1
stays_same disk after first count present (Some (answered.IoError block)) s h = h.1
stays_same disk after first count present (Some a) s h = absurd cc

pub both_same : (disk left right : Blocks) (present : Presence) (o : Op) (l r : Option Answer) → is_disk_op o ≡ true
    → (after_asking present o l r).present.left ≡ true → (after_asking present o l r).present.right ≡ true → Changes disk left o l → Changes disk right o r → right ≡ left
both_same disk left right present (Read first count) l r d sl sr L R =
    stays_same disk right first count present.right r sr R ∙ sym (stays_same disk left first count present.left l sl L)
both_same disk left right present (Write first words) l r d sl sr L R =
    let k = both_did (is_done l) (is_done r) (failed_block l) (failed_block r) sl sr in
    subst (Changes disk right (Write first words)) (done_is r k.1) R ∙ sym (subst (Changes disk left (Write first words)) (done_is l k.0) L)
both_same disk left right present (Send frame) l r d sl sr L R = absurd cc
both_same disk left right present Recv l r d sl sr L R = absurd cc
both_same disk left right present Open l r d sl sr L R = absurd cc
both_same disk left right present (Play samples) l r d sl sr L R = absurd cc
both_same disk left right present Close l r d sl sr L R = absurd cc
both_same disk left right present (Get key) l r d sl sr L R = absurd cc
both_same disk left right present (Set key value) l r d sl sr L R = absurd cc

-- ---- a side that stays was present

stayed_write : (dl dr : Bool) (l r : Option Answer) → is_done l ≡ dl → is_done r ≡ dr → (fl fr : Option ℕ) → failed_block l ≡ fl → failed_block r ≡ fr → (here there : Bool)
    → ((a : Answer) → l ≡ Some a → here ≡ true) → ((a : Answer) → r ≡ Some a → there ≡ true)
    → ((if dl || dr then outcome dl dr mirror.Done else after_failed_write fl fr).present.left ≡ true → here ≡ true)
    × ((if dl || dr then outcome dl dr mirror.Done else after_failed_write fl fr).present.right ≡ true → there ≡ true)
stayed_write true true l r el er fl fr gl gr here there L R = ((λ h. L answered.Done (done_is l el)), (λ h. R answered.Done (done_is r er)))
stayed_write true false l r el er fl fr gl gr here there L R = ((λ h. L answered.Done (done_is l el)), (λ h. absurd cc))
stayed_write false true l r el er fl fr gl gr here there L R = ((λ h. absurd cc), (λ h. R answered.Done (done_is r er)))
stayed_write false false l r el er (Some block) fr gl gr here there L R = ((λ h. L (answered.IoError block) (failed_at l block gl)), (λ h. absurd cc))
stayed_write false false l r el er None (Some block) gl gr here there L R = ((λ h. absurd cc), (λ h. R (answered.IoError block) (failed_at r block gr)))
stayed_write false false l r el er None None gl gr here there L R = ((λ h. absurd cc), (λ h. absurd cc))

stayed_read : (present : Bool) (l : Option Answer) → ((a : Answer) → l ≡ Some a → present ≡ true) → stays_after_read present l ≡ true → present ≡ true
stayed_read present None L h = h
stayed_read present (Some a) L h = L a refl

pub stayed : (present : Presence) (o : Op) (l r : Option Answer) → is_disk_op o ≡ true
    → ((a : Answer) → l ≡ Some a → present.left ≡ true) → ((a : Answer) → r ≡ Some a → present.right ≡ true)
    → ((after_asking present o l r).present.left ≡ true → present.left ≡ true) × ((after_asking present o l r).present.right ≡ true → present.right ≡ true)
stayed present (Read first count) l r d L R = (stayed_read present.left l L, stayed_read present.right r R)
stayed present (Write first words) l r d L R =
    stayed_write (is_done l) (is_done r) l r refl refl (failed_block l) (failed_block r) refl refl present.left present.right L R
stayed present (Send frame) l r d L R = absurd cc
stayed present Recv l r d L R = absurd cc
stayed present Open l r d L R = absurd cc
stayed present (Play samples) l r d L R = absurd cc
stayed present Close l r d L R = absurd cc
stayed present (Get key) l r d L R = absurd cc
stayed present (Set key value) l r d L R = absurd cc

-- ---- if no side stays, the answer is BothLost

or_true : (b : Bool) → (b || true) ≡ true
or_true true = refl
or_true false = refl

-- the mirror answers BothLost, or a side stays
abbrev IsLostOrLeft : Outcome → Type 0
IsLostOrLeft out = (out.answer ≡ mirror.BothLost) ⊎ ((out.present.left || out.present.right) ≡ true)

write_left : (dl dr : Bool) (fl fr : Option ℕ) → IsLostOrLeft (if dl || dr then outcome dl dr mirror.Done else after_failed_write fl fr)
write_left true dr fl fr = inr refl
write_left false true fl fr = inr refl
write_left false false (Some block) fr = inr refl
write_left false false None (Some block) = inr refl
write_left false false None None = inl refl

read_left : (present : Presence) (l r : Option Answer) (wl wr : Option (List ℕ)) → words_read l ≡ wl → words_read r ≡ wr → (fl fr : Option ℕ) → failed_block l ≡ fl → failed_block r ≡ fr
    → IsLostOrLeft (outcome (stays_after_read present.left l) (stays_after_read present.right r) (read_answer wl wr (failed_read fl fr)))
read_left present l r (Some words) wr el er fl fr gl gr =
    inr (ap (λ (b : Bool). b || stays_after_read present.right r) (ap (stays_after_read present.left) (words_are l words el)))
read_left present l r None (Some words) el er fl fr gl gr =
    inr (ap (λ (b : Bool). stays_after_read present.left l || b) (ap (stays_after_read present.right) (words_are r words er)) ∙ or_true (stays_after_read present.left l))
read_left present l r None None el er (Some block) fr gl gr =
    inr (ap (λ (b : Bool). b || stays_after_read present.right r) (ap (stays_after_read present.left) (failed_at l block gl)))
read_left present l r None None el er None (Some block) gl gr =
    inr (ap (λ (b : Bool). stays_after_read present.left l || b) (ap (stays_after_read present.right) (failed_at r block gr)) ∙ or_true (stays_after_read present.left l))
read_left present l r None None el er None None gl gr = inl refl

asking_left : (present : Presence) (o : Op) (l r : Option Answer) → IsLostOrLeft (after_asking present o l r)
asking_left present o l r = by_op (is_write o)
  where
    by_op : (b : Bool) → IsLostOrLeft (if b then after_write l r else after_read present l r)
    by_op true = write_left (is_done l) (is_done r) (failed_block l) (failed_block r)
    by_op false = read_left present l r (words_read l) (words_read r) refl refl (failed_block l) (failed_block r) refl refl

-- a side stays if the answer is not BothLost and a side was present before
abbrev KeepsSide : Presence → MirrorStep → Type 0
KeepsSide present s =
    (s.outcome.answer ≡ mirror.BothLost → ⊥) → (present.left || present.right) ≡ true → (s.outcome.present.left || s.outcome.present.right) ≡ true

step_keeps : (check : Option Answer) (present : Presence) (o : Op) (lefts rights : List Answer) (s : MirrorStep) → step_checked check present o lefts rights ≡ Some s → KeepsSide present s
step_keeps (Some refusal) present o lefts rights s h not_lost some = by_refusal (refusal_of refusal) h
  where
    by_refusal : (a : Option MirrorAnswer) → step_refused present a lefts rights ≡ Some s → (s.outcome.present.left || s.outcome.present.right) ≡ true
    by_refusal None h = absurd cc
    by_refusal (Some a) h = subst (λ (t : MirrorStep). (t.outcome.present.left || t.outcome.present.right) ≡ true) (some_same _ s h) some
step_keeps None present o lefts rights s h not_lost some = by_left (says present.left lefts) h
  where
    by_outcome : (left right : Said) → Some (mirror_step_of present o left right) ≡ Some s → (s.outcome.present.left || s.outcome.present.right) ≡ true
    by_outcome left right h =
        let e : mirror_step_of present o left right ≡ s = some_same (mirror_step_of present o left right) s h in
        by_case (subst (λ (t : MirrorStep). IsLostOrLeft t.outcome) e (asking_left present o left.said right.said))
      where
        by_case : IsLostOrLeft s.outcome → (s.outcome.present.left || s.outcome.present.right) ≡ true
        by_case (inl lost) = absurd (not_lost lost)
        by_case (inr left) = left

    by_right : (left : Said) (right : Option Said) → option_and_then (λ right. Some (mirror_step_of present o left right)) right ≡ Some s → (s.outcome.present.left || s.outcome.present.right) ≡ true
    by_right left None h = absurd cc
    by_right left (Some right) h = by_outcome left right h

    by_left : (left : Option Said) → option_and_then (λ left. option_and_then (λ right. Some (mirror_step_of present o left right)) (says (asks_right present o left.said) rights)) left ≡ Some s
        → (s.outcome.present.left || s.outcome.present.right) ≡ true
    by_left None h = absurd cc
    by_left (Some left) h = by_right left (says (asks_right present o left.said) rights) h

pub mirror_keeps : (n : ℕ) (present : Presence) (o : Op) (lefts rights : List Answer) (s : MirrorStep) → mirror_step n present o lefts rights ≡ Some s → KeepsSide present s
mirror_keeps n present (Read first count) lefts rights s h = step_keeps (static_check Block n (Read first count)) present (Read first count) lefts rights s h
mirror_keeps n present (Write first words) lefts rights s h = step_keeps (static_check Block n (Write first words)) present (Write first words) lefts rights s h
mirror_keeps n present (Send frame) lefts rights s h = absurd cc
mirror_keeps n present Recv lefts rights s h = absurd cc
mirror_keeps n present Open lefts rights s h = absurd cc
mirror_keeps n present (Play samples) lefts rights s h = absurd cc
mirror_keeps n present Close lefts rights s h = absurd cc
mirror_keeps n present (Get key) lefts rights s h = absurd cc
mirror_keeps n present (Set key value) lefts rights s h = absurd cc

-- ---- if no side is left

gone_write : (a : Answer) (first : ℕ) (words : List ℕ) → MayAnswer a (Write first words) → is_done (Some a) ≡ false → failed_block (Some a) ≡ None
    → (failures : ℕ) × (a ≡ answered.Gone failures)
gone_write answered.Done first words m d f = absurd cc
gone_write (answered.IoError block) first words m d f = absurd cc
gone_write (answered.Gone failures) first words m d f = (failures, refl)
gone_write a first words m d f = absurd m

gone_read : (a : Answer) (first count : ℕ) → MayAnswer a (Read first count) → words_read (Some a) ≡ None → failed_block (Some a) ≡ None
    → (failures : ℕ) × (a ≡ answered.Gone failures)
gone_read (answered.Blocks words) first count m w f = absurd cc
gone_read (answered.IoError block) first count m w f = absurd cc
gone_read (answered.Gone failures) first count m w f = (failures, refl)
gone_read a first count m w f = absurd m

none_wrote : (dl dr : Bool) (fl fr : Option ℕ) → (if dl || dr then outcome dl dr mirror.Done else after_failed_write fl fr).answer ≡ mirror.BothLost
    → (dl ≡ false) × (dr ≡ false) × (fl ≡ None) × (fr ≡ None)
none_wrote true dr fl fr h = absurd cc
none_wrote false true fl fr h = absurd cc
none_wrote false false (Some block) fr h = absurd cc
none_wrote false false None (Some block) h = absurd cc
none_wrote false false None None h = (refl, refl, refl, refl)

none_read : (wl wr : Option (List ℕ)) (fl fr : Option ℕ) → read_answer wl wr (failed_read fl fr) ≡ mirror.BothLost
    → (wl ≡ None) × (wr ≡ None) × (fl ≡ None) × (fr ≡ None)
none_read (Some words) wr fl fr h = absurd cc
none_read None (Some words) fl fr h = absurd cc
none_read None None (Some block) fr h = absurd cc
none_read None None None (Some block) h = absurd cc
none_read None None None None h = (refl, refl, refl, refl)

-- each side that is present is asked, and answers Gone if it gives an answer to the operation
pub record BothGone (present : Presence) (o : Op) (l r : Option Answer) : Type 0 where
  pub left : (a : Answer) → l ≡ Some a → MayAnswer a o → (failures : ℕ) × (a ≡ answered.Gone failures)
  pub right : (a : Answer) → r ≡ Some a → MayAnswer a o → (failures : ℕ) × (a ≡ answered.Gone failures)
  pub asks : present.right ≡ true → asks_right present o l ≡ true

pub both_gone : (present : Presence) (o : Op) (l r : Option Answer) → is_disk_op o ≡ true → (after_asking present o l r).answer ≡ mirror.BothLost
    → BothGone present o l r
both_gone present (Read first count) l r d h =
    let k = none_read (words_read l) (words_read r) (failed_block l) (failed_block r) h in
    record {
      left = λ a e m. gone_read a first count m (ap words_read (sym e) ∙ k.0) (ap failed_block (sym e) ∙ k.2);
      right = λ a e m. gone_read a first count m (ap words_read (sym e) ∙ k.1) (ap failed_block (sym e) ∙ k.3);
      asks = λ here. ap (λ (b : Bool). b && (false || not (is_some (words_read l)))) here ∙ ap (λ (w : Option (List ℕ)). true && (false || not (is_some w))) k.0;
    }
both_gone present (Write first words) l r d h =
    let k = none_wrote (is_done l) (is_done r) (failed_block l) (failed_block r) h in
    record {
      left = λ a e m. gone_write a first words m (ap is_done (sym e) ∙ k.0) (ap failed_block (sym e) ∙ k.2);
      right = λ a e m. gone_write a first words m (ap is_done (sym e) ∙ k.1) (ap failed_block (sym e) ∙ k.3);
      asks = λ here. ap (λ (b : Bool). b && (true || not (is_some (words_read l)))) here;
    }
both_gone present (Send frame) l r d h = absurd cc
both_gone present Recv l r d h = absurd cc
both_gone present Open l r d h = absurd cc
both_gone present (Play samples) l r d h = absurd cc
both_gone present Close l r d h = absurd cc
both_gone present (Get key) l r d h = absurd cc
both_gone present (Set key value) l r d h = absurd cc
