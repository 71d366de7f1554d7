-- How an operation of a mirror ends, from how asking its sides ends.
use Rattle.std.proofs.Common.{◌≡◌, ℕ, ◌||◌, Bool, true, false, Option, Some, None, Ok, Err, is_some, List, [], ◌∷◌, drop, length, subst, sym, refl, ap, ◌∙◌, inl, inr, arith, true≢false}
use Rattle.std.specs.Prelude.{if◌then◌else◌, option_and_then}
use Rattle.std.proofs.lemmas.Bool.{and_parts}
use Rattle.std.proofs.lemmas.List.{drop_all}
use Rattle.nook_data.specs.declared.calls.Answer.{Answer}
use Rattle.nook_data.specs.declared.calls.Answer.TheVariants as answered
use Rattle.nook_data.specs.declared.classes.Class.TheVariants.{Block}
use Rattle.nook_data.specs.declared.steps.Event.{Event}
use Rattle.nook_data.specs.declared.mirror.MirrorAnswer.{MirrorAnswer}
use Rattle.nook_data.specs.declared.mirror.MirrorAnswer.TheVariants as mirror_answer
use Rattle.nook_data.specs.declared.calls.Op.{Op}
use Rattle.nook_data.specs.declared.calls.Op.TheVariants.{Read, Write, Send, Recv, Open, Play, Close, Get, Set}
use Rattle.nook_data.specs.declared.scenario.PartSpec.{PartSpec}
use Rattle.nook_data.specs.Classes.{static_check}
use Rattle.promise_defs.specs.Ideal.{Ideal, IsClassRun, class_run, never_failing, ran}
use Rattle.promise_defs.specs.Trace.{trace}
use Rattle.desk_like.specs.Desks.{DeskView}
use Rattle.mirror_block.specs.declared.stop.MirrorStop.{MirrorStop}
use Rattle.mirror_block.specs.declared.stop.MirrorStop.TheVariants as stop
use Rattle.mirror_block.specs.Disk.{IsShown, MayAnswer, Serves, ServesBy, ServesSaid, ShowsDevice, ShowsDisk}
use Rattle.mirror_block.specs.Mirrors.{AreClassRuns, Ends, IsMirrorAnswer, IsDisk, IsMirror, MirrorView, SameSides, StopsAt}
use Rattle.mirror_block.specs.Rule.{Outcome, Presence, Said, MirrorStep, after_asking, asked_next, asked_of_two, asked_unless, asks_right, first_said, is_disk_op, lacks_answer, mirror_step, says, step_asking, step_checked, mirror_step_of}
use Rattle.mirror_block.specs.Sides.{AskBothEnds, IsAskedFor, IsCut, IsFull, IsLeftCut, IsSaid, IsServed, IsSide, KnowsSame, SaysGone, Sides, NeedsMemory, answers_gained, answers_given}
use Rattle.mirror_block.proofs.Gains.{same_as, same_side}
use Rattle.mirror_block.proofs.Outcomes.{Changes, both_gone, both_same, outcome_serves, stayed}
use Rattle.mirror_block.proofs.Plain.{same_device}

abbrev Disk : Type 0
Disk = List (List ℕ)

-- ---- one side

nothing_gained : (old new : DeskView) → KnowsSame old new → answers_gained old new ≡ []
nothing_gained old new k =
    ap (λ (seen : List Event). answers_given (drop (length old.seen) seen)) k.seen ∙ ap answers_given (drop_all (length old.seen) old.seen (omega arith))

-- whether it was asked or not, a side said what the rule takes from its answers, and no answer is left
says_so : (spec : PartSpec) (old new : DeskView) (asked : Bool) (o : Op) (l : Option Answer) → IsSaid spec old new asked o l
    → says asked (answers_gained old new) ≡ Some (record { said = l; rest = [] })
says_so spec old new asked o None h = ap (λ (b : Bool). says b (answers_gained old new)) h.0 ∙ ap (says false) (nothing_gained old new (same_as old new h.1))
says_so spec old new asked o (Some a) h = ap (λ (b : Bool). says b (answers_gained old new)) h.0 ∙ ap (says true) h.2

unchanged_served : (old new : DeskView) (o : Op) → new ≡ old → IsServed old new o
unchanged_served old new o e = let k = same_as old new e in subst (IsAskedFor old new o) (sym (nothing_gained old new k)) k

served_so : (spec : PartSpec) (old new : DeskView) (asked : Bool) (o : Op) (l : Option Answer) → IsSaid spec old new asked o l → IsServed old new o
served_so spec old new asked o None h = unchanged_served old new o h.1
served_so spec old new asked o (Some a) h = subst (IsAskedFor old new o) (sym h.2) h.1

said_asked : (spec : PartSpec) (old new : DeskView) (asked : Bool) (o : Op) (l : Option Answer) → IsSaid spec old new asked o l → (a : Answer) → l ≡ Some a → asked ≡ true
said_asked spec old new asked o None h a e = absurd cc
said_asked spec old new asked o (Some b) h a e = h.0

said_unasked : (spec : PartSpec) (old new : DeskView) (asked : Bool) (o : Op) (l : Option Answer) → IsSaid spec old new asked o l → l ≡ None → asked ≡ false
said_unasked spec old new asked o None h e = h.0
said_unasked spec old new asked o (Some b) h e = absurd cc

-- a side of a mirror, with its part's number of blocks or with the mirror's
side_resized : (spec : PartSpec) (m n : ℕ) (b : Bool) (v : DeskView) → m ≡ n → IsSide spec m b v → IsSide spec n b v
side_resized spec m n b v e s = subst (λ (k : ℕ). IsSide spec k b v) e s

pub own_size : (spec : PartSpec) (n : ℕ) (b : Bool) (v : DeskView) → IsSide spec n b v → IsSide spec spec.blocks b v
own_size spec n b v s = side_resized spec n spec.blocks b v (sym s.size) s

-- a side of a mirror that stopped
side_stopped : (spec : PartSpec) (n : ℕ) (b : Bool) (v : DeskView) → IsSide spec n b v → IsSide spec n true v
side_stopped spec n b v s = record {
  class = s.class;
  size = s.size;
  alone = s.alone;
  accounts = s.accounts;
  run = s.run;
  none_open = λ e. absurd cc;
  idle = λ e. absurd cc;
}

said_side : (spec : PartSpec) (n : ℕ) (old new : DeskView) (asked : Bool) (o : Op) (l : Option Answer) → IsSide spec n false old → IsSaid spec old new asked o l → IsSide spec n false new
said_side spec n old new asked o None s h = subst (IsSide spec n false) (sym h.1) s
said_side spec n old new asked o (Some a) s h = side_resized spec spec.blocks n false new s.size h.3

-- if a side can only answer Gone and was present, it was asked and answered Gone
said_gone : (spec : PartSpec) (old new : DeskView) (asked present : Bool) (o : Op) (l : Option Answer) → static_check Block spec.blocks o ≡ None
    → IsSaid spec old new asked o l → (present ≡ true → asked ≡ true) → ((a : Answer) → l ≡ Some a → MayAnswer a o → (failures : ℕ) × (a ≡ answered.Gone failures))
    → SaysGone present (answers_gained old new)
said_gone spec old new asked present o None check h asks gone here = absurd (true≢false (sym (asks here) ∙ h.0))
said_gone spec old new asked present o (Some a) check h asks gone here =
    let k = gone a refl (h.5 check) in (k.0, h.2 ∙ ap (λ (x : Answer). x ∷ []) k.1)

-- ---- the disk of one side

pub device_of : (size : ℕ) (seen : List Event) → IsClassRun Block size (trace seen) → (d : Ideal) × ShowsDevice size seen d
unfolding class_run
device_of size seen h = by_run (ran (never_failing Block size) (trace seen)) refl h
  where
    by_run : (o : Option Ideal) → ran (never_failing Block size) (trace seen) ≡ o → is_some o ≡ true → (d : Ideal) × ShowsDevice size seen d
    by_run None e h = absurd cc
    by_run (Some d) e h = (d, e)

class_run_of : (size : ℕ) (seen : List Event) (d : Ideal) → ShowsDevice size seen d → IsClassRun Block size (trace seen)
unfolding class_run
class_run_of size seen d h = ap is_some h

-- if what a side has seen is a run of the never-failing disk, so is what it had seen before
said_earlier : (spec : PartSpec) (n : ℕ) (old new : DeskView) (asked : Bool) (o : Op) (l : Option Answer) → spec.blocks ≡ n → IsSaid spec old new asked o l
    → IsClassRun Block n (trace new.seen) → IsClassRun Block n (trace old.seen)
said_earlier spec n old new asked o None e h r = subst (λ (v : DeskView). IsClassRun Block n (trace v.seen)) h.1 r
said_earlier spec n old new asked o (Some a) e h r =
    let shown : IsShown n old.seen new.seen o a = subst (λ (k : ℕ). IsShown k old.seen new.seen o a) e h.4 in
    let d = device_of n new.seen r in
    let k = shown.continues d.0 d.1 in
    class_run_of n old.seen k.0 k.1

-- how the disk of a side changes
said_changes : (spec : PartSpec) (n : ℕ) (old new : DeskView) (asked : Bool) (o : Op) (l : Option Answer) → spec.blocks ≡ n → static_check Block n o ≡ None
    → IsSaid spec old new asked o l → (disk after : Disk) → ShowsDisk n old.seen disk → ShowsDisk n new.seen after → Changes disk after o l
said_changes spec n old new asked o None e check h disk after was is =
    let same : is.device ≡ was.device =
    same_device n old.seen is.device was.device (ap (λ (v : DeskView). ran (never_failing Block n) (trace v.seen)) (sym h.1) ∙ is.shows) was.shows in
    sym is.disk_is ∙ ap (λ (d : Ideal). d.blocks) same ∙ was.disk_is
said_changes spec n old new asked o (Some a) e check h disk after was is =
    let shown : IsShown n old.seen new.seen o a = subst (λ (k : ℕ). IsShown k old.seen new.seen o a) e h.4 in
    shown.serves check disk after was is

-- so it serves the operation if it was asked
said_serves : (spec : PartSpec) (n : ℕ) (old new : DeskView) (asked : Bool) (o : Op) (l : Option Answer) → spec.blocks ≡ n → static_check Block n o ≡ None
    → IsSaid spec old new asked o l → (disk after : Disk) → ShowsDisk n old.seen disk → ShowsDisk n new.seen after → (a : Answer) → l ≡ Some a → ServesSaid disk o a after
said_serves spec n old new asked o l e check h disk after was is a f = subst (Changes disk after o) f (said_changes spec n old new asked o l e check h disk after was is)

-- ---- the rule's step

step_is : (n : ℕ) (present : Presence) (o : Op) (lefts rights : List Answer) → is_disk_op o ≡ true
    → mirror_step n present o lefts rights ≡ step_checked (static_check Block n o) present o lefts rights
step_is n present (Read first count) lefts rights d = refl
step_is n present (Write first words) lefts rights d = refl
step_is n present (Send frame) lefts rights d = absurd cc
step_is n present Recv lefts rights d = absurd cc
step_is n present Open lefts rights d = absurd cc
step_is n present (Play samples) lefts rights d = absurd cc
step_is n present Close lefts rights d = absurd cc
step_is n present (Get key) lefts rights d = absurd cc
step_is n present (Set key value) lefts rights d = absurd cc

abbrev right_step : Presence → Op → List Answer → Said → Option MirrorStep
right_step present o rights left = option_and_then (λ right. Some (mirror_step_of present o left right)) (says (asks_right present o left.said) rights)

asking_is : (present : Presence) (o : Op) (lefts rights : List Answer) (l r : Option Answer) → says present.left lefts ≡ Some (record { said = l; rest = [] })
    → says (asks_right present o l) rights ≡ Some (record { said = r; rest = [] })
    → step_asking present o lefts rights ≡ Some (record { outcome = after_asking present o l r; left = []; right = [] })
asking_is present o lefts rights l r e f =
    ap (option_and_then (right_step present o rights)) e
    ∙ ap (option_and_then (λ right. Some (mirror_step_of present o (record { said = l; rest = [] }) right))) f

-- ---- an operation that is answered

module _ {D : Type 0} (spec : D → PartSpec) (m : MirrorView D) (o : Op) (ln rn : DeskView) (mirror : IsMirror spec m) (goes : m.stopped ≡ false)
    (disk_op : is_disk_op o ≡ true) (checked : static_check Block m.blocks o ≡ None) where
  abbrev pub sides : Sides
  sides = record { left_spec = spec m.left_desk; right_spec = spec m.right_desk; left_old = m.left; left_new = ln; right_old = m.right; right_new = rn }

  abbrev pub after : Presence → Bool → MirrorView D
  after present stopped = record m { left = ln; right = rn; present = present; stopped = stopped }

  same : (present : Presence) (stopped : Bool) → SameSides m (after present stopped)
  same present stopped = record { left_desk = refl; right_desk = refl; blocks = refl }

  left_going : IsSide (spec m.left_desk) m.blocks false m.left
  left_going = subst (λ (b : Bool). IsSide (spec m.left_desk) m.blocks b m.left) goes mirror.left

  right_going : IsSide (spec m.right_desk) m.blocks false m.right
  right_going = subst (λ (b : Bool). IsSide (spec m.right_desk) m.blocks b m.right) goes mirror.right

  module _ (l r : Option Answer) (hl : IsSaid (spec m.left_desk) m.left ln m.present.left o l) (hr : IsSaid (spec m.right_desk) m.right rn (asks_right m.present o l) o r) where
    abbrev pub out : Outcome
    out = after_asking m.present o l r

    right_asked : (a : Answer) → r ≡ Some a → m.present.right ≡ true
    right_asked a e = (and_parts m.present.right _ (said_asked (spec m.right_desk) m.right rn (asks_right m.present o l) o r hr a e)).0

    left_asked : (a : Answer) → l ≡ Some a → m.present.left ≡ true
    left_asked a e = said_asked (spec m.left_desk) m.left ln m.present.left o l hl a e

    was_present : (out.present.left ≡ true → m.present.left ≡ true) × (out.present.right ≡ true → m.present.right ≡ true)
    was_present = stayed m.present o l r disk_op left_asked right_asked

    serves : (disk next : Disk) → (out.present.left || out.present.right) ≡ true → IsDisk m disk → IsDisk (after out.present false) next → Serves m.blocks disk o out.answer next
    serves disk next some was is =
        subst (λ (c : Option Answer). ServesBy c disk o out.answer next) (sym checked)
        (outcome_serves disk next m.present o l r disk_op
        (λ a e stays. said_serves (spec m.left_desk) m.blocks m.left ln m.present.left o l mirror.left.size checked hl disk next (was.left (left_asked a e)) (is.left stays) a e)
        (λ a e stays. said_serves (spec m.right_desk) m.blocks m.right rn (asks_right m.present o l) o r mirror.right.size checked hr disk next (was.right (right_asked a e)) (is.right stays) a e)
        (said_unasked (spec m.left_desk) m.left ln m.present.left o l hl)
        (said_unasked (spec m.right_desk) m.right rn (asks_right m.present o l) o r hr)
        some)

    -- both are lost only if each side that was present answered Gone
    lost : out.answer ≡ mirror_answer.BothLost → SaysGone m.present.left (answers_gained m.left ln) × SaysGone m.present.right (answers_gained m.right rn)
    lost e =
        let k = both_gone m.present o l r disk_op e in
        let left_checked : static_check Block (spec m.left_desk).blocks o ≡ None = ap (λ (n : ℕ). static_check Block n o) mirror.left.size ∙ checked in
        let right_checked : static_check Block (spec m.right_desk).blocks o ≡ None = ap (λ (n : ℕ). static_check Block n o) mirror.right.size ∙ checked in (
          said_gone (spec m.left_desk) m.left ln m.present.left m.present.left o l left_checked hl (λ here. here) k.left,
          said_gone (spec m.right_desk) m.right rn (asks_right m.present o l) m.present.right o r right_checked hr k.asks k.right,
        )

    pub answered_ends : IsMirrorAnswer m (after out.present false) o out.answer
    answered_ends = record {
      goes = goes;
      goes_on = refl;
      same = same out.present false;
      step = step_is m.blocks m.present o (answers_gained m.left ln) (answers_gained m.right rn) disk_op
          ∙ ap (λ (c : Option Answer). step_checked c m.present o (answers_gained m.left ln) (answers_gained m.right rn)) checked
          ∙ asking_is m.present o (answers_gained m.left ln) (answers_gained m.right rn) l r
          (says_so (spec m.left_desk) m.left ln m.present.left o l hl) (says_so (spec m.right_desk) m.right rn (asks_right m.present o l) o r hr);
      left = served_so (spec m.left_desk) m.left ln m.present.left o l hl;
      right = served_so (spec m.right_desk) m.right rn (asks_right m.present o l) o r hr;
      lost = lost;
      serves = serves;
    }

    -- for each side that stays, a device shows the disk
    one_disk : (sl sr : Bool) → out.present.left ≡ sl → out.present.right ≡ sr → AreClassRuns (after out.present false) → (disk : Disk) × IsDisk (after out.present false) disk
    one_disk false false el er runs = ([], record { left = λ h. absurd cc; right = λ h. absurd cc })
    one_disk true false el er runs =
        let d = device_of m.blocks ln.seen (runs.left el) in
        (d.0.blocks, record { left = λ h. record { device = d.0; shows = d.1; disk_is = refl }; right = λ h. absurd cc })
    one_disk false true el er runs =
        let d = device_of m.blocks rn.seen (runs.right er) in
        (d.0.blocks, record { left = λ h. absurd cc; right = λ h. record { device = d.0; shows = d.1; disk_is = refl } })
    one_disk true true el er runs =
        let dl = device_of m.blocks ln.seen (runs.left el) in
        let dr = device_of m.blocks rn.seen (runs.right er) in
        let earlier : AreClassRuns m = record {
          left = λ h. said_earlier (spec m.left_desk) m.blocks m.left ln m.present.left o l mirror.left.size hl (runs.left el);
          right = λ h. said_earlier (spec m.right_desk) m.blocks m.right rn (asks_right m.present o l) o r mirror.right.size hr (runs.right er);
        } in
        let was = mirror.one_disk goes earlier in
        let changed_left = said_changes (spec m.left_desk) m.blocks m.left ln m.present.left o l mirror.left.size checked hl was.0 dl.0.blocks
        (was.1.left (was_present.0 el)) (record { device = dl.0; shows = dl.1; disk_is = refl }) in
        let changed_right = said_changes (spec m.right_desk) m.blocks m.right rn (asks_right m.present o l) o r mirror.right.size checked hr was.0 dr.0.blocks
        (was.1.right (was_present.1 er)) (record { device = dr.0; shows = dr.1; disk_is = refl }) in
        let equal : dr.0.blocks ≡ dl.0.blocks = both_same was.0 dl.0.blocks dr.0.blocks m.present o l r disk_op el er changed_left changed_right in
        (dl.0.blocks, record { left = λ h. record { device = dl.0; shows = dl.1; disk_is = refl }; right = λ h. record { device = dr.0; shows = dr.1; disk_is = equal } })

    pub answered_keeps : IsMirror spec (after out.present false)
    answered_keeps = record {
      left = said_side (spec m.left_desk) m.blocks m.left ln m.present.left o l left_going hl;
      right = said_side (spec m.right_desk) m.blocks m.right rn (asks_right m.present o l) o r right_going hr;
      one_disk = λ e runs. one_disk out.present.left out.present.right refl refl runs;
    }

  -- ---- a side that was interrupted

  keeps_stopped : IsSide (spec m.left_desk) m.blocks true ln → IsSide (spec m.right_desk) m.blocks true rn → IsMirror spec (after m.present true)
  keeps_stopped left right = record { left = left; right = right; one_disk = λ e. absurd cc }

  -- the static check passed, so the sides are asked
  asked_is : (lefts rights : List Answer) → asked_next m.blocks m.present o lefts rights ≡ asked_of_two m.present o lefts rights
  asked_is lefts rights = ap (λ (c : Option Answer). asked_unless (is_some c) (asked_of_two m.present o lefts rights)) checked

  asks_left : (lefts rights : List Answer) → m.present.left ≡ true → lefts ≡ [] → asked_next m.blocks m.present o lefts rights ≡ Some 0
  asks_left lefts rights here none =
      asked_is lefts rights
      ∙ ap (λ (b : Bool). if b then Some 0 else if lacks_answer (asks_right m.present o (first_said m.present.left lefts)) rights then Some 1 else None)
      (ap (λ (b : Bool). lacks_answer b lefts) here ∙ ap (lacks_answer true) none)

  left_said_so : (l : Option Answer) → IsSaid (spec m.left_desk) m.left ln m.present.left o l
      → (lacks_answer m.present.left (answers_gained m.left ln) ≡ false) × (first_said m.present.left (answers_gained m.left ln) ≡ l)
  left_said_so None h = (
    ap (λ (b : Bool). lacks_answer b (answers_gained m.left ln)) h.0,
    ap (λ (b : Bool). first_said b (answers_gained m.left ln)) h.0,
  )
  left_said_so (Some a) h = (
    ap (λ (b : Bool). lacks_answer b (answers_gained m.left ln)) h.0 ∙ ap (lacks_answer true) h.2,
    ap (λ (b : Bool). first_said b (answers_gained m.left ln)) h.0 ∙ ap (first_said true) h.2,
  )

  asks_other : (l : Option Answer) (rights : List Answer) → IsSaid (spec m.left_desk) m.left ln m.present.left o l → asks_right m.present o l ≡ true → rights ≡ []
      → asked_next m.blocks m.present o (answers_gained m.left ln) rights ≡ Some 1
  asks_other l rights h there none =
      let k = left_said_so l h in
      asked_is (answers_gained m.left ln) rights
      ∙ ap (λ (b : Bool). if b then Some 0 else if lacks_answer (asks_right m.present o (first_said m.present.left (answers_gained m.left ln))) rights then Some 1 else None) k.0
      ∙ ap (λ (s : Option Answer). if lacks_answer (asks_right m.present o s) rights then Some 1 else None) k.1
      ∙ ap (λ (b : Bool). if lacks_answer b rights then Some 1 else None) there
      ∙ ap (λ (xs : List Answer). if lacks_answer true xs then Some 1 else None) none

  needs_nothing : (old new : DeskView) → NeedsMemory old new o → answers_gained old new ≡ []
  needs_nothing old new (inl e) = nothing_gained old new e
  needs_nothing old new (inr h) = h.1

  stops_left : (Cut : DeskView → DeskView → Op → Type 0) → m.present.left ≡ true → answers_gained m.left ln ≡ [] → Cut m.left ln o → rn ≡ m.right
      → StopsAt m (after m.present true) o 0 Cut
  stops_left Cut here none cut same_right = record {
    goes = goes;
    stops = refl;
    same = same m.present true;
    present = refl;
    asked = asks_left (answers_gained m.left ln) (answers_gained m.right rn) here none;
    left = cut;
    right = unchanged_served m.right rn o same_right;
  }

  stops_right : (Cut : DeskView → DeskView → Op → Type 0) (l : Option Answer) → IsSaid (spec m.left_desk) m.left ln m.present.left o l → asks_right m.present o l ≡ true
      → answers_gained m.right rn ≡ [] → Cut m.right rn o → StopsAt m (after m.present true) o 1 Cut
  stops_right Cut l h there none cut = record {
    goes = goes;
    stops = refl;
    same = same m.present true;
    present = refl;
    asked = asks_other l (answers_gained m.right rn) h there none;
    left = served_so (spec m.left_desk) m.left ln m.present.left o l h;
    right = cut;
  }

  left_kept : IsSide (spec m.left_desk) m.blocks true m.left
  left_kept = side_stopped (spec m.left_desk) m.blocks false m.left left_going

  right_kept : IsSide (spec m.right_desk) m.blocks true m.right
  right_kept = side_stopped (spec m.right_desk) m.blocks false m.right right_going

  left_cut : (why : MirrorStop) → IsLeftCut sides m.present o why → Ends m (after m.present true) o (Err why) × IsMirror spec (after m.present true)
  left_cut (stop.NoMemory None) h = absurd h.0
  left_cut (stop.NoMemory (Some side)) h = (
    subst (λ (s : ℕ). StopsAt m (after m.present true) o s NeedsMemory) (sym h.0.1)
        (stops_left NeedsMemory h.0.0 (needs_nothing m.left ln h.0.2) h.0.2 h.1),
    keeps_stopped (side_resized (spec m.left_desk) (spec m.left_desk).blocks m.blocks true ln mirror.left.size h.0.3)
        (subst (IsSide (spec m.right_desk) m.blocks true) (sym h.1) right_kept),
  )
  left_cut (stop.TooManyCalls side) h = (
    subst (λ (s : ℕ). StopsAt m (after m.present true) o s IsFull) (sym h.0.1)
        (stops_left IsFull h.0.0 (nothing_gained m.left ln h.0.2.0) h.0.2 h.1),
    keeps_stopped (same_side (spec m.left_desk) m.blocks true m.left ln h.0.2.0 left_kept)
        (subst (IsSide (spec m.right_desk) m.blocks true) (sym h.1) right_kept),
  )
  left_cut stop.Stopped h = absurd h.0

  left_following : (l : Option Answer) → IsSaid (spec m.left_desk) m.left ln m.present.left o l → IsSide (spec m.left_desk) m.blocks true ln
  left_following l h = side_stopped (spec m.left_desk) m.blocks false ln (said_side (spec m.left_desk) m.blocks m.left ln m.present.left o l left_going h)

  right_cut : (why : MirrorStop) (l : Option Answer) → IsSaid (spec m.left_desk) m.left ln m.present.left o l → IsCut (spec m.right_desk) m.right rn 1 (asks_right m.present o l) o why
      → Ends m (after m.present true) o (Err why) × IsMirror spec (after m.present true)
  right_cut (stop.NoMemory None) l h cut = absurd cut
  right_cut (stop.NoMemory (Some side)) l h cut = (
    subst (λ (s : ℕ). StopsAt m (after m.present true) o s NeedsMemory) (sym cut.1)
        (stops_right NeedsMemory l h cut.0 (needs_nothing m.right rn cut.2) cut.2),
    keeps_stopped (left_following l h) (side_resized (spec m.right_desk) (spec m.right_desk).blocks m.blocks true rn mirror.right.size cut.3),
  )
  right_cut (stop.TooManyCalls side) l h cut = (
    subst (λ (s : ℕ). StopsAt m (after m.present true) o s IsFull) (sym cut.1)
        (stops_right IsFull l h cut.0 (nothing_gained m.right rn cut.2.0) cut.2),
    keeps_stopped (left_following l h) (same_side (spec m.right_desk) m.blocks true m.right rn cut.2.0 right_kept),
  )
  right_cut stop.Stopped l h cut = absurd cut

  pub cut_ends : (why : MirrorStop) → AskBothEnds sides m.present o (Err why) → Ends m (after m.present true) o (Err why) × IsMirror spec (after m.present true)
  cut_ends why (inl h) = left_cut why h
  cut_ends why (inr h) = right_cut why h.left h.left_said h.right_cut

-- ---- the same for a mirror that is given by its fields

abbrev pub mirror_of : {D : Type 0} → D → D → DeskView → DeskView → Bool → Bool → ℕ → Bool → MirrorView D
mirror_of left_desk right_desk left right here there blocks stopped = record {
  left_desk = left_desk;
  right_desk = right_desk;
  left = left;
  right = right;
  present = record { left = here; right = there };
  blocks = blocks;
  stopped = stopped;
}

abbrev pub sides_of : {D : Type 0} → (D → PartSpec) → D → D → DeskView → DeskView → DeskView → DeskView → Sides
sides_of spec left_desk right_desk lo ln ro rn = record {
  left_spec = spec left_desk;
  right_spec = spec right_desk;
  left_old = lo;
  left_new = ln;
  right_old = ro;
  right_new = rn;
}

module _ {D : Type 0} (spec : D → PartSpec) (ld rd : D) (lo ln ro rn : DeskView) (here there : Bool) (n : ℕ) (b : Bool) (o : Op) (m : MirrorView D)
    (is : mirror_of ld rd lo ro here there n b ≡ m) (mirror : IsMirror spec m) (goes : m.stopped ≡ false) (disk_op : is_disk_op o ≡ true)
    (checked : static_check Block m.blocks o ≡ None) where
  abbrev own : MirrorView D
  own = mirror_of ld rd lo ro here there n b

  going : b ≡ false
  going = ap (λ (x : MirrorView D). x.stopped) is ∙ goes

  own_mirror : IsMirror spec own
  own_mirror = subst (IsMirror spec) (sym is) mirror

  own_checked : static_check Block n o ≡ None
  own_checked = ap (λ (x : MirrorView D). static_check Block x.blocks o) is ∙ checked

  same_fields : (ld' rd' : D) (p q p' q' c c' : Bool) → ld' ≡ ld → rd' ≡ rd → p ≡ p' → q ≡ q' → c ≡ c'
      → mirror_of ld' rd' ln rn p q n c ≡ mirror_of ld rd ln rn p' q' n c'
  same_fields ld' rd' p q p' q' c c' el er ep eq ec =
      ap (λ (d : D). mirror_of d rd' ln rn p q n c) el ∙ ap (λ (d : D). mirror_of ld d ln rn p q n c) er
      ∙ ap (λ (x : Bool). mirror_of ld rd ln rn x q n c) ep ∙ ap (λ (x : Bool). mirror_of ld rd ln rn p' x n c) eq
      ∙ ap (λ (x : Bool). mirror_of ld rd ln rn p' q' n x) ec

  pub answered_by : (l r : Option Answer) → AskBothEnds (sides_of spec ld rd lo ln ro rn) (record { left = here; right = there }) o (Ok (l, r))
      → (ld' rd' : D) (p q here' there' : Bool) (a : MirrorAnswer) → ld' ≡ ld → rd' ≡ rd → here' ≡ here → there' ≡ there
      → p ≡ (after_asking (record { left = here'; right = there' }) o l r).present.left
      → q ≡ (after_asking (record { left = here'; right = there' }) o l r).present.right
      → a ≡ (after_asking (record { left = here'; right = there' }) o l r).answer
      → IsMirrorAnswer m (mirror_of ld' rd' ln rn p q n b) o a × IsMirror spec (mirror_of ld' rd' ln rn p q n b)
  answered_by l r said ld' rd' p q here' there' a el er eh et ep eq ea =
      let out : Outcome = after_asking (record { left = here; right = there }) o l r in
      let e : after_asking (record { left = here'; right = there' }) o l r ≡ out =
      ap (λ (x : Bool). after_asking (record { left = x; right = there' }) o l r) eh ∙ ap (λ (x : Bool). after_asking (record { left = here; right = x }) o l r) et in
      let new : mirror_of ld' rd' ln rn p q n b ≡ mirror_of ld rd ln rn out.present.left out.present.right n false =
      same_fields ld' rd' p q out.present.left out.present.right b false el er (ep ∙ ap (λ (x : Outcome). x.present.left) e) (eq ∙ ap (λ (x : Outcome). x.present.right) e) going in (
        subst (λ (x : MirrorView D). IsMirrorAnswer x (mirror_of ld' rd' ln rn p q n b) o a) is
            (subst (λ (x : MirrorView D). IsMirrorAnswer own x o a) (sym new)
            (subst (λ (x : MirrorAnswer). IsMirrorAnswer own (mirror_of ld rd ln rn out.present.left out.present.right n false) o x) (sym (ea ∙ ap (λ (x : Outcome). x.answer) e))
            (answered_ends spec own o ln rn own_mirror going disk_op own_checked l r said.0 said.1))),
        subst (IsMirror spec) (sym new) (answered_keeps spec own o ln rn own_mirror going disk_op own_checked l r said.0 said.1),
      )

  pub cut_by : (why : MirrorStop) → AskBothEnds (sides_of spec ld rd lo ln ro rn) (record { left = here; right = there }) o (Err why)
      → (ld' rd' : D) (here' there' : Bool) → ld' ≡ ld → rd' ≡ rd → here' ≡ here → there' ≡ there
      → Ends m (mirror_of ld' rd' ln rn here' there' n true) o (Err why) × IsMirror spec (mirror_of ld' rd' ln rn here' there' n true)
  cut_by why cut ld' rd' here' there' el er eh et =
      let new : mirror_of ld' rd' ln rn here' there' n true ≡ mirror_of ld rd ln rn here there n true =
      same_fields ld' rd' here' there' here there true true el er eh et refl in
      let k = cut_ends spec own o ln rn own_mirror going disk_op own_checked why cut in (
        subst (λ (x : MirrorView D). Ends x (mirror_of ld' rd' ln rn here' there' n true) o (Err why)) is
            (subst (λ (x : MirrorView D). Ends own x o (Err why)) (sym new) k.0),
        subst (IsMirror spec) (sym new) k.1,
      )
