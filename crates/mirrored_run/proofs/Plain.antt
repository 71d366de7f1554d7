-- The answers of a mirror are those of one plain disk while both drivers keep the contract and a side is left, and each
-- side that is present at the end has that disk.
use Rattle.std.proofs.Common.{◌≡◌, ◌⊎◌, inl, inr, ℕ, ◌||◌, Bool, true, false, None, Some, List, [], ◌∷◌, ◌++◌, map, refl, sym, ap, subst, ◌∙◌, append-nil, append_assoc, true≢false}
use Rattle.std.specs.List.{list_any}
use Rattle.std.proofs.lemmas.Bool.{or_left}
use mathlib.Core.List.{IsPrefix}
use Rattle.nook_data.specs.declared.calls.Answer.{Answer}
use Rattle.nook_data.specs.declared.calls.CallEntry.{CallEntry}
use Rattle.nook_data.specs.declared.classes.Class.{Class}
use Rattle.nook_data.specs.declared.classes.Class.TheVariants as class
use Rattle.nook_data.specs.declared.steps.Event.{Event}
use Rattle.nook_data.specs.declared.mirror.MirrorAnswer.{MirrorAnswer}
use Rattle.nook_data.specs.declared.mirror.MirrorAnswer.TheVariants as mirror
use Rattle.nook_data.specs.declared.calls.Op.{Op}
use Rattle.nook_data.specs.declared.calls.Op.TheVariants.{Read}
use Rattle.nook_data.specs.declared.scenario.PartSpec.{PartSpec}
use Rattle.promise_defs.specs.Blocks.{blank_blocks}
use Rattle.nook_data.specs.Classes.{is_write, static_check}
use Rattle.promise_defs.specs.Contract.{first_break, known_first}
use Rattle.promise_defs.specs.Ideal.{Ideal, IsClassRun, never_failing, ran}
use Rattle.promise_defs.specs.Trace.{trace, trace_from}
use Rattle.part_defs.specs.Runs.{IsRun, state_from, state_of}
use Rattle.part_defs.specs.Steps.{opening}
use Rattle.part_laws.specs.Recovery.{has_write, is_write_call}
use Rattle.desk_like.specs.Desks.{DeskView}
use Rattle.mirror_block.specs.Disk.{ShowsDevice, ShowsDisk}
use Rattle.mirror_block.specs.Mirrors.{AreClassRuns, AreServed, IsDisk, IsMirror, IsMirrorAnswer, MirrorView}
use Rattle.mirror_block.specs.Sides.{Invocation, IsSide, answers_gained, answers_given, invocations}
use Rattle.mirror_block.proofs.Calls.{run_parts, state_parts}
use Rattle.mirror_block.proofs.DiskAnswers.{OnlyOp, others_only}
use Rattle.mirror_block.proofs.OneDisk.{one_disk_serves}
use Rattle.mirror_block.proofs.Plain.{nothing_more, same_device}
use Rattle.mirrored_run.specs.Exchanges.{ArePlain, Exchange, answers_of, left_events, right_events}
use Rattle.mirrored_run.specs.Mirrors.{end_medium, is_lost}
use Rattle.mirrored_run.proofs.Adding.{AllAnswered, Grows, answered_parts, given_parts, others_invoke, own_checked, same_given}
use Rattle.mirrored_run.proofs.Following.{Exchanged, checked_parts, left_seen, right_seen, same_sides, stays_on}
use Rattle.mirrored_run.proofs.ClassRuns.{AreChecked, ShowsOne, invoked_parts, one_run, shows_one}
use Rattle.mirrored_run.proofs.GivingUp.{has_gone, unbroken_before}
use Rattle.mirrored_run.proofs.Stepping.{StaysBy, step_checks, step_stays}
use Rattle.threaded_run.specs.Leaving.{GoesOn}

-- ---- one side

-- each call that the side was asked is answered and passed the static check; none is answered Gone while it is present
pub record IsClean (size : ℕ) (present : Bool) (seen : List Event) : Type 0 where
  pub all : AllAnswered seen
  pub checked : AreChecked size (invocations seen)
  pub none : present ≡ true → has_gone (answers_given seen) ≡ false

pub clean_first : (size : ℕ) (present : Bool) (seen : List Event) → seen ≡ [] → IsClean size present seen
clean_first size present seen e = subst (IsClean size present) (sym e) (record { all = refl; checked = tt; none = λ h. refl })

clean_next : (size : ℕ) (was is : Bool) (old new : DeskView) (o : Op) (more : List Event) → Grows old new o more → StaysBy is was (answers_gained old new)
    → (static_check class.Block size o ≡ None) ⊎ (answers_gained old new ≡ []) → IsClean size was old.seen → IsClean size is new.seen
clean_next size was is old new o more g stays check c = subst (IsClean size is) g.seen (record {
  all = answered_parts old.seen more c.all g.all;
  checked = checked_parts size old.seen more c.checked (own_checked size o more (answers_given more) g.asked (by_check check));
  none = λ h.
      let given : answers_given (old.seen ++ more) ≡ answers_given old.seen ++ answers_gained old new =
      given_parts old.seen more c.all ∙ ap (λ (l : List Answer). answers_given old.seen ++ l) g.given in
      ap has_gone given ∙ (stays_on true was is (answers_given old.seen) (answers_gained old new) (λ w. (refl, c.none w)) stays h).1;
})
  where
    by_check : (static_check class.Block size o ≡ None) ⊎ (answers_gained old new ≡ []) → (static_check class.Block size o ≡ None) ⊎ (answers_given more ≡ [])
    by_check (inl k) = inl k
    by_check (inr k) = inr (g.given ∙ k)

-- the driver kept the contract in these events
abbrev pub Unbroken : PartSpec → List Event → Type 0
Unbroken s seen = first_break s.class s.blocks seen ≡ None

pub before_unbroken : (s : PartSpec) (seen journal : List Event) → IsPrefix seen journal → Unbroken s journal → Unbroken s seen
unfolding first_break
before_unbroken s seen journal p h =
    unbroken_before 1 (known_first s.class s.blocks) seen p.0 (ap (λ (l : List Event). first_break s.class s.blocks l) p.1 ∙ h)

pub prefix_through : (xs ys zs : List Event) → IsPrefix xs ys → IsPrefix ys zs → IsPrefix xs zs
prefix_through xs ys zs p q = (p.0 ++ q.0, sym (append_assoc xs p.0 q.0) ∙ ap (λ (l : List Event). l ++ q.0) p.1 ∙ q.1)

side_runs : (s : PartSpec) (size : ℕ) (stopped present : Bool) (v : DeskView) → IsSide s size stopped v → IsClean size present v.seen → Unbroken s v.seen
    → present ≡ true → IsClassRun class.Block size (trace v.seen)
side_runs s size stopped present v side clean h here =
    subst (λ (c : Class). IsClassRun c size (trace v.seen)) side.class
    (subst (λ (n : ℕ). IsClassRun s.class n (trace v.seen)) side.size
    (one_run s v.seen side.class side.run h (subst (λ (n : ℕ). AreChecked n (invocations v.seen)) (sym side.size) clean.checked) (clean.none here)))

-- ---- both sides

record AreClean {D : Type 0} (m : MirrorView D) : Type 0 where
  left : IsClean m.blocks m.present.left m.left.seen
  right : IsClean m.blocks m.present.right m.right.seen

clean_after : {D : Type 0} (old new : MirrorView D) (x : Exchange) → IsMirrorAnswer old new x.op x.answer → Grows old.left new.left x.op x.left
    → Grows old.right new.right x.op x.right → AreClean old → AreClean new
clean_after old new x h gl gr c = record {
  left = subst (λ (n : ℕ). IsClean n new.present.left new.left.seen) (sym h.same.blocks)
      (clean_next old.blocks old.present.left new.present.left old.left new.left x.op x.left gl stays.0 (left_checks checks) c.left);
  right = subst (λ (n : ℕ). IsClean n new.present.right new.right.seen) (sym h.same.blocks)
      (clean_next old.blocks old.present.right new.present.right old.right new.right x.op x.right gr stays.1 (right_checks checks) c.right);
}
  where
    stays : StaysBy new.present.left old.present.left (answers_gained old.left new.left) × StaysBy new.present.right old.present.right (answers_gained old.right new.right)
    stays = step_stays old.blocks old.present x.op (answers_gained old.left new.left) (answers_gained old.right new.right) (record { present = new.present; answer = x.answer }) h.step

    checks : (static_check class.Block old.blocks x.op ≡ None) ⊎ ((answers_gained old.left new.left ≡ []) × (answers_gained old.right new.right ≡ []))
    checks = step_checks old.blocks old.present x.op (answers_gained old.left new.left) (answers_gained old.right new.right) (record { present = new.present; answer = x.answer }) h.step

    left_checks : (static_check class.Block old.blocks x.op ≡ None) ⊎ ((answers_gained old.left new.left ≡ []) × (answers_gained old.right new.right ≡ []))
        → (static_check class.Block old.blocks x.op ≡ None) ⊎ (answers_gained old.left new.left ≡ [])
    left_checks (inl k) = inl k
    left_checks (inr k) = inr k.0

    right_checks : (static_check class.Block old.blocks x.op ≡ None) ⊎ ((answers_gained old.left new.left ≡ []) × (answers_gained old.right new.right ≡ []))
        → (static_check class.Block old.blocks x.op ≡ None) ⊎ (answers_gained old.right new.right ≡ [])
    right_checks (inl k) = inl k
    right_checks (inr k) = inr k.1

not_lost : (a : MirrorAnswer) (answers : List MirrorAnswer) → list_any is_lost (a ∷ answers) ≡ false → a ≡ mirror.BothLost → ⊥
not_lost a answers h e = true≢false (sym (or_left (is_lost a) (list_any is_lost answers) (ap is_lost e)) ∙ h)

rest_kept : (b : Bool) (c : Bool) → (b || c) ≡ false → c ≡ false
rest_kept true c h = absurd cc
rest_kept false c h = h

abbrev served : List Exchange → List (Op × MirrorAnswer)
served xs = map (λ x. (x.op, x.answer)) xs

module _ {D : Type 0} (spec : D → PartSpec) where
  -- what a mirror in between has seen is a prefix of what its sides have seen at the end
  record Begins (l r : List Event) (m : MirrorView D) : Type 0 where
    left : IsPrefix m.left.seen l
    right : IsPrefix m.right.seen r
    left_kept : Unbroken (spec m.left_desk) l
    right_kept : Unbroken (spec m.right_desk) r

  runs_so : (l r : List Event) (m : MirrorView D) → IsMirror spec m → AreClean m → Begins l r m → AreClassRuns m
  runs_so l r m is clean b = record {
    left = side_runs (spec m.left_desk) m.blocks m.stopped m.present.left m.left is.left clean.left (before_unbroken (spec m.left_desk) m.left.seen l b.left b.left_kept);
    right = side_runs (spec m.right_desk) m.blocks m.stopped m.present.right m.right is.right clean.right (before_unbroken (spec m.right_desk) m.right.seen r b.right b.right_kept);
  }

  begins_before : (l r : List Event) (old : MirrorView D) (xs : List Exchange) (new : MirrorView D) → Exchanged spec old xs new → Begins l r new → Begins l r old
  begins_before l r old xs new h b =
      let same = same_sides spec old xs new h in
      record {
        left = prefix_through old.left.seen new.left.seen l (left_events xs, left_seen spec old xs new h) b.left;
        right = prefix_through old.right.seen new.right.seen r (right_events xs, right_seen spec old xs new h) b.right;
        left_kept = subst (λ (d : D). Unbroken (spec d) l) same.left_desk b.left_kept;
        right_kept = subst (λ (d : D). Unbroken (spec d) r) same.right_desk b.right_kept;
      }

  are_served : (l r : List Event) (old : MirrorView D) (xs : List Exchange) (new : MirrorView D) → Exchanged spec old xs new → AreClean old → Begins l r new
      → list_any is_lost (answers_of xs) ≡ false → AreServed spec old (served xs) new
  are_served l r old [] new h c b n = h
  are_served l r old (x ∷ xs) new h c b n =
      let clean : AreClean h.0 = clean_after old h.0 x h.1 h.3 h.4 c in (
        h.0,
        h.1,
        h.2,
        runs_so l r h.0 h.2 clean (begins_before l r h.0 xs new h.5 b),
        not_lost x.answer (answers_of xs) n,
        are_served l r h.0 xs new h.5 clean b (rest_kept (is_lost x.answer) (list_any is_lost (answers_of xs)) n),
      )

  clean_following : (old : MirrorView D) (xs : List Exchange) (new : MirrorView D) → Exchanged spec old xs new → AreClean old → AreClean new
  clean_following old [] new h c = subst AreClean (sym h) c
  clean_following old (x ∷ xs) new h c = clean_following h.0 xs new h.5 (clean_after old h.0 x h.1 h.3 h.4 c)

  clean_at_first : (m : MirrorView D) → m.left.seen ≡ [] → m.right.seen ≡ [] → AreClean m
  clean_at_first m fl fr = record {
    left = clean_first m.blocks m.present.left m.left.seen fl;
    right = clean_first m.blocks m.present.right m.right.seen fr;
  }

-- before the first operation both sides show the blank disk
blank : (size : ℕ) (seen : List Event) → seen ≡ [] → ShowsDisk size seen (blank_blocks class.Block size)
unfolding trace trace_from ran
blank size seen e = subst (λ (s : List Event). ShowsDisk size s (blank_blocks class.Block size)) (sym e) (record {
  device = never_failing class.Block size;
  shows = refl;
  disk_is = refl;
})

pub plain_answers : {D : Type 0} (spec : D → PartSpec) (old : MirrorView D) (xs : List Exchange) (new : MirrorView D) → Exchanged spec old xs new
    → old.left.seen ≡ [] → old.right.seen ≡ [] → old.present.left ≡ true → Unbroken (spec new.left_desk) new.left.seen → Unbroken (spec new.right_desk) new.right.seen
    → list_any is_lost (answers_of xs) ≡ false → (disk : List (List ℕ)) × IsDisk new disk × ArePlain old.blocks xs disk
plain_answers spec old xs new h fl fr here kl kr n =
    let ends : Begins spec new.left.seen new.right.seen new = record {
      left = ([], append-nil new.left.seen);
      right = ([], append-nil new.right.seen);
      left_kept = kl;
      right_kept = kr;
    } in
    let disk : IsDisk old (blank_blocks class.Block old.blocks) = record { left = λ e. blank old.blocks old.left.seen fl; right = λ e. blank old.blocks old.right.seen fr } in
    one_disk_serves spec old new (served xs) (blank_blocks class.Block old.blocks) (or_left old.present.left old.present.right here) disk
    (are_served spec new.left.seen new.right.seen old xs new h (clean_at_first spec old fl fr) ends n)

-- ---- the medium at the end

no_writes : (xs : List CallEntry) → OnlyOp (Read 0 1) xs → list_any is_write_call xs ≡ false
no_writes [] h = refl
no_writes (x ∷ xs) h = ap (λ (b : Bool). b || list_any is_write_call xs) (ap is_write h.0) ∙ no_writes xs h.1

-- when the part has no step left, its medium has the disk that the side's seat saw
side_ends : (s : PartSpec) (size : ℕ) (v : DeskView) (journal : List Event) (disk : List (List ℕ)) → IsSide s size false v → IsClean size true v.seen
    → GoesOn v.seen journal → IsRun s journal → Unbroken s journal → ShowsDisk size v.seen disk → end_medium s journal ≡ disk
side_ends s size v journal disk side clean g run kept is =
    let invoked : invocations journal ≡ invocations v.seen =
    ap invocations (sym g.begins) ∙ invoked_parts v.seen g.rest ∙ ap (λ (l : List Invocation). invocations v.seen ++ l) (others_invoke g.rest g.others)
    ∙ append-nil (invocations v.seen) in
    let given : answers_given journal ≡ answers_given v.seen = same_given v.seen journal clean.all g in
    let checked : AreChecked s.blocks (invocations journal) =
    subst (AreChecked s.blocks) (sym invoked) (subst (λ (n : ℕ). AreChecked n (invocations v.seen)) (sym side.size) clean.checked) in
    let one : ShowsOne s journal = shows_one s journal side.class run kept checked (ap has_gone given ∙ clean.none refl) in
    let shows : ShowsDevice size journal one.device =
    subst (λ (c : Class). ran (never_failing c size) (trace journal) ≡ Some one.device) side.class
    (subst (λ (n : ℕ). ran (never_failing s.class n) (trace journal) ≡ Some one.device) side.size one.shows) in
    let seen : ShowsDevice size v.seen one.device =
    nothing_more size v.seen g.rest one.device (side.idle refl) g.others (subst (λ (l : List Event). ShowsDevice size l one.device) (sym g.begins) shows) in
    let same : one.device ≡ is.device = same_device size v.seen one.device is.device seen is.shows in
    let rest = (run_parts (opening s) v.seen g.rest (subst (IsRun s) (sym g.begins) run)).1 in
    let only : OnlyOp (Read 0 1) (state_from (state_of s v.seen) g.rest).log.pending =
    others_only (Read 0 1) refl g.rest (state_of s v.seen) (subst (OnlyOp (Read 0 1)) (sym (side.none_open refl)) tt) g.others rest in
    let end : state_of s journal ≡ state_from (state_of s v.seen) g.rest =
    ap (λ (l : List Event). state_of s l) (sym g.begins) ∙ state_parts (opening s) v.seen g.rest in
    let writes : has_write (state_of s journal) ≡ false = ap has_write end ∙ no_writes (state_from (state_of s v.seen) g.rest).log.pending only in
    one.medium writes ∙ ap (λ (d : Ideal). d.blocks) same ∙ is.disk_is

-- the same for each side of a mirror that is present after exchanges
pub left_ends : {D : Type 0} (spec : D → PartSpec) (old : MirrorView D) (xs : List Exchange) (new : MirrorView D) (journal : List Event) (disk : List (List ℕ))
    → Exchanged spec old xs new → old.left.seen ≡ [] → old.right.seen ≡ [] → IsMirror spec new → new.stopped ≡ false → IsDisk new disk
    → GoesOn new.left.seen journal → IsRun (spec new.left_desk) journal → Unbroken (spec new.left_desk) journal → new.present.left ≡ true
    → end_medium (spec new.left_desk) journal ≡ disk
left_ends spec old xs new journal disk h fl fr m goes is g run kept here =
    side_ends (spec new.left_desk) new.blocks new.left journal disk (subst (λ (b : Bool). IsSide (spec new.left_desk) new.blocks b new.left) goes m.left)
    (subst (λ (b : Bool). IsClean new.blocks b new.left.seen) here (clean_following spec old xs new h (clean_at_first spec old fl fr)).left) g run kept (is.left here)

pub right_ends : {D : Type 0} (spec : D → PartSpec) (old : MirrorView D) (xs : List Exchange) (new : MirrorView D) (journal : List Event) (disk : List (List ℕ))
    → Exchanged spec old xs new → old.left.seen ≡ [] → old.right.seen ≡ [] → IsMirror spec new → new.stopped ≡ false → IsDisk new disk
    → GoesOn new.right.seen journal → IsRun (spec new.right_desk) journal → Unbroken (spec new.right_desk) journal → new.present.right ≡ true
    → end_medium (spec new.right_desk) journal ≡ disk
right_ends spec old xs new journal disk h fl fr m goes is g run kept here =
    side_ends (spec new.right_desk) new.blocks new.right journal disk (subst (λ (b : Bool). IsSide (spec new.right_desk) new.blocks b new.right) goes m.right)
    (subst (λ (b : Bool). IsClean new.blocks b new.right.seen) here (clean_following spec old xs new h (clean_at_first spec old fl fr)).right) g run kept (is.right here)
