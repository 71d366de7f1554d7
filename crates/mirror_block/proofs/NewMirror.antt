-- What holds for a mirror that was not asked anything yet.
use Rattle.std.proofs.Common.{◌≡◌, ℕ, false, List, [], subst, sym, refl, ap, ◌∙◌}
use Rattle.std.specs.List.{list_all}
use Rattle.nook_data.specs.declared.classes.Class.TheVariants.{Block}
use Rattle.nook_data.specs.declared.steps.Event.{Event}
use Rattle.nook_data.specs.declared.scenario.PartSpec.{PartSpec}
use Rattle.promise_defs.specs.Ideal.{Ideal, never_failing, ran}
use Rattle.part_defs.specs.Log.{opening_log}
use Rattle.part_defs.specs.Runs.{IsRun, IsRunFrom, state_from, state_of}
use Rattle.part_defs.specs.Steps.{opening}
use Rattle.promise_defs.specs.Trace.{trace, trace_from}
use Rattle.desk_like.specs.Desks.{DeskView}
use Rattle.mirror_block.specs.Disk.{IsIdleAfter, ShowsDevice, ShowsDisk, is_over}
use Rattle.mirror_block.specs.Mirrors.{IsMirror, new_mirror}
use Rattle.mirror_block.specs.Sides.{IsNewSide, IsSide}
use Rattle.part_laws.proofs.Indices.{some_same}

empty_run : (spec : PartSpec) → IsRun spec []
unfolding IsRunFrom
empty_run spec = tt

none_open_at_first : (spec : PartSpec) → (state_of spec []).log.pending ≡ []
unfolding state_from opening opening_log
none_open_at_first spec = refl

shows_at_first : (size : ℕ) → ShowsDevice size [] (never_failing Block size)
unfolding ran trace trace_from
shows_at_first size = refl

idle_at_first : (size : ℕ) → IsIdleAfter size []
idle_at_first size device h =
    let same : never_failing Block size ≡ device = some_same (never_failing Block size) device (sym (shows_at_first size) ∙ h) in
    ap (λ (d : Ideal). list_all is_over d.opened) (sym same)

new_side : (spec : PartSpec) (size : ℕ) (v : DeskView) → IsNewSide spec size v → IsSide spec size false v
new_side spec size v n = record {
  class = n.class;
  size = n.size;
  alone = n.alone;
  accounts = n.accounts;
  run = subst (IsRun spec) (sym n.seen) (empty_run spec);
  none_open = λ e. ap (λ (l : List Event). (state_of spec l).log.pending) n.seen ∙ none_open_at_first spec;
  idle = λ e. subst (IsIdleAfter size) (sym n.seen) (idle_at_first size);
}

blank : (size : ℕ) (seen : List Event) → seen ≡ [] → ShowsDisk size seen (never_failing Block size).blocks
blank size seen e = record { device = never_failing Block size; shows = subst (λ (l : List Event). ShowsDevice size l (never_failing Block size)) (sym e) (shows_at_first size); disk_is = refl }

pub new_is_mirror : {D : Type 0} (spec : D → PartSpec) (left_desk right_desk : D) (left right : DeskView) (blocks : ℕ) → IsNewSide (spec left_desk) blocks left
    → IsNewSide (spec right_desk) blocks right → IsMirror spec (new_mirror left_desk right_desk left right blocks)
new_is_mirror spec left_desk right_desk left right blocks l r = record {
  left = new_side (spec left_desk) blocks left l;
  right = new_side (spec right_desk) blocks right r;
  one_disk = λ e runs. (
    (never_failing Block blocks).blocks,
    record { left = λ h. blank blocks left.seen l.seen; right = λ h. blank blocks right.seen r.seen },
  );
}
