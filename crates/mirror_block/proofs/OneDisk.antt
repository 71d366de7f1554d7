-- Over a list of operations the answers of a mirror are those of one plain disk.
use Rattle.std.proofs.Common.{◌≡◌, ℕ, ◌||◌, true, List, [], ◌∷◌, subst, sym, refl}
use Rattle.nook_data.specs.declared.mirror.MirrorAnswer.{MirrorAnswer}
use Rattle.nook_data.specs.declared.calls.Op.{Op}
use Rattle.nook_data.specs.declared.scenario.PartSpec.{PartSpec}
use Rattle.mirror_block.specs.Disk.{Serves, ServesAll}
use Rattle.mirror_block.specs.Mirrors.{AreServed, IsDisk, MirrorView}
use Rattle.mirror_block.specs.Sides.{answers_gained}
use Rattle.mirror_block.proofs.Outcomes.{mirror_keeps}

pub one_disk_serves : {D : Type 0} (spec : D → PartSpec) (old new : MirrorView D) (served : List (Op × MirrorAnswer)) (disk : List (List ℕ))
    → (old.present.left || old.present.right) ≡ true → IsDisk old disk → AreServed spec old served new
    → (after : List (List ℕ)) × IsDisk new after × ServesAll old.blocks disk served after
one_disk_serves spec old new [] disk some is h = (disk, subst (λ m. IsDisk m disk) (sym h) is, refl)
one_disk_serves spec old new (s ∷ served) disk some is h =
    let between = h.0 in
    let keeps = mirror_keeps old.blocks old.present s.0 (answers_gained old.left between.left) (answers_gained old.right between.right) _ h.1.step h.4 some in
    let next = h.2.one_disk h.1.goes_on h.3 in
    let first : Serves old.blocks disk s.0 s.1 next.0 = h.1.serves disk next.0 keeps is next.1 in
    let rest = one_disk_serves spec between new served next.0 keeps next.1 h.5 in
    (rest.0, rest.1, (next.0, first, subst (λ (n : ℕ). ServesAll n next.0 served rest.0) h.1.same.blocks rest.2))
