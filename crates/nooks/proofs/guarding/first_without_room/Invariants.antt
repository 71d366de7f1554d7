use Rattle.std.proofs.Common.{◌≡◌, drop}
use Rattle.nooks.specs.Guardable.{first_without_room}
use Rattle.nooks.proofs.guarding.first_without_room.Given as goal

abbrev pub invariant-loop-part : goal.invariant-loop-part
invariant-loop-part l = record {
  counted : l.index ≡ l.part-index;
  rest : first_without_room l.index (drop l.part-index l.parts) ≡ first_without_room 0 l.parts;
}
