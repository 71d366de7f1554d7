use Rattle.std.proofs.Common.{◌<◌, ◌^◌}
use Rattle.part_defs.specs.Runs.{PartRun}
use Rattle.part_core.proofs.Kept.{sound}
use Rattle.part_core.proofs.part.Part.bursts.Goals as goal

pub returns-clause-few : goal.returns-clause-few
returns-clause-few c =
    let run : PartRun = record { state = c.self.inside.state.value; journal = c.self.inside.journal.list } in
    let few : c.self.inside.state.value.bursts < 2 ^ 23 = (sound run c.self.invariant.0).bursts in
    rw (← c.deref.ensures, ← c.behind-self.view_is) at few
