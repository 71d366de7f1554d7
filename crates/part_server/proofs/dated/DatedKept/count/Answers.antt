use Rattle.std.proofs.Common.{◌∙◌, sym, ap, length}
use Rattle.part_server.specs.Entries.{DatedRun, entries}
use Rattle.part_server.proofs.Entries.{entries_length}
use Rattle.part_server.proofs.dated.DatedKept.count.Goals as goal

pub returns : goal.returns
returns c =
    c.count.ensures
    ∙ (sym (entries_length c.self.inside.held.journal c.self.inside.stamps c.self.invariant.count)
    ∙ ap (λ (d : DatedRun). length (entries d.run.journal d.stamps)) c.self.view_is)
