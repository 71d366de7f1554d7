use Rattle.std.specs.Prelude.{All}
use Rattle.fault_campaign.specs.Members.{IsBaseButStruck}
use Rattle.fault_campaign.specs.NumberedRows.{IsRowOfNumber}
use Rattle.fault_campaign.proofs.running.work.Given as goal

abbrev pub invariant-loop : goal.invariant-loop
invariant-loop l = All (IsRowOfNumber l.plan l.seen.shown.now l.members) l.rows × IsBaseButStruck l.plan l.scenario
