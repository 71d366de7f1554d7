use Rattle.headline_laws.proofs.FirstBreak.{broken_next, kept_before}
use Rattle.headline_laws.proofs.Safe.{transparent_before}
use Rattle.headline_laws.proofs.headline.events_before_the_first_break_keep_the_contract.Goals as goal

pub returns : goal.returns
returns c = record {
  kept = kept_before;
  next = broken_next;
  transparent = transparent_before;
}
