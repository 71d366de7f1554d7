use Rattle.std.proofs.Common.{◌≡◌, take, map}
use Rattle.std.specs.List.{fold}
use Rattle.promise_defs.specs.Contract.{acts}
use Rattle.contract_monitor.specs.Judging.{first_broken}
use Rattle.contract_monitor.specs.Keeping.{kept_act}
use Rattle.contract_monitor.proofs.known.Known.see_acts.Given as goal

abbrev pub invariant-loop-act : goal.invariant-loop-act
invariant-loop-act l = record {
  kept : l.self ≡ fold (kept_act l.call) l.initial.self (take l.act-index l.acts);
  broken : l.broken ≡ first_broken l.call l.initial.self.known (map acts (take l.act-index l.acts));
}
