use Rattle.std.proofs.Common.{◌≡◌, None, map, take}
use Rattle.std.specs.List.{fold}
use Rattle.contract_monitor.specs.Keeping.{kept_act}
use Rattle.contract_monitor.specs.Wrong.{wrong_among}
use Rattle.promise_defs.specs.Contract.{acts}
use Rattle.contract_monitor.proofs.known.Known.wrong_act.Given as goal

abbrev pub invariant-loop-act : goal.invariant-loop-act
invariant-loop-act l = record {
  counted : l.index ≡ l.act-index;
  kept : l.self ≡ fold (kept_act l.call) l.initial.self (take l.act-index l.acts);
  quiet : wrong_among l.call l.initial.self.known (map acts (take l.act-index l.acts)) ≡ None;
}
