use Rattle.std.proofs.Common.{map}
use Rattle.request_taps.specs.Bus.{seen}
use Rattle.nooks.proofs.Reports.{made_of}
use Rattle.nooks.proofs.simulated.judge_run.Goals as goal

pub returns : goal.returns
returns g c hearing begun = made_of c.args.scenario.now hearing c.in_ok-whole.whole c.report_of.result
    (map (seen g.L.Listener.listening) c.args.taps.now) (map (seen g.L.Listener.listening) c.simulate.new.taps) begun c.requires
    c.in_ok-whole.ensures.simulated c.in_ok-whole.ensures.runs c.report_of.ensures.run (c.report_of.ensures.whole c.in_ok-whole.ensures.ends)
