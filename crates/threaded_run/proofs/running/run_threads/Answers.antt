use Rattle.std.proofs.Common.{◌≤◌, length, map, rules, subst, sym}
use Rattle.request_taps.specs.Bus.{seen}
use Rattle.run_ends.proofs.Heard.{on_err}
use Rattle.threaded_run.proofs.Answered.{few_journals, threaded_answered}
use Rattle.threaded_run.proofs.Heard.{heard_all, heard_nothing}
use Rattle.threaded_run.proofs.running.run_threads.Goals as goal

pub publish_all-requires : goal.publish_all-requires
publish_all-requires g c =
    subst (λ journals. length journals ≤ 8) (sym c.as_slice.ensures) (few_journals c.args.scenario.now c.in_ok-left.left c.requires c.in_ok-left.ensures)

pub returns-clause-answered : goal.returns-clause-answered
returns-clause-answered g c = threaded_answered c.args.scenario.now _ _ c.in_ok-left.ensures.threaded

pub returns-in_err-left-clause-refused : goal.returns-in_err-left-clause-refused
returns-in_err-left-clause-refused g c =
    on_err c.from_residual.result (heard_nothing c.args.scenario.now (map (seen g.L.Listener.listening) c.args.taps.now))

pub returns-in_err-totals-clause-refused : goal.returns-in_err-totals-clause-refused
returns-in_err-totals-clause-refused g c =
    on_err c.from_residual-in_err-totals.result
    (heard_all c.args.scenario.now c.in_ok-left.left.journals c.in_ok-left.left.answers
    (map (seen g.L.Listener.listening) c.args.taps.now) (map (seen g.L.Listener.listening) c.publish_all.new.taps)
    c.in_ok-left.ensures.runs c.in_ok-left.ensures.threaded (search rules))
