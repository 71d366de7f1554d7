use Rattle.scenario_write.proofs.Texts.{scenario_text}
use Rattle.scenario_write.proofs.scenario.ScenarioWritten.push.Goals as goal

pub returns : goal.returns
returns c = scenario_text c.args.self.now _ _ _ _ _ _ _ _ _ _ _ _ _
    c.version_of.ensures c.as_slice.ensures c.as_slice-2.ensures c.as_slice-3.ensures
    c.in_ok-push_number_at.ensures c.in_ok-push_key.ensures c.in_ok-push.ensures c.in_ok-push_key-2.ensures
    c.in_ok-push_list.ensures c.in_ok-push_key-3.ensures c.in_ok-push_list-2.ensures c.in_ok-push_end.ensures
