use Rattle.scenario_write.proofs.Texts.{members_of_part}
use Rattle.scenario_write.proofs.parts.push_members.Goals as goal

pub returns : goal.returns
returns c = members_of_part c.args.part.now _ _ _ _ _ _ _ _ _
    c.from.ensures c.as_slice.ensures
    c.in_ok-push_number_at.ensures c.in_ok-push_key.ensures c.in_ok-push_driver.ensures c.in_ok-push_key-2.ensures c.in_ok-push_list.ensures c.in_ok-push_arrivals.ensures
