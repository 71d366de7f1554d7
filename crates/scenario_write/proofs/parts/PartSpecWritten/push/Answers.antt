use Rattle.scenario_write.proofs.Texts.{part_text}
use Rattle.scenario_write.specs.ScenarioText.{part_members}
use Rattle.scenario_write.proofs.parts.PartSpecWritten.push.Goals as goal

pub returns : goal.returns
returns c = part_text c.args.self.now _ _ _ _ _ _
    c.in_ok-push_key.ensures c.in_ok-push_name.ensures (rw c.class_text.ensures at c.in_ok-push_word_at.ensures)
    (c.in_ok-push_disk.ensures (part_members c.args.self.now)) c.in_ok-push_members.ensures
