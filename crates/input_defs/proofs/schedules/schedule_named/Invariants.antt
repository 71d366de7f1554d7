use Rattle.std.proofs.Common.{◌≡◌, drop}
use Rattle.nook_data.specs.Names.{of_text}
use Rattle.input_defs.specs.ScheduleNames.{schedule_word}
use Rattle.input_defs.proofs.schedules.schedule_named.Given as goal

abbrev pub invariant-loop-index : goal.invariant-loop-index
invariant-loop-index l = of_text schedule_word l.names l.word ≡ of_text schedule_word (drop l.index l.names) l.word
