use Rattle.std.specs.Prelude.{ℕ, Bool, is_none, List, map, filter}
use Rattle.nook_data.specs.declared.calls.Answer.{Answer}
use Rattle.nook_data.specs.declared.calls.CallEntry.{CallEntry}
use Rattle.part_defs.specs.Log.{held_call}
use Rattle.nook_data.specs.Answers.{answer_among}
use Rattle.part_defs.specs.State.{CallLog}

-- whether a call has no answer among these answers
abbrev pub is_unanswered : List (ℕ × Answer) → CallEntry → Bool
is_unanswered answers c = is_none (answer_among c.call answers)

-- the log after answers to open calls: those that have none stay open, all Held
abbrev pub after_answers : List (ℕ × Answer) → CallLog → CallLog
after_answers answers log = record log { pending = map held_call (filter (is_unanswered answers) log.pending) }
