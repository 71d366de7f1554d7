use Rattle.std.specs.Prelude.{ℕ, ◌+◌, ◌<◌, ◌≤◌, nat_lt, if◌then◌else◌, Bool, false, Option, Some, None, is_some, List}
use Rattle.std.specs.Prelude.{[], ◌∷◌, find, map}
use Rattle.nook_data.specs.Types.{CallEntry, Class, Event}
use Rattle.part_defs.specs.Log.{after_acknowledging, blocks_call, held_call, is_call, open_call}
use Rattle.nook_data.specs.Answers.{answer_at}
use Rattle.part_defs.specs.State.{CallLog}

-- How contracts of the log, of the queue and of answers describe calls and frames.

-- the call becomes Held; its number and its attempts stay
unfoldable pub after_holding : ℕ → CallLog → CallLog
after_holding call log = record log { pending = map (λ c. if is_call call c then held_call c else c) log.pending }

-- the reply to an open call was accepted with status 0; nothing changes if no such call is open
unfoldable pub acknowledged_call : ℕ → CallLog → CallLog
acknowledged_call call log =
    elim (open_call call log.pending) as (λ o. CallLog) [ None ↦ log | Some c ↦ after_acknowledging c.thread c.op log ]

-- the call has been Inside
abbrev pub is_touched : Option CallEntry → Bool
is_touched None = false
is_touched (Some c) = nat_lt 0 c.attempts

-- the numbers of the open calls rise: all are above the first number, and none exceeds the second
abbrev pub IsNumbered : ℕ → ℕ → List CallEntry → Type 0
IsNumbered low count [] = low ≤ count
IsNumbered low count (c ∷ pending) = (low < c.call) × IsNumbered c.call count pending

-- the first open call with a smaller number that conflicts with the call
abbrev pub blocked_by : Class → CallEntry → List CallEntry → Option CallEntry
blocked_by class c pending = find (blocks_call class c) pending

-- the number of the first event that answers a call, if counting starts at a number
abbrev pub answered_from : ℕ → ℕ → List Event → Option ℕ
answered_from number call [] = None
answered_from number call (e ∷ events) =
    if is_some (answer_at call e) then Some number else answered_from (number + 1) call events

-- the number of the event that answers a call
abbrev pub answered_at : List Event → ℕ → Option ℕ
answered_at journal call = answered_from 1 call journal
