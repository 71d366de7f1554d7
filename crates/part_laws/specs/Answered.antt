use Rattle.std.specs.Prelude.{ℕ, ◌&&◌, nat_le, not, is_some, Bool}
use Rattle.part_defs.specs.Log.{open_call}
use Rattle.part_defs.specs.State.{CallLog}

-- the number was given to a call, and the call is no longer open
abbrev pub is_answered : CallLog → ℕ → Bool
is_answered log call = (nat_le 1 call && nat_le call log.count) && not (is_some (open_call call log.pending))
