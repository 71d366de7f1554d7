use Rattle.std.specs.Prelude.{ℕ, ◌≡◌, ◌<◌, List, length, slice_get}
use Rattle.std.specs.List.{position_or_len}
use Rattle.nook_data.specs.declared.calls.CallEntry.{CallEntry}
use Rattle.part_defs.specs.Log.{is_call, open_call}

-- the open call with a number is at an index of the list
pub record IsPosition (call index : ℕ) (pending : List CallEntry) : Type 0 where
  pub first : index ≡ position_or_len (is_call call) pending
  pub within : index < length pending
  pub there : open_call call pending ≡ slice_get pending index
