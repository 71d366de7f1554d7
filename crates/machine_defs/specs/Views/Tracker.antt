use Rattle.std.specs.Prelude.{ℕ, List}
use Rattle.nook_data.specs.Types.{Entry}

-- a tracker: where the heap begins, and what the driver holds, in Collect's order
pub record Tracker : Type 0 where
  pub heap_start : ℕ
  pub entries : List Entry
