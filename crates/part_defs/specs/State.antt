use Rattle.std.specs.Prelude.{ℕ, List, Option}
use Rattle.nook_data.specs.Types.{CallEntry, Context, DeviceState, Entry, Mode, PartSpec}

-- a driver's domain: the start addresses of its entries, the 8,192 words of memory, what it holds in Collect's order,
-- the device, and the 17 contexts, each free or Inside
pub record DomainState : Type 0 where
  pub starts : List ℕ
  pub memory : List ℕ
  pub entries : List Entry
  pub device : DeviceState
  pub contexts : List (Option Context)

-- what the shadow records: the open calls in the order of their numbers, how many numbers were given, the last
-- acknowledged configuration, the class's defaults, and the thread that holds the stream
pub record CallLog : Type 0 where
  pub pending : List CallEntry
  pub count : ℕ
  pub config : List ℕ
  pub defaults : List ℕ
  pub holder : Option ℕ

-- a part as plain data, without its journal; `arrived` counts its arrivals, `bursts` its bursts
pub record PartState : Type 0 where
  pub spec : PartSpec
  pub domain : DomainState
  pub log : CallLog
  pub queue : List (List ℕ)
  pub mode : Mode
  pub failures : ℕ
  pub bursts : ℕ
  pub arrived : ℕ
