use Rattle.std.specs.Prelude.{ℕ, ◌-◌, List, [], ◌∷◌, length, codes, Option, Result, Ok}
use Rattle.serde_json.specs.Data.{Data}
use Rattle.nook_data.specs.declared.limits.TheConstants.{MOST_OPS, MOST_PARTS, MOST_THREADS}
use Rattle.input_defs.specs.PartReading.{name_of, part_of}
use Rattle.input_defs.specs.Reading.{word_at, named_of, is_object}
use Rattle.input_defs.specs.ScheduleNames.{schedule_named}
use Rattle.input_defs.specs.Reading.{object_with, required, optional, number_at, list_of, numbers_of, json_of}
use Rattle.asm_defs.specs.Results.{◌>>=◌}
use Rattle.asm_defs.specs.Types.{Key}
use Rattle.nook_data.specs.Types.{Op, Scenario, ScheduleSpec}
use Rattle.nook_data.specs.OpNames.{op_named}
use Rattle.nook_data.specs.Types.{OpName}
use Rattle.input_defs.specs.Types.{Refusal, ScheduleName}
use Rattle.nook_data.specs.Types.{ThreadSpec}
use Rattle.nook_data.specs.declared.calls.Op.TheVariants as op
use Rattle.asm_defs.specs.declared.keys.Key.TheVariants as key
use Rattle.nook_data.specs.declared.calls.OpName.TheVariants as asks
use Rattle.input_defs.specs.declared.schedules.ScheduleName.TheVariants as named
use Rattle.nook_data.specs.declared.scenario.ScheduleSpec.TheVariants as schedule
use Rattle.nook_data.specs.Valid.{thread_names}

-- ---- schedules

-- the keys of a kind of schedule
abbrev pub schedule_keys : ScheduleName → List Key
schedule_keys named.RoundRobin = key.Kind ∷ []
schedule_keys named.Drawn = key.Kind ∷ key.Start ∷ []
schedule_keys named.Listed = key.Kind ∷ key.Picks ∷ []

-- a schedule of a kind, by the keys of that kind: a start of 64 bits, or up to 65,536 picks
unfoldable pub schedule_by : ScheduleName → Data → Result ScheduleSpec Refusal
schedule_by named.RoundRobin d = Ok schedule.RoundRobin
schedule_by named.Drawn d = number_at key.Start 0 18446744073709551615 d >>= λ start. Ok (schedule.Drawn start)
schedule_by named.Listed d = required key.Picks (numbers_of 0 65536 65535) d >>= λ picks. Ok (schedule.Listed picks)

-- a schedule
unfoldable pub schedule_of : Data → Result ScheduleSpec Refusal
schedule_of d = do
  members ← is_object d
  name ← required key.Kind (named_of schedule_named) d
  known ← object_with (schedule_keys name) d
  schedule_by name d

-- ---- operations

-- the keys that only some operations have
abbrev pub op_keys : OpName → List Key
op_keys asks.Read = key.First ∷ key.Count ∷ []
op_keys asks.Write = key.First ∷ key.Data ∷ []
op_keys asks.Send = key.Frame ∷ []
op_keys asks.Recv = []
op_keys asks.Open = []
op_keys asks.Play = key.Samples ∷ []
op_keys asks.Close = []
op_keys asks.Get = key.Key ∷ []
op_keys asks.Set = key.Key ∷ key.Value ∷ []

-- up to 256 words
abbrev pub op_words_of : Data → Result (List ℕ) Refusal
op_words_of d = numbers_of 0 256 4294967295 d

-- what an operation asks for, by its keys
unfoldable pub op_by : OpName → Data → Result Op Refusal
op_by asks.Read d = do
  first ← word_at key.First d
  count ← word_at key.Count d
  Ok (op.Read first count)
op_by asks.Write d = do
  first ← word_at key.First d
  words ← required key.Data op_words_of d
  Ok (op.Write first words)
op_by asks.Send d = required key.Frame op_words_of d >>= λ frame. Ok (op.Send frame)
op_by asks.Recv d = Ok op.Recv
op_by asks.Open d = Ok op.Open
op_by asks.Play d = required key.Samples op_words_of d >>= λ samples. Ok (op.Play samples)
op_by asks.Close d = Ok op.Close
op_by asks.Get d = word_at key.Key d >>= λ register. Ok (op.Get register)
op_by asks.Set d = do
  register ← word_at key.Key d
  value ← word_at key.Value d
  Ok (op.Set register value)

-- an operation on one of this many parts, at least one
unfoldable pub op_of : ℕ → Data → Result (ℕ × Op) Refusal
op_of parts d = do
  members ← is_object d
  name ← required key.Op (named_of op_named) d
  known ← object_with (key.Part ∷ key.Op ∷ op_keys name) d
  part ← number_at key.Part 0 (parts - 1) d
  says ← op_by name d
  Ok (part, says)

-- ---- threads

-- a thread of a scenario with this many parts, after the earlier threads; it has up to 256 operations
unfoldable pub thread_of : ℕ → List ThreadSpec → Data → Result ThreadSpec Refusal
thread_of parts earlier d = do
  known ← object_with (key.Name ∷ key.Ops ∷ []) d
  name ← required key.Name (name_of (thread_names earlier)) d
  ops ← required key.Ops (list_of (λ earlier. op_of parts) 0 MOST_OPS) d
  Ok (record { name = name; ops = ops })

-- ---- scenarios

-- a scenario of version 1 or 2, of 1 to 8 parts and up to 16 threads
unfoldable pub scenario_of : Data → Result Scenario Refusal
scenario_of d = do
  known ← object_with (key.Version ∷ key.Schedule ∷ key.Parts ∷ key.Threads ∷ []) d
  version ← number_at key.Version 1 2 d
  schedule ← optional key.Schedule schedule_of schedule.RoundRobin d
  parts ← required key.Parts (list_of (part_of version) 1 MOST_PARTS) d
  threads ← required key.Threads (list_of (thread_of (length parts)) 0 MOST_THREADS) d
  Ok (record { schedule = schedule; parts = parts; threads = threads })

-- the scenario of some bytes, or their first input error
unfoldable pub scenario_from : List ℕ → Result Scenario Refusal
scenario_from bytes = json_of bytes >>= scenario_of
