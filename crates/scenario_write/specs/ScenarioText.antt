use Rattle.std.specs.Prelude.{ℕ, ◌==◌, ◌||◌, not, List, [], ◌∷◌, ◌++◌, length, Bool, false, if◌then◌else◌}
use Rattle.serde_json.specs.Data.{Data, string, number, array, object, unsigned, Items, no_items, item, Members}
use Rattle.serde_json.specs.Data.{no_members, member}
use Rattle.serde_json.specs.Written.{compact_text}
use Rattle.asm_defs.specs.ImageText.{image_data}
use Rattle.nook_data.specs.ClassNames.{class_text}
use Rattle.nook_data.specs.FaultNames.{fault_name, fault_word}
use Rattle.nook_data.specs.OpNames.{op_name, op_word}
use Rattle.input_defs.specs.ScheduleNames.{schedule_name, schedule_word}
use Rattle.asm_defs.specs.Keys.{key_text}
use Rattle.nook_data.specs.declared.scenario.BadBlock.{BadBlock}
use Rattle.nook_data.specs.declared.classes.Class.{Class}
use Rattle.nook_data.specs.declared.classes.Class.TheVariants as class
use Rattle.nook_data.specs.declared.scenario.Fault.{Fault}
use Rattle.nook_data.specs.declared.scenario.FaultKind.{FaultKind}
use Rattle.nook_data.specs.declared.scenario.FaultKind.TheVariants as strikes
use Rattle.nook_data.specs.declared.scenario.Image.{Image}
use Rattle.nook_data.specs.declared.calls.Op.{Op}
use Rattle.nook_data.specs.declared.calls.Op.TheVariants as op
use Rattle.nook_data.specs.declared.scenario.PartSpec.{PartSpec}
use Rattle.nook_data.specs.declared.scenario.Scenario.{Scenario}
use Rattle.nook_data.specs.declared.scenario.ScheduleSpec.{ScheduleSpec}
use Rattle.nook_data.specs.declared.scenario.ScheduleSpec.TheVariants as schedule
use Rattle.nook_data.specs.declared.scenario.ThreadSpec.{ThreadSpec}
use Rattle.asm_defs.specs.declared.keys.Key.{Key}
use Rattle.asm_defs.specs.declared.keys.Key.TheVariants as key

-- A scenario as a JSON value, with its members in the order in which they are written, and its text.

-- ---- values

-- a number
abbrev pub number_data : ℕ → Data
number_data n = number (unsigned n)

-- a value at a key, followed by other members
abbrev pub at : Key → Data → Members → Members
at key d more = member (key_text key) d more

-- the values of a list
abbrev pub items_with : {T : Type 0} → (T → Data) → List T → Items
items_with data_of [] = no_items
items_with data_of (first ∷ more) = item (data_of first) (items_with data_of more)

-- a list as an array
abbrev pub list_data : {T : Type 0} → (T → Data) → List T → Data
list_data data_of list = array (items_with data_of list)

-- numbers as an array
abbrev pub numbers_data : List ℕ → Data
numbers_data numbers = list_data number_data numbers

-- ---- schedules

-- what only schedules of a kind have
abbrev pub schedule_details : ScheduleSpec → Members
schedule_details schedule.RoundRobin = no_members
schedule_details (schedule.Drawn start) = at key.Start (number_data start) no_members
schedule_details (schedule.Listed picks) = at key.Picks (numbers_data picks) no_members

-- the kind of a schedule, and what only schedules of that kind have
abbrev pub schedule_members : ScheduleSpec → Members
schedule_members spec = at key.Kind (string (schedule_word (schedule_name spec))) (schedule_details spec)

-- a schedule
unfoldable pub schedule_data : ScheduleSpec → Data
schedule_data spec = object (schedule_members spec)

-- ---- faults and bad blocks

-- what only faults of a kind have
abbrev pub kind_details : FaultKind → Members
kind_details strikes.Trap = no_members
kind_details strikes.Hang = no_members
kind_details (strikes.Poke address value) =
    at key.Address (number_data address) (at key.Value (number_data value) no_members)
kind_details (strikes.Code address value) =
    at key.Address (number_data address) (at key.Value (number_data value) no_members)
kind_details (strikes.Reg register value) =
    at key.Register (number_data register) (at key.Value (number_data value) no_members)

-- what a fault does, and the keys of its kind
abbrev pub kind_members : FaultKind → Members
kind_members kind = at key.Kind (string (fault_word (fault_name kind))) (kind_details kind)

-- a fault
unfoldable pub fault_data : Fault → Data
fault_data fault = object (at key.Burst (number_data fault.burst)
    (at key.After (number_data fault.after) (kind_members fault.kind)))

-- a bad block
unfoldable pub bad_block_data : BadBlock → Data
bad_block_data bad = object (at key.Block (number_data bad.block) (at key.After (number_data bad.after) no_members))

-- ---- parts

-- the bad blocks, if there are any
abbrev pub bad_members : List BadBlock → Members → Members
bad_members [] more = more
bad_members (first ∷ others) more = at key.Bad (list_data bad_block_data (first ∷ others)) more

-- what only disks have
abbrev pub disk_members : Class → PartSpec → Members → Members
disk_members class.Block part more = at key.Blocks (number_data part.blocks) (bad_members part.bad more)
disk_members class.Net part more = more
disk_members class.Sound part more = more

-- what only net parts have
abbrev pub arrival_members : Class → PartSpec → Members
arrival_members class.Block part = no_members
arrival_members class.Net part = at key.Arrivals (list_data numbers_data part.arrivals) no_members
arrival_members class.Sound part = no_members

-- a driver, given as its image
abbrev pub driver_data : Image → Data
driver_data image = object (at key.Image (image_data image) no_members)

-- the members that follow a disk's own
abbrev pub part_members : PartSpec → Members
part_members part =
    at key.Limit (number_data part.limit)
    (at key.Driver (driver_data part.image)
    (at key.Faults (list_data fault_data part.faults)
    (arrival_members part.class part)))

-- a part
unfoldable pub part_data : PartSpec → Data
part_data part = object
    (at key.Name (string part.name)
    (at key.Class (string (class_text part.class))
    (disk_members part.class part
    (part_members part))))

-- ---- threads

-- what only some operations have
abbrev pub op_details : Op → Members
op_details (op.Read first count) = at key.First (number_data first) (at key.Count (number_data count) no_members)
op_details (op.Write first words) = at key.First (number_data first) (at key.Data (numbers_data words) no_members)
op_details (op.Send frame) = at key.Frame (numbers_data frame) no_members
op_details op.Recv = no_members
op_details op.Open = no_members
op_details (op.Play samples) = at key.Samples (numbers_data samples) no_members
op_details op.Close = no_members
op_details (op.Get register) = at key.Key (number_data register) no_members
op_details (op.Set register value) = at key.Key (number_data register) (at key.Value (number_data value) no_members)

-- an operation, and the keys of its kind
abbrev pub op_members : Op → Members
op_members o = at key.Op (string (op_word (op_name o))) (op_details o)

-- an operation on a part
unfoldable pub step_data : ℕ × Op → Data
step_data step = object (at key.Part (number_data step.0) (op_members step.1))

-- a thread
unfoldable pub thread_data : ThreadSpec → Data
thread_data thread = object (at key.Name (string thread.name) (at key.Ops (list_data step_data thread.ops) no_members))

-- ---- scenarios

-- one of the parts has a bad block
abbrev pub has_bad : List PartSpec → Bool
has_bad [] = false
has_bad (part ∷ more) = not (length part.bad == 0) || has_bad more

-- the version of the format; version 2 introduced bad blocks
abbrev pub version_of : List PartSpec → ℕ
version_of parts = if has_bad parts then 2 else 1

-- a scenario
unfoldable pub scenario_data : Scenario → Data
scenario_data scenario = object
    (at key.Version (number_data (version_of scenario.parts))
    (at key.Schedule (schedule_data scenario.schedule)
    (at key.Parts (list_data part_data scenario.parts)
    (at key.Threads (list_data thread_data scenario.threads) no_members))))

-- the text of a scenario on one line, without a line feed
unfoldable pub scenario_json : Scenario → List ℕ
scenario_json scenario = compact_text (scenario_data scenario)

-- the same with a line feed
abbrev pub scenario_line : Scenario → List ℕ
scenario_line scenario = scenario_json scenario ++ 10 ∷ []
