use Rattle.std.specs.Prelude.{◌≡◌, ℕ, zero, suc, Some, None, Option, List, [], ◌∷◌, codes}
use Rattle.nook_data.specs.declared.machine.Act.{Act}
use Rattle.nook_data.specs.declared.calls.Answer.{Answer}
use Rattle.nook_data.specs.declared.scenario.BadBlock.{BadBlock}
use Rattle.nook_data.specs.declared.classes.Class.TheVariants as class
use Rattle.nook_data.specs.declared.steps.End.TheVariants as ends
use Rattle.nook_data.specs.declared.steps.Event.{Event}
use Rattle.nook_data.specs.declared.steps.Event.TheVariants as event
use Rattle.nook_data.specs.declared.steps.FailCause.TheVariants.{Trap}
use Rattle.nook_data.specs.declared.scenario.Fault.{Fault}
use Rattle.nook_data.specs.declared.scenario.FaultKind.TheVariants as fault
use Rattle.nook_data.specs.declared.scenario.Image.{Image}
use Rattle.nook_data.specs.declared.calls.Op.{Op}
use Rattle.nook_data.specs.declared.scenario.PartSpec.{PartSpec}
use Rattle.nook_data.specs.declared.scenario.Scenario.{Scenario}
use Rattle.nook_data.specs.declared.scenario.ScheduleSpec.TheVariants as schedule
use Rattle.nook_data.specs.declared.steps.Stage.{Stage}
use Rattle.nook_data.specs.declared.scenario.ThreadSpec.{ThreadSpec}
use Rattle.nook_data.specs.declared.machine.TrapCause.TheVariants.{Injected}
use Rattle.promise_defs.specs.Contract.{first_break}
use Rattle.promise_defs.specs.Ideal.{IsClassRun}
use Rattle.promise_defs.specs.Licence.{IsLicensed}
use Rattle.run_defs.specs.References.{block_image, net_image, sound_image}
use Rattle.report_defs.specs.ReportText.{report_text, status_of}
use Rattle.run_defs.specs.Simulation.{Simulation, begins, runs, choices_of, journals_of, answer_table}
use Rattle.promise_defs.specs.Trace.{trace}
use Rattle.worked_rows.specs.Drivers.{failing_block_image}

-- Names with which the worked runs of one part are written.

-- this many consecutive numbers, from a first one on
abbrev pub numbers : ℕ → ℕ → List ℕ
numbers first zero = []
numbers first (suc more) = first ∷ numbers (suc first) more

-- ---- what runs

abbrev pub plain_image : Image
plain_image = block_image

abbrev pub failing_image : Image
failing_image = failing_block_image

-- a driver that registers and serves all entries alike: it writes a 1 to its buffer and uses no device
abbrev pub inventing_image : Image
inventing_image = record {
  class = class.Block;
  entries = 0 ∷ 4 ∷ 4 ∷ 4 ∷ 4 ∷ [];
  text = 0x01100000 ∷ 0x16000003 ∷ 0x01100000 ∷ 0x17100000 ∷ 0x01500001 ∷ 0x0d530000 ∷ 0x17000000 ∷ [];
  initial = [];
}

abbrev pub disk_with : Image → ℕ → List BadBlock → ℕ → List Fault → PartSpec
disk_with image blocks bad limit faults = record {
  name = codes "d0";
  class = class.Block;
  blocks = blocks;
  bad = bad;
  limit = limit;
  image = image;
  faults = faults;
  arrivals = [];
}

abbrev pub link_with : ℕ → List Fault → List (List ℕ) → PartSpec
link_with limit faults arrivals = record {
  name = codes "d0";
  class = class.Net;
  blocks = 0;
  bad = [];
  limit = limit;
  image = net_image;
  faults = faults;
  arrivals = arrivals;
}

abbrev pub stream_with : ℕ → List Fault → PartSpec
stream_with limit faults = record {
  name = codes "d0";
  class = class.Sound;
  blocks = 0;
  bad = [];
  limit = limit;
  image = sound_image;
  faults = faults;
  arrivals = [];
}

-- an injected trap
abbrev pub injected : ℕ → ℕ → Fault
injected burst after = record { burst = burst; after = after; kind = fault.Trap }

-- a script of operations on the one part
abbrev pub of_part : List Op → List (ℕ × Op)
of_part [] = []
of_part (o ∷ ops) = (0, o) ∷ of_part ops

abbrev pub thread : List ℕ → List Op → ThreadSpec
thread name ops = record { name = name; ops = of_part ops }

abbrev pub scenario_with : PartSpec → List ThreadSpec → Scenario
scenario_with part threads = record { schedule = schedule.RoundRobin; parts = part ∷ []; threads = threads }

-- ---- events

-- an operation that is held
abbrev pub invoked : ℕ → ℕ → Op → Event
invoked call thread o = event.Invoke call thread o None

-- a call that enters the driver
abbrev pub entered : ℕ → ℕ → ℕ → Event
entered call thread attempt = event.Enter call thread attempt None

-- a stage that answers and releases nothing
abbrev pub done : Stage → Event
done s = event.Stage s [] []

-- init's first burst: the driver registers for the class with this code
abbrev pub registers : ℕ → ℕ → Event
registers code burst = event.Burst 16 0 burst 2 (ends.Service 3 code 0 (Some 0) []) [] None None

-- a burst that ends a call of the shadow
abbrev pub shadow_replies : ℕ → ℕ → List Act → Event
shadow_replies burst count acts = event.Burst 16 0 burst count (ends.Reply 0) acts None None

-- a burst that ends a call
abbrev pub replies : ℕ → ℕ → ℕ → ℕ → ℕ → List Act → Answer → Event
replies context call burst count status acts a =
    event.Burst context call burst count (ends.Reply status) acts (Some a) None

-- a burst that an injected trap ends
abbrev pub stopped : ℕ → ℕ → ℕ → ℕ → List Act → Event
stopped context call burst count acts = event.Burst context call burst count ends.Trap acts None (Some (Trap Injected))

-- ---- what a worked run shows

-- the run of a scenario with one part; each worked run has fewer than 100 steps
abbrev pub run_of : PartSpec → List ThreadSpec → Simulation
run_of part threads = runs 100 (begins (scenario_with part threads))

-- the report of that run
abbrev pub report_of : PartSpec → List ThreadSpec → List ℕ
report_of part threads = report_text (scenario_with part threads)
    (journals_of (run_of part threads)) (answer_table (run_of part threads)) []
    (status_of (part ∷ []) (journals_of (run_of part threads)))

-- the run is over, its journal is this one, and its report is this text
pub record MakesRun (part : PartSpec) (threads : List ThreadSpec) (journal : List Event) (text : List ℕ) : Type 0 where
  pub over : choices_of (run_of part threads) ≡ []
  pub events : journals_of (run_of part threads) ≡ journal ∷ []
  pub report : report_of part threads ≡ text

-- the driver keeps its contract, the visible behaviour is a run of the never-failing device, and the losses are
-- licensed
pub record KeepsContract (part : PartSpec) (journal : List Event) : Type 0 where
  pub kept : first_break part.class part.blocks journal ≡ None
  pub seen : IsClassRun part.class part.blocks (trace journal)
  pub licence : IsLicensed part journal
