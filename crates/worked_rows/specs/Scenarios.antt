use Rattle.std.specs.Prelude.{ℕ, Result, Ok, Err, List, [], ◌∷◌, length, map, codes}
use Rattle.asm_defs.specs.declared.assembler.AsmFault.{AsmFault}
use Rattle.nook_data.specs.declared.calls.Answer.{Answer}
use Rattle.nook_data.specs.declared.classes.Class.TheVariants as class
use Rattle.nook_data.specs.declared.scenario.Fault.{Fault}
use Rattle.nook_data.specs.declared.scenario.FaultKind.{FaultKind}
use Rattle.nook_data.specs.declared.scenario.Image.{Image}
use Rattle.nook_data.specs.declared.calls.Op.{Op}
use Rattle.nook_data.specs.declared.scenario.PartSpec.{PartSpec}
use Rattle.nook_data.specs.declared.scenario.Scenario.{Scenario}
use Rattle.nook_data.specs.declared.scenario.ThreadSpec.{ThreadSpec}
use Rattle.input_defs.specs.declared.input.Refusal.{Refusal}
use Rattle.asm_defs.specs.Assembler.{assembled}
use Rattle.input_defs.specs.Faults.{fault_line}
use Rattle.run_defs.specs.Generated.{generated}
use Rattle.run_defs.specs.References.{block_image}
use Rattle.report_defs.specs.ReportText.{report_text, status_of, summary_line}
use Rattle.input_defs.specs.ScenarioReading.{scenario_from}
use Rattle.run_defs.specs.Simulation.{Simulation, Choice, begins, runs, choices_of, journals_of, answer_table}

-- Small scenarios, and the reports of their runs.

-- the image of an assembler text, or some other image if the text has an error
abbrev pub image_or : Result Image AsmFault → Image
image_or (Ok image) = image
image_or (Err fault) = block_image

abbrev pub driver : List ℕ → Image
driver text = image_or (assembled text)

-- a fault in a burst, after this many of its instructions
abbrev pub strike : ℕ → ℕ → FaultKind → Fault
strike burst after kind = record { burst = burst; after = after; kind = kind }

-- parts with a limit of failures, a driver and faults
abbrev pub disk : ℕ → ℕ → Image → List Fault → PartSpec
disk blocks limit image faults = record {
  name = codes "d0";
  class = class.Block;
  blocks = blocks;
  bad = [];
  limit = limit;
  image = image;
  faults = faults;
  arrivals = [];
}

abbrev pub link : ℕ → Image → List Fault → List (List ℕ) → PartSpec
link limit image faults arrivals = record {
  name = codes "d0";
  class = class.Net;
  blocks = 0;
  bad = [];
  limit = limit;
  image = image;
  faults = faults;
  arrivals = arrivals;
}

abbrev pub stream : ℕ → Image → List Fault → PartSpec
stream limit image faults = record {
  name = codes "d0";
  class = class.Sound;
  blocks = 0;
  bad = [];
  limit = limit;
  image = image;
  faults = faults;
  arrivals = [];
}

abbrev pub thread : List ℕ → List (ℕ × Op) → ThreadSpec
thread name ops = record { name = name; ops = ops }

-- the report of a run without listeners; empty if the run has not ended
abbrev pub report_at : Scenario → Simulation → List Choice → List ℕ
report_at s m [] = report_text s (journals_of m) (answer_table m) [] (status_of s.parts (journals_of m))
report_at s m (c ∷ choices) = []

abbrev pub report_after : Scenario → Simulation → List ℕ
report_after s m = report_at s m (choices_of m)

-- the report of a scenario whose run has at most 100,000 steps
abbrev pub report_of : Scenario → List ℕ
report_of s = report_after s (runs 100000 (begins s))

-- what is written for the bytes of a scenario: its report, or its first input error
abbrev pub output_of : Result Scenario Refusal → List ℕ
output_of (Ok s) = report_of s
output_of (Err fault) = fault_line fault

abbrev pub output : List ℕ → List ℕ
output bytes = output_of (scenario_from bytes)

-- the summary line of a generated scenario, and how many answers each of its threads got
abbrev pub summary_after : ℕ → Scenario → Simulation → List Choice → List ℕ
summary_after n s m [] = summary_line n s.parts (journals_of m)
summary_after n s m (c ∷ choices) = []

abbrev pub summary_at : ℕ → Scenario → Simulation → List ℕ
summary_at n s m = summary_after n s m (choices_of m)

abbrev pub summary_of : ℕ → List ℕ
summary_of n = summary_at n (generated n) (runs 100000 (begins (generated n)))

abbrev pub count_of : List (ℕ × Answer) → ℕ
count_of answers = length answers

abbrev pub answers_of : ℕ → List ℕ
answers_of n = map count_of (answer_table (runs 100000 (begins (generated n))))
