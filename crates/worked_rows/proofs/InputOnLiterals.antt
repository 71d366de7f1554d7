use Rattle.std.specs.Prelude.{⊤}
use Rattle.std.specs.Str.{chars}
use Rattle.std.specs.Fmt.{digits}
use Rattle.std.specs.Char.{encode_utf8}
use Rattle.asm_defs.proofs.AsmOnLiterals.{asm_on_literals}
use Rattle.serde_json.proofs.OnLiterals.{serde_json_on_literals}
use Rattle.input_defs.specs.Faults.{fault_line}
use Rattle.run_defs.specs.Generated.{generated}
use Rattle.input_defs.specs.ImageReading.{hex_word, image_of, driver_of, image_from, image_from_asm}
use Rattle.asm_defs.specs.ImageText.{image_data, image_text}
use Rattle.nook_data.specs.FaultNames.{fault_named}
use Rattle.input_defs.specs.PartReading.{new_name, fault_kind, fault_of, bad_block_of, part_of}
use Rattle.input_defs.specs.Reading.{is_utf8, json_of}
use Rattle.nook_data.specs.OpNames.{op_named}
use Rattle.input_defs.specs.ScenarioReading.{schedule_by, schedule_of, op_by, op_of}
use Rattle.input_defs.specs.ScheduleNames.{schedule_named}
use Rattle.input_defs.specs.ScenarioReading.{thread_of, scenario_of, scenario_from}

-- what a law unfolds to compute the definitions of inputs on literals
unfoldable pub input_on_literals : ⊤
unfolding asm_on_literals chars encode_utf8 digits serde_json_on_literals
    is_utf8 json_of hex_word image_data image_text image_of driver_of image_from image_from_asm
    new_name fault_named fault_kind fault_of bad_block_of part_of schedule_named schedule_by schedule_of op_named op_by op_of
    thread_of scenario_of scenario_from fault_line generated
input_on_literals = tt
