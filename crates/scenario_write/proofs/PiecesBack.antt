-- Schedules, bad blocks and operations are read back.
use Rattle.std.proofs.Common.{◌≡◌, ℕ, ◌-◌, ◌<◌, ◌≤◌, Ok, refl, arith}
use Rattle.std.proofs.lemmas.Bool.{le-ltb}
use Rattle.input_defs.specs.PartReading.{bad_block_of}
use Rattle.nook_data.specs.OpNames.{op_named}
use Rattle.input_defs.specs.ScenarioReading.{op_by, op_of, schedule_by, schedule_of}
use Rattle.input_defs.specs.ScheduleNames.{schedule_named}
use Rattle.nook_data.specs.Valid.{IsValidBadBlock, IsValidOp, IsValidSchedule}
use Rattle.nook_data.specs.Views.Limits.{IsValidStep}
use Rattle.nook_data.specs.Views.Limits.{IsPick}
use Rattle.nook_data.specs.declared.scenario.BadBlock.{BadBlock}
use Rattle.nook_data.specs.declared.calls.Op.{Op}
use Rattle.nook_data.specs.declared.calls.Op.TheVariants as op
use Rattle.nook_data.specs.declared.scenario.ScheduleSpec.{ScheduleSpec}
use Rattle.nook_data.specs.declared.scenario.ScheduleSpec.TheVariants as schedule
use Rattle.scenario_write.specs.ScenarioText.{bad_block_data, schedule_data, step_data}
use Rattle.scenario_write.proofs.ListsBack.{no_less, numbers_back, word_within, words_back}
use Rattle.scenario_write.proofs.Sorted.{sorted}

pick_within : (n : ℕ) → IsPick n → n ≤ 65535
pick_within n h = omega (arith, h)

pub schedule_back : (s : ScheduleSpec) → IsValidSchedule s → schedule_of (sorted (schedule_data s)) ≡ Ok s
unfolding schedule_of schedule_data schedule_named schedule_by
schedule_back schedule.RoundRobin h = refl
schedule_back (schedule.Drawn start) h = rw (no_less start, le-ltb 18446744073709551615 start (omega (arith, h))) refl
schedule_back (schedule.Listed picks) h = rw (numbers_back 0 65536 65535 IsPick pick_within picks (omega arith) h.0 h.1) refl

pub bad_block_back : (blocks : ℕ) (bad : BadBlock) → IsValidBadBlock blocks bad → bad_block_of blocks (sorted (bad_block_data bad)) ≡ Ok bad
unfolding bad_block_of bad_block_data
bad_block_back blocks bad h =
    rw (
      no_less bad.block,
      le-ltb (blocks - 1) bad.block (omega (arith, h.block)),
      no_less bad.after,
      le-ltb 4294967295 bad.after (word_within bad.after h.after),
    ) refl

step_by : (parts part : ℕ) (o : Op) → part < parts → IsValidOp o → op_of parts (sorted (step_data (part, o))) ≡ Ok (part, o)
unfolding op_of step_data op_named op_by
step_by parts part (op.Read first count) inside h =
    rw (
      no_less part,
      le-ltb (parts - 1) part (omega (arith, inside)),
      no_less first,
      le-ltb 4294967295 first (word_within first h.0),
      no_less count,
      le-ltb 4294967295 count (word_within count h.1),
    ) refl
step_by parts part (op.Write first words) inside h =
    rw (
      no_less part,
      le-ltb (parts - 1) part (omega (arith, inside)),
      no_less first,
      le-ltb 4294967295 first (word_within first h.0),
      words_back 256 words h.1,
    ) refl
step_by parts part (op.Send frame) inside h = rw (no_less part, le-ltb (parts - 1) part (omega (arith, inside)), words_back 256 frame h) refl
step_by parts part op.Recv inside h = rw (no_less part, le-ltb (parts - 1) part (omega (arith, inside))) refl
step_by parts part op.Open inside h = rw (no_less part, le-ltb (parts - 1) part (omega (arith, inside))) refl
step_by parts part (op.Play samples) inside h = rw (no_less part, le-ltb (parts - 1) part (omega (arith, inside)), words_back 256 samples h) refl
step_by parts part op.Close inside h = rw (no_less part, le-ltb (parts - 1) part (omega (arith, inside))) refl
step_by parts part (op.Get register) inside h =
    rw (no_less part, le-ltb (parts - 1) part (omega (arith, inside)), no_less register, le-ltb 4294967295 register (word_within register h)) refl
step_by parts part (op.Set register value) inside h =
    rw (
      no_less part,
      le-ltb (parts - 1) part (omega (arith, inside)),
      no_less register,
      le-ltb 4294967295 register (word_within register h.0),
      no_less value,
      le-ltb 4294967295 value (word_within value h.1),
    ) refl

pub step_back : (parts : ℕ) (step : ℕ × Op) → IsValidStep parts step → op_of parts (sorted (step_data step)) ≡ Ok step
step_back parts step h = step_by parts step.0 step.1 h.0 h.1
