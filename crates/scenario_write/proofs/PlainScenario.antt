-- A scenario's value has only texts and unsigned numbers, with little nesting.
use Rattle.std.proofs.Common.{ℕ, ◌^◌, ◌<◌, ◌≤◌, true, IsUtf8, List, [], ◌∷◌, length, refl, arith}
use Rattle.std.specs.Prelude.{All, codes, if◌then◌else◌, Bool, false}
use Rattle.json.proofs.Printed.Utf8.{IsUtf8-are_ascii}
use Rattle.serde_json.specs.Data.{Members, no_members}
use Rattle.serde_json.specs.Read.{max_depth}
use Rattle.nook_data.proofs.NameText.{name_utf8}
use Rattle.nook_data.specs.ClassNames.{class_text}
use Rattle.nook_data.specs.Valid.{FitsClass, IsValidBadBlock, IsValidFault, IsValidOp, IsValidPart}
use Rattle.nook_data.specs.Valid.{IsValidScenario, IsValidSchedule, IsValidThread}
use Rattle.nook_data.specs.Views.Limits.{IsValidFrame, IsValidStep}
use Rattle.nook_data.specs.Views.Limits.{IsPick}
use Rattle.nook_data.specs.declared.scenario.BadBlock.{BadBlock}
use Rattle.nook_data.specs.declared.classes.Class.{Class}
use Rattle.nook_data.specs.declared.classes.Class.TheVariants as class
use Rattle.nook_data.specs.declared.calls.Op.{Op}
use Rattle.nook_data.specs.declared.calls.Op.TheVariants as op
use Rattle.nook_data.specs.declared.scenario.PartSpec.{PartSpec}
use Rattle.nook_data.specs.declared.scenario.Scenario.{Scenario}
use Rattle.nook_data.specs.declared.scenario.ScheduleSpec.{ScheduleSpec}
use Rattle.nook_data.specs.declared.scenario.ScheduleSpec.TheVariants as schedule
use Rattle.nook_data.specs.declared.scenario.ThreadSpec.{ThreadSpec}
use Rattle.asm_defs.specs.declared.keys.Key.TheVariants as key
use Rattle.reading_laws.proofs.ImageJson.{image_plain}
use Rattle.reading_laws.proofs.PlainData.{ArePlainMembers, IsPlain}
use Rattle.scenario_write.proofs.FaultsBack.{fault_plain}
use Rattle.scenario_write.proofs.PlainMembers.{list_plain, named, text, wide, with, words_plain}
use Rattle.scenario_write.specs.ScenarioText.{arrival_members, at, bad_block_data, bad_members, disk_members, fault_data, has_bad, list_data, number_data, numbers_data, op_members, part_data, part_members, scenario_data, schedule_data, step_data, thread_data}

-- ---- pieces

schedule_plain : (n : ℕ) (s : ScheduleSpec) → 1 < n → IsValidSchedule s → IsPlain n (schedule_data s)
unfolding schedule_data
schedule_plain n schedule.RoundRobin deep h = (1, deep, (named key.Kind refl, text (codes "round_robin") refl, tt))
schedule_plain n (schedule.Drawn start) deep h = (1, deep, (named key.Kind refl, text (codes "drawn") refl, (named key.Start refl, h, tt)))
schedule_plain n (schedule.Listed picks) deep h = (
  1,
  deep,
  (
    named key.Kind refl,
    text (codes "listed") refl,
    (named key.Picks refl, list_plain 1 0 number_data IsPick (omega arith) (λ p q. omega (arith, q)) picks h.1, tt),
  ),
)

bad_plain : (n blocks : ℕ) (bad : BadBlock) → 0 < n → blocks ≤ 256 → IsValidBadBlock blocks bad → IsPlain n (bad_block_data bad)
unfolding bad_block_data
bad_plain n blocks bad deep few h = (
  0,
  deep,
  with 0 key.Block (number_data bad.block) (at key.After (number_data bad.after) no_members) refl (omega (arith, h.block, few))
      (with 0 key.After (number_data bad.after) no_members refl (wide bad.after h.after) tt),
)

op_plain : (o : Op) → IsValidOp o → ArePlainMembers 1 (op_members o)
op_plain (op.Read first count) h =
    (named key.Op refl, text (codes "read") refl, (named key.First refl, wide first h.0, (named key.Count refl, wide count h.1, tt)))
op_plain (op.Write first words) h =
    (named key.Op refl, text (codes "write") refl, (named key.First refl, wide first h.0, (named key.Data refl, words_plain 1 words (omega arith) h.1.1, tt)))
op_plain (op.Send frame) h = (named key.Op refl, text (codes "send") refl, (named key.Frame refl, words_plain 1 frame (omega arith) h.1, tt))
op_plain op.Recv h = (named key.Op refl, text (codes "recv") refl, tt)
op_plain op.Open h = (named key.Op refl, text (codes "open") refl, tt)
op_plain (op.Play samples) h = (named key.Op refl, text (codes "play") refl, (named key.Samples refl, words_plain 1 samples (omega arith) h.1, tt))
op_plain op.Close h = (named key.Op refl, text (codes "close") refl, tt)
op_plain (op.Get register) h = (named key.Op refl, text (codes "get") refl, (named key.Key refl, wide register h, tt))
op_plain (op.Set register value) h =
    (named key.Op refl, text (codes "set") refl, (named key.Key refl, wide register h.0, (named key.Value refl, wide value h.1, tt)))

step_plain : (n parts : ℕ) (step : ℕ × Op) → 1 < n → parts ≤ 8 → IsValidStep parts step → IsPlain n (step_data step)
unfolding step_data
step_plain n parts step deep few h = (1, deep, with 1 key.Part (number_data step.0) (op_members step.1) refl (omega (arith, h.0, few)) (op_plain step.1 h.1))

-- ---- parts and threads

class_plain : (c : Class) → IsUtf8 (class_text c)
class_plain class.Block = text (codes "block") refl
class_plain class.Net = text (codes "net") refl
class_plain class.Sound = text (codes "sound") refl

frame_plain : (frame : List ℕ) → IsValidFrame frame → IsPlain 1 (numbers_data frame)
frame_plain frame h = words_plain 1 frame (omega arith) h.1.1

arrivals_plain : (c : Class) (part : PartSpec) → FitsClass c part → ArePlainMembers 3 (arrival_members c part)
arrivals_plain class.Block part h = tt
arrivals_plain class.Net part h =
    with 3 key.Arrivals (list_data numbers_data part.arrivals) no_members refl (list_plain 3 1 numbers_data IsValidFrame (omega arith) frame_plain part.arrivals h.3) tt
arrivals_plain class.Sound part h = tt

blocks_plain : (blocks : ℕ) (bad : List BadBlock) (more : Members) → blocks ≤ 256 → All (IsValidBadBlock blocks) bad → ArePlainMembers 3 more → ArePlainMembers 3 (bad_members bad more)
blocks_plain blocks [] more few h q = q
blocks_plain blocks (first ∷ others) more few h q =
    with 3 key.Bad (list_data bad_block_data (first ∷ others)) more refl
    (list_plain 3 1 bad_block_data (IsValidBadBlock blocks) (omega arith) (λ b v. bad_plain 1 blocks b (omega arith) few v) (first ∷ others) h) q

disk_plain : (c : Class) (part : PartSpec) (more : Members) → FitsClass c part → All (IsValidBadBlock part.blocks) part.bad → ArePlainMembers 3 more → ArePlainMembers 3 (disk_members c part more)
disk_plain class.Block part more h bad q =
    with 3 key.Blocks (number_data part.blocks) (bad_members part.bad more) refl (omega (arith, h.1)) (blocks_plain part.blocks part.bad more h.1 bad q)
disk_plain class.Net part more h bad q = q
disk_plain class.Sound part more h bad q = q

part_plain : (part : PartSpec) → IsValidPart part → IsPlain 4 (part_data part)
unfolding part_data
part_plain part h = (
  3,
  omega arith,
  (
    IsUtf8-are_ascii (codes "name") refl,
    name_utf8 part.name h.name,
    (
      IsUtf8-are_ascii (codes "class") refl,
      class_plain part.class,
      disk_plain part.class part (part_members part) h.fits h.bad (
        IsUtf8-are_ascii (codes "limit") refl,
        omega (arith, h.limit),
        (
          IsUtf8-are_ascii (codes "driver") refl,
          (2, omega arith, (IsUtf8-are_ascii (codes "image") refl, image_plain 2 part.image (omega arith) h.image, tt)),
          (
            IsUtf8-are_ascii (codes "faults") refl,
            list_plain 3 1 fault_data IsValidFault (omega arith) (λ f v. fault_plain 1 f (omega arith) v) part.faults h.faults,
            arrivals_plain part.class part h.fits,
          ),
        ),
      ),
    ),
  ),
)

thread_plain : (parts : ℕ) (thread : ThreadSpec) → parts ≤ 8 → IsValidThread parts thread → IsPlain 4 (thread_data thread)
unfolding thread_data
thread_plain parts thread few h = (
  3,
  omega arith,
  (
    IsUtf8-are_ascii (codes "name") refl,
    name_utf8 thread.name h.name,
    (
      IsUtf8-are_ascii (codes "ops") refl,
      list_plain 3 2 step_data (IsValidStep parts) (omega arith) (λ s v. step_plain 2 parts s (omega arith) few v) thread.ops h.ops,
      tt,
    ),
  ),
)

small_version : (bad : Bool) → (if bad then 2 else 1) < 2 ^ 64
small_version true = omega arith
small_version false = omega arith

pub scenario_plain : (scenario : Scenario) → IsValidScenario scenario → IsPlain max_depth (scenario_data scenario)
unfolding scenario_data
scenario_plain scenario h = (
  5,
  omega arith,
  (
    IsUtf8-are_ascii (codes "version") refl,
    small_version (has_bad scenario.parts),
    (
      IsUtf8-are_ascii (codes "schedule") refl,
      schedule_plain 5 scenario.schedule (omega arith) h.schedule,
      (
        IsUtf8-are_ascii (codes "parts") refl,
        list_plain 5 4 part_data IsValidPart (omega arith) part_plain scenario.parts h.parts,
        (
          IsUtf8-are_ascii (codes "threads") refl,
          list_plain 5 4 thread_data (IsValidThread (length scenario.parts)) (omega arith) (λ t v. thread_plain (length scenario.parts) t h.part_count.1 v) scenario.threads h.threads,
          tt,
        ),
      ),
    ),
  ),
)
