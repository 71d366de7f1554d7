-- The words of tables need no escapes.
use Rattle.std.proofs.Common.{◌≡◌, [], ◌∷◌, ◌++◌, refl}
use Rattle.json.specs.Print.{escape_byte, quoted}
use Rattle.input_defs.specs.ScheduleNames.{schedule_word}
use Rattle.input_defs.specs.Types.{ScheduleName}
use Rattle.input_defs.specs.declared.schedules.ScheduleName.TheVariants as schedule
use Rattle.nook_data.specs.ClassNames.{class_text}
use Rattle.nook_data.specs.OpNames.{op_word}
use Rattle.nook_data.specs.Types.{Class, OpName}
use Rattle.nook_data.specs.declared.calls.OpName.TheVariants as op
use Rattle.nook_data.specs.declared.classes.Class.TheVariants as class

pub class_quoted : (c : Class) → quoted (class_text c) ≡ 34 ∷ (class_text c ++ 34 ∷ [])
unfolding escape_byte
class_quoted class.Block = refl
class_quoted class.Net = refl
class_quoted class.Sound = refl

pub schedule_quoted : (name : ScheduleName) → quoted (schedule_word name) ≡ 34 ∷ (schedule_word name ++ 34 ∷ [])
unfolding escape_byte
schedule_quoted schedule.RoundRobin = refl
schedule_quoted schedule.Drawn = refl
schedule_quoted schedule.Listed = refl

pub op_quoted : (name : OpName) → quoted (op_word name) ≡ 34 ∷ (op_word name ++ 34 ∷ [])
unfolding escape_byte
op_quoted op.Read = refl
op_quoted op.Write = refl
op_quoted op.Send = refl
op_quoted op.Recv = refl
op_quoted op.Open = refl
op_quoted op.Play = refl
op_quoted op.Close = refl
op_quoted op.Get = refl
op_quoted op.Set = refl
