use Rattle.std.specs.Prelude.{ℕ, List, [], ◌∷◌, codes, Option}
use Rattle.nook_data.specs.Names.{of_text}
use Rattle.nook_data.specs.Types.{ScheduleSpec}
use Rattle.nook_data.specs.declared.scenario.ScheduleSpec.TheVariants as schedule
use Rattle.input_defs.specs.Types.{ScheduleName}
use Rattle.input_defs.specs.declared.schedules.ScheduleName.TheVariants as named

-- The names of the kinds of schedule.

-- the kind of a schedule by its name
abbrev pub schedule_name : ScheduleSpec → ScheduleName
schedule_name schedule.RoundRobin = named.RoundRobin
schedule_name (schedule.Drawn start) = named.Drawn
schedule_name (schedule.Listed picks) = named.Listed

-- the word for a kind of schedule, in inputs
abbrev pub schedule_word : ScheduleName → List ℕ
schedule_word named.RoundRobin = codes "round_robin"
schedule_word named.Drawn = codes "drawn"
schedule_word named.Listed = codes "listed"

-- the kind of schedule with a word
unfoldable pub schedule_named : List ℕ → Option ScheduleName
schedule_named word = of_text schedule_word (named.RoundRobin ∷ named.Drawn ∷ named.Listed ∷ []) word
