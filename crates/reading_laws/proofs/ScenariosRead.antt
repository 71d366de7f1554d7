-- A scenario that was read is within every limit.
use Rattle.std.proofs.Common.{◌≡◌, ◌∙◌, refl, sym, ap, ℕ, ◌+◌, ◌-◌, ◌<◌, ◌≤◌, ◌^◌, Bool, true, false, List, [], ◌∷◌, ◌++◌, length, arith}
use Rattle.std.specs.Prelude.{Result, Ok, Err, IfOk, All, ⊤}
use Rattle.std.proofs.lemmas.List.Elements.{All-nil, All-push}
use Rattle.serde_json.specs.Data.{Data}
use Rattle.nook_data.specs.Names.{is_among}
use Rattle.input_defs.specs.PartReading.{name_of, part_of}
use Rattle.nook_data.specs.Valid.{part_names}
use Rattle.input_defs.specs.Reading.{is_object, json_of, named_of, object_with, required, optional, whole_number}
use Rattle.input_defs.specs.Reading.{number_at, list_of, numbers_of}
use Rattle.asm_defs.specs.Results.{◌>>=◌}
use Rattle.nook_data.specs.OpNames.{op_named}
use Rattle.input_defs.specs.ScenarioReading.{schedule_keys, schedule_by, schedule_of, op_keys}
use Rattle.input_defs.specs.ScheduleNames.{schedule_named}
use Rattle.input_defs.specs.ScenarioReading.{op_words_of, op_by, op_of, thread_of, scenario_of, scenario_from}
use Rattle.nook_data.specs.Valid.{thread_names}
use Rattle.input_defs.specs.Reading.{word_at}
use Rattle.input_defs.specs.Views.Readings.{picks_of, ops_of, parts_of, threads_of}
use Rattle.nook_data.specs.Valid.{AreWords, IsWord, IsValidOp, IsValidPart, IsValidSchedule, IsValidThread}
use Rattle.nook_data.specs.Valid.{IsValidScenario, are_distinct}
use Rattle.nook_data.specs.Views.Limits.{IsValidStep}
use Rattle.nook_data.specs.Views.Limits.{IsPick}
use Rattle.nook_data.specs.declared.calls.Op.{Op}
use Rattle.nook_data.specs.declared.calls.Op.TheVariants as op
use Rattle.nook_data.specs.declared.scenario.PartSpec.{PartSpec}
use Rattle.nook_data.specs.declared.scenario.Scenario.{Scenario}
use Rattle.nook_data.specs.declared.scenario.ScheduleSpec.{ScheduleSpec}
use Rattle.nook_data.specs.declared.scenario.ScheduleSpec.TheVariants as schedule
use Rattle.nook_data.specs.declared.scenario.ThreadSpec.{ThreadSpec}
use Rattle.asm_defs.specs.declared.keys.Key.{Key}
use Rattle.asm_defs.specs.declared.keys.Key.TheVariants as key
use Rattle.nook_data.specs.declared.calls.OpName.{OpName}
use Rattle.nook_data.specs.declared.calls.OpName.TheVariants as asks
use Rattle.input_defs.specs.declared.input.Refusal.{Refusal}
use Rattle.input_defs.specs.declared.schedules.ScheduleName.{ScheduleName}
use Rattle.input_defs.specs.declared.schedules.ScheduleName.TheVariants as named
use Rattle.reading_laws.proofs.Names.{IsNewName, name_holds, distinct_push}
use Rattle.reading_laws.proofs.PartsRead.{ArePartsRead, numbers_hold, parts_hold, word_at_holds}
use Rattle.reading_laws.proofs.Readings.{chained, passed, less, required_holds, optional_holds, number_holds, number_at_holds, IsBetween, Listed, list_holds, each_holds}

-- ---- schedules

picks_hold : (d : Data) → IfOk (picks_of d) (Listed (All IsPick) 0 65536)
picks_hold d =
    each_holds IsPick (λ earlier. whole_number 0 65535) 0 65536
    (λ earlier d'. less (IsBetween 0 65535) IsPick (whole_number 0 65535 d') (number_holds 0 65535 d') (λ n h. omega (arith, h.1))) d

schedule_by_holds : (name : ScheduleName) (d : Data) → IfOk (schedule_by name d) IsValidSchedule
unfolding schedule_by
schedule_by_holds named.RoundRobin d = tt
schedule_by_holds named.Drawn d =
    chained (IsBetween 0 18446744073709551615) IsValidSchedule (number_at key.Start 0 18446744073709551615 d)
    (λ start. let read : Result ScheduleSpec Refusal = Ok (schedule.Drawn start) in read)
    (number_at_holds key.Start 0 18446744073709551615 d) (λ start h. omega (arith, h.1))
schedule_by_holds named.Listed d =
    chained (Listed (All IsPick) 0 65536) IsValidSchedule (required key.Picks picks_of d)
    (λ picks. let read : Result ScheduleSpec Refusal = Ok (schedule.Listed picks) in read)
    (required_holds (Listed (All IsPick) 0 65536) key.Picks picks_of d picks_hold) (λ picks h. (h.2, h.0))

abbrev checks_schedule : Data → ScheduleName → Result ScheduleSpec Refusal
checks_schedule d name = object_with (schedule_keys name) d >>= λ known. schedule_by name d

schedule_holds : (d : Data) → IfOk (schedule_of d) IsValidSchedule
unfolding schedule_of
schedule_holds d =
    passed IsValidSchedule (is_object d) (λ members. required key.Kind (named_of schedule_named) d >>= checks_schedule d)
    (λ members. passed IsValidSchedule (required key.Kind (named_of schedule_named) d) (checks_schedule d)
    (λ name. passed IsValidSchedule (object_with (schedule_keys name) d) (λ known. schedule_by name d) (λ known. schedule_by_holds name d)))

-- ---- operations

op_words_hold : (k : Key) (d : Data) → IfOk (required k op_words_of d) (AreWords 256)
op_words_hold k d =
    required_holds (AreWords 256) k op_words_of d
    (λ d'. less (Listed (All IsWord) 0 256) (AreWords 256) (op_words_of d') (numbers_hold 0 256 d') (λ words h. (h.2, h.0)))

-- an operation with one value, and one with two
by_one : {A : Type 0} (P : A → Type 0) (r : Result A Refusal) (makes : A → Op) → IfOk r P → ((a : A) → P a → IsValidOp (makes a))
    → IfOk (r >>= λ a. let read : Result Op Refusal = Ok (makes a) in read) IsValidOp
by_one P r makes h valid = chained P IsValidOp r (λ a. let read : Result Op Refusal = Ok (makes a) in read) h valid

by_two : {A B : Type 0} (P : A → Type 0) (Q : B → Type 0) (r : Result A Refusal) (s : Result B Refusal) (makes : A → B → Op) → IfOk r P → IfOk s Q
    → ((a : A) (b : B) → P a → Q b → IsValidOp (makes a b)) → IfOk (r >>= λ a. s >>= λ b. let read : Result Op Refusal = Ok (makes a b) in read) IsValidOp
by_two P Q r s makes h k valid =
    chained P IsValidOp r (λ a. s >>= λ b. let read : Result Op Refusal = Ok (makes a b) in read) h
    (λ a ha. by_one Q s (makes a) k (λ b hb. valid a b ha hb))

op_by_holds : (name : OpName) (d : Data) → IfOk (op_by name d) IsValidOp
unfolding op_by
op_by_holds asks.Read d = by_two IsWord IsWord (word_at key.First d) (word_at key.Count d) op.Read (word_at_holds key.First d) (word_at_holds key.Count d) (λ a b h k. (h, k))
op_by_holds asks.Write d = by_two IsWord (AreWords 256) (word_at key.First d) (required key.Data op_words_of d) op.Write (word_at_holds key.First d) (op_words_hold key.Data d) (λ a b h k. (h, k))
op_by_holds asks.Send d = by_one (AreWords 256) (required key.Frame op_words_of d) op.Send (op_words_hold key.Frame d) (λ a h. h)
op_by_holds asks.Recv d = tt
op_by_holds asks.Open d = tt
op_by_holds asks.Play d = by_one (AreWords 256) (required key.Samples op_words_of d) op.Play (op_words_hold key.Samples d) (λ a h. h)
op_by_holds asks.Close d = tt
op_by_holds asks.Get d = by_one IsWord (word_at key.Key d) op.Get (word_at_holds key.Key d) (λ a h. h)
op_by_holds asks.Set d = by_two IsWord IsWord (word_at key.Key d) (word_at key.Value d) op.Set (word_at_holds key.Key d) (word_at_holds key.Value d) (λ a b h k. (h, k))

abbrev Step : Type 0
Step = ℕ × Op

abbrev reads_asked : OpName → Data → ℕ → Result Step Refusal
reads_asked name d part = op_by name d >>= λ says. let read : Result Step Refusal = Ok (part, says) in read

abbrev reads_part : ℕ → Data → OpName → Result Step Refusal
reads_part parts d name = number_at key.Part 0 (parts - 1) d >>= reads_asked name d

abbrev checks_op : ℕ → Data → OpName → Result Step Refusal
checks_op parts d name = object_with (key.Part ∷ key.Op ∷ op_keys name) d >>= λ known. reads_part parts d name

valid_step : (parts part : ℕ) (says : Op) → 1 ≤ parts → IsBetween 0 (parts - 1) part → IsValidOp says → IsValidStep parts (part, says)
valid_step parts part says some h k = (omega (arith, some, h.1), k)

part_then : (parts : ℕ) (d : Data) (name : OpName) → 1 ≤ parts → IfOk (reads_part parts d name) (IsValidStep parts)
part_then parts d name some =
    chained (IsBetween 0 (parts - 1)) (IsValidStep parts) (number_at key.Part 0 (parts - 1) d) (reads_asked name d) (number_at_holds key.Part 0 (parts - 1) d)
    (λ part h. chained IsValidOp (IsValidStep parts) (op_by name d) (λ says. let read : Result Step Refusal = Ok (part, says) in read) (op_by_holds name d)
    (λ says k. valid_step parts part says some h k))

op_holds : (parts : ℕ) → 1 ≤ parts → (d : Data) → IfOk (op_of parts d) (IsValidStep parts)
unfolding op_of
op_holds parts some d =
    passed (IsValidStep parts) (is_object d) (λ members. required key.Op (named_of op_named) d >>= checks_op parts d)
    (λ members. passed (IsValidStep parts) (required key.Op (named_of op_named) d) (checks_op parts d)
    (λ name. passed (IsValidStep parts) (object_with (key.Part ∷ key.Op ∷ op_keys name) d) (λ known. reads_part parts d name) (λ known. part_then parts d name some)))

ops_hold : (parts : ℕ) → 1 ≤ parts → (d : Data) → IfOk (ops_of parts d) (Listed (All (IsValidStep parts)) 0 256)
ops_hold parts some d = each_holds (IsValidStep parts) (λ earlier. op_of parts) 0 256 (λ earlier. op_holds parts some) d

-- ---- threads

-- a valid thread whose name differs from the earlier ones
abbrev IsNewThread : ℕ → List ThreadSpec → ThreadSpec → Type 0
IsNewThread parts earlier thread = IsValidThread parts thread × (is_among (thread_names earlier) thread.name ≡ false)

abbrev thread_with : List ℕ → List Step → ThreadSpec
thread_with name ops = record { name = name; ops = ops }

new_thread : (parts : ℕ) (earlier : List ThreadSpec) (name : List ℕ) (ops : List Step) → IsNewName (thread_names earlier) name
    → Listed (All (IsValidStep parts)) 0 256 ops → IsNewThread parts earlier (thread_with name ops)
new_thread parts earlier name ops hn ho = (record { name = hn.0; op_count = ho.2; ops = ho.0 }, hn.1)

abbrev reads_ops : ℕ → Data → List ℕ → Result ThreadSpec Refusal
reads_ops parts d name = required key.Ops (ops_of parts) d >>= λ ops. let read : Result ThreadSpec Refusal = Ok (thread_with name ops) in read

thread_holds : (parts : ℕ) → 1 ≤ parts → (earlier : List ThreadSpec) (d : Data) → IfOk (thread_of parts earlier d) (IsNewThread parts earlier)
unfolding thread_of
thread_holds parts some earlier d =
    passed (IsNewThread parts earlier) (object_with (key.Name ∷ key.Ops ∷ []) d) (λ known. required key.Name (name_of (thread_names earlier)) d >>= reads_ops parts d)
    (λ known. chained (IsNewName (thread_names earlier)) (IsNewThread parts earlier) (required key.Name (name_of (thread_names earlier)) d) (reads_ops parts d)
    (required_holds (IsNewName (thread_names earlier)) key.Name (name_of (thread_names earlier)) d (name_holds (thread_names earlier)))
    (λ name hn. chained (Listed (All (IsValidStep parts)) 0 256) (IsNewThread parts earlier) (required key.Ops (ops_of parts) d)
    (λ ops. let read : Result ThreadSpec Refusal = Ok (thread_with name ops) in read)
    (required_holds (Listed (All (IsValidStep parts)) 0 256) key.Ops (ops_of parts) d (ops_hold parts some))
    (λ ops ho. new_thread parts earlier name ops hn ho)))

names_push : (threads : List ThreadSpec) (thread : ThreadSpec) → thread_names (threads ++ thread ∷ []) ≡ thread_names threads ++ thread.name ∷ []
names_push [] thread = refl
names_push (first ∷ more) thread = ap (λ names. first.name ∷ names) (names_push more thread)

abbrev AreThreadsRead : ℕ → List ThreadSpec → Type 0
AreThreadsRead parts threads = All (IsValidThread parts) threads × (are_distinct (thread_names threads) ≡ true)

one_more : (parts : ℕ) (earlier : List ThreadSpec) → AreThreadsRead parts earlier → (thread : ThreadSpec) → IsNewThread parts earlier thread → AreThreadsRead parts (earlier ++ thread ∷ [])
one_more parts earlier h thread k = (
  All-push (IsValidThread parts) earlier thread h.0 k.0,
  ap are_distinct (names_push earlier thread) ∙ distinct_push (thread_names earlier) thread.name h.1 k.1,
)

threads_hold : (parts : ℕ) → 1 ≤ parts → (d : Data) → IfOk (threads_of parts d) (Listed (AreThreadsRead parts) 0 16)
threads_hold parts some d =
    list_holds (AreThreadsRead parts) (thread_of parts) 0 16
    (λ earlier d' h. less (IsNewThread parts earlier) (λ thread. AreThreadsRead parts (earlier ++ thread ∷ [])) (thread_of parts earlier d') (thread_holds parts some earlier d') (one_more parts earlier h))
    (All-nil (IsValidThread parts), refl) d

-- ---- scenarios

abbrev scenario_with : ScheduleSpec → List PartSpec → List ThreadSpec → Scenario
scenario_with schedule parts threads = record { schedule = schedule; parts = parts; threads = threads }

valid_scenario : (schedule : ScheduleSpec) (parts : List PartSpec) (threads : List ThreadSpec) → IsValidSchedule schedule
    → Listed ArePartsRead 1 8 parts → Listed (AreThreadsRead (length parts)) 0 16 threads → IsValidScenario (scenario_with schedule parts threads)
valid_scenario schedule parts threads hs hp ht = record {
  schedule = hs;
  part_count = (hp.1, hp.2);
  parts = hp.0.0;
  part_names = hp.0.1;
  thread_count = ht.2;
  threads = ht.0.0;
  thread_names = ht.0.1;
}

-- the steps of the reading, last to first

abbrev reads_threads : Data → ScheduleSpec → List PartSpec → Result Scenario Refusal
reads_threads d schedule parts =
    required key.Threads (threads_of (length parts)) d >>= λ threads. let read : Result Scenario Refusal = Ok (scenario_with schedule parts threads) in read

abbrev reads_parts : Data → ℕ → ScheduleSpec → Result Scenario Refusal
reads_parts d version schedule = required key.Parts (parts_of version) d >>= reads_threads d schedule

abbrev reads_schedule : Data → ℕ → Result Scenario Refusal
reads_schedule d version = optional key.Schedule schedule_of schedule.RoundRobin d >>= reads_parts d version

threads_then : (d : Data) (schedule : ScheduleSpec) (parts : List PartSpec) → IsValidSchedule schedule → Listed ArePartsRead 1 8 parts
    → IfOk (reads_threads d schedule parts) IsValidScenario
threads_then d schedule parts hs hp =
    chained (Listed (AreThreadsRead (length parts)) 0 16) IsValidScenario (required key.Threads (threads_of (length parts)) d)
    (λ threads. let read : Result Scenario Refusal = Ok (scenario_with schedule parts threads) in read)
    (required_holds (Listed (AreThreadsRead (length parts)) 0 16) key.Threads (threads_of (length parts)) d (threads_hold (length parts) hp.1))
    (λ threads ht. valid_scenario schedule parts threads hs hp ht)

schedule_then : (d : Data) (version : ℕ) → IfOk (reads_schedule d version) IsValidScenario
schedule_then d version =
    chained IsValidSchedule IsValidScenario (optional key.Schedule schedule_of schedule.RoundRobin d) (reads_parts d version)
    (optional_holds IsValidSchedule key.Schedule schedule_of schedule.RoundRobin d schedule_holds tt)
    (λ schedule hs. chained (Listed ArePartsRead 1 8) IsValidScenario (required key.Parts (parts_of version) d) (reads_threads d schedule)
    (required_holds (Listed ArePartsRead 1 8) key.Parts (parts_of version) d (parts_hold version))
    (λ parts hp. threads_then d schedule parts hs hp))

pub scenario_holds : (d : Data) → IfOk (scenario_of d) IsValidScenario
unfolding scenario_of
scenario_holds d =
    passed IsValidScenario (object_with (key.Version ∷ key.Schedule ∷ key.Parts ∷ key.Threads ∷ []) d) (λ known. number_at key.Version 1 2 d >>= reads_schedule d)
    (λ known. passed IsValidScenario (number_at key.Version 1 2 d) (reads_schedule d) (λ version. schedule_then d version))

pub scenario_is_valid : (bytes : List ℕ) → IfOk (scenario_from bytes) IsValidScenario
unfolding scenario_from
scenario_is_valid bytes = passed IsValidScenario (json_of bytes) scenario_of scenario_holds
