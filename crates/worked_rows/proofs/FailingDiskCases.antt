use Rattle.std.specs.Prelude.{◌≡◌, refl, false, Some}
use Rattle.worked_rows.proofs.OnLiterals.{part_on_literals}
use Rattle.worked_rows.proofs.TraceOnLiterals.{trace_on_literals}
use Rattle.nook_data.specs.declared.classes.Class.TheVariants.{Block}
use Rattle.promise_defs.specs.Contract.{first_break}
use Rattle.promise_defs.specs.Ideal.{class_run}
use Rattle.promise_defs.specs.Trace.{trace}
use Rattle.worked_rows.specs.Cases.{MakesRun, KeepsContract}
use Rattle.worked_rows.specs.FailingDiskCases.{bad_block_part, bad_block_threads, bad_block_journal, bad_block_report, bad_block_later_part, bad_block_later_threads, bad_block_later_journal, bad_block_later_report, read_invented_part, read_invented_threads, read_invented_journal, read_invented_report}

pub bad_block_runs : MakesRun bad_block_part bad_block_threads bad_block_journal bad_block_report
unfolding part_on_literals trace_on_literals
bad_block_runs = record { over = refl; events = refl; report = refl }

pub bad_block_keeps : KeepsContract bad_block_part bad_block_journal
unfolding part_on_literals trace_on_literals
bad_block_keeps = record { kept = refl; seen = refl; licence = refl }

pub bad_block_later_runs : MakesRun bad_block_later_part bad_block_later_threads bad_block_later_journal bad_block_later_report
unfolding part_on_literals trace_on_literals
bad_block_later_runs = record { over = refl; events = refl; report = refl }

pub bad_block_later_keeps : KeepsContract bad_block_later_part bad_block_later_journal
unfolding part_on_literals trace_on_literals
bad_block_later_keeps = record { kept = refl; seen = refl; licence = refl }

pub read_invented_runs : MakesRun read_invented_part read_invented_threads read_invented_journal read_invented_report
unfolding part_on_literals trace_on_literals
read_invented_runs = record { over = refl; events = refl; report = refl }

pub read_invented_breaks : first_break Block 1 read_invented_journal ≡ Some (record { event = 8; clause = 4 })
unfolding trace_on_literals
read_invented_breaks = refl

pub read_invented_shows : class_run Block 1 (trace read_invented_journal) ≡ false
unfolding trace_on_literals
read_invented_shows = refl
