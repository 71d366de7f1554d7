use Rattle.std.specs.Prelude.{◌≡◌, refl, false, Some}
use Rattle.worked_rows.proofs.OnLiterals.{part_on_literals}
use Rattle.worked_rows.proofs.TraceOnLiterals.{trace_on_literals}
use Rattle.worked_rows.specs.Cases.{MakesRun, KeepsContract}
use Rattle.worked_rows.specs.DiskCases.{write_and_read_part, write_and_read_threads, write_and_read_journal, write_and_read_report, write_cut_part, write_cut_threads, write_cut_journal, write_cut_report, wide_write_cut_part, wide_write_cut_threads, wide_write_cut_journal, wide_write_cut_report}

pub write_and_read_runs : MakesRun write_and_read_part write_and_read_threads write_and_read_journal write_and_read_report
unfolding part_on_literals trace_on_literals
write_and_read_runs = record { over = refl; events = refl; report = refl }

pub write_and_read_keeps : KeepsContract write_and_read_part write_and_read_journal
unfolding part_on_literals trace_on_literals
write_and_read_keeps = record { kept = refl; seen = refl; licence = refl }

pub write_cut_runs : MakesRun write_cut_part write_cut_threads write_cut_journal write_cut_report
unfolding part_on_literals trace_on_literals
write_cut_runs = record { over = refl; events = refl; report = refl }

pub write_cut_keeps : KeepsContract write_cut_part write_cut_journal
unfolding part_on_literals trace_on_literals
write_cut_keeps = record { kept = refl; seen = refl; licence = refl }

pub wide_write_cut_runs : MakesRun wide_write_cut_part wide_write_cut_threads wide_write_cut_journal wide_write_cut_report
unfolding part_on_literals trace_on_literals
wide_write_cut_runs = record { over = refl; events = refl; report = refl }

pub wide_write_cut_keeps : KeepsContract wide_write_cut_part wide_write_cut_journal
unfolding part_on_literals trace_on_literals
wide_write_cut_keeps = record { kept = refl; seen = refl; licence = refl }
