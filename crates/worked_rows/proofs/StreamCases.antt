use Rattle.std.specs.Prelude.{◌≡◌, refl, false, Some}
use Rattle.worked_rows.proofs.OnLiterals.{part_on_literals}
use Rattle.worked_rows.proofs.TraceOnLiterals.{trace_on_literals}
use Rattle.worked_rows.specs.Cases.{MakesRun, KeepsContract}
use Rattle.worked_rows.specs.StreamCases.{play_cut_part, play_cut_threads, play_cut_journal, play_cut_report, init_cut_part, init_cut_threads, init_cut_journal, init_cut_report}

pub play_cut_runs : MakesRun play_cut_part play_cut_threads play_cut_journal play_cut_report
unfolding part_on_literals trace_on_literals
play_cut_runs = record { over = refl; events = refl; report = refl }

pub play_cut_keeps : KeepsContract play_cut_part play_cut_journal
unfolding part_on_literals trace_on_literals
play_cut_keeps = record { kept = refl; seen = refl; licence = refl }

pub init_cut_runs : MakesRun init_cut_part init_cut_threads init_cut_journal init_cut_report
unfolding part_on_literals trace_on_literals
init_cut_runs = record { over = refl; events = refl; report = refl }

pub init_cut_keeps : KeepsContract init_cut_part init_cut_journal
unfolding part_on_literals trace_on_literals
init_cut_keeps = record { kept = refl; seen = refl; licence = refl }
