use Rattle.std.specs.Prelude.{◌≡◌, refl, false, Some}
use Rattle.worked_rows.proofs.OnLiterals.{part_on_literals}
use Rattle.worked_rows.proofs.TraceOnLiterals.{trace_on_literals}
use Rattle.worked_rows.specs.Cases.{MakesRun, KeepsContract}
use Rattle.worked_rows.specs.LinkCases.{send_cut_part, send_cut_threads, send_cut_journal, send_cut_report, ring_full_part, ring_full_threads, ring_full_journal, ring_full_report}

pub send_cut_runs : MakesRun send_cut_part send_cut_threads send_cut_journal send_cut_report
unfolding part_on_literals trace_on_literals
send_cut_runs = record { over = refl; events = refl; report = refl }

pub send_cut_keeps : KeepsContract send_cut_part send_cut_journal
unfolding part_on_literals trace_on_literals
send_cut_keeps = record { kept = refl; seen = refl; licence = refl }

pub ring_full_runs : MakesRun ring_full_part ring_full_threads ring_full_journal ring_full_report
unfolding part_on_literals trace_on_literals
ring_full_runs = record { over = refl; events = refl; report = refl }

pub ring_full_keeps : KeepsContract ring_full_part ring_full_journal
unfolding part_on_literals trace_on_literals
ring_full_keeps = record { kept = refl; seen = refl; licence = refl }
