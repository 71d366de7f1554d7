-- The status of a report by its number.
use Rattle.std.specs.Prelude.{ℕ}
use Rattle.run_results.specs.declared.status.ReportStatus.{ReportStatus}
use Rattle.run_results.specs.declared.status.ReportStatus.TheVariants as reported

-- the number by which a status is printed
abbrev pub status_number : ReportStatus → ℕ
status_number reported.Kept = 0
status_number reported.GivenUp = 1
status_number reported.Broken = 7
