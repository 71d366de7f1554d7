use Rattle.std.proofs.Common.{sym, true≢false}
use Rattle.run_results.specs.declared.status.ReportStatus.TheVariants as reports
use Rattle.nooks.proofs.simulated.status_of.Goals as goal

pub returns-in-None : goal.returns-in-None
returns-in-None c = (
  λ e. true≢false (sym (c.in-None.ensures.every reports.Kept (sym e))),
  λ e. true≢false (sym (c.in-None.ensures.every reports.GivenUp (sym e))),
)
