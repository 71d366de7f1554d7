use Rattle.std.proofs.Common.{[]}
use Rattle.scenario_gen.proofs.Limits.{generated_is_valid}
use Rattle.run_defs.specs.Generated.{generated}
use Rattle.nooks.proofs.Reports.{few_events_in, few_parts_in, number_is_known, summary_is}
use Rattle.nooks.proofs.simulated.sum_up.Goals as goal

pub unreachable-requires : goal.unreachable-requires
unreachable-requires c = number_is_known (generated c.args.number) c.args.report.now c.requires.made.is_report c.in_default.ensures.every

pub count_events-requires : goal.count_events-requires
count_events-requires c = rw (c.as_slice.ensures) (few_events_in (generated c.args.number) [] c.args.report.now (generated_is_valid c.args.number c.requires.number) c.requires.made)

pub count_failures-requires : goal.count_failures-requires
count_failures-requires c = rw (c.as_slice-2.ensures) (few_parts_in (generated c.args.number) [] c.args.report.now (generated_is_valid c.args.number c.requires.number) c.requires.made)

pub returns : goal.returns
returns c = rw (c.in-Some.ensures.found, c.count_events.ensures, c.count_failures.ensures, c.as_slice.ensures, c.as_slice-2.ensures) (summary_is (generated c.args.number) [] c.args.report.now c.args.number c.requires.made)
