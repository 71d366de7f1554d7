use Rattle.std.proofs.Common.{◌≡◌, ap, subst, sym, ◌∙◌}
use Rattle.explore_laws.specs.Present.{numbers_in, present}
use Rattle.explored_run.proofs.Totals.{numbers_reported}
use Rattle.explored_run.proofs.packed_moment.PackedMomentMoment.numbers.Goals as goal
use Rattle.explored_run.specs.Sums.{any_broken, lost_by}
use Rattle.nook_data.specs.Types.{MemberRow}
use Rattle.report_defs.specs.Campaigns.{gone_count}
use Rattle.run_defs.specs.Simulation.{Simulation}
use Rattle.sim_run.specs.Watched.{HaveSeen}

pub returns : goal.returns
returns c =
    subst (λ (s : Simulation). ◌≡◌ {A = MemberRow} (record {
      status = c.number.result;
      events = c.args.steps;
      failures = c.in_ok-failures.failures;
      gone = c.in_ok-gone.gone;
      lost = c.in_ok-lost.lost;
    }) (numbers_in c.args.steps (present s))) c.in_ok-simulation.ensures
    (numbers_reported c.in_ok-simulation.simulation c.self.inside.monitors.items c.of-status.result c.is_any_broken.result
    c.is_any_given_up.result c.args.steps c.number.result c.in_ok-failures.failures c.in_ok-gone.gone c.in_ok-lost.lost
    (subst (λ (s : Simulation). HaveSeen s.parts c.self.inside.monitors.items)
    (c.self.view_is ∙ sym c.in_ok-simulation.ensures) c.self.invariant.0)
    c.number.ensures c.of-status.ensures
    (c.is_any_broken.ensures ∙ ap any_broken c.deref-2.ensures.value) c.is_any_given_up.ensures c.in_ok-failures.ensures
    (c.in_ok-gone.ensures ∙ ap gone_count (c.as_slice-2.ensures ∙ c.in_ok-answers.ensures))
    (c.in_ok-lost.ensures ∙ ap lost_by c.deref.ensures.value))
