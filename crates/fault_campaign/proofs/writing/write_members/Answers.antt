use Rattle.std.proofs.Common.{◌∙◌, ap, map, subst, sym}
use Rattle.std.specs.Prelude.{All}
use Rattle.campaign_defs.specs.Members.{CanRunMember, alone, members, members_of}
use Rattle.campaign_laws.proofs.MemberRuns.{members_can_run}
use Rattle.fault_campaign.proofs.Bases.{every_members}
use Rattle.fault_campaign.proofs.Given.{gives_as}
use Rattle.fault_points.specs.Points.{faults_at}
use Rattle.plan_defs.specs.declared.plan.Strikes.TheVariants as strikes
use Rattle.fault_campaign.proofs.writing.write_members.Goals as goal

pub write_alone-requires-clause-can_run : goal.write_alone-requires-clause-can_run
write_alone-requires-clause-can_run g c κs within =
    subst (All (CanRunMember c.args.run.now.plan.now))
    (ap (λ s. members_of c.args.run.now.plan.now s c.requires.points.ran) c.in-Faults.is ∙ ap (map alone) (sym c.as_slice.ensures))
    (members_can_run c.args.run.now.plan.now c.requires.points.ran c.requires.valid c.requires.points.is_base)

pub write_alone-requires-clause-right : goal.write_alone-requires-clause-right
write_alone-requires-clause-right g c κs within = c.nothing_known.ensures c.args.run.now.plan.now c.args.run.now.shown.now

pub write_lists-requires-clause-can_run : goal.write_lists-requires-clause-can_run
write_lists-requires-clause-can_run g c κs within =
    subst (All (CanRunMember c.args.run.now.plan.now))
    (ap (λ s. members_of c.args.run.now.plan.now s c.requires.points.ran) c.in-Members.is ∙ sym c.as_slice-in-Members.ensures)
    (members_can_run c.args.run.now.plan.now c.requires.points.ran c.requires.valid c.requires.points.is_base)

pub write_bursts-requires-clause-can_run : goal.write_bursts-requires-clause-can_run
write_bursts-requires-clause-can_run g c κs within =
    subst (All (CanRunMember c.args.run.now.plan.now))
    (sym (every_members c.args.run.now.plan.now c.args.points.now c.as_slice-in-Every.result.now c.requires.points.ran c.requires.points c.requires.points.is_base
    (c.in-Every.is ∙ ap strikes.Every (sym c.as_slice-in-Every.ensures))))
    (members_can_run c.args.run.now.plan.now c.requires.points.ran c.requires.valid c.requires.points.is_base)

pub returns-in-Every : goal.returns-in-Every
returns-in-Every g c own is shown =
    gives_as
    (every_members c.args.run.now.plan.now c.args.points.now c.as_slice-in-Every.result.now own c.requires.points is
    (c.in-Every.is ∙ ap strikes.Every (sym c.as_slice-in-Every.ensures)))
    (c.write_bursts.ensures own shown)
