use Rattle.std.proofs.Common.{◌+◌, ◌-◌, ◌++◌, ◌∙◌, ap, map, subst, sym}
use Rattle.std.specs.Prelude.{All}
use Rattle.std.proofs.lemmas.Result.{err_from_is_err_and}
use Rattle.campaign_defs.specs.Members.{CanRunMember, alone}
use Rattle.fault_campaign.proofs.EveryFaults.{burst_apart, no_turns, turns_in_two}
use Rattle.fault_campaign.proofs.Given.{all_in_back, all_in_front, gives_cut, gives_none, gives_then}
use Rattle.guard_defs.specs.Every.{faults_in}
use Rattle.fault_campaign.proofs.writing.+write_burst.Goals as goal

pub returns-then-turns-eq0 : goal.returns-then-turns-eq0
returns-then-turns-eq0 g t c own shown =
    gives_none c.args.run.now.plan.now own (map alone (faults_in c.args.kinds.now c.args.turns.burst c.args.turns.after c.args.turns.count)) tt _ c.args.totals.now
    (no_turns c.args.kinds.now c.args.turns.burst c.args.turns.after c.args.turns.count c.if-turns-eq0.true)

pub write_alone-requires-clause-can_run : goal.write_alone-requires-clause-can_run
write_alone-requires-clause-can_run g t c κs within =
    let some = c.min-count.result in
    subst (λ faults. All (CanRunMember c.args.run.now.plan.now) (map alone faults)) (sym (c.as_slice.ensures ∙ c.in_ok-faults.ensures))
    (all_in_front (CanRunMember c.args.run.now.plan.now) (map alone (faults_in c.args.kinds.now c.args.turns.burst c.args.turns.after some))
    (map alone (faults_in c.args.kinds.now c.args.turns.burst (c.args.turns.after + some) (c.args.turns.count - some)))
    (map alone (faults_in c.args.kinds.now c.args.turns.burst c.args.turns.after c.args.turns.count))
    (burst_apart c.args.kinds.now c.args.turns.burst c.args.turns.after some (c.args.turns.count - some) c.args.turns.count (turns_in_two c.args.turns.count _ some c.min-count.ensures))
    c.requires.can_run)

pub returns-in_err-write_alone : goal.returns-in_err-write_alone
returns-in_err-write_alone g t c own shown =
    let q = err_from_is_err_and c.from_residual-in_err-write_alone.result c.from_residual-in_err-write_alone.ensures.1 in
    let some = c.min-count.result in
    let more = map alone (faults_in c.args.kinds.now c.args.turns.burst (c.args.turns.after + some) (c.args.turns.count - some)) in
    let apart = burst_apart c.args.kinds.now c.args.turns.burst c.args.turns.after some (c.args.turns.count - some) c.args.turns.count (turns_in_two c.args.turns.count _ some c.min-count.ensures)
    ∙ ap (λ faults. map alone faults ++ more) (sym (c.as_slice.ensures ∙ c.in_ok-faults.ensures)) in
    rw (q.1, q.2)
    (gives_cut c.args.run.now.plan.now own (map alone c.as_slice.result.now) more (map alone (faults_in c.args.kinds.now c.args.turns.burst c.args.turns.after c.args.turns.count)) _ _ _ _ _ apart
    (c.in_err-write_alone.ensures own shown))

pub write_burst-requires-clause-can_run : goal.write_burst-requires-clause-can_run
write_burst-requires-clause-can_run g t c κs within =
    let some = c.min-count.result in
    all_in_back (CanRunMember c.args.run.now.plan.now) (map alone (faults_in c.args.kinds.now c.args.turns.burst c.args.turns.after some))
    (map alone (faults_in c.args.kinds.now c.args.turns.burst (c.args.turns.after + some) (c.args.turns.count - some)))
    (map alone (faults_in c.args.kinds.now c.args.turns.burst c.args.turns.after c.args.turns.count))
    (burst_apart c.args.kinds.now c.args.turns.burst c.args.turns.after some (c.args.turns.count - some) c.args.turns.count (turns_in_two c.args.turns.count _ some c.min-count.ensures))
    c.requires.can_run

pub returns : goal.returns
returns g t c own shown =
    let some = c.min-count.result in
    let more = map alone (faults_in c.args.kinds.now c.args.turns.burst (c.args.turns.after + some) (c.args.turns.count - some)) in
    let apart = burst_apart c.args.kinds.now c.args.turns.burst c.args.turns.after some (c.args.turns.count - some) c.args.turns.count (turns_in_two c.args.turns.count _ some c.min-count.ensures)
    ∙ ap (λ faults. map alone faults ++ more) (sym (c.as_slice.ensures ∙ c.in_ok-faults.ensures)) in
    gives_then c.args.run.now.plan.now own (map alone c.as_slice.result.now) more (map alone (faults_in c.args.kinds.now c.args.turns.burst c.args.turns.after c.args.turns.count)) _ _ _ _ _ _ _ _ apart
    (c.in_ok-write_alone.ensures own shown) (c.write_burst.ensures own shown)
