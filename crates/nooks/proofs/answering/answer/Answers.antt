use Rattle.std.proofs.Common.{[]}
use Rattle.nooks.proofs.answering.answer.Goals as goal

pub returns-in-Run-clause-ends : goal.returns-in-Run-clause-ends
returns-in-Run-clause-ends g c = rw (c.in-Run.is) c.run_scenario.ensures.ends

pub returns-in-Guard-clause-ends : goal.returns-in-Guard-clause-ends
returns-in-Guard-clause-ends g c = rw (c.in-Guard.is) c.run_guard.ensures.ends

-- no listener hears anything of these subcommands

pub returns-in-Asm-clause-ends : goal.returns-in-Asm-clause-ends
returns-in-Asm-clause-ends g c = rw (c.in-Asm.is) (c.run_asm.ensures.ends [])

pub returns-in-Dis-clause-ends : goal.returns-in-Dis-clause-ends
returns-in-Dis-clause-ends g c = rw (c.in-Dis.is) (c.run_dis.ensures.ends [])

pub returns-in-Audit-clause-ends : goal.returns-in-Audit-clause-ends
returns-in-Audit-clause-ends g c = rw (c.in-Audit.is) (c.run_audit.ensures.ends [])

pub returns-in-Campaign-clause-ends : goal.returns-in-Campaign-clause-ends
returns-in-Campaign-clause-ends g c = rw (c.in-Campaign.is) (c.run_campaign.ensures.ends [])

pub returns-in-List-clause-ends : goal.returns-in-List-clause-ends
returns-in-List-clause-ends g c = rw (c.in-List.is) (c.run_list.ensures.ends [])

pub returns-in-Trace-clause-ends : goal.returns-in-Trace-clause-ends
returns-in-Trace-clause-ends g c = rw (c.in-Trace.is) (c.trace_bytes.ensures.ends [])

pub returns-in-GuardScenario-clause-ends : goal.returns-in-GuardScenario-clause-ends
returns-in-GuardScenario-clause-ends g c = rw (c.in-GuardScenario.is) (c.run_guard_scenario.ensures.ends [])

pub returns-in-Explore-clause-ends : goal.returns-in-Explore-clause-ends
returns-in-Explore-clause-ends g c = rw (c.in-Explore.is) (c.run_explore.ensures.ends [])
