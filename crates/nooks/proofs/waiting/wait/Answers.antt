use Rattle.nooks.proofs.waiting.wait.Goals as goal

pub returns-in-RunThreads-clause-ends : goal.returns-in-RunThreads-clause-ends
returns-in-RunThreads-clause-ends g c = rw (c.in-RunThreads.is) c.run_scenario_by_threads.ensures.ends

pub returns-in-Mirror-clause-ends : goal.returns-in-Mirror-clause-ends
returns-in-Mirror-clause-ends g c = rw (c.in-Mirror.is) c.serve_bytes.ensures.ends
