use Rattle.nooks.proofs.Called.{form_ended, waiting_asks, words_complete, words_kept, words_read_fault, words_safe, words_write_fault, words_written}
use Rattle.command_forms.specs.Forms.{form_for}
use Rattle.nooks.proofs.program.run.Goals as goal

-- the arguments of a subcommand that waits

pub returns-in-Some-clause-written : goal.returns-in-Some-clause-written
returns-in-Some-clause-written g c = words_written _ _ _ _ c.read_and_wait.result
    (form_ended _ (form_for c.in-Some.asked) _ _ _ c.read_and_wait.result c.in-Some.ensures.found c.read_and_wait.ensures.ends
    c.read_and_wait.ensures.taken c.read_and_wait.ensures.source_later c.read_and_wait.ensures.sink_later
    c.read_and_wait.ensures.source_kept c.read_and_wait.ensures.sink_kept)

pub returns-in-Some-clause-safe : goal.returns-in-Some-clause-safe
returns-in-Some-clause-safe g c = words_safe _ _ _ _ c.read_and_wait.result
    (form_ended _ (form_for c.in-Some.asked) _ _ _ c.read_and_wait.result c.in-Some.ensures.found c.read_and_wait.ensures.ends
    c.read_and_wait.ensures.taken c.read_and_wait.ensures.source_later c.read_and_wait.ensures.sink_later
    c.read_and_wait.ensures.source_kept c.read_and_wait.ensures.sink_kept)

pub returns-in-Some-clause-guarded : goal.returns-in-Some-clause-guarded
returns-in-Some-clause-guarded g c = words_kept _ _ _ _ c.read_and_wait.result
    (form_ended _ (form_for c.in-Some.asked) _ _ _ c.read_and_wait.result c.in-Some.ensures.found c.read_and_wait.ensures.ends
    c.read_and_wait.ensures.taken c.read_and_wait.ensures.source_later c.read_and_wait.ensures.sink_later
    c.read_and_wait.ensures.source_kept c.read_and_wait.ensures.sink_kept)

pub returns-in-Some-clause-read_fault : goal.returns-in-Some-clause-read_fault
returns-in-Some-clause-read_fault g c = (
  λ e. (
    words_read_fault _ _ _ _ c.read_and_wait.result
        (form_ended _ (form_for c.in-Some.asked) _ _ _ c.read_and_wait.result c.in-Some.ensures.found c.read_and_wait.ensures.ends
        c.read_and_wait.ensures.taken c.read_and_wait.ensures.source_later c.read_and_wait.ensures.sink_later
        c.read_and_wait.ensures.source_kept c.read_and_wait.ensures.sink_kept) e,
    c.read_and_wait.ensures.unwritten e,
  ),
  c.read_and_wait.ensures.source_kept,
)

pub returns-in-Some-clause-write_fault : goal.returns-in-Some-clause-write_fault
returns-in-Some-clause-write_fault g c = (
  words_write_fault _ _ _ _ c.read_and_wait.result
      (form_ended _ (form_for c.in-Some.asked) _ _ _ c.read_and_wait.result c.in-Some.ensures.found c.read_and_wait.ensures.ends
      c.read_and_wait.ensures.taken c.read_and_wait.ensures.source_later c.read_and_wait.ensures.sink_later
      c.read_and_wait.ensures.source_kept c.read_and_wait.ensures.sink_kept),
  c.read_and_wait.ensures.sink_kept,
)

pub returns-in-Some-clause-complete : goal.returns-in-Some-clause-complete
returns-in-Some-clause-complete g c = words_complete _ _ _ _ c.read_and_wait.result
    (form_ended _ (form_for c.in-Some.asked) _ _ _ c.read_and_wait.result c.in-Some.ensures.found c.read_and_wait.ensures.ends
    c.read_and_wait.ensures.taken c.read_and_wait.ensures.source_later c.read_and_wait.ensures.sink_later
    c.read_and_wait.ensures.source_kept c.read_and_wait.ensures.sink_kept)

pub returns-in-Some-clause-taken : goal.returns-in-Some-clause-taken
returns-in-Some-clause-taken g c =
    (form_ended _ (form_for c.in-Some.asked) _ _ _ c.read_and_wait.result c.in-Some.ensures.found c.read_and_wait.ensures.ends
    c.read_and_wait.ensures.taken c.read_and_wait.ensures.source_later c.read_and_wait.ensures.sink_later
    c.read_and_wait.ensures.source_kept c.read_and_wait.ensures.sink_kept).taken

pub returns-in-Some-clause-unread : goal.returns-in-Some-clause-unread
returns-in-Some-clause-unread g c unread = waiting_asks _ c.in-Some.asked c.in-Some.ensures.found unread

-- all other arguments

pub returns-in-None-clause-written : goal.returns-in-None-clause-written
returns-in-None-clause-written g c = words_written _ _ _ _ c.run_alone.result c.run_alone.ensures.ends

pub returns-in-None-clause-safe : goal.returns-in-None-clause-safe
returns-in-None-clause-safe g c = words_safe _ _ _ _ c.run_alone.result c.run_alone.ensures.ends

pub returns-in-None-clause-guarded : goal.returns-in-None-clause-guarded
returns-in-None-clause-guarded g c = words_kept _ _ _ _ c.run_alone.result c.run_alone.ensures.ends

pub returns-in-None-clause-read_fault : goal.returns-in-None-clause-read_fault
returns-in-None-clause-read_fault g c = (
  λ e. (words_read_fault _ _ _ _ c.run_alone.result c.run_alone.ensures.ends e, c.run_alone.ensures.unwritten e),
  c.run_alone.ensures.ends.source_kept,
)

pub returns-in-None-clause-write_fault : goal.returns-in-None-clause-write_fault
returns-in-None-clause-write_fault g c = (
  words_write_fault _ _ _ _ c.run_alone.result c.run_alone.ensures.ends,
  c.run_alone.ensures.ends.sink_kept,
)

pub returns-in-None-clause-complete : goal.returns-in-None-clause-complete
returns-in-None-clause-complete g c = words_complete _ _ _ _ c.run_alone.result c.run_alone.ensures.ends

pub returns-in-None-clause-taken : goal.returns-in-None-clause-taken
returns-in-None-clause-taken g c = c.run_alone.ensures.ends.taken

pub returns-in-None-clause-later : goal.returns-in-None-clause-later
returns-in-None-clause-later g c = (c.run_alone.ensures.ends.source_later, c.run_alone.ensures.ends.sink_later)
