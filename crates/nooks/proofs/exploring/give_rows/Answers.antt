use Rattle.std.proofs.Common.{Err, ap, inr, map, refl}
use Rattle.order_search.specs.Found.{found_status, found_text, numbers_in_row}
use Rattle.nooks.proofs.Explorations.{rows_begun, rows_written}
use Rattle.nooks.proofs.exploring.give_rows.Goals as goal

pub returns-in-Ok-clause-ends : goal.returns-in-Ok-clause-ends
returns-in-Ok-clause-ends g c scenario explored =
    rows_written scenario (found_text c.args.found.now) (found_status c.args.found.now) _ c.explored_status.result explored
    c.explored_status.ensures c.in-Ok.ensures.ok

pub returns-in-Err-Fault-clause-ends : goal.returns-in-Err-Fault-clause-ends
returns-in-Err-Fault-clause-ends g c scenario explored = (
  c.in-Err-Fault.ensures.fault (ap Err c.in-Err-Fault.field-0-is),
  rows_begun scenario (found_text c.args.found.now) c.args.found.now.is_cut (map numbers_in_row c.args.found.now.rows) _ explored
      c.in-Err-Fault.ensures.err,
)

pub returns-in-Err-NoMemory-clause-ends : goal.returns-in-Err-NoMemory-clause-ends
returns-in-Err-NoMemory-clause-ends g c scenario explored = inr (
    rows_begun scenario (found_text c.args.found.now) c.args.found.now.is_cut (map numbers_in_row c.args.found.now.rows) _ explored
    c.in-Err-NoMemory.ensures.err
    )

pub returns-in-Ok-clause-kept : goal.returns-in-Ok-clause-kept
returns-in-Ok-clause-kept g c other = c.in-Ok.ensures.kept

pub returns-in-Err-Fault-clause-kept : goal.returns-in-Err-Fault-clause-kept
returns-in-Err-Fault-clause-kept g c other = absurd (other refl)

pub returns-in-Err-NoMemory-clause-kept : goal.returns-in-Err-NoMemory-clause-kept
returns-in-Err-NoMemory-clause-kept g c other = c.in-Err-NoMemory.ensures.no_memory (ap Err c.in-Err-NoMemory.field-0-is)
