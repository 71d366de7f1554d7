use Rattle.std.proofs.Common.{◌≡◌, false}
use Rattle.turn_lock.specs.Seats.{seat_view, IsSeatOf}
use Rattle.thread_cases.proofs.turn_lock_tests.sees.Given as goal

abbrev pub invariant-loop : goal.invariant-loop
invariant-loop g l = IsSeatOf l.turn l.seat × ((seat_view l.seat).has ≡ false)
