-- The worked cases hold, by computation.
use Rattle.std.proofs.Common.{◌≡◌, refl, map}
use Rattle.std.specs.List.{AllByRecursion}
use Rattle.worked_rows.specs.Clauses.{Case, IsJudged, clause_cases, further_cases, lossy, lost_there}
use Rattle.nook_data.specs.Clauses.{all_clauses}
use Rattle.promise_defs.specs.Contract.{break_from, first_break}
use Rattle.promise_defs.specs.Losses.{losses}

pub every_clause : map (λ (c : Case). c.clause) clause_cases ≡ all_clauses
every_clause = refl

pub clauses_judged : AllByRecursion IsJudged clause_cases
unfolding first_break break_from
clauses_judged = ((refl, refl), ((refl, refl), ((refl, refl), ((refl, refl), ((refl, refl), ((refl, refl), ((refl, refl), ((refl, refl), ((refl, refl), ((refl, refl), ((refl, refl), ((refl, refl), ((refl, refl), ((refl, refl), ((refl, refl), tt)))))))))))))))

pub further_judged : AllByRecursion IsJudged further_cases
unfolding first_break break_from
further_judged = ((refl, refl), ((refl, refl), ((refl, refl), ((refl, refl), tt))))

pub losses_reported : losses lossy ≡ lost_there
unfolding losses
losses_reported = refl
