-- Rows, one after another.
use Rattle.std.proofs.Common.{◌≡◌, ℕ, ◌+◌, ◌<◌, ◌≤◌, ◌==◌, cond, List, [], ◌∷◌, ◌++◌, add-one, ap, drop, get_or, length, map, refl, suc, sym}
use Rattle.std.proofs.Math.Seq.{drop-cons}
use Rattle.std.proofs.lemmas.List.{drop_all}
use Rattle.std.proofs.lemmas.List.Recursion.{same_from_clauses}
use Rattle.std.proofs.lemmas.List.Sums.{sum_by-cons}
use Rattle.std.specs.List.{count_by}
use Rattle.explore_defs.specs.Explored.{outcome_line, rows_of_status}
use Rattle.nook_data.specs.Types.{MemberRow}
use Rattle.order_search.specs.Found.{numbers_in_row, row_lines}
use Rattle.order_search.specs.declared.rows.OutcomeRow.{OutcomeRow}

-- the remaining lines begin with the next one
pub next_row : (rows : List OutcomeRow) (i number : ℕ) (row : OutcomeRow) → i < length rows → row ≡ get_or rows i row →
    row_lines number (drop i rows) ≡ outcome_line number row.numbers row.picks ++ row_lines (number + 1) (drop (i + 1) rows)
next_row rows i number row h e = rw (drop-cons rows i row h, add-one number, add-one i, sym e) refl

-- no line remains after the last one
pub no_row : (rows : List OutcomeRow) (i number : ℕ) → length rows ≤ i → row_lines number (drop i rows) ≡ []
no_row rows i number h = ap (row_lines number) (drop_all i rows h)

-- rows are counted by their numbers
pub count_rows : (status : ℕ) (rows : List OutcomeRow) →
    rows_of_status status (map numbers_in_row rows) ≡ count_by (λ (row : OutcomeRow). row.numbers.status == status) rows
count_rows status rows =
    same_from_clauses (λ (xs : List OutcomeRow). rows_of_status status (map numbers_in_row xs))
    (λ (xs : List OutcomeRow). count_by (λ (row : OutcomeRow). row.numbers.status == status) xs)
    (λ (row : OutcomeRow) (n : ℕ). cond (row.numbers.status == status) 1 0 + n) refl
    (λ row xs. sum_by-cons (λ (numbers : MemberRow). cond (numbers.status == status) 1 0) row.numbers (map numbers_in_row xs))
    (λ row xs. sum_by-cons (λ (row : OutcomeRow). cond (row.numbers.status == status) 1 0) row xs) rows

pub rows_counted : (rows : List OutcomeRow) → length (map numbers_in_row rows) ≡ length rows
rows_counted [] = refl
rows_counted (row ∷ rows) = ap suc (rows_counted rows)
