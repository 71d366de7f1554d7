use Rattle.std.specs.Prelude.{ℕ, List, ◌++◌, codes}
use Rattle.explore_defs.specs.Explored.{rows_of_status}
use Rattle.nook_data.specs.Types.{MemberRow}
use Rattle.report_defs.specs.ReportLines.{line_feed, with_list, with_number}

-- The ends of the lines.

-- ` failures F gone G lost L picks [..]`
abbrev pub row_end : MemberRow → List ℕ → List ℕ
row_end row picks =
    with_number (codes " failures ") row.failures ++ (with_number (codes " gone ") row.gone
    ++ (with_number (codes " lost ") row.lost ++ (with_list (codes " picks ") picks ++ line_feed)))

-- ` outcomes kept A given_up B broken C`
abbrev pub last_end : List MemberRow → List ℕ
last_end rows =
    with_number (codes " outcomes kept ") (rows_of_status 0 rows)
    ++ (with_number (codes " given_up ") (rows_of_status 1 rows)
    ++ (with_number (codes " broken ") (rows_of_status 7 rows) ++ line_feed))
