-- Pieces of a line, one after another.
use Rattle.std.proofs.Common.{◌≡◌, ℕ, List, ◌++◌, ap, append_assoc, codes, if◌then◌else◌, length, map, sym, ◌∙◌}
use Rattle.explore_defs.specs.Explored.{explored_line}
use Rattle.explored_text.proofs.Rows.{rows_counted}
use Rattle.explored_text.specs.Ends.{last_end}
use Rattle.order_search.specs.Found.{numbers_in_row}
use Rattle.order_search.specs.declared.rows.Explored.{Explored}
use Rattle.order_search.specs.declared.rows.OutcomeRow.{OutcomeRow}
use Rattle.report_defs.specs.ReportLines.{with_number}

pub four : (line x y z end a b c d : List ℕ) → x ≡ line ++ a → y ≡ x ++ b → z ≡ y ++ c → end ≡ z ++ d
    → end ≡ line ++ (a ++ (b ++ (c ++ d)))
four line x y z end a b c d p q r s = rw (s, r, q, p) (simp append_assoc)

three : (line x y end a b c : List ℕ) → x ≡ line ++ a → y ≡ x ++ b → end ≡ y ++ c → end ≡ line ++ (a ++ (b ++ c))
three line x y end a b c p q r = rw (r, q, p) (simp append_assoc)

-- the last line
pub last_line : (found : Explored) (line x y end text : List ℕ) (count : ℕ) (rows : List OutcomeRow)
    → text ≡ (if found.is_cut then codes "explored front " else codes "explored ") → count ≡ length found.rows → rows ≡ found.rows
    → x ≡ line ++ with_number text found.states → y ≡ x ++ with_number (codes " states ") count
    → end ≡ y ++ last_end (map numbers_in_row rows)
    → end ≡ line ++ explored_line found.is_cut found.states (map numbers_in_row found.rows)
last_line found line x y end text count rows headed counted same p q r =
    three line x y end (with_number text found.states) (with_number (codes " states ") count) (last_end (map numbers_in_row rows)) p q r
    ∙ (ap (λ t. line ++ (with_number t found.states ++ (with_number (codes " states ") count ++ last_end (map numbers_in_row rows)))) headed
    ∙ (ap (λ n. line ++ (with_number (if found.is_cut then codes "explored front " else codes "explored ") found.states
    ++ (with_number (codes " states ") n ++ last_end (map numbers_in_row rows)))) (counted ∙ sym (rows_counted found.rows))
    ∙ ap (λ xs. line ++ (with_number (if found.is_cut then codes "explored front " else codes "explored ") found.states
    ++ (with_number (codes " states ") (length (map numbers_in_row found.rows)) ++ last_end (map numbers_in_row xs)))) same))
