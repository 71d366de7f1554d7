-- Texts that follow one another.
use Rattle.std.proofs.Common.{◌≡◌, ℕ, suc, ◌+◌, ◌==◌, true, false, if◌then◌else◌, List, [], ◌∷◌, ◌++◌, length, take, drop, refl, sym, ap, ◌∙◌, append_assoc, arith}
use Rattle.std.proofs.lemmas.List.{take-append-drop}
use Rattle.order_defs.specs.OutOfOrder.{lines_in}
use Rattle.journal_audit.proofs.Placing.{feeds_counted}
use Rattle.journal_audit.specs.Position.{Follows, IsNextLine, PassesLine, Position, feeds, past}

pub feeds_both : (a b : List ℕ) → feeds (a ++ b) ≡ feeds a + feeds b
feeds_both [] b = omega arith
feeds_both (byte ∷ a) b =
    let more : feeds (a ++ b) ≡ feeds a + feeds b = feeds_both a b in
    elim (byte == 10) as (λ feed. (if feed then suc (feeds (a ++ b)) else feeds (a ++ b)) ≡ (if feed then suc (feeds a) else feeds a) + feeds b) [
      | true ↦ omega arith
      | false ↦ more
    ]

pub feeds_lines : (text : List ℕ) → feeds text ≡ lines_in text
feeds_lines text = feeds_counted text

pub follows_none : (p : Position) → Follows [] p p
follows_none p = record { rest = refl; number = omega arith }

pub follows_both : (x y : List ℕ) (p q r : Position) → Follows x p q → Follows y q r → Follows (x ++ y) p r
follows_both x y p q r a b =
    let fed : feeds (x ++ y) ≡ feeds x + feeds y = feeds_both x y in
    let first : q.number ≡ p.number + feeds x = a.number in
    let second : r.number ≡ q.number + feeds y = b.number in
    record {
      rest = a.rest ∙ (ap (λ t. x ++ t) b.rest ∙ sym (append_assoc x y r.rest));
      number = omega arith;
    }

-- the next line is passed
pub line_passed : (p : Position) (line : List ℕ) → IsNextLine p line → PassesLine line p (past (length line) p)
line_passed p line n =
    let one : feeds (take (length line) p.rest) ≡ 1 = ap feeds n.front ∙ n.feeds in
    record {
      follows = record {
        rest = sym (take-append-drop (length line) p.rest) ∙ ap (λ l. l ++ drop (length line) p.rest) n.front;
        number = ap (λ l. p.number + feeds l) n.front;
      };
      next = omega arith;
    }
