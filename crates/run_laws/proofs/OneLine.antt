-- A part's first line and the line of an event are one line each.
use Rattle.std.proofs.Common.{◌≡◌, ℕ, ◌==◌, ◌&&◌, nat_le, true, not, List, [], ◌∷◌, ◌++◌, length, refl, sym, ap, ◌∙◌, subst, append_assoc, codes, decimal, arith}
use Rattle.std.proofs.lemmas.Bool.{and_from, and_parts, ne_eqb, not_from_false}
use Rattle.std.proofs.lemmas.Grind.{common_steps}
use Rattle.nook_data.specs.ClassNames.{class_text}
use Rattle.std.specs.List.{list_all}
use Rattle.nook_data.specs.Names.{is_name, is_name_byte}
use Rattle.report_defs.specs.ReportLines.{event_line, event_text, with_number}
use Rattle.report_defs.specs.ReportText.{part_line}
use Rattle.nook_data.specs.declared.classes.Class.{Class}
use Rattle.nook_data.specs.declared.classes.Class.TheVariants as class
use Rattle.nook_data.specs.declared.steps.Event.{Event}
use Rattle.nook_data.specs.declared.scenario.PartSpec.{PartSpec}
use Rattle.run_laws.proofs.Lines.{ended_after, first_line, has_no_feed}
use Rattle.run_laws.proofs.NoFeed.{IsPlain, event_plain, plain}
use Rattle.run_laws.proofs.Words.{decimal_no_feed}
use Rattle.run_laws.specs.Audit.{is_ended, lines_of}

-- a text whose only line feed is its last byte
pub record IsOneLine (line : List ℕ) : Type 0 where
  pub body : List ℕ
  pub is : line ≡ body ++ 10 ∷ []
  pub no_feed : IsPlain body

pub one_line_ended : (line : List ℕ) → IsOneLine line → is_ended line ≡ true
one_line_ended line o = subst (λ text. is_ended text ≡ true) (sym o.is) (ended_after o.body (10 ∷ []) refl)

-- it is the first line of a text that begins with it
pub one_line_first : (line rest : List ℕ) → IsOneLine line → lines_of (line ++ rest) ≡ line ∷ lines_of rest
one_line_first line rest o =
    ap (λ text. lines_of (text ++ rest)) o.is ∙ ap lines_of (append_assoc o.body (10 ∷ []) rest) ∙ first_line o.body rest o.no_feed
    ∙ ap {B = List (List ℕ)} (λ text. text ∷ lines_of rest) (sym o.is)

-- ---- the line of an event

pub event_one_line : (n : ℕ) (e : Event) → IsOneLine (event_line n e)
unfolding event_line
event_one_line n e = record {
  body = decimal n ++ (codes " " ++ event_text e);
  is = sym (append_assoc (decimal n) (codes " " ++ event_text e) (10 ∷ []));
  no_feed = plain (decimal n) (codes " " ++ event_text e) (decimal_no_feed n) (event_plain e);
}

-- ---- a part's first line

name_byte_plain : (byte : ℕ) → is_name_byte byte ≡ true → byte ≡ 10 → ⊥
name_byte_plain byte h e = grind (arith, common_steps)

name_plain : (name : List ℕ) → list_all is_name_byte name ≡ true → IsPlain name
name_plain [] h = refl
name_plain (byte ∷ name) h =
    let parts = and_parts (is_name_byte byte) (list_all is_name_byte name) h in
    and_from (not (byte == 10)) (has_no_feed name) (not_from_false (byte == 10) (ne_eqb byte 10 (name_byte_plain byte parts.0))) (name_plain name parts.1)

named_plain : (name : List ℕ) → is_name name ≡ true → IsPlain name
named_plain name h =
    name_plain name (and_parts (nat_le 1 (length name) && nat_le (length name) 16) (list_all is_name_byte name) h).1

class_plain : (c : Class) → IsPlain (class_text c)
class_plain class.Block = refl
class_plain class.Net = refl
class_plain class.Sound = refl

six_pieces : (a b c d e f feed : List ℕ) → a ++ (b ++ (c ++ (d ++ (e ++ (f ++ feed))))) ≡ (a ++ (b ++ (c ++ (d ++ (e ++ f))))) ++ feed
six_pieces a b c d e f feed = simp append_assoc

pub part_one_line : (index : ℕ) (spec : PartSpec) → is_name spec.name ≡ true → IsOneLine (part_line index spec)
part_one_line index spec h = record {
  body = with_number (codes "part ") index ++ (codes " " ++ (spec.name ++ (codes " " ++ (class_text spec.class ++ with_number (codes " limit ") spec.limit))));
  is = six_pieces (with_number (codes "part ") index) (codes " ") spec.name (codes " ") (class_text spec.class) (with_number (codes " limit ") spec.limit) (10 ∷ []);
  no_feed =
      plain (decimal index) (codes " " ++ (spec.name ++ (codes " " ++ (class_text spec.class ++ with_number (codes " limit ") spec.limit)))) (decimal_no_feed index)
      (plain spec.name (codes " " ++ (class_text spec.class ++ with_number (codes " limit ") spec.limit)) (named_plain spec.name h)
      (plain (class_text spec.class) (with_number (codes " limit ") spec.limit) (class_plain spec.class) (decimal_no_feed spec.limit)));
}
