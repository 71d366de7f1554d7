-- The lines of a text, and a due text compared with the lines that come.
use Rattle.std.proofs.Common.{◌≡◌, ℕ, suc, ◌+◌, ◌==◌, ◌||◌, ◌&&◌, Bool, true, false, if◌then◌else◌, Some, None, List, [], ◌∷◌, ◌++◌, refl, sym, ap, ◌∙◌, append_assoc, append-nil, add-zero, arith}
use Rattle.std.proofs.lemmas.Bool.{eq-eqb, eqb-true}
use Rattle.run_laws.specs.Audit.{Auditing, after_line, rest_after, first_unfit, has_nothing, is_ended, lines_of}
use Rattle.nook_data.specs.declared.scenario.Scenario.{Scenario}
use Rattle.journal_audit.specs.Found.{found_from}
use Rattle.journal_audit.specs.Position.{Departs, Follows, Position, begins_with, feeds}

-- ---- lines

-- a text has a line feed
abbrev pub has_feed : List ℕ → Bool
has_feed [] = false
has_feed (byte ∷ text) = (byte == 10) || has_feed text

pub or_left : (a b : Bool) → a || b ≡ false → a ≡ false
or_left true b h = cc
or_left false b h = refl

pub or_right : (a b : Bool) → a || b ≡ false → b ≡ false
or_right true b h = absurd (cc)
or_right false b h = h

pub line_split : (p rest : List ℕ) → has_feed p ≡ false → lines_of (p ++ 10 ∷ rest) ≡ (p ++ 10 ∷ []) ∷ lines_of rest
unfolding lines_of
line_split [] rest h = refl
line_split (byte ∷ p) rest h =
    rw (or_left (byte == 10) (has_feed p) h, line_split p rest (or_right (byte == 10) (has_feed p) h)) refl

pub last_line : (byte : ℕ) (p : List ℕ) → has_feed (byte ∷ p) ≡ false → lines_of (byte ∷ p) ≡ (byte ∷ p) ∷ []
unfolding lines_of
last_line byte [] h = rw (or_left (byte == 10) false h) refl
last_line byte (next ∷ p) h =
    rw (or_left (byte == 10) (has_feed (next ∷ p)) h, last_line next p (or_right (byte == 10) (has_feed (next ∷ p)) h)) refl

pub ended : (p : List ℕ) → is_ended (p ++ 10 ∷ []) ≡ true
ended [] = refl
ended (byte ∷ []) = refl
ended (byte ∷ next ∷ p) = ended (next ∷ p)

pub unended : (p : List ℕ) → has_feed p ≡ false → is_ended p ≡ false
unended [] h = refl
unended (byte ∷ []) h = or_left (byte == 10) false h
unended (byte ∷ next ∷ p) h = unended (next ∷ p) (or_right (byte == 10) (has_feed (next ∷ p)) h)

feed_free : (p : List ℕ) (byte : ℕ) → has_feed p ≡ false → (byte == 10) ≡ false → has_feed (p ++ byte ∷ []) ≡ false
feed_free [] byte h e = rw e refl
feed_free (first ∷ p) byte h e =
    rw (or_left (first == 10) (has_feed p) h) (feed_free p byte (or_right (first == 10) (has_feed p) h) e)

-- a line's prefix
pub record Fronted (p : List ℕ) (byte : ℕ) (text : List ℕ) : Type 0 where
  pub more : List ℕ
  pub lines : List (List ℕ)
  pub is : lines_of text ≡ (p ++ byte ∷ more) ∷ lines

first_front : (byte : ℕ) (rest : List ℕ) (lines : List (List ℕ)) (feed : Bool) → lines_of rest ≡ lines → (byte == 10) ≡ feed
    → Fronted [] byte (byte ∷ rest)
unfolding lines_of
first_front byte rest lines true e b =
    let ten : byte ≡ 10 = eqb-true byte 10 b in
    record { more = []; lines = lines_of rest; is = rw (b, ten) refl }
first_front byte rest [] false e b = record { more = []; lines = []; is = rw (b, e) refl }
first_front byte rest (line ∷ lines) false e b = record { more = line; lines = lines; is = rw (b, e) refl }

longer_front : (first : ℕ) (p : List ℕ) (byte : ℕ) (text : List ℕ) → (first == 10) ≡ false → Fronted p byte text
    → Fronted (first ∷ p) byte (first ∷ text)
unfolding lines_of
longer_front first p byte text e f = record { more = f.more; lines = f.lines; is = rw (e, f.is) refl }

pub fronted : (p : List ℕ) (byte : ℕ) (rest : List ℕ) → has_feed p ≡ false → Fronted p byte (p ++ byte ∷ rest)
fronted [] byte rest h = first_front byte rest (lines_of rest) (byte == 10) refl refl
fronted (first ∷ p) byte rest h =
    longer_front first p byte (p ++ byte ∷ rest) (or_left (first == 10) (has_feed p) h)
    (fronted p byte rest (or_right (first == 10) (has_feed p) h))

-- ---- what follows a line

following_line : (p due : List ℕ) → rest_after (p ++ 10 ∷ []) (p ++ 10 ∷ due) ≡ Some due
following_line [] due = refl
following_line (byte ∷ p) due = rw (eq-eqb byte byte refl) (following_line p due)

after_other : (p : List ℕ) (byte : ℕ) (more : List ℕ) (expected : ℕ) (due : List ℕ) → (byte == expected) ≡ false
    → rest_after (p ++ byte ∷ more) (p ++ expected ∷ due) ≡ None
after_other [] byte more expected due e = rw e refl
after_other (first ∷ p) byte more expected due e = rw (eq-eqb first first refl) (after_other p byte more expected due e)

-- ---- a text that is due

-- the same auditor, waiting for a text
abbrev pub owing : Auditing → List ℕ → Auditing
owing a due = record a { due = due }

after_owed : (scenario : Scenario) (a : Auditing) (p due : List ℕ)
    → after_line scenario (owing a (p ++ 10 ∷ due)) (p ++ 10 ∷ []) ≡ Some (owing a due)
unfolding after_line
after_owed scenario a [] due = refl
after_owed scenario a (byte ∷ p) due = rw (ended (byte ∷ p), eq-eqb byte byte refl, following_line p due) refl

not_next : (scenario : Scenario) (a : Auditing) (p : List ℕ) (byte : ℕ) (more : List ℕ) (expected : ℕ) (due : List ℕ) (feed : Bool)
    → is_ended (p ++ byte ∷ more) ≡ feed → (byte == expected) ≡ false
    → after_line scenario (owing a (p ++ expected ∷ due)) (p ++ byte ∷ more) ≡ None
unfolding after_line
not_next scenario a p byte more expected due false f e = rw f refl
not_next scenario a [] byte more expected due true f e = rw (f, e) refl
not_next scenario a (first ∷ p) byte more expected due true f e =
    rw (f, eq-eqb first first refl, after_other p byte more expected due e) refl

owed_step : (scenario : Scenario) (a : Auditing) (p due : List ℕ) (number : ℕ) (lines : List (List ℕ))
    → first_unfit scenario (owing a (p ++ 10 ∷ due)) number ((p ++ 10 ∷ []) ∷ lines)
    ≡ first_unfit scenario (owing a due) (suc number) lines
unfolding first_unfit
owed_step scenario a p due number lines = rw (after_owed scenario a p due, first_unfit) refl

-- a due text ends a line, or it is empty and no line is begun
abbrev closes : List ℕ → List ℕ → Bool
closes p [] = has_nothing p
closes p (byte ∷ due) = is_ended (byte ∷ due)

closes_on : (p : List ℕ) (byte : ℕ) (due : List ℕ) → (byte == 10) ≡ false → closes p (byte ∷ due) ≡ true
    → closes (p ++ byte ∷ []) due ≡ true
closes_on p byte [] e h = absurd (cc)
closes_on p byte (next ∷ due) e h = h

closes_line : (byte : ℕ) (due : List ℕ) → is_ended (byte ∷ due) ≡ true → closes [] due ≡ true
closes_line byte [] h = refl
closes_line byte (next ∷ due) h = h

none_begun : (scenario : Scenario) (a : Auditing) (rest p : List ℕ) (number : ℕ) → closes p [] ≡ true
    → first_unfit scenario (owing a (p ++ [])) number (lines_of (p ++ rest))
    ≡ first_unfit scenario (owing a []) (number + 0) (lines_of rest)
none_begun scenario a rest [] number h = rw (add-zero number) refl
none_begun scenario a rest (byte ∷ p) number h = absurd (cc)

more_lines : (number count : ℕ) → suc number + count ≡ number + suc count
more_lines number count = omega arith

due_fits : (scenario : Scenario) (a : Auditing) (due rest p : List ℕ) (number : ℕ) → has_feed p ≡ false → closes p due ≡ true
    → first_unfit scenario (owing a (p ++ due)) number (lines_of (p ++ (due ++ rest)))
    ≡ first_unfit scenario (owing a []) (number + feeds due) (lines_of rest)
due_fits scenario a [] rest p number h c = none_begun scenario a rest p number c
due_fits scenario a (byte ∷ due) rest p number h c =
    elim (byte == 10) as (λ feed. (byte == 10) ≡ feed
    → first_unfit scenario (owing a (p ++ byte ∷ due)) number (lines_of (p ++ byte ∷ (due ++ rest)))
    ≡ first_unfit scenario (owing a []) (number + (if feed then suc (feeds due) else feeds due)) (lines_of rest)) [
      | true ↦ λ e.
          let ten : byte ≡ 10 = eqb-true byte 10 e in
          rw (ten, line_split p (due ++ rest) h)
          (owed_step scenario a p due number (lines_of (due ++ rest))
          ∙ (due_fits scenario a due rest [] (suc number) refl (closes_line byte due c)
          ∙ ap (λ n. first_unfit scenario (owing a []) n (lines_of rest)) (more_lines number (feeds due))))
      | false ↦ λ e.
          rw (← append_assoc p (byte ∷ []) due, ← append_assoc p (byte ∷ []) (due ++ rest))
          (due_fits scenario a due rest (p ++ byte ∷ []) number (feed_free p byte h e) (closes_on p byte due e c))
    ] refl

-- the line is the last one, and has no line feed
pub unended_line : (scenario : Scenario) (a : Auditing) (line : List ℕ) → is_ended line ≡ false → after_line scenario a line ≡ None
unfolding after_line
unended_line scenario a line e = rw e refl

-- the first of some lines does not fit
pub unfit_here : (scenario : Scenario) (a : Auditing) (number : ℕ) (line : List ℕ) (lines : List (List ℕ))
    → after_line scenario a line ≡ None → first_unfit scenario a number (line ∷ lines) ≡ Some number
unfolding first_unfit
unfit_here scenario a number line lines e = rw (e, first_unfit) refl

none_left : (scenario : Scenario) (a : Auditing) (byte : ℕ) (due : List ℕ) (number : ℕ)
    → first_unfit scenario (owing a (byte ∷ due)) number [] ≡ Some number
unfolding first_unfit
none_left scenario a byte due number =
    elim a.last as (λ last. (if last && false then None else Some number) ≡ Some number) [ true ↦ refl | false ↦ refl ]

-- a text does not continue as it should
stuck_at : (scenario : Scenario) (a : Auditing) (p : List ℕ) (byte : ℕ) (due left : List ℕ) (number : ℕ) → has_feed p ≡ false
    → begins_with byte left ≡ false
    → first_unfit scenario (owing a (p ++ byte ∷ due)) number (lines_of (p ++ left)) ≡ Some number
unfolding lines_of
stuck_at scenario a [] byte due [] number h b = none_left scenario a byte due number
stuck_at scenario a (first ∷ p) byte due [] number h b =
    rw (append-nil p, last_line first p h)
    (unfit_here scenario (owing a (first ∷ (p ++ byte ∷ due))) number (first ∷ p) []
    (unended_line scenario (owing a (first ∷ (p ++ byte ∷ due))) (first ∷ p) (unended (first ∷ p) h)))
stuck_at scenario a p byte due (next ∷ left) number h b =
    let f : Fronted p next (p ++ next ∷ left) = fronted p next left h in
    rw (f.is)
    (unfit_here scenario (owing a (p ++ byte ∷ due)) number (p ++ next ∷ f.more) f.lines
    (not_next scenario a p next f.more byte due (is_ended (p ++ next ∷ f.more)) refl b))

due_departs : (scenario : Scenario) (a : Auditing) (front p : List ℕ) (byte : ℕ) (more left : List ℕ) (number : ℕ)
    → has_feed p ≡ false → begins_with byte left ≡ false
    → first_unfit scenario (owing a (p ++ (front ++ byte ∷ more))) number (lines_of (p ++ (front ++ left)))
    ≡ Some (number + feeds front)
due_departs scenario a [] p byte more left number h b =
    rw (add-zero number) (stuck_at scenario a p byte more left number h b)
due_departs scenario a (first ∷ front) p byte more left number h b =
    elim (first == 10) as (λ feed. (first == 10) ≡ feed
    → first_unfit scenario (owing a (p ++ first ∷ (front ++ byte ∷ more))) number (lines_of (p ++ first ∷ (front ++ left)))
    ≡ Some (number + (if feed then suc (feeds front) else feeds front))) [
      | true ↦ λ e.
          let ten : first ≡ 10 = eqb-true first 10 e in
          rw (ten, line_split p (front ++ left) h)
          (owed_step scenario a p (front ++ byte ∷ more) number (lines_of (front ++ left))
          ∙ (due_departs scenario a front [] byte more left (suc number) refl b
          ∙ ap Some (more_lines number (feeds front))))
      | false ↦ λ e.
          rw (← append_assoc p (first ∷ []) (front ++ byte ∷ more), ← append_assoc p (first ∷ []) (front ++ left))
          (due_departs scenario a front (p ++ first ∷ []) byte more left number (feed_free p first h e) b)
    ] refl

-- ---- a due text, from a position on

closes_ended : (text : List ℕ) → is_ended text ≡ true → closes [] text ≡ true
closes_ended [] h = refl
closes_ended (byte ∷ text) h = h

-- the text is at the position: what comes after it is as if the text had not been due
pub due_followed : (scenario : Scenario) (a : Auditing) (text : List ℕ) (p q : Position) → is_ended text ≡ true
    → Follows text p q → found_from scenario (owing a text) p ≡ found_from scenario (owing a []) q
due_followed scenario a text p q h f =
    ap (λ rest. first_unfit scenario (owing a text) p.number (lines_of rest)) f.rest
    ∙ (due_fits scenario a text q.rest [] p.number refl (closes_ended text h)
    ∙ ap (λ n. first_unfit scenario (owing a []) n (lines_of q.rest)) (sym f.number))

-- the text is not there: the line of the first byte that differs does not fit
pub due_departed : (scenario : Scenario) (a : Auditing) (text : List ℕ) (p : Position) (line : ℕ) → is_ended text ≡ true
    → Departs text p line → found_from scenario (owing a text) p ≡ Some line
due_departed scenario a text p line h d =
    ap (λ due. first_unfit scenario (owing a due) p.number (lines_of p.rest)) d.whole
    ∙ (ap (λ rest. first_unfit scenario (owing a (d.front ++ d.byte ∷ d.more)) p.number (lines_of rest)) d.rest
    ∙ (due_departs scenario a d.front [] d.byte d.more d.left p.number refl d.other
    ∙ ap Some (sym d.at)))
