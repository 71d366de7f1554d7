-- How a text that was written into a comparison is related to the text there.
use Rattle.std.proofs.Common.{◌≡◌, ℕ, ◌+◌, ◌≤◌, ◌==◌, nat_eq, bytes_eq, eq-eqb, true≢false, Bool, true, false, not, Some, None, Result, Ok, Err, List, [], ◌∷◌, ◌++◌, length, take, drop, refl, sym, ap, ◌∙◌, subst, append_assoc, append-nil, arith}
use Rattle.std.proofs.lemmas.List.{drop_at, length-take-le, take-append-drop, take_all, take_at}
use Rattle.std.proofs.lemmas.Bool.{eqb-true}
use Rattle.std.proofs.lemmas.Slice.Eq.{bytes_eq-Decides}
use Rattle.nook_io.specs.Causes.{Rose}
use Rattle.nook_io.specs.Changes.{Change, between}
use Rattle.report_text.specs.Writing.{Wrote}
use Rattle.report_text.specs.declared.write.WriteStop.{WriteStop}
use Rattle.report_text.specs.declared.write.WriteStop.TheVariants as stops
use Rattle.journal_audit.specs.Comparisons.{Comparison, change_in, is_other, list_of, untouched, written_in}
use Rattle.journal_audit.specs.Position.{Departs, Follows, Position, begins_with, feeds, past}

-- what was written, as the change of a sink that was empty
abbrev pub taken_change : Comparison → Change
taken_change c =
    between (record { contents = Some []; errors = 0 }) (record { contents = Some (written_in c); errors = c.faults })

-- a text was written into a comparison that had taken nothing, without running out of memory
pub record Written (c : Comparison) (written : Result (Unit {0}) WriteStop) (text : List ℕ) : Type 0 where
  pub enough : written ≡ Err stops.NoMemory → ⊥
  pub faults : c.wrong ≡ None → c.faults ≡ 0
  pub wrote : Wrote (taken_change c) written text

-- all was taken: it is a prefix of the text there
pub taken_whole : (c : Comparison) (written : Result (Unit {0}) WriteStop) (text : List ℕ) → Written c written text → c.wrong ≡ None
    → text ≡ take c.at c.text
taken_whole c (Ok done) text w e = sym w.wrote.ok ∙ (ap (λ wrong. take c.at c.text ++ list_of wrong) e ∙ append-nil (take c.at c.text))
taken_whole c (Err stops.Fault) text w e = absurd (let none : c.faults ≡ 0 = w.faults e in let rose : Rose 0 c.faults = w.wrote.fault refl in omega arith)
taken_whole c (Err stops.NoMemory) text w e = absurd (w.enough refl)

-- a text that differs at a byte
pub record Differs (c : Comparison) (byte : ℕ) (text : List ℕ) : Type 0 where
  pub more : List ℕ
  pub is : text ≡ take c.at c.text ++ byte ∷ more

pub taken_other : (c : Comparison) (written : Result (Unit {0}) WriteStop) (text : List ℕ) (byte : ℕ) → Written c written text
    → c.wrong ≡ Some byte → Differs c byte text
taken_other c (Ok done) text byte w e = record { more = []; is = sym w.wrote.ok ∙ ap (λ wrong. take c.at c.text ++ list_of wrong) e }
taken_other c (Err stops.Fault) text byte w e = record {
  more = w.wrote.err.rest;
  is =
      sym w.wrote.err.whole
      ∙ (ap (λ front. front ++ w.wrote.err.rest) (sym w.wrote.err.gained ∙ ap (λ wrong. take c.at c.text ++ list_of wrong) e)
      ∙ append_assoc (take c.at c.text) (byte ∷ []) w.wrote.err.rest);
}
taken_other c (Err stops.NoMemory) text byte w e = absurd (w.enough refl)

pub not_true : (b : Bool) → not b ≡ true → b ≡ false
not_true true h = absurd (cc)
not_true false h = refl

-- ---- a sink that reports what it holds

kept_text : (t text front written : List ℕ) → length text ∷ (text ++ written) ≡ length t ∷ ((t ++ []) ++ front) → text ≡ t
kept_text t text front written e =
    let long : length text ≡ length t = cc in
    let same : text ++ written ≡ (t ++ []) ++ front = cc in
    sym (take_at text written (length text) refl)
    ∙ (ap (take (length text)) (same ∙ ap (λ l. l ++ front) (append-nil t)) ∙ take_at t front (length text) (sym long))

kept_written : (t text front written : List ℕ) → length text ∷ (text ++ written) ≡ length t ∷ ((t ++ []) ++ front) → written ≡ front
kept_written t text front written e =
    let long : length text ≡ length t = cc in
    let same : text ++ written ≡ (t ++ []) ++ front = cc in
    sym (drop_at text written (length text) refl)
    ∙ (ap (drop (length text)) (same ∙ ap (λ l. l ++ front) (append-nil t)) ∙ drop_at t front (length text) (sym long))

-- a write into a comparison with a text, described only by what the sink holds
pub record Held (c : Comparison) (t : List ℕ) (written : Result (Unit {0}) WriteStop) (text : List ℕ) : Type 0 where
  pub is : Wrote (change_in (untouched t) c) written text

-- the text is the same
pub text_kept : (c : Comparison) (t : List ℕ) (written : Result (Unit {0}) WriteStop) (text : List ℕ) → Held c t written text → c.text ≡ t
text_kept c t (Ok done) text h = kept_text t c.text text (written_in c) h.is.ok
text_kept c t (Err stop) text h = kept_text t c.text h.is.err.front (written_in c) h.is.err.gained

-- and what was written is known
pub written_kept : (c : Comparison) (t : List ℕ) (written : Result (Unit {0}) WriteStop) (text : List ℕ) → Held c t written text
    → Wrote (taken_change c) written text
written_kept c t (Ok done) text h = record {
  ok = kept_written t c.text text (written_in c) h.is.ok;
  err = tt;
  later = h.is.later;
  fault = h.is.fault;
  kept = h.is.kept;
  no_memory = h.is.no_memory;
}
written_kept c t (Err stop) text h = record {
  ok = tt;
  err = record {
    front = h.is.err.front;
    rest = h.is.err.rest;
    gained = kept_written t c.text h.is.err.front (written_in c) h.is.err.gained;
    whole = h.is.err.whole;
  };
  later = h.is.later;
  fault = h.is.fault;
  kept = h.is.kept;
  no_memory = h.is.no_memory;
}

-- ---- a whole text

not_equal : (line text : List ℕ) → (line ≡ text → ⊥) → bytes_eq line text ≡ false
not_equal line text differs =
    elim (bytes_eq line text) as (λ same. bytes_eq line text ≡ same → bytes_eq line text ≡ false) [
      | true ↦ λ h. absurd (differs ((bytes_eq-Decides line text).0 h))
      | false ↦ λ h. h
    ] refl

-- no byte was wrong: it is the whole text there if all of that was taken
pub taken_all : (c : Comparison) (line : List ℕ) (written : Result (Unit {0}) WriteStop) (text : List ℕ) → c.text ≡ line
    → Written c written text → c.wrong ≡ None → c.at ≤ length c.text → nat_eq c.at (length line) ≡ bytes_eq line text
taken_all c line written text at w e within =
    elim (nat_eq c.at (length line)) as (λ all. nat_eq c.at (length line) ≡ all → all ≡ bytes_eq line text) [
      | true ↦ λ h.
          let many : length line ≤ c.at = let n : c.at ≡ length line = eqb-true c.at (length line) h in omega arith in
          sym ((bytes_eq-Decides line text).1 (sym (same ∙ take_all c.at line many)))
      | false ↦ λ h. sym (not_equal line text (λ q. absurd (true≢false (sym (eq-eqb c.at (length line) (long q)) ∙ h))))
    ] refl
  where
    same : text ≡ take c.at line
    same = taken_whole c written text w e ∙ ap (take c.at) at

    long : line ≡ text → c.at ≡ length line
    long q = sym (ap length (q ∙ same) ∙ length-take-le c.at line (subst (λ l. c.at ≤ length l) at within))

-- a byte was wrong: it is another text
pub taken_wrong : (c : Comparison) (line : List ℕ) (written : Result (Unit {0}) WriteStop) (text : List ℕ) (byte : ℕ) → c.text ≡ line
    → Written c written text → c.wrong ≡ Some byte → is_other c.wrong (drop c.at c.text) ≡ true → bytes_eq line text ≡ false
taken_wrong c line written text byte at w e other = not_equal line text unlike
  where
    left : (d : Differs c byte text) → line ≡ text → drop c.at c.text ≡ byte ∷ d.more
    left d q =
        sym (drop_at (take c.at c.text) (drop c.at c.text) (length (take c.at c.text)) refl)
        ∙ (ap (drop (length (take c.at c.text))) (take-append-drop c.at c.text ∙ (at ∙ (q ∙ d.is)))
        ∙ drop_at (take c.at c.text) (byte ∷ d.more) (length (take c.at c.text)) refl)

    unlike : line ≡ text → ⊥
    unlike q =
        let d : Differs c byte text = taken_other c written text byte w e in
        let other_byte : is_other (Some byte) (drop c.at c.text) ≡ true = ap (λ wrong. is_other wrong (drop c.at c.text)) (sym e) ∙ other in
        let differs : not (byte == byte) ≡ true = sym (ap (is_other (Some byte)) (left d q)) ∙ other_byte in
        true≢false (sym (eq-eqb byte byte refl) ∙ not_true (byte == byte) differs)

-- ---- from a position on

pub follows_taken : (p : Position) (c : Comparison) (written : Result (Unit {0}) WriteStop) (text : List ℕ) → c.text ≡ p.rest
    → Written c written text → c.wrong ≡ None → Follows text p (past c.at p)
follows_taken p c written text at w e =
    let same : text ≡ take c.at p.rest = taken_whole c written text w e ∙ ap (take c.at) at in
    record {
      rest = sym (take-append-drop c.at p.rest) ∙ ap (λ front. front ++ drop c.at p.rest) (sym same);
      number = ap (λ front. p.number + feeds front) (sym same);
    }

pub departs_taken : (p : Position) (c : Comparison) (written : Result (Unit {0}) WriteStop) (text : List ℕ) (byte : ℕ) → c.text ≡ p.rest
    → Written c written text → c.wrong ≡ Some byte → is_other c.wrong (drop c.at c.text) ≡ true → Departs text p (past c.at p).number
departs_taken p c written text byte at w e other =
    let d : Differs c byte text = taken_other c written text byte w e in
    record {
      front = take c.at p.rest;
      byte = byte;
      more = d.more;
      left = drop c.at p.rest;
      whole = d.is ∙ ap (λ t. take c.at t ++ byte ∷ d.more) at;
      rest = sym (take-append-drop c.at p.rest);
      other = not_true (begins_with byte (drop c.at p.rest)) (sym (ap (λ t. is_other (Some byte) (drop c.at t)) at) ∙ (ap (λ wrong. is_other wrong (drop c.at c.text)) (sym e) ∙ other));
      at = refl;
    }
