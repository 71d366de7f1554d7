-- A text compared with what is written instead of it.
use Rattle.std.proofs.Common.{◌≡◌, ◌<◌, ◌≤◌, ℕ, suc, zero, ◌+◌, ◌==◌, Bool, true, false, Option, Some, None, is_some, List, [], ◌∷◌, ◌++◌, length, take, drop, get_or, refl, sym, ap, ◌∙◌, arith, append_assoc, append-nil}
use Rattle.std.proofs.lemmas.List.{take_more}
use Rattle.std.proofs.Math.Seq.{take-add}
use Rattle.std.proofs.lemmas.Bool.{eqb-true}
use Rattle.journal_audit.specs.Comparisons.{Comparison, held_in, list_of, written_in}
use Rattle.journal_audit.specs.Position.{begins_with}

differs : (a b : ℕ) (same : Bool) → (a == b) ≡ same → (b ≡ a → ⊥) → same ≡ false
differs a b true e h = absurd (h (sym (eqb-true a b e)))
differs a b false e h = refl

-- the byte at an index is another
pub begins_other : (byte i : ℕ) (text : List ℕ) → (byte ≡ get_or text i 0 → ⊥) → begins_with byte (drop i text) ≡ false
begins_other byte zero [] h = refl
begins_other byte zero (first ∷ text) h = differs first byte (first == byte) refl h
begins_other byte (suc i) [] h = refl
begins_other byte (suc i) (first ∷ text) h = begins_other byte i text h

-- there is no byte after the end
pub begins_none : (byte i : ℕ) (text : List ℕ) → length text ≤ i → begins_with byte (drop i text) ≡ false
begins_none byte zero [] h = refl
begins_none byte zero (first ∷ text) h = absurd (omega arith)
begins_none byte (suc i) [] h = refl
begins_none byte (suc i) (first ∷ text) h = begins_none byte i text (omega arith)

-- ---- what was written

no_wrong : (wrong : Option ℕ) → is_some wrong ≡ false → list_of wrong ≡ []
no_wrong None h = refl
no_wrong (Some byte) h = absurd (cc)

more_of : (text piece : List ℕ) (at n : ℕ) → take n piece ≡ take n (drop at text)
    → take (at + n) text ++ [] ≡ (take at text ++ []) ++ take n piece
more_of text piece at n same =
    append-nil (take (at + n) text) ∙ (take-add at n text
    ∙ (ap (λ l. take at text ++ l) (sym same) ∙ ap (λ l. l ++ take n piece) (sym (append-nil (take at text)))))

other_of : (text piece : List ℕ) (at n : ℕ) → take n piece ≡ take n (drop at text) → n < length piece
    → take (at + n) text ++ get_or piece n 0 ∷ [] ≡ (take at text ++ []) ++ take (n + 1) piece
other_of text piece at n same less =
    ap (λ l. l ++ get_or piece n 0 ∷ []) (take-add at n text ∙ ap (λ l. take at text ++ l) (sym same))
    ∙ (append_assoc (take at text) (take n piece) (get_or piece n 0 ∷ [])
    ∙ (ap (λ l. take at text ++ l) (sym (take_more piece n 0 less))
    ∙ ap (λ l. l ++ take (n + 1) piece) (sym (append-nil (take at text)))))

-- more of the text was written, and it agrees
pub written_more : (old : Comparison) (text piece rest : List ℕ) (at n : ℕ) (wrong : Option ℕ) (faults : ℕ)
    → old ≡ record { text = text; at = at; wrong = wrong; faults = faults } → is_some wrong ≡ false → rest ≡ drop at text
    → take n piece ≡ take n rest → take (at + n) text ++ list_of wrong ≡ written_in old ++ take n piece
written_more old text piece rest at n wrong faults e none r same =
    rw (e, no_wrong wrong none) (more_of text piece at n (same ∙ ap (take n) r))

-- and another byte after it
pub written_other : (old : Comparison) (text piece rest : List ℕ) (at n : ℕ) (wrong : Option ℕ) (faults : ℕ)
    → old ≡ record { text = text; at = at; wrong = wrong; faults = faults } → is_some wrong ≡ false → rest ≡ drop at text
    → take n piece ≡ take n rest → n < length piece
    → take (at + n) text ++ get_or piece n 0 ∷ [] ≡ written_in old ++ take (n + 1) piece
written_other old text piece rest at n wrong faults e none r same less =
    rw (e, no_wrong wrong none) (other_of text piece at n (same ∙ ap (take n) r) less)

-- what is held begins with the text
pub held_more : (old : Comparison) (text written more : List ℕ) → old.text ≡ text → written ≡ written_in old ++ more
    → length text ∷ (text ++ written) ≡ held_in old ++ more
held_more old text written more same e =
    ap {B = List ℕ} (λ w. length text ∷ (text ++ w)) e
    ∙ (ap {B = List ℕ} (λ t. length t ∷ (t ++ (written_in old ++ more))) (sym same)
    ∙ ap {B = List ℕ} (λ l. length old.text ∷ l) (sym (append_assoc old.text (written_in old) more)))
