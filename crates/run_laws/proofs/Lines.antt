-- The lines of a text: joined they are the text, and a text that ends in a line feed keeps its lines if more follows.
use Rattle.std.proofs.Common.{◌≡◌, ℕ, ◌==◌, Bool, true, ◌&&◌, not, List, [], ◌∷◌, ◌++◌, refl, sym, ap, ◌∙◌, subst, append-nil, eqb-true, true≢false}
use Rattle.part_laws.proofs.Indices.{split}
use Rattle.run_laws.specs.Audit.{is_ended, lines_of, with_byte}

-- ---- the text of lines

abbrev pub text_of : List (List ℕ) → List ℕ
text_of [] = []
text_of (line ∷ lines) = line ++ text_of lines

text_with_byte : (byte : ℕ) (lines : List (List ℕ)) → text_of (with_byte byte lines) ≡ byte ∷ text_of lines
text_with_byte byte [] = refl
text_with_byte byte (line ∷ lines) = refl

-- the lines of a text, joined, are the text
pub text_of_lines : (text : List ℕ) → text_of (lines_of text) ≡ text
unfolding lines_of
text_of_lines [] = refl
text_of_lines (byte ∷ bytes) = split (byte == 10)
    (λ e. rw e (ap {B = List ℕ} (λ rest. 10 ∷ rest) (text_of_lines bytes) ∙ ap {B = List ℕ} (λ (b : ℕ). b ∷ bytes) (sym (eqb-true byte 10 e))))
    (λ e. rw e (text_with_byte byte (lines_of bytes) ∙ ap {B = List ℕ} (λ rest. byte ∷ rest) (text_of_lines bytes)))

-- ---- one line

-- no byte is a line feed
abbrev pub has_no_feed : List ℕ → Bool
has_no_feed [] = true
has_no_feed (byte ∷ bytes) = not (byte == 10) && has_no_feed bytes

-- the first line, if its only line feed is its last byte
pub first_line : (body rest : List ℕ) → has_no_feed body ≡ true → lines_of (body ++ 10 ∷ rest) ≡ (body ++ 10 ∷ []) ∷ lines_of rest
unfolding lines_of
first_line [] rest h = refl
first_line (byte ∷ body) rest h = split (byte == 10)
    (λ e. absurd (true≢false (sym (rw e at h))))
    (λ e. rw e (ap (with_byte byte) (first_line body rest (rw e at h))))

-- ---- texts that end in a line feed, and the empty one

abbrev pub is_whole : List ℕ → Bool
is_whole [] = true
is_whole (byte ∷ bytes) = is_ended (byte ∷ bytes)

pub ended_after : (front back : List ℕ) → is_ended back ≡ true → is_ended (front ++ back) ≡ true
ended_after [] back h = h
ended_after (byte ∷ []) [] h = absurd (true≢false (sym h))
ended_after (byte ∷ []) (b ∷ back) h = h
ended_after (byte ∷ next ∷ front) back h = ended_after (next ∷ front) back h

pub ended_whole : (text : List ℕ) → is_ended text ≡ true → is_whole text ≡ true
ended_whole [] h = absurd (true≢false (sym h))
ended_whole (byte ∷ bytes) h = h

pub whole_both : (front back : List ℕ) → is_whole front ≡ true → is_whole back ≡ true → is_whole (front ++ back) ≡ true
whole_both front [] f b = subst (λ text. is_whole text ≡ true) (sym (append-nil front)) f
whole_both front (byte ∷ back) f b = ended_whole (front ++ byte ∷ back) (ended_after front (byte ∷ back) b)

-- each of these lines ends in a line feed
abbrev pub AreEnded : List (List ℕ) → Type 0
AreEnded [] = Unit {0}
AreEnded (line ∷ lines) = (is_ended line ≡ true) × AreEnded lines

ended_with_byte : (byte : ℕ) (line : List ℕ) → is_ended line ≡ true → is_ended (byte ∷ line) ≡ true
ended_with_byte byte [] h = absurd (true≢false (sym h))
ended_with_byte byte (next ∷ line) h = h

-- the lines of a whole text that is followed by more
record KeepsLines (text : List ℕ) : Type 0 where
  first : List ℕ
  others : List (List ℕ)
  are : lines_of text ≡ first ∷ others
  ended : AreEnded (first ∷ others)
  with : (rest : List ℕ) → lines_of (text ++ rest) ≡ first ∷ others ++ lines_of rest

keeps_feed : (byte : ℕ) → (byte == 10) ≡ true → KeepsLines (byte ∷ [])
unfolding lines_of
keeps_feed byte e = record {
  first = 10 ∷ [];
  others = [];
  are = rw e refl;
  ended = (refl, tt);
  with = λ rest. rw e refl;
}

keeps_more : (byte : ℕ) (bytes : List ℕ) → KeepsLines bytes → KeepsLines (byte ∷ bytes)
unfolding lines_of
keeps_more byte bytes k = split (byte == 10)
    (λ e. record {
      first = 10 ∷ [];
      others = k.first ∷ k.others;
      are = rw (e, k.are) refl;
      ended = (refl, k.ended);
      with = λ rest. rw (e, k.with rest) refl;
    })
    (λ e. record {
      first = byte ∷ k.first;
      others = k.others;
      are = rw (e, k.are) refl;
      ended = (ended_with_byte byte k.first k.ended.0, k.ended.1);
      with = λ rest. rw (e, k.with rest) refl;
    })

keeps_lines : (byte : ℕ) (bytes : List ℕ) → is_ended (byte ∷ bytes) ≡ true → KeepsLines (byte ∷ bytes)
keeps_lines byte [] h = keeps_feed byte h
keeps_lines byte (next ∷ bytes) h = keeps_more byte (next ∷ bytes) (keeps_lines next bytes h)

-- a whole text keeps its lines
pub whole_lines : (text rest : List ℕ) → is_whole text ≡ true → lines_of (text ++ rest) ≡ lines_of text ++ lines_of rest
unfolding lines_of
whole_lines [] rest h = refl
whole_lines (byte ∷ bytes) rest h =
    let k : KeepsLines (byte ∷ bytes) = keeps_lines byte bytes h in
    k.with rest ∙ ap (λ lines. lines ++ lines_of rest) (sym k.are)

pub whole_ended : (text : List ℕ) → is_whole text ≡ true → AreEnded (lines_of text)
unfolding lines_of
whole_ended [] h = tt
whole_ended (byte ∷ bytes) h = let k : KeepsLines (byte ∷ bytes) = keeps_lines byte bytes h in subst AreEnded (sym k.are) k.ended
