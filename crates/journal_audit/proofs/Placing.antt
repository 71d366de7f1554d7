-- A position in a text, and the next line there.
use Rattle.std.proofs.Common.{◌≡◌, ℕ, suc, ◌+◌, ◌<◌, ◌≤◌, ◌==◌, Bool, true, false, if◌then◌else◌, cond, count_by, nat_lt, Some, None, List, [], ◌∷◌, ◌++◌, length, take, drop, refl, sym, ap, ◌∙◌, subst, append_assoc, length-append, arith, true≢false, lt-ltb, le-ltb}
use Rattle.std.proofs.lemmas.Bool.{eqb-true}
use Rattle.std.proofs.lemmas.List.{take_at, drop_at}
use Rattle.std.proofs.lemmas.List.Recursion.{is_count_by}
use Rattle.std.specs.List.{position, position_or_len}
use Rattle.run_laws.specs.Audit.{lines_of}
use Rattle.journal_audit.proofs.Lines.{ended, has_feed, last_line, line_split, or_left, or_right, unended}
use Rattle.journal_audit.specs.Position.{HasNoLine, IsNextLine, Position, begin_unended, feeds, past}

-- ---- the first line feed

abbrev pub is_feed : ℕ → Bool
is_feed byte = byte == 10

-- the first line feed of a text
pub record FirstFeed (text : List ℕ) : Type 0 where
  pub front : List ℕ
  pub rest_after : List ℕ
  pub is : text ≡ front ++ 10 ∷ rest_after
  pub free : has_feed front ≡ false
  pub index : position_or_len is_feed text ≡ length front

first_feed : (text : List ℕ) → has_feed text ≡ true → FirstFeed text
first_feed [] h = absurd (true≢false (sym h))
first_feed (byte ∷ text) h =
    elim (byte == 10) as (λ feed. (byte == 10) ≡ feed → FirstFeed (byte ∷ text)) [
      | true ↦ λ e. record {
        front = [];
        rest_after = text;
        is = ap {B = List ℕ} (λ (b : ℕ). b ∷ text) (eqb-true byte 10 e);
        free = refl;
        index = rw e refl;
      }
      | false ↦ λ e.
          let k : FirstFeed text = first_feed text (rw e at h) in
          record {
            front = byte ∷ k.front;
            rest_after = k.rest_after;
            is = ap {B = List ℕ} (λ (t : List ℕ). byte ∷ t) k.is;
            free = rw e (k.free);
            index = rw (e, k.index) (one_more (length k.front));
          }
    ] refl
  where
    one_more : (n : ℕ) → 1 + n ≡ suc n
    one_more n = omega arith

none_before : (text : List ℕ) → has_feed text ≡ false → position_or_len is_feed text ≡ length text
none_before [] h = refl
none_before (byte ∷ text) h =
    rw (or_left (byte == 10) (has_feed text) h, none_before text (or_right (byte == 10) (has_feed text) h)) (one_more (length text))
  where
    one_more : (n : ℕ) → 1 + n ≡ suc n
    one_more n = omega arith

at_end : (n m : ℕ) → n ≡ m → cond (nat_lt n m) (Some n) None ≡ None
at_end n m e = let h : m ≤ n = omega arith in rw (le-ltb n m h) refl

within : (n m : ℕ) → n < m → cond (nat_lt n m) (Some n) None ≡ Some n
within n m h = rw (lt-ltb n m h) refl

position_none : (text : List ℕ) → has_feed text ≡ false → position is_feed text ≡ None
position_none text h = at_end (position_or_len is_feed text) (length text) (none_before text h)

position_some : (text : List ℕ) (f : FirstFeed text) → position is_feed text ≡ Some (length f.front)
position_some text f =
    within (position_or_len is_feed text) (length text)
    (rw (f.index, ap length f.is, length-append f.front (10 ∷ f.rest_after)) (shorter (length f.front) (length f.rest_after)))
    ∙ ap Some f.index
  where
    shorter : (a b : ℕ) → a < a + suc b
    shorter a b = omega arith

-- ---- the next line

fed_once : (front : List ℕ) → has_feed front ≡ false → feeds (front ++ 10 ∷ []) ≡ 1
fed_once [] h = refl
fed_once (byte ∷ front) h = rw (or_left (byte == 10) (has_feed front) h) (fed_once front (or_right (byte == 10) (has_feed front) h))

next_line : (p : Position) (f : FirstFeed p.rest) → IsNextLine p (f.front ++ 10 ∷ [])
next_line p f =
    let line : List ℕ = f.front ++ 10 ∷ [] in
    let whole : p.rest ≡ line ++ f.rest_after = f.is ∙ sym (append_assoc f.front (10 ∷ []) f.rest_after) in
    record {
      front = ap (take (length line)) whole ∙ take_at line f.rest_after (length line) refl;
      within = rw (whole, length-append line f.rest_after) (longer (length line) (length f.rest_after));
      lines = ap lines_of f.is ∙ (line_split f.front f.rest_after f.free
          ∙ ap (λ rest. line ∷ lines_of rest) (sym (ap (drop (length line)) whole ∙ drop_at line f.rest_after (length line) refl)));
      ended = ended f.front;
      feeds = fed_once f.front f.free;
    }
  where
    longer : (a b : ℕ) → a ≤ a + b
    longer a b = omega arith

pub line_found : (p : Position) (end : ℕ) → position is_feed p.rest ≡ Some end → IsNextLine p (take (end + 1) p.rest)
line_found p end e =
    elim (has_feed p.rest) as (λ feed. has_feed p.rest ≡ feed → IsNextLine p (take (end + 1) p.rest)) [
      | true ↦ λ h.
          let f : FirstFeed p.rest = first_feed p.rest h in
          subst (IsNextLine p) (sym (cut f (same f))) (next_line p f)
      | false ↦ λ h. absurd (let n : position is_feed p.rest ≡ None = position_none p.rest h in cc)
    ] refl
  where
    same : (f : FirstFeed p.rest) → length f.front ≡ end
    same f = let s : position is_feed p.rest ≡ Some (length f.front) = position_some p.rest f in cc

    cut : (f : FirstFeed p.rest) → length f.front ≡ end → take (end + 1) p.rest ≡ f.front ++ 10 ∷ []
    cut f at =
        ap (take (end + 1)) (f.is ∙ sym (append_assoc f.front (10 ∷ []) f.rest_after))
        ∙ take_at (f.front ++ 10 ∷ []) f.rest_after (end + 1) (length-append f.front (10 ∷ []) ∙ ap (λ (n : ℕ). n + 1) at)

none_holds : (rest : List ℕ) → has_feed rest ≡ false → begin_unended (lines_of rest) ≡ true
unfolding lines_of
none_holds [] h = refl
none_holds (byte ∷ rest) h = rw (last_line byte rest h, unended (byte ∷ rest) h) refl

pub no_line_found : (p : Position) → position is_feed p.rest ≡ None → HasNoLine p p.number
no_line_found p e = record { unended = none_holds p.rest free; at = refl }
  where
    free : has_feed p.rest ≡ false
    free =
        elim (has_feed p.rest) as (λ feed. has_feed p.rest ≡ feed → has_feed p.rest ≡ false) [
          | true ↦ λ h.
              let f : FirstFeed p.rest = first_feed p.rest h in
              absurd (let s : position is_feed p.rest ≡ Some (length f.front) = position_some p.rest f in cc)
          | false ↦ λ h. h
        ] refl

-- ---- how many lines end

pub feeds-le-length : (text : List ℕ) → feeds text ≤ length text
feeds-le-length [] = omega arith
feeds-le-length (byte ∷ text) =
    let k : feeds text ≤ length text = feeds-le-length text in
    elim (byte == 10) as (λ feed. (if feed then suc (feeds text) else feeds text) ≤ suc (length text)) [ true ↦ omega arith | false ↦ omega arith ]

pub feeds_counted : (text : List ℕ) → feeds text ≡ count_by is_feed text
feeds_counted = is_count_by feeds is_feed refl (λ byte text. counted (byte == 10) (feeds text))
  where
    counted : (feed : Bool) (n : ℕ) → (if feed then suc n else n) ≡ cond feed (1 + n) n
    counted true n = omega arith
    counted false n = refl

abbrev position_at : List ℕ → ℕ → Position
position_at rest number = record { rest = rest; number = number }

pub past_is : (count : ℕ) (rest : List ℕ) (number : ℕ) (front rest_after : List ℕ) (lines : ℕ) → front ≡ take count rest
    → rest_after ≡ drop count rest → lines ≡ count_by is_feed front → position_at rest_after (number + lines) ≡ past count (position_at rest number)
past_is count rest number front rest_after lines f b many =
    let fed : lines ≡ feeds (take count rest) = many ∙ (sym (feeds_counted front) ∙ ap feeds f) in
    ap (λ r. position_at r (number + lines)) b ∙ ap (λ n. position_at (drop count rest) (number + n)) fed
