-- A line feed after printed tokens changes nothing.
use Rattle.std.proofs.Common.{◌≡◌, ℕ, Bool, true, false, cond, ◌&&◌, List, [], ◌∷◌, ◌++◌, refl, sym, ap, ap₂, ◌∙◌, append_assoc}
use Rattle.json.specs.Token.{Token, begin_object, end_object, begin_array, end_array, key, string, number, boolean, null, bad}
use Rattle.json.specs.Word.{ends_word, word}
use Rattle.json.specs.Lex.{Lexeme, token, comma, colon, string_token, lex, between, fresh, punctuate, tokens}
use Rattle.json.specs.Print.{escape, quoted, token_text, begins, ends, print_from, print, IsPrintable, ArePrintable}
use Rattle.json.proofs.Printed.Strings.{content-escape, lex-escape}
use Rattle.json.proofs.Printed.Numbers.{lex-number, in_word-ended}
use Rattle.json.proofs.Printed.Tokens.{tokens-print}

abbrev lexemes_of : Token → List Lexeme
lexemes_of begin_object = token begin_object ∷ []
lexemes_of end_object = token end_object ∷ []
lexemes_of begin_array = token begin_array ∷ []
lexemes_of end_array = token end_array ∷ []
lexemes_of (key s) = token (string s) ∷ colon ∷ []
lexemes_of (string s) = token (string s) ∷ []
lexemes_of (number s) = token (number s) ∷ []
lexemes_of (boolean b) = token (boolean b) ∷ []
lexemes_of null = token null ∷ []
lexemes_of bad = []

quoted_read : (s r : List ℕ) → lex between (quoted s ++ r) ≡ token (string s) ∷ lex between r
unfolding lex
quoted_read s r =
    ap (λ l. lex between (34 ∷ l)) (append_assoc (escape s) (34 ∷ []) r)
    ∙ ap₂ (λ o l. token (string_token o) ∷ l) (content-escape s r) (lex-escape s r)

token_read : (t : Token) (r : List ℕ) → IsPrintable t → (ends t ≡ true → ends_word r ≡ true) → lex between (token_text t ++ r) ≡ lexemes_of t ++ lex between r
unfolding lex word
token_read begin_object r h ended = refl
token_read end_object r h ended = refl
token_read begin_array r h ended = refl
token_read end_array r h ended = refl
token_read (key s) r h ended = ap (lex between) (append_assoc (quoted s) (58 ∷ []) r) ∙ quoted_read s (58 ∷ r)
token_read (string s) r h ended = quoted_read s r
token_read (number s) r h ended = lex-number s r h (ended refl)
token_read (boolean true) r h ended = ap₂ (λ b l. token (cond b (boolean true) bad) ∷ l) (ended refl) (in_word-ended r (ended refl))
token_read (boolean false) r h ended = ap₂ (λ b l. token (cond b (boolean false) bad) ∷ l) (ended refl) (in_word-ended r (ended refl))
token_read null r h ended = ap₂ (λ b l. token (cond b null bad) ∷ l) (ended refl) (in_word-ended r (ended refl))
token_read bad r h ended = absurd h

-- a value is followed by a comma, a closing bracket or the end
value_ends : (ts : List Token) → (ends_word (print_from true ts) ≡ true) × (ends_word (print_from true ts ++ 10 ∷ []) ≡ true)
unfolding print_from
value_ends [] = (refl, refl)
value_ends (begin_object ∷ ts) = (refl, refl)
value_ends (end_object ∷ ts) = (refl, refl)
value_ends (begin_array ∷ ts) = (refl, refl)
value_ends (end_array ∷ ts) = (refl, refl)
value_ends (key s ∷ ts) = (refl, refl)
value_ends (string s ∷ ts) = (refl, refl)
value_ends (number s ∷ ts) = (refl, refl)
value_ends (boolean b ∷ ts) = (refl, refl)
value_ends (null ∷ ts) = (refl, refl)
value_ends (bad ∷ ts) = (refl, refl)

comma_same : (b : Bool) (r s : List ℕ) → lex between r ≡ lex between s → lex between (cond b (44 ∷ []) [] ++ r) ≡ lex between (cond b (44 ∷ []) [] ++ s)
unfolding lex
comma_same true r s e = ap (λ l. comma ∷ l) e
comma_same false r s e = e

feed_same : (c : Bool) (ts : List Token) → ArePrintable ts → lex between (print_from c ts ++ 10 ∷ []) ≡ lex between (print_from c ts)
unfolding lex print_from ArePrintable
feed_same c [] h = refl
feed_same c (t ∷ ts) h =
    let rest = print_from (ends t) ts in
    let before = cond (c && begins t) (44 ∷ []) [] in
    ap (lex between) (append_assoc before (token_text t ++ rest) (10 ∷ []) ∙ ap (λ l. before ++ l) (append_assoc (token_text t) rest (10 ∷ [])))
    ∙ comma_same (c && begins t) (token_text t ++ (rest ++ 10 ∷ [])) (token_text t ++ rest)
    (token_read t (rest ++ 10 ∷ []) h.0 (λ e. ap (λ b. ends_word (print_from b ts ++ 10 ∷ [])) e ∙ (value_ends ts).1)
    ∙ ap (λ l. lexemes_of t ++ l) (feed_same (ends t) ts h.1)
    ∙ sym (token_read t rest h.0 (λ e. ap (λ b. ends_word (print_from b ts)) e ∙ (value_ends ts).0)))

pub tokens_with_feed : (ts : List Token) → ArePrintable ts → tokens (print ts ++ 10 ∷ []) ≡ ts
tokens_with_feed ts h = ap (punctuate fresh) (feed_same false ts h) ∙ tokens-print ts h
