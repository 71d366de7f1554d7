-- Lines of words and of entries.
use Rattle.std.proofs.Common.{◌≡◌, ℕ, ◌+◌, ◌<◌, List, [], ◌∷◌, ◌++◌, map, length, drop, get_or, refl, arith, decimal, append_assoc, ap, sym, ◌∙◌, add-one}
use Rattle.std.proofs.Math.Seq.{drop-cons}
use Rattle.std.specs.Prelude.{Option, Some, None, flat_map}
use Rattle.asm_defs.specs.Disassembler.{line_body, line_text}
use Rattle.asm_defs.specs.Views.Assembling.{decoded_tokens, later_token}
use Rattle.asm_defs.specs.ImageText.{hex_text}
use Rattle.machine_defs.specs.Machine.{decode_of}
use Rattle.asm_defs.specs.declared.assembler.Section.{Section}
use Rattle.asm_defs.specs.declared.assembler.Section.TheVariants as section
use Rattle.nook_data.specs.declared.machine.Instr.{Instr}
use Rattle.image_list.specs.ListText.{Row, named_entries, row_tokens, rows_from, word_says}

pub no_addresses : (names : List (List ℕ)) (addresses : List ℕ) → length addresses ≡ 0 → named_entries names addresses ≡ []
no_addresses [] addresses none = refl
no_addresses (name ∷ names) [] none = refl
no_addresses (name ∷ names) (address ∷ addresses) none = absurd (omega (arith, none))

pub no_lines : (address : ℕ) (words lines : List ℕ) → length lines ≡ 0 → rows_from address words lines ≡ []
no_lines address [] lines none = refl
no_lines address (word ∷ words) [] none = refl
no_lines address (word ∷ words) (line ∷ lines) none = absurd (omega (arith, none))

-- tokens after others, if there are any
decoded_later : (instr : Option Instr) (word : ℕ) → flat_map later_token (decoded_tokens instr word) ≡ 32 ∷ line_body (decoded_tokens instr word)
decoded_later (Some instr) word = refl
decoded_later None word = refl

says_later : (in_section : Section) (word : ℕ) → flat_map later_token (word_says in_section word) ≡ 32 ∷ line_body (word_says in_section word)
says_later section.Text word = decoded_later (decode_of word) word
says_later section.Data word = refl

pub row_line : (in_section : Section) (address word line : ℕ)
    → line_text (decimal address ∷ hex_text 8 word ∷ decimal line ∷ word_says in_section word)
    ≡ decimal address ++ (32 ∷ (hex_text 8 word ++ (32 ∷ (decimal line ++ (32 ∷ line_text (word_says in_section word))))))
row_line in_section address word line =
    rw (
      append_assoc (decimal address) (32 ∷ (hex_text 8 word ++ (32 ∷ (decimal line ++ flat_map later_token (word_says in_section word))))) (10 ∷ []),
      append_assoc (hex_text 8 word) (32 ∷ (decimal line ++ flat_map later_token (word_says in_section word))) (10 ∷ []),
      append_assoc (decimal line) (flat_map later_token (word_says in_section word)) (10 ∷ []),
      says_later in_section word,
    ) refl

-- ---- rows one after another

rows_split : (words : List ℕ) (i d : ℕ) → i < length words → drop i words ≡ get_or words i d ∷ drop (i + 1) words
rows_split words i d inside = rw (drop-cons words i d inside, add-one) refl

pub rows_more : (in_section : Section) (address i d : ℕ) (words lines more : List ℕ) (line : ℕ) (old new whole : List ℕ) → i < length words
    → lines ≡ line ∷ more
    → new ≡ old ++ line_text (row_tokens in_section (record { address = address; word = get_or words i d; line = line }))
    → old ++ flat_map line_text (map (row_tokens in_section) (rows_from address (drop i words) lines)) ≡ whole
    → new ++ flat_map line_text (map (row_tokens in_section) (rows_from (address + 1) (drop (i + 1) words) more)) ≡ whole
rows_more in_section address i d words lines more line old new whole inside cut grown before =
    let row : Row = record { address = address; word = get_or words i d; line = line } in
    let rest = rows_from (address + 1) (drop (i + 1) words) more in
    ap (λ l. l ++ flat_map line_text (map (row_tokens in_section) rest)) grown
    ∙ append_assoc old (line_text (row_tokens in_section row)) (flat_map line_text (map (row_tokens in_section) rest))
    ∙ ap (λ ws. old ++ flat_map line_text (map (row_tokens in_section) (rows_from address ws (line ∷ more)))) (sym (rows_split words i d inside))
    ∙ ap (λ ls. old ++ flat_map line_text (map (row_tokens in_section) (rows_from address (drop i words) ls))) (sym cut)
    ∙ before

-- the pieces of a row
pub row_text : (in_section : Section) (address word line : ℕ) (old one two three four : List ℕ)
    → one ≡ old ++ (decimal address ++ 32 ∷ [])
    → two ≡ one ++ hex_text 8 word
    → three ≡ two ++ (32 ∷ (decimal line ++ 32 ∷ []))
    → four ≡ three ++ line_text (word_says in_section word)
    → four ≡ old ++ line_text (row_tokens in_section (record { address = address; word = word; line = line }))
row_text in_section address word line old one two three four p q r s =
    rw (s, r, q, p, row_line in_section address word line)
    (pieces old (decimal address) (hex_text 8 word) (decimal line) (line_text (word_says in_section word)))
  where
    pieces : (old a h l w : List ℕ) → old ++ (a ++ 32 ∷ []) ++ h ++ (32 ∷ (l ++ 32 ∷ [])) ++ w ≡ old ++ (a ++ (32 ∷ (h ++ (32 ∷ (l ++ (32 ∷ w))))))
    pieces old a h l w = simp append_assoc refl
