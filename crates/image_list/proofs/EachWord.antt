-- Each word of an assembled text has its line.
use Rattle.std.proofs.Common.{◌≡◌, ℕ, ◌+◌, ◌≤◌, ◌||◌, Bool, true, false, List, [], ◌∷◌, ◌++◌, map, length, refl, ap, sym, ◌∙◌, arith, length-append}
use Rattle.std.specs.Prelude.{⊤, Option, Some, None, Result, Ok, Err, nat_lt, if◌then◌else◌}
use Rattle.std.proofs.lemmas.Bool.{ltb-true, ltb-false}
use Rattle.asm_defs.specs.AsmLines.{Labels, definition_of, first_of, line_says}
use Rattle.asm_defs.specs.AsmTokens.{lines_of, tokens_of}
use Rattle.asm_defs.specs.Assembler.{Draft, all_given, assembled, at_line, draft_after, draft_from, fault_if}
use Rattle.asm_defs.specs.Assembler.{first_draft, first_cursor, image_with, is_out_of_range, is_second_given}
use Rattle.asm_defs.specs.Assembler.{is_second_label, known, labels_from, with_statement, with_word}
use Rattle.asm_defs.specs.Views.Assembling.{with_class}
use Rattle.machine_defs.specs.Machine.{encode_of}
use Rattle.machine_defs.specs.Mnemonics.{instr_with}
use Rattle.asm_defs.specs.Results.{◌>>=◌}
use Rattle.asm_defs.specs.declared.assembler.AsmFault.{AsmFault}
use Rattle.asm_defs.specs.declared.assembler.AsmKind.{AsmKind}
use Rattle.asm_defs.specs.declared.assembler.AsmKind.TheVariants as fault
use Rattle.asm_defs.specs.declared.assembler.Label.{Label}
use Rattle.asm_defs.specs.declared.assembler.Section.{Section}
use Rattle.asm_defs.specs.declared.assembler.Section.TheVariants as section
use Rattle.asm_defs.specs.declared.assembler.Statement.{Statement}
use Rattle.asm_defs.specs.declared.assembler.Statement.TheVariants as statement
use Rattle.asm_defs.specs.declared.assembler.Value.{Value}
use Rattle.asm_defs.specs.declared.assembler.Value.TheVariants as value
use Rattle.nook_data.specs.declared.classes.Class.{Class}
use Rattle.nook_data.specs.declared.scenario.Image.{Image}
use Rattle.driver_asm.specs.Listed.{after_draft, if_longer, line_if, listed, makers, words_in}
use Rattle.driver_asm.specs.declared.listed.Listed.{Listed}
use Rattle.image_list.specs.ListText.{list_text, rows_from}

-- ---- a line adds at most one word to a section

abbrev AtMostOne : List ℕ → List ℕ → Type 0
AtMostOne before after = (length before ≤ length after) × (length after ≤ length before + 1)

abbrev OneMore : Draft → Result Draft AsmKind → Type 0
OneMore draft (Ok next) = (s : Section) → AtMostOne (words_in s draft) (words_in s next)
OneMore draft (Err kind) = ⊤

same_words : (words : List ℕ) → AtMostOne words words
same_words words = (omega arith, omega arith)

one_word_more : (words : List ℕ) (word : ℕ) → AtMostOne words (words ++ word ∷ [])
one_word_more words word = (omega (arith, length-append words (word ∷ [])), omega (arith, length-append words (word ∷ [])))

text_more : (draft : Draft) (word : ℕ) (s : Section) → AtMostOne (words_in s draft) (words_in s (record draft { text = draft.text ++ word ∷ [] }))
text_more draft word section.Text = one_word_more draft.text word
text_more draft word section.Data = same_words draft.initial

initial_more : (draft : Draft) (word : ℕ) (s : Section) → AtMostOne (words_in s draft) (words_in s (record draft { initial = draft.initial ++ word ∷ [] }))
initial_more draft word section.Text = same_words draft.text
initial_more draft word section.Data = one_word_more draft.initial word

where_room : (room : Bool) (draft next : Draft) (kind : AsmKind) → ((s : Section) → AtMostOne (words_in s draft) (words_in s next))
    → OneMore draft (if room then Ok next else Err kind)
where_room true draft next kind more = more
where_room false draft next kind more = tt

word_grows : (s : Section) (word : ℕ) (draft : Draft) → OneMore draft (with_word s word draft)
word_grows section.Text word draft = where_room (nat_lt (length draft.text) 2048) draft _ _ (text_more draft word)
word_grows section.Data word draft = where_room (nat_lt (length draft.initial) 2048) draft _ _ (initial_more draft word)

class_same : (class : Class) (draft : Draft) (s : Section) → AtMostOne (words_in s draft) (words_in s (with_class class draft))
class_same class draft section.Text = same_words draft.text
class_same class draft section.Data = same_words draft.initial

entries_same : (entries : List (Option ℕ)) (draft : Draft) (s : Section) → AtMostOne (words_in s draft) (words_in s (record draft { entries = entries }))
entries_same entries draft section.Text = same_words draft.text
entries_same entries draft section.Data = same_words draft.initial

section_same : (other : Section) (draft : Draft) (s : Section) → AtMostOne (words_in s draft) (words_in s (record draft { in_section = other }))
section_same other draft section.Text = same_words draft.text
section_same other draft section.Data = same_words draft.initial

known_grows : (v : Value) (word_of : ℕ → ℕ) (draft : Draft) → OneMore draft (known v >>= λ number. with_word draft.in_section (word_of number) draft)
known_grows (value.Known number) word_of draft = word_grows draft.in_section (word_of number) draft
known_grows value.Missing word_of draft = tt

statement_grows : (says : Statement) (draft : Draft) → OneMore draft (with_statement says draft)
statement_grows statement.Nothing draft = λ s. same_words (words_in s draft)
statement_grows (statement.Class class) draft = class_same class draft
statement_grows (statement.Entry position (value.Known number)) draft = entries_same _ draft
statement_grows (statement.Entry position value.Missing) draft = tt
statement_grows (statement.Section in_section) draft = section_same in_section draft
statement_grows (statement.Word v) draft = known_grows v (λ number. number) draft
statement_grows (statement.Instr mnemonic operands) draft = known_grows operands.imm (λ number. encode_of (instr_with mnemonic operands.a operands.b number)) draft

bind_grows : {T : Type 0} (r : Result T AsmKind) (f : T → Result Draft AsmKind) (draft : Draft) → ((x : T) → OneMore draft (f x)) → OneMore draft (r >>= f)
bind_grows (Ok x) f draft more = more x
bind_grows (Err kind) f draft more = tt

after_grows : (labels : Labels) (line : ℕ) (tokens : List (List ℕ)) (draft : Draft) → OneMore draft (draft_after labels line tokens draft)
unfolding draft_after
after_grows labels line tokens draft =
    bind_grows (line_says labels draft.class draft.in_section tokens) _ draft
    (λ says. bind_grows (fault_if (is_out_of_range says) fault.NumberRange) _ draft
    (λ in_range. bind_grows (fault_if (is_second_label labels line (definition_of tokens) || is_second_given draft says) fault.DoubleLabel) _ draft
    (λ first. statement_grows says draft)))

-- ---- as many lines as words

longer_by : (line x y : ℕ) (made : Bool) → nat_lt x y ≡ made → x ≤ y → y ≤ x + 1 → y ≡ x + length (line_if made line)
longer_by line x y true e low high = omega (arith, ltb-true x y e)
longer_by line x y false e low high = omega (arith, ltb-false x y e)

abbrev Counted : Section → Draft → Draft → List ℕ → Type 0
Counted s draft whole lines = length (words_in s whole) ≡ length (words_in s draft) + length lines

counted_on : (s : Section) (labels : Labels) (line : ℕ) (more : List (List ℕ)) (draft whole : Draft) (r : Result Draft AsmKind) → OneMore draft r
    → ((next : Draft) → draft_from labels (line + 1) more next ≡ Ok whole → Counted s next whole (makers s labels (line + 1) more next))
    → (at_line line r >>= λ next. draft_from labels (line + 1) more next) ≡ Ok whole
    → Counted s draft whole (after_draft (λ next. if_longer line (words_in s draft) (words_in s next) ++ makers s labels (line + 1) more next) r)
counted_on s labels line more draft whole (Ok next) grows rest e =
    let one = longer_by line (length (words_in s draft)) (length (words_in s next)) _ refl (grows s).0 (grows s).1 in
    omega (arith, one, rest next e, length-append (if_longer line (words_in s draft) (words_in s next)) (makers s labels (line + 1) more next))
counted_on s labels line more draft whole (Err kind) grows rest e = absurd (cc e)

given_draft : Draft → Result Draft AsmFault → Draft
given_draft other (Ok draft) = draft
given_draft other (Err fault) = other

ended : (s : Section) (draft whole : Draft) (r : Result Draft AsmFault) → r ≡ Ok draft → r ≡ Ok whole → Counted s draft whole []
unfolding given_draft
ended s draft whole r d w = let e = sym d ∙ w in omega (arith, ap (λ r. length (words_in s (given_draft draft r))) e)

counted : (s : Section) (labels : Labels) (line : ℕ) (lines : List (List ℕ)) (draft whole : Draft)
    → draft_from labels line lines draft ≡ Ok whole → Counted s draft whole (makers s labels line lines draft)
unfolding draft_from makers
counted s labels line [] draft whole e = ended s draft whole (Ok draft) refl e
counted s labels line (first ∷ more) draft whole e =
    counted_on s labels line more draft whole (draft_after labels line (tokens_of first) draft) (after_grows labels line (tokens_of first) draft)
    (λ next. counted s labels (line + 1) more next whole) e

-- ---- the image's words are the draft's

given_image : Image → Result Image AsmFault → Image
given_image other (Ok image) = image
given_image other (Err fault) = other

image_same : (class : Option Class) (entries : Option (List ℕ)) (draft : Draft) (line : ℕ) (image : Image) → at_line line (image_with class entries draft) ≡ Ok image
    → (draft.text ≡ image.text) × (draft.initial ≡ image.initial)
unfolding given_image
image_same (Some class) (Some entries) draft line image e = (ap (λ r. (given_image image r).text) e, ap (λ r. (given_image image r).initial) e)
image_same (Some class) None draft line image e = absurd (cc e)
image_same None entries draft line image e = absurd (cc e)

drafted : (r : Result Draft AsmFault) (line : ℕ) (image : Image) → (r >>= λ draft. at_line line (image_with draft.class (all_given draft.entries) draft)) ≡ Ok image
    → (draft : Draft) × (r ≡ Ok draft) × (draft.text ≡ image.text) × (draft.initial ≡ image.initial)
drafted (Ok draft) line image e = let same = image_same draft.class (all_given draft.entries) draft line image e in (draft, refl, same.0, same.1)
drafted (Err fault) line image e = absurd (cc e)

abbrev labels_in : List ℕ → Labels
labels_in text = first_of (labels_from first_cursor (lines_of text))

has_lines : (text : List ℕ) (image : Image) → assembled text ≡ Ok image
    → (length image.text ≡ length (makers section.Text (labels_in text) 1 (lines_of text) first_draft))
    × (length image.initial ≡ length (makers section.Data (labels_in text) 1 (lines_of text) first_draft))
unfolding assembled
has_lines text image e =
    let found = drafted (draft_from (labels_in text) 1 (lines_of text) first_draft) (length (lines_of text) + 1) image e in (
      omega (arith, ap (λ words. length words) found.2, counted section.Text (labels_in text) 1 (lines_of text) first_draft found.0 found.1),
      omega (arith, ap (λ words. length words) found.3, counted section.Data (labels_in text) 1 (lines_of text) first_draft found.0 found.1),
    )

-- ---- rows

rows_words : (address : ℕ) (words lines : List ℕ) → length words ≡ length lines → map (λ row. row.word) (rows_from address words lines) ≡ words
rows_words address [] lines e = refl
rows_words address (word ∷ words) [] e = absurd (omega (arith, e))
rows_words address (word ∷ words) (line ∷ lines) e = ap (word ∷◌) (rows_words (address + 1) words lines (omega (arith, e)))

given_listed : Listed → Result Listed AsmFault → Listed
given_listed other (Ok l) = l
given_listed other (Err fault) = other

listed_parts : (r : Result Image AsmFault) (text_lines initial_lines : List ℕ) (labels : List Label) (l : Listed)
    → (r >>= λ image. Ok (record { image = image; text_lines = text_lines; initial_lines = initial_lines; labels = labels })) ≡ Ok l
    → (r ≡ Ok l.image) × (text_lines ≡ l.text_lines) × (initial_lines ≡ l.initial_lines)
unfolding given_listed
listed_parts (Ok image) text_lines initial_lines labels l e = (
  ap (λ r. Ok (given_listed l r).image) e,
  ap (λ r. (given_listed l r).text_lines) e,
  ap (λ r. (given_listed l r).initial_lines) e,
)
listed_parts (Err fault) text_lines initial_lines labels l e = absurd (cc e)

-- ---- the laws

abbrev Each : List ℕ → Listed → Type 0
Each text l = (assembled text ≡ Ok l.image)
    × (map (λ row. row.word) (rows_from 0 l.image.text l.text_lines) ≡ l.image.text)
    × (map (λ row. row.word) (rows_from 2048 l.image.initial l.initial_lines) ≡ l.image.initial)

pub each_listed : (text : List ℕ) (l : Listed) → listed text ≡ Ok l → Each text l
unfolding listed
each_listed text l e =
    let parts = listed_parts (assembled text) _ _ _ l e in
    let count = has_lines text l.image parts.0 in (
      parts.0,
      rows_words 0 l.image.text l.text_lines (count.0 ∙ ap (λ lines. length lines) parts.1),
      rows_words 2048 l.image.initial l.initial_lines (count.1 ∙ ap (λ lines. length lines) parts.2),
    )

pub refused : (text : List ℕ) (fault : AsmFault) → assembled text ≡ Err fault → list_text text ≡ Err fault
unfolding listed list_text
refused text fault e = rw e refl
