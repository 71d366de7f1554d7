-- One line of either pass, and the whole.
use Rattle.std.proofs.Common.{◌≡◌, ℕ, ◌+◌, ◌<◌, ◌≤◌, subst, List, [], ◌∷◌, ◌++◌, length, drop, get_or, map, refl, ap, sym, ◌∙◌, arith, add-one, append-nil, append_assoc}
use Rattle.std.specs.Prelude.{None, Result, Ok, Err}
use Rattle.std.specs.Borrow.{Bor}
use Rattle.std.specs.Result.{IsErrAnd}
use Rattle.std.proofs.Math.Seq.{drop-cons}
use Rattle.asm_defs.specs.AsmLines.{Labels, definition_of, first_of, line_says}
use Rattle.asm_defs.specs.Views.Assembling.{no_labels}
use Rattle.asm_defs.specs.AsmTokens.{tokens_of, lines_of}
use Rattle.asm_defs.specs.Assembler.{Draft, Cursor, all_given, assembled, at_line, draft_after, draft_from, first_draft}
use Rattle.asm_defs.specs.Assembler.{first_cursor, image_with, label_of, labels_from, one_word, cursor_after}
use Rattle.asm_defs.specs.Views.Assembling.{next_line}
use Rattle.asm_defs.specs.declared.assembler.AsmFault.{AsmFault}
use Rattle.asm_defs.specs.declared.assembler.AsmKind.{AsmKind}
use Rattle.asm_defs.specs.declared.assembler.Label.{Label}
use Rattle.asm_defs.specs.declared.assembler.Section.{Section}
use Rattle.asm_defs.specs.declared.assembler.Section.TheVariants as section
use Rattle.asm_defs.specs.declared.assembler.Statement.{Statement}
use Rattle.asm_defs.specs.declared.assembler.Statement.TheVariants as statement
use Rattle.driver_asm.specs.Answers.{Gives, Fails}
use Rattle.driver_asm.specs.declared.error.AsmError.{AsmError}
use Rattle.driver_asm.specs.declared.error.AsmError.TheVariants as errors
use Rattle.std.proofs.lemmas.List.{drop_all}

-- ---- first pass

labels_step : (old new : List Label) (at next : Cursor) (line : List ℕ) (more : List (List ℕ))
    → next ≡ next_line (cursor_after (line_says no_labels None at.in_section (tokens_of line)) at)
    → new ≡ old ++ label_of (definition_of (tokens_of line)) at
    → new ++ labels_from next more ≡ old ++ labels_from at (line ∷ more)
unfolding labels_from
labels_step old new at next line more same defined =
    rw (
      defined,
      same,
      append_assoc old (label_of (definition_of (tokens_of line)) at) (labels_from (next_line (cursor_after (line_says no_labels None at.in_section (tokens_of line)) at)) more),
    ) refl

labels_end : (at : Cursor) → labels_from at [] ≡ []
unfolding labels_from
labels_end at = refl

-- a line adds at most one word
pub text_after : (says : Result Statement AsmKind) (at : Cursor) → (cursor_after says at).text ≤ at.text + 1
text_after (Err kind) at = omega arith
text_after (Ok statement.Nothing) at = omega arith
text_after (Ok (statement.Class class)) at = omega arith
text_after (Ok (statement.Entry index value)) at = omega arith
text_after (Ok (statement.Section in_section)) at = omega arith
text_after (Ok (statement.Word value)) at = elim at.in_section as (λ s. (one_word s at).text ≤ at.text + 1) [ section.Text ↦ omega arith | section.Data ↦ omega arith ]
text_after (Ok (statement.Instr mnemonic operands)) at = elim at.in_section as (λ s. (one_word s at).text ≤ at.text + 1) [ section.Text ↦ omega arith | section.Data ↦ omega arith ]

pub initial_after : (says : Result Statement AsmKind) (at : Cursor) → (cursor_after says at).initial ≤ at.initial + 1
initial_after (Err kind) at = omega arith
initial_after (Ok statement.Nothing) at = omega arith
initial_after (Ok (statement.Class class)) at = omega arith
initial_after (Ok (statement.Entry index value)) at = omega arith
initial_after (Ok (statement.Section in_section)) at = omega arith
initial_after (Ok (statement.Word value)) at = elim at.in_section as (λ s. (one_word s at).initial ≤ at.initial + 1) [ section.Text ↦ omega arith | section.Data ↦ omega arith ]
initial_after (Ok (statement.Instr mnemonic operands)) at = elim at.in_section as (λ s. (one_word s at).initial ≤ at.initial + 1) [ section.Text ↦ omega arith | section.Data ↦ omega arith ]

one_word_line : (s : Section) (at : Cursor) → (one_word s at).line ≡ at.line
one_word_line section.Text at = refl
one_word_line section.Data at = refl

pub line_after : (says : Result Statement AsmKind) (at : Cursor) → (cursor_after says at).line ≡ at.line
line_after (Err kind) at = refl
line_after (Ok statement.Nothing) at = refl
line_after (Ok (statement.Class class)) at = refl
line_after (Ok (statement.Entry index value)) at = refl
line_after (Ok (statement.Section in_section)) at = refl
line_after (Ok (statement.Word value)) at = one_word_line at.in_section at
line_after (Ok (statement.Instr mnemonic operands)) at = one_word_line at.in_section at

-- ---- second pass

pub draft_next : (labels : Labels) (line : ℕ) (first : List ℕ) (more : List (List ℕ)) (draft next : Draft)
    → at_line line (draft_after labels line (tokens_of first) draft) ≡ Ok next → draft_from labels line (first ∷ more) draft ≡ draft_from labels (line + 1) more next
unfolding draft_from
draft_next labels line first more draft next h = rw h refl

pub draft_stop : (labels : Labels) (line : ℕ) (first : List ℕ) (more : List (List ℕ)) (draft : Draft) (fault : AsmFault)
    → at_line line (draft_after labels line (tokens_of first) draft) ≡ Err fault → draft_from labels line (first ∷ more) draft ≡ Err fault
unfolding draft_from
draft_stop labels line first more draft fault h = rw h refl

-- ---- lines of a slice

pub lines_split : (lines : List (Bor (List ℕ))) (i : ℕ) (d : Bor (List ℕ)) → i < length lines
    → map (λ line. line.now) (drop i lines) ≡ (get_or lines i d).now ∷ map (λ line. line.now) (drop (i + 1) lines)
lines_split lines i d inside = rw (drop-cons lines i d inside, add-one) refl

-- ---- first pass, by the remaining lines

pub line_next : (says : Result Statement AsmKind) (at next : Cursor) → next ≡ next_line (cursor_after says at) → next.line ≡ at.line + 1
line_next says at next h = ap (λ p. p.line) h ∙ ap (λ n. n + 1) (line_after says at)

pub text_next : (says : Result Statement AsmKind) (at next : Cursor) → next ≡ next_line (cursor_after says at) → next.text ≤ at.text + 1
text_next says at next h = omega (arith, ap (λ p. p.text) h, text_after says at)

pub initial_next : (says : Result Statement AsmKind) (at next : Cursor) → next ≡ next_line (cursor_after says at) → next.initial ≤ at.initial + 1
initial_next says at next h = omega (arith, ap (λ p. p.initial) h, initial_after says at)

pub labels_more : (old new : List Label) (at next : Cursor) (lines : List (Bor (List ℕ))) (i : ℕ) (d : Bor (List ℕ)) (whole : List Label) → i < length lines
    → next ≡ next_line (cursor_after (line_says no_labels None at.in_section (tokens_of (get_or lines i d).now)) at)
    → new ≡ old ++ label_of (definition_of (tokens_of (get_or lines i d).now)) at
    → old ++ labels_from at (map (λ line. line.now) (drop i lines)) ≡ whole
    → new ++ labels_from next (map (λ line. line.now) (drop (i + 1) lines)) ≡ whole
labels_more old new at next lines i d whole inside same defined before =
    labels_step old new at next (get_or lines i d).now (map (λ line. line.now) (drop (i + 1) lines)) same defined
    ∙ ap (λ ls. old ++ labels_from at ls) (sym (lines_split lines i d inside))
    ∙ before

pub labels_done : (labels : List Label) (at : Cursor) (lines : List (Bor (List ℕ))) (i : ℕ) (whole : List Label) → length lines ≤ i
    → labels ++ labels_from at (map (λ line. line.now) (drop i lines)) ≡ whole → labels ≡ whole
labels_done labels at lines i whole past h =
    sym (append-nil labels)
    ∙ ap (labels ++◌) (sym (labels_end at))
    ∙ ap (λ ls. labels ++ labels_from at (map (λ line. line.now) ls)) (sym (drop_all i lines past))
    ∙ h

-- ---- second pass, by the remaining lines

pub draft_more : (labels : Labels) (n i : ℕ) (lines : List (Bor (List ℕ))) (d : Bor (List ℕ)) (draft next : Draft) (whole : Result Draft AsmFault) → i < length lines
    → at_line n (draft_after labels n (tokens_of (get_or lines i d).now) draft) ≡ Ok next
    → draft_from labels n (map (λ line. line.now) (drop i lines)) draft ≡ whole
    → draft_from labels (n + 1) (map (λ line. line.now) (drop (i + 1) lines)) next ≡ whole
draft_more labels n i lines d draft next whole inside taken before =
    sym (draft_next labels n (get_or lines i d).now (map (λ line. line.now) (drop (i + 1) lines)) draft next taken)
    ∙ ap (λ ls. draft_from labels n ls draft) (sym (lines_split lines i d inside))
    ∙ before

pub draft_fails : (labels : Labels) (n i : ℕ) (lines : List (Bor (List ℕ))) (d : Bor (List ℕ)) (draft : Draft) (whole : Result Draft AsmFault) (why : AsmError) → i < length lines
    → Fails why (at_line n (draft_after labels n (tokens_of (get_or lines i d).now) draft))
    → draft_from labels n (map (λ line. line.now) (drop i lines)) draft ≡ whole
    → Fails why whole
draft_fails labels n i lines d draft whole errors.NoMemory inside fault before = tt
draft_fails labels n i lines d draft whole (errors.Bad kind line) inside fault before =
    sym before
    ∙ ap (λ ls. draft_from labels n ls draft) (lines_split lines i d inside)
    ∙ draft_stop labels n (get_or lines i d).now (map (λ line. line.now) (drop (i + 1) lines)) draft (record { kind = kind; line = line }) fault

-- ---- the whole

pub assembled_by : (text : List ℕ) (labels : List Label) (draft : Draft) → labels ≡ labels_from first_cursor (lines_of text)
    → draft_from (first_of labels) 1 (lines_of text) first_draft ≡ Ok draft
    → assembled text ≡ at_line (length (lines_of text) + 1) (image_with draft.class (all_given draft.entries) draft)
unfolding assembled
assembled_by text labels draft same drawn = rw (sym same, drawn) refl

pub assembled_fails : (text : List ℕ) (labels : List Label) (why : AsmError) → labels ≡ labels_from first_cursor (lines_of text)
    → Fails why (draft_from (first_of labels) 1 (lines_of text) first_draft) → Fails why (assembled text)
unfolding assembled
assembled_fails text labels errors.NoMemory same drawn = tt
assembled_fails text labels (errors.Bad kind line) same drawn = rw (sym same, drawn) refl

-- ---- an error that is passed on

pub error_passed : {T : Type 0} (result : Result T AsmError) (why : AsmError) (whole : Result T AsmFault) → IsErrAnd result (λ error. error ≡ why) → Fails why whole → Gives result whole
error_passed (Ok value) why whole passed fails = absurd passed
error_passed (Err error) why whole passed fails = rw passed fails

-- ---- the whole, by the lines of a slice

abbrev bytes_of : List (Bor (List ℕ)) → List (List ℕ)
bytes_of lines = map (λ line. line.now) lines

same_labels : (text : List ℕ) (lines : List (Bor (List ℕ))) (labels : List Label) → bytes_of lines ≡ lines_of text
    → labels ≡ labels_from first_cursor (bytes_of lines) → labels ≡ labels_from first_cursor (lines_of text)
same_labels text lines labels cut same = same ∙ ap (labels_from first_cursor) cut

pub whole_by : (text : List ℕ) (items first second third : List (Bor (List ℕ))) (labels : List Label) (draft : Draft) (line : ℕ)
    → bytes_of items ≡ lines_of text → first ≡ items → second ≡ items → third ≡ items
    → labels ≡ labels_from first_cursor (bytes_of first)
    → draft_from (first_of labels) 1 (bytes_of second) first_draft ≡ Ok draft
    → line ≡ length (bytes_of third) + 1
    → assembled text ≡ at_line line (image_with draft.class (all_given draft.entries) draft)
whole_by text items first second third labels draft line cut p q r same drawn rest_after =
    assembled_by text labels draft (same_labels text first labels (ap bytes_of p ∙ cut) same)
    (ap (λ ls. draft_from (first_of labels) 1 ls first_draft) (sym (ap bytes_of q ∙ cut)) ∙ drawn)
    ∙ ap (λ n. at_line n (image_with draft.class (all_given draft.entries) draft)) (sym (rest_after ∙ ap (λ ls. length ls + 1) (ap bytes_of r ∙ cut)))

pub whole_fails : (text : List ℕ) (items first second : List (Bor (List ℕ))) (labels : List Label) (why : AsmError)
    → bytes_of items ≡ lines_of text → first ≡ items → second ≡ items
    → labels ≡ labels_from first_cursor (bytes_of first)
    → Fails why (draft_from (first_of labels) 1 (bytes_of second) first_draft)
    → Fails why (assembled text)
whole_fails text items first second labels why cut p q same fails =
    assembled_fails text labels why (same_labels text first labels (ap bytes_of p ∙ cut) same)
    (subst (λ ls. Fails why (draft_from (first_of labels) 1 ls first_draft)) (ap bytes_of q ∙ cut) fails)
