-- Which lines make the words: line by line, and for the whole text.
use Rattle.std.proofs.Common.{◌≡◌, ℕ, ◌+◌, ◌<◌, ◌≤◌, List, [], ◌∷◌, ◌++◌, subst, length, drop, get_or, map, refl, ap, sym, ◌∙◌, append-nil, append_assoc}
use Rattle.std.specs.Prelude.{Result, Ok, Err}
use Rattle.std.specs.Borrow.{Bor}
use Rattle.std.specs.Result.{IsErrAnd}
use Rattle.std.proofs.lemmas.List.{drop_all}
use Rattle.asm_defs.specs.AsmLines.{Labels, first_of}
use Rattle.asm_defs.specs.AsmTokens.{lines_of, tokens_of}
use Rattle.asm_defs.specs.Assembler.{Draft, assembled, draft_after, draft_from, first_draft, first_cursor, labels_from}
use Rattle.asm_defs.specs.declared.assembler.AsmFault.{AsmFault}
use Rattle.asm_defs.specs.declared.assembler.Label.{Label}
use Rattle.asm_defs.specs.declared.assembler.Section.{Section}
use Rattle.asm_defs.specs.declared.assembler.Section.TheVariants as section
use Rattle.nook_data.specs.declared.scenario.Image.{Image}
use Rattle.driver_asm.proofs.Lines.{lines_split}
use Rattle.driver_asm.specs.Answers.{Fails}
use Rattle.driver_asm.specs.Listed.{MakesAll, if_longer, listed, makers, words_in}
use Rattle.driver_asm.specs.declared.error.AsmError.{AsmError}
use Rattle.driver_asm.specs.declared.error.AsmError.TheVariants as errors
use Rattle.driver_asm.specs.declared.listed.Made.{Made}

abbrev bytes_of : List (Bor (List ℕ)) → List (List ℕ)
bytes_of lines = map (λ line. line.now) lines

makers_next : (s : Section) (labels : Labels) (n : ℕ) (first : List ℕ) (more : List (List ℕ)) (draft next : Draft)
    → draft_after labels n (tokens_of first) draft ≡ Ok next
    → if_longer n (words_in s draft) (words_in s next) ++ makers s labels (n + 1) more next ≡ makers s labels n (first ∷ more) draft
unfolding makers
makers_next s labels n first more draft next h = rw h refl

pub makers_more : (s : Section) (labels : Labels) (n i : ℕ) (lines : List (Bor (List ℕ))) (d : Bor (List ℕ)) (draft next : Draft) (old new whole : List ℕ) → i < length lines
    → draft_after labels n (tokens_of (get_or lines i d).now) draft ≡ Ok next
    → new ≡ old ++ if_longer n (words_in s draft) (words_in s next)
    → old ++ makers s labels n (bytes_of (drop i lines)) draft ≡ whole
    → new ++ makers s labels (n + 1) (bytes_of (drop (i + 1) lines)) next ≡ whole
makers_more s labels n i lines d draft next old new whole inside taken grown before =
    ap (λ ls. ls ++ makers s labels (n + 1) (bytes_of (drop (i + 1) lines)) next) grown
    ∙ append_assoc old (if_longer n (words_in s draft) (words_in s next)) (makers s labels (n + 1) (bytes_of (drop (i + 1) lines)) next)
    ∙ ap (old ++◌) (makers_next s labels n (get_or lines i d).now (bytes_of (drop (i + 1) lines)) draft next taken)
    ∙ ap (λ ls. old ++ makers s labels n ls draft) (sym (lines_split lines i d inside))
    ∙ before

makers_end : (s : Section) (labels : Labels) (n : ℕ) (draft : Draft) → makers s labels n [] draft ≡ []
unfolding makers
makers_end s labels n draft = refl

pub makers_done : (s : Section) (labels : Labels) (n i : ℕ) (lines : List (Bor (List ℕ))) (draft : Draft) (made whole : List ℕ) → length lines ≤ i
    → made ++ makers s labels n (bytes_of (drop i lines)) draft ≡ whole → made ≡ whole
makers_done s labels n i lines draft made whole past h =
    sym (append-nil made)
    ∙ ap (made ++◌) (sym (makers_end s labels n draft))
    ∙ ap (λ ls. made ++ makers s labels n (bytes_of ls) draft) (sym (drop_all i lines past))
    ∙ h

draft_end : (labels : Labels) (n : ℕ) (draft : Draft) → draft_from labels n [] draft ≡ Ok draft
unfolding draft_from
draft_end labels n draft = refl

pub draft_done : (labels : Labels) (n i : ℕ) (lines : List (Bor (List ℕ))) (draft : Draft) (whole : Result Draft AsmFault) → length lines ≤ i
    → draft_from labels n (bytes_of (drop i lines)) draft ≡ whole → whole ≡ Ok draft
draft_done labels n i lines draft whole past h =
    sym h ∙ ap (λ ls. draft_from labels n (bytes_of ls) draft) (drop_all i lines past) ∙ draft_end labels n draft

pub made_passed : (result : Result Made AsmError) (why : AsmError) (labels : Labels) (lines : List (List ℕ)) (whole : Result Draft AsmFault)
    → IsErrAnd result (λ error. error ≡ why) → Fails why whole → MakesAll result labels lines whole
made_passed (Ok made) why labels lines whole passed fails = absurd passed
made_passed (Err error) why labels lines whole passed fails = rw passed fails

-- ---- the whole

listed_with : (text text_lines initial_lines : List ℕ) (labels : List Label) (image : Image)
    → labels ≡ labels_from first_cursor (lines_of text)
    → text_lines ≡ makers section.Text (first_of labels) 1 (lines_of text) first_draft
    → initial_lines ≡ makers section.Data (first_of labels) 1 (lines_of text) first_draft
    → assembled text ≡ Ok image
    → listed text ≡ Ok (record { image = image; text_lines = text_lines; initial_lines = initial_lines; labels = labels })
unfolding listed
listed_with text text_lines initial_lines labels image same ts is made = rw (made, sym same, sym ts, sym is) refl

pub listed_by : (text : List ℕ) (items first second : List (Bor (List ℕ))) (text_lines initial_lines : List ℕ) (labels : List Label) (image : Image)
    → bytes_of items ≡ lines_of text → first ≡ items → second ≡ items
    → labels ≡ labels_from first_cursor (bytes_of first)
    → text_lines ≡ makers section.Text (first_of labels) 1 (bytes_of second) first_draft
    → initial_lines ≡ makers section.Data (first_of labels) 1 (bytes_of second) first_draft
    → assembled text ≡ Ok image
    → listed text ≡ Ok (record { image = image; text_lines = text_lines; initial_lines = initial_lines; labels = labels })
listed_by text items first second text_lines initial_lines labels image cut p q same ts is made =
    listed_with text text_lines initial_lines labels image (same ∙ ap (labels_from first_cursor) (ap bytes_of p ∙ cut))
    (ts ∙ ap (λ ls. makers section.Text (first_of labels) 1 ls first_draft) (ap bytes_of q ∙ cut))
    (is ∙ ap (λ ls. makers section.Data (first_of labels) 1 ls first_draft) (ap bytes_of q ∙ cut))
    made

pub listed_fails : (text : List ℕ) (why : AsmError) → Fails why (assembled text) → Fails why (listed text)
unfolding listed
listed_fails text errors.NoMemory fails = tt
listed_fails text (errors.Bad kind line) fails = rw fails refl

pub fails_if : (one other : Result Image AsmFault) (why : AsmError) → one ≡ other → Fails why other → Fails why one
fails_if one other why same fails = subst (Fails why) (sym same) fails
