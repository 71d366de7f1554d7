-- The text of a valid image assembles to that image.
use Rattle.std.specs.Prelude.{false, ◌≡◌, refl, ℕ, suc, ◌+◌, ◌^◌, ◌<◌, ◌≤◌, List, [], ◌∷◌, ◌++◌, map, length, slice_get, slice_set, decimal, codes, Option, Some, None, Ok, All}
use Rattle.std.proofs.lemmas.List.{append_assoc, append-nil, map-append, length-append}
use native.Mathlib.Omega.{arith}
use mathlib.Core.Path.{ap, ◌∙◌}
use Rattle.asm_defs.specs.AsmTokens.{kind_of, is_label_name}
use Rattle.asm_defs.specs.AsmLines.{Labels, position_among}
use Rattle.asm_defs.specs.Assembler.{Draft, first_draft, draft_after, draft_from, all_given, assembled}
use Rattle.asm_defs.specs.Views.Assembling.{with_class, is_given}
use Rattle.nook_data.specs.Classes.{entry_count}
use Rattle.asm_defs.specs.Disassembler.{line_body, text_tokens, word_tokens, entry_lines, initial_lines, image_lines}
use Rattle.asm_defs.specs.Disassembler.{disassembled}
use Rattle.asm_defs.specs.Views.Assembling.{class_tokens}
use Rattle.asm_defs.specs.Keys.{key_text, entry_keys}
use Rattle.nook_data.specs.Valid.{IsValidImage, IsWord}
use Rattle.nook_data.specs.Views.Limits.{IsTextAddress}
use Rattle.asm_defs.specs.declared.assembler.Section.{Section}
use Rattle.asm_defs.specs.declared.assembler.Section.TheVariants as section
use Rattle.asm_defs.specs.declared.assembler.TokenKind.TheVariants as kind
use Rattle.nook_data.specs.declared.classes.Class.{Class}
use Rattle.nook_data.specs.declared.classes.Class.TheVariants as class
use Rattle.nook_data.specs.declared.scenario.Image.{Image}
use Rattle.asm_defs.specs.declared.keys.Key.{Key}
use Rattle.asm_defs.specs.declared.keys.Key.TheVariants as key
use Rattle.asm_defs.proofs.AsmText.{IsPlainToken, IsLine, AreLines, tokens_of_line, lines_of_text}
use Rattle.asm_defs.proofs.AsmSteps.{draft, word_line, text_line, class_line, data_line, entry_line, word_in_data}
use Rattle.asm_defs.proofs.AsmSteps.{text_taken, class_taken, data_taken, entry_taken}

key_kind : (k : Key) → kind_of (key_text k) ≡ kind.Name
unfolding kind_of is_label_name
key_kind key.Address = refl
key_kind key.After = refl
key_kind key.Arrivals = refl
key_kind key.Asm = refl
key_kind key.Bad = refl
key_kind key.Base = refl
key_kind key.Block = refl
key_kind key.Blocks = refl
key_kind key.Burst = refl
key_kind key.Class = refl
key_kind key.Close = refl
key_kind key.Count = refl
key_kind key.Data = refl
key_kind key.Detail = refl
key_kind key.Driver = refl
key_kind key.Entries = refl
key_kind key.Every = refl
key_kind key.Faults = refl
key_kind key.First = refl
key_kind key.Frame = refl
key_kind key.Get = refl
key_kind key.Guard = refl
key_kind key.Image = refl
key_kind key.Init = refl
key_kind key.Key = refl
key_kind key.Kind = refl
key_kind key.Limit = refl
key_kind key.Members = refl
key_kind key.Name = refl
key_kind key.Op = refl
key_kind key.Open = refl
key_kind key.Ops = refl
key_kind key.Part = refl
key_kind key.Parts = refl
key_kind key.Picks = refl
key_kind key.Play = refl
key_kind key.Poll = refl
key_kind key.Read = refl
key_kind key.Register = refl
key_kind key.Samples = refl
key_kind key.Schedule = refl
key_kind key.Send = refl
key_kind key.Set = refl
key_kind key.Start = refl
key_kind key.Text = refl
key_kind key.Threads = refl
key_kind key.Value = refl
key_kind key.Version = refl
key_kind key.Write = refl

key_token : (k : Key) → IsPlainToken (key_text k)
key_token key.Address = record { bytes = refl; some = refl }
key_token key.After = record { bytes = refl; some = refl }
key_token key.Arrivals = record { bytes = refl; some = refl }
key_token key.Asm = record { bytes = refl; some = refl }
key_token key.Bad = record { bytes = refl; some = refl }
key_token key.Base = record { bytes = refl; some = refl }
key_token key.Block = record { bytes = refl; some = refl }
key_token key.Blocks = record { bytes = refl; some = refl }
key_token key.Burst = record { bytes = refl; some = refl }
key_token key.Class = record { bytes = refl; some = refl }
key_token key.Close = record { bytes = refl; some = refl }
key_token key.Count = record { bytes = refl; some = refl }
key_token key.Data = record { bytes = refl; some = refl }
key_token key.Detail = record { bytes = refl; some = refl }
key_token key.Driver = record { bytes = refl; some = refl }
key_token key.Entries = record { bytes = refl; some = refl }
key_token key.Every = record { bytes = refl; some = refl }
key_token key.Faults = record { bytes = refl; some = refl }
key_token key.First = record { bytes = refl; some = refl }
key_token key.Frame = record { bytes = refl; some = refl }
key_token key.Get = record { bytes = refl; some = refl }
key_token key.Guard = record { bytes = refl; some = refl }
key_token key.Image = record { bytes = refl; some = refl }
key_token key.Init = record { bytes = refl; some = refl }
key_token key.Key = record { bytes = refl; some = refl }
key_token key.Kind = record { bytes = refl; some = refl }
key_token key.Limit = record { bytes = refl; some = refl }
key_token key.Members = record { bytes = refl; some = refl }
key_token key.Name = record { bytes = refl; some = refl }
key_token key.Op = record { bytes = refl; some = refl }
key_token key.Open = record { bytes = refl; some = refl }
key_token key.Ops = record { bytes = refl; some = refl }
key_token key.Part = record { bytes = refl; some = refl }
key_token key.Parts = record { bytes = refl; some = refl }
key_token key.Picks = record { bytes = refl; some = refl }
key_token key.Play = record { bytes = refl; some = refl }
key_token key.Poll = record { bytes = refl; some = refl }
key_token key.Read = record { bytes = refl; some = refl }
key_token key.Register = record { bytes = refl; some = refl }
key_token key.Samples = record { bytes = refl; some = refl }
key_token key.Schedule = record { bytes = refl; some = refl }
key_token key.Send = record { bytes = refl; some = refl }
key_token key.Set = record { bytes = refl; some = refl }
key_token key.Start = record { bytes = refl; some = refl }
key_token key.Text = record { bytes = refl; some = refl }
key_token key.Threads = record { bytes = refl; some = refl }
key_token key.Value = record { bytes = refl; some = refl }
key_token key.Version = record { bytes = refl; some = refl }
key_token key.Write = record { bytes = refl; some = refl }

-- one line that the assembler accepts
taken : (labels : Labels) (line : ℕ) (tokens : List (List ℕ)) (rest : List (List ℕ)) (before now : Draft) → IsLine tokens → draft_after labels line tokens before ≡ Ok now
    → draft_from labels line (line_body tokens ∷ rest) before ≡ draft_from labels (line + 1) rest now
unfolding draft_from
taken labels line tokens rest before now plain step = rw (tokens_of_line tokens plain, step) refl

-- ---- words

abbrev pub Words : List ℕ → Type 0
Words [] = Unit {0}
Words (w ∷ ws) = (w < 2 ^ 32) × Words ws

pub words_from : (ws : List ℕ) → All IsWord ws → Words ws
words_from [] h = tt
words_from (w ∷ ws) h = (h 0 0 (omega arith), words_from ws (λ k d lt. h (suc k) d (omega (arith, lt))))

longer : (t : List ℕ) (w n : ℕ) → length t + suc n ≤ 2048 → length (t ++ w ∷ []) + n ≤ 2048
longer t w n room = rw (length-append t (w ∷ [])) (omega (arith, room))

later : (labels : Labels) (line n : ℕ) (rest : List (List ℕ)) (c : Class) (e : List (Option ℕ)) (x y : List ℕ) → x ≡ y
    → draft_from labels (line + 1 + n) rest (draft c e section.Text x []) ≡ draft_from labels (line + suc n) rest (draft c e section.Text y [])
later labels line n rest c e x y h = let same : line + 1 + n ≡ line + suc n = omega arith in
    ap (λ k. draft_from labels k rest (draft c e section.Text x [])) same ∙ ap (λ z. draft_from labels (line + suc n) rest (draft c e section.Text z [])) h

texts_taken : (labels : Labels) (line : ℕ) (ws : List ℕ) (rest : List (List ℕ)) (c : Class) (e : List (Option ℕ)) (t : List ℕ) → Words ws → length t + length ws ≤ 2048
    → draft_from labels line (map line_body (map text_tokens ws) ++ rest) (draft c e section.Text t []) ≡ draft_from labels (line + length ws) rest (draft c e section.Text (t ++ ws) [])
texts_taken labels line [] rest c e t h room =
    let same : line ≡ line + 0 = omega arith in
    rw (append-nil t) (ap (λ n. draft_from labels n rest (draft c e section.Text t [])) same)
texts_taken labels line (w ∷ ws) rest c e t h room =
    taken labels line (text_tokens w) (map line_body (map text_tokens ws) ++ rest) (draft c e section.Text t []) (draft c e section.Text (t ++ w ∷ []) [])
    (text_line w h.0) (text_taken labels line w c e t [] h.0 (omega (arith, room)))
    ∙ texts_taken labels (line + 1) ws rest c e (t ++ w ∷ []) h.1 (longer t w (length ws) room)
    ∙ later labels line (length ws) rest c e ((t ++ w ∷ []) ++ ws) (t ++ w ∷ ws) (append_assoc t (w ∷ []) ws)

datas_taken : (labels : Labels) (line : ℕ) (ws : List ℕ) (c : Class) (e : List (Option ℕ)) (t i : List ℕ) → Words ws → length i + length ws ≤ 2048
    → draft_from labels line (map line_body (map word_tokens ws)) (draft c e section.Data t i) ≡ Ok (draft c e section.Data t (i ++ ws))
unfolding draft_from
datas_taken labels line [] c e t i h room = rw (append-nil i) refl
datas_taken labels line (w ∷ ws) c e t i h room =
    taken labels line (word_tokens w) (map line_body (map word_tokens ws)) (draft c e section.Data t i) (draft c e section.Data t (i ++ w ∷ []))
    (word_line w h.0) (word_in_data labels line w c e t i h.0 (omega (arith, room)))
    ∙ datas_taken labels (line + 1) ws c e t (i ++ w ∷ []) h.1 (longer i w (length ws) room)
    ∙ ap (λ x. Ok (draft c e section.Data t x)) (append_assoc i (w ∷ []) ws)

section_after : List ℕ → Section
section_after [] = section.Text
section_after (w ∷ ws) = section.Data

-- the initial words, if there are any
end_taken : (labels : Labels) (line : ℕ) (ws : List ℕ) (c : Class) (e : List (Option ℕ)) (t : List ℕ) → Words ws → length ws ≤ 2048
    → draft_from labels line (map line_body (initial_lines ws)) (draft c e section.Text t []) ≡ Ok (draft c e (section_after ws) t ws)
unfolding draft_from section_after
end_taken labels line [] c e t h room = refl
end_taken labels line (w ∷ ws) c e t h room =
    taken labels line (codes ".data" ∷ []) (map line_body (map word_tokens (w ∷ ws))) (draft c e section.Text t []) (draft c e section.Data t []) data_line (data_taken labels line c e t [])
    ∙ datas_taken labels (line + 1) (w ∷ ws) c e t [] h (omega (arith, room))

-- ---- entries

entry_step : (labels : Labels) (line address at : ℕ) (k : Key) (c : Class) (e : List (Option ℕ)) (rest : List (List ℕ))
    → position_among 0 (entry_keys c) (key_text k) ≡ Some at → is_given (slice_get e at) ≡ false → address ≤ 2047
    → draft_from labels line (line_body (codes ".entry" ∷ key_text k ∷ decimal address ∷ []) ∷ rest) (draft c e section.Text [] [])
    ≡ draft_from labels (line + 1) rest (draft c (slice_set e at (Some address)) section.Text [] [])
entry_step labels line address at k c e rest among fresh low =
    taken labels line (codes ".entry" ∷ key_text k ∷ decimal address ∷ []) rest (draft c e section.Text [] []) (draft c (slice_set e at (Some address)) section.Text [] [])
    (entry_line k address (key_token k) low) (entry_taken labels line address at k c e [] [] (key_kind k) among fresh low)

class_step : (labels : Labels) (c : Class) (rest : List (List ℕ))
    → draft_from labels 1 (line_body (class_tokens c) ∷ rest) first_draft ≡ draft_from labels 2 rest (with_class c first_draft)
class_step labels c rest = taken labels 1 (class_tokens c) rest first_draft (with_class c first_draft) (class_line c) (class_taken labels 1 c)

abbrev pub Low : List ℕ → Type 0
Low [] = Unit {0}
Low (p ∷ ps) = (p ≤ 2047) × Low ps

pub low_from : (ps : List ℕ) → All IsTextAddress ps → Low ps
low_from [] h = tt
low_from (p ∷ ps) h = (h 0 0 (omega arith), low_from ps (λ k d lt. h (suc k) d (omega (arith, lt))))

block_head : (labels : Labels) (p q r s t : ℕ) (rest : List (List ℕ)) → Low (p ∷ q ∷ r ∷ s ∷ t ∷ [])
    → draft_from labels 1 (map line_body (class_tokens class.Block ∷ entry_lines (entry_keys class.Block) (p ∷ q ∷ r ∷ s ∷ t ∷ [])) ++ rest) first_draft
    ≡ draft_from labels 7 rest (draft class.Block (map Some (p ∷ q ∷ r ∷ s ∷ t ∷ [])) section.Text [] [])
block_head labels p q r s t rest low =
    class_step labels class.Block _
    ∙ entry_step labels 2 p 0 key.Init class.Block (None ∷ None ∷ None ∷ None ∷ None ∷ []) _ refl refl low.0
    ∙ entry_step labels 3 q 1 key.Read class.Block (Some p ∷ None ∷ None ∷ None ∷ None ∷ []) _ refl refl low.1.0
    ∙ entry_step labels 4 r 2 key.Write class.Block (Some p ∷ Some q ∷ None ∷ None ∷ None ∷ []) _ refl refl low.1.1.0
    ∙ entry_step labels 5 s 3 key.Get class.Block (Some p ∷ Some q ∷ Some r ∷ None ∷ None ∷ []) _ refl refl low.1.1.1.0
    ∙ entry_step labels 6 t 4 key.Set class.Block (Some p ∷ Some q ∷ Some r ∷ Some s ∷ None ∷ []) _ refl refl low.1.1.1.1.0

net_head : (labels : Labels) (p q r s t : ℕ) (rest : List (List ℕ)) → Low (p ∷ q ∷ r ∷ s ∷ t ∷ [])
    → draft_from labels 1 (map line_body (class_tokens class.Net ∷ entry_lines (entry_keys class.Net) (p ∷ q ∷ r ∷ s ∷ t ∷ [])) ++ rest) first_draft
    ≡ draft_from labels 7 rest (draft class.Net (map Some (p ∷ q ∷ r ∷ s ∷ t ∷ [])) section.Text [] [])
net_head labels p q r s t rest low =
    class_step labels class.Net _
    ∙ entry_step labels 2 p 0 key.Init class.Net (None ∷ None ∷ None ∷ None ∷ None ∷ []) _ refl refl low.0
    ∙ entry_step labels 3 q 1 key.Send class.Net (Some p ∷ None ∷ None ∷ None ∷ None ∷ []) _ refl refl low.1.0
    ∙ entry_step labels 4 r 2 key.Poll class.Net (Some p ∷ Some q ∷ None ∷ None ∷ None ∷ []) _ refl refl low.1.1.0
    ∙ entry_step labels 5 s 3 key.Get class.Net (Some p ∷ Some q ∷ Some r ∷ None ∷ None ∷ []) _ refl refl low.1.1.1.0
    ∙ entry_step labels 6 t 4 key.Set class.Net (Some p ∷ Some q ∷ Some r ∷ Some s ∷ None ∷ []) _ refl refl low.1.1.1.1.0

sound_head : (labels : Labels) (p q r s t u : ℕ) (rest : List (List ℕ)) → Low (p ∷ q ∷ r ∷ s ∷ t ∷ u ∷ [])
    → draft_from labels 1 (map line_body (class_tokens class.Sound ∷ entry_lines (entry_keys class.Sound) (p ∷ q ∷ r ∷ s ∷ t ∷ u ∷ [])) ++ rest) first_draft
    ≡ draft_from labels 8 rest (draft class.Sound (map Some (p ∷ q ∷ r ∷ s ∷ t ∷ u ∷ [])) section.Text [] [])
sound_head labels p q r s t u rest low =
    class_step labels class.Sound _
    ∙ entry_step labels 2 p 0 key.Init class.Sound (None ∷ None ∷ None ∷ None ∷ None ∷ None ∷ []) _ refl refl low.0
    ∙ entry_step labels 3 q 1 key.Open class.Sound (Some p ∷ None ∷ None ∷ None ∷ None ∷ None ∷ []) _ refl refl low.1.0
    ∙ entry_step labels 4 r 2 key.Play class.Sound (Some p ∷ Some q ∷ None ∷ None ∷ None ∷ None ∷ []) _ refl refl low.1.1.0
    ∙ entry_step labels 5 s 3 key.Close class.Sound (Some p ∷ Some q ∷ Some r ∷ None ∷ None ∷ None ∷ []) _ refl refl low.1.1.1.0
    ∙ entry_step labels 6 t 4 key.Get class.Sound (Some p ∷ Some q ∷ Some r ∷ Some s ∷ None ∷ None ∷ []) _ refl refl low.1.1.1.1.0
    ∙ entry_step labels 7 u 5 key.Set class.Sound (Some p ∷ Some q ∷ Some r ∷ Some s ∷ Some t ∷ None ∷ []) _ refl refl low.1.1.1.1.1.0

-- takes a list of five items apart, and one of six
pub five : (P : List ℕ → Type 0) (es : List ℕ) → length es ≡ 5 → ((p q r s t : ℕ) → P (p ∷ q ∷ r ∷ s ∷ t ∷ [])) → P es
five P (p ∷ q ∷ r ∷ s ∷ t ∷ []) h each = each p q r s t
five P [] h each = absurd (omega (arith, h))
five P (p ∷ []) h each = absurd (omega (arith, h))
five P (p ∷ q ∷ []) h each = absurd (omega (arith, h))
five P (p ∷ q ∷ r ∷ []) h each = absurd (omega (arith, h))
five P (p ∷ q ∷ r ∷ s ∷ []) h each = absurd (omega (arith, h))
five P (p ∷ q ∷ r ∷ s ∷ t ∷ u ∷ more) h each = absurd (omega (arith, h))

pub six : (P : List ℕ → Type 0) (es : List ℕ) → length es ≡ 6 → ((p q r s t u : ℕ) → P (p ∷ q ∷ r ∷ s ∷ t ∷ u ∷ [])) → P es
six P [] h each = absurd (omega (arith, h))
six P (p ∷ es) h each = five (λ xs. P (p ∷ xs)) es (omega (arith, h)) (λ q r s t u. each p q r s t u)

Head : Labels → Class → List (List ℕ) → List ℕ → Type 0
Head labels c rest es = Low es → (n : ℕ) × (draft_from labels 1 (map line_body (class_tokens c ∷ entry_lines (entry_keys c) es) ++ rest) first_draft
    ≡ draft_from labels n rest (draft c (map Some es) section.Text [] []))

head_taken : (labels : Labels) (c : Class) (es : List ℕ) (rest : List (List ℕ)) → length es ≡ entry_count c → Head labels c rest es
unfolding Head
head_taken labels class.Block es rest h = five (Head labels class.Block rest) es h (λ p q r s t low. (7, block_head labels p q r s t rest low))
head_taken labels class.Net es rest h = five (Head labels class.Net rest) es h (λ p q r s t low. (7, net_head labels p q r s t rest low))
head_taken labels class.Sound es rest h = six (Head labels class.Sound rest) es h (λ p q r s t u low. (8, sound_head labels p q r s t u rest low))

-- ---- the whole

given : (es : List ℕ) → all_given (map Some es) ≡ Some es
given [] = refl
given (e ∷ es) = rw (given es) refl

lines_both : (xs ys : List (List (List ℕ))) → AreLines xs → AreLines ys → AreLines (xs ++ ys)
lines_both [] ys h k = k
lines_both (x ∷ xs) ys h k = (h.0, lines_both xs ys h.1 k)

entries_plain : (ks : List Key) (es : List ℕ) → Low es → AreLines (entry_lines ks es)
entries_plain [] es low = tt
entries_plain (k ∷ ks) [] low = tt
entries_plain (k ∷ ks) (e ∷ es) low = (entry_line k e (key_token k) low.0, entries_plain ks es low.1)

texts_plain : (ws : List ℕ) → Words ws → AreLines (map text_tokens ws)
texts_plain [] h = tt
texts_plain (w ∷ ws) h = (text_line w h.0, texts_plain ws h.1)

datas_plain : (ws : List ℕ) → Words ws → AreLines (map word_tokens ws)
datas_plain [] h = tt
datas_plain (w ∷ ws) h = (word_line w h.0, datas_plain ws h.1)

initials_plain : (ws : List ℕ) → Words ws → AreLines (initial_lines ws)
initials_plain [] h = tt
initials_plain (w ∷ ws) h = (data_line, datas_plain (w ∷ ws) h)

image_plain : (image : Image) → IsValidImage image → AreLines (image_lines image)
unfolding image_lines
image_plain image valid =
    lines_both (class_tokens image.class ∷ entry_lines (entry_keys image.class) image.entries) (map text_tokens image.text ++ initial_lines image.initial)
    (class_line image.class, entries_plain (entry_keys image.class) image.entries (low_from image.entries valid.addresses))
    (lines_both (map text_tokens image.text) (initial_lines image.initial)
    (texts_plain image.text (words_from image.text valid.text.1)) (initials_plain image.initial (words_from image.initial valid.initial.1)))

image_taken : (labels : Labels) (image : Image) → IsValidImage image
    → draft_from labels 1 (map line_body (image_lines image)) first_draft ≡ Ok (draft image.class (map Some image.entries) (section_after image.initial) image.text image.initial)
unfolding image_lines Head
image_taken labels image valid =
    let rest : List (List ℕ) = map line_body (map text_tokens image.text ++ initial_lines image.initial) in
    let head = head_taken labels image.class image.entries rest valid.entries (low_from image.entries valid.addresses) in
    rw (map-append line_body (class_tokens image.class ∷ entry_lines (entry_keys image.class) image.entries) (map text_tokens image.text ++ initial_lines image.initial))
    (head.1
    ∙ ap (λ lines. draft_from labels head.0 lines (draft image.class (map Some image.entries) section.Text [] [])) (map-append line_body (map text_tokens image.text) (initial_lines image.initial))
    ∙ texts_taken labels head.0 image.text (map line_body (initial_lines image.initial)) image.class (map Some image.entries) [] (words_from image.text valid.text.1) (omega (arith, valid.text.0))
    ∙ end_taken labels (head.0 + length image.text) image.initial image.class (map Some image.entries) image.text (words_from image.initial valid.initial.1) valid.initial.0)

pub comes_back : (image : Image) → IsValidImage image → assembled (disassembled image) ≡ Ok image
unfolding assembled disassembled
comes_back image valid =
    rw (lines_of_text (image_lines image) (image_plain image valid), image_taken _ image valid, given image.entries) refl
