-- Parts and their journals, when one more part follows.
use Rattle.std.proofs.Common.{◌≡◌, ℕ, suc, ◌+◌, List, [], ◌∷◌, ◌++◌, length, refl, sym, ap, ◌∙◌, subst, append_assoc, append-nil, add-zero, arith}
use Rattle.nook_data.specs.declared.scenario.PartSpec.{PartSpec}
use Rattle.nook_data.specs.declared.scenario.ThreadSpec.{ThreadSpec}
use Rattle.nook_data.specs.declared.steps.Event.{Event}
use Rattle.order_defs.specs.OutOfOrder.{lines_in}
use Rattle.report_defs.specs.ReportText.{part_text, parts_text}
use Rattle.run_laws.specs.Audit.{done_of, opening_section}
use Rattle.run_laws.specs.Fitting.{AllFit, Fits, section_from, sections_of}
use Rattle.journal_audit.proofs.Following.{feeds_both, feeds_lines}
use Rattle.journal_audit.specs.LinesLeft.{event_ends}
use Rattle.journal_audit.specs.Position.{feeds}

next_position : (index many : ℕ) → suc index + many ≡ index + suc many
next_position index many = omega arith

module _ (threads : List ThreadSpec) (spec : PartSpec) (journal : List Event) where
  pub fit_back : (index : ℕ) (specs : List PartSpec) (journals : List (List Event)) → AllFit threads index specs journals
      → Fits threads (index + length specs) spec journal → AllFit threads index (specs ++ spec ∷ []) (journals ++ journal ∷ [])
  unfolding AllFit
  fit_back index [] [] h k = (subst (λ (n : ℕ). Fits threads n spec journal) (add-zero index) k, tt)
  fit_back index [] (j ∷ journals) h k = absurd h
  fit_back index (s ∷ specs) [] h k = absurd h
  fit_back index (s ∷ specs) (j ∷ journals) h k = (
    h.0,
    fit_back (suc index) specs journals h.1
        (subst (λ (n : ℕ). Fits threads n spec journal) (sym (next_position index (length specs))) k),
  )

  pub sections_back : (index : ℕ) (specs : List PartSpec) (journals : List (List Event)) → AllFit threads index specs journals
      → sections_of threads index (specs ++ spec ∷ []) (journals ++ journal ∷ [])
      ≡ sections_of threads index specs journals ++ done_of (section_from (opening_section threads (index + length specs) spec) journal) ∷ []
  unfolding AllFit sections_of
  sections_back index [] [] h = rw (add-zero index) refl
  sections_back index [] (j ∷ journals) h = absurd h
  sections_back index (s ∷ specs) [] h = absurd h
  sections_back index (s ∷ specs) (j ∷ journals) h =
      ap (λ l. done_of (section_from (opening_section threads index s) j) ∷ l)
      (sections_back (suc index) specs journals h.1
      ∙ ap (λ (n : ℕ). sections_of threads (suc index) specs journals ++ done_of (section_from (opening_section threads n spec) journal) ∷ [])
      (next_position index (length specs)))

  pub parts_back : (index : ℕ) (specs : List PartSpec) (journals : List (List Event)) → AllFit threads index specs journals
      → parts_text index (specs ++ spec ∷ []) (journals ++ journal ∷ [])
      ≡ parts_text index specs journals ++ part_text (index + length specs) spec journal
  unfolding AllFit parts_text
  parts_back index [] [] h = rw (add-zero index) (append-nil (part_text index spec journal))
  parts_back index [] (j ∷ journals) h = absurd h
  parts_back index (s ∷ specs) [] h = absurd h
  parts_back index (s ∷ specs) (j ∷ journals) h =
      ap (λ text. part_text index s j ++ text)
      (parts_back (suc index) specs journals h.1
      ∙ ap (λ (n : ℕ). parts_text (suc index) specs journals ++ part_text n spec journal) (next_position index (length specs)))
      ∙ sym (append_assoc (part_text index s j) (parts_text (suc index) specs journals) (part_text (index + suc (length specs)) spec journal))

  pub ends_back : (line index : ℕ) (specs : List PartSpec) (journals : List (List Event)) → AllFit threads index specs journals
      → event_ends line index (specs ++ spec ∷ []) (journals ++ journal ∷ [])
      ≡ event_ends line index specs journals ++ (line + feeds (parts_text index specs journals) + suc (length journal)) ∷ []
  unfolding AllFit parts_text
  ends_back line index [] [] h = rw (add-zero line) refl
  ends_back line index [] (j ∷ journals) h = absurd h
  ends_back line index (s ∷ specs) [] h = absurd h
  ends_back line index (s ∷ specs) (j ∷ journals) h =
      let text : List ℕ = part_text index s j in
      let more : List ℕ = parts_text (suc index) specs journals in
      let both : feeds (text ++ more) ≡ feeds text + feeds more = feeds_both text more in
      let same : feeds text ≡ lines_in text = feeds_lines text in
      let sum : line + lines_in text + feeds more ≡ line + feeds (text ++ more) = omega arith in
      ap (λ (l : List ℕ). (line + suc (length j)) ∷ l)
      (ends_back (line + lines_in text) (suc index) specs journals h.1
      ∙ ap (λ (n : ℕ). event_ends (line + lines_in text) (suc index) specs journals ++ (n + suc (length journal)) ∷ []) sum)
