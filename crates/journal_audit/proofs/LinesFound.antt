-- The line of the first event left.
use Rattle.std.proofs.Common.{◌≡◌, ℕ, zero, suc, ◌+◌, ◌-◌, ◌<◌, ◌≤◌, Option, Some, None, List, [], ◌∷◌, length, slice_get, slice_index_or, refl, sym, ap, ◌∙◌, subst, arith}
use Rattle.std.proofs.lemmas.Option.{slice_get_within}
use Rattle.event_order.proofs.Shorter.{AreShorter, as_many_left}
use Rattle.event_order.specs.Ends.{IsLeftOver}
use Rattle.event_order.specs.declared.first.FirstLeft.{FirstLeft}
use Rattle.nook_data.proofs.Options.{none_is_some, same_inside}
use Rattle.nook_data.specs.declared.scenario.PartSpec.{PartSpec}
use Rattle.nook_data.specs.declared.scenario.ThreadSpec.{ThreadSpec}
use Rattle.nook_data.specs.declared.steps.Event.{Event}
use Rattle.order_defs.specs.OutOfOrder.{first_left, lines_in}
use Rattle.order_defs.specs.Taking.{Leads, opening_taking}
use Rattle.report_defs.specs.ReportText.{part_text}
use Rattle.run_laws.specs.Fitting.{AllFit}
use Rattle.journal_audit.specs.LinesLeft.{FirstLeftIs, event_ends, left_line}
use Rattle.journal_audit.specs.PastSections.{Past}

-- ---- by the line after each section's events

line_at : (ends : List ℕ) (left : List (List Event)) (part d : ℕ) (e : Event) (rest : List Event) → length left ≡ length ends
    → slice_get left part ≡ Some (e ∷ rest) → ((k : ℕ) → k < part → slice_index_or left k [] ≡ [])
    → left_line ends left ≡ Some (slice_index_or ends part d - length (e ∷ rest))
line_at ends [] part d e rest many at before = none_is_some at
line_at [] (events ∷ left) part d e rest many at before = absurd (omega arith)
line_at (end ∷ ends) (events ∷ left) zero d e rest many at before =
    ap (λ (l : List Event). left_line (end ∷ ends) (l ∷ left)) (same_inside at)
line_at (end ∷ ends) (events ∷ left) (suc part) d e rest many at before =
    let fewer : length left ≡ length ends = omega arith in
    ap (λ (l : List Event). left_line (end ∷ ends) (l ∷ left)) (before 0 (omega arith))
    ∙ line_at ends left part d e rest fewer at (λ k h. before (suc k) (omega arith))

line_none : (ends : List ℕ) (left : List (List Event)) → length left ≡ length ends → ((k : ℕ) → slice_index_or left k [] ≡ [])
    → left_line ends left ≡ None
line_none [] [] many none = refl
line_none (end ∷ ends) [] many none = absurd (omega arith)
line_none [] (events ∷ left) many none = absurd (omega arith)
line_none (end ∷ ends) (events ∷ left) many none =
    let fewer : length left ≡ length ends = omega arith in
    ap (λ (l : List Event). left_line (end ∷ ends) (l ∷ left)) (none 0) ∙ line_none ends left fewer (λ k. none (suc k))

module _ (threads : List ThreadSpec) (journals : List (List Event)) (t : Past) where
  as_many : (first : Option FirstLeft) (h : IsLeftOver threads journals first) → journals ≡ t.journals → length t.ends ≡ length t.journals
      → length h.end.left ≡ length t.ends
  as_many first h same many =
      as_many_left (opening_taking threads journals) h.end h.order h.leads ∙ (ap length same ∙ sym many)

  pub part_within : (first : FirstLeft) → IsLeftOver threads journals (Some first) → journals ≡ t.journals → length t.ends ≡ length t.journals
      → first.part < length t.ends
  part_within first h same many =
      let within : first.part < length h.end.left = slice_get_within h.end.left first.part (h.is_first.event ∷ h.is_first.rest) h.is_first.here in
      let all : length h.end.left ≡ length t.ends = as_many (Some first) h same many in
      omega arith

  pub some_left : (first : FirstLeft) (line d : ℕ) → IsLeftOver threads journals (Some first) → journals ≡ t.journals → length t.ends ≡ length t.journals
      → line ≡ slice_index_or t.ends first.part d - first.count → FirstLeftIs threads t (Some line)
  some_left first line d h same many is = record {
    order = h.order;
    end = h.end;
    leads = subst (λ js. Leads (opening_taking threads js) h.order h.end) same h.leads;
    stuck = h.stuck;
    line_is =
        ap {B = Option ℕ} (λ (n : ℕ). Some n) (is ∙ ap (λ (n : ℕ). slice_index_or t.ends first.part d - n) h.is_first.count)
        ∙ sym (line_at t.ends h.end.left first.part d h.is_first.event h.is_first.rest (as_many (Some first) h same many) h.is_first.here
        h.is_first.before);
  }

  pub none_left : IsLeftOver threads journals None → journals ≡ t.journals → length t.ends ≡ length t.journals → FirstLeftIs threads t None
  none_left h same many = record {
    order = h.order;
    end = h.end;
    leads = subst (λ js. Leads (opening_taking threads js) h.order h.end) same h.leads;
    stuck = h.stuck;
    line_is = sym (line_none t.ends h.end.left (as_many None h same many) h.is_first);
  }

-- ---- by the sections' texts

pub ends_many : (threads : List ThreadSpec) (line part : ℕ) (specs : List PartSpec) (journals : List (List Event)) → AllFit threads part specs journals
    → length (event_ends line part specs journals) ≡ length journals
unfolding AllFit
ends_many threads line part [] [] h = refl
ends_many threads line part [] (journal ∷ journals) h = absurd h
ends_many threads line part (spec ∷ specs) [] h = absurd h
ends_many threads line part (spec ∷ specs) (journal ∷ journals) h =
    ap suc (ends_many threads (line + lines_in (part_text part spec journal)) (suc part) specs journals h.1)

line_of : (line many left : ℕ) → left ≤ many → line + suc many - left ≡ line + suc (many - left)
line_of line many left h = omega arith

pub lines_same : (threads : List ThreadSpec) (line part : ℕ) (specs : List PartSpec) (journals left : List (List Event)) → AllFit threads part specs journals
    → length left ≡ length journals → AreShorter left journals
    → left_line (event_ends line part specs journals) left ≡ first_left line part specs journals left
unfolding AllFit
lines_same threads line part [] [] [] h many shorter = refl
lines_same threads line part [] [] (events ∷ left) h many shorter = absurd (omega arith)
lines_same threads line part [] (journal ∷ journals) left h many shorter = absurd h
lines_same threads line part (spec ∷ specs) [] left h many shorter = absurd h
lines_same threads line part (spec ∷ specs) (journal ∷ journals) [] h many shorter = absurd (omega arith)
lines_same threads line part (spec ∷ specs) (journal ∷ journals) ([] ∷ left) h many shorter =
    let fewer : length left ≡ length journals = omega arith in
    lines_same threads (line + lines_in (part_text part spec journal)) (suc part) specs journals left h.1 fewer shorter.1
lines_same threads line part (spec ∷ specs) (journal ∷ journals) ((e ∷ events) ∷ left) h many shorter =
    ap (λ (n : ℕ). Some n) (line_of line (length journal) (length (e ∷ events)) shorter.0)
