-- Rows that are written one batch after another.
use Rattle.std.proofs.Common.{◌≡◌, ◌∙◌, refl, sym, subst, ap, ℕ, suc, ◌+◌, List, [], ◌∷◌, ◌++◌, length, append_assoc, append-nil, arith, drop, length-append, take, Option, Result, Ok, Err, OnOk}
use Rattle.std.specs.List.{AllByRecursion, AllZip}
use Rattle.std.specs.Prelude.{All}
use Rattle.std.proofs.lemmas.List.{take-append-drop}
use Rattle.std.proofs.lemmas.List.Elements.{All-from_recursion, recursion_from_All}
use Rattle.std.proofs.Math.Nat.{le_refl}
use Rattle.campaign_defs.specs.Members.{Ran, runs_every}
use Rattle.campaign_defs.specs.Rows.{AreMemberRows, IsPlanTable, plan_row}
use Rattle.campaign_defs.specs.TableText.{base_line, plan_row_line, plan_row_lines}
use Rattle.campaign_defs.specs.Types.{Row}
use Rattle.campaign_laws.proofs.PlanTables.{rows_once}
use Rattle.campaign_laws.proofs.RunsUnder.{run_under_once}
use Rattle.campaign_rows.specs.Shown.{IsShown}
use Rattle.campaign_rows.specs.CampaignCounts.{campaign_counts_of}
use Rattle.campaign_rows.specs.declared.shown.Shown.{Shown}
use Rattle.campaign_rows.specs.declared.totals.CampaignCounts.{CampaignCounts}
use Rattle.fault_campaign.specs.Bases.{IsBaseOf}
use Rattle.fault_campaign.specs.Given.{GivesRows}
use Rattle.fault_campaign.specs.declared.base.Base.{Base}
use Rattle.fault_campaign.specs.NumberedRows.{AreRowsFor}
use Rattle.nook_data.specs.declared.scenario.Fault.{Fault}
use Rattle.nook_io.specs.Changes.{Change, Stream, between}
use Rattle.plan_defs.specs.declared.plan.Plan.{Plan}
use Rattle.report_text.proofs.WroteLemmas.{appends_nothing, both, cut, on_ok, progress_halt, progress_start}
use Rattle.report_text.specs.Writing.{Wrote}
use Rattle.report_text.specs.declared.write.WriteStop.{WriteStop}
use Rattle.report_text.specs.declared.write.WriteStop.TheVariants as stop

-- ---- texts

pub wrote_as : {T : Type 0} {sink : Change} {r : Result T WriteStop} {x : List ℕ} (y : List ℕ) → x ≡ y
    → Wrote sink r x → Wrote sink r y
wrote_as {sink = sink} {r = r} y e w = subst (λ t. Wrote sink r t) e w

-- nothing was written because memory ran out
nothing_written : {T : Type 0} (sink : Stream) (text : List ℕ) → Wrote {T = T} (between sink sink) (Err stop.NoMemory) text
nothing_written sink text = progress_halt (progress_start sink text) (λ e. cc)

-- nothing was to be written
pub wrote_nothing : {T : Type 0} (v : T) (sink : Stream) → Wrote (between sink sink) (Ok v) []
wrote_nothing v sink = record {
  ok = appends_nothing sink.contents;
  err = tt;
  later = le_refl sink.errors;
  fault = λ e. absurd (cc e);
  kept = refl;
  no_memory = λ e. refl;
}

lines_after : (number : ℕ) (rows more : List Row) → plan_row_lines number (rows ++ more)
    ≡ plan_row_lines number rows ++ plan_row_lines (number + length rows) more
lines_after number [] more = ap (λ n. plan_row_lines n more) (sym (plus_none number))
  where
    plus_none : (n : ℕ) → n + 0 ≡ n
    plus_none n = omega arith
lines_after number (row ∷ rows) more =
    let next : suc number + length rows ≡ number + length (row ∷ rows) = omega arith in
    ap (λ t. plan_row_line number row ++ t)
    (lines_after (suc number) rows more ∙ ap (λ n. plan_row_lines (suc number) rows ++ plan_row_lines n more) next)
    ∙ sym (append_assoc (plan_row_line number row) (plan_row_lines (suc number) rows) (plan_row_lines (number + length (row ∷ rows)) more))

-- ---- rows

pub rows_over : (plan : Plan) (shown : Shown) (own : Ran) (lists : List (List Fault)) (rows : List Row) → IsShown own shown
    → AreRowsFor plan shown lists rows → AreMemberRows plan own lists rows
rows_over plan shown own [] [] is are = tt
rows_over plan shown own [] (row ∷ rows) is are = absurd are
rows_over plan shown own (faults ∷ lists) [] is are = absurd are
rows_over plan shown own (faults ∷ lists) (row ∷ rows) is are = (are.0 own is, rows_over plan shown own lists rows is are.1)

none_for_none : (plan : Plan) (own : Ran) (rows : List Row) → AreMemberRows plan own [] rows → rows ≡ []
none_for_none plan own [] are = refl
none_for_none plan own (row ∷ rows) are = absurd are

-- the rows of the first members and those of the others
record AreSplit (plan : Plan) (own : Ran) (front more : List (List Fault)) (rows : List Row) : Type 0 where
  first : List Row
  rest : List Row
  whole : rows ≡ first ++ rest
  before : AreMemberRows plan own front first
  after : AreMemberRows plan own more rest

rows_split : (plan : Plan) (own : Ran) (front more : List (List Fault)) (rows : List Row) → AreMemberRows plan own (front ++ more) rows
    → AreSplit plan own front more rows
rows_split plan own [] more rows h = record { first = []; rest = rows; whole = refl; before = tt; after = h }
rows_split plan own (faults ∷ front) more [] h = absurd h
rows_split plan own (faults ∷ front) more (row ∷ rows) h =
    let s = rows_split plan own front more rows h.1 in
    record { first = row ∷ s.first; rest = s.rest; whole = ap (λ t. row ∷ t) s.whole; before = (h.0, s.before); after = s.after }

-- ---- batches

pub gives_none : {T : Type 0} (plan : Plan) (own : Ran) (lists : List (List Fault)) (v : T) (sink : Stream) (totals : CampaignCounts)
    → lists ≡ [] → GivesRows plan own lists (between sink sink) totals totals (Ok v)
gives_none plan own lists v sink totals none = record {
  written = λ done rows e are. rw (none_for_none plan own rows (subst (λ l. AreMemberRows plan own l rows) none are)) (wrote_nothing v sink);
  counted = λ done rows e are. rw (none_for_none plan own rows (subst (λ l. AreMemberRows plan own l rows) none are), append-nil done) e;
}

-- memory ran out before anything was written
pub gives_stop : {T : Type 0} (plan : Plan) (own : Ran) (lists : List (List Fault)) (sink : Stream) (was is : CampaignCounts)
    → GivesRows {T = T} plan own lists (between sink sink) was is (Err stop.NoMemory)
gives_stop plan own lists sink was is = record {
  written = λ done rows e are. nothing_written sink (plan_row_lines (length done + 1) rows);
  counted = tt;
}

-- the rows of the first members were not written completely, and so none of the others
pub gives_cut : {T : Type 0} (plan : Plan) (own : Ran) (front more lists : List (List Fault)) (sink : Change) (was mid is : CampaignCounts)
    (why : WriteStop) → lists ≡ front ++ more → GivesRows {T = T} plan own front sink was mid (Err why)
    → GivesRows {T = T} plan own lists sink was is (Err why)
gives_cut {T = T} plan own front more lists sink was mid is why all g = record {
  written = λ done rows e are.
      let s = rows_split plan own front more rows (subst (λ l. AreMemberRows plan own l rows) all are) in
      let front_lines = plan_row_lines (length done + 1) s.first in
      let rest_lines = plan_row_lines (length done + 1 + length s.first) s.rest in
      wrote_as {T = T} (plan_row_lines (length done + 1) rows)
      (sym (lines_after (length done + 1) s.first s.rest) ∙ ap (plan_row_lines (length done + 1)) (sym s.whole))
      (cut rest_lines (g.written done s.first e s.before));
  counted = tt;
}

-- the rows of the first members and then those of the others
pub gives_then : {T : Type 0} (plan : Plan) (own : Ran) (front more lists : List (List Fault)) (a b c : Stream)
    (was mid is : CampaignCounts) (v : T) (r : Result T WriteStop) → lists ≡ front ++ more
    → GivesRows plan own front (between a b) was mid (Ok v) → GivesRows plan own more (between b c) mid is r
    → GivesRows plan own lists (between a c) was is r
gives_then plan own front more lists a b c was mid is v r all g k = record {
  written = λ done rows e are.
      let s = rows_split plan own front more rows (subst (λ l. AreMemberRows plan own l rows) all are) in
      let number : length (done ++ s.first) + 1 ≡ length done + 1 + length s.first = omega (arith, length-append done s.first) in
      let text : plan_row_lines (length done + 1) s.first ++ plan_row_lines (length (done ++ s.first) + 1) s.rest
      ≡ plan_row_lines (length done + 1) rows =
      ap (λ p. plan_row_lines (length done + 1) s.first ++ plan_row_lines p s.rest) number
      ∙ sym (lines_after (length done + 1) s.first s.rest) ∙ ap (plan_row_lines (length done + 1)) (sym s.whole) in
      wrote_as (plan_row_lines (length done + 1) rows) text
      (both (g.written done s.first e s.before) (k.written (done ++ s.first) s.rest (g.counted done s.first e s.before) s.after));
  counted = on_ok r (λ counts done rows e are.
      let s = rows_split plan own front more rows (subst (λ l. AreMemberRows plan own l rows) all are) in
      counts (done ++ s.first) s.rest (g.counted done s.first e s.before) s.after
      ∙ ap campaign_counts_of (append_assoc done s.first s.rest ∙ ap (λ t. done ++ t) (sym s.whole))) k.counted;
}

-- a batch whose rows were made, counted, and written
pub gives_batch : {T : Type 0} (plan : Plan) (own : Ran) (lists : List (List Fault)) (sink : Change) (was is : CampaignCounts)
    (r : Result T WriteStop) (made : List Row) → AreMemberRows plan own lists made
    → ((done : List Row) → was ≡ campaign_counts_of done → is ≡ campaign_counts_of (done ++ made))
    → Wrote sink r (plan_row_lines (was.members + 1) made) → GivesRows plan own lists sink was is r
gives_batch {T} plan own lists sink was is r made are counts w = record {
  written = λ done rows e is_rows.
      wrote_as (plan_row_lines (length done + 1) rows)
      (ap (λ (t : CampaignCounts). plan_row_lines (t.members + 1) made) e ∙ ap (plan_row_lines (length done + 1)) (rows_once plan own lists made rows are is_rows))
      w;
  counted = by_result r;
}
  where
    counted_as : (done rows : List Row) → was ≡ campaign_counts_of done → AreMemberRows plan own lists rows → is ≡ campaign_counts_of (done ++ rows)
    counted_as done rows e is_rows = counts done e ∙ ap (λ t. campaign_counts_of (done ++ t)) (rows_once plan own lists made rows are is_rows)

    by_result : (x : Result T WriteStop) → OnOk x ((done rows : List Row) → was ≡ campaign_counts_of done → AreMemberRows plan own lists rows → is ≡ campaign_counts_of (done ++ rows))
    by_result (Ok v) = counted_as
    by_result (Err e) = tt

-- the same for an equal list of members
pub gives_as : {T : Type 0} {plan : Plan} {own : Ran} {lists others : List (List Fault)} {sink : Change} {was is : CampaignCounts}
    {r : Result T WriteStop} → lists ≡ others → GivesRows plan own lists sink was is r → GivesRows plan own others sink was is r
gives_as {plan = plan} {own = own} {sink = sink} {was = was} {is = is} {r = r} e g =
    subst (λ l. GivesRows plan own l sink was is r) e g

-- ---- lists split in two

front_by : {X : Type 0} (P : X → Type 0) (xs ys : List X) → AllByRecursion P (xs ++ ys) → AllByRecursion P xs
front_by P [] ys h = tt
front_by P (x ∷ xs) ys h = (h.0, front_by P xs ys h.1)

back_by : {X : Type 0} (P : X → Type 0) (xs ys : List X) → AllByRecursion P (xs ++ ys) → AllByRecursion P ys
back_by P [] ys h = h
back_by P (x ∷ xs) ys h = back_by P xs ys h.1

pub all_in_front : {X : Type 0} (P : X → Type 0) (xs ys zs : List X) → zs ≡ xs ++ ys → All P zs → All P xs
all_in_front P xs ys zs e h = All-from_recursion P xs (front_by P xs ys (recursion_from_All P (xs ++ ys) (subst (All P) e h)))

pub all_in_back : {X : Type 0} (P : X → Type 0) (xs ys zs : List X) → zs ≡ xs ++ ys → All P zs → All P ys
all_in_back P xs ys zs e h = All-from_recursion P ys (back_by P xs ys (recursion_from_All P (xs ++ ys) (subst (All P) e h)))

pub split_whole : {X : Type 0} (n : ℕ) (items batch more : List X) → batch ≡ take n items → more ≡ drop n items → items ≡ batch ++ more
split_whole n items batch more e f = rw (e, f) (sym (take-append-drop n items))

-- ---- a whole table

-- the run of the base is the same as the table's
pub same_base : (plan : Plan) (made : Base) (base : Ran) (rows : List Row) → (b : IsBaseOf plan made) → IsPlanTable plan base rows → b.ran ≡ base
same_base plan made base rows b table = run_under_once plan.guard plan.base b.ran base b.is_base table.is_base

pub shown_of_base : (plan : Plan) (made : Base) (base : Ran) (rows : List Row) → IsBaseOf plan made → IsPlanTable plan base rows
    → IsShown base made.shown
shown_of_base plan made base rows b table = subst (λ (ran : Ran). IsShown ran made.shown) (same_base plan made base rows b table) b.shown

pub line_of_base : (plan : Plan) (made : Base) (base : Ran) (rows : List Row) → IsBaseOf plan made → IsPlanTable plan base rows
    → base_line (runs_every plan.strikes) made.row ≡ base_line (runs_every plan.strikes) (plan_row plan base base)
line_of_base plan made base rows b table =
    ap (base_line (runs_every plan.strikes)) (b.row ∙ ap (λ (ran : Ran). plan_row plan ran ran) (same_base plan made base rows b table))
