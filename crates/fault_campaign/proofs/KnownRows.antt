-- Rows that are known without a run.
use Rattle.std.proofs.Common.{◌≡◌, ◌∙◌, refl, sym, subst, ap, ℕ, zero, suc, ◌-◌, ◌<◌, ◌==◌, Bool, true, false, if◌then◌else◌, List, [], ◌∷◌, length, take, get_or, slice_get, arith, inl, inr, Option, Some, None}
use Rattle.std.proofs.lemmas.Bool.{cases_lt, eqb-true, false≢true, le-ltb, lt-ltb}
use Rattle.std.proofs.lemmas.List.{get_or_default}
use Rattle.std.proofs.lemmas.Option.{slice_get_past, slice_get_read}
use Rattle.std.specs.List.{AllZip}
use Rattle.std.specs.Option.{option_map, option_or}
use Rattle.std.specs.Prelude.{IfSome, is_some, nat_lt}
use Rattle.campaign_defs.specs.Members.{IsBaseRun, IsFreeRun, IsRunUnder, Ran, alone}
use Rattle.campaign_defs.specs.Rows.{IsMemberRow, answer_texts, cause_at, clause_at, if_asked, left_texts, plan_row, texts_eq}
use Rattle.campaign_defs.specs.Types.{Row}
use Rattle.campaign_rows.specs.Shown.{IsShown}
use Rattle.campaign_rows.specs.declared.shown.Shown.{Shown}
use Rattle.fault_campaign.specs.Bases.{IsBaseOf}
use Rattle.fault_campaign.specs.Known.{AreInstrsOf, AreRight, IsBaseSeen, IsBefore, IsEarlier, IsRowBefore, IsSourceRow, only_fault, source_alone, source_by}
use Rattle.fault_campaign.specs.NumberedRows.{AreRowsFor, IsRowFor, IsSlotOf}
use Rattle.fault_campaign.specs.declared.base.Base.{Base}
use Rattle.guard_defs.specs.Every.{put_at}
use Rattle.machine_defs.proofs.BurstKeeps.{split}
use Rattle.nook_data.proofs.Options.{none_is_some, same_inside}
use Rattle.nook_data.specs.Types.{Fault, FaultKind, Instr, PartSpec}
use Rattle.plan_defs.specs.Plans.{IsValidPlan}
use Rattle.plan_defs.specs.declared.plan.Plan.{Plan}
use Rattle.register_laws.proofs.MemberRows.{member_next, member_none}
use Rattle.register_points.proofs.Sound.{nothing_said}
use Rattle.register_points.specs.Found.{AreKnown, IsSound}
use Rattle.register_points.specs.Sources.{source_of}
use Rattle.register_points.specs.declared.sources.Source.{Source}
use Rattle.register_points.specs.declared.sources.Source.TheVariants as source
use Rattle.report_defs.specs.Campaigns.{row_of}
use Rattle.run_defs.specs.Simulation.{IsScheduledRun, RunningPart, Simulation, answer_table, begins, journals_of, runs}
use Rattle.sim_run.proofs.Reaching.{seats_of_runs}
use Rattle.sim_run.specs.Reached.{AreSeatsOf}

-- ---- the row of a member with one fault

only_is : (faults : List Fault) (f : Fault) → only_fault faults ≡ Some f → faults ≡ alone f
only_is [] f e = absurd cc
only_is (g ∷ []) f e = ap alone (same_inside e)
only_is (g ∷ h ∷ faults) f e = absurd cc

-- both are the same fault, the second one instruction later
pub is_before : (earlier later : List Fault) (f g : Fault) → only_fault earlier ≡ Some f → only_fault later ≡ Some g
    → f ≡ put_at g.burst (g.after - 1) g.kind → IsBefore earlier later
is_before earlier later f g e l same = record {
  fault = g;
  later_is = only_is later g l;
  earlier_is = only_is earlier f e ∙ ap alone same;
}

-- what a source says of the row of the member with these faults
abbrev pub IsRowBySource : Plan → Shown → Row → List Fault → Source → Type 0
IsRowBySource plan shown base faults source.Run = Unit {0}
IsRowBySource plan shown base faults source.Base = IsRowFor plan shown faults base
IsRowBySource plan shown base faults source.Before = (row : Row) → IsRowBefore plan shown faults row → IsRowFor plan shown faults row

module _ (plan : Plan) (shown : Shown) (base : Row) where
  before_alone : (f : Fault) (row : Row) → IsRowBefore plan shown (alone f) row → IsRowFor plan shown (alone (put_at f.burst (f.after - 1) f.kind)) row
  before_alone f row b =
      let one : Some b.before.fault ≡ Some f = sym (ap only_fault b.before.later_is) in
      let same : b.before.fault ≡ f = same_inside one in
      subst (λ (faults : List Fault). IsRowFor plan shown faults row)
      (b.before.earlier_is ∙ ap (λ (g : Fault). alone (put_at g.burst (g.after - 1) g.kind)) same) b.is_row

  by_source : (f : Fault) (s : Source) → IsSourceRow plan shown base f.burst f.kind f.after s → IsRowBySource plan shown base (alone f) s
  by_source f source.Run h = tt
  by_source f source.Base h = h
  by_source f source.Before h = λ row b. h row (before_alone f row b)

  module _ (burst : ℕ) (instrs : List (Option Instr)) (right : AreRight plan shown base burst instrs) where
    by_fault : (faults : List Fault) (o : Option Fault) → only_fault faults ≡ o → IsRowBySource plan shown base faults (source_alone burst instrs o)
    by_fault faults None e = tt
    by_fault faults (Some f) e = split (f.burst == burst)
        (λ h. let number : f.burst ≡ burst = eqb-true f.burst burst h in
        let said : source_alone burst instrs (Some f) ≡ source_of instrs f.kind f.after = rw h refl in
        let is : IsSourceRow plan shown base f.burst f.kind f.after (source_of instrs f.kind f.after) =
        subst (λ (n : ℕ). IsSourceRow plan shown base n f.kind f.after (source_of instrs f.kind f.after)) (sym number) (right f.kind f.after) in
        subst (IsRowBySource plan shown base faults) (sym said)
        (subst (λ (fs : List Fault). IsRowBySource plan shown base fs (source_of instrs f.kind f.after)) (sym (only_is faults f e))
        (by_source f (source_of instrs f.kind f.after) is)))
        (λ h. let said : source_alone burst instrs (Some f) ≡ source.Run = rw h refl in
        subst (IsRowBySource plan shown base faults) (sym said) tt)

    -- the source of the row is right
    pub row_by_source : (faults : List Fault) (s : Source) → s ≡ source_by burst instrs faults → IsRowBySource plan shown base faults s
    row_by_source faults s e = subst (IsRowBySource plan shown base faults) (sym e) (by_fault faults (only_fault faults) refl)

    pub known_base : (faults : List Fault) → source.Base ≡ source_by burst instrs faults → IsRowFor plan shown faults base
    known_base faults e = row_by_source faults source.Base e

    pub known_before : (faults : List Fault) → source.Before ≡ source_by burst instrs faults → (r : Option Row)
        → IfSome r (IsRowBefore plan shown faults) → IfSome r (IsRowFor plan shown faults)
    known_before faults e None h = tt
    known_before faults e (Some row) h = row_by_source faults source.Before e row h

-- the members at two indexes
pub earlier_at : (lists : List (List Fault)) (index earlier : ℕ) (a b x y : List Fault) → earlier < index → index < length lists
    → a ≡ x → x ≡ get_or lists earlier x → b ≡ y → y ≡ get_or lists index y → IsBefore a b → IsEarlier lists index earlier
earlier_at lists index earlier a b x y less within ax xat by yat h = record {
  less = less;
  before = subst (λ (l : List Fault). IsBefore (get_or lists earlier []) l) (by ∙ (yat ∙ get_or_default lists index y [] within))
      (subst (λ (l : List Fault). IsBefore l b) (ax ∙ (xat ∙ get_or_default lists earlier x [] (omega arith))) h);
}

zipped_front : {X Y : Type 0} (R : X → Y → Type 0) (xs : List X) (ys : List Y) (n i : ℕ) (y : Y) (d : X) → AllZip R (take n xs) ys
    → slice_get ys i ≡ Some y → i < n → R (get_or xs i d) y
zipped_front R xs ys zero i y d all at less = absurd (omega (arith, less))
zipped_front R [] [] (suc n) i y d all at less = none_is_some at
zipped_front R [] (b ∷ ys) (suc n) i y d all at less = absurd all
zipped_front R (a ∷ xs) [] (suc n) i y d all at less = absurd all
zipped_front R (a ∷ xs) (b ∷ ys) (suc n) zero y d all at less = subst (R a) (same_inside at) all.0
zipped_front R (a ∷ xs) (b ∷ ys) (suc n) (suc i) y d all at less = zipped_front R xs ys n i y d all.1 at (omega (arith, less))

-- the item that is at an index, if there is one

none_past : (rows : List Row) (index : ℕ) → false ≡ nat_lt index (length rows) → None ≡ slice_get rows index
none_past rows index e = elim (cases_lt index (length rows)) [
  | inl less ↦ absurd (false≢true (e ∙ lt-ltb index (length rows) less))
  | inr past ↦ sym (slice_get_past rows index past)
]

some_there : (rows : List Row) (index : ℕ) (row : Row) → true ≡ nat_lt index (length rows) → row ≡ get_or rows index row
    → Some row ≡ slice_get rows index
some_there rows index row e is = elim (cases_lt index (length rows)) [
  | inl less ↦ sym (slice_get_read rows (length rows) index row refl less is)
  | inr past ↦ absurd (false≢true (sym (le-ltb index (length rows) past) ∙ sym e))
]

pub copied_there : {R : Type 0} (now : R → Row) (rows : List Row) (index : ℕ) (o : Option R) → is_some o ≡ nat_lt index (length rows)
    → IfSome o (λ x. now x ≡ get_or rows index (now x)) → option_map now o ≡ slice_get rows index
copied_there now rows index None e is = none_past rows index e
copied_there now rows index (Some x) e is = some_there rows index (now x) e is

-- the row at an earlier index
pub row_at : (plan : Plan) (shown : Shown) (lists : List (List Fault)) (rows : List Row) (index earlier : ℕ) (r : Option Row)
    → r ≡ slice_get rows earlier → AreRowsFor plan shown (take index lists) rows → IsEarlier lists index earlier
    → IfSome r (IsRowBefore plan shown (get_or lists index []))
row_at plan shown lists rows index earlier None e are is = tt
row_at plan shown lists rows index earlier (Some row) e are is = record {
  earlier = get_or lists earlier [];
  before = is.before;
  is_row = zipped_front (IsRowFor plan shown) lists rows index earlier row [] are (sym e) is.less;
}

-- a row that is known or in a slot
pub known_or_slot : (plan : Plan) (shown : Shown) (faults : List Fault) (known slot : Option Row) → IsSlotOf plan shown faults known
    → IsSlotOf plan shown faults slot → IsSlotOf plan shown faults (option_or known slot)
known_or_slot plan shown faults None slot k s = s
known_or_slot plan shown faults (Some row) slot k s = k

-- ---- what the instructions of a burst say of the members

abbrev row_by : Plan → Ran → List (List ℕ) → List (List ℕ) → Row
row_by plan ran answers left = record {
  counts = row_of ran.scenario.parts (journals_of ran.simulation) (answer_table ran.simulation);
  detail = if_asked plan.detail (record {
    same_answers = texts_eq answers (answer_texts (answer_table ran.simulation));
    same_left = texts_eq left (left_texts ran.scenario.parts (journals_of ran.simulation));
    clause = clause_at (slice_get ran.scenario.parts plan.part) (slice_get (journals_of ran.simulation) plan.part);
    cause = cause_at (slice_get (journals_of ran.simulation) plan.part);
  });
  traps = if_asked plan.guard ran.traps;
}

shown_row : (plan : Plan) (shown : Shown) (own ran : Ran) → IsShown own shown → row_by plan ran shown.answers shown.left ≡ plan_row plan own ran
shown_row plan shown own ran is =
    ap (λ (answers : List (List ℕ)). row_by plan ran answers shown.left) is.answers
    ∙ ap (row_by plan ran (answer_texts (answer_table own.simulation))) is.left

-- a row is the same compared with any run that has the same texts
row_over_any : (plan : Plan) (shown : Shown) (own other ran : Ran) → IsShown own shown → IsShown other shown → plan_row plan own ran ≡ plan_row plan other ran
row_over_any plan shown own other ran a b = sym (shown_row plan shown own ran a) ∙ shown_row plan shown other ran b

seat_there : (specs : List PartSpec) (seats : List RunningPart) (index : ℕ) (spec : PartSpec) → AreSeatsOf specs seats
    → slice_get specs index ≡ Some spec → (seat : RunningPart) × (slice_get seats index ≡ Some seat)
seat_there [] seats index spec are e = none_is_some e
seat_there (x ∷ specs) [] index spec are e = absurd are
seat_there (x ∷ specs) (seat ∷ seats) zero spec are e = (seat, refl)
seat_there (x ∷ specs) (seat ∷ seats) (suc index) spec are e = seat_there specs seats index spec are.1 e

spec_there : (specs : List PartSpec) (index : ℕ) → index < length specs → (spec : PartSpec) × (slice_get specs index ≡ Some spec)
spec_there [] index h = absurd (omega arith)
spec_there (spec ∷ specs) zero h = (spec, refl)
spec_there (spec ∷ specs) (suc index) h = spec_there specs index (omega (arith, h))

module _ (plan : Plan) (shown : Shown) (base : Row) (b : IsBaseSeen plan shown base) (burst : ℕ) (kind : FaultKind) (after : ℕ)
    (free : plan.guard ≡ false) (spec : PartSpec) (seat : RunningPart) (there : slice_get plan.base.parts plan.part ≡ Some spec)
    (at : slice_get b.ran.simulation.parts plan.part ≡ Some seat) where
  sound_row : (s : Source) → IsSound spec seat.run.journal burst kind after s → IsSourceRow plan shown base burst kind after s
  sound_row source.Run h = tt
  sound_row source.Base h = λ own is.
      subst (IsMemberRow plan own (alone (put_at burst after kind)))
      (row_over_any plan shown own b.ran b.ran is b.seen ∙ sym b.row_is)
      (member_none plan free b.ran own spec seat b.is_base there at (put_at burst after kind) h)
  sound_row source.Before h = λ row before own is.
      member_next plan free b.ran own spec seat b.is_base there at (put_at burst (after - 1) kind) (put_at burst after kind) refl h row (before own is)

free_scheduled : (plan : Plan) (ran : Ran) → plan.guard ≡ false → IsBaseRun plan ran → IsScheduledRun plan.base ran.simulation
free_scheduled plan ran free run =
    let is : IsFreeRun plan.base ran = subst (λ (g : Bool). IsRunUnder g plan.base ran) free run in is.scheduled

no_instrs : (plan : Plan) (shown : Shown) (base : Row) (burst : ℕ) (instrs : List (Option Instr)) → instrs ≡ [] → AreRight plan shown base burst instrs
no_instrs plan shown base burst instrs none = λ kind after.
    subst (λ (xs : List (Option Instr)). IsSourceRow plan shown base burst kind after (source_of xs kind after)) (sym none)
    (subst (IsSourceRow plan shown base burst kind after) (sym (nothing_said kind after)) tt)

-- nothing is known
pub nothing_right : (plan : Plan) (shown : Shown) (base : Row) (burst : ℕ) → AreRight plan shown base burst []
nothing_right plan shown base burst = no_instrs plan shown base burst [] refl

pub right_instrs : (plan : Plan) (shown : Shown) (base : Row) (burst : ℕ) (instrs : List (Option Instr)) → IsValidPlan plan
    → IsBaseSeen plan shown base → AreInstrsOf plan burst instrs → AreRight plan shown base burst instrs
right_instrs plan shown base burst instrs valid b are = split plan.guard
    (λ h. no_instrs plan shown base burst instrs (are.guarded h))
    (λ free. λ kind after.
    let run : IsScheduledRun plan.base b.ran.simulation = free_scheduled plan b.ran free b.is_base in
    let part = spec_there plan.base.parts plan.part valid.part in
    let seats : AreSeatsOf plan.base.parts b.ran.simulation.parts =
    subst (λ (s : Simulation). AreSeatsOf plan.base.parts s.parts) run.reached (seats_of_runs plan.base run.steps) in
    let own = seat_there plan.base.parts b.ran.simulation.parts plan.part part.0 seats part.1 in
    sound_row plan shown base b burst kind after free part.0 own.0 part.1 own.1 (source_of instrs kind after)
    (are.free free b.ran.simulation part.0 own.0 run part.1 own.1 kind after))

-- the base's run, its texts and its row
pub base_seen : (plan : Plan) (base : Base) → IsBaseOf plan base → IsBaseSeen plan base.shown base.row
base_seen plan base b = record { ran = b.ran; is_base = b.is_base; seen = b.shown; row_is = b.row }
