-- A thread's receipts, part by part, merge in its script's order.
use Rattle.std.proofs.Common.{◌≡◌, ℕ, zero, suc, ◌+◌, ◌<◌, ◌==◌, Some, List, [], ◌∷◌, filter, map, length, slice_get, slice_index_or, slice_set, refl, sym, ap, ◌∙◌, subst, arith, eqb-true, eq-eqb, ne_eqb}
use Rattle.std.proofs.lemmas.Bool.{eqb-false}
use Rattle.std.proofs.lemmas.List.{get_or-set_other, get_or-set_same}
use Rattle.std.specs.List.{AllByRecursion}
use Rattle.desk_like.specs.Desks.{IsReceipt, IsRisingFrom}
use Rattle.run_defs.specs.Simulation.{answers_of_thread}
use Rattle.nook_data.specs.Valid.{IsValidPart}
use Rattle.nook_data.specs.declared.calls.Answer.{Answer}
use Rattle.nook_data.specs.declared.steps.Event.{Event}
use Rattle.nook_data.specs.declared.calls.Op.{Op}
use Rattle.nook_data.specs.declared.scenario.PartSpec.{PartSpec}
use Rattle.nook_data.specs.declared.desks.Receipt.{Receipt}
use Rattle.nook_data.specs.declared.scenario.ThreadSpec.{ThreadSpec}
use Rattle.part_laws.proofs.Indices.{split}
use Rattle.threaded_run.specs.Threaded.{HaveReceipts, IsServed, answers_by, invoked_on}
use Rattle.run_laws.specs.Audit.{answers_to, in_script_order, is_on, opening_section, thread_on}
use Rattle.run_laws.specs.Fitting.{AllFit, section_from, sections_of}
use Rattle.audited_runs.proofs.Apart.{taken_from}
use Rattle.audited_runs.proofs.Sections.{part_serves}
use Rattle.audited_runs.proofs.Serves.{AreOn, Serves, answer_on, invoked_at}
use Rattle.audited_runs.proofs.Shares.{filter_none, filter_same}

module _ (i : ℕ) where
  -- for each part, from part `index` on: the receipts of the thread's operations on it, and their answers
  abbrev pub AreOnEach : List (ℕ × Op) → ℕ → List (List Event) → List (List Receipt) → List (List (ℕ × Answer)) → Type 0
  AreOnEach ops index [] [] [] = Unit {0}
  AreOnEach ops index (j ∷ journals) (g ∷ given) (a ∷ answers) =
      AreOn j i (filter (is_on index) ops) g × (a ≡ map (answer_on index) g) × AreOnEach ops (suc index) journals given answers
  AreOnEach ops index journals given answers = ⊥

  -- an operation on an earlier part
  each_skip : (o : ℕ × Op) (ops : List (ℕ × Op)) (index : ℕ) (journals : List (List Event)) (given : List (List Receipt)) (answers : List (List (ℕ × Answer))) → o.0 < index
      → AreOnEach (o ∷ ops) index journals given answers → AreOnEach ops index journals given answers
  each_skip o ops index [] [] [] l h = tt
  each_skip o ops index [] [] (a ∷ answers) l h = absurd h
  each_skip o ops index [] (g ∷ given) answers l h = absurd h
  each_skip o ops index (j ∷ journals) [] answers l h = absurd h
  each_skip o ops index (j ∷ journals) (g ∷ given) [] l h = absurd h
  each_skip o ops index (j ∷ journals) (g ∷ given) (a ∷ answers) l h = (
    subst (λ xs. AreOn j i xs g) (filter_none (is_on index) o ops (ne_eqb o.0 index (λ e. omega arith))) h.0,
    h.1,
    each_skip o ops (suc index) journals given answers (omega arith) h.2,
  )

  -- the next operation takes the first receipt of its part
  record Takes (o : ℕ × Op) (ops : List (ℕ × Op)) (index q : ℕ) (journals : List (List Event)) (given : List (List Receipt)) (answers : List (List (ℕ × Answer))) : Type 0 where
    first : Receipt
    more : List Receipt
    at : slice_index_or given q [] ≡ first ∷ more
    reported : slice_index_or answers q [] ≡ (o.0, first.answer) ∷ map (answer_on o.0) more
    receipt : IsReceipt (slice_index_or journals q []) i o.1 first
    left : AreOnEach ops index journals (slice_set given q more) (slice_set answers q (map (answer_on o.0) more))

  take_here : (o : ℕ × Op) (ops : List (ℕ × Op)) (index : ℕ) (j : List Event) (journals : List (List Event)) (g : List Receipt) (given : List (List Receipt)) (a : List (ℕ × Answer))
      (answers : List (List (ℕ × Answer))) → o.0 ≡ index → AreOn j i (o ∷ filter (is_on index) ops) g → a ≡ map (answer_on index) g
      → AreOnEach (o ∷ ops) (suc index) journals given answers → Takes o ops index 0 (j ∷ journals) (g ∷ given) (a ∷ answers)
  take_here o ops index j journals [] given a answers e on is h = absurd on
  take_here o ops index j journals (r ∷ more) given a answers e on is h = record {
    first = r;
    more = more;
    at = refl;
    reported = is ∙ ap {B = List (ℕ × Answer)} (λ (k : ℕ). map (answer_on k) (r ∷ more)) (sym e);
    receipt = on.0;
    left = (on.1, ap (λ (k : ℕ). map (answer_on k) more) e, each_skip o ops (suc index) journals given answers (omega arith) h);
  }

  takes : (o : ℕ × Op) (ops : List (ℕ × Op)) (index q : ℕ) (journals : List (List Event)) (given : List (List Receipt)) (answers : List (List (ℕ × Answer))) → o.0 ≡ index + q
      → q < length journals → AreOnEach (o ∷ ops) index journals given answers → Takes o ops index q journals given answers
  takes o ops index q [] [] [] e l h = absurd (omega arith)
  takes o ops index q [] [] (a ∷ answers) e l h = absurd h
  takes o ops index q [] (g ∷ given) answers e l h = absurd h
  takes o ops index q (j ∷ journals) [] answers e l h = absurd h
  takes o ops index q (j ∷ journals) (g ∷ given) [] e l h = absurd h
  takes o ops index zero (j ∷ journals) (g ∷ given) (a ∷ answers) e l h =
      let same : o.0 ≡ index = omega arith in
      take_here o ops index j journals g given a answers same (subst (λ xs. AreOn j i xs g) (filter_same (is_on index) o ops (eq-eqb o.0 index same)) h.0) h.1 h.2
  takes o ops index (suc q) (j ∷ journals) (g ∷ given) (a ∷ answers) e l h =
      let t : Takes o ops (suc index) q journals given answers = takes o ops (suc index) q journals given answers (omega arith) (omega arith) h.2 in
      record {
        first = t.first;
        more = t.more;
        at = t.at;
        reported = t.reported;
        receipt = t.receipt;
        left = (subst (λ xs. AreOn j i xs g) (filter_none (is_on index) o ops (ne_eqb o.0 index (λ same. omega arith))) h.0, h.1, t.left);
      }

  each_count : (ops : List (ℕ × Op)) (index : ℕ) (journals : List (List Event)) (given : List (List Receipt)) (answers : List (List (ℕ × Answer)))
      → AreOnEach ops index journals given answers → length given ≡ length journals
  each_count ops index [] [] [] h = refl
  each_count ops index [] [] (a ∷ answers) h = absurd h
  each_count ops index [] (g ∷ given) answers h = absurd h
  each_count ops index (j ∷ journals) [] answers h = absurd h
  each_count ops index (j ∷ journals) (g ∷ given) [] h = absurd h
  each_count ops index (j ∷ journals) (g ∷ given) (a ∷ answers) h = ap suc (each_count ops (suc index) journals given answers h.2)

  no_receipts : (j : List Event) (g : List Receipt) → AreOn j i [] g → g ≡ []
  no_receipts j [] h = refl
  no_receipts j (r ∷ g) h = absurd h

  none_given : (index : ℕ) (journals : List (List Event)) (given : List (List Receipt)) (answers : List (List (ℕ × Answer))) → AreOnEach [] index journals given answers
      → (k : ℕ) → slice_index_or given k [] ≡ []
  none_given index [] [] [] h k = refl
  none_given index [] [] (a ∷ answers) h k = absurd h
  none_given index [] (g ∷ given) answers h k = absurd h
  none_given index (j ∷ journals) [] answers h k = absurd h
  none_given index (j ∷ journals) (g ∷ given) [] h k = absurd h
  none_given index (j ∷ journals) (g ∷ given) (a ∷ answers) h zero = no_receipts j g h.0
  none_given index (j ∷ journals) (g ∷ given) (a ∷ answers) h (suc k) = none_given (suc index) journals given answers h.2 k

  -- ---- in the script's order

  record IsMerged (ops : List (ℕ × Op)) (journals : List (List Event)) (given : List (List Receipt)) (answers : List (List (ℕ × Answer))) : Type 0 where
    receipts : List Receipt
    have : HaveReceipts journals i ops receipts
    same : in_script_order ops answers ≡ answers_by ops receipts
    invoked : (part : ℕ) → invoked_on part ops receipts ≡ map invoked_at (slice_index_or given part [])

  merged : (ops : List (ℕ × Op)) (journals : List (List Event)) (given : List (List Receipt)) (answers : List (List (ℕ × Answer)))
      → AllByRecursion (λ o. o.0 < length journals) ops → AreOnEach ops 0 journals given answers → IsMerged ops journals given answers
  unfolding in_script_order
  merged [] journals given answers low h = record {
    receipts = [];
    have = tt;
    same = refl;
    invoked = λ part. sym (ap (map invoked_at) (none_given 0 journals given answers h part));
  }
  merged ((p, op) ∷ ops) journals given answers low h =
      let t : Takes (p, op) ops 0 p journals given answers = takes (p, op) ops 0 p journals given answers (plus p) low.0 h in
      let rest : IsMerged ops journals (slice_set given p t.more) (slice_set answers p (map (answer_on p) t.more)) =
      merged ops journals (slice_set given p t.more) (slice_set answers p (map (answer_on p) t.more)) low.1 t.left in
      let size : length given ≡ length journals = each_count ((p, op) ∷ ops) 0 journals given answers h in
      let within : p < length given = subst (λ (n : ℕ). p < n) (sym size) low.0 in
      record {
        receipts = t.first ∷ rest.receipts;
        have = (t.receipt, rest.have);
        same = ap (taken_from ops answers p) t.reported ∙ ap {B = List (ℕ × Answer)} (λ xs. (p, t.first.answer) ∷ xs) rest.same;
        invoked = λ part. split (p == part)
            (λ e.
            let is : p ≡ part = eqb-true p part e in
            rw e (ap {B = List ℕ} (λ xs. t.first.at_invoke ∷ xs)
            (rest.invoked part ∙ ap (λ (k : ℕ). map invoked_at (slice_index_or (slice_set given p t.more) k [])) (sym is)
            ∙ ap (map invoked_at) (get_or-set_same given p t.more [] within))
            ∙ sym (ap (map invoked_at) t.at) ∙ ap (λ (k : ℕ). map invoked_at (slice_index_or given k [])) is))
            (λ e. rw e (rest.invoked part ∙ ap (map invoked_at) (get_or-set_other given p part t.more [] (λ s. eqb-false p part e (sym s)))));
      }
    where
      plus : (n : ℕ) → n ≡ 0 + n
      plus n = omega arith

  -- ---- the receipts of all parts

  record IsServedInParts (ops : List (ℕ × Op)) (index : ℕ) (journals : List (List Event)) (answers : List (List (ℕ × Answer))) : Type 0 where
    given : List (List Receipt)
    on : AreOnEach ops index journals given answers
    rising : (k : ℕ) → IsRisingFrom 0 (map invoked_at (slice_index_or given k []))

  served_in_parts : (threads : List ThreadSpec) (t : ThreadSpec) (index : ℕ) (parts : List PartSpec) (journals : List (List Event)) → slice_get threads i ≡ Some t
      → AllByRecursion IsValidPart parts → AllFit threads index parts journals
      → IsServedInParts t.ops index journals (map (answers_to i) (sections_of threads index parts journals))
  unfolding AllFit sections_of
  served_in_parts threads t index [] [] at v h = record { given = []; on = tt; rising = λ k. tt }
  served_in_parts threads t index [] (journal ∷ journals) at v h = absurd h
  served_in_parts threads t index (spec ∷ parts) [] at v h = absurd h
  served_in_parts threads t index (spec ∷ parts) (journal ∷ journals) at v h =
      let own : List (ℕ × Answer) = slice_index_or (map answers_of_thread (section_from (opening_section threads index spec) journal).threads) i [] in
      let s : Serves index i journal 0 (thread_on index t) own = part_serves threads index spec journal i t v.0 h.0 at in
      let more : IsServedInParts t.ops (suc index) journals (map (answers_to i) (sections_of threads (suc index) parts journals)) =
      served_in_parts threads t (suc index) parts journals at v.1 h.1 in
      record {
        given = s.receipts ∷ more.given;
        on = (s.on, s.given, more.on);
        rising = λ k. by_position s.receipts more.given s.rising more.rising k;
      }
    where
      by_position : (g : List Receipt) (given : List (List Receipt)) → IsRisingFrom 0 (map invoked_at g) → ((k : ℕ) → IsRisingFrom 0 (map invoked_at (slice_index_or given k [])))
          → (k : ℕ) → IsRisingFrom 0 (map invoked_at (slice_index_or (g ∷ given) k []))
      by_position g given r rs zero = r
      by_position g given r rs (suc k) = rs k

pub thread_served : (threads : List ThreadSpec) (parts : List PartSpec) (journals : List (List Event)) (i : ℕ) (t : ThreadSpec) → slice_get threads i ≡ Some t
    → AllByRecursion IsValidPart parts → AllFit threads 0 parts journals → AllByRecursion (λ o. o.0 < length journals) t.ops
    → IsServed journals i t.ops (in_script_order t.ops (map (answers_to i) (sections_of threads 0 parts journals)))
thread_served threads parts journals i t at v h low =
    let s : IsServedInParts i t.ops 0 journals (map (answers_to i) (sections_of threads 0 parts journals)) = served_in_parts i threads t 0 parts journals at v h in
    let m : IsMerged i t.ops journals s.given (map (answers_to i) (sections_of threads 0 parts journals)) =
    merged i t.ops journals s.given (map (answers_to i) (sections_of threads 0 parts journals)) low s.on in
    record {
      receipts = m.receipts;
      have = m.have;
      rising = λ part. subst (IsRisingFrom 0) (sym (m.invoked part)) (s.rising part);
      same = m.same;
    }
