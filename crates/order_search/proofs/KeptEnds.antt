-- What is stored of ends.
use Rattle.std.proofs.Common.{◌≡◌, ℕ, All, Contains, List, [], ◌∷◌, Some, Bool, true, false, Decides, length, map}
use Rattle.std.proofs.Common.{slice_get, refl, sym, ap, ◌∙◌}
use Rattle.std.proofs.lemmas.List.Elements.{All-contains}
use Rattle.std.proofs.lemmas.Option.{get_or_from_slice_get, slice_get_read, slice_get_within}
use Rattle.explore_defs.specs.declared.outcome.Outcome.{Outcome}
use Rattle.explore_laws.specs.Held.{HasHeldOutcome, Held}
use Rattle.order_search.specs.Ends.{HasOutcome, end_from}
use Rattle.order_search.specs.Found.{row_from, row_of_end}
use Rattle.order_search.specs.declared.ends.FirstEnd.{FirstEnd}
use Rattle.order_search.specs.declared.rows.OutcomeRow.{OutcomeRow}
use Rattle.part_laws.proofs.Indices.{from_map, get_map}

pub get_contains : {X : Type 0} (xs : List X) (k : ℕ) (x : X) → slice_get xs k ≡ Some x → Contains xs x
get_contains xs k x h = (k, slice_get_within xs k x h, get_or_from_slice_get xs k x x h)

pub contains_get : {X : Type 0} (xs : List X) (x : X) → Contains xs x → (k : ℕ) × (slice_get xs k ≡ Some x)
contains_get xs x h = (h.0, slice_get_read xs (length xs) h.0 x refl h.1 (sym h.2))

pub false_not_true : false ≡ true → ⊥
false_not_true e = cc

-- ---- one of them has an outcome

pub has_this_outcome : (ends : List FirstEnd) (k : ℕ) (e : FirstEnd) (outcome : Outcome) → slice_get ends k ≡ Some e
    → e.outcome ≡ outcome → HasOutcome ends outcome
has_this_outcome ends k e outcome at same = record { by = e; listed = get_contains ends k e at; same = same }

-- an end has another outcome
pub record HasOther (outcome : Outcome) (e : FirstEnd) : Type 0 where
  pub differs : e.outcome ≡ outcome → ⊥

pub other_by : (outcome : Outcome) (e : FirstEnd) (r : Bool) → r ≡ false → Decides r (e.outcome ≡ outcome)
    → HasOther outcome e
other_by outcome e r differ is = record { differs = λ same. false_not_true (sym differ ∙ is.1 same) }

pub none_has : (ends : List FirstEnd) (outcome : Outcome) → All (HasOther outcome) ends → HasOutcome ends outcome → ⊥
none_has ends outcome all has = (All-contains (HasOther outcome) ends has.by all has.listed).differs has.same

-- ---- the states whose ends they are

-- one of the states has the outcome of an end
pub held_outcome : (firsts : List Held) (outcome : Outcome) → HasOutcome (map end_from firsts) outcome
    → HasHeldOutcome firsts outcome
held_outcome firsts outcome has =
    let at = contains_get (map end_from firsts) has.by has.listed in
    let one = from_map end_from firsts at.0 has.by at.1 in
    record {
      first = one.0;
      listed = get_contains firsts at.0 one.0 one.1;
      same = ap (λ (e : FirstEnd). e.outcome) (sym one.2) ∙ has.same;
    }

-- one of the ends has the outcome of a state
pub end_outcome : (firsts : List Held) (outcome : Outcome) → HasHeldOutcome firsts outcome
    → HasOutcome (map end_from firsts) outcome
end_outcome firsts outcome has =
    let at = contains_get firsts has.first has.listed in
    record {
      by = end_from has.first;
      listed = get_contains (map end_from firsts) at.0 (end_from has.first)
          (get_map end_from firsts at.0 has.first at.1);
      same = has.same;
    }

pub same_rows : (firsts : List Held) → map row_of_end (map end_from firsts) ≡ map row_from firsts
same_rows [] = refl
same_rows (h ∷ firsts) = ap (λ (rows : List OutcomeRow). row_from h ∷ rows) (same_rows firsts)
