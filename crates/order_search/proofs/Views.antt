-- What lists of states represent.
use Rattle.std.proofs.Common.{◌≡◌, ℕ, ◌+◌, ◌<◌, ◌==◌, All, List, [], ◌∷◌, ◌++◌}
use Rattle.std.proofs.Common.{Some, Result, Ok, Err, OnOk, Bool, true, false, length, map, slice_get, take, sym}
use Rattle.std.proofs.Common.{ap, ap₂, ◌∙◌, subst, arith, eqb-true}
use Rattle.std.proofs.lemmas.List.{length-map, map_push, nil_from_length, take_more}
use Rattle.std.proofs.lemmas.List.Elements.{All-push}
use Rattle.std.proofs.lemmas.Option.{get_or_from_slice_get, slice_get_within}
use Rattle.explore_defs.specs.declared.TheConstants.{MOST_STATES}
use Rattle.explore_defs.specs.declared.outcome.Outcome.{Outcome}
use Rattle.explore_laws.specs.Held.{Held, choices_in, ways_from}
use Rattle.explore_laws.specs.Present.{Present, numbers_in, outcome_in}
use Rattle.nook_data.specs.Types.{MemberRow}
use Rattle.order_search.specs.Moments.{actors_in, held_as, held_at_first}
use Rattle.order_search.proofs.FirstEnds.{ends_more, ends_same, ends_then}
use Rattle.order_search.proofs.KeptEnds.{false_not_true, get_contains}
use Rattle.order_search.proofs.Onward.{at_first}
use Rattle.order_search.proofs.Sifted.{takes_added, takes_more}
use Rattle.order_search.specs.Ends.{HasOutcome, TakesEnds}
use Rattle.order_search.specs.Found.{IsAt}
use Rattle.order_search.specs.Ways.{HasPresent, Made, TakesWays, all_ways, made_as}
use Rattle.order_search.specs.declared.ends.FirstEnd.{FirstEnd}
use Rattle.order_search.specs.declared.states.HeldState.{HeldState}
use Rattle.part_laws.proofs.Indices.{get_map}
use Rattle.run_defs.specs.Simulation.{actor_of}

-- one more item with a property
pub all_one_more : {X : Type 0} (P : X → Type 0) (xs : List X) (k : ℕ) (x : X) → slice_get xs k ≡ Some x
    → All P (take k xs) → P x
    → All P (take (k + 1) xs)
all_one_more P xs k x h all p =
    subst (All P) (sym (take_more xs k x (slice_get_within xs k x h)
    ∙ ap (λ y. take k xs ++ y ∷ []) (get_or_from_slice_get xs k x x h)))
    (All-push P (take k xs) x all p)

-- no actor has a step if none is listed
pub none_listed : (now : Present) (actors : List ℕ) → actors ≡ actors_in now → length actors ≡ 0 → choices_in now ≡ []
none_listed now actors is none =
    nil_from_length (choices_in now) (sym (length-map (choices_in now) actor_of) ∙ ap length (sym is) ∙ none)

-- some actor has a step if one is listed
pub some_listed : (now : Present) (actors : List ℕ) (r : Bool) → actors ≡ actors_in now → r ≡ (length actors == 0)
    → r ≡ false
    → choices_in now ≡ [] → ⊥
some_listed now actors r is test some none =
    false_not_true (sym some ∙ test ∙ ap (λ (xs : List ℕ). length xs == 0) (is ∙ ap (map actor_of) none))

-- what always holds also holds after a success
pub on_ok : {T E P : Type 0} (r : Result T E) → P → OnOk r P
on_ok (Ok x) p = p
on_ok (Err e) p = tt

-- an end from what is stored of it
abbrev pub end_of : List ℕ → MemberRow → Outcome → FirstEnd
end_of picks numbers outcome = record { picks = picks; numbers = numbers; outcome = outcome }

module _ {M : Type 0} (now : M → Present) where
  pub has_present : (level : List (HeldState M)) (k : ℕ) (s : HeldState M) (other : M) → slice_get level k ≡ Some s
      → now s.moment ≡ now other → HasPresent (map (held_as now) level) (now other)
  has_present level k s other at same = record {
    by = held_as now s;
    is_held = get_contains (map (held_as now) level) k (held_as now s) (get_map (held_as now) level k s at);
    alike = same;
  }

  -- ---- one more state

  abbrev view : HeldState M → Held
  view = held_as now

  pub way_added : (level new : List (HeldState M)) (states : ℕ) (is_cut : Bool) (s : HeldState M)
      → new ≡ level ++ s ∷ []
      → is_cut ≡ false → states < MOST_STATES
      → TakesWays (held_as now s ∷ []) (made_as now level states is_cut) (made_as now new (states + 1) is_cut)
  way_added level new states is_cut s e whole less =
      subst (λ (xs : List Held). TakesWays (held_as now s ∷ []) (made_as now level states is_cut)
      (record { level = xs; states = states + 1; is_cut = is_cut }))
      (sym (ap (map view) e ∙ map_push view level s))
      (takes_added (made_as now level states is_cut) (held_as now s) whole less)

  -- some end already has its outcome
  pub end_had : (ends : List FirstEnd) (s : HeldState M) (outcome : Outcome) → outcome ≡ outcome_in (now s.moment)
      → HasOutcome ends outcome → TakesEnds (held_as now s ∷ []) ends ends
  end_had ends s outcome is has = ends_same (held_as now s) ends (λ ended. subst (HasOutcome ends) is has)

  pub end_added : (ends new : List FirstEnd) (s : HeldState M) (numbers : MemberRow) (outcome : Outcome)
      → new ≡ ends ++ end_of s.picks numbers outcome ∷ []
      → numbers ≡ numbers_in (length s.picks) (now s.moment) → outcome ≡ outcome_in (now s.moment)
      → choices_in (now s.moment) ≡ [] → (HasOutcome ends outcome → ⊥)
      → TakesEnds (held_as now s ∷ []) ends new
  end_added ends new s numbers outcome e n o ended none =
      subst (TakesEnds (held_as now s ∷ []) ends)
      (sym (e ∙ ap₂ (λ (row : MemberRow) (out : Outcome). ends ++ end_of s.picks row out ∷ []) n o))
      (ends_more (held_as now s) ends ended (λ has. none (subst (HasOutcome ends) (sym o) has)))

  -- ---- the first state of a list, then the rest

  pub ways_then : (states rest : List (HeldState M)) (s : HeldState M) (a b c : Made) → states ≡ s ∷ rest
      → TakesWays (ways_from (held_as now s)) a b → TakesWays (all_ways (map (held_as now) rest)) b c
      → TakesWays (all_ways (map (held_as now) states)) a c
  ways_then states rest s a b c e p q =
      subst (λ (xs : List (HeldState M)). TakesWays (all_ways (map view xs)) a c) (sym e)
      (takes_more (ways_from (held_as now s)) (all_ways (map view rest)) a b c p q)

  pub all_ends_then : (states rest : List (HeldState M)) (s : HeldState M) (a b c : List FirstEnd) → states ≡ s ∷ rest
      → TakesEnds (held_as now s ∷ []) a b → TakesEnds (map (held_as now) rest) b c
      → TakesEnds (map (held_as now) states) a c
  all_ends_then states rest s a b c e p q =
      subst (λ (xs : List (HeldState M)). TakesEnds (map view xs) a c) (sym e)
      (ends_then (held_as now s ∷ []) (map view rest) a b c p q)

  -- ---- a whole list

  pub some_viewed : (states : List (HeldState M)) (r : Bool) → r ≡ (length states == 0) → r ≡ false
      → 0 < length (map (held_as now) states)
  some_viewed [] r test some = absurd (false_not_true (sym some ∙ test))
  some_viewed (s ∷ states) r test some = omega arith

  pub none_viewed : (states : List (HeldState M)) (r : Bool) → r ≡ (length states == 0) → r ≡ true
      → map (held_as now) states ≡ []
  none_viewed states r test none = ap (map view) (nil_from_length states (eqb-true (length states) 0 (sym test ∙ none)))

  pub first_viewed : (level none : List (HeldState M)) (ends : List FirstEnd) (picks : List ℕ) (first : M) → none ≡ []
      → picks ≡ [] → level ≡ none ++ record { picks = picks; moment = first } ∷ [] → ends ≡ []
      → IsAt (held_at_first (now first)) (made_as now level 1 false) ends
  first_viewed level none ends picks first empty start pushed begun =
      subst (IsAt (held_at_first (now first)) (made_as now level 1 false)) (sym begun)
      (subst (λ (xs : List (HeldState M)). IsAt (held_at_first (now first)) (made_as now xs 1 false) []) (sym is)
      (at_first (now first)))
    where
      is : level ≡ record { picks = []; moment = first } ∷ []
      is = pushed ∙ ap (λ (xs : List (HeldState M)). xs ++ record { picks = picks; moment = first } ∷ []) empty
          ∙ ap (λ (ps : List ℕ). record { picks = ps; moment = first } ∷ []) start
