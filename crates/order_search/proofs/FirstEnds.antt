-- The first end of each outcome, one state after another.
use Rattle.std.proofs.Common.{◌≡◌, inl, inr, false, All, Contains, List, [], ◌∷◌, ◌++◌, append_assoc, append-nil, refl}
use Rattle.std.proofs.Common.{sym, ap, ◌∙◌, subst}
use Rattle.std.proofs.lemmas.List.{map_push}
use Rattle.std.proofs.lemmas.List.Elements.{All-contains, All-push, All-weaker, Contains-append_left, Contains-push}
use Rattle.std.proofs.lemmas.List.Elements.{Contains-push_cases}
use Rattle.explore_defs.specs.Orders.{comes_before}
use Rattle.explore_laws.proofs.Words.{before_asym, before_self}
use Rattle.explore_laws.specs.Held.{DoRise, HasHeldOutcome, Held, choices_in}
use Rattle.explore_laws.specs.Present.{outcome_in}
use Rattle.order_search.proofs.KeptEnds.{end_outcome, held_outcome}
use Rattle.order_search.proofs.Rising.{IsBefore, rise_at, rise_front, rise_push}
use Rattle.order_search.specs.Ends.{AreFirstEnds, HasOutcome, CoverEnds, TakesEnds, end_from}
use Rattle.order_search.specs.Ways.{ComeBefore}
use Rattle.order_search.specs.declared.ends.FirstEnd.{FirstEnd}

module _ (seen firsts : List Held) (h : Held) (b : ComeBefore seen h) (e : AreFirstEnds seen firsts) where
  more_seen : All (Contains (seen ++ h ∷ [])) firsts
  more_seen = All-weaker (Contains seen) (Contains (seen ++ h ∷ []))
      (λ x c. Contains-append_left seen (h ∷ []) x c) firsts e.is_seen

  first_before : (first : Held) → Contains firsts first → comes_before h.picks first.picks ≡ false
  first_before first c =
      before_asym first.picks h.picks
      (All-contains (λ (x : Held). IsBefore x h) seen first b (All-contains (Contains seen) firsts first e.is_seen c))

  firsts_before : ComeBefore firsts h
  firsts_before = All-weaker (Contains seen) (λ (x : Held). IsBefore x h)
      (λ x c. All-contains (λ (x : Held). IsBefore x h) seen x b c) firsts e.is_seen

  -- it does not come before one of them
  still_least : (first x : Held) → Contains firsts first → Contains (seen ++ h ∷ []) x → choices_in x.now ≡ []
      → outcome_in x.now ≡ outcome_in first.now → comes_before x.picks first.picks ≡ false
  still_least first x c d ended same = elim (Contains-push_cases seen h x d) [
    | inl old ↦ e.least first x c old ended same
    | inr it ↦ ap (λ (z : Held). comes_before z.picks first.picks) (sym it) ∙ first_before first c
  ]

  firsts_same : (choices_in h.now ≡ [] → HasHeldOutcome firsts (outcome_in h.now))
      → AreFirstEnds (seen ++ h ∷ []) firsts
  firsts_same has = record {
    is_seen = more_seen;
    ended = e.ended;
    least = still_least;
    each = λ x c. elim (Contains-push_cases seen h x c) [
      | inl old ↦ e.each x old
      | inr it ↦ subst (λ (z : Held). choices_in z.now ≡ [] → HasHeldOutcome firsts (outcome_in z.now)) it has
    ];
    rising = e.rising;
  }

  module _ (ended : choices_in h.now ≡ []) (new : HasHeldOutcome firsts (outcome_in h.now) → ⊥) where
    -- its outcome differs from that of each of the firsts
    none_alike : (first : Held) → Contains firsts first → outcome_in first.now ≡ outcome_in h.now → ⊥
    none_alike first c same = new (record { first = first; listed = c; same = same })

    more_outcomes : (x : Held) → HasHeldOutcome firsts (outcome_in x.now)
        → HasHeldOutcome (firsts ++ h ∷ []) (outcome_in x.now)
    more_outcomes x has = record {
      first = has.first;
      listed = Contains-append_left firsts (h ∷ []) has.first has.listed;
      same = has.same;
    }

    itself : HasHeldOutcome (firsts ++ h ∷ []) (outcome_in h.now)
    itself = record { first = h; listed = Contains-push firsts h; same = refl }

    -- whatever was seen before and has ended has an outcome of one of the firsts, and so not this one's
    none_seen : (x : Held) → Contains seen x → choices_in x.now ≡ [] → outcome_in x.now ≡ outcome_in h.now → ⊥
    none_seen x c x_ended same =
        let has : HasHeldOutcome firsts (outcome_in x.now) = e.each x c x_ended in
        none_alike has.first has.listed (has.same ∙ same)

    it_is_least : (x : Held) → Contains (seen ++ h ∷ []) x → choices_in x.now ≡ [] → outcome_in x.now ≡ outcome_in h.now
        → comes_before x.picks h.picks ≡ false
    it_is_least x c x_ended same = elim (Contains-push_cases seen h x c) [
      | inl old ↦ absurd (none_seen x old x_ended same)
      | inr it ↦ ap (λ (z : Held). comes_before z.picks h.picks) (sym it) ∙ before_self h.picks
    ]

    all_least : (first x : Held) → Contains (firsts ++ h ∷ []) first → Contains (seen ++ h ∷ []) x
        → choices_in x.now ≡ []
        → outcome_in x.now ≡ outcome_in first.now → comes_before x.picks first.picks ≡ false
    all_least first x c d x_ended same = elim (Contains-push_cases firsts h first c) [
      | inl old ↦ still_least first x old d x_ended same
      | inr it ↦ ap (λ (z : Held). comes_before x.picks z.picks) (sym it)
          ∙ it_is_least x d x_ended (same ∙ ap (λ (z : Held). outcome_in z.now) (sym it))
    ]

    firsts_more : AreFirstEnds (seen ++ h ∷ []) (firsts ++ h ∷ [])
    firsts_more = record {
      is_seen = All-push (Contains (seen ++ h ∷ [])) firsts h more_seen (Contains-push seen h);
      ended = All-push (λ (x : Held). choices_in x.now ≡ []) firsts h e.ended ended;
      least = all_least;
      each = λ x c x_ended. elim (Contains-push_cases seen h x c) [
        | inl old ↦ more_outcomes x (e.each x old x_ended)
        | inr it ↦ subst (λ (z : Held). HasHeldOutcome (firsts ++ h ∷ []) (outcome_in z.now)) it itself
      ];
      rising = rise_push firsts h e.rising firsts_before;
    }

-- ---- one state

-- it continues, or there is already a first end with its outcome
pub ends_same : (h : Held) (ends : List FirstEnd) → (choices_in h.now ≡ [] → HasOutcome ends (outcome_in h.now))
    → TakesEnds (h ∷ []) ends ends
ends_same h ends has = record {
  ends = λ seen r s. record {
    firsts = s.firsts;
    same = s.same;
    are = firsts_same seen s.firsts h (rise_at seen [] h r) s.are
        (λ ended. held_outcome s.firsts (outcome_in h.now)
        (subst (λ (xs : List FirstEnd). HasOutcome xs (outcome_in h.now)) s.same (has ended)));
  };
}

pub ends_more : (h : Held) (ends : List FirstEnd) → choices_in h.now ≡ [] → (HasOutcome ends (outcome_in h.now) → ⊥)
    → TakesEnds (h ∷ []) ends (ends ++ end_from h ∷ [])
ends_more h ends ended new = record {
  ends = λ seen r s. record {
    firsts = s.firsts ++ h ∷ [];
    same = ap (λ (xs : List FirstEnd). xs ++ end_from h ∷ []) s.same ∙ sym (map_push end_from s.firsts h);
    are = firsts_more seen s.firsts h (rise_at seen [] h r) s.are ended
        (λ has. new (subst (λ (xs : List FirstEnd). HasOutcome xs (outcome_in h.now)) (sym s.same)
        (end_outcome s.firsts (outcome_in h.now) has)));
  };
}

-- ---- many states

-- the same for an equal list of states
seen_as : (seen others : List Held) (ends : List FirstEnd) → seen ≡ others → CoverEnds seen ends
    → CoverEnds others ends
seen_as seen others ends e s = subst (λ (xs : List Held). CoverEnds xs ends) e s

pub ends_none : (ends : List FirstEnd) → TakesEnds [] ends ends
ends_none ends = record {
  ends = λ seen r s. seen_as seen (seen ++ []) ends (sym (append-nil seen)) s;
}

pub ends_then : (xs ys : List Held) (a b c : List FirstEnd) → TakesEnds xs a b → TakesEnds ys b c
    → TakesEnds (xs ++ ys) a c
ends_then xs ys a b c p q = record {
  ends = λ seen r s.
      let rises : DoRise ((seen ++ xs) ++ ys) = subst DoRise (sym (append_assoc seen xs ys)) r in
      seen_as ((seen ++ xs) ++ ys) (seen ++ (xs ++ ys)) c (append_assoc seen xs ys)
      (q.ends (seen ++ xs) rises (p.ends seen (rise_front (seen ++ xs) ys rises) s));
}
