-- A level is made of the continuations, one after another.
use Rattle.std.proofs.Common.{◌≡◌, inl, inr, ℕ, ◌+◌, ◌<◌, ◌≤◌, Bool, false, true, All, Contains, List, [], ◌∷◌}
use Rattle.std.proofs.Common.{Some, ◌++◌, append_assoc, append-nil, length, map, slice_get, take, refl, sym, ap, ap₂}
use Rattle.std.proofs.Common.{◌∙◌}
use Rattle.std.proofs.Common.{subst, arith}
use Rattle.std.proofs.lemmas.List.{length_push, take_more}
use Rattle.std.proofs.lemmas.List.Elements.{All-append, All-contains, All-head, All-push, All-weaker}
use Rattle.std.proofs.lemmas.List.Elements.{Contains-append_left}
use Rattle.std.proofs.lemmas.List.Elements.{Contains-push, Contains-push_cases}
use Rattle.std.proofs.lemmas.Option.{get_or_from_slice_get, slice_get_within}
use Rattle.explore_defs.specs.declared.TheConstants.{MOST_STATES}
use Rattle.explore_laws.proofs.Words.{before_asym, before_self}
use Rattle.explore_laws.specs.Held.{DoRise, Held, IsCoveredAmong, choices_in, held_after, ways_from}
use Rattle.explore_laws.specs.Present.{Present}
use Rattle.order_search.proofs.Rising.{IsBefore, all_front, all_rest, rise_at, rise_front, rise_push}
use Rattle.order_search.specs.Moments.{IsAfter, actors_in}
use Rattle.order_search.specs.Ways.{AreAfter, ComeBefore, HasPresent, IsSettled, IsSifted, Made, TakesWays}
use Rattle.part_laws.proofs.Indices.{from_map, get_map}
use Rattle.run_defs.specs.Simulation.{Choice, actor_of}

true_not_false : true ≡ false → ⊥
true_not_false e = cc

-- ---- one continuation

module _ (was : Bool) (all done : List Held) (m : Made) (h : Held) (s : IsSifted was all done m) where
  more_ways : All (Contains (done ++ h ∷ [])) m.level
  more_ways = All-weaker (Contains done) (Contains (done ++ h ∷ []))
      (λ x c. Contains-append_left done (h ∷ []) x c) m.level s.ways

  level_before : ComeBefore done h → ComeBefore m.level h
  level_before b = All-weaker (Contains done) (λ (x : Held). IsBefore x h)
      (λ x c. All-contains (λ (x : Held). IsBefore x h) done x b c) m.level s.ways

  -- the level is unchanged, and the continuation is settled
  sifted_same : IsSettled all m h → IsSifted was all (done ++ h ∷ []) m
  sifted_same settled = record {
    ways = more_ways;
    rising = s.rising;
    each = λ x c. elim (Contains-push_cases done h x c) [
      | inl old ↦ s.each x old
      | inr same ↦ subst (IsSettled all m) same settled
    ];
    count = s.count;
    few = s.few;
    full = s.full;
    stays = s.stays;
  }

  sifted_merged : ComeBefore done h → HasPresent m.level h.now → IsSifted was all (done ++ h ∷ []) m
  sifted_merged b f = sifted_same (inl (record {
    by = f.by;
    is_held = f.is_held;
    alike = f.alike;
    early = before_asym f.by.picks h.picks (All-contains (λ (x : Held). IsBefore x h) m.level f.by (level_before b)
        f.is_held);
  }))

  sifted_past : m.is_cut ≡ true → ComeBefore all h → ComeBefore done h → IsSifted was all (done ++ h ∷ []) m
  sifted_past cut a b = sifted_same (inr (record {
    is_cut = cut;
    past = All-append (λ (x : Held). IsBefore x h) all m.level a (level_before b);
  }))

  -- not yet truncated
  module _ (whole : m.is_cut ≡ false) where
    no_cut : {G : Type 0} → m.is_cut ≡ true → G
    no_cut cut = absurd (true_not_false (sym cut ∙ whole))

    settled_whole : (x : Held) → IsSettled all m x → IsCoveredAmong m.level x
    settled_whole x (inl among) = among
    settled_whole x (inr past) = no_cut past.is_cut

    abbrev added : Made
    added = record { level = m.level ++ h ∷ []; states = m.states + 1; is_cut = m.is_cut }

    covered_more : (x : Held) → IsCoveredAmong m.level x → IsCoveredAmong (m.level ++ h ∷ []) x
    covered_more x among = record {
      by = among.by;
      is_held = Contains-append_left m.level (h ∷ []) among.by among.is_held;
      alike = among.alike;
      early = among.early;
    }

    holds_itself : IsCoveredAmong (m.level ++ h ∷ []) h
    holds_itself = record { by = h; is_held = Contains-push m.level h; alike = refl; early = before_self h.picks }

    sifted_added : ComeBefore done h → m.states < MOST_STATES → IsSifted was all (done ++ h ∷ []) added
    sifted_added b less = record {
      ways = All-push (Contains (done ++ h ∷ [])) m.level h more_ways (Contains-push done h);
      rising = rise_push m.level h s.rising (level_before b);
      each = λ x c. elim (Contains-push_cases done h x c) [
        | inl old ↦ inl (covered_more x (settled_whole x (s.each x old)))
        | inr same ↦ inl (subst (IsCoveredAmong (m.level ++ h ∷ [])) same holds_itself)
      ];
      count = counted (length (m.level ++ h ∷ [])) (length_push m.level h) s.count;
      few = omega arith;
      full = λ cut. no_cut cut;
      stays = λ e. no_cut (s.stays e).1;
    }
      where
        counted : (n : ℕ) → n ≡ length m.level + 1 → m.states ≡ length all + length m.level
            → m.states + 1 ≡ length all + n
        counted n e c = omega arith

    abbrev cut_off : Made
    cut_off = record { level = m.level; states = m.states; is_cut = true }

    sifted_cut : MOST_STATES ≤ m.states → IsSifted was all done cut_off
    sifted_cut many = record {
      ways = s.ways;
      rising = s.rising;
      each = λ x c. inl (settled_whole x (s.each x c));
      count = s.count;
      few = s.few;
      full = λ cut. filled s.few;
      stays = λ e. no_cut (s.stays e).1;
    }
      where
        filled : m.states ≤ MOST_STATES → m.states ≡ MOST_STATES
        filled few = omega arith

-- the premises of one continuation
module _ (all done : List Held) (h : Held) where
  before_way : DoRise (done ++ h ∷ []) → ComeBefore done h
  before_way r = rise_at done [] h r

  before_all : AreAfter all (h ∷ []) → ComeBefore all h
  before_all a = All-head (ComeBefore all) h [] a

pub takes_merged : (m : Made) (h : Held) → HasPresent m.level h.now → TakesWays (h ∷ []) m m
takes_merged m h f = record {
  sifted = λ was all done r a s. sifted_merged was all done m h s (before_way all done h r) f;
}

pub takes_past : (m : Made) (h : Held) → m.is_cut ≡ true → TakesWays (h ∷ []) m m
takes_past m h cut = record {
  sifted = λ was all done r a s. sifted_past was all done m h s cut (before_all all done h a) (before_way all done h r);
}

pub takes_added : (m : Made) (h : Held) → m.is_cut ≡ false → m.states < MOST_STATES
    → TakesWays (h ∷ []) m (record { level = m.level ++ h ∷ []; states = m.states + 1; is_cut = m.is_cut })
takes_added m h whole less = record {
  sifted = λ was all done r a s. sifted_added was all done m h s whole (before_way all done h r) less;
}

pub takes_cut : (m : Made) (h : Held) → m.is_cut ≡ false → MOST_STATES ≤ m.states
    → TakesWays (h ∷ []) m (record { level = m.level; states = m.states; is_cut = true })
takes_cut m h whole many = record {
  sifted = λ was all done r a s. sifted_past was all done
      (record { level = m.level; states = m.states; is_cut = true }) h
      (sifted_cut was all done m h s whole many) refl (before_all all done h a) (before_way all done h r);
}

-- ---- many continuations

pub takes_none : (m : Made) → TakesWays [] m m
takes_none m = record {
  sifted = λ was all done r a s. subst (λ (xs : List Held). IsSifted was all xs m) (sym (append-nil done)) s;
}

pub takes_more : (xs ys : List Held) (a b c : Made) → TakesWays xs a b → TakesWays ys b c → TakesWays (xs ++ ys) a c
takes_more xs ys a b c p q = record {
  sifted = λ was all done r t s.
      let rises : DoRise ((done ++ xs) ++ ys) = subst DoRise (sym (append_assoc done xs ys)) r in
      subst (λ (zs : List Held). IsSifted was all zs c) (append_assoc done xs ys)
      (q.sifted was all (done ++ xs) rises (all_rest (ComeBefore all) xs ys t)
      (p.sifted was all done (rise_front (done ++ xs) ys rises) (all_front (ComeBefore all) xs ys t) s));
}

-- after the limit is reached, continuations are left out
pub takes_all_past : (ways : List Held) (m : Made) → m.is_cut ≡ true → TakesWays ways m m
takes_all_past [] m cut = takes_none m
takes_all_past (h ∷ ways) m cut = takes_more (h ∷ []) ways m m m (takes_past m h cut) (takes_all_past ways m cut)

-- ---- the continuations of one state

way_at : (h : Held) (choices : List Choice) (k : ℕ) (c : Choice) → slice_get choices k ≡ Some c
    → take (k + 1) (map (held_after h) choices) ≡ take k (map (held_after h) choices) ++ held_after h c ∷ []
way_at h choices k c at =
    let ways : List Held = map (held_after h) choices in
    let here : slice_get ways k ≡ Some (held_after h c) = get_map (held_after h) choices k c at in
    take_more ways k (held_after h c) (slice_get_within ways k (held_after h c) here)
    ∙ ap (λ (x : Held). take k ways ++ x ∷ []) (get_or_from_slice_get ways k (held_after h c) (held_after h c) here)

-- the continuation by the choice with the next index
pub takes_way : (h w : Held) (k actor : ℕ) (a b c : Made) → IsAfter h.now k w.now
    → slice_get (actors_in h.now) k ≡ Some actor
    → w.picks ≡ h.picks ++ actor ∷ [] → TakesWays (take k (ways_from h)) a b → TakesWays (w ∷ []) b c
    → TakesWays (take (k + 1) (ways_from h)) a c
takes_way h w k actor a b c after at picks p q =
    let one = from_map actor_of (choices_in h.now) k actor at in
    let same : w ≡ held_after h one.0 =
    ap₂ {C = Held} (λ picks (now : Present). record { picks = picks; now = now })
    (picks ∙ ap (λ n. h.picks ++ n ∷ []) one.2) (after.by one.0 one.1) in
    subst (λ (xs : List Held). TakesWays xs a c) (sym (way_at h (choices_in h.now) k one.0 one.1))
    (takes_more (take k (ways_from h)) (held_after h one.0 ∷ []) a b c p
    (subst (λ (x : Held). TakesWays (x ∷ []) b c) same q))
