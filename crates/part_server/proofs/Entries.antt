-- The events of a part with their stamps, and what a seat of the turn knows of both.
use Rattle.std.proofs.Common.{◌≡◌, ◌⊎◌, inl, inr, ℕ, suc, ◌<◌, ◌≤◌, Bool, true, false, cond, nat_lt, List, [], ◌∷◌, ◌++◌, length, All, refl, sym, ap, ◌∙◌, subst, arith}
use mathlib.Core.List.{IsPrefix}
use Rattle.nook_data.specs.declared.steps.Event.{Event}
use Rattle.desk_like.specs.Stamps.{IsStamped}
use Rattle.turn_lock.specs.Seats.{IsAlone, MadeIsSeen}
use Rattle.turn_lock.specs.Views.{took, longer, joined, learnt}
use Rattle.part_server.specs.declared.stamped.Stamped.{Stamped}
use Rattle.part_server.specs.Entries.{DatedRun, TurnView, entries, events_of, stamps_of, journal_view}

-- ---- lists

pub events_length : (xs : List Stamped) → length (events_of xs) ≡ length xs
events_length [] = refl
events_length (x ∷ xs) = ap suc (events_length xs)

events_append : (xs ys : List Stamped) → events_of (xs ++ ys) ≡ events_of xs ++ events_of ys
events_append [] ys = refl
events_append (x ∷ xs) ys = ap (λ (l : List Event). x.event ∷ l) (events_append xs ys)

stamps_append : (xs ys : List Stamped) → stamps_of (xs ++ ys) ≡ stamps_of xs ++ stamps_of ys
stamps_append [] ys = refl
stamps_append (x ∷ xs) ys = ap (λ (l : List ℕ). x.stamp ∷ l) (stamps_append xs ys)

pub prefix_events : (xs ys : List Stamped) → IsPrefix xs ys → IsPrefix (events_of xs) (events_of ys)
prefix_events xs ys p = (events_of p.0, sym (events_append xs p.0) ∙ ap events_of p.1)

pub prefix_stamps : (xs ys : List Stamped) → IsPrefix xs ys → IsPrefix (stamps_of xs) (stamps_of ys)
prefix_stamps xs ys p = (stamps_of p.0, sym (stamps_append xs p.0) ∙ ap stamps_of p.1)

pub events_entries : (es : List Event) (ss : List ℕ) → length ss ≡ length es → events_of (entries es ss) ≡ es
events_entries [] ss h = refl
events_entries (e ∷ es) [] h = absurd (omega arith)
events_entries (e ∷ es) (s ∷ ss) h = ap (λ (l : List Event). e ∷ l) (events_entries es ss (omega arith))

pub stamps_entries : (es : List Event) (ss : List ℕ) → length ss ≡ length es → stamps_of (entries es ss) ≡ ss
stamps_entries [] [] h = refl
stamps_entries [] (s ∷ ss) h = absurd (omega arith)
stamps_entries (e ∷ es) [] h = absurd (omega arith)
stamps_entries (e ∷ es) (s ∷ ss) h = ap (λ (l : List ℕ). s ∷ l) (stamps_entries es ss (omega arith))

pub entries_length : (es : List Event) (ss : List ℕ) → length ss ≡ length es → length (entries es ss) ≡ length es
entries_length es ss h = sym (events_length (entries es ss)) ∙ ap length (events_entries es ss h)

pub entries_within : (es : List Event) (ss : List ℕ) → length (entries es ss) ≤ length es
entries_within [] ss = omega arith
entries_within (e ∷ es) [] = omega arith
entries_within (e ∷ es) (s ∷ ss) = let l : length (entries es ss) ≤ length es = entries_within es ss in omega arith

pub entries_last : (es : List Event) (ss : List ℕ) (e : Event) (s : ℕ) → length ss ≡ length es → entries (es ++ e ∷ []) (ss ++ s ∷ []) ≡ entries es ss ++ record { event = e; stamp = s } ∷ []
entries_last [] [] e s h = refl
entries_last [] (t ∷ ss) e s h = absurd (omega arith)
entries_last (d ∷ es) [] e s h = absurd (omega arith)
entries_last (d ∷ es) (t ∷ ss) e s h = ap (λ (l : List Stamped). record { event = d; stamp = t } ∷ l) (entries_last es ss e s (omega arith))

-- ---- the value in the lock, and its entries

module _ (x : DatedRun) (stamped : IsStamped x.run.journal x.stamps) where
  pub listed_events : events_of (entries x.run.journal x.stamps) ≡ x.run.journal
  listed_events = events_entries x.run.journal x.stamps stamped.count

  pub listed_stamps : stamps_of (entries x.run.journal x.stamps) ≡ x.stamps
  listed_stamps = stamps_entries x.run.journal x.stamps stamped.count

  pub listed_length : length (entries x.run.journal x.stamps) ≡ length x.run.journal
  listed_length = entries_length x.run.journal x.stamps stamped.count

  -- a seat of the turn that took it
  pub took_view : (v z : TurnView) → z ≡ took v (entries x.run.journal x.stamps) → journal_view z ≡ took (journal_view v) x.run.journal
  took_view v z e = ap journal_view e ∙ ap (λ (l : List Event). took (journal_view v) l) listed_events

  pub took_begins : (v : TurnView) → IsPrefix v.seen (entries x.run.journal x.stamps) → IsPrefix (events_of v.seen) x.run.journal
  took_begins v p = subst (λ (l : List Event). IsPrefix (events_of v.seen) l) listed_events (prefix_events v.seen (entries x.run.journal x.stamps) p)

  pub took_begun : (v : TurnView) → IsPrefix v.seen (entries x.run.journal x.stamps) → IsPrefix (stamps_of v.seen) x.stamps
  took_begun v p = subst (λ (l : List ℕ). IsPrefix (stamps_of v.seen) l) listed_stamps (prefix_stamps v.seen (entries x.run.journal x.stamps) p)

  pub took_alone : (v : TurnView) → (IsAlone v → entries x.run.journal x.stamps ≡ v.seen) → IsAlone v → x.run.journal ≡ events_of v.seen
  took_alone v f alone = sym listed_events ∙ ap events_of (f alone)

-- ---- what a seat of the turn may claim

pub made_is_seen_view : (v : TurnView) → MadeIsSeen v → MadeIsSeen (journal_view v)
made_is_seen_view v t = record {
  within = subst (λ (n : ℕ). All (λ number. (v.start < number) × (number ≤ n)) v.made) long t.within;
  all = λ alone number past low. t.all alone number past (omega (arith, events_length v.seen));
}
  where
    long : length v.seen ≡ length (events_of v.seen)
    long = sym (events_length v.seen)

-- ---- a seat into which another was joined has seen what one of the two had

picked : (b : Bool) (xs ys : List Stamped) → (cond b ys xs ≡ xs) ⊎ (cond b ys xs ≡ ys)
picked true xs ys = inr refl
picked false xs ys = inl refl

pub longer_is_one : (xs ys zs : List Stamped) → zs ≡ longer xs ys → (zs ≡ xs) ⊎ (zs ≡ ys)
longer_is_one xs ys zs e = from_either (picked (nat_lt (length xs) (length ys)) xs ys)
  where
    from_either : (longer xs ys ≡ xs) ⊎ (longer xs ys ≡ ys) → (zs ≡ xs) ⊎ (zs ≡ ys)
    from_either (inl h) = inl (e ∙ h)
    from_either (inr h) = inr (e ∙ h)

pub joined_one : (v w x : TurnView) → x ≡ learnt (joined v w) → (x.seen ≡ v.seen) ⊎ (x.seen ≡ w.seen)
joined_one v w x is = longer_is_one v.seen w.seen x.seen (ap (λ (y : TurnView). y.seen) is)

-- so what holds for both lists holds for that of the joined seat
pub of_either : (P : List Stamped → Type 0) (xs ys zs : List Stamped) → (zs ≡ xs) ⊎ (zs ≡ ys) → P xs → P ys → P zs
of_either P xs ys zs (inl h) p q = subst P (sym h) p
of_either P xs ys zs (inr h) p q = subst P (sym h) q

pub events_either : (xs ys zs : List Stamped) → (zs ≡ xs) ⊎ (zs ≡ ys) → (events_of zs ≡ events_of xs) ⊎ (events_of zs ≡ events_of ys)
events_either xs ys zs (inl h) = inl (ap events_of h)
events_either xs ys zs (inr h) = inr (ap events_of h)
