-- Parts take their remaining steps after all that their desks' only seats saw, and the desks are closed one by one.
use Rattle.std.proofs.Common.{◌≡◌, ℕ, zero, suc, ◌+◌, ◌<◌, ◌≤◌, Some, None, List, [], ◌∷◌, ◌++◌, length, map, refl, sym, ap, ◌∙◌, subst, arith, append_assoc, append-nil, length-append, slice_get, slice_index_or, get_or, take, add-one}
use Rattle.std.proofs.Math.Seq.{take-suc}
use Rattle.std.proofs.lemmas.List.Elements.{All-contains}
use Rattle.std.specs.List.{AllByRecursion}
use mathlib.Core.List.{IsPrefix, map-append}
use Rattle.app_threads.specs.Order.{all_stamps}
use Rattle.app_threads.specs.Workers.{AreSeats}
use Rattle.desk_like.specs.Desks.{DeskView, IsAlone, IsAt, IsOther, Waits}
use Rattle.desk_like.specs.Stamps.{IsStampedFrom}
use Rattle.nook_data.specs.declared.steps.Event.{Event}
use Rattle.nook_data.specs.declared.scenario.PartSpec.{PartSpec}
use Rattle.nook_data.specs.Numbered.{at_number}
use Rattle.nook_data.specs.Views.Room.{Kept}
use Rattle.part_defs.specs.Runs.{IsRun, PartRun, next_any, state_of}
use Rattle.part_defs.specs.State.{PartState}
use Rattle.part_laws.proofs.Indices.{some_same}
use Rattle.run_results.specs.declared.report.PartEnd.{PartEnd}
use Rattle.run_results.specs.Reports.{ShowsState}
use Rattle.shares.specs.Shares.{IsWhole}
use Rattle.run_ends.specs.Ends.{end_of, objects_in}
use Rattle.threaded_run.proofs.Counted.{position_there}
use Rattle.part_server.specs.Turns.{opening_view}
use Rattle.threaded_run.specs.Leaving.{AreAlone, AreLeft, AreNew, AreStampedFrom, GoesOn, IsClosed, IsLeft}

-- ---- the only seat of a desk that settles

all_by_position : (P : Event → Type 0) (events : List Event) → ((i : ℕ) (e : Event) → slice_get events i ≡ Some e → P e) → AllByRecursion P events
all_by_position P [] h = tt
all_by_position P (e ∷ events) h = (h 0 e refl, all_by_position P events (λ i x at. h (suc i) x at))

get_after : (seen rest : List Event) (i : ℕ) → slice_get (seen ++ rest) (length seen + i) ≡ slice_get rest i
get_after [] rest i = ap (slice_get rest) (zero_plus i)
  where
    zero_plus : (n : ℕ) → 0 + n ≡ n
    zero_plus n = omega arith
get_after (e ∷ seen) rest i = ap (slice_get (e ∷ seen ++ rest)) (next (length seen) i) ∙ get_after seen rest i
  where
    next : (n i : ℕ) → suc n + i ≡ suc (n + i)
    next n i = omega arith

-- the new events are neither invocations nor arrivals
goes_on : (old new : DeskView) → IsAlone old → Waits old new → GoesOn old.seen new.seen
goes_on old new alone w = record { rest = w.adds.seen.0; begins = w.adds.seen.1; others = all_by_position IsOther w.adds.seen.0 by_position }
  where
    by_position : (i : ℕ) (x : Event) → slice_get w.adds.seen.0 i ≡ Some x → IsOther x
    by_position i x there =
        let number : ℕ = suc (length old.seen + i) in
        let found : at_number number new.seen ≡ Some x = ap (λ (l : List Event). at_number number l) (sym w.adds.seen.1) ∙ get_after old.seen w.adds.seen.0 i ∙ there in
        let high : number ≤ length new.seen = position_there new.seen number x found in
        let other : IsAt new.seen number IsOther = All-contains (λ (q : ℕ). IsAt new.seen q IsOther) w.numbers number w.others (w.adds.own alone number (omega arith) high) in
        subst IsOther (some_same other.event x (sym other.there ∙ found)) other.is

pub closed_following : (spec : PartSpec) (old new : DeskView) (part : PartRun) → IsAlone old → Waits old new → next_any (state_of spec new.seen) ≡ None
    → part.state.spec ≡ spec → (IsAlone new → part.journal ≡ new.seen) → IsClosed spec old.seen part
closed_following spec old new part alone w settled same closed =
    let journal : part.journal ≡ new.seen = closed (subst IsWhole (sym w.adds.share) alone) in
    record {
      same = same;
      goes_on = subst (GoesOn old.seen) (sym journal) (goes_on old new alone w);
      settled = ap (λ (l : List Event). next_any (state_of spec l)) journal ∙ settled;
    }

-- a prefix of a prefix is a prefix
prefix_of_prefix : {X : Type 0} (a b c : List X) → IsPrefix a b → IsPrefix b c → IsPrefix a c
prefix_of_prefix a b c p q = (p.0 ++ q.0, sym (append_assoc a p.0 q.0) ∙ ap (λ xs. xs ++ q.0) p.1 ∙ q.1)

pub stamped_after : (old new : List ℕ) (journal : List Event) → IsPrefix old new → IsStampedFrom new journal → IsStampedFrom old journal
stamped_after old new journal p h = record {
  stamps = h.stamps;
  begins = prefix_of_prefix old new h.stamps p h.begins;
  stamped = h.stamped;
}

-- ---- what a part leaves

shows : (spec : PartSpec) (p : PartState) (end : PartEnd) → end ≡ end_of p → p.spec ≡ spec → ShowsState spec p end
unfolding end_of objects_in
shows spec p end e same = subst (ShowsState spec p) (sym e) record {
  objects = refl;
  medium = refl;
  config = refl;
  failures = refl;
  limit = ap (λ (x : PartSpec). x.limit) same;
}

pub left_of : (spec : PartSpec) (seen : List Event) (part : PartRun) (end : PartEnd) (journal : Kept Event) → IsClosed spec seen part
    → IsRun part.state.spec part.journal → part.state ≡ state_of part.state.spec part.journal → end ≡ end_of part.state
    → journal.list ≡ part.journal → IsLeft spec seen journal end
left_of spec seen part end journal h run state e same = record {
  run = subst (IsRun spec) (sym same) (subst (λ (s : PartSpec). IsRun s part.journal) h.same run);
  goes_on = subst (GoesOn seen) (sym same) h.goes_on;
  settled = ap (λ (l : List Event). next_any (state_of spec l)) same ∙ h.settled;
  shows = subst (λ (l : List Event). ShowsState spec (state_of spec l) end) (sym same)
      (subst (λ (p : PartState). ShowsState spec p end) (state ∙ ap (λ (s : PartSpec). state_of s part.journal) h.same) (shows spec part.state end e h.same));
}

-- ---- lists that are used up

pub none_left : {X : Type 0} (n : ℕ) (xs : List X) → n ≡ length xs → n ≡ 0 → xs ≡ []
none_left n [] e z = refl
none_left n (x ∷ xs) e z = absurd (omega arith)

front_of : {X : Type 0} (xs rest : List X) → take (length xs) (xs ++ rest) ≡ xs
front_of [] rest = refl
front_of (x ∷ xs) rest = ap (λ ys. x ∷ ys) (front_of xs rest)

-- a list that was lent as a whole becomes what it was changed to
pub lent_whole : {X : Type 0} (n : ℕ) (news rest : List X) → n ≡ length news → take n (news ++ rest) ≡ news
lent_whole n news rest e = ap (λ (k : ℕ). take k (news ++ rest)) e ∙ front_of news rest

-- one more desk, for the next part
pub more_specs : {D : Type 0} (spec : D → PartSpec) (i : ℕ) (parts : List PartSpec) (part : PartSpec) (desks all : List D) (desk : D) → i < length parts
    → part ≡ get_or parts i part → map spec desks ≡ take i parts → spec desk ≡ part → all ≡ desks ++ desk ∷ [] → map spec all ≡ take (i + 1) parts
more_specs spec i parts part desks all desk within is before of a =
    ap (map spec) a
    ∙ (map-append spec desks (desk ∷ []) ∙ ap (λ xs. xs ++ spec desk ∷ []) before)
    ∙ ap (λ x. take i parts ++ x ∷ []) (of ∙ is)
    ∙ sym (take-suc parts i part within)
    ∙ ap (λ (n : ℕ). take n parts) (sym (add-one i))

-- one more new seat
pub one_more_new : {S : Type 0} (view : S → DeskView) (seats all : List S) (seat : S) → AreNew (map view seats) → view seat ≡ opening_view
    → all ≡ seats ++ seat ∷ [] → AreNew (map view all)
one_more_new view seats all seat new is a = subst (λ xs. AreNew (map view xs)) (sym a) (rest_after seats new)
  where
    rest_after : (xs : List _) → AreNew (map view xs) → AreNew (map view (xs ++ seat ∷ []))
    rest_after [] h = (is, tt)
    rest_after (x ∷ xs) h = (h.0, rest_after xs h.1)

-- ---- one desk after another

module _ {D S : Type 0} (IsSeat : D → S → Type 0) (spec : D → PartSpec) (view : S → DeskView) where
  -- these desks are still to be closed, through these seats; the parts of the others have left these journals and ends
  pub record Remain (specs : List PartSpec) (seens : List (List Event)) (desks : List D) (seats : List S) (journals : List (Kept Event)) (ends : List PartEnd) : Type 0 where
    pub seated : AreSeats IsSeat desks seats
    pub alone : AreAlone (map view seats)
    pub goes_on : (js : List (Kept Event)) (es : List PartEnd) → AreLeft (map spec desks) (map (λ s. (view s).seen) seats) js es
        → AreLeft specs seens (journals ++ js) (ends ++ es)

  pub all_remain : (own desks : List D) (mine seats : List S) (journals : List (Kept Event)) (ends : List PartEnd) → AreSeats IsSeat own mine → AreAlone (map view mine)
      → desks ≡ own → seats ≡ mine → journals ≡ [] → ends ≡ [] → Remain (map spec own) (map (λ s. (view s).seen) mine) desks seats journals ends
  all_remain own desks mine seats journals ends a l d s j e = rw (d, s) record {
    seated = a;
    alone = l;
    goes_on = λ js es h. rw (j, e) h;
  }

  next_seat : (desk : D) (desks : List D) (seat : S) (seats : List S) → AreSeats IsSeat (desk ∷ desks) (seat ∷ seats) → IsSeat desk seat
  next_seat desk desks seat seats a = a.1 0 desk seat (omega arith) refl refl

  rest_seated : (desk : D) (desks : List D) (seat : S) (seats : List S) → AreSeats IsSeat (desk ∷ desks) (seat ∷ seats) → AreSeats IsSeat desks seats
  rest_seated desk desks seat seats a = (
    (let e : suc (length seats) ≡ suc (length desks) = a.0 in omega arith),
    λ i d s within de se. a.1 (suc i) d s (omega arith) de se,
  )

  pub one_less : (specs : List PartSpec) (seens : List (List Event)) (desk : D) (desks : List D) (seat : S) (seats : List S)
      (journals : List (Kept Event)) (ends : List PartEnd) (journal : Kept Event) (end : PartEnd)
      → Remain specs seens (desk ∷ desks) (seat ∷ seats) journals ends → IsLeft (spec desk) (view seat).seen journal end
      → Remain specs seens desks seats (journals ++ journal ∷ []) (ends ++ end ∷ [])
  one_less specs seens desk desks seat seats journals ends journal end h left = record {
    seated = rest_seated desk desks seat seats h.seated;
    alone = h.alone.1;
    goes_on = λ js es more. rw (append_assoc journals (journal ∷ []) js, append_assoc ends (end ∷ []) es) (h.goes_on (journal ∷ js) (end ∷ es) (left, more));
  }

  -- the first seat belongs to the first desk
  pub seat_of : (specs : List PartSpec) (seens : List (List Event)) (desk : D) (all desks : List D) (seat : S) (both seats : List S)
      (journals : List (Kept Event)) (ends : List PartEnd) → all ≡ desk ∷ desks → both ≡ seat ∷ seats
      → Remain specs seens all both journals ends → IsSeat desk seat
  seat_of specs seens desk all desks seat both seats journals ends d s h =
      next_seat desk desks seat seats (subst (λ x. AreSeats IsSeat x (seat ∷ seats)) d (subst (AreSeats IsSeat all) s h.seated))

  -- and it is the only one there
  pub alone_of : (specs : List PartSpec) (seens : List (List Event)) (desks : List D) (seat : S) (both seats : List S)
      (journals : List (Kept Event)) (ends : List PartEnd) → both ≡ seat ∷ seats → Remain specs seens desks both journals ends → IsAlone (view seat)
  alone_of specs seens desks seat both seats journals ends s h = (subst (λ xs. AreAlone (map view xs)) s h.alone).0

  pub none_remain : (specs : List PartSpec) (seens : List (List Event)) (seats : List S) (journals : List (Kept Event)) (ends : List PartEnd)
      → Remain specs seens [] seats journals ends → AreLeft specs seens journals ends
  none_remain specs seens [] journals ends h = rw (← append-nil journals, ← append-nil ends) (h.goes_on [] [] tt)
  none_remain specs seens (seat ∷ seats) journals ends h = let e : suc (length seats) ≡ 0 = h.seated.0 in absurd (omega arith)

  -- one more desk, and a seat at it
  more_seats_at : (desks : List D) (seats : List S) (desk : D) (seat : S) → AreSeats IsSeat desks seats → IsSeat desk seat
      → (i : ℕ) (d : D) (s : S) → i < length (desks ++ desk ∷ []) → d ≡ slice_index_or (desks ++ desk ∷ []) i d
      → s ≡ slice_index_or (seats ++ seat ∷ []) i s → IsSeat d s
  more_seats_at [] [] desk seat a h zero d s within de se = subst (λ x. IsSeat x s) (sym de) (subst (IsSeat desk) (sym se) h)
  more_seats_at [] [] desk seat a h (suc i) d s within de se = absurd (omega arith)
  more_seats_at [] (s ∷ seats) desk seat a h i d t within de se = let e : suc (length seats) ≡ 0 = a.0 in absurd (omega arith)
  more_seats_at (x ∷ desks) [] desk seat a h i d s within de se = let e : 0 ≡ suc (length desks) = a.0 in absurd (omega arith)
  more_seats_at (x ∷ desks) (y ∷ seats) desk seat a h zero d s within de se = a.1 0 d s (omega arith) de se
  more_seats_at (x ∷ desks) (y ∷ seats) desk seat a h (suc i) d s within de se =
      more_seats_at desks seats desk seat (rest_seated x desks y seats a) h i d s (omega arith) de se

  pub more_seats : (desks all : List D) (seats both : List S) (desk : D) (seat : S) → AreSeats IsSeat desks seats → IsSeat desk seat
      → all ≡ desks ++ desk ∷ [] → both ≡ seats ++ seat ∷ [] → AreSeats IsSeat all both
  more_seats desks all seats both desk seat a h d s = rw (d, s) ((
    (let e : length seats ≡ length desks = a.0 in omega (arith, length-append desks (desk ∷ []), length-append seats (seat ∷ []))),
    more_seats_at desks seats desk seat a h,
  )
      )

  pub leaves_one : (specs : List PartSpec) (seens : List (List Event)) (desk : D) (all desks : List D) (seat : S) (both seats : List S)
      (journals more : List (Kept Event)) (ends further : List PartEnd) (journal : Kept Event) (end : PartEnd)
      → all ≡ desk ∷ desks → both ≡ seat ∷ seats → more ≡ journals ++ journal ∷ [] → further ≡ ends ++ end ∷ []
      → Remain specs seens all both journals ends → IsLeft (spec desk) (view seat).seen journal end
      → Remain specs seens desks seats more further
  leaves_one specs seens desk all desks seat both seats journals more ends further journal end d s m f h left =
      subst (λ js. Remain specs seens desks seats js further) (sym m)
      (subst (λ es. Remain specs seens desks seats (journals ++ journal ∷ []) es) (sym f)
      (one_less specs seens desk desks seat seats journals ends journal end
      (subst (λ x. Remain specs seens x (seat ∷ seats) journals ends) d (subst (λ y. Remain specs seens all y journals ends) s h)) left))

-- ---- the stamps of one desk's part after another

module _ {S : Type 0} (view : S → DeskView) where
  -- the desks of these seats are still to be closed, and the journals of the other parts are stamped
  pub record StampsRemain (stamps : List (List ℕ)) (seats : List S) (journals : List (Kept Event)) : Type 0 where
    pub goes_on : (js : List (Kept Event)) → AreStampedFrom (all_stamps (map view seats)) js → AreStampedFrom stamps (journals ++ js)

  pub all_stamps_remain : (mine seats : List S) (journals : List (Kept Event)) → seats ≡ mine → journals ≡ []
      → StampsRemain (all_stamps (map view mine)) seats journals
  all_stamps_remain mine seats journals s j = rw (s, j) record { goes_on = λ js h. h }

  stamped_one : (stamps : List (List ℕ)) (seat : S) (seats : List S) (journals : List (Kept Event)) (journal : Kept Event)
      → StampsRemain stamps (seat ∷ seats) journals → IsStampedFrom (view seat).stamps journal.list
      → StampsRemain stamps seats (journals ++ journal ∷ [])
  stamped_one stamps seat seats journals journal h stamped = record {
    goes_on = λ js more. rw (append_assoc journals (journal ∷ []) js) (h.goes_on (journal ∷ js) (stamped, more));
  }

  pub stamps_one : (stamps : List (List ℕ)) (seat : S) (both seats : List S) (journals more : List (Kept Event)) (journal : Kept Event)
      → both ≡ seat ∷ seats → more ≡ journals ++ journal ∷ [] → StampsRemain stamps both journals → IsStampedFrom (view seat).stamps journal.list
      → StampsRemain stamps seats more
  stamps_one stamps seat both seats journals more journal s m h stamped =
      subst (StampsRemain stamps seats) (sym m)
      (stamped_one stamps seat seats journals journal (subst (λ xs. StampsRemain stamps xs journals) s h) stamped)

  pub no_stamps_remain : (stamps : List (List ℕ)) (seats : List S) (journals : List (Kept Event)) → length seats ≡ 0
      → StampsRemain stamps seats journals → AreStampedFrom stamps journals
  no_stamps_remain stamps [] journals e h = rw (← append-nil journals) (h.goes_on [] tt)
  no_stamps_remain stamps (seat ∷ seats) journals e h = absurd (omega arith)
