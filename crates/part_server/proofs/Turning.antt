-- One turn of a desk's seat, from taking the part to the end.
use Rattle.std.proofs.Common.{◌≡◌, ℕ, ◌<◌, ◌≤◌, ◌^◌, Bool, true, false, List, [], ◌∷◌, ◌++◌, length, refl, sym, ap, ◌∙◌, subst, arith, append-nil}
use Rattle.std.proofs.lemmas.List.Elements.{All-nil, All-cons}
use mathlib.Core.List.{IsPrefix}
use Rattle.nook_data.specs.declared.scenario.PartSpec.{PartSpec}
use Rattle.nook_data.specs.declared.steps.Event.{Event}
use Rattle.clocks.specs.Clocks.{last_of}
use Rattle.desk_like.specs.Desks.{Accounts}
use Rattle.desk_like.specs.Stamps.{Clocked, IsStamped, Ticks, stamp_of}
use Rattle.part_core.specs.Kept.{IsKept}
use Rattle.turn_lock.specs.Seats.{IsAlone, MadeIsSeen}
use Rattle.turn_lock.specs.Views.{took, committed, gave}
use Rattle.turn_lock.proofs.Prefixes.{prefix_length, prefix_trans}
use Rattle.part_server.specs.declared.stamped.Stamped.{Stamped}
use Rattle.part_server.specs.declared.waiting.Waiting.{Waiting}
use Rattle.part_server.specs.Entries.{DatedRun, TurnView, entries, events_of, stamps_of, journal_view}
use Rattle.part_server.specs.Turns.{Dates, IsGrown, IsWaitingIn, SeatValue, TurnValue, ended, timed_view}
use Rattle.part_server.proofs.Alone.{ended_accounts}
use Rattle.part_server.proofs.Ends.{Vw, run_short}
use Rattle.part_server.proofs.Entries.{entries_within, events_length, listed_events, listed_stamps, listed_length, took_view, took_begins, took_begun, took_alone}
use Rattle.part_server.proofs.Seats.{IsTaken}

-- ---- the end of a turn

module _ (v w : TurnView) (x : DatedRun) (stamped : IsStamped x.run.journal x.stamps) where
  abbrev listed : List Stamped
  listed = entries x.run.journal x.stamps

  seen_events : w.seen ≡ listed → events_of w.seen ≡ x.run.journal
  seen_events e = ap events_of e ∙ listed_events x stamped

  seen_stamps : w.seen ≡ listed → stamps_of w.seen ≡ x.stamps
  seen_stamps e = ap stamps_of e ∙ listed_stamps x stamped

  -- a journal of a part is short
  pub listed_short : IsKept x.run → length listed < 2 ^ 62
  listed_short k =
      let short : length x.run.journal < 2 ^ 62 = run_short x.run.state.spec x.run.journal k.valid k.run in
      let long : length listed ≡ length x.run.journal = listed_length x stamped in
      omega arith

  -- one more entry is committed
  module _ (b : Bool) (yes : b ≡ true) (grown : IsGrown b v.taken listed) where
    pub added_entry : (entry : Stamped) × (listed ≡ v.taken ++ entry ∷ [])
    added_entry = subst (λ (c : Bool). IsGrown c v.taken listed) yes grown

    module _ (given : w ≡ gave (committed v listed)) where
      abbrev shown : List Event → ℕ → Vw
      shown journal number = record {
        origin = v.origin;
        seen = journal;
        pending = events_of v.pending;
        made = v.made ++ number ∷ [];
        start = v.start;
        share = v.share;
        has = false;
        taken = [];
      }

      pub added_view : journal_view w ≡ ended b (journal_view v) x.run.journal
      added_view =
          ap journal_view given
          ∙ (ap (λ (l : List Event). shown l (length listed)) (listed_events x stamped)
          ∙ (ap (λ (k : ℕ). shown x.run.journal k) (listed_length x stamped)
          ∙ ap (λ (c : Bool). ended c (journal_view v) x.run.journal) (sym yes)))

      pub added_seen : events_of w.seen ≡ x.run.journal
      added_seen = seen_events (ap (λ (y : TurnView). y.seen) given)

      pub added_stamps : stamps_of w.seen ≡ x.stamps
      added_stamps = seen_stamps (ap (λ (y : TurnView). y.seen) given)

  -- what was taken is given back
  module _ (b : Bool) (no : b ≡ false) (grown : IsGrown b v.taken listed) where
    pub same_entries : listed ≡ v.taken
    same_entries = subst (λ (c : Bool). IsGrown c v.taken listed) no grown

    module _ (given : w ≡ gave v) where
      pub same_view : journal_view w ≡ ended b (journal_view v) x.run.journal
      same_view = ap journal_view given ∙ ap (λ (c : Bool). ended c (journal_view v) x.run.journal) (sym no)

      pub same_seen : events_of w.seen ≡ x.run.journal
      same_seen = seen_events (ap (λ (y : TurnView). y.seen) given ∙ sym same_entries)

      pub same_stamps : stamps_of w.seen ≡ x.stamps
      same_stamps = seen_stamps (ap (λ (y : TurnView). y.seen) given ∙ sym same_entries)

-- what the end of a turn requires
pub turn_grown : (v z : TurnView) {x y : DatedRun} {b is_added : Bool} {m n : ℕ} → z ≡ took v (entries x.run.journal x.stamps) → is_added ≡ b → Dates b x y m n
    → IsGrown is_added z.taken (entries y.run.journal y.stamps)
turn_grown v z {x} {y} {b} {is_added} {m} {n} taken same d =
    subst (λ (l : List Stamped). IsGrown is_added l (entries y.run.journal y.stamps)) (ap (λ (u : TurnView). u.taken) (sym taken))
    (subst (λ (c : Bool). IsGrown c (entries x.run.journal x.stamps) (entries y.run.journal y.stamps)) (sym same) d.grown)

-- ---- a turn

-- The seat knew v at clock m. It took x, which the turn changed to y. After the turn its clock is n and it knows w.
pub record Turn (v w : TurnView) (x y : DatedRun) (b : Bool) (m n : ℕ) : Type 0 where
  pub begins : IsPrefix v.seen (entries x.run.journal x.stamps)
  pub alone : IsAlone v → entries x.run.journal x.stamps ≡ v.seen
  pub dates : Dates b x y m n
  pub view : journal_view w ≡ ended b (took (journal_view v) x.run.journal) y.run.journal
  pub seen : events_of w.seen ≡ y.run.journal
  pub stamps : stamps_of w.seen ≡ y.stamps
  pub made : MadeIsSeen (journal_view w)

pub turn : (v z w : TurnView) (x y : DatedRun) (b is_added : Bool) (m n : ℕ) → z ≡ took v (entries x.run.journal x.stamps) → IsPrefix v.seen (entries x.run.journal x.stamps)
    → (IsAlone v → entries x.run.journal x.stamps ≡ v.seen) → is_added ≡ b → Dates b x y m n → journal_view w ≡ ended is_added (journal_view z) y.run.journal
    → events_of w.seen ≡ y.run.journal → stamps_of w.seen ≡ y.stamps → MadeIsSeen (journal_view w) → Turn v w x y b m n
turn v z w x y b is_added m n taken begins alone same dates view seen stamps made = record {
  begins = begins;
  alone = alone;
  dates = dates;
  view = view
      ∙ (ap (λ (c : Bool). ended c (journal_view z) y.run.journal) same
      ∙ ap (λ (u : Vw). ended b u y.run.journal) (took_view x dates.was v z taken));
  seen = seen;
  stamps = stamps;
  made = made;
}

module _ {v w : TurnView} {x y : DatedRun} {b : Bool} {m n : ℕ} (t : Turn v w x y b m n) where
  -- what the seat may claim after the end
  pub turn_start : v.start ≡ 0 → w.start ≡ 0
  turn_start none =
      (ended_accounts (journal_view v) (took (journal_view v) x.run.journal) (journal_view w) (stamps_of w.seen) n b x.run.journal y.run.journal none refl t.view t.made).0

  pub turn_accounts : v.start ≡ 0 → Accounts (timed_view w n)
  turn_accounts none =
      (ended_accounts (journal_view v) (took (journal_view v) x.run.journal) (journal_view w) (stamps_of w.seen) n b x.run.journal y.run.journal none refl t.view t.made).1

  pub turn_clocked : Clocked (timed_view w n)
  turn_clocked = record {
    stamped = subst (λ (l : List Event). IsStamped l (stamps_of w.seen)) (sym t.seen)
        (subst (λ (l : List ℕ). IsStamped y.run.journal l) (sym t.stamps) t.dates.ends.stamped);
    last = subst (λ (l : List ℕ). last_of l ≤ n) (sym t.stamps) t.dates.ends.last;
  }

  begun : IsPrefix (stamps_of v.seen) (stamps_of w.seen)
  begun =
      subst (λ (l : List ℕ). IsPrefix (stamps_of v.seen) l) (sym t.stamps)
      (prefix_trans (stamps_of v.seen) x.stamps y.stamps (took_begun x t.dates.was v t.begins) t.dates.ends.begins)

  ticks_by : (c : Bool) → b ≡ c → journal_view w ≡ ended c (took (journal_view v) x.run.journal) y.run.journal → Ticks (timed_view v m) (timed_view w n)
  ticks_by true is view = record {
    stamps = begun;
    clock = t.dates.ends.risen;
    numbers = length y.run.journal ∷ [];
    made = ap (λ (u : Vw). u.made) view;
    later = All-cons (λ number. m < stamp_of (stamps_of w.seen) number) (length y.run.journal) []
        (subst (λ (l : List ℕ). m < stamp_of l (length y.run.journal)) (sym t.stamps) (t.dates.ends.added is))
        (All-nil (λ number. m < stamp_of (stamps_of w.seen) number));
  }
  ticks_by false is view = record {
    stamps = begun;
    clock = t.dates.ends.risen;
    numbers = [];
    made = ap (λ (u : Vw). u.made) view ∙ sym (append-nil v.made);
    later = All-nil (λ number. m < stamp_of (stamps_of w.seen) number);
  }

  ticks_now : Ticks (timed_view v m) (timed_view w n)
  ticks_now = ticks_by b refl t.view

-- x was taken through the seat s, as callers saw it
pub taken_through : (old : SeatValue) (s : TurnValue) (x : DatedRun) (m : ℕ) → record { seat = s; clock = m } ≡ old → IsStamped x.run.journal x.stamps
    → IsPrefix s.me.0.seen (entries x.run.journal x.stamps) → (IsAlone s.me.0 → entries x.run.journal x.stamps ≡ s.me.0.seen) → (spec : PartSpec) → x.run.state.spec ≡ spec
    → IsTaken spec (journal_view old.seat.me.0) (journal_view s.me.0) x.run
taken_through old s x m is stamped begins alone spec home = record {
  same = ap (λ (o : SeatValue). journal_view o.seat.me.0) is;
  begins = took_begins x stamped s.me.0 begins;
  alone = took_alone x stamped s.me.0 alone;
  home = home;
}

-- what was looked at before is part of what was taken
pub looked_within : {old : SeatValue} {s : TurnValue} {m : ℕ} (x : DatedRun) (spec : PartSpec) (waiting : Waiting) → record { seat = s; clock = m } ≡ old
    → IsPrefix s.me.0.seen (entries x.run.journal x.stamps) → IsWaitingIn spec (timed_view old.seat.me.0 old.clock) waiting → waiting.looked ≤ length x.run.journal
looked_within {old} {s} {m} x spec waiting is begins waits =
    let looked : waiting.looked ≡ length s.me.0.seen = waits.1 ∙ (events_length old.seat.me.0.seen ∙ ap (λ (o : SeatValue). length o.seat.me.0.seen) (sym is)) in
    let seen : length s.me.0.seen ≤ length (entries x.run.journal x.stamps) = prefix_length s.me.0.seen (entries x.run.journal x.stamps) begins in
    let all : length (entries x.run.journal x.stamps) ≤ length x.run.journal = entries_within x.run.journal x.stamps in
    omega arith

-- after the end of the turn of the seat s, as callers saw it before and see it now
module _ {old : SeatValue} {s : TurnValue} {w : TurnView} {x y : DatedRun} {b : Bool} {m n : ℕ} (is : record { seat = s; clock = m } ≡ old) (t : Turn s.me.0 w x y b m n) where
  pub turn_ticks : Ticks (timed_view old.seat.me.0 old.clock) (timed_view w n)
  turn_ticks = subst (λ (o : SeatValue). Ticks (timed_view o.seat.me.0 o.clock) (timed_view w n)) is (ticks_now t)

  pub turn_taken : (spec : PartSpec) → x.run.state.spec ≡ spec → IsTaken spec (journal_view old.seat.me.0) (journal_view s.me.0) x.run
  turn_taken spec home = taken_through old s x m is t.dates.was t.begins t.alone spec home
