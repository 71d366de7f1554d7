-- How each kind of turn changes what a seat knows.
use Rattle.std.proofs.Common.{◌≡◌, ℕ, ◌+◌, ◌<◌, ◌≤◌, ◌^◌, Bool, true, false, Option, Some, None, Result, Ok, Err, List, [], ◌∷◌, ◌++◌, length, refl, sym, ap, ◌∙◌, subst, arith, length-append, append-nil}
use Rattle.std.specs.Prelude.{is_ok}
use Rattle.std.specs.List.{Contains}
use Rattle.std.proofs.lemmas.List.Elements.{Contains-push}
use mathlib.Core.List.{IsPrefix}
use Rattle.nook_data.specs.declared.desks.DeskRefused.{DeskRefused}
use Rattle.nook_data.specs.declared.desks.DeskRefused.TheVariants as refused
use Rattle.nook_data.specs.declared.steps.Event.{Event}
use Rattle.nook_data.specs.declared.calls.Op.{Op}
use Rattle.nook_data.specs.declared.scenario.PartSpec.{PartSpec}
use Rattle.nook_data.specs.declared.desks.Receipt.{Receipt}
use Rattle.nook_data.specs.declared.memory.NoMemory.{NoMemory}
use Rattle.nook_data.specs.Numbered.{at_number}
use Rattle.part_defs.specs.Runs.{PartRun, IsRun, next_any, state_of}
use Rattle.nook_data.specs.Answers.{answer_at}
use Rattle.part_defs.specs.State.{PartState}
use Rattle.nook_data.specs.Valid.{IsValidPart}
use Rattle.desk_like.specs.Desks.{IsAt, IsInvoke, IsArrive, IsOther, IsReply, Adds, AddsNothing, HasOpen, HasNoneOpen, ArriveEnds}
use Rattle.part_laws.proofs.RunSmall.{run_small}
use Rattle.part_laws.proofs.ValidFits.{valid_fits}
use Rattle.turn_lock.specs.declared.view.View.{View}
use Rattle.turn_lock.specs.Seats.{IsAlone}
use Rattle.turn_lock.specs.Views.{took, committed, gave}
use Rattle.turn_lock.proofs.Prefixes.{prefix_trans, prefix_length, prefix_snoc}
use Rattle.part_server.specs.declared.waiting.Progress.{Progress}
use Rattle.part_server.specs.declared.waiting.Progress.TheVariants as progress
use Rattle.part_server.specs.declared.waiting.Waiting.{Waiting}
use Rattle.part_server.specs.Turns.{Grows, IsGrown, InvokeGives, GoOnGives, FindGives, ArriveGives, SettleGives, seen_view, IsSeen, InvokeEnds, AdvanceEnds, FindEnds, SettlesOnce, took_step}
use Rattle.part_server.proofs.Steps.{last_there}
use Rattle.part_server.proofs.Views.{waits_nothing, waits_one, invokes_once}

abbrev pub Vw : Type 0
Vw = View Event PartSpec

-- ---- the part at a turn

-- a valid part has far fewer than 2^62 events
pub run_short : (spec : PartSpec) (journal : List Event) → IsValidPart spec → IsRun spec journal → length journal < 2 ^ 62
run_short spec journal valid run = let l : length journal < 2 ^ 23 = run_small spec journal (valid_fits spec valid) valid.limit run in omega arith

-- what a seat of the turn has seen is a run of the part that it knows of
pub seen_run : (home : Option PartSpec) (spec s : PartSpec) (journal : List Event) → home ≡ Some spec → s ≡ spec → IsRun s journal → IsSeen home journal
seen_run home spec s journal h e run other is = subst (λ (x : PartSpec). IsRun x journal) (e ∙ inner (sym h ∙ is)) run
  where
    inner : Some spec ≡ Some other → spec ≡ other
    inner x = cc

state_is : (spec : PartSpec) (q : PartRun) → q.state.spec ≡ spec → q.state ≡ state_of q.state.spec q.journal → q.state ≡ state_of spec q.journal
state_is spec q e at = at ∙ ap (λ (s : PartSpec). state_of s q.journal) e

-- the new event has the last number
grown_at : (r q : PartRun) (Is : Event → Type 0) → Grows r q Is → IsAt q.journal (length q.journal) Is
grown_at r q Is g = record {
  event = g.event;
  there = ap (λ (l : List Event). at_number (length l) l) g.journal ∙ last_there r.journal g.event;
  is = g.is;
}

-- ---- a turn that commits an event

module _ (stamps stamps' : List ℕ) (clock clock' : ℕ) (spec : PartSpec) (v : Vw) (r q : PartRun) (pre : IsPrefix v.seen r.journal) (alone : IsAlone v → r.journal ≡ v.seen)
    (home : r.state.spec ≡ spec) (at : q.state ≡ state_of q.state.spec q.journal) where
  abbrev given : Vw
  given = gave (committed (took v r.journal) q.journal)

  grown_adds : (Is : Event → Type 0) → Grows r q Is → Adds (seen_view v stamps clock) (seen_view given stamps' clock') (length q.journal ∷ [])
  grown_adds Is g =
      let long : length q.journal ≡ length r.journal + 1 = ap length g.journal ∙ length-append r.journal (g.event ∷ []) in
      let low : length v.seen ≤ length r.journal = prefix_length v.seen r.journal pre in
      record {
        seen = prefix_trans v.seen r.journal q.journal pre (prefix_snoc r.journal q.journal g.event g.journal);
        made = refl;
        rising = (omega arith, tt);
        share = refl;
        own = λ a number past within.
            let same : length r.journal ≡ length v.seen = ap length (alone a) in
            subst (λ (n : ℕ). Contains (n ∷ []) number) (last (length v.seen) number (length q.journal) past within (omega arith)) (Contains-push [] number);
      }
    where
      last : (n number m : ℕ) → n < number → number ≤ m → m ≡ n + 1 → number ≡ m
      last n number m a b c = omega arith

  home_after : (Is : Event → Type 0) → Grows r q Is → q.state ≡ state_of spec q.journal
  home_after Is g = state_is spec q (g.spec ∙ home) at

  pub invoke_ends_ok : (thread : ℕ) (o : Op) (p : Progress) → InvokeGives r q thread o (Ok p) → InvokeEnds spec (seen_view v stamps clock) (seen_view given stamps' clock') thread o (Ok p)
  invoke_ends_ok thread o (progress.Answered receipt) h =
      let Is : Event → Type 0 = λ e. IsInvoke receipt.call thread o e × IsReply receipt.call receipt.answer e in
      let there : IsAt q.journal (length q.journal) Is = grown_at r q Is h.0 in
      let invoked : IsAt q.journal receipt.at_invoke (IsInvoke receipt.call thread o) =
      subst (λ (n : ℕ). IsAt q.journal n (IsInvoke receipt.call thread o)) (sym h.1) (record { event = there.event; there = there.there; is = there.is.0 }) in (
        invokes_once (seen_view v stamps clock) (seen_view given stamps' clock') receipt.call thread o receipt.at_invoke
            (subst (λ (n : ℕ). Adds (seen_view v stamps clock) (seen_view given stamps' clock') (n ∷ [])) (sym h.1) (grown_adds Is h.0)) invoked,
        record {
          invoked = invoked;
          answered = subst (λ (n : ℕ). IsAt q.journal n (IsReply receipt.call receipt.answer)) (sym h.2) (record { event = there.event; there = there.there; is = there.is.1 });
          ordered = let a = h.1 in let b = h.2 in omega arith;
        },
      )
  invoke_ends_ok thread o (progress.Open w) h =
      let there : IsAt q.journal (length q.journal) (IsInvoke w.call thread o) = grown_at r q (IsInvoke w.call thread o) h.0 in (
        subst (λ (n : ℕ). Adds (seen_view v stamps clock) (seen_view given stamps' clock') (n ∷ [])) (sym h.1) (grown_adds (IsInvoke w.call thread o) h.0),
        subst (λ (n : ℕ). IsAt q.journal n (IsInvoke w.call thread o)) (sym h.1) there,
        h.2,
        (subst (λ (p : PartState). HasOpen p w.thread w.call) (home_after (IsInvoke w.call thread o) h.0) h.3.0, h.3.1, h.3.2),
      )

  pub advance_ends_ok : (w : Waiting) (p : Progress) → GoOnGives r q w (Ok p) → AdvanceEnds spec (seen_view v stamps clock) (seen_view given stamps' clock') w (Ok p)
  advance_ends_ok w (progress.Answered receipt) h =
      let Is : Event → Type 0 = λ e. IsOther e × IsReply w.call receipt.answer e in
      let there : IsAt q.journal (length q.journal) Is = grown_at r q Is h.0 in
      let adds : Adds (seen_view v stamps clock) (seen_view given stamps' clock') (length q.journal ∷ []) = grown_adds Is h.0 in (
        waits_one (seen_view v stamps clock) (seen_view given stamps' clock') (length q.journal) adds (record { event = there.event; there = there.there; is = there.is.0 }),
        h.1,
        h.2,
        subst (λ (n : ℕ). IsAt q.journal n (IsReply w.call receipt.answer)) (sym h.3) (record { event = there.event; there = there.there; is = there.is.1 }),
        subst (λ (n : ℕ). length v.seen < n) (sym h.3) adds.rising.0,
      )
  advance_ends_ok w (progress.Open next) h = (
    waits_one (seen_view v stamps clock) (seen_view given stamps' clock') (length q.journal) (grown_adds IsOther h.0) (grown_at r q IsOther h.0),
    h.1,
    (subst (λ (p : PartState). HasOpen p next.thread next.call) (home_after IsOther h.0) h.2.0, h.2.1, h.2.2),
  )

  pub arrive_ends_ok : (frame : List ℕ) (kept : Bool) → ArriveGives r q frame (Ok kept) → ArriveEnds spec (seen_view v stamps clock) (seen_view given stamps' clock') frame (Ok kept)
  arrive_ends_ok frame kept h = (length q.journal, grown_adds (IsArrive frame kept) h, grown_at r q (IsArrive frame kept) h)

  pub settle_ends_ok : SettleGives r q (Ok true) → SettlesOnce spec (seen_view v stamps clock) (seen_view given stamps' clock') (Ok true)
  settle_ends_ok h = waits_one (seen_view v stamps clock) (seen_view given stamps' clock') (length q.journal) (grown_adds IsOther h) (grown_at r q IsOther h)

-- ---- a turn that gives back the part as it was taken

module _ (stamps stamps' : List ℕ) (clock clock' : ℕ) (spec : PartSpec) (v : Vw) (r : PartRun) (pre : IsPrefix v.seen r.journal) (alone : IsAlone v → r.journal ≡ v.seen)
    (home : r.state.spec ≡ spec) (at : r.state ≡ state_of r.state.spec r.journal) where
  abbrev returned : Vw
  returned = gave (took v r.journal)

  kept_adds : AddsNothing (seen_view v stamps clock) (seen_view returned stamps' clock')
  kept_adds = record {
    seen = pre;
    made = sym (append-nil v.made);
    rising = tt;
    share = refl;
    own = λ a number past within.
        let same : length r.journal ≡ length v.seen = ap length (alone a) in
        absurd (none (length v.seen) number (length r.journal) past within same);
  }
    where
      none : (n number m : ℕ) → n < number → number ≤ m → m ≡ n → ⊥
      none n number m a b c = omega arith

  state_here : r.state ≡ state_of spec r.journal
  state_here = state_is spec r home at

  open_here : (thread call : ℕ) → HasOpen r.state thread call → HasOpen (state_of spec r.journal) thread call
  open_here thread call h = subst (λ (p : PartState). HasOpen p thread call) state_here h

  none_here : (thread : ℕ) → HasNoneOpen r.state thread → HasNoneOpen (state_of spec r.journal) thread
  none_here thread h = subst (λ (p : PartState). HasNoneOpen p thread) state_here h

  pub invoke_ends_err : (q : PartRun) (thread : ℕ) (o : Op) (e : DeskRefused) → InvokeGives r q thread o (Err e)
      → InvokeEnds spec (seen_view v stamps clock) (seen_view returned stamps' clock') thread o (Err e)
  invoke_ends_err q thread o (refused.NoMemory None) h = kept_adds
  invoke_ends_err q thread o (refused.NoMemory (Some call)) h = absurd h
  invoke_ends_err q thread o refused.TooManyCalls h =
      (kept_adds, none_here thread h.1, ap (λ (p : PartState). p.log.count) (sym state_here) ∙ h.2)
  invoke_ends_err q thread o (refused.OpenCall call) h = (kept_adds, open_here thread call h.1)
  invoke_ends_err q thread o refused.NoOpenCall h = absurd h
  invoke_ends_err q thread o refused.TooManyArrivals h = absurd h

  pub advance_ends_err : (q : PartRun) (w : Waiting) (e : DeskRefused) → HasOpen r.state w.thread w.call → GoOnGives r q w (Err e)
      → AdvanceEnds spec (seen_view v stamps clock) (seen_view returned stamps' clock') w (Err e)
  advance_ends_err q w (refused.NoMemory None) waits h = absurd h
  advance_ends_err q w (refused.NoMemory (Some call)) waits h =
      (waits_nothing (seen_view v stamps clock) (seen_view returned stamps' clock') kept_adds, open_here w.thread w.call waits, h.1)
  advance_ends_err q w refused.TooManyCalls waits h = absurd h
  advance_ends_err q w (refused.OpenCall call) waits h = absurd h
  advance_ends_err q w refused.NoOpenCall waits h = absurd h
  advance_ends_err q w refused.TooManyArrivals waits h = absurd h

  pub found_ends : (w : Waiting) (receipt : Receipt) (number : ℕ) (e : Event) → at_number number r.journal ≡ Some e → length v.seen < number
      → receipt.call ≡ w.call → receipt.at_invoke ≡ w.at_invoke → receipt.at_reply ≡ number → answer_at w.call e ≡ Some receipt.answer
      → AdvanceEnds spec (seen_view v stamps clock) (seen_view returned stamps' clock') w (Ok (progress.Answered receipt))
  found_ends w receipt number e there past call invoke reply answer' = (
    waits_nothing (seen_view v stamps clock) (seen_view returned stamps' clock') kept_adds,
    call,
    invoke,
    subst (λ (n : ℕ). IsAt r.journal n (IsReply w.call receipt.answer)) (sym reply) (record { event = e; there = there; is = answer' }),
    subst (λ (n : ℕ). length v.seen < n) (sym reply) past,
  )

  pub find_ends : (thread : ℕ) (x : Result Waiting DeskRefused) → FindGives r thread x → FindEnds spec (seen_view v stamps clock) (seen_view returned stamps' clock') thread x
  find_ends thread (Ok w) h = (kept_adds, h.0, (open_here w.thread w.call h.1.0, h.1.1, h.1.2), h.2)
  find_ends thread (Err (refused.NoMemory call)) h = absurd h
  find_ends thread (Err refused.TooManyCalls) h = absurd h
  find_ends thread (Err (refused.OpenCall call)) h = absurd h
  find_ends thread (Err refused.NoOpenCall) h = (kept_adds, none_here thread h)
  find_ends thread (Err refused.TooManyArrivals) h = absurd h

  pub arrive_ends_err : (q : PartRun) (frame : List ℕ) (e : DeskRefused) → ArriveGives r q frame (Err e)
      → ArriveEnds spec (seen_view v stamps clock) (seen_view returned stamps' clock') frame (Err e)
  arrive_ends_err q frame (refused.NoMemory None) h = kept_adds
  arrive_ends_err q frame (refused.NoMemory (Some call)) h = absurd h
  arrive_ends_err q frame refused.TooManyCalls h = absurd h
  arrive_ends_err q frame (refused.OpenCall call) h = absurd h
  arrive_ends_err q frame refused.NoOpenCall h = absurd h
  arrive_ends_err q frame refused.TooManyArrivals h = (kept_adds, ap (λ (p : PartState). p.arrived) (sym state_here) ∙ h.1)

  pub settle_ends_none : (q : PartRun) → SettleGives r q (Ok false) → SettlesOnce spec (seen_view v stamps clock) (seen_view returned stamps' clock') (Ok false)
  settle_ends_none q h = (kept_adds, ap next_any (sym state_here) ∙ h.1)

  pub settle_ends_err : (e : NoMemory) → SettlesOnce spec (seen_view v stamps clock) (seen_view returned stamps' clock') (Err e)
  settle_ends_err e = kept_adds

-- ---- the part after a refusal

pub invoke_same : (r q : PartRun) (thread : ℕ) (o : Op) (e : DeskRefused) → InvokeGives r q thread o (Err e) → q ≡ r
invoke_same r q thread o (refused.NoMemory None) h = h
invoke_same r q thread o (refused.NoMemory (Some call)) h = absurd h
invoke_same r q thread o refused.TooManyCalls h = h.0
invoke_same r q thread o (refused.OpenCall call) h = h.0
invoke_same r q thread o refused.NoOpenCall h = absurd h
invoke_same r q thread o refused.TooManyArrivals h = absurd h

pub go_on_same : (r q : PartRun) (w : Waiting) (e : DeskRefused) → GoOnGives r q w (Err e) → q ≡ r
go_on_same r q w (refused.NoMemory None) h = absurd h
go_on_same r q w (refused.NoMemory (Some call)) h = h.0
go_on_same r q w refused.TooManyCalls h = absurd h
go_on_same r q w (refused.OpenCall call) h = absurd h
go_on_same r q w refused.NoOpenCall h = absurd h
go_on_same r q w refused.TooManyArrivals h = absurd h

pub arrive_same : (r q : PartRun) (frame : List ℕ) (e : DeskRefused) → ArriveGives r q frame (Err e) → q ≡ r
arrive_same r q frame (refused.NoMemory None) h = h
arrive_same r q frame (refused.NoMemory (Some call)) h = absurd h
arrive_same r q frame refused.TooManyCalls h = absurd h
arrive_same r q frame (refused.OpenCall call) h = absurd h
arrive_same r q frame refused.NoOpenCall h = absurd h
arrive_same r q frame refused.TooManyArrivals h = h.0

-- one new event, and the part's spec
record OneMore (r q : PartRun) : Type 0 where
  pub event : Event
  pub journal : q.journal ≡ r.journal ++ event ∷ []
  pub spec : q.state.spec ≡ r.state.spec

one_more : (r q : PartRun) (Is : Event → Type 0) → Grows r q Is → OneMore r q
one_more r q Is g = record { event = g.event; journal = g.journal; spec = g.spec }

invoke_more : (r q : PartRun) (thread : ℕ) (o : Op) (p : Progress) → InvokeGives r q thread o (Ok p) → OneMore r q
invoke_more r q thread o (progress.Answered receipt) h = one_more r q (λ e. IsInvoke receipt.call thread o e × IsReply receipt.call receipt.answer e) h.0
invoke_more r q thread o (progress.Open w) h = one_more r q (IsInvoke w.call thread o) h.0

go_on_more : (r q : PartRun) (w : Waiting) (p : Progress) → GoOnGives r q w (Ok p) → OneMore r q
go_on_more r q w (progress.Answered receipt) h = one_more r q (λ e. IsOther e × IsReply w.call receipt.answer e) h.0
go_on_more r q w (progress.Open next) h = one_more r q IsOther h.0

-- how a step changes the part: it adds one event, or nothing
abbrev pub GrowsBy : Bool → PartRun → PartRun → Type 0
GrowsBy b r q = IsGrown b r.journal q.journal × (q.state.spec ≡ r.state.spec)

grows_more : (r q : PartRun) → OneMore r q → GrowsBy true r q
grows_more r q m = ((m.event, m.journal), m.spec)

grows_same : (r q : PartRun) → q ≡ r → GrowsBy false r q
grows_same r q e = (ap (λ (x : PartRun). x.journal) e, ap (λ (x : PartRun). x.state.spec) e)

pub invoke_grows : (r q : PartRun) (thread : ℕ) (o : Op) (x : Result Progress DeskRefused) → InvokeGives r q thread o x → GrowsBy (is_ok x) r q
invoke_grows r q thread o (Ok p) h = grows_more r q (invoke_more r q thread o p h)
invoke_grows r q thread o (Err e) h = grows_same r q (invoke_same r q thread o e h)

pub go_on_grows : (r q : PartRun) (w : Waiting) (x : Result Progress DeskRefused) → GoOnGives r q w x → GrowsBy (is_ok x) r q
go_on_grows r q w (Ok p) h = grows_more r q (go_on_more r q w p h)
go_on_grows r q w (Err e) h = grows_same r q (go_on_same r q w e h)

pub arrive_grows : (r q : PartRun) (frame : List ℕ) (x : Result Bool DeskRefused) → ArriveGives r q frame x → GrowsBy (is_ok x) r q
arrive_grows r q frame (Ok kept) h = grows_more r q (one_more r q (IsArrive frame kept) h)
arrive_grows r q frame (Err e) h = grows_same r q (arrive_same r q frame e h)

pub settle_grows : (r q : PartRun) (x : Result Bool NoMemory) → SettleGives r q x → GrowsBy (took_step x) r q
settle_grows r q (Ok true) h = grows_more r q (one_more r q IsOther h)
settle_grows r q (Ok false) h = grows_same r q h.0
settle_grows r q (Err e) h = grows_same r q h
