-- How all workers end, from how each of them ended.
use Rattle.std.proofs.Common.{◌≡◌, ◌⊎◌, ℕ, zero, suc, ◌+◌, ◌<◌, ◌≤◌, None, Some, List, [], ◌∷◌, ◌++◌, map, take, length, get_or, slice_get, subst, sym, refl, ap, ◌∙◌, inl, inr, arith, append_assoc, append-nil, length-append, length-take-le}
use Rattle.std.specs.Prelude.{All, slice_index_or, Result, Ok, Err}
use Rattle.std.proofs.lemmas.List.{length-map}
use Rattle.std.proofs.lemmas.Option.{get_or_from_slice_get, none-some, slice_get-get_or, slice_get_within}
use mathlib.Core.List.{IsPrefix}
use Rattle.nook_data.specs.declared.desks.DeskRefused.{DeskRefused}
use Rattle.nook_data.specs.declared.scenario.PartSpec.{PartSpec}
use Rattle.nook_data.specs.declared.desks.Receipt.{Receipt}
use Rattle.nook_data.specs.declared.scenario.ThreadSpec.{ThreadSpec}
use Rattle.part_defs.specs.State.{PartState}
use Rattle.desk_like.specs.Desks.{DeskView, IsAt, IsRisingFrom}
use Rattle.std.specs.List.{AllByRecursion}
use Rattle.std.proofs.lemmas.List.Elements.{All-append, All-nil, All-weaker}
use Rattle.nook_data.specs.declared.steps.Event.{Event}
use Rattle.nook_data.specs.declared.steps.Event.TheVariants as event
use Rattle.nook_data.specs.Answers.{answer_at}
use Rattle.part_laws.proofs.CallNumbers.{InvokesBy}
use Rattle.app_threads.proofs.OpenCalls.{at_position, open_law}
use Rattle.app_threads.specs.declared.stop.WorkerStop.{WorkerStop}
use Rattle.app_threads.specs.declared.stop.WorkerStop.TheVariants as stop
use Rattle.app_threads.specs.declared.work.Work.{Work}
use Rattle.app_threads.specs.declared.work.Work.TheVariants as work
use Rattle.app_threads.specs.declared.work.Worker.{Worker}
use Rattle.app_threads.specs.declared.work.Done.{Done}
use Rattle.app_threads.specs.Ends.{AreFinished, AtMost, HasArrived, HasRow, IsPartRefused, IsRefused, IsThreadRefused, WorkersEnd}
use Rattle.app_threads.specs.Hired.{Each, IsDone, IsHired, IsReady, RowsEnd}
use Rattle.app_threads.specs.Order.{AllFollow, Follows, KeepClocked, KeepsClocked, all_stamps}
use Rattle.app_threads.specs.Steps.{KeepsStamps, Same, Spread, TakeAllIn, TakesIn, TakesInOne}
use Rattle.app_threads.specs.Workers.{AreReceipts, AreRising, AreRuns, AreSeats, ArriveCause, AtDesks, CallCause, Does, Gains, GainsAtMost, GrewBy, HasReplyIn, IsBy, IsNoInvoke, IsNotOwn, IsOpenFor, IsRefusedAt, KeepAccounts, KeepShares, KeepsAccounts, KnowsOpen, MadeBy, StayAlone, count_on, invokes_at, invokes_of, invokes_of_all}
use Rattle.app_threads.specs.Works.{IsWork, WorkEnds, all_works, arrival_works, frames_for, ops_for, ops_of, script_works, thread_of}
use Rattle.app_threads.proofs.Counted.{Counts, at_most_weaker, counts_more, counts_none, counts_same, gains_at_most, invokes_few, joins_counts, only_of}
use Rattle.app_threads.proofs.Grown.{at_grows, frames_grow, gains_more, gains_none, joins_gains, rising_filter}
use Rattle.app_threads.proofs.Listed.{get_map, get_append, if_same, map_get, prefix_refl, prefix_trans, same_at, same_or_other, some_at, take_get}
use Rattle.app_threads.proofs.Points.{all_back_alone, spread_done}
use Rattle.app_threads.proofs.Scripts.{SeesMore, all_by_grow, at_desks_both, at_desks_more, at_desks_refl, at_desks_weaker, is_at_weaker, receipts_grow}
use Rattle.app_threads.proofs.Splitting.{accounts_twice, clocked_twice}
use Rattle.app_threads.proofs.Stamped.{follows_grow, rows_follow}
use Rattle.app_threads.proofs.Starting.{gains_same, start_same, start_view, work_same}
use Rattle.app_threads.proofs.WorkIndices.{calls_are, calls_by, calls_by_are, calls_in, arrivals_are, arrivals_before, arrivals_after, arrivals_there, after_scripts, frames_are, invokes_are, script_is, script_there, works_frames, works_invokes, works_long}

-- ---- seats into which others were joined

takes_each : (R : ℕ → DeskView → DeskView → Type 0) (specs : List PartSpec) (olds others news : List DeskView)
    → ((d : ℕ) (spec : PartSpec) (v o w : DeskView) → slice_get specs d ≡ Some spec → slice_get others d ≡ Some o → TakesInOne spec v o w → R d v w) → TakesIn specs olds others news → AtDesks R olds news
takes_each R specs olds others news f t = (
  t.2,
  λ d v w i j.
      let l = slice_get_within olds d v i in
      let s = some_at specs d (let n = t.1 in omega arith) in
      let o = some_at others d (let n = t.0 in omega arith) in
      f d s.0 v o.0 w s.1 o.1 (t.3 d s.0 v o.0 w s.1 i o.1 j),
)

-- seats into which others were joined have their accounts
pub accounts_joined : (specs : List PartSpec) (olds mids others news : List DeskView) → KeepAccounts olds mids → TakesIn specs mids others news → KeepAccounts olds news
accounts_joined specs olds mids others news h t =
    accounts_twice olds mids news h (takes_each (λ d v w. KeepsAccounts v w) specs mids others news (λ d spec v o w a b k. record { still = λ a. k.2 }) t)

-- seats into which others were joined have their events stamped
pub clocked_joined : (specs : List PartSpec) (olds mids others news : List DeskView) → KeepClocked olds mids → TakesIn specs mids others news → KeepClocked olds news
clocked_joined specs olds mids others news h t =
    clocked_twice olds mids news h (takes_each (λ d v w. KeepsClocked v w) specs mids others news (λ d spec v o w a b k. record { still = λ a. k.3 }) t)

-- what a seat keeps, and what it gets from a seat that is joined into it
module _ (R : ℕ → DeskView → DeskView → Type 0) (stays : (d : ℕ) (v : DeskView) → R d v v) (goes : (d : ℕ) (u v w : DeskView) → R d u v → R d v w → R d u w)
    (own : (d : ℕ) (spec : PartSpec) (v o w : DeskView) → TakesInOne spec v o w → R d v w) (other : (d : ℕ) (spec : PartSpec) (v o w : DeskView) → TakesInOne spec v o w → R d o w) where
  own_each : (specs : List PartSpec) (olds others news : List DeskView) → TakesIn specs olds others news → AtDesks R olds news
  own_each specs olds others news t = takes_each R specs olds others news (λ d spec v o w a b k. own d spec v o w k) t

  other_each : (specs : List PartSpec) (olds others news : List DeskView) → TakesIn specs olds others news → AtDesks R others news
  other_each specs olds others news t = (
    let n = t.0 in let m = t.2 in omega arith,
    λ d o w i j.
        let l = slice_get_within others d o i in
        let s = some_at specs d (let n = t.0 in let m = t.1 in omega arith) in
        let v = some_at olds d (let n = t.0 in omega arith) in
        other d s.0 v.0 o w (t.3 d s.0 v.0 o w s.1 v.1 i j),
  )

  own_all : (specs : List PartSpec) (olds : List DeskView) (workers : List (List DeskView)) (news : List DeskView) → TakeAllIn specs olds workers news → AtDesks R olds news
  own_all specs olds [] news t = subst (λ (l : List DeskView). AtDesks R olds l) (sym t) (at_desks_refl R olds stays)
  own_all specs olds (others ∷ workers) news t = at_desks_more R R R olds t.0 news goes (own_each specs olds others t.0 t.1) (own_all specs t.0 workers news t.2)

  other_all : (specs : List PartSpec) (olds : List DeskView) (workers : List (List DeskView)) (news : List DeskView) (i : ℕ) (others : List DeskView) → TakeAllIn specs olds workers news → slice_get workers i ≡ Some others → AtDesks R others news
  other_all specs olds [] news i others t h = absurd cc
  other_all specs olds (first ∷ workers) news zero others t h =
      let is : first ≡ others = same_at (first ∷ workers) 0 first others refl h in
      subst (λ (l : List DeskView). AtDesks R l news) is (at_desks_more R R R first t.0 news goes (other_each specs olds first t.0 t.1) (own_all specs t.0 workers news t.2))
  other_all specs olds (first ∷ workers) news (suc i) others t h = other_all specs t.0 workers news i others t.2 h

all_see : (specs : List PartSpec) (olds : List DeskView) (workers : List (List DeskView)) (news : List DeskView) → TakeAllIn specs olds workers news → AtDesks SeesMore olds news
all_see specs olds workers news t =
    own_all SeesMore (λ d v. prefix_refl v.seen) (λ d u v w p q. prefix_trans u.seen v.seen w.seen p q) (λ d spec v o w k. k.0.seen) (λ d spec v o w k. k.0.other_seen) specs olds workers news t

pub worker_sees : (specs : List PartSpec) (olds : List DeskView) (workers : List (List DeskView)) (news : List DeskView) (i : ℕ) (others : List DeskView) → TakeAllIn specs olds workers news → slice_get workers i ≡ Some others → AtDesks SeesMore others news
worker_sees specs olds workers news i others t h =
    other_all SeesMore (λ d v. prefix_refl v.seen) (λ d u v w p q. prefix_trans u.seen v.seen w.seen p q) (λ d spec v o w k. k.0.seen) (λ d spec v o w k. k.0.other_seen) specs olds workers news i others t h

worker_stamps : (specs : List PartSpec) (olds : List DeskView) (workers : List (List DeskView)) (news : List DeskView) (i : ℕ) (others : List DeskView) → TakeAllIn specs olds workers news → slice_get workers i ≡ Some others → AtDesks KeepsStamps others news
worker_stamps specs olds workers news i others t h =
    other_all KeepsStamps (λ d v. prefix_refl v.stamps) (λ d u v w p q. prefix_trans u.stamps v.stamps w.stamps p q) (λ d spec v o w k. k.4.stamps) (λ d spec v o w k. k.4.other_stamps) specs olds workers news i others t h

pub all_runs : (specs : List PartSpec) (olds : List DeskView) (workers : List (List DeskView)) (news : List DeskView) → TakeAllIn specs olds workers news → 0 < length workers → AreRuns specs news
all_runs specs olds [] news t l = absurd (omega arith)
all_runs specs olds (others ∷ []) news t l =
    subst (AreRuns specs) (sym t.2) (λ d spec w i j.
    let k = slice_get_within t.0 d w j in
    let v = some_at olds d (let n = t.1.2 in omega arith) in
    let o = some_at others d (let n = t.1.0 in let m = t.1.2 in omega arith) in
    (t.1.3 d spec v.0 o.0 w i v.1 o.1 j).1)
all_runs specs olds (others ∷ (next ∷ workers)) news t l = all_runs specs t.0 (next ∷ workers) news t.2 (omega arith)

-- ---- all that workers did

module _ (specs : List PartSpec) (scripts : List ThreadSpec) (arrivals : List (List (List ℕ))) (starts : List DeskView) where
  -- each worker ended in this way
  abbrev pub AllEnded : List Work → List (List DeskView) → List (Result (List Receipt) WorkerStop) → Type 0
  AllEnded [] [] [] = Unit {0}
  AllEnded (k ∷ works) (o ∷ others) (e ∷ ends) = WorkEnds specs scripts arrivals starts k o e × AllEnded works others ends
  AllEnded _ _ _ = ⊥

  pub ended_at : (works : List Work) (others : List (List DeskView)) (ends : List (Result (List Receipt) WorkerStop)) (i : ℕ) (k : Work) (e : Result (List Receipt) WorkerStop)
      → AllEnded works others ends → slice_get works i ≡ Some k → slice_get ends i ≡ Some e → (o : List DeskView) × (slice_get others i ≡ Some o) × WorkEnds specs scripts arrivals starts k o e
  ended_at [] [] [] i k e h a b = absurd cc
  ended_at [] [] (x ∷ ends) i k e h a b = absurd h
  ended_at [] (o ∷ others) ends i k e h a b = absurd cc
  ended_at (x ∷ works) [] ends i k e h a b = absurd h
  ended_at (x ∷ works) (o ∷ others) [] i k e h a b = absurd h
  ended_at (x ∷ works) (o ∷ others) (y ∷ ends) zero k e h a b =
      let k_is : x ≡ k = same_at (x ∷ works) 0 x k refl a in
      let e_is : y ≡ e = same_at (y ∷ ends) 0 y e refl b in
      (o, refl, subst (λ z. WorkEnds specs scripts arrivals starts k o z) e_is (subst (λ z. WorkEnds specs scripts arrivals starts z o y) k_is h.0))
  ended_at (x ∷ works) (o ∷ others) (y ∷ ends) (suc i) k e h a b = ended_at works others ends i k e h.1 a b

  pub ended_length : (works : List Work) (others : List (List DeskView)) (ends : List (Result (List Receipt) WorkerStop)) → AllEnded works others ends → (length works ≡ length ends) × (length others ≡ length ends)
  ended_length [] [] [] h = (refl, refl)
  ended_length [] [] (x ∷ ends) h = absurd h
  ended_length [] (o ∷ others) ends h = absurd h
  ended_length (x ∷ works) [] ends h = absurd h
  ended_length (x ∷ works) (o ∷ others) [] h = absurd h
  ended_length (x ∷ works) (o ∷ others) (y ∷ ends) h = let r = ended_length works others ends h.1 in (ap suc r.0, ap suc r.1)

  abbrev WorkGrew : Work → ℕ → DeskView → DeskView → Type 0
  WorkGrew k d v w = GrewBy (thread_of k) (count_on d (ops_for scripts k)) (length (frames_for d arrivals k)) v w

  -- a worker gained no more than its work asks for
  work_grew : (k : Work) (o : List DeskView) (e : Result (List Receipt) WorkerStop) → WorkEnds specs scripts arrivals starts k o e
      → AtDesks (λ d v w. GainsAtMost v w (count_on d (ops_for scripts k)) (length (frames_for d arrivals k))) starts o
  work_grew k o (Ok row) h =
      at_desks_weaker (λ d v w. Does v w (invokes_of d (ops_for scripts k) row) (frames_for d arrivals k)) (λ d v w. GainsAtMost v w (count_on d (ops_for scripts k)) (length (frames_for d arrivals k))) starts o
      (λ d v w x.
      at_most_weaker v w (length (invokes_of d (ops_for scripts k) row)) (count_on d (ops_for scripts k)) (length (frames_for d arrivals k)) (length (frames_for d arrivals k)) (invokes_few d (ops_for scripts k) row) (omega arith)
      (gains_at_most v w (invokes_of d (ops_for scripts k) row) (frames_for d arrivals k) x.gains)) h.1
  work_grew k o (Err (stop.Refused thread index part refusal)) h = at_desks_weaker (WorkGrew k) (λ d v w. GainsAtMost v w (count_on d (ops_for scripts k)) (length (frames_for d arrivals k))) starts o (λ d v w x. x.0) h.0
  work_grew k o (Err stop.NoMemory) h = at_desks_weaker (WorkGrew k) (λ d v w. GainsAtMost v w (count_on d (ops_for scripts k)) (length (frames_for d arrivals k))) starts o (λ d v w x. x.0) h

  -- whatever a worker's result, only its own thread invoked what it invoked
  pub work_made : (k : Work) (o : List DeskView) (e : Result (List Receipt) WorkerStop) → WorkEnds specs scripts arrivals starts k o e → AtDesks (λ d v w. MadeBy (thread_of k) v w) starts o
  work_made k o (Ok row) h = h.2
  work_made k o (Err (stop.Refused thread index part refusal)) h = at_desks_weaker (WorkGrew k) (λ d v w. MadeBy (thread_of k) v w) starts o (λ d v w x. x.1) h.0
  work_made k o (Err stop.NoMemory) h = at_desks_weaker (WorkGrew k) (λ d v w. MadeBy (thread_of k) v w) starts o (λ d v w x. x.1) h

  module _ (none : (d : ℕ) (s : DeskView) → slice_get starts d ≡ Some s → s.made ≡ []) where
    -- what was done at a worker's seat goes to the seat into which it is joined
    take_with : (P R : ℕ → DeskView → DeskView → Type 0) (olds others news : List DeskView)
        → ((d : ℕ) (s o v w : DeskView) → s.made ≡ [] → (spec : PartSpec) → TakesInOne spec v o w → P d s o → R d v w) → AtDesks P starts others → TakesIn specs olds others news → AtDesks R olds news
    take_with P R olds others news f h t =
        takes_each R specs olds others news
        (λ d spec v o w a b k.
        let l = slice_get_within others d o b in
        let s = some_at starts d (let n = h.0 in omega arith) in
        f d s.0 o v w (none d s.0 s.1) spec k (h.1 d s.0 o s.1 b))
        t

    pub all_count : (works : List Work) (others : List (List DeskView)) (ends : List (Result (List Receipt) WorkerStop)) (olds news : List DeskView) → AllEnded works others ends → TakeAllIn specs olds others news
        → AtDesks (λ d v w. Counts v w (calls_by d scripts works) (calls_in d scripts works) (length (works_frames d arrivals works))) olds news
    all_count [] [] [] olds news h t =
        subst (λ (l : List DeskView). AtDesks (λ d v w. Counts v w (λ t. 0) 0 0) olds l) (sym t) (at_desks_refl (λ d v w. Counts v w (λ t. 0) 0 0) olds (λ d v. counts_none v))
    all_count [] [] (x ∷ ends) olds news h t = absurd h
    all_count [] (o ∷ others) ends olds news h t = absurd h
    all_count (x ∷ works) [] ends olds news h t = absurd h
    all_count (x ∷ works) (o ∷ others) [] olds news h t = absurd h
    all_count (x ∷ works) (o ∷ others) (y ∷ ends) olds news h t =
        let P : ℕ → DeskView → DeskView → Type 0 = λ d v w. Counts v w (only_of (thread_of x) (count_on d (ops_for scripts x))) (count_on d (ops_for scripts x)) (length (frames_for d arrivals x)) in
        let Q : ℕ → DeskView → DeskView → Type 0 = λ d v w. Counts v w (calls_by d scripts works) (calls_in d scripts works) (length (works_frames d arrivals works)) in
        let grew = work_grew x o y h.0 in
        let made = work_made x o y h.0 in
        at_desks_more P Q (λ d v w. Counts v w (calls_by d scripts (x ∷ works)) (calls_in d scripts (x ∷ works)) (length (works_frames d arrivals (x ∷ works)))) olds t.0 news
        (λ d u v w a b.
        subst (λ n. Counts u w (calls_by d scripts (x ∷ works)) (calls_in d scripts (x ∷ works)) n) (sym (length-append (frames_for d arrivals x) (works_frames d arrivals works)))
        (counts_more u v w (only_of (thread_of x) (count_on d (ops_for scripts x))) (calls_by d scripts works) (count_on d (ops_for scripts x)) (calls_in d scripts works) (length (frames_for d arrivals x)) (length (works_frames d arrivals works)) a b))
        (take_with (λ d v w. GainsAtMost v w (count_on d (ops_for scripts x)) (length (frames_for d arrivals x)) × MadeBy (thread_of x) v w) P olds o t.0
        (λ d s p v w m spec k g. joins_counts s p v w (thread_of x) (count_on d (ops_for scripts x)) (length (frames_for d arrivals x)) m k.0 g.0 (g.1 m)) (at_desks_both _ _ starts o grew made) t.1)
        (all_count works others ends t.0 news h.1 t.2)

    pub all_gain : (works : List Work) (others : List (List DeskView)) (rows : List (List Receipt)) (olds news : List DeskView) → AllEnded works others (map (λ row. Ok row) rows) → TakeAllIn specs olds others news
        → AtDesks (λ d v w. Gains v w (works_invokes d scripts works rows) (works_frames d arrivals works)) olds news
    all_gain [] [] [] olds news h t =
        subst (λ (l : List DeskView). AtDesks (λ d v w. Gains v w [] []) olds l) (sym t) (at_desks_refl (λ d v w. Gains v w [] []) olds (λ d v. gains_none v))
    all_gain [] [] (x ∷ rows) olds news h t = absurd h
    all_gain [] (o ∷ others) [] olds news h t = absurd h
    all_gain [] (o ∷ others) (x ∷ rows) olds news h t = absurd h
    all_gain (x ∷ works) [] [] olds news h t = absurd h
    all_gain (x ∷ works) [] (y ∷ rows) olds news h t = absurd h
    all_gain (x ∷ works) (o ∷ others) [] olds news h t = absurd h
    all_gain (x ∷ works) (o ∷ others) (row ∷ rows) olds news h t =
        let P : ℕ → DeskView → DeskView → Type 0 = λ d v w. Gains v w (invokes_of d (ops_for scripts x) row) (frames_for d arrivals x) in
        let Q : ℕ → DeskView → DeskView → Type 0 = λ d v w. Gains v w (works_invokes d scripts works rows) (works_frames d arrivals works) in
        at_desks_more P Q (λ d v w. Gains v w (works_invokes d scripts (x ∷ works) (row ∷ rows)) (works_frames d arrivals (x ∷ works))) olds t.0 news
        (λ d u v w a b. gains_more u v w (invokes_of d (ops_for scripts x) row) (works_invokes d scripts works rows) (frames_for d arrivals x) (works_frames d arrivals works) a b)
        (take_with (λ d v w. Does v w (invokes_of d (ops_for scripts x) row) (frames_for d arrivals x)) P olds o t.0
        (λ d s p v w m spec k g. joins_gains s p v w (invokes_of d (ops_for scripts x) row) (frames_for d arrivals x) m k.0 g.gains) h.0.1 t.1)
        (all_gain works others rows t.0 news h.1 t.2)

-- if no worker invoked a call, none of the events that a seat gained invokes it
not_own : (specs : List PartSpec) (part call : ℕ) (olds : List DeskView) (workers : List (List DeskView)) (news : List DeskView) (v w : DeskView) → TakeAllIn specs olds workers news
    → ((i : ℕ) (o : List DeskView) (x : DeskView) → slice_get workers i ≡ Some o → slice_get o part ≡ Some x → All (λ index. IsAt x.seen index (IsNoInvoke call)) x.made)
    → slice_get olds part ≡ Some v → slice_get news part ≡ Some w → IsNotOwn call v w
not_own specs part call olds [] news v w t f a b =
    let is : v ≡ w = same_at olds part v w a (subst (λ (l : List DeskView). slice_get l part ≡ Some w) t b) in
    ([], ap (λ (u : DeskView). u.made) (sym is) ∙ sym (append-nil v.made), All-nil (λ index. IsAt w.seen index (IsNoInvoke call)))
not_own specs part call olds (o ∷ workers) news v w t f a b =
    let l = slice_get_within olds part v a in
    let s = some_at specs part (let n = t.1.1 in omega arith) in
    let x = some_at o part (let n = t.1.0 in omega arith) in
    let m = some_at t.0 part (let n = t.1.2 in omega arith) in
    let j = (t.1.3 part s.0 v x.0 m.0 s.1 a x.1 m.1).0 in
    let rest = not_own specs part call t.0 workers news m.0 w t.2 (λ i p y e g. f (suc i) p y e g) m.1 b in
    let later = (all_see specs t.0 workers news t.2).1 part m.0 w m.1 b in
    let first = all_by_grow x.0.seen w.seen (IsNoInvoke call) x.0.made (prefix_trans x.0.seen m.0.seen w.seen j.other_seen later) (f 0 o x.0 refl x.1) in (
      x.0.made ++ rest.0,
      rest.1 ∙ (ap (λ (l : List ℕ). l ++ rest.0) j.made ∙ append_assoc v.made x.0.made rest.0),
      All-append (λ index. IsAt w.seen index (IsNoInvoke call)) x.0.made rest.0 first rest.2,
    )

not_answered : (call : ℕ) (seen : List Event) (e : Event) → AllByRecursion (λ e. answer_at call e ≡ None) seen → HasReplyIn seen e → IsNoInvoke call e
not_answered call seen (event.Invoke c t o a) law h = λ q.
    let k = h.2 in
    let none : answer_at call k.event ≡ None = at_position (λ e. answer_at call e ≡ None) seen h.0 k.event law k.there in
    let some : answer_at call k.event ≡ Some h.1 = subst (λ n. answer_at n k.event ≡ Some h.1) q k.is in
    none-some h.1 (sym none ∙ some)
not_answered call seen (event.Enter c t attempt answer) law h = tt
not_answered call seen (event.Burst context c burst count end acts answer failure) law h = tt
not_answered call seen (event.Stage stage answers released) law h = tt
not_answered call seen (event.Arrive frame kept) law h = tt

not_other : (call thread other : ℕ) (e : Event) → (other ≡ thread → ⊥) → InvokesBy call thread e → IsBy other e → IsNoInvoke call e
not_other call thread other (event.Invoke c t o a) n law h = λ q. n (sym h ∙ law q)
not_other call thread other (event.Enter c t attempt answer) n law h = tt
not_other call thread other (event.Burst context c burst count end acts answer failure) n law h = tt
not_other call thread other (event.Stage stage answers released) n law h = tt
not_other call thread other (event.Arrive frame kept) n law h = tt

-- each hired worker that is done has ended as its work requires
pub all_ended : {D S : Type 0} (is_seat : D → S → Type 0) (spec : D → PartSpec) (view : S → DeskView) (desks : List D) (scripts : List ThreadSpec) (arrivals : List (List (List ℕ))) (olds : List DeskView)
    (works : List Work) (workers : List (Worker S)) (dones : List (Done S))
    → Each (IsHired is_seat spec view desks olds) works workers → Each (IsDone is_seat spec view desks scripts arrivals) workers dones
    → AllEnded (map spec desks) scripts arrivals (map start_view olds) works (map (λ d. map view d.seats.items) dones) (map (λ d. d.end) dones)
all_ended is_seat spec view desks scripts arrivals olds [] [] [] h k = tt
all_ended is_seat spec view desks scripts arrivals olds [] [] (d ∷ dones) h k = absurd (let n = k.0 in omega arith)
all_ended is_seat spec view desks scripts arrivals olds [] (w ∷ workers) dones h k = absurd (let n = h.0 in omega arith)
all_ended is_seat spec view desks scripts arrivals olds (x ∷ works) [] dones h k = absurd (let n = h.0 in omega arith)
all_ended is_seat spec view desks scripts arrivals olds (x ∷ works) (w ∷ workers) [] h k = absurd (let n = k.0 in omega arith)
all_ended is_seat spec view desks scripts arrivals olds (x ∷ works) (w ∷ workers) (d ∷ dones) h k =
    let hired = h.1 0 x w refl refl in
    let done = k.1 0 w d refl refl in (
      work_same (map spec desks) scripts arrivals (map start_view olds) (map view w.seats.items) (map view d.seats.items) x d.end (start_same olds (map view w.seats.items) hired.starts)
          (subst (λ z. WorkEnds (map spec desks) scripts arrivals (map view w.seats.items) z (map view d.seats.items) d.end) hired.is done.ends),
      all_ended is_seat spec view desks scripts arrivals olds works workers dones
          (let n = h.0 in omega arith, λ i a b p q. h.1 (suc i) a b p q) (let n = k.0 in omega arith, λ i a b p q. k.1 (suc i) a b p q),
    )

-- ---- how all end

new_at : (olds : List DeskView) (d : ℕ) (s : DeskView) → slice_get (map start_view olds) d ≡ Some s → (v : DeskView) × (slice_get olds d ≡ Some v) × (s ≡ start_view v)
new_at olds d s h = map_get start_view olds d s h

list_there : (lists : List (List (List ℕ))) (d : ℕ) (f : List ℕ) (fs : List (List ℕ)) → slice_index_or lists d [] ≡ f ∷ fs → slice_get lists d ≡ Some (f ∷ fs)
list_there [] d f fs h = absurd cc
list_there (list ∷ lists) zero f fs h = ap (λ x. Some x) h
list_there (list ∷ lists) (suc d) f fs h = list_there lists d f fs h

module _ (specs : List PartSpec) (scripts : List ThreadSpec) (arrivals : List (List (List ℕ))) (olds mids news : List DeskView) (others : List (List DeskView)) (ends : List (Result (List Receipt) WorkerStop))
    (same : AtDesks Same olds mids) (spread : Spread olds mids others) (taken : TakeAllIn specs mids others news)
    (ended : AllEnded specs scripts arrivals (map start_view olds) (all_works scripts arrivals) others ends) where
  no_made : (d : ℕ) (s : DeskView) → slice_get (map start_view olds) d ≡ Some s → s.made ≡ []
  no_made d s h = ap (λ (v : DeskView). v.made) (new_at olds d s h).2

  -- a row that a thread's worker made
  row_there : (t : ℕ) (s : ThreadSpec) (row : List Receipt) → slice_get scripts t ≡ Some s → slice_get ends t ≡ Some (Ok row) → AreReceipts news t s.ops row × AreRising olds s.ops row
  row_there t s row a b =
      let e = ended_at specs scripts arrivals (map start_view olds) (all_works scripts arrivals) others ends t (work.Script t) (Ok row) ended (script_there scripts (arrival_works 0 arrivals) t s a) b in
      let sees = worker_sees specs mids others news t e.0 taken e.1 in
      let ops : ops_of (slice_get scripts t) ≡ s.ops = ap ops_of a in (
        subst (λ o. AreReceipts news t o row) ops (receipts_grow e.0 news t (ops_of (slice_get scripts t)) row sees e.2.0),
        λ d v k.
            let l = slice_get_within olds d v k in
            let does = e.2.1 in
            let n : length e.0 ≡ length olds = does.0 ∙ length-map olds start_view in
            let w = some_at e.0 d (omega arith) in
            let g = does.1 d (start_view v) w.0 (get_map start_view olds d v k) w.1 in
            let rising : IsRisingFrom (length v.seen) (invokes_at w.0.seen g.gains.numbers) = rising_filter _ (length v.seen) g.gains.numbers g.rising in
            subst (λ o. IsRisingFrom (length v.seen) (invokes_of d o row)) ops (subst (IsRisingFrom (length v.seen)) g.gains.invoked rising),
      )

  -- the frames that a worker of arrivals added
  arrived_there : (p i : ℕ) (row : List Receipt) (v w : DeskView) → slice_get (all_works scripts arrivals) i ≡ Some (work.Arrivals p) → slice_get ends i ≡ Some (Ok row) → slice_get olds p ≡ Some v → slice_get news p ≡ Some w
      → HasArrived v w (slice_index_or arrivals p [])
  arrived_there p i row v w a b k j =
      let e = ended_at specs scripts arrivals (map start_view olds) (all_works scripts arrivals) others ends i (work.Arrivals p) (Ok row) ended a b in
      let sees = worker_sees specs mids others news i e.0 taken e.1 in
      let l = slice_get_within olds p v k in
      let does = e.2.1 in
      let n : length e.0 ≡ length olds = does.0 ∙ length-map olds start_view in
      let o = some_at e.0 p (omega arith) in
      let g = does.1 p (start_view v) o.0 (get_map start_view olds p v k) o.1 in
      record {
        numbers = g.gains.numbers;
        rising = g.rising;
        arrived = frames_grow o.0.seen w.seen g.gains.numbers (sees.1 p o.0 w o.1 j) g.gains.grows.there ∙ (g.gains.arrived ∙ if_same p (slice_index_or arrivals p []) []);
      }

  arrived_of : (rows : List (List Receipt)) → ends ≡ map (λ row. Ok row) rows → length rows ≡ length (all_works scripts arrivals) → (d : ℕ) (fs : List (List ℕ)) (v w : DeskView) → slice_index_or arrivals d [] ≡ fs
      → slice_get olds d ≡ Some v → slice_get news d ≡ Some w → HasArrived v w fs
  arrived_of rows is count d [] v w a b c = record { numbers = []; rising = tt; arrived = refl }
  arrived_of rows is count d (f ∷ fs) v w a b c =
      let at = arrivals_there 0 arrivals d (f ∷ fs) (list_there arrivals d f fs a) (omega arith) in
      let there : slice_get (all_works scripts arrivals) (length scripts + at.0) ≡ Some (work.Arrivals d) =
      after_scripts 0 scripts (arrival_works 0 arrivals) at.0 ∙ (at.1 ∙ ap (λ k. Some (work.Arrivals k)) (omega arith)) in
      let l = slice_get_within (all_works scripts arrivals) (length scripts + at.0) (work.Arrivals d) there in
      let row = some_at rows (length scripts + at.0) (omega arith) in
      let made : slice_get ends (length scripts + at.0) ≡ Some (Ok row.0) =
      ap (λ (l : List (Result (List Receipt) WorkerStop)). slice_get l (length scripts + at.0)) is ∙ get_map (λ r. Ok r) rows (length scripts + at.0) row.0 row.1 in
      subst (HasArrived v w) a (arrived_there d (length scripts + at.0) row.0 v w there made b c)

  pub all_finished : (rows : List (List Receipt)) → ends ≡ map (λ row. Ok row) rows → AreFinished specs scripts arrivals olds news (take (length scripts) rows)
  all_finished rows is =
      let lengths = ended_length specs scripts arrivals (map start_view olds) (all_works scripts arrivals) others ends ended in
      let count : length rows ≡ length (all_works scripts arrivals) = sym (lengths.0 ∙ (ap length is ∙ length-map rows (λ row. Ok row))) in
      let gains = all_gain specs scripts arrivals (map start_view olds) no_made (all_works scripts arrivals) others rows mids news (subst (AllEnded specs scripts arrivals (map start_view olds) (all_works scripts arrivals) others) is ended) taken in
      let at_row : (t : ℕ) (row : List Receipt) → slice_get (take (length scripts) rows) t ≡ Some row → slice_get ends t ≡ Some (Ok row) =
      λ t row h. ap (λ (l : List (Result (List Receipt) WorkerStop)). slice_get l t) is ∙ get_map (λ r. Ok r) rows t row (take_get rows t (length scripts) row h) in
      record {
        rows = (length-take-le (length scripts) rows (let n = works_long scripts in omega (arith, count, length-append (script_works 0 scripts) (arrival_works 0 arrivals), n)), λ t s row a b. (row_there t s row a (at_row t row b)).0);
        rising = λ t s row a b. (row_there t s row a (at_row t row b)).1;
        gains =
            at_desks_more Same (λ d v w. Gains v w (works_invokes d scripts (all_works scripts arrivals) rows) (works_frames d arrivals (all_works scripts arrivals)))
            (λ d v w. Gains v w (invokes_of_all d scripts (take (length scripts) rows)) (slice_index_or arrivals d [])) olds mids news
            (λ d v u w s g.
            let is = invokes_of_all d scripts (take (length scripts) rows) in
            gains_same v u w is (slice_index_or arrivals d []) s
            (subst (λ fs. Gains u w is fs) (frames_are d scripts arrivals) (subst (λ x. Gains u w x (works_frames d arrivals (all_works scripts arrivals))) (invokes_are d scripts arrivals rows count) g)))
            same gains;
        arrived = (
          let n = gains.0 in let m = same.0 in omega arith,
          λ d v w b c. arrived_of rows is count d (slice_index_or arrivals d []) v w refl b c,
        );
      }

  -- a thread's operations have the order of its script
  follows_there : (t : ℕ) (s : ThreadSpec) (row : List Receipt) → slice_get scripts t ≡ Some s → slice_get ends t ≡ Some (Ok row) → Follows (all_stamps news) 0 s.ops row
  follows_there t s row a b =
      let e = ended_at specs scripts arrivals (map start_view olds) (all_works scripts arrivals) others ends t (work.Script t) (Ok row) ended (script_there scripts (arrival_works 0 arrivals) t s a) b in
      let stamps = worker_stamps specs mids others news t e.0 taken e.1 in
      let ops : ops_of (slice_get scripts t) ≡ s.ops = ap ops_of a in
      subst (λ o. Follows (all_stamps news) 0 o row) ops (follows_grow e.0 news (ops_of (slice_get scripts t)) row stamps e.2.3)

  pub all_follow : (rows : List (List Receipt)) → ends ≡ map (λ row. Ok row) rows → AllFollow (all_stamps news) scripts (take (length scripts) rows)
  all_follow rows is =
      rows_follow (all_stamps news) scripts (take (length scripts) rows) (all_finished rows is).rows.0
      (λ t s row a b. follows_there t s row a (ap (λ (l : List (Result (List Receipt) WorkerStop)). slice_get l t) is ∙ get_map (λ r. Ok r) rows t row (take_get rows t (length scripts) row b)))

  pub all_grown : AtDesks (λ d v w. AtMost scripts (slice_index_or arrivals d []) d v w) olds news
  all_grown =
      at_desks_more Same (λ d v w. Counts v w (calls_by d scripts (all_works scripts arrivals)) (calls_in d scripts (all_works scripts arrivals)) (length (works_frames d arrivals (all_works scripts arrivals))))
      (λ d v w. AtMost scripts (slice_index_or arrivals d []) d v w) olds mids news
      (λ d v u w s c.
      let k = counts_same v u w (calls_by d scripts (all_works scripts arrivals)) (calls_in d scripts (all_works scripts arrivals)) (length (works_frames d arrivals (all_works scripts arrivals))) s c in
      record {
        numbers = k.numbers;
        grows = k.grows;
        invoked = λ t. let few = k.invoked t in omega (arith, calls_by_are t d scripts arrivals);
        invoked_in_all = let few = k.invoked_in_all in omega (arith, calls_are d scripts arrivals);
        arrived = let few = k.arrived in omega (arith, ap length (frames_are d scripts arrivals));
      })
      same (all_count specs scripts arrivals (map start_view olds) no_made (all_works scripts arrivals) others ends mids news ended taken)

  pub all_seen_runs : 0 < length (all_works scripts arrivals) → AreRuns specs news
  all_seen_runs l =
      let lengths = ended_length specs scripts arrivals (map start_view olds) (all_works scripts arrivals) others ends ended in
      all_runs specs mids others news taken (let a = lengths.0 in let b = lengths.1 in omega arith)

  -- the cause of a worker's refusal
  cause_there : (part : ℕ) (o : List DeskView) (Cause : PartState → Type 0) → AtDesks SeesMore o news → IsRefusedAt specs (map start_view olds) o part Cause → IsRefusedAt specs olds news part Cause
  cause_there part o Cause sees r =
      let v = new_at olds part r.old r.old_there in
      let l = slice_get_within o part r.new r.new_there in
      let w = some_at news part (let n = sees.0 in omega arith) in
      record {
        spec = r.spec;
        old = v.0;
        new = w.0;
        spec_there = r.spec_there;
        old_there = v.1;
        new_there = w.1;
        between = r.between;
        from = subst (λ (u : DeskView). IsPrefix u.seen r.between) v.2 r.from;
        to = prefix_trans r.between r.new.seen w.0.seen r.to (sees.1 part r.new w.0 r.new_there w.1);
        cause = r.cause;
      }

  module _ (rows : List (List Receipt)) (own : Work) (index part : ℕ) (refusal : DeskRefused) (later : List (Result (List Receipt) WorkerStop))
      (is : ends ≡ map (λ row. Ok row) rows ++ Err (stop.Refused own index part refusal) ∷ later) (small : length scripts ≤ 16) where
    -- the ends before the first stop are rows
    row_before : (i : ℕ) → i < length rows → (row : List Receipt) × (slice_get ends i ≡ Some (Ok row))
    row_before i l =
        let row = some_at rows i l in
        (row.0, ap (λ (e : List (Result (List Receipt) WorkerStop)). slice_get e i) is ∙ get_append (map (λ r. Ok r) rows) (Err (stop.Refused own index part refusal) ∷ later) i (Ok row.0) (get_map (λ r. Ok r) rows i row.0 row.1))

    stop_there : slice_get ends (length rows) ≡ Some (Err (stop.Refused own index part refusal))
    stop_there = ap (λ (e : List (Result (List Receipt) WorkerStop)). slice_get e (length rows)) is ∙ rest_after rows
      where
        rest_after : (rs : List (List Receipt)) → slice_get (map (λ row. Ok row) rs ++ Err (stop.Refused own index part refusal) ∷ later) (length rs) ≡ Some (Err (stop.Refused own index part refusal))
        rest_after [] = refl
        rest_after (r ∷ rs) = rest_after rs

    has_row : (t : ℕ) (s : ThreadSpec) → t < length rows → slice_get scripts t ≡ Some s → HasRow olds news t s.ops
    has_row t s l a =
        let row = row_before t l in
        let r = row_there t s row.0 a row.1 in
        record { row = row.0; receipts = r.0; rising = r.1 }

    other_thread : (t i : ℕ) (k : Work) → slice_get (all_works scripts arrivals) i ≡ Some k → (i ≡ length rows → ⊥) → t ≡ length rows → t < 16 → thread_of k ≡ t → ⊥
    other_thread t i (work.Script u) there n e l same_thread = n (sym (script_is scripts arrivals i u there).0 ∙ (same_thread ∙ e))
    other_thread t i (work.Arrivals p) there n e l same_thread = absurd (omega arith)

    -- no worker invoked an open call: the refused worker's calls were answered, and the others' are of other threads
    none_invoked : (t call : ℕ) (o : List DeskView) (w : DeskView) (f : IsOpenFor specs (map start_view olds) o t part call) → slice_get others (length rows) ≡ Some o → t ≡ length rows → t < 16 → slice_get news part ≡ Some w
        → AllByRecursion (λ e. answer_at call e ≡ None) f.new.seen → AllByRecursion (InvokesBy call t) w.seen
        → (i : ℕ) (p : List DeskView) (x : DeskView) → slice_get others i ≡ Some p → slice_get p part ≡ Some x → All (λ index. IsAt x.seen index (IsNoInvoke call)) x.made
    none_invoked t call o w f here e l there answers invokes i p x a b = by_position (same_or_other i (length rows))
      where
        by_position : (i ≡ length rows) ⊎ (i ≡ length rows → ⊥) → All (λ index. IsAt x.seen index (IsNoInvoke call)) x.made
        by_position (inl q) =
            let p_is : o ≡ p = same_at others (length rows) o p here (subst (λ k. slice_get others k ≡ Some p) q a) in
            let x_is : f.new ≡ x = same_at p part f.new x (subst (λ (l : List DeskView). slice_get l part ≡ Some f.new) p_is f.new_there) b in
            subst (λ (y : DeskView). All (λ index. IsAt y.seen index (IsNoInvoke call)) y.made) x_is
            (All-weaker (λ index. IsAt f.new.seen index (HasReplyIn f.new.seen)) (λ index. IsAt f.new.seen index (IsNoInvoke call))
            (λ index k. is_at_weaker f.new.seen index (HasReplyIn f.new.seen) (IsNoInvoke call) (λ e m. not_answered call f.new.seen e answers m) k) f.new.made (f.answered (no_made part f.old f.old_there)))
        by_position (inr n) =
            let lengths = ended_length specs scripts arrivals (map start_view olds) (all_works scripts arrivals) others ends ended in
            let m = slice_get_within others i p a in
            let k = some_at (all_works scripts arrivals) i (let g = lengths.0 in let h = lengths.1 in omega arith) in
            let end = some_at ends i (let h = lengths.1 in omega arith) in
            let r = ended_at specs scripts arrivals (map start_view olds) (all_works scripts arrivals) others ends i k.0 end.0 ended k.1 end.1 in
            let r_is : r.0 ≡ p = same_at others i r.0 p r.1 a in
            let made = (work_made specs scripts arrivals (map start_view olds) k.0 r.0 end.0 r.2).1 part f.old x f.old_there (subst (λ (l : List DeskView). slice_get l part ≡ Some x) (sym r_is) b) (no_made part f.old f.old_there) in
            let sees = (worker_sees specs mids others news i p taken a).1 part x w b there in
            All-weaker (λ index. IsAt x.seen index (IsBy (thread_of k.0))) (λ index. IsAt x.seen index (IsNoInvoke call))
            (λ index q. record {
              event = q.event;
              there = q.there;
              is = not_other call t (thread_of k.0) q.event (other_thread t i k.0 k.1 n e l) (at_position (InvokesBy call t) w.seen index q.event invokes (at_grows x.seen w.seen index q.event q.there sees)) q.is;
            }) x.made made

    foreign_call : (t : ℕ) (o : List DeskView) (call : ℕ) (v w : DeskView) → slice_get (all_works scripts arrivals) (length rows) ≡ Some (work.Script t) → slice_get others (length rows) ≡ Some o → AtDesks SeesMore o news → t ≡ length rows → t < 16
        → IsOpenFor specs (map start_view olds) o t part call → slice_get olds part ≡ Some v → slice_get news part ≡ Some w → IsNotOwn call v w
    foreign_call t o call v w there here sees e l f a b =
        let u = some_at mids part (let m = slice_get_within olds part v a in let n = same.0 in omega arith) in
        let k = same.1 part v u.0 a u.1 in
        let work_there = slice_get_within (all_works scripts arrivals) (length rows) (work.Script t) there in
        let law = open_law f.spec f.new.seen w.seen t call (all_seen_runs (omega arith) part f.spec w f.spec_there b) (sees.1 part f.new w f.new_there b) f.open_call in
        let not = not_own specs part call mids others news u.0 w taken (λ i p x c g. none_invoked t call o w f here e l b law.0 law.1 i p x c g) u.1 b in
        (not.0, not.1 ∙ ap (λ (m : List ℕ). m ++ not.0) k.1, not.2)

    thread_refused : (t : ℕ) (o : List DeskView) → slice_get (all_works scripts arrivals) (length rows) ≡ Some (work.Script t) → slice_get others (length rows) ≡ Some o → AtDesks SeesMore o news
        → WorkEnds specs scripts arrivals (map start_view olds) (work.Script t) o (Err (stop.Refused own index part refusal)) → IsThreadRefused specs scripts arrivals olds news t index part refusal
    thread_refused t o there here sees h =
        let at = script_is scripts arrivals (length rows) t there in
        let s_there : slice_get scripts t ≡ Some at.1.0 = subst (λ k. slice_get scripts k ≡ Some at.1.0) (sym at.0) at.1.1 in
        let r = h.2.0 in
        let ops : ops_of (slice_get scripts t) ≡ at.1.0.ops = ap ops_of s_there in
        record {
          script = at.1.0;
          there = s_there;
          refusal_is = record {
            op = r.op;
            operation = subst (λ l. slice_get l index ≡ Some (part, r.op)) ops r.operation;
            cause = cause_there part o (CallCause t refusal) sees r.cause;
          };
          foreign = λ call v w e a b. foreign_call t o call v w there here sees at.0 (let l = slice_get_within scripts (length rows) at.1.0 at.1.1 in let q = at.0 in omega (arith, small)) (subst (λ x. KnowsOpen specs (map start_view olds) o t part x) e h.2.1) a b;
          sooner = λ k s l a. has_row k s (omega arith) a;
        }

    part_refused : (p : ℕ) (o : List DeskView) → slice_get (all_works scripts arrivals) (length rows) ≡ Some (work.Arrivals p) → AtDesks SeesMore o news
        → WorkEnds specs scripts arrivals (map start_view olds) (work.Arrivals p) o (Err (stop.Refused own index part refusal)) → IsPartRefused specs scripts arrivals olds news index part refusal
    part_refused p o there sees h =
        let at = arrivals_after 0 scripts (arrival_works 0 arrivals) (length rows) p there in
        let list = arrivals_are 0 arrivals at.0 p at.2 in
        let part_is : part ≡ p = h.2.0 in
        let frames_there : slice_get arrivals part ≡ Some list.2.0 = subst (λ k. slice_get arrivals k ≡ Some list.2.0) (let e = list.1 in omega arith) list.2.1 in
        let all : slice_index_or arrivals part [] ≡ list.2.0 = get_or_from_slice_get arrivals part list.2.0 [] frames_there in
        let r = h.2.1 in
        record {
          frames = list.2.0;
          there = frames_there;
          refusal_is = record {
            frame = subst (λ fs. index < length fs) all r.frame;
            cause = cause_there part o (ArriveCause refusal) sees r.cause;
          };
          threads = λ t s a. has_row t s (let l = slice_get_within scripts t s a in let e = at.1 in omega arith) a;
          sooner = λ d fs v w l a b c. sooner_arrived p at.0 part_is at.1 at.2 d fs v w l a b c;
        }
      where
        some_frames : (d : ℕ) (fs : List (List ℕ)) (v w : DeskView) (j : ℕ) → 0 < length fs → length rows ≡ length scripts + j → slice_get (arrival_works 0 arrivals) j ≡ Some (work.Arrivals p) → d < p
            → slice_get arrivals d ≡ Some fs → slice_get olds d ≡ Some v → slice_get news d ≡ Some w → HasArrived v w fs
        some_frames d fs v w j some long here l a b c =
            let before = arrivals_before 0 arrivals j p d fs here a some (omega arith) in
            let row = row_before (length scripts + before.0) (let m = before.1 in omega arith) in
            let there : slice_get (all_works scripts arrivals) (length scripts + before.0) ≡ Some (work.Arrivals d) =
            after_scripts 0 scripts (arrival_works 0 arrivals) before.0 ∙ (before.2 ∙ ap (λ k. Some (work.Arrivals k)) (omega arith)) in
            subst (HasArrived v w) (get_or_from_slice_get arrivals d fs [] a) (arrived_there d (length scripts + before.0) row.0 v w there row.1 b c)

        sooner_arrived : (p' j : ℕ) → part ≡ p → length rows ≡ length scripts + j → slice_get (arrival_works 0 arrivals) j ≡ Some (work.Arrivals p) → (d : ℕ) (fs : List (List ℕ)) (v w : DeskView) → d < part
            → slice_get arrivals d ≡ Some fs → slice_get olds d ≡ Some v → slice_get news d ≡ Some w → HasArrived v w fs
        sooner_arrived p' j e long here d [] v w l a b c = record { numbers = []; rising = tt; arrived = refl }
        sooner_arrived p' j e long here d (f ∷ fs) v w l a b c = some_frames d (f ∷ fs) v w j (omega arith) long here (omega arith) a b c

    pub all_refused : IsRefused specs scripts arrivals olds news own index part refusal
    all_refused =
        let lengths = ended_length specs scripts arrivals (map start_view olds) (all_works scripts arrivals) others ends ended in
        let l = slice_get_within ends (length rows) _ stop_there in
        let k = some_at (all_works scripts arrivals) (length rows) (let n = lengths.0 in omega arith) in
        let e = ended_at specs scripts arrivals (map start_view olds) (all_works scripts arrivals) others ends (length rows) k.0 (Err (stop.Refused own index part refusal)) ended k.1 stop_there in
        by_work k.0 e.0 k.1 e.1 (worker_sees specs mids others news (length rows) e.0 taken e.1) e.2
      where
        by_work : (k : Work) (o : List DeskView) → slice_get (all_works scripts arrivals) (length rows) ≡ Some k → slice_get others (length rows) ≡ Some o → AtDesks SeesMore o news
            → WorkEnds specs scripts arrivals (map start_view olds) k o (Err (stop.Refused own index part refusal)) → IsRefused specs scripts arrivals olds news own index part refusal
        by_work (work.Script t) o there here sees h =
            subst (λ k. IsRefused specs scripts arrivals olds news k index part refusal) (sym h.1) (thread_refused t o there here sees h)
        by_work (work.Arrivals p) o there here sees h =
            subst (λ k. IsRefused specs scripts arrivals olds news k index part refusal) (sym h.1) (h.2.0, part_refused p o there sees h)

  pub all_alone : StayAlone olds news
  all_alone = all_back_alone specs olds mids others news (all_grown.0) spread taken

  pub all_stopped : (why : WorkerStop) (small : length scripts ≤ 16) (r : RowsEnd ends (Err why)) → WorkersEnd specs scripts arrivals olds news (Err why)
  all_stopped (stop.Refused own index part refusal) small r = (all_grown, all_refused r.0 own index part refusal r.1 r.2 small, all_seen_runs, all_alone)
  all_stopped stop.NoMemory small r = tt

-- ---- lemmas for the steps in between

-- points that were spread over the workers' seats are still there when these have done their work
pub spread_worked : {D S : Type 0} (is_seat : D → S → Type 0) (spec : D → PartSpec) (view : S → DeskView) (desks : List D) (scripts : List ThreadSpec) (arrivals : List (List (List ℕ))) (olds news : List DeskView)
    (workers : List (Worker S)) (dones : List (Done S)) → Each (IsDone is_seat spec view desks scripts arrivals) workers dones → Spread olds news (map (λ w. map view w.seats.items) workers)
    → Spread olds news (map (λ d. map view d.seats.items) dones)
spread_worked {D} {S} is_seat spec view desks scripts arrivals olds news workers dones h s =
    spread_done olds news (map (λ w. map view w.seats.items) workers) (map (λ d. map view d.seats.items) dones) (
      length-map dones (λ d. map view d.seats.items) ∙ (h.0 ∙ sym (length-map workers (λ w. map view w.seats.items))),
      λ i x y a b.
          let w = map_get (λ (w : Worker S). map view w.seats.items) workers i x a in
          let d = map_get (λ (d : Done S). map view d.seats.items) dones i y b in
          subst (KeepShares x) (sym d.2) (subst (λ (l : List DeskView). KeepShares l (map view d.0.seats.items)) (sym w.2) (h.1 i w.0 d.0 w.1 d.1).shares),
    ) s

pub is_work : (scripts : List ThreadSpec) (arrivals : List (List (List ℕ))) (i : ℕ) (k : Work) → slice_get (all_works scripts arrivals) i ≡ Some k → IsWork scripts arrivals k
is_work scripts arrivals i (work.Script t) h =
    let r = script_is scripts arrivals i t h in
    let l = slice_get_within scripts i r.1.0 r.1.1 in
    let e = r.0 in omega arith
is_work scripts arrivals i (work.Arrivals p) h =
    let at = arrivals_after 0 scripts (arrival_works 0 arrivals) i p h in
    let r = arrivals_are 0 arrivals at.0 p at.2 in
    let l = slice_get_within arrivals r.0 r.2.0 r.2.1 in
    let e = r.1 in omega arith

all_from : {X : Type 0} (P : X → Type 0) (xs : List X) → ((i : ℕ) (x : X) → slice_get xs i ≡ Some x → P x) → All P xs
all_from P xs f = λ i d l. f i (get_or xs i d) (slice_get-get_or xs i d l)

pub all_ready : {D S : Type 0} (is_seat : D → S → Type 0) (spec : D → PartSpec) (view : S → DeskView) (desks : List D) (scripts : List ThreadSpec) (arrivals : List (List (List ℕ))) (olds : List DeskView)
    (works : List Work) (workers : List (Worker S)) → works ≡ all_works scripts arrivals → Each (IsHired is_seat spec view desks olds) works workers → All (λ worker. IsReady is_seat spec view desks scripts arrivals worker) workers
all_ready is_seat spec view desks scripts arrivals olds works workers e h =
    all_from (λ worker. IsReady is_seat spec view desks scripts arrivals worker) workers (λ i worker a.
    let l = slice_get_within workers i worker a in
    let k = some_at works i (let n = h.0 in omega arith) in
    let hired = h.1 i k.0 worker k.1 a in
    record {
      seats = hired.seats;
      work = subst (IsWork scripts arrivals) (sym hired.is) (is_work scripts arrivals i k.0 (subst (λ (l : List Work). slice_get l i ≡ Some k.0) e k.1));
    })

pub all_back : {D S : Type 0} (is_seat : D → S → Type 0) (spec : D → PartSpec) (view : S → DeskView) (desks : List D) (scripts : List ThreadSpec) (arrivals : List (List (List ℕ)))
    (workers : List (Worker S)) (dones : List (Done S)) → Each (IsDone is_seat spec view desks scripts arrivals) workers dones → All (λ done. AreSeats is_seat desks done.seats.items) dones
all_back is_seat spec view desks scripts arrivals workers dones h =
    all_from (λ done. AreSeats is_seat desks done.seats.items) dones (λ i done a.
    let l = slice_get_within dones i done a in
    let w = some_at workers i (let n = h.0 in omega arith) in
    (h.1 i w.0 done w.1 a).seats)

-- the same for lists that are equal
pub ended_with : (specs : List PartSpec) (scripts : List ThreadSpec) (arrivals : List (List (List ℕ))) (starts : List DeskView) (works works' : List Work) (others : List (List DeskView)) (ends ends' : List (Result (List Receipt) WorkerStop))
    → works ≡ works' → ends' ≡ ends → AllEnded specs scripts arrivals starts works others ends → AllEnded specs scripts arrivals starts works' others ends'
ended_with specs scripts arrivals starts works works' others ends ends' e f h =
    subst (AllEnded specs scripts arrivals starts works' others) (sym f) (subst (λ k. AllEnded specs scripts arrivals starts k others ends) e h)
