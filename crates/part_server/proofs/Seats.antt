-- One turn, as the code takes it.
use Rattle.std.proofs.Common.{◌≡◌, ℕ, ◌+◌, ◌<◌, Bool, true, false, Some, None, Result, Ok, Err, List, length, drop, refl, sym, ap, ◌∙◌, subst, arith}
use Rattle.std.specs.Prelude.{is_ok}
use mathlib.Core.List.{IsPrefix}
use Rattle.nook_data.specs.declared.desks.DeskRefused.{DeskRefused}
use Rattle.nook_data.specs.declared.calls.Op.{Op}
use Rattle.nook_data.specs.declared.scenario.PartSpec.{PartSpec}
use Rattle.nook_data.specs.declared.desks.Receipt.{Receipt}
use Rattle.nook_data.specs.declared.memory.NoMemory.{NoMemory}
use Rattle.part_defs.specs.Runs.{PartRun, IsRun, state_of}
use Rattle.part_defs.specs.Views.CallLogs.{answered_from}
use Rattle.part_defs.specs.State.{PartState}
use Rattle.nook_data.specs.Valid.{IsValidPart}
use Rattle.desk_like.specs.Desks.{DeskView, IsAt, IsReply, HasOpen, ArriveEnds}
use Rattle.part_core.specs.Kept.{IsKept}
use Rattle.turn_lock.specs.Seats.{IsAlone}
use Rattle.turn_lock.specs.Views.{took, committed, gave}
use Rattle.part_server.specs.declared.waiting.Progress.{Progress}
use Rattle.part_server.specs.declared.waiting.Progress.TheVariants as progress
use Rattle.part_server.specs.declared.waiting.Waiting.{Waiting}
use Rattle.part_server.specs.Turns.{InvokeGives, GoOnGives, FindGives, ArriveGives, SettleGives, LookGives, IsGoingOn, IsWaitingIn, seen_view, IsSeen, InvokeEnds, AdvanceEnds, FindEnds, SettlesOnce, ended, took_step}
use Rattle.part_server.proofs.Ends.{Vw, invoke_ends_ok, advance_ends_ok, arrive_ends_ok, settle_ends_ok, invoke_ends_err, advance_ends_err, found_ends, find_ends, arrive_ends_err, settle_ends_none, settle_ends_err, invoke_same, go_on_same, arrive_same}
use Rattle.part_server.proofs.Opens.{still_open}

-- the part r was taken through a seat whose view was v
pub record IsTaken (spec : PartSpec) (old v : Vw) (r : PartRun) : Type 0 where
  pub same : v ≡ old
  pub begins : IsPrefix v.seen r.journal
  pub alone : IsAlone v → r.journal ≡ v.seen
  pub home : r.state.spec ≡ spec

module _ (stamps stamps' : List ℕ) (clock clock' : ℕ) (spec : PartSpec) (old v w : Vw) (r q : PartRun) (t : IsTaken spec old v r) (k : IsKept q) where
  abbrev Given : Type 0
  Given = w ≡ gave (committed (took v r.journal) q.journal)

  abbrev Returned : Type 0
  Returned = w ≡ gave (took v r.journal)

  both : (P : DeskView → DeskView → Type 0) (x : Vw) → w ≡ x → P (seen_view v stamps clock) (seen_view x stamps' clock') → P (seen_view old stamps clock) (seen_view w stamps' clock')
  both P x e p = subst (λ (a : Vw). P (seen_view a stamps clock) (seen_view w stamps' clock')) t.same (subst (λ (b : Vw). P (seen_view v stamps clock) (seen_view b stamps' clock')) (sym e) p)

  invoke_commits : (thread : ℕ) (o : Op) (p : Progress) → Given → InvokeGives r q thread o (Ok p) → InvokeEnds spec (seen_view old stamps clock) (seen_view w stamps' clock') thread o (Ok p)
  invoke_commits thread o p e h =
      both (λ a b. InvokeEnds spec a b thread o (Ok p)) (gave (committed (took v r.journal) q.journal)) e
      (invoke_ends_ok stamps stamps' clock clock' spec v r q t.begins t.alone t.home k.state thread o p h)

  advance_commits : (w0 : Waiting) (p : Progress) → Given → GoOnGives r q w0 (Ok p) → AdvanceEnds spec (seen_view old stamps clock) (seen_view w stamps' clock') w0 (Ok p)
  advance_commits w0 p e h =
      both (λ a b. AdvanceEnds spec a b w0 (Ok p)) (gave (committed (took v r.journal) q.journal)) e
      (advance_ends_ok stamps stamps' clock clock' spec v r q t.begins t.alone t.home k.state w0 p h)

  arrive_commits : (frame : List ℕ) (kept : Bool) → Given → ArriveGives r q frame (Ok kept) → ArriveEnds spec (seen_view old stamps clock) (seen_view w stamps' clock') frame (Ok kept)
  arrive_commits frame kept e h =
      both (λ a b. ArriveEnds spec a b frame (Ok kept)) (gave (committed (took v r.journal) q.journal)) e
      (arrive_ends_ok stamps stamps' clock clock' spec v r q t.begins t.alone t.home k.state frame kept h)

  settle_commits : Given → SettleGives r q (Ok true) → SettlesOnce spec (seen_view old stamps clock) (seen_view w stamps' clock') (Ok true)
  settle_commits e h =
      both (λ a b. SettlesOnce spec a b (Ok true)) (gave (committed (took v r.journal) q.journal)) e
      (settle_ends_ok stamps stamps' clock clock' spec v r q t.begins t.alone t.home k.state h)

  kept_of : q ≡ r → IsKept r
  kept_of e = subst IsKept e k

  invoke_returns : (thread : ℕ) (o : Op) (x : DeskRefused) → Returned → InvokeGives r q thread o (Err x)
      → InvokeEnds spec (seen_view old stamps clock) (seen_view w stamps' clock') thread o (Err x)
  invoke_returns thread o x e h =
      both (λ a b. InvokeEnds spec a b thread o (Err x)) (gave (took v r.journal)) e
      (invoke_ends_err stamps stamps' clock clock' spec v r t.begins t.alone t.home (kept_of (invoke_same r q thread o x h)).state q thread o x h)

  advance_returns : (w0 : Waiting) (x : DeskRefused) → Returned → HasOpen r.state w0.thread w0.call → GoOnGives r q w0 (Err x)
      → AdvanceEnds spec (seen_view old stamps clock) (seen_view w stamps' clock') w0 (Err x)
  advance_returns w0 x e waits h =
      both (λ a b. AdvanceEnds spec a b w0 (Err x)) (gave (took v r.journal)) e
      (advance_ends_err stamps stamps' clock clock' spec v r t.begins t.alone t.home (kept_of (go_on_same r q w0 x h)).state q w0 x waits h)

  arrive_returns : (frame : List ℕ) (x : DeskRefused) → Returned → ArriveGives r q frame (Err x)
      → ArriveEnds spec (seen_view old stamps clock) (seen_view w stamps' clock') frame (Err x)
  arrive_returns frame x e h =
      both (λ a b. ArriveEnds spec a b frame (Err x)) (gave (took v r.journal)) e
      (arrive_ends_err stamps stamps' clock clock' spec v r t.begins t.alone t.home (kept_of (arrive_same r q frame x h)).state q frame x h)

  settle_still : Returned → SettleGives r q (Ok false) → SettlesOnce spec (seen_view old stamps clock) (seen_view w stamps' clock') (Ok false)
  settle_still e h =
      both (λ a b. SettlesOnce spec a b (Ok false)) (gave (took v r.journal)) e
      (settle_ends_none stamps stamps' clock clock' spec v r t.begins t.alone t.home (kept_of h.0).state q h)

  settle_refused : (x : NoMemory) → Returned → SettleGives r q (Err x) → SettlesOnce spec (seen_view old stamps clock) (seen_view w stamps' clock') (Err x)
  settle_refused x e h =
      both (λ a b. SettlesOnce spec a b (Err x)) (gave (took v r.journal)) e
      (settle_ends_err stamps stamps' clock clock' spec v r t.begins t.alone t.home (kept_of h).state x)

  pub invoke_ends : (thread : ℕ) (o : Op) (x : Result Progress DeskRefused) → w ≡ ended (is_ok x) (took v r.journal) q.journal
      → InvokeGives r q thread o x → InvokeEnds spec (seen_view old stamps clock) (seen_view w stamps' clock') thread o x
  invoke_ends thread o (Ok p) e h = invoke_commits thread o p e h
  invoke_ends thread o (Err x) e h = invoke_returns thread o x e h

  pub advance_ends : (w0 : Waiting) (x : Result Progress DeskRefused) → w ≡ ended (is_ok x) (took v r.journal) q.journal
      → HasOpen r.state w0.thread w0.call → GoOnGives r q w0 x → AdvanceEnds spec (seen_view old stamps clock) (seen_view w stamps' clock') w0 x
  advance_ends w0 (Ok p) e waits h = advance_commits w0 p e h
  advance_ends w0 (Err x) e waits h = advance_returns w0 x e waits h

  pub arrive_ends : (frame : List ℕ) (x : Result Bool DeskRefused) → w ≡ ended (is_ok x) (took v r.journal) q.journal
      → ArriveGives r q frame x → ArriveEnds spec (seen_view old stamps clock) (seen_view w stamps' clock') frame x
  arrive_ends frame (Ok kept) e h = arrive_commits frame kept e h
  arrive_ends frame (Err x) e h = arrive_returns frame x e h

  pub settle_ends : (x : Result Bool NoMemory) → w ≡ ended (took_step x) (took v r.journal) q.journal
      → SettleGives r q x → SettlesOnce spec (seen_view old stamps clock) (seen_view w stamps' clock') x
  settle_ends (Ok true) e h = settle_commits e h
  settle_ends (Ok false) e h = settle_still e h
  settle_ends (Err x) e h = settle_refused x e h

-- a turn that only reads
module _ (stamps stamps' : List ℕ) (clock clock' : ℕ) (spec : PartSpec) (old v w : Vw) (r : PartRun) (t : IsTaken spec old v r) (k : IsKept r) where
  pub find_returns : (thread : ℕ) (x : Result Waiting DeskRefused) → w ≡ gave (took v r.journal) → FindGives r thread x
      → FindEnds spec (seen_view old stamps clock) (seen_view w stamps' clock') thread x
  find_returns thread x e h =
      both stamps stamps' clock clock' spec old v w r r t k (λ a b. FindEnds spec a b thread x) (gave (took v r.journal)) e (find_ends stamps stamps' clock clock' spec v r t.begins t.alone t.home k.state thread x h)

  pub look_returns : (w0 : Waiting) (receipt : Receipt) → w ≡ gave (took v r.journal) → IsWaitingIn spec (seen_view old stamps clock) w0 → LookGives r.journal w0 (Ok receipt)
      → AdvanceEnds spec (seen_view old stamps clock) (seen_view w stamps' clock') w0 (Ok (progress.Answered receipt))
  look_returns w0 receipt e waits h =
      let at : IsAt r.journal receipt.at_reply (IsReply w0.call receipt.answer) = h.3 in
      let past : w0.looked < receipt.at_reply = h.2 in
      let looked : w0.looked ≡ length v.seen = waits.1 ∙ ap (λ (x : Vw). length x.seen) (sym t.same) in
      both stamps stamps' clock clock' spec old v w r r t k (λ a b. AdvanceEnds spec a b w0 (Ok (progress.Answered receipt))) (gave (took v r.journal)) e
      (found_ends stamps stamps' clock clock' spec v r t.begins t.alone t.home k.state w0 receipt receipt.at_reply at.event at.there (omega arith) h.0 h.1 refl at.is)

  -- an open call that is not answered yet continues
  pub look_goes_on : (w0 next : Waiting) → IsSeen v.origin v.seen → v.origin ≡ Some spec → IsWaitingIn spec (seen_view old stamps clock) w0 → LookGives r.journal w0 (Err next)
      → IsGoingOn r next
  look_goes_on w0 next seen home waits h =
      let run : IsRun spec v.seen = seen spec home in
      let opened : HasOpen (state_of spec v.seen) w0.thread w0.call =
      subst (λ (x : Vw). HasOpen (state_of spec x.seen) w0.thread w0.call) (sym t.same) waits.0 in
      let looked : w0.looked ≡ length v.seen = waits.1 ∙ ap (λ (x : Vw). length x.seen) (sym t.same) in
      let silent : answered_from (length v.seen + 1) w0.call (drop (length v.seen) r.journal) ≡ None =
      ap (λ (n : ℕ). answered_from (n + 1) w0.call (drop n r.journal)) (sym looked) ∙ h.1 in
      let whole : IsRun spec r.journal = subst (λ (s : PartSpec). IsRun s r.journal) t.home k.run in
      let now : HasOpen (state_of spec r.journal) w0.thread w0.call =
      still_open spec v.seen r.journal w0.thread w0.call (subst (λ (s : PartSpec). IsValidPart s) t.home k.valid) run t.begins whole opened silent in
      let here : HasOpen r.state w0.thread w0.call =
      subst (λ (p : PartState). HasOpen p w0.thread w0.call) (sym (k.state ∙ ap (λ (s : PartSpec). state_of s r.journal) t.home)) now in
      subst (IsGoingOn r) (sym h.0) (here, waits.2)
