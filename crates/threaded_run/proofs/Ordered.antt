-- The journals of threads that finished their scripts by one clock are one run.
use Rattle.std.proofs.Common.{◌≡◌, ℕ, zero, suc, ◌<◌, ◌≤◌, List, [], ◌∷◌, ◌++◌, map, slice_index_or, refl, sym, subst, arith}
use mathlib.Core.List.{IsPrefix}
use Rattle.app_threads.specs.Order.{AllFollow, Follows}
use Rattle.desk_like.specs.Stamps.{stamp_at, stamp_of, stamps_on}
use Rattle.nook_data.specs.Views.Room.{Kept}
use Rattle.nook_data.specs.declared.calls.Op.{Op}
use Rattle.nook_data.specs.declared.desks.Receipt.{Receipt}
use Rattle.nook_data.specs.declared.scenario.ThreadSpec.{ThreadSpec}
use Rattle.nook_data.specs.declared.steps.Event.{Event}
use Rattle.order_defs.specs.OneClock.{AreInOrder, AreStamped, Follow}
use Rattle.run_results.specs.Journals.{events_in}
use Rattle.threaded_run.proofs.Growing.{receipts_grown}
use Rattle.threaded_run.specs.Leaving.{AreStampedFrom, HaveRows}
use Rattle.threaded_run.specs.Threaded.{HaveReceipts, journal_at}

-- ---- stamps of which only a prefix was seen

-- the journals' events are stamped, and each part's stamps begin with these
pub record Begun (seen : List (List ℕ)) (journals : List (List Event)) : Type 0 where
  pub stamps : List (List ℕ)
  pub stamped : AreStamped journals stamps
  pub begin : (part : ℕ) → IsPrefix (stamps_on seen part) (stamps_on stamps part)

pub begun : (seen : List (List ℕ)) (journals : List (Kept Event)) → AreStampedFrom seen journals → Begun seen (map events_in journals)
begun [] [] h = record { stamps = []; stamped = tt; begin = λ part. ([], refl) }
begun [] (journal ∷ journals) h = absurd h
begun (own ∷ seen) [] h = absurd h
begun (own ∷ seen) (journal ∷ journals) h =
    let more : Begun seen (map events_in journals) = begun seen journals h.1 in
    record {
      stamps = h.0.stamps ∷ more.stamps;
      stamped = (h.0.stamped, more.stamped);
      begin = λ part. by_part more part;
    }
  where
    by_part : (more : Begun seen (map events_in journals)) (part : ℕ)
        → IsPrefix (stamps_on (own ∷ seen) part) (stamps_on (h.0.stamps ∷ more.stamps) part)
    by_part more zero = h.0.begins
    by_part more (suc part) = more.begin part

-- a number above 0 stays in a list that grows
kept_at : (i : ℕ) (seen rest : List ℕ) → 0 < slice_index_or seen i 0 → slice_index_or (seen ++ rest) i 0 ≡ slice_index_or seen i 0
kept_at i [] rest h = absurd (omega arith)
kept_at zero (x ∷ seen) rest h = refl
kept_at (suc i) (x ∷ seen) rest h = kept_at i seen rest h

stamp_kept : (seen stamps : List ℕ) (number : ℕ) → IsPrefix seen stamps → 0 < stamp_of seen number → stamp_of stamps number ≡ stamp_of seen number
stamp_kept seen stamps zero p h = refl
stamp_kept seen stamps (suc i) p h =
    subst (λ (xs : List ℕ). slice_index_or xs i 0 ≡ slice_index_or seen i 0) p.1 (kept_at i seen p.0 h)

-- ---- threads

module _ (seens journals : List (List Event)) (seen stamps : List (List ℕ))
    (begins : (part : ℕ) → IsPrefix (journal_at seens part) (journal_at journals part))
    (begin : (part : ℕ) → IsPrefix (stamps_on seen part) (stamps_on stamps part)) where
  at_kept : (part number : ℕ) → 0 < stamp_at seen part number → stamp_at stamps part number ≡ stamp_at seen part number
  at_kept part number h = stamp_kept (stamps_on seen part) (stamps_on stamps part) number (begin part) h

  above : (a b : ℕ) → a < b → 0 < b
  above a b l = omega arith

  no_less : (a b : ℕ) → 0 < a → a ≤ b → 0 < b
  no_less a b l m = omega arith

  follow_on : (thread last : ℕ) (ops : List (ℕ × Op)) (receipts : List Receipt) → HaveReceipts journals thread ops receipts → Follows seen last ops receipts
      → Follow journals stamps thread last ops receipts
  follow_on thread last [] [] have f = tt
  follow_on thread last [] (r ∷ receipts) have f = absurd have
  follow_on thread last (o ∷ ops) [] have f = absurd have
  follow_on thread last ((part, op) ∷ ops) (r ∷ receipts) have f =
      let invoked : 0 < stamp_at seen part r.at_invoke = above last (stamp_at seen part r.at_invoke) f.0 in
      let answered : 0 < stamp_at seen part r.at_reply = no_less (stamp_at seen part r.at_invoke) (stamp_at seen part r.at_reply) invoked f.1 in (
        have.0,
        subst (λ (n : ℕ). last < n) (sym (at_kept part r.at_invoke invoked)) f.0,
        subst (λ (n : ℕ). Follow journals stamps thread n ops receipts) (sym (at_kept part r.at_reply answered))
            (follow_on thread (stamp_at seen part r.at_reply) ops receipts have.1 f.2),
      )

  pub in_order : (thread : ℕ) (threads : List ThreadSpec) (rows : List (List Receipt)) → HaveRows seens thread threads rows → AllFollow seen threads rows
      → AreInOrder journals stamps thread threads
  in_order thread [] rows h f = tt
  in_order thread (t ∷ threads) [] h f = absurd h
  in_order thread (t ∷ threads) (row ∷ rows) h f = (
    record { receipts = row; follow = follow_on thread 0 t.ops row (receipts_grown seens journals thread t.ops row begins h.0.0) f.0 },
    in_order (suc thread) threads rows h.1 f.1,
  )
