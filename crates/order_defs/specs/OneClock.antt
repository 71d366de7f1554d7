-- When the journals of several parts are those of one run: there is one clock over all parts.
use Rattle.std.specs.Prelude.{ℕ, suc, ◌<◌, List, [], ◌∷◌, slice_index_or}
use Rattle.desk_like.specs.Desks.{IsReceipt}
use Rattle.desk_like.specs.Stamps.{IsStamped, stamp_at}
use Rattle.nook_data.specs.declared.calls.Op.{Op}
use Rattle.nook_data.specs.declared.desks.Receipt.{Receipt}
use Rattle.nook_data.specs.declared.scenario.ThreadSpec.{ThreadSpec}
use Rattle.nook_data.specs.declared.steps.Event.{Event}

-- ---- stamps

-- the journal of a part
abbrev pub journal_on : List (List Event) → ℕ → List Event
journal_on journals part = slice_index_or journals part []

-- each event of each journal has a stamp, and the stamps rise in each journal
abbrev pub AreStamped : List (List Event) → List (List ℕ) → Type 0
AreStamped [] [] = Unit {0}
AreStamped [] (own ∷ stamps) = ⊥
AreStamped (journal ∷ journals) [] = ⊥
AreStamped (journal ∷ journals) (own ∷ stamps) = IsStamped journal own × AreStamped journals stamps

-- ---- threads

module _ (journals : List (List Event)) (stamps : List (List ℕ)) where
  -- a thread's operations have receipts in their parts' journals, and each was invoked after the answer of the one
  -- before, whatever the parts of the two; the first was invoked later than `last`
  abbrev pub Follow : ℕ → ℕ → List (ℕ × Op) → List Receipt → Type 0
  Follow thread last [] [] = Unit {0}
  Follow thread last [] (receipt ∷ receipts) = ⊥
  Follow thread last (o ∷ ops) [] = ⊥
  Follow thread last ((part, op) ∷ ops) (receipt ∷ receipts) =
      IsReceipt (journal_on journals part) thread op receipt × (last < stamp_at stamps part receipt.at_invoke)
      × Follow thread (stamp_at stamps part receipt.at_reply) ops receipts

  -- a thread's script was carried out in its order, over all parts
  pub record IsInOrder (thread : ℕ) (ops : List (ℕ × Op)) : Type 0 where
    pub receipts : List Receipt
    pub follow : Follow thread 0 ops receipts

  -- the script of each thread was, from this thread on
  abbrev pub AreInOrder : ℕ → List ThreadSpec → Type 0
  AreInOrder thread [] = Unit {0}
  AreInOrder thread (t ∷ threads) = IsInOrder thread t.ops × AreInOrder (suc thread) threads

-- ---- the whole

-- The journals are one run: by one clock over all parts each event has a stamp, the stamps rise in each journal, and
-- each thread invokes an operation after the one before was answered.
pub record AreOneRun (threads : List ThreadSpec) (journals : List (List Event)) : Type 0 where
  pub stamps : List (List ℕ)
  pub stamped : AreStamped journals stamps
  pub in_order : AreInOrder journals stamps 0 threads
