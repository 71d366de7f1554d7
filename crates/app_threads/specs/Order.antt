-- The order of each thread's operations over all desks, by one clock.
use Rattle.std.specs.Prelude.{ℕ, ◌<◌, ◌≤◌, List, [], ◌∷◌, map}
use Rattle.app_threads.specs.Workers.{AtDesks}
use Rattle.desk_like.specs.Desks.{DeskView}
use Rattle.desk_like.specs.Stamps.{Clocked, stamp_at}
use Rattle.nook_data.specs.declared.calls.Op.{Op}
use Rattle.nook_data.specs.declared.desks.Receipt.{Receipt}
use Rattle.nook_data.specs.declared.scenario.ThreadSpec.{ThreadSpec}

-- the stamps that the seats have seen, desk by desk
abbrev pub all_stamps : List DeskView → List (List ℕ)
all_stamps views = map (λ v. v.stamps) views

-- each operation was invoked later than the previous one was answered, even on different desks, and no later than
-- it was answered itself; the first was invoked later than `last`
abbrev pub Follows : List (List ℕ) → ℕ → List (ℕ × Op) → List Receipt → Type 0
Follows stamps last [] [] = Unit {0}
Follows stamps last ((part, op) ∷ ops) (receipt ∷ receipts) =
    (last < stamp_at stamps part receipt.at_invoke)
    × (stamp_at stamps part receipt.at_invoke ≤ stamp_at stamps part receipt.at_reply)
    × Follows stamps (stamp_at stamps part receipt.at_reply) ops receipts
Follows stamps last _ _ = ⊥

-- the same for the operations of every thread
abbrev pub AllFollow : List (List ℕ) → List ThreadSpec → List (List Receipt) → Type 0
AllFollow stamps [] [] = Unit {0}
AllFollow stamps (script ∷ scripts) (row ∷ rows) = Follows stamps 0 script.ops row × AllFollow stamps scripts rows
AllFollow stamps _ _ = ⊥

-- a seat whose events were stamped still has them stamped
pub record KeepsClocked (old new : DeskView) : Type 0 where
  pub still : Clocked old → Clocked new

abbrev pub KeepClocked : List DeskView → List DeskView → Type 0
KeepClocked olds news = AtDesks (λ d v w. KeepsClocked v w) olds news
