use Rattle.std.specs.Prelude.{◌≡◌, ℕ, ⊤, false, List, ◌++◌}
use Rattle.explore_defs.specs.Explored.{explored_line}
use Rattle.nook_data.specs.Types.{MemberRow}
use Rattle.nooks.specs.declared.program.Status.{Status}
use Rattle.nooks.specs.declared.program.Status.TheVariants as ended

-- Answers of `explore` that differ only in the number of states.

-- two texts have these rows, and a last line that counts them and says that all orders were followed
pub record HaveSameRows (text other : List ℕ) : Type 0 where
  pub rows : List ℕ
  pub numbers : List MemberRow
  pub states : ℕ
  pub others : ℕ
  pub text_is : text ≡ rows ++ explored_line false states numbers
  pub other_is : other ≡ rows ++ explored_line false others numbers

-- a status that says that every order was followed and none breaks a contract
abbrev pub HasFollowedAll : Status → Type 0
HasFollowedAll ended.Done = ⊤
HasFollowedAll ended.GivenUp = ⊤
HasFollowedAll status = ⊥
