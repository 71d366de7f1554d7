-- Counts down from the most operations, thread by thread.
use Rattle.std.proofs.Common.{◌≡◌, refl, sym, ℕ, ◌+◌, ◌-◌, ◌<◌, ◌≤◌, true, nat_lt, List, length, drop, get_or, add-one, arith}
use Rattle.std.proofs.Math.Seq.{drop-cons}
use Rattle.std.proofs.lemmas.Bool.Decides.{nat_tests}
use Rattle.nook_data.specs.Members.{ops_count}
use Rattle.nook_data.specs.declared.scenario.ThreadSpec.{ThreadSpec}

-- the operations from a thread on are its operations and those of the later threads
pub one_thread : (threads : List ThreadSpec) (i : ℕ) (thread : ThreadSpec) → i < length threads → thread ≡ get_or threads i thread
    → ops_count (drop i threads) ≡ length thread.ops + ops_count (drop (i + 1) threads)
one_thread threads i thread h e = rw (drop-cons threads i thread h, add-one i, sym e) refl

pub fewer_left : (left count rest : ℕ) → count ≤ left → nat_lt left (count + rest) ≡ nat_lt (left - count) rest
fewer_left left count rest h = grind (arith, nat_tests)

pub none_left : (left count rest : ℕ) → left < count → nat_lt left (count + rest) ≡ true
none_left left count rest h = grind (arith, nat_tests)
