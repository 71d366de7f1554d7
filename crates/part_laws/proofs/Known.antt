-- What is known while a monitor watches.
use Rattle.std.proofs.Common.{◌≡◌, ℕ, Bool, Option, List}
use Rattle.part_laws.specs.Watch.{Watch}
use Rattle.nook_data.specs.declared.clause.Clause.{Clause}
use Rattle.promise_defs.specs.Contract.{Deed, Known, breaks, call_of, is_broken_by}
use Rattle.nook_data.specs.Clauses.{all_clauses}
use Rattle.part_laws.proofs.Picked.{picked}
use Rattle.part_laws.proofs.Smallest.{smallest_or}

-- what is known, according to the flags of the calls
abbrev pub known_of : List Bool → Watch → Known
known_of flags w = record {
  class = w.class;
  medium = w.medium;
  ring = w.ring;
  registers = w.registers;
  popped = w.popped;
  handed = w.handed;
  calls = picked 1 flags w.calls;
  replay = w.replay;
}

-- the smallest clause that a deed breaks or that was broken before it
abbrev pub smallest_of : List Bool → ℕ → Watch → Deed → Option ℕ
smallest_of flags call w d =
    smallest_or all_clauses (λ clause. breaks clause (known_of flags w) (call_of call (known_of flags w).calls) d) w.clause

-- the same of deeds in order
abbrev pub smallest_by : List Bool → ℕ → Watch → List Deed → Option ℕ
smallest_by flags call w ds = smallest_or all_clauses (λ clause. is_broken_by clause call (known_of flags w) ds) w.clause
