-- A walk along the instructions of a burst finds the one of a deed.
use Rattle.std.proofs.Common.{◌≡◌, ◌<◌, ◌≤◌, ◌+◌, ◌-◌, ◌||◌, ℕ, suc, Bool, true, false, nat_le, nat_lt, is_some, Option, Some, None, List, ◌++◌, length, refl, sym, ap, ap₂, ◌∙◌, arith, []}
use Rattle.std.proofs.lemmas.Bool.{leb-false}
use Rattle.driver_isa.specs.Turns.{IsExecuted}
use Rattle.front_laws.proofs.Striking.{one_turn_is, past_crossing, turn_by, turn_stops, turn_turns, turned}
use Rattle.front_laws.proofs.Within.{to_after, to_is, to_over}
use Rattle.guard_defs.specs.Turns.{turns_to}
use Rattle.machine_defs.proofs.BurstKeeps.{split}
use Rattle.machine_defs.specs.Burst.{Burst, Struck, acts_of, count_at, ended, on, one_turn, over, strikes_at}
use Rattle.machine_defs.specs.Execution.{Machine, Executed, turn}
use Rattle.nook_data.specs.declared.entries.Entry.{Entry}
use Rattle.nook_data.specs.declared.machine.Act.{Act}
use Rattle.nook_data.specs.declared.machine.BurstEnd.{BurstEnd}
use Rattle.nook_data.specs.declared.machine.BurstEnd.TheVariants as ends
use Rattle.nook_data.specs.declared.machine.TrapCause.{TrapCause}
use Rattle.nook_data.specs.declared.scenario.Fault.{Fault}

-- the instructions done so far and those left in the burst
record IsAt (turns : ℕ) : Type 0 where
  whole : 4096 - turns ≡ suc (4096 - (turns + 1))
  here : 4096 - suc (4096 - (turns + 1)) ≡ turns

at_turn : (turns : ℕ) → turns < 4096 → IsAt turns
at_turn turns h = record { whole = omega arith; here = omega arith }

-- the faults that are due strike, over equal entries
here : (turns : ℕ) (entries own : List Entry) (faults : List Fault) (m : Machine) (s : Struck) → IsAt turns → own ≡ entries
    → strikes_at turns own faults m ≡ s → strikes_at (4096 - suc (4096 - (turns + 1))) entries faults m ≡ s
here turns entries own faults m s at same struck = ap₂ (λ (n : ℕ) (es : List Entry). strikes_at n es faults m) at.here (sym same) ∙ struck

some_of : {X : Type 0} (o : Option X) → is_some o ≡ true → (x : X) × (o ≡ Some x)
some_of None h = cc
some_of (Some x) h = (x, refl)

none_of : {X : Type 0} (o : Option X) → is_some o ≡ false → o ≡ None
none_of None h = refl
none_of (Some x) h = cc

-- before the first instruction all of the burst is left
pub walk_begins : (index : ℕ) (entries : List Entry) (faults : List Fault) (m : Machine) (acts : List Act) → acts ≡ []
    → turns_to index 4096 entries faults m acts ≡ turns_to index 4096 entries faults m []
walk_begins index entries faults m acts e = ap (turns_to index 4096 entries faults m) e

-- a trap of the script comes before the instruction
pub walk_stops : (index turns : ℕ) (entries own : List Entry) (faults : List Fault) (m : Machine) (acts : List Act) (whole : ℕ) (s : Struck)
    → turns < 4096 → turns_to index (4096 - turns) entries faults m acts ≡ whole → own ≡ entries → strikes_at turns own faults m ≡ s
    → is_some s.stopped ≡ true → turns ≡ whole
walk_stops index turns entries own faults m acts whole s h e same struck stopped =
    let at : IsAt turns = at_turn turns h in
    let left : ℕ = 4096 - (turns + 1) in
    let some : (cause : TrapCause) × (s.stopped ≡ Some cause) = some_of s.stopped stopped in
    let b : Burst = ended (count_at (4096 - suc left) some.0) s.machine acts (ends.Trap some.0) in
    let ends_so : one_turn left entries faults m acts ≡ over b =
    one_turn_is left entries faults m acts ∙ ap (turn_by left entries acts) (here turns entries own faults m s at same struck)
    ∙ turn_stops left entries acts s some.0 some.1 in
    sym at.here ∙ sym (to_over index left entries faults m acts b ends_so) ∙ rw at.whole at e

past_over : (left : ℕ) (rest : List Fault) (m : Machine) (acts : List Act) → nat_le 64 (length acts) ≡ true
    → past_crossing left rest m acts None ≡ over (ended (4096 - left) m acts ends.Pause)
past_over left rest m acts h = rw h refl

past_on : (left : ℕ) (rest : List Fault) (m : Machine) (acts : List Act) → nat_le 64 (length acts) ≡ false
    → past_crossing left rest m acts None ≡ on m rest acts
past_on left rest m acts h = rw h refl

abbrev IsLast : ℕ → Option BurstEnd → List Act → Bool → Type 0
IsLast index crossing acts b = (is_some crossing || nat_lt index (length acts) || nat_le 64 (length acts)) ≡ b

last_turn : (index left : ℕ) (entries : List Entry) (rest : List Fault) (m : Machine) (acts : List Act) (o : Option BurstEnd)
    → IsLast index o acts true → to_after index left entries (past_crossing left rest m acts o) ≡ 4096 - suc left
last_turn index left entries rest m acts (Some crossing) h = refl
last_turn index left entries rest m acts None h = split (nat_le 64 (length acts))
    (λ many. ap (to_after index left entries) (past_over left rest m acts many))
    (λ few. ap (to_after index left entries) (past_on left rest m acts few) ∙ split (nat_lt index (length acts))
    (λ here. rw here refl)
    (λ later. let no : false ≡ true = rw (later, few) at h in absurd cc))

left_false : (a b : Bool) → a || b ≡ false → a ≡ false
left_false true b h = h
left_false false b h = refl

right_false : (a b : Bool) → a || b ≡ false → b ≡ false
right_false true b h = absurd cc
right_false false b h = h

more_turns : (index left : ℕ) (entries : List Entry) (rest : List Fault) (m : Machine) (acts : List Act) (o : Option BurstEnd)
    → IsLast index o acts false
    → to_after index left entries (past_crossing left rest m acts o) ≡ turns_to index left entries rest m acts
more_turns index left entries rest m acts (Some crossing) h = absurd cc
more_turns index left entries rest m acts None h =
    let later : nat_lt index (length acts) ≡ false = left_false (nat_lt index (length acts)) (nat_le 64 (length acts)) h in
    let few : nat_le 64 (length acts) ≡ false = right_false (nat_lt index (length acts)) (nat_le 64 (length acts)) h in
    ap (to_after index left entries) (past_on left rest m acts few) ∙ rw later refl

-- if no fault that is due is a trap, the rest of the burst follows from its next instruction
turn_here : (index turns : ℕ) (entries own later : List Entry) (faults : List Fault) (m : Machine) (acts : List Act) (s : Struck) (left : Machine)
    (after : List Act) (crossing : Option BurstEnd) → turns < 4096 → own ≡ entries
    → strikes_at turns own faults m ≡ s → is_some s.stopped ≡ false → later ≡ own → IsExecuted (turn later s.machine) left acts after crossing
    → turns_to index (4096 - turns) entries faults m acts
    ≡ to_after index (4096 - (turns + 1)) entries (past_crossing (4096 - (turns + 1)) s.rest left after crossing)
turn_here index turns entries own later faults m acts s left after crossing h same struck stopped kept t =
    let at : IsAt turns = at_turn turns h in
    let more : ℕ = 4096 - (turns + 1) in
    let made : Executed = turn entries s.machine in
    let t' : IsExecuted made left acts after crossing = rw (kept, same) at t in
    let one : one_turn more entries faults m acts ≡ turned more entries acts s =
    one_turn_is more entries faults m acts ∙ ap (turn_by more entries acts) (here turns entries own faults m s at same struck)
    ∙ turn_turns more entries acts s (none_of s.stopped stopped) in
    let left_so : turned more entries acts s ≡ past_crossing more s.rest left after crossing =
    ap (λ (k : Machine). past_crossing more s.rest k (acts ++ acts_of made.act) made.crossing) t'.machine
    ∙ ap (λ (xs : List Act). past_crossing more s.rest left xs made.crossing) (sym t'.acts)
    ∙ ap (past_crossing more s.rest left after) t'.crossing in
    rw at.whole (to_is index more entries faults m acts ∙ ap (to_after index more entries) (one ∙ left_so))

-- the instruction ends the burst or does the act
pub walk_ends : (index turns : ℕ) (entries own later : List Entry) (faults : List Fault) (m : Machine) (acts : List Act) (whole : ℕ) (s : Struck)
    (left : Machine) (after : List Act) (crossing : Option BurstEnd)
    → turns < 4096 → turns_to index (4096 - turns) entries faults m acts ≡ whole → own ≡ entries → strikes_at turns own faults m ≡ s
    → is_some s.stopped ≡ false → later ≡ own → IsExecuted (turn later s.machine) left acts after crossing
    → (is_some crossing || nat_lt index (length after) || nat_le 64 (length after)) ≡ true → turns ≡ whole
walk_ends index turns entries own later faults m acts whole s left after crossing h e same struck stopped kept t last =
    let at : IsAt turns = at_turn turns h in
    sym at.here ∙ sym (last_turn index (4096 - (turns + 1)) entries s.rest left after crossing last)
    ∙ sym (turn_here index turns entries own later faults m acts s left after crossing h same struck stopped kept t) ∙ e

-- it does neither
pub walk_goes_on : (index turns : ℕ) (entries own later : List Entry) (faults : List Fault) (m : Machine) (acts : List Act) (whole : ℕ) (s : Struck)
    (left : Machine) (after : List Act) (crossing : Option BurstEnd)
    → turns < 4096 → turns_to index (4096 - turns) entries faults m acts ≡ whole → own ≡ entries → strikes_at turns own faults m ≡ s
    → is_some s.stopped ≡ false → later ≡ own → IsExecuted (turn later s.machine) left acts after crossing
    → (is_some crossing || nat_lt index (length after) || nat_le 64 (length after)) ≡ false
    → turns_to index (4096 - (turns + 1)) entries s.rest left after ≡ whole
walk_goes_on index turns entries own later faults m acts whole s left after crossing h e same struck stopped kept t last =
    sym (more_turns index (4096 - (turns + 1)) entries s.rest left after crossing last)
    ∙ sym (turn_here index turns entries own later faults m acts s left after crossing h same struck stopped kept t) ∙ e

pub few_after : (crossing : Option BurstEnd) (index : ℕ) (acts : List Act)
    → (is_some crossing || nat_lt index (length acts) || nat_le 64 (length acts)) ≡ false → length acts < 64
few_after (Some x) index acts h = absurd cc
few_after None index acts h =
    leb-false 64 (length acts) (right_false (nat_lt index (length acts)) (nat_le 64 (length acts)) h)

pub few_first : (acts : List Act) → acts ≡ [] → length acts < 64
few_first acts e = rw e (omega arith)

-- no instruction is left
pub walk_over : (index turns : ℕ) (entries : List Entry) (faults : List Fault) (m : Machine) (acts : List Act) (whole : ℕ)
    → 4096 ≤ turns → turns_to index (4096 - turns) entries faults m acts ≡ whole → 4096 ≡ whole
unfolding turns_to
walk_over index turns entries faults m acts whole h e =
    let none : 4096 - turns ≡ 0 = omega arith in rw none at e
