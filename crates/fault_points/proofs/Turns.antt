-- The instructions that a burst executes: its count, or those before the first of its faults that is a trap or a hang,
-- if these are fewer.
use Rattle.std.proofs.Common.{◌≡◌, ◌≤◌, ℕ, zero, suc, ◌+◌, ◌-◌, ◌==◌, true, false, nat_le, is_some, min, Option, Some, None, List, [], ◌∷◌, ◌++◌, length, filter, fold, refl, sym, ap, subst, ◌∙◌, arith}
use Rattle.std.proofs.lemmas.Bool.{eqb-true}
use Rattle.fault_points.specs.Bursts.{is_stop, turns_within, up_to}
use Rattle.front_laws.proofs.Ordered.{burst_rises}
use Rattle.front_laws.proofs.Past.{burst_after, burst_is, by_going, turns_on, turns_over, turns_stop}
use Rattle.front_laws.proofs.Striking.{LeavesRising, by_option, one_turn_is, past_crossing, strikes_rise, turn_leaves, turn_stops, turn_turns}
use Rattle.front_laws.specs.Fronts.{IsRising}
use Rattle.guard_defs.specs.Every.{turns_made}
use Rattle.guard_defs.specs.Turns.{turns_from, turns_of}
use Rattle.machine_defs.proofs.BurstKeeps.{split}
use Rattle.machine_defs.proofs.MachineCases.{past_trap}
use Rattle.machine_defs.specs.Burst.{Burst, Struck, acts_of, burst, burst_from, count_at, ended, on, one_turn, over, strikes_at, struck_machine, trap_of}
use Rattle.machine_defs.specs.BurstFaults.{faults_of_burst, in_order, insert_fault, is_of_burst}
use Rattle.machine_defs.specs.Execution.{Machine, turn}
use Rattle.nook_data.specs.declared.entries.Entry.{Entry}
use Rattle.nook_data.specs.declared.machine.Act.{Act}
use Rattle.nook_data.specs.declared.machine.BurstEnd.{BurstEnd}
use Rattle.nook_data.specs.declared.machine.BurstEnd.TheVariants as ends
use Rattle.nook_data.specs.declared.machine.Context.{Context}
use Rattle.nook_data.specs.declared.machine.TrapCause.{TrapCause}
use Rattle.nook_data.specs.declared.machine.TrapCause.TheVariants as trap
use Rattle.nook_data.specs.declared.scenario.Fault.{Fault}
use Rattle.part_defs.proofs.PartCases.{burst_by}
use Rattle.part_defs.specs.Domain.{context_of, domain_burst, machine_of}
use Rattle.part_defs.specs.State.{PartState}

-- ---- the fewest instructions before a fault that ends a burst, whatever the faults' order

stops_at : (n : ℕ) (f : Fault) → is_stop f ≡ true → up_to n f ≡ min n f.after
stops_at n f e = rw e refl

goes_on : (n : ℕ) (f : Fault) → is_stop f ≡ false → up_to n f ≡ n
goes_on n f e = rw e refl

min_swap : (n a b : ℕ) → min (min n a) b ≡ min (min n b) a
min_swap n a b = omega arith

swapped : (n : ℕ) (f g : Fault) → up_to (up_to n f) g ≡ up_to (up_to n g) f
swapped n f g = split (is_stop f)
    (λ sf. split (is_stop g) (λ sg. rw (sf, sg) (min_swap n f.after g.after)) (λ ng. rw (sf, ng) refl))
    (λ nf. split (is_stop g) (λ sg. rw (nf, sg) refl) (λ ng. rw (nf, ng) refl))

inserted : (f : Fault) (faults : List Fault) (n : ℕ) → fold up_to n (insert_fault f faults) ≡ fold up_to (up_to n f) faults
inserted f [] n = refl
inserted f (g ∷ faults) n = split (nat_le f.after g.after)
    (λ e. rw e refl)
    (λ e. rw e (inserted f faults (up_to n g) ∙ ap (λ (k : ℕ). fold up_to k faults) (swapped n g f)))

ordered : (faults : List Fault) (n : ℕ) → fold up_to n (in_order faults) ≡ fold up_to n faults
ordered [] n = refl
ordered (f ∷ faults) n = inserted f (in_order faults) n ∙ ordered faults (up_to n f)

of_burst : (number : ℕ) (faults : List Fault) (n : ℕ) → fold up_to n (filter (is_of_burst number) faults) ≡ turns_within faults number n
of_burst number [] n = refl
of_burst number (f ∷ faults) n = split (is_of_burst number f)
    (λ e. rw e (of_burst number faults (up_to n f)))
    (λ e. rw e (of_burst number faults n))

-- the faults of a burst in the order in which they strike
in_burst : (number : ℕ) (faults : List Fault) (n : ℕ) → fold up_to n (faults_of_burst number faults) ≡ turns_within faults number n
unfolding faults_of_burst
in_burst number faults n = ordered (filter (is_of_burst number) faults) n ∙ of_burst number faults n

-- ---- the faults at a position

-- no fault comes before this number of instructions
high : (n point : ℕ) (faults : List Fault) → IsRising point faults → n ≤ point → fold up_to n faults ≡ n
high n point [] r h = refl
high n point (f ∷ faults) r h =
    let low : point ≤ f.after = r.0 in
    ap (λ (k : ℕ). fold up_to k faults) (split (is_stop f) (λ e. stops_at n f e ∙ least n f.after (omega arith)) (λ e. goes_on n f e))
    ∙ high n f.after faults r.1 (omega arith)
  where
    least : (a b : ℕ) → a ≤ b → min a b ≡ a
    least a b h = omega arith

-- the instructions before a position if the burst stops there, otherwise those before the faults that are left
abbrev turns_past : ℕ → ℕ → Struck → ℕ
turns_past point n s = elim s.stopped [ Some cause ↦ min n point | None ↦ fold up_to n s.rest ]

by_trap : (point n : ℕ) (f : Fault) (faults : List Fault) (m : Machine) (more : Struck) (o : Option TrapCause) → trap_of f.kind ≡ o
    → f.after ≡ point → IsRising point faults → fold up_to n faults ≡ turns_past point n more
    → fold up_to (up_to n f) faults ≡ turns_past point n (past_trap more m faults o)
by_trap point n f faults m more None none here r same =
    ap (λ (k : ℕ). fold up_to k faults) (goes_on n f (ap (λ (o : Option TrapCause). is_some o) none)) ∙ same
by_trap point n f faults m more (Some cause) some here r same =
    ap (λ (k : ℕ). fold up_to k faults) (stops_at n f (ap (λ (o : Option TrapCause). is_some o) some) ∙ ap (min n) here)
    ∙ high (min n point) point faults r (omega arith)

past_position : (point : ℕ) (entries : List Entry) (faults : List Fault) (m : Machine) (n : ℕ) → IsRising point faults
    → fold up_to n faults ≡ turns_past point n (strikes_at point entries faults m)
past_position point entries [] m n r = refl
past_position point entries (f ∷ faults) m n r = split (f.after == point)
    (λ here. let at : f.after ≡ point = eqb-true f.after point here in
    let rises : IsRising point faults = subst (λ (k : ℕ). IsRising k faults) at r.1 in
    rw (here, strikes_at) (by_trap point n f faults m (strikes_at point entries faults (struck_machine entries f.kind m)) (trap_of f.kind)
    refl at rises (past_position point entries faults (struck_machine entries f.kind m) n rises)))
    (λ later. rw (later, strikes_at) refl)

past_stopped : (point n : ℕ) (s : Struck) (cause : TrapCause) → s.stopped ≡ Some cause → turns_past point n s ≡ min n point
past_stopped point n s cause e = rw e refl

past_passed : (point n : ℕ) (s : Struck) → s.stopped ≡ None → turns_past point n s ≡ fold up_to n s.rest
past_passed point n s e = rw e refl

-- ---- a burst, instruction by instruction

count_low : (point : ℕ) (cause : TrapCause) → point ≤ 4096 → point ≤ count_at point cause
count_low point trap.Hang h = h
count_low point _ h = omega arith

crossing_on : (left : ℕ) (rest after : List Fault) (m m' : Machine) (acts acts' : List Act) (o : Option BurstEnd)
    → past_crossing left rest m acts o ≡ on m' after acts' → rest ≡ after
crossing_on left rest after m m' acts acts' (Some crossing) e = absurd cc
crossing_on left rest after m m' acts acts' None e = split (nat_le 64 (length acts))
    (λ many. absurd (let no : over (ended (4096 - left) m acts ends.Pause) ≡ on m' after acts' = rw many at e in cc))
    (λ few. let same : on m rest acts ≡ on m' after acts' = rw few at e in cc)

crossing_over : (left : ℕ) (rest : List Fault) (m : Machine) (acts : List Act) (o : Option BurstEnd) (b : Burst)
    → past_crossing left rest m acts o ≡ over b → b.count ≡ 4096 - left
crossing_over left rest m acts (Some crossing) b e =
    let same : ended (4096 - left) m acts crossing ≡ b = cc in sym (ap (λ (x : Burst). x.count) same)
crossing_over left rest m acts None b e = split (nat_le 64 (length acts))
    (λ many. let same : over (ended (4096 - left) m acts ends.Pause) ≡ over b = rw many at e in
    let made : ended (4096 - left) m acts ends.Pause ≡ b = cc in sym (ap (λ (x : Burst). x.count) made))
    (λ few. absurd (let no : on m rest acts ≡ over b = rw few at e in cc))

from_turn : (left : ℕ) (entries : List Entry) (faults : List Fault) (m : Machine) (acts : List Act) → left ≤ 4096
    → IsRising (4096 - left) faults
    → fold up_to (burst_from left entries faults m acts).count faults ≡ turns_from left entries faults m acts
unfolding burst_from turns_from
from_turn zero entries faults m acts h r = high 4096 4096 faults r (omega arith)
from_turn (suc left) entries faults m acts h r =
    let point : ℕ = 4096 - suc left in
    let s : Struck = strikes_at point entries faults m in
    let count : ℕ = (burst_from (suc left) entries faults m acts).count in
    by_option s.stopped
    (λ cause some. let made : count ≡ count_at point cause =
    ap (λ (b : Burst). b.count) (burst_is left entries faults m acts
    ∙ ap (burst_after left entries) (one_turn_is left entries faults m acts ∙ turn_stops left entries acts s cause some)) in
    let low : point ≤ count_at point cause = count_low point cause (omega arith) in
    past_position point entries faults m count r ∙ past_stopped point count s cause some ∙ least count point (omega arith)
    ∙ sym (turns_stop left entries faults m acts cause some))
    (λ none. let turned : one_turn left entries faults m acts ≡ past_crossing left s.rest (turn entries s.machine).machine
    (acts ++ acts_of (turn entries s.machine).act) (turn entries s.machine).crossing =
    one_turn_is left entries faults m acts ∙ turn_turns left entries acts s none in
    let passed : fold up_to count faults ≡ fold up_to count s.rest =
    past_position point entries faults m count r ∙ past_passed point count s none in
    by_going (one_turn left entries faults m acts)
    (λ m' rest acts' e.
    let same : s.rest ≡ rest = crossing_on left s.rest rest (turn entries s.machine).machine m'
    (acts ++ acts_of (turn entries s.machine).act) acts' (turn entries s.machine).crossing (sym turned ∙ e) in
    let made : burst_from (suc left) entries faults m acts ≡ burst_from left entries rest m' acts' =
    burst_is left entries faults m acts ∙ ap (burst_after left entries) e in
    let rises : IsRising (suc point) rest = subst (LeavesRising (suc point)) e (turn_leaves left entries faults m acts r) in
    passed ∙ ap (λ (xs : List Fault). fold up_to count xs) same ∙ ap (λ (b : Burst). fold up_to b.count rest) made
    ∙ from_turn left entries rest m' acts' (omega arith) (subst (λ (k : ℕ). IsRising k rest) (next left h) rises)
    ∙ sym (turns_on left entries faults m m' acts acts' rest none e))
    (λ b e.
    let made : count ≡ 4096 - left = ap (λ (x : Burst). x.count) (burst_is left entries faults m acts ∙ ap (burst_after left entries) e)
    ∙ crossing_over left s.rest (turn entries s.machine).machine (acts ++ acts_of (turn entries s.machine).act)
    (turn entries s.machine).crossing b (sym turned ∙ e) in
    let rises : IsRising (suc point) s.rest = strikes_rise point entries faults m r none in
    passed ∙ high count (suc point) s.rest rises (omega arith) ∙ made ∙ sym (turns_over left entries faults m acts b none e)))
  where
    least : (a b : ℕ) → b ≤ a → min a b ≡ b
    least a b h = omega arith

    next : (left : ℕ) → suc left ≤ 4096 → suc (4096 - suc left) ≡ 4096 - left
    next left h = omega arith

whole_burst : (entries : List Entry) (faults : List Fault) (m : Machine) → IsRising 0 faults
    → fold up_to (burst entries faults m).count faults ≡ turns_of entries faults m
unfolding burst
whole_burst entries faults m r = from_turn 4096 entries faults m [] (omega arith) r

-- ---- a burst of a part

in_context : (context : ℕ) (p : PartState) (o : Option Context)
    → fold up_to (burst_by context (faults_of_burst (p.bursts + 1) p.spec.faults) p.domain o).count (faults_of_burst (p.bursts + 1) p.spec.faults)
    ≡ turns_made p o
in_context context p None =
    high 0 0 (faults_of_burst (p.bursts + 1) p.spec.faults) (burst_rises (p.bursts + 1) p.spec.faults) (omega arith)
in_context context p (Some x) =
    whole_burst p.domain.entries (faults_of_burst (p.bursts + 1) p.spec.faults) (machine_of x p.domain)
    (burst_rises (p.bursts + 1) p.spec.faults)

-- a burst's count and the part's faults give the instructions that it executes
pub counted : (context : ℕ) (p : PartState)
    → turns_within p.spec.faults (p.bursts + 1) (domain_burst context (faults_of_burst (p.bursts + 1) p.spec.faults) p.domain).count
    ≡ turns_made p (context_of context p.domain.contexts)
unfolding domain_burst
counted context p =
    sym (in_burst (p.bursts + 1) p.spec.faults (domain_burst context (faults_of_burst (p.bursts + 1) p.spec.faults) p.domain).count)
    ∙ in_context context p (context_of context p.domain.contexts)
