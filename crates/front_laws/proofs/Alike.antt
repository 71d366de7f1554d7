-- Before the position of a fault a burst is the burst without it.
use Rattle.std.proofs.Common.{◌≡◌, ◌≤◌, ◌<◌, ℕ, zero, suc, ◌-◌, nat_le, nat_lt, List, [], length, refl, sym, ap, subst, ◌∙◌, arith}
use Rattle.std.proofs.lemmas.Bool.{eqb-true, leb-false}
use Rattle.nook_data.specs.declared.entries.Entry.{Entry}
use Rattle.nook_data.specs.declared.machine.Act.{Act}
use Rattle.nook_data.specs.declared.scenario.Fault.{Fault}
use Rattle.guard_defs.specs.Turns.{acts_from, acts_within, turns_before, turns_to}
use Rattle.machine_defs.proofs.BurstKeeps.{split}
use Rattle.machine_defs.specs.Burst.{Going, one_turn}
use Rattle.machine_defs.specs.Execution.{Machine}
use Rattle.front_laws.specs.Fronts.{put_after}
use Rattle.front_laws.proofs.Past.{acts_after, acts_go, acts_stay, by_going}
use Rattle.front_laws.proofs.Striking.{going_after, turn_after}
use Rattle.front_laws.proofs.Within.{to_after, to_is, to_here, to_later, to_low, to_over}

before_point : (f : Fault) (left : ℕ) (entries : List Entry) (faults : List Fault) (m : Machine) (acts : List Act)
    → 4096 - suc left < f.after → one_turn left entries (put_after f faults) m acts ≡ going_after f (one_turn left entries faults m acts)
before_point f left entries faults m acts h =
    turn_after f left entries faults m acts (omega arith)
    (λ here. let same : f.after ≡ 4096 - suc left = eqb-true f.after (4096 - suc left) here in absurd (omega arith))

acts_same : (f : Fault) (turns left : ℕ) (entries : List Entry) (faults : List Fault) (m : Machine) (acts : List Act) → turns ≤ f.after
    → acts_from turns left entries (put_after f faults) m acts ≡ acts_from turns left entries faults m acts
unfolding acts_from
acts_same f turns zero entries faults m acts h = refl
acts_same f turns (suc left) entries faults m acts h = split (nat_le turns (4096 - suc left))
    (λ stay. acts_stay turns left entries (put_after f faults) m acts stay ∙ sym (acts_stay turns left entries faults m acts stay))
    (λ go. let less : 4096 - suc left < turns = leb-false turns (4096 - suc left) go in
    acts_go turns left entries (put_after f faults) m acts go
    ∙ ap (acts_after turns left entries) (before_point f left entries faults m acts (omega arith))
    ∙ by_going (one_turn left entries faults m acts)
    (λ m' rest acts' e. ap (λ (g : Going). acts_after turns left entries (going_after f g)) e
    ∙ acts_same f turns left entries rest m' acts' h ∙ ap (acts_after turns left entries) (sym e))
    (λ b e. ap (λ (g : Going). acts_after turns left entries (going_after f g)) e ∙ ap (acts_after turns left entries) (sym e))
    ∙ sym (acts_go turns left entries faults m acts go))

to_same : (f : Fault) (deed left : ℕ) (entries : List Entry) (faults : List Fault) (m : Machine) (acts : List Act) → left ≤ 4096
    → turns_to deed left entries faults m acts < f.after
    → turns_to deed left entries (put_after f faults) m acts ≡ turns_to deed left entries faults m acts
unfolding turns_to
to_same f deed zero entries faults m acts low h = refl
to_same f deed (suc left) entries faults m acts low h =
    let first : 4096 - suc left ≤ turns_to deed (suc left) entries faults m acts = to_low deed (suc left) entries faults m acts low in
    to_is deed left entries (put_after f faults) m acts
    ∙ ap (to_after deed left entries) (before_point f left entries faults m acts (omega arith))
    ∙ by_going (one_turn left entries faults m acts)
    (λ m' rest acts' e. ap (λ (g : Going). to_after deed left entries (going_after f g)) e
    ∙ split (nat_lt deed (length acts'))
    (λ here. rw here (sym (to_here deed left entries faults m m' acts acts' rest e here)))
    (λ later. rw later (to_same f deed left entries rest m' acts' (omega arith)
    (subst (λ (n : ℕ). n < f.after) (to_later deed left entries faults m m' acts acts' rest e later) h)
    ∙ sym (to_later deed left entries faults m m' acts acts' rest e later))))
    (λ b e. ap (λ (g : Going). to_after deed left entries (going_after f g)) e ∙ sym (to_over deed left entries faults m acts b e))

pub within_same : (f : Fault) (turns : ℕ) (entries : List Entry) (faults : List Fault) (m : Machine) → turns ≤ f.after
    → acts_within turns entries (put_after f faults) m ≡ acts_within turns entries faults m
within_same f turns entries faults m h = acts_same f turns 4096 entries faults m [] h

pub before_same : (f : Fault) (deed : ℕ) (entries : List Entry) (faults : List Fault) (m : Machine) → turns_before deed entries faults m < f.after
    → turns_before deed entries (put_after f faults) m ≡ turns_before deed entries faults m
before_same f deed entries faults m h = to_same f deed 4096 entries faults m [] (omega arith) h
