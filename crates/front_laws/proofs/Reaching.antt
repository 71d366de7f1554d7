-- The instruction of a deed, and the instructions of a burst that a trap ends.
use Rattle.std.proofs.Common.{◌≡◌, ◌≤◌, ◌<◌, ℕ, zero, suc, ◌+◌, ◌-◌, ◌==◌, true, false, nat_lt, None, List, [], ◌++◌, length, take, refl, sym, ap, subst, ◌∙◌, arith, length-append, take_at, take_all}
use Rattle.std.proofs.lemmas.Bool.{eqb-false, eqb-true, le-leb, lt-leb, ltb-false, ltb-true}
use Rattle.nook_data.specs.declared.entries.Entry.{Entry}
use Rattle.nook_data.specs.declared.machine.Act.{Act}
use Rattle.nook_data.specs.declared.machine.BurstEnd.TheVariants as ends
use Rattle.nook_data.specs.declared.machine.TrapCause.TheVariants as trap
use Rattle.nook_data.specs.declared.scenario.Fault.{Fault}
use Rattle.nook_data.specs.declared.scenario.FaultKind.TheVariants as fault
use Rattle.guard_defs.specs.Turns.{acts_from, acts_within, turns_before, turns_from, turns_of, turns_to}
use Rattle.machine_defs.proofs.BurstKeeps.{split}
use Rattle.machine_defs.specs.Burst.{Burst, Struck, burst, burst_from, count_at, ended, on, one_turn, over, strikes_at}
use Rattle.machine_defs.specs.Execution.{Machine}
use Rattle.front_laws.specs.Fronts.{IsRising, put_after}
use Rattle.front_laws.proofs.Past.{acts_after, acts_begin, acts_go, acts_stay, burst_after, burst_is, by_going, turns_on, turns_over, turns_stop}
use Rattle.front_laws.proofs.Striking.{LeavesRising, StopsThere, by_option, going_after, one_turn_is, strikes_after, strikes_cut, turn_after, turn_leaves, turn_stops}
use Rattle.front_laws.proofs.Within.{AddsOne, EndsOne, GoesOne, is_crossing, to_here, to_later, to_low, to_over, turn_one}

-- the instruction of an act adds it

stop_acts : (left : ℕ) (entries : List Entry) (faults : List Fault) (m : Machine) (acts : List Act)
    → (strikes_at (4096 - suc left) entries faults m).stopped ≡ None → (b : Burst) → one_turn left entries faults m acts ≡ over b
    → (deed : ℕ) → length acts ≤ deed → deed < length b.acts → take (suc deed) b.acts ≡ b.acts
stop_acts left entries faults m acts none b e deed low less =
    let one : EndsOne acts b = subst (GoesOne acts) e (turn_one left entries faults m acts none) in
    let sum : length (acts ++ one.0) ≡ length acts + length one.0 = length-append acts one.0 in
    let same : length b.acts ≡ length (acts ++ one.0) = ap length one.1 in
    let few = one.2 in
    take_all (suc deed) b.acts (omega arith)

acts_enough : (turns left : ℕ) (entries : List Entry) (faults : List Fault) (m : Machine) (acts : List Act) → turns ≤ 4096 - left
    → acts_from turns left entries faults m acts ≡ acts
unfolding acts_from
acts_enough turns zero entries faults m acts h = refl
acts_enough turns (suc left) entries faults m acts h = acts_stay turns left entries faults m acts (le-leb turns (4096 - suc left) h)

on_acts : (left : ℕ) (entries : List Entry) (faults : List Fault) (m m' : Machine) (acts acts' : List Act) (rest : List Fault)
    → (strikes_at (4096 - suc left) entries faults m).stopped ≡ None → one_turn left entries faults m acts ≡ on m' rest acts'
    → (deed : ℕ) → length acts ≤ deed → deed < length acts' → take (suc deed) (burst_from left entries rest m' acts').acts ≡ acts'
on_acts left entries faults m m' acts acts' rest none e deed low less =
    let one : AddsOne acts acts' = subst (GoesOne acts) e (turn_one left entries faults m acts none) in
    let sum : length (acts ++ one.0) ≡ length acts + length one.0 = length-append acts one.0 in
    let same : length acts' ≡ length (acts ++ one.0) = ap length one.1 in
    let few = one.2 in
    let begun = acts_begin left entries rest m' acts' in
    ap (take (suc deed)) begun.1 ∙ take_at acts' begun.0 (suc deed) (omega arith)

past_position : (left turns : ℕ) → suc left ≤ 4096 → 4096 - suc left ≤ turns → 4096 - suc left < suc turns
past_position left turns h l = omega arith

act_made : (deed left : ℕ) (entries : List Entry) (faults : List Fault) (m : Machine) (acts : List Act) → left ≤ 4096
    → length acts ≤ deed → deed < length (burst_from left entries faults m acts).acts
    → acts_from (suc (turns_to deed left entries faults m acts)) left entries faults m acts ≡ take (suc deed) (burst_from left entries faults m acts).acts
unfolding burst_from
act_made deed zero entries faults m acts h low less = absurd (omega arith)
act_made deed (suc left) entries faults m acts h low less =
    let s : Struck = strikes_at (4096 - suc left) entries faults m in
    let from : 4096 - suc left ≤ turns_to deed (suc left) entries faults m acts = to_low deed (suc left) entries faults m acts h in
    let go : acts_from (suc (turns_to deed (suc left) entries faults m acts)) (suc left) entries faults m acts
    ≡ acts_after (suc (turns_to deed (suc left) entries faults m acts)) left entries (one_turn left entries faults m acts) =
    acts_go (suc (turns_to deed (suc left) entries faults m acts)) left entries faults m acts (lt-leb _ (4096 - suc left) (past_position left _ h from)) in
    by_option s.stopped
    (λ cause some. let eb : burst_from (suc left) entries faults m acts ≡ ended (count_at (4096 - suc left) cause) s.machine acts (ends.Trap cause) =
    burst_is left entries faults m acts ∙ ap (burst_after left entries) (one_turn_is left entries faults m acts ∙ turn_stops left entries acts s cause some) in
    let same : length (burst_from (suc left) entries faults m acts).acts ≡ length acts = ap (λ (b : Burst). length b.acts) eb in
    absurd (omega arith))
    (λ none. go ∙ by_going (one_turn left entries faults m acts)
    (λ m' rest acts' e.
    let eb : burst_from (suc left) entries faults m acts ≡ burst_from left entries rest m' acts' =
    burst_is left entries faults m acts ∙ ap (burst_after left entries) e in
    let less' : deed < length (burst_from left entries rest m' acts').acts = subst (λ (b : Burst). deed < length b.acts) eb less in
    ap (acts_after (suc (turns_to deed (suc left) entries faults m acts)) left entries) e ∙ split (nat_lt deed (length acts'))
    (λ here. let to : turns_to deed (suc left) entries faults m acts ≡ 4096 - suc left = to_here deed left entries faults m m' acts acts' rest e here in
    acts_enough (suc (turns_to deed (suc left) entries faults m acts)) left entries rest m' acts' (omega arith)
    ∙ sym (on_acts left entries faults m m' acts acts' rest none e deed low (ltb-true deed (length acts') here)))
    (λ later. ap (λ (n : ℕ). acts_from (suc n) left entries rest m' acts') (to_later deed left entries faults m m' acts acts' rest e later)
    ∙ act_made deed left entries rest m' acts' (omega arith) (ltb-false deed (length acts') later) less')
    ∙ ap (λ (b : Burst). take (suc deed) b.acts) (sym eb))
    (λ b e.
    let eb : burst_from (suc left) entries faults m acts ≡ b = burst_is left entries faults m acts ∙ ap (burst_after left entries) e in
    ap (acts_after (suc (turns_to deed (suc left) entries faults m acts)) left entries) e
    ∙ sym (stop_acts left entries faults m acts none b e deed low (subst (λ (x : Burst). deed < length x.acts) eb less))
    ∙ ap (λ (x : Burst). take (suc deed) x.acts) (sym eb)))

-- the instruction of a crossing is the last

crossing_last : (deed left : ℕ) (entries : List Entry) (faults : List Fault) (m : Machine) (acts : List Act) → left ≤ 4096
    → length (burst_from left entries faults m acts).acts ≤ deed → is_crossing (burst_from left entries faults m acts).ending ≡ true
    → suc (turns_to deed left entries faults m acts) ≡ turns_from left entries faults m acts
unfolding burst_from
crossing_last deed zero entries faults m acts h low is = absurd cc
crossing_last deed (suc left) entries faults m acts h low is =
    let s : Struck = strikes_at (4096 - suc left) entries faults m in
    by_option s.stopped
    (λ cause some. let eb : burst_from (suc left) entries faults m acts ≡ ended (count_at (4096 - suc left) cause) s.machine acts (ends.Trap cause) =
    burst_is left entries faults m acts ∙ ap (burst_after left entries) (one_turn_is left entries faults m acts ∙ turn_stops left entries acts s cause some) in
    let never : false ≡ true = ap (λ (b : Burst). is_crossing b.ending) (sym eb) ∙ is in absurd cc)
    (λ none. by_going (one_turn left entries faults m acts)
    (λ m' rest acts' e.
    let eb : burst_from (suc left) entries faults m acts ≡ burst_from left entries rest m' acts' =
    burst_is left entries faults m acts ∙ ap (burst_after left entries) e in
    let begun = acts_begin left entries rest m' acts' in
    let sum : length (acts' ++ begun.0) ≡ length acts' + length begun.0 = length-append acts' begun.0 in
    let whole : length (burst_from left entries rest m' acts').acts ≡ length (acts' ++ begun.0) = ap length begun.1 in
    let low' : length (burst_from left entries rest m' acts').acts ≤ deed = subst (λ (b : Burst). length b.acts ≤ deed) eb low in
    split (nat_lt deed (length acts'))
    (λ here. let less : deed < length acts' = ltb-true deed (length acts') here in absurd (omega arith))
    (λ later. ap suc (to_later deed left entries faults m m' acts acts' rest e later)
    ∙ crossing_last deed left entries rest m' acts' (omega arith) low' (subst (λ (b : Burst). is_crossing b.ending ≡ true) eb is)
    ∙ sym (turns_on left entries faults m m' acts acts' rest none e)))
    (λ b e. ap suc (to_over deed left entries faults m acts b e) ∙ next left h ∙ sym (turns_over left entries faults m acts b none e)))
  where
    next : (left : ℕ) → suc left ≤ 4096 → suc (4096 - suc left) ≡ 4096 - left
    next left l = omega arith

-- a burst that reaches a trap executes the instructions before it

turns_cut : (f : Fault) (left : ℕ) (entries : List Entry) (faults : List Fault) (m : Machine) (acts : List Act) → left ≤ 4096
    → f.kind ≡ fault.Trap → IsRising (4096 - left) faults → 4096 - left ≤ f.after → f.after < turns_from left entries faults m acts
    → turns_from left entries (put_after f faults) m acts ≡ f.after
unfolding turns_from
turns_cut f zero entries faults m acts low kind rising from below = absurd (omega arith)
turns_cut f (suc left) entries faults m acts low kind rising from below =
    by_option (strikes_at (4096 - suc left) entries faults m).stopped
    (λ cause some. let at : turns_from (suc left) entries faults m acts ≡ 4096 - suc left = turns_stop left entries faults m acts cause some in
    absurd (omega arith))
    (λ none. split (f.after == (4096 - suc left))
    (λ here. turns_stop left entries (put_after f faults) m acts trap.Injected
    (strikes_cut f (4096 - suc left) entries faults m kind here rising none).stopped ∙ sym (eqb-true f.after (4096 - suc left) here))
    (λ later. let ne = eqb-false f.after (4096 - suc left) later in
    let above : 4096 - suc left < f.after = strict f.after (4096 - suc left) from ne in
    let turn : one_turn left entries (put_after f faults) m acts ≡ going_after f (one_turn left entries faults m acts) =
    turn_after f left entries faults m acts from (λ here. absurd (ne (eqb-true f.after (4096 - suc left) here))) in
    by_going (one_turn left entries faults m acts)
    (λ m' rest acts' e.
    let same : turns_from (suc left) entries faults m acts ≡ turns_from left entries rest m' acts' =
    turns_on left entries faults m m' acts acts' rest none e in
    let rises : IsRising (suc (4096 - suc left)) rest =
    subst (LeavesRising (suc (4096 - suc left))) e (turn_leaves left entries faults m acts rising) in
    turns_on left entries (put_after f faults) m m' acts acts' (put_after f rest)
    (still f left entries faults m from (λ here. absurd (ne (eqb-true f.after (4096 - suc left) here))) none) (turn ∙ ap (going_after f) e)
    ∙ turns_cut f left entries rest m' acts' (omega arith) kind (subst (λ (n : ℕ). IsRising n rest) (next left low) rises) (omega arith) (omega arith))
    (λ b e. let same : turns_from (suc left) entries faults m acts ≡ 4096 - left = turns_over left entries faults m acts b none e in
    absurd (omega arith))))
  where
    strict : (a b : ℕ) → b ≤ a → (a ≡ b → ⊥) → b < a
    strict a b h n = omega arith

    next : (left : ℕ) → suc left ≤ 4096 → suc (4096 - suc left) ≡ 4096 - left
    next left h = omega arith

    still : (f : Fault) (left : ℕ) (entries : List Entry) (faults : List Fault) (m : Machine) → 4096 - suc left ≤ f.after
        → StopsThere (4096 - suc left) f (strikes_at (4096 - suc left) entries faults m)
        → (strikes_at (4096 - suc left) entries faults m).stopped ≡ None
        → (strikes_at (4096 - suc left) entries (put_after f faults) m).stopped ≡ None
    still f left entries faults m from stops none =
        ap (λ (s : Struck). s.stopped) (strikes_after f (4096 - suc left) entries faults m from stops) ∙ none

-- the same of whole bursts

pub burst_act_made : (deed : ℕ) (entries : List Entry) (faults : List Fault) (m : Machine) → deed < length (burst entries faults m).acts
    → acts_within (suc (turns_before deed entries faults m)) entries faults m ≡ take (suc deed) (burst entries faults m).acts
unfolding burst
burst_act_made deed entries faults m less = act_made deed 4096 entries faults m [] (omega arith) (omega arith) less

pub burst_crossing_last : (deed : ℕ) (entries : List Entry) (faults : List Fault) (m : Machine) → length (burst entries faults m).acts ≤ deed
    → is_crossing (burst entries faults m).ending ≡ true → suc (turns_before deed entries faults m) ≡ turns_of entries faults m
unfolding burst
burst_crossing_last deed entries faults m low is = crossing_last deed 4096 entries faults m [] (omega arith) low is

pub burst_turns_cut : (f : Fault) (entries : List Entry) (faults : List Fault) (m : Machine) → f.kind ≡ fault.Trap → IsRising 0 faults
    → f.after < turns_of entries faults m → turns_of entries (put_after f faults) m ≡ f.after
burst_turns_cut f entries faults m kind rising below = turns_cut f 4096 entries faults m [] (omega arith) kind rising (omega arith) below
