-- A burst that does not reach a fault is the burst without it; one that a trap ends has the acts before the trap.
use Rattle.std.proofs.Common.{◌≡◌, ◌≤◌, ◌<◌, ℕ, zero, suc, ◌-◌, ◌==◌, true, false, nat_le, is_some, Option, Some, None, List, [], ◌++◌, length, refl, sym, ap, subst, ◌∙◌, arith, append_assoc, append-nil}
use Rattle.std.proofs.lemmas.Bool.{eqb-true, eqb-false, le-leb, lt-leb}
use Rattle.nook_data.specs.declared.entries.Entry.{Entry}
use Rattle.nook_data.specs.declared.machine.Act.{Act}
use Rattle.nook_data.specs.declared.machine.BurstEnd.{BurstEnd}
use Rattle.nook_data.specs.declared.machine.BurstEnd.TheVariants as ends
use Rattle.nook_data.specs.declared.machine.TrapCause.{TrapCause}
use Rattle.nook_data.specs.declared.machine.TrapCause.TheVariants as trap
use Rattle.nook_data.specs.declared.scenario.Fault.{Fault}
use Rattle.nook_data.specs.declared.scenario.FaultKind.TheVariants as fault
use Rattle.guard_defs.specs.Turns.{acts_from, acts_within, turns_from, turns_of}
use Rattle.machine_defs.proofs.BurstKeeps.{split}
use Rattle.machine_defs.specs.Burst.{Burst, Going, Struck, acts_of, burst, burst_from, count_at, ended, on, one_turn, over, strikes_at}
use Rattle.machine_defs.specs.Execution.{Machine, turn}
use Rattle.front_laws.specs.Fronts.{IsCutShort, IsRising, put_after}
use Rattle.front_laws.proofs.Striking.{IsStoppedAs, LeavesRising, by_option, going_after, one_turn_is, past_crossing, strikes_cut}
use Rattle.front_laws.proofs.Striking.{turn_after, turn_leaves, turn_stops, turn_turns}

-- each recursion by what one instruction leaves

abbrev pub burst_after : ℕ → List Entry → Going → Burst
burst_after left entries (on m rest acts) = burst_from left entries rest m acts
burst_after left entries (over b) = b

pub burst_is : (left : ℕ) (entries : List Entry) (faults : List Fault) (m : Machine) (acts : List Act)
    → burst_from (suc left) entries faults m acts ≡ burst_after left entries (one_turn left entries faults m acts)
unfolding burst_from
burst_is left entries faults m acts = refl

abbrev turns_going : ℕ → List Entry → Going → ℕ
turns_going left entries (on m rest acts) = turns_from left entries rest m acts
turns_going left entries (over b) = 4096 - left

abbrev turns_after : ℕ → ℕ → Option TrapCause → ℕ
turns_after left more None = more
turns_after left more (Some cause) = 4096 - suc left

turns_is : (left : ℕ) (entries : List Entry) (faults : List Fault) (m : Machine) (acts : List Act)
    → turns_from (suc left) entries faults m acts
    ≡ turns_after left (turns_going left entries (one_turn left entries faults m acts)) (strikes_at (4096 - suc left) entries faults m).stopped
unfolding turns_from
turns_is left entries faults m acts = refl

abbrev pub acts_after : ℕ → ℕ → List Entry → Going → List Act
acts_after turns left entries (on m rest acts) = acts_from turns left entries rest m acts
acts_after turns left entries (over b) = b.acts

pub acts_stay : (turns left : ℕ) (entries : List Entry) (faults : List Fault) (m : Machine) (acts : List Act)
    → nat_le turns (4096 - suc left) ≡ true → acts_from turns (suc left) entries faults m acts ≡ acts
unfolding acts_from
acts_stay turns left entries faults m acts e = rw (e, acts_from) refl

pub acts_go : (turns left : ℕ) (entries : List Entry) (faults : List Fault) (m : Machine) (acts : List Act)
    → nat_le turns (4096 - suc left) ≡ false
    → acts_from turns (suc left) entries faults m acts ≡ acts_after turns left entries (one_turn left entries faults m acts)
unfolding acts_from
acts_go turns left entries faults m acts e = rw (e, acts_from) refl

pub by_going : {G : Type 0} (g : Going) → ((m : Machine) (rest : List Fault) (acts : List Act) → g ≡ on m rest acts → G)
    → ((b : Burst) → g ≡ over b → G) → G
by_going (on m rest acts) goes ends = goes m rest acts refl
by_going (over b) goes ends = ends b refl

-- the number of instructions

pub turns_stop : (left : ℕ) (entries : List Entry) (faults : List Fault) (m : Machine) (acts : List Act) (cause : TrapCause)
    → (strikes_at (4096 - suc left) entries faults m).stopped ≡ Some cause
    → turns_from (suc left) entries faults m acts ≡ 4096 - suc left
turns_stop left entries faults m acts cause e =
    turns_is left entries faults m acts
    ∙ ap (turns_after left (turns_going left entries (one_turn left entries faults m acts))) e

turns_none : (left : ℕ) (entries : List Entry) (faults : List Fault) (m : Machine) (acts : List Act)
    → (strikes_at (4096 - suc left) entries faults m).stopped ≡ None
    → turns_from (suc left) entries faults m acts ≡ turns_going left entries (one_turn left entries faults m acts)
turns_none left entries faults m acts e =
    turns_is left entries faults m acts
    ∙ ap (turns_after left (turns_going left entries (one_turn left entries faults m acts))) e

pub turns_on : (left : ℕ) (entries : List Entry) (faults : List Fault) (m m' : Machine) (acts acts' : List Act) (rest : List Fault)
    → (strikes_at (4096 - suc left) entries faults m).stopped ≡ None → one_turn left entries faults m acts ≡ on m' rest acts'
    → turns_from (suc left) entries faults m acts ≡ turns_from left entries rest m' acts'
turns_on left entries faults m m' acts acts' rest none e =
    turns_none left entries faults m acts none ∙ ap (turns_going left entries) e

pub turns_over : (left : ℕ) (entries : List Entry) (faults : List Fault) (m : Machine) (acts : List Act) (b : Burst)
    → (strikes_at (4096 - suc left) entries faults m).stopped ≡ None → one_turn left entries faults m acts ≡ over b
    → turns_from (suc left) entries faults m acts ≡ 4096 - left
turns_over left entries faults m acts b none e = turns_none left entries faults m acts none ∙ ap (turns_going left entries) e

pub turns_low : (left : ℕ) (entries : List Entry) (faults : List Fault) (m : Machine) (acts : List Act) → left ≤ 4096
    → 4096 - left ≤ turns_from left entries faults m acts
unfolding turns_from
turns_low zero entries faults m acts h = omega arith
turns_low (suc left) entries faults m acts h =
    by_option (strikes_at (4096 - suc left) entries faults m).stopped
    (λ cause some. rw (turns_stop left entries faults m acts cause some) (omega arith))
    (λ none. by_going (one_turn left entries faults m acts)
    (λ m' rest acts' e. rw (turns_on left entries faults m m' acts acts' rest none e)
    (let more : 4096 - left ≤ turns_from left entries rest m' acts' = turns_low left entries rest m' acts' (omega arith) in omega arith))
    (λ b e. rw (turns_over left entries faults m acts b none e) (omega arith)))

pub turns_high : (left : ℕ) (entries : List Entry) (faults : List Fault) (m : Machine) (acts : List Act)
    → turns_from left entries faults m acts ≤ 4096
unfolding turns_from
turns_high zero entries faults m acts = omega arith
turns_high (suc left) entries faults m acts =
    by_option (strikes_at (4096 - suc left) entries faults m).stopped
    (λ cause some. rw (turns_stop left entries faults m acts cause some) (omega arith))
    (λ none. by_going (one_turn left entries faults m acts)
    (λ m' rest acts' e. rw (turns_on left entries faults m m' acts acts' rest none e) (turns_high left entries rest m' acts'))
    (λ b e. rw (turns_over left entries faults m acts b none e) (omega arith)))

-- a burst that does not reach the fault

burst_following : (f : Fault) (left : ℕ) (entries : List Entry) (faults : List Fault) (m : Machine) (acts : List Act)
    → one_turn left entries (put_after f faults) m acts ≡ going_after f (one_turn left entries faults m acts)
    → ((m' : Machine) (rest : List Fault) (acts' : List Act) → one_turn left entries faults m acts ≡ on m' rest acts'
    → burst_from left entries (put_after f rest) m' acts' ≡ burst_from left entries rest m' acts')
    → burst_from (suc left) entries (put_after f faults) m acts ≡ burst_from (suc left) entries faults m acts
burst_following f left entries faults m acts h more =
    burst_is left entries (put_after f faults) m acts ∙ ap (burst_after left entries) h
    ∙ by_going (one_turn left entries faults m acts)
    (λ m' rest acts' e. ap (λ (g : Going). burst_after left entries (going_after f g)) e ∙ more m' rest acts' e
    ∙ ap (burst_after left entries) (sym e))
    (λ b e. ap (λ (g : Going). burst_after left entries (going_after f g)) e ∙ ap (burst_after left entries) (sym e))
    ∙ sym (burst_is left entries faults m acts)

pub past_from : (f : Fault) (left : ℕ) (entries : List Entry) (faults : List Fault) (m : Machine) (acts : List Act) → left ≤ 4096
    → turns_from left entries faults m acts ≤ f.after
    → burst_from left entries (put_after f faults) m acts ≡ burst_from left entries faults m acts
unfolding burst_from
past_from f zero entries faults m acts low h = refl
past_from f (suc left) entries faults m acts low h =
    by_option (strikes_at (4096 - suc left) entries faults m).stopped
    (λ cause some. let at : turns_from (suc left) entries faults m acts ≡ 4096 - suc left = turns_stop left entries faults m acts cause some in
    burst_following f left entries faults m acts
    (turn_after f left entries faults m acts (omega arith) (λ here. ap is_some some))
    (λ m' rest acts' e. let s : Struck = strikes_at (4096 - suc left) entries faults m in
    let stops : one_turn left entries faults m acts ≡ over (ended (count_at (4096 - suc left) cause) s.machine acts (ends.Trap cause)) =
    one_turn_is left entries faults m acts ∙ turn_stops left entries acts s cause some in
    let no : on m' rest acts' ≡ over (ended (count_at (4096 - suc left) cause) s.machine acts (ends.Trap cause)) = sym e ∙ stops in absurd cc))
    (λ none. burst_following f left entries faults m acts
    (turn_after f left entries faults m acts (before left entries faults m acts low h none)
    (λ here. absurd (apart left f.after low (before left entries faults m acts low h none)
    (eqb-true f.after (4096 - suc left) here) (above left entries faults m acts low h none))))
    (λ m' rest acts' e. past_from f left entries rest m' acts' (omega arith)
    (let same : turns_from (suc left) entries faults m acts ≡ turns_from left entries rest m' acts' =
    turns_on left entries faults m m' acts acts' rest none e in omega arith)))
  where
    above : (left : ℕ) (entries : List Entry) (faults : List Fault) (m : Machine) (acts : List Act) → suc left ≤ 4096
        → turns_from (suc left) entries faults m acts ≤ f.after
        → (strikes_at (4096 - suc left) entries faults m).stopped ≡ None → 4096 - left ≤ f.after
    above left entries faults m acts low h none = by_going (one_turn left entries faults m acts)
        (λ m' rest acts' e. let same : turns_from (suc left) entries faults m acts ≡ turns_from left entries rest m' acts' =
        turns_on left entries faults m m' acts acts' rest none e in
        let more : 4096 - left ≤ turns_from left entries rest m' acts' = turns_low left entries rest m' acts' (omega arith) in
        omega arith)
        (λ b e. let same : turns_from (suc left) entries faults m acts ≡ 4096 - left = turns_over left entries faults m acts b none e in omega arith)

    before : (left : ℕ) (entries : List Entry) (faults : List Fault) (m : Machine) (acts : List Act) → suc left ≤ 4096
        → turns_from (suc left) entries faults m acts ≤ f.after
        → (strikes_at (4096 - suc left) entries faults m).stopped ≡ None → 4096 - suc left ≤ f.after
    before left entries faults m acts low h none =
        let a : 4096 - left ≤ f.after = above left entries faults m acts low h none in omega arith

    apart : (left after : ℕ) → suc left ≤ 4096 → 4096 - suc left ≤ after → after ≡ 4096 - suc left → 4096 - left ≤ after → ⊥
    apart left after low a b c = omega arith

pub burst_past : (f : Fault) (entries : List Entry) (faults : List Fault) (m : Machine) → turns_of entries faults m ≤ f.after
    → burst entries (put_after f faults) m ≡ burst entries faults m
unfolding burst
burst_past f entries faults m h = past_from f 4096 entries faults m [] (omega arith) h

-- a trap that a burst reaches

cut_at : (f : Fault) (left : ℕ) (entries : List Entry) (faults : List Fault) (m : Machine) (acts : List Act) → f.kind ≡ fault.Trap
    → (f.after == (4096 - suc left)) ≡ true → IsRising (4096 - suc left) faults
    → (strikes_at (4096 - suc left) entries faults m).stopped ≡ None
    → IsCutShort (4096 - suc left) acts (burst_from (suc left) entries (put_after f faults) m acts)
cut_at f left entries faults m acts kind here rising none =
    let point : ℕ = 4096 - suc left in
    let s : Struck = strikes_at point entries faults m in
    let t : Struck = strikes_at point entries (put_after f faults) m in
    let cut : IsStoppedAs s t = strikes_cut f point entries faults m kind here rising none in
    let e : burst_from (suc left) entries (put_after f faults) m acts ≡ ended point t.machine acts (ends.Trap trap.Injected) =
    burst_is left entries (put_after f faults) m acts
    ∙ ap (burst_after left entries) (one_turn_is left entries (put_after f faults) m acts ∙ turn_stops left entries acts t trap.Injected cut.stopped) in
    subst (IsCutShort point acts) (sym e) (record { acts_of_turns = refl; count = refl; ending = refl })

pub cut_from : (f : Fault) (left : ℕ) (entries : List Entry) (faults : List Fault) (m : Machine) (acts : List Act) → left ≤ 4096
    → f.kind ≡ fault.Trap → IsRising (4096 - left) faults → 4096 - left ≤ f.after → f.after < turns_from left entries faults m acts
    → IsCutShort f.after (acts_from f.after left entries faults m acts) (burst_from left entries (put_after f faults) m acts)
unfolding turns_from
cut_from f zero entries faults m acts low kind rising from below = absurd (omega arith)
cut_from f (suc left) entries faults m acts low kind rising from below =
    by_option (strikes_at (4096 - suc left) entries faults m).stopped
    (λ cause some. let at : turns_from (suc left) entries faults m acts ≡ 4096 - suc left = turns_stop left entries faults m acts cause some in
    absurd (omega arith))
    (λ none. split (f.after == (4096 - suc left))
    (λ here. let same : f.after ≡ 4096 - suc left = eqb-true f.after (4096 - suc left) here in
    subst (λ (n : ℕ). IsCutShort n (acts_from f.after (suc left) entries faults m acts) (burst_from (suc left) entries (put_after f faults) m acts)) (sym same)
    (subst (λ (a : List Act). IsCutShort (4096 - suc left) a (burst_from (suc left) entries (put_after f faults) m acts))
    (sym (acts_stay f.after left entries faults m acts (le-leb f.after (4096 - suc left) (omega arith))))
    (cut_at f left entries faults m acts kind here rising none)))
    (λ later. let ne = eqb-false f.after (4096 - suc left) later in
    let above : 4096 - suc left < f.after = strict f.after (4096 - suc left) from ne in
    by_going (one_turn left entries faults m acts)
    (λ m' rest acts' e.
    let same : turns_from (suc left) entries faults m acts ≡ turns_from left entries rest m' acts' =
    turns_on left entries faults m m' acts acts' rest none e in
    let rises : IsRising (suc (4096 - suc left)) rest =
    subst (LeavesRising (suc (4096 - suc left))) e (turn_leaves left entries faults m acts rising) in
    let more : IsCutShort f.after (acts_from f.after left entries rest m' acts') (burst_from left entries (put_after f rest) m' acts') =
    cut_from f left entries rest m' acts' (omega arith) kind (subst (λ (n : ℕ). IsRising n rest) (next left low) rises) (omega arith) (omega arith) in
    let eb : burst_from (suc left) entries (put_after f faults) m acts ≡ burst_from left entries (put_after f rest) m' acts' =
    burst_is left entries (put_after f faults) m acts
    ∙ ap (burst_after left entries) (turn_after f left entries faults m acts from (λ here. absurd (ne (eqb-true f.after (4096 - suc left) here)))
    ∙ ap (going_after f) e) in
    let ea : acts_from f.after (suc left) entries faults m acts ≡ acts_from f.after left entries rest m' acts' =
    acts_go f.after left entries faults m acts (lt-leb f.after (4096 - suc left) above) ∙ ap (acts_after f.after left entries) e in
    subst (λ (b : Burst). IsCutShort f.after (acts_from f.after (suc left) entries faults m acts) b) (sym eb)
    (subst (λ (a : List Act). IsCutShort f.after a (burst_from left entries (put_after f rest) m' acts')) (sym ea) more))
    (λ b e. let same : turns_from (suc left) entries faults m acts ≡ 4096 - left = turns_over left entries faults m acts b none e in
    absurd (omega arith))))
  where
    strict : (a b : ℕ) → b ≤ a → (a ≡ b → ⊥) → b < a
    strict a b h n = omega arith

    next : (left : ℕ) → suc left ≤ 4096 → suc (4096 - suc left) ≡ 4096 - left
    next left h = omega arith

pub burst_cut : (f : Fault) (entries : List Entry) (faults : List Fault) (m : Machine) → f.kind ≡ fault.Trap → IsRising 0 faults
    → f.after < turns_of entries faults m
    → IsCutShort f.after (acts_within f.after entries faults m) (burst entries (put_after f faults) m)
unfolding burst
burst_cut f entries faults m kind rising below = cut_from f 4096 entries faults m [] (omega arith) kind rising (omega arith) below

-- what was done earlier stays

abbrev IsFront : List Act → List Act → Type 0
IsFront front acts = (later : List Act) × (acts ≡ front ++ later)

abbrev GoesOnFrom : List Act → Going → Type 0
GoesOnFrom front (on m rest acts) = IsFront front acts
GoesOnFrom front (over b) = IsFront front b.acts

crossing_goes_on : (left : ℕ) (acts : List Act) (rest : List Fault) (m : Machine) (more : List Act) (o : Option BurstEnd)
    → GoesOnFrom acts (past_crossing left rest m (acts ++ more) o)
crossing_goes_on left acts rest m more (Some crossing) = (more, refl)
crossing_goes_on left acts rest m more None = split (nat_le 64 (length (acts ++ more))) (λ e. rw e (more, refl)) (λ e. rw e (more, refl))

turn_goes_on : (left : ℕ) (entries : List Entry) (faults : List Fault) (m : Machine) (acts : List Act)
    → GoesOnFrom acts (one_turn left entries faults m acts)
turn_goes_on left entries faults m acts =
    let s : Struck = strikes_at (4096 - suc left) entries faults m in
    by_option s.stopped
    (λ cause some. subst (GoesOnFrom acts) (sym (turn_stops left entries acts s cause some)) ([], sym (append-nil acts)))
    (λ none. subst (GoesOnFrom acts) (sym (turn_turns left entries acts s none))
    (crossing_goes_on left acts s.rest (turn entries s.machine).machine (acts_of (turn entries s.machine).act) (turn entries s.machine).crossing))

front_more : (a b c : List Act) → IsFront a b → IsFront b c → IsFront a c
front_more a b c (x, ex) (y, ey) = (x ++ y, ey ∙ ap (λ (l : List Act). l ++ y) ex ∙ append_assoc a x y)

pub acts_begin : (left : ℕ) (entries : List Entry) (faults : List Fault) (m : Machine) (acts : List Act)
    → IsFront acts (burst_from left entries faults m acts).acts
unfolding burst_from
acts_begin zero entries faults m acts = ([], sym (append-nil acts))
acts_begin (suc left) entries faults m acts =
    let k : GoesOnFrom acts (one_turn left entries faults m acts) = turn_goes_on left entries faults m acts in
    subst (λ (b : Burst). IsFront acts b.acts) (sym (burst_is left entries faults m acts))
    (by_going (one_turn left entries faults m acts)
    (λ m' rest acts' e. subst (λ (g : Going). IsFront acts (burst_after left entries g).acts) (sym e)
    (front_more acts acts' (burst_from left entries rest m' acts').acts (subst (GoesOnFrom acts) e k) (acts_begin left entries rest m' acts')))
    (λ b e. subst (λ (g : Going). IsFront acts (burst_after left entries g).acts) (sym e) (subst (GoesOnFrom acts) e k)))

pub acts_front : (turns left : ℕ) (entries : List Entry) (faults : List Fault) (m : Machine) (acts : List Act)
    → IsFront (acts_from turns left entries faults m acts) (burst_from left entries faults m acts).acts
unfolding burst_from acts_from
acts_front turns zero entries faults m acts = ([], sym (append-nil acts))
acts_front turns (suc left) entries faults m acts = split (nat_le turns (4096 - suc left))
    (λ stay. subst (λ (a : List Act). IsFront a (burst_from (suc left) entries faults m acts).acts)
    (sym (acts_stay turns left entries faults m acts stay)) (acts_begin (suc left) entries faults m acts))
    (λ go. subst (λ (a : List Act). IsFront a (burst_from (suc left) entries faults m acts).acts)
    (sym (acts_go turns left entries faults m acts go))
    (subst (λ (b : Burst). IsFront (acts_after turns left entries (one_turn left entries faults m acts)) b.acts)
    (sym (burst_is left entries faults m acts))
    (by_going (one_turn left entries faults m acts)
    (λ m' rest acts' e. subst (λ (g : Going). IsFront (acts_after turns left entries g) (burst_after left entries g).acts) (sym e)
    (acts_front turns left entries rest m' acts'))
    (λ b e. subst (λ (g : Going). IsFront (acts_after turns left entries g) (burst_after left entries g).acts) (sym e)
    ([], sym (append-nil b.acts))))))

pub burst_acts_front : (turns : ℕ) (entries : List Entry) (faults : List Fault) (m : Machine)
    → (later : List Act) × ((burst entries faults m).acts ≡ acts_within turns entries faults m ++ later)
unfolding burst
burst_acts_front turns entries faults m = acts_front turns 4096 entries faults m []
