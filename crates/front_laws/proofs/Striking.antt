-- One instruction of a burst with one more fault, before the position of the fault and at it.
use Rattle.std.proofs.Common.{◌≡◌, ◌≤◌, ◌<◌, ℕ, suc, ◌-◌, ◌==◌, true, false, nat_le, if◌then◌else◌, is_some, Option, Some, None, List, [], ◌∷◌, ◌++◌, length, refl, sym, ap, subst, ◌∙◌, arith}
use Rattle.std.proofs.lemmas.Bool.{eq-eqb, eqb-false, eqb-true, leb-false, leb-true, ne_eqb}
use Rattle.nook_data.specs.declared.entries.Entry.{Entry}
use Rattle.nook_data.specs.declared.machine.Act.{Act}
use Rattle.nook_data.specs.declared.machine.BurstEnd.{BurstEnd}
use Rattle.nook_data.specs.declared.machine.BurstEnd.TheVariants as ends
use Rattle.nook_data.specs.declared.machine.TrapCause.{TrapCause}
use Rattle.nook_data.specs.declared.machine.TrapCause.TheVariants as trap
use Rattle.nook_data.specs.declared.scenario.Fault.{Fault}
use Rattle.nook_data.specs.declared.scenario.FaultKind.TheVariants as fault
use Rattle.machine_defs.proofs.BurstKeeps.{split}
use Rattle.machine_defs.proofs.MachineCases.{past_trap}
use Rattle.machine_defs.specs.Burst.{Going, Struck, acts_of, count_at, ended, on, one_turn, over, strikes_at}
use Rattle.machine_defs.specs.Burst.{struck_machine, trap_of}
use Rattle.machine_defs.specs.Execution.{Machine, turn}
use Rattle.front_laws.specs.Fronts.{IsRising, put_after}
use Rattle.front_laws.proofs.Ordered.{after_here, after_later}

pub by_option : {X G : Type 0} (o : Option X) → ((x : X) → o ≡ Some x → G) → (o ≡ None → G) → G
by_option (Some x) there not_there = there x refl
by_option None there not_there = not_there refl

-- what the faults at a position do, one by one

strikes_here : (point : ℕ) (entries : List Entry) (f : Fault) (faults : List Fault) (m : Machine) → (f.after == point) ≡ true
    → strikes_at point entries (f ∷ faults) m
    ≡ past_trap (strikes_at point entries faults (struck_machine entries f.kind m)) m faults (trap_of f.kind)
strikes_here point entries f faults m e = rw (e, strikes_at) refl

strikes_on : (point : ℕ) (entries : List Entry) (f : Fault) (faults : List Fault) (m : Machine) → (f.after == point) ≡ true
    → trap_of f.kind ≡ None → strikes_at point entries (f ∷ faults) m ≡ strikes_at point entries faults (struck_machine entries f.kind m)
strikes_on point entries f faults m e none =
    strikes_here point entries f faults m e
    ∙ ap (past_trap (strikes_at point entries faults (struck_machine entries f.kind m)) m faults) none

strikes_stop : (point : ℕ) (entries : List Entry) (f : Fault) (faults : List Fault) (m : Machine) (cause : TrapCause)
    → (f.after == point) ≡ true → trap_of f.kind ≡ Some cause
    → strikes_at point entries (f ∷ faults) m ≡ record { machine = m; rest = faults; stopped = Some cause }
strikes_stop point entries f faults m cause e some =
    strikes_here point entries f faults m e
    ∙ ap (past_trap (strikes_at point entries faults (struck_machine entries f.kind m)) m faults) some

strikes_past : (point : ℕ) (entries : List Entry) (f : Fault) (faults : List Fault) (m : Machine) → (f.after == point) ≡ false
    → strikes_at point entries (f ∷ faults) m ≡ record { machine = m; rest = f ∷ faults; stopped = None }
strikes_past point entries f faults m e = rw (e, strikes_at) refl

-- one more fault, before its position or if the burst stops there without it

abbrev pub rest_after : Fault → Struck → Struck
rest_after f s = record s { rest = put_after f s.rest }

-- at the fault's own position the burst stops without it
abbrev pub StopsThere : ℕ → Fault → Struck → Type 0
StopsThere point f s = (f.after == point) ≡ true → is_some s.stopped ≡ true

none_stops : {s : Struck} {m : Machine} {faults : List Fault} → s ≡ record { machine = m; rest = faults; stopped = None }
    → is_some s.stopped ≡ true → ⊥
none_stops {s} e h = let n : s.stopped ≡ None = ap (λ (x : Struck). x.stopped) e in absurd cc

pub strikes_after : (f : Fault) (point : ℕ) (entries : List Entry) (faults : List Fault) (m : Machine) → point ≤ f.after
    → StopsThere point f (strikes_at point entries faults m)
    → strikes_at point entries (put_after f faults) m ≡ rest_after f (strikes_at point entries faults m)
strikes_after f point entries [] m low stops = split (f.after == point)
    (λ here. absurd (none_stops {s = strikes_at point entries [] m} {m = m} {faults = []} refl (stops here)))
    (λ later. strikes_past point entries f [] m later)
strikes_after f point entries (g ∷ faults) m low stops = split (nat_le g.after f.after)
    (λ gf. ap (λ (xs : List Fault). strikes_at point entries xs m) (after_later f g faults gf)
    ∙ split (g.after == point)
    (λ here. by_option (trap_of g.kind)
    (λ cause some. strikes_stop point entries g (put_after f faults) m cause here some
    ∙ sym (ap (rest_after f) (strikes_stop point entries g faults m cause here some)))
    (λ none. strikes_on point entries g (put_after f faults) m here none
    ∙ strikes_after f point entries faults (struck_machine entries g.kind m) low
    (λ h. subst (λ (s : Struck). is_some s.stopped ≡ true) (strikes_on point entries g faults m here none) (stops h))
    ∙ sym (ap (rest_after f) (strikes_on point entries g faults m here none))))
    (λ later. strikes_past point entries g (put_after f faults) m later
    ∙ ap {B = Struck} (λ (xs : List Fault). record { machine = m; rest = xs; stopped = None }) (sym (after_later f g faults gf))
    ∙ sym (ap (rest_after f) (strikes_past point entries g faults m later))))
    (λ fg. let less : f.after < g.after = leb-false g.after f.after fg in
    let other : (g.after == point) ≡ false = ne_eqb g.after point (λ same. omega arith) in
    ap (λ (xs : List Fault). strikes_at point entries xs m) (after_here f g faults fg)
    ∙ split (f.after == point)
    (λ here. absurd (none_stops (strikes_past point entries g faults m other) (stops here)))
    (λ later. strikes_past point entries f (g ∷ faults) m later
    ∙ ap {B = Struck} (λ (xs : List Fault). record { machine = m; rest = xs; stopped = None }) (sym (after_here f g faults fg))
    ∙ sym (ap (rest_after f) (strikes_past point entries g faults m other))))

-- one instruction, by the faults that strike before it

abbrev pub past_crossing : ℕ → List Fault → Machine → List Act → Option BurstEnd → Going
past_crossing left rest m acts None = if nat_le 64 (length acts) then over (ended (4096 - left) m acts ends.Pause) else on m rest acts
past_crossing left rest m acts (Some crossing) = over (ended (4096 - left) m acts crossing)

abbrev past_stop : ℕ → Machine → List Act → Going → Option TrapCause → Going
past_stop left m acts more None = more
past_stop left m acts more (Some cause) = over (ended (count_at (4096 - suc left) cause) m acts (ends.Trap cause))

-- the machine's instruction
abbrev pub turned : ℕ → List Entry → List Act → Struck → Going
turned left entries acts s =
    past_crossing left s.rest (turn entries s.machine).machine (acts ++ acts_of (turn entries s.machine).act) (turn entries s.machine).crossing

abbrev pub turn_by : ℕ → List Entry → List Act → Struck → Going
turn_by left entries acts s = past_stop left s.machine acts (turned left entries acts s) s.stopped

pub one_turn_is : (left : ℕ) (entries : List Entry) (faults : List Fault) (m : Machine) (acts : List Act)
    → one_turn left entries faults m acts ≡ turn_by left entries acts (strikes_at (4096 - suc left) entries faults m)
one_turn_is left entries faults m acts = refl

pub turn_stops : (left : ℕ) (entries : List Entry) (acts : List Act) (s : Struck) (cause : TrapCause) → s.stopped ≡ Some cause
    → turn_by left entries acts s ≡ over (ended (count_at (4096 - suc left) cause) s.machine acts (ends.Trap cause))
turn_stops left entries acts s cause e = ap (past_stop left s.machine acts (turned left entries acts s)) e

pub turn_turns : (left : ℕ) (entries : List Entry) (acts : List Act) (s : Struck) → s.stopped ≡ None
    → turn_by left entries acts s ≡ turned left entries acts s
turn_turns left entries acts s e = ap (past_stop left s.machine acts (turned left entries acts s)) e

-- the result of an instruction, with one more fault
abbrev pub going_after : Fault → Going → Going
going_after f (on m rest acts) = on m (put_after f rest) acts
going_after f (over b) = over b

crossing_after : (f : Fault) (left : ℕ) (rest : List Fault) (m : Machine) (acts : List Act) (o : Option BurstEnd)
    → past_crossing left (put_after f rest) m acts o ≡ going_after f (past_crossing left rest m acts o)
crossing_after f left rest m acts (Some crossing) = refl
crossing_after f left rest m acts None = split (nat_le 64 (length acts)) (λ e. rw e refl) (λ e. rw e refl)

stop_after : (f : Fault) (left : ℕ) (m : Machine) (acts : List Act) (more more' : Going) (o : Option TrapCause)
    → more' ≡ going_after f more → past_stop left m acts more' o ≡ going_after f (past_stop left m acts more o)
stop_after f left m acts more more' None h = h
stop_after f left m acts more more' (Some cause) h = refl

pub turn_after : (f : Fault) (left : ℕ) (entries : List Entry) (faults : List Fault) (m : Machine) (acts : List Act)
    → 4096 - suc left ≤ f.after → StopsThere (4096 - suc left) f (strikes_at (4096 - suc left) entries faults m)
    → one_turn left entries (put_after f faults) m acts ≡ going_after f (one_turn left entries faults m acts)
turn_after f left entries faults m acts low stops =
    let s : Struck = strikes_at (4096 - suc left) entries faults m in
    one_turn_is left entries (put_after f faults) m acts
    ∙ ap (turn_by left entries acts) (strikes_after f (4096 - suc left) entries faults m low stops)
    ∙ stop_after f left s.machine acts (turned left entries acts s) (turned left entries acts (rest_after f s)) s.stopped
    (crossing_after f left s.rest (turn entries s.machine).machine (acts ++ acts_of (turn entries s.machine).act) (turn entries s.machine).crossing)

-- the fault at its own position, if it is a trap

pub record IsStoppedAs (s t : Struck) : Type 0 where
  pub machine : t.machine ≡ s.machine
  pub stopped : t.stopped ≡ Some trap.Injected

stopped_as : {s t t' : Struck} → t' ≡ t → IsStoppedAs s t → IsStoppedAs s t'
stopped_as {s} e h = subst (IsStoppedAs s) (sym e) h

pub strikes_cut : (f : Fault) (point : ℕ) (entries : List Entry) (faults : List Fault) (m : Machine) → f.kind ≡ fault.Trap
    → (f.after == point) ≡ true → IsRising point faults → (strikes_at point entries faults m).stopped ≡ None
    → IsStoppedAs (strikes_at point entries faults m) (strikes_at point entries (put_after f faults) m)
strikes_cut f point entries [] m kind here r none =
    stopped_as (strikes_stop point entries f [] m trap.Injected here (ap trap_of kind)) (record { machine = refl; stopped = refl })
strikes_cut f point entries (g ∷ faults) m kind here r none = split (nat_le g.after f.after)
    (λ gf. let at : f.after ≡ point = eqb-true f.after point here in
    let below : g.after ≤ f.after = leb-true g.after f.after gf in
    let low : point ≤ g.after = r.0 in
    let same : g.after ≡ point = omega arith in
    let there : (g.after == point) ≡ true = eq-eqb g.after point same in
    by_option (trap_of g.kind)
    (λ cause some. let no : ◌≡◌ {A = Option TrapCause} (Some cause) None =
    ap (λ (s : Struck). s.stopped) (sym (strikes_stop point entries g faults m cause there some)) ∙ none in absurd cc)
    (λ no. let e = strikes_on point entries g faults m there no in
    let e' : strikes_at point entries (put_after f (g ∷ faults)) m
    ≡ strikes_at point entries (put_after f faults) (struck_machine entries g.kind m) =
    ap (λ (xs : List Fault). strikes_at point entries xs m) (after_later f g faults gf)
    ∙ strikes_on point entries g (put_after f faults) m there no in
    let more : IsStoppedAs (strikes_at point entries faults (struck_machine entries g.kind m))
    (strikes_at point entries (put_after f faults) (struck_machine entries g.kind m)) =
    strikes_cut f point entries faults (struck_machine entries g.kind m) kind here
    (subst (λ (n : ℕ). IsRising n faults) same r.1) (ap (λ (s : Struck). s.stopped) (sym e) ∙ none) in
    record {
      machine = ap (λ (s : Struck). s.machine) e' ∙ more.machine ∙ ap (λ (s : Struck). s.machine) (sym e);
      stopped = ap (λ (s : Struck). s.stopped) e' ∙ more.stopped;
    }))
    (λ fg. let at : f.after ≡ point = eqb-true f.after point here in
    let less : f.after < g.after = leb-false g.after f.after fg in
    let other : (g.after == point) ≡ false = ne_eqb g.after point (λ same. omega arith) in
    let e : strikes_at point entries (put_after f (g ∷ faults)) m
    ≡ record { machine = m; rest = g ∷ faults; stopped = Some trap.Injected } =
    ap (λ (xs : List Fault). strikes_at point entries xs m) (after_here f g faults fg)
    ∙ strikes_stop point entries f (g ∷ faults) m trap.Injected here (ap trap_of kind) in
    record {
      machine = ap (λ (s : Struck). s.machine) e ∙ ap (λ (s : Struck). s.machine) (sym (strikes_past point entries g faults m other));
      stopped = ap (λ (s : Struck). s.stopped) e;
    })

-- if a position stops nothing, only later faults remain
pub strikes_rise : (point : ℕ) (entries : List Entry) (faults : List Fault) (m : Machine) → IsRising point faults
    → (strikes_at point entries faults m).stopped ≡ None → IsRising (suc point) (strikes_at point entries faults m).rest
strikes_rise point entries [] m r none = tt
strikes_rise point entries (g ∷ faults) m r none = split (g.after == point)
    (λ here. by_option (trap_of g.kind)
    (λ cause some. let no : ◌≡◌ {A = Option TrapCause} (Some cause) None =
    ap (λ (s : Struck). s.stopped) (sym (strikes_stop point entries g faults m cause here some)) ∙ none in absurd cc)
    (λ no. let e = strikes_on point entries g faults m here no in
    subst (λ (s : Struck). IsRising (suc point) s.rest) (sym e)
    (strikes_rise point entries faults (struck_machine entries g.kind m)
    (subst (λ (n : ℕ). IsRising n faults) (eqb-true g.after point here) r.1) (ap (λ (s : Struck). s.stopped) (sym e) ∙ none))))
    (λ later. let apart = eqb-false g.after point later in
    let low : point ≤ g.after = r.0 in
    let above : suc point ≤ g.after = above_of point g.after low apart in
    subst (λ (s : Struck). IsRising (suc point) s.rest) (sym (strikes_past point entries g faults m later)) (above, r.1))
  where
    above_of : (a b : ℕ) → a ≤ b → (b ≡ a → ⊥) → suc a ≤ b
    above_of a b h n = omega arith

-- what holds of the faults that remain after an instruction

abbrev pub LeavesRising : ℕ → Going → Type 0
LeavesRising point (on m rest acts) = IsRising point rest
LeavesRising point (over b) = Unit {0}

crossing_leaves : (point left : ℕ) (rest : List Fault) (m : Machine) (acts : List Act) (o : Option BurstEnd) → IsRising point rest
    → LeavesRising point (past_crossing left rest m acts o)
crossing_leaves point left rest m acts (Some crossing) r = tt
crossing_leaves point left rest m acts None r = split (nat_le 64 (length acts)) (λ e. rw e tt) (λ e. rw e r)

pub turn_leaves : (left : ℕ) (entries : List Entry) (faults : List Fault) (m : Machine) (acts : List Act)
    → IsRising (4096 - suc left) faults → LeavesRising (suc (4096 - suc left)) (one_turn left entries faults m acts)
turn_leaves left entries faults m acts r =
    let point : ℕ = 4096 - suc left in
    let s : Struck = strikes_at point entries faults m in
    by_option s.stopped
    (λ cause some. subst (LeavesRising (suc point)) (sym (turn_stops left entries acts s cause some)) tt)
    (λ none. subst (LeavesRising (suc point)) (sym (turn_turns left entries acts s none))
    (crossing_leaves (suc point) left s.rest (turn entries s.machine).machine (acts ++ acts_of (turn entries s.machine).act)
    (turn entries s.machine).crossing (strikes_rise point entries faults m r none)))
