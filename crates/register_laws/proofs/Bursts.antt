-- A burst in which a register is set before an instruction that does not use it, or sets it again.
use Rattle.std.proofs.Common.{◌≡◌, ◌≤◌, ◌<◌, ℕ, zero, suc, ◌+◌, ◌-◌, ◌==◌, true, false, nat_le, Option, Some, None, List, [], ◌∷◌, ◌++◌, length, slice_get, refl, sym, ap, subst, ◌∙◌, arith}
use Rattle.std.proofs.lemmas.Bool.{eq-eqb, eqb-true}
use Rattle.nook_data.proofs.Options.{none_is_some, same_inside}
use Rattle.nook_data.specs.Types.{Act, BurstEnd, Entry, Fault, Instr}
use Rattle.guard_defs.specs.Every.{put_at}
use Rattle.machine_defs.proofs.BurstKeeps.{split}
use Rattle.machine_defs.specs.Burst.{Burst, Going, acts_of, burst, burst_from, on, one_turn, over, strikes_at}
use Rattle.machine_defs.specs.Execution.{Executed, Machine, turn}
use Rattle.front_laws.specs.Fronts.{put_after}
use Rattle.front_laws.proofs.Past.{burst_after, burst_is, by_going}
use Rattle.front_laws.proofs.Striking.{going_after, one_turn_is, past_crossing, turn_after, turn_by}
use Rattle.machine_defs.specs.Registers.{reads, sets, setting, setting_after}
use Rattle.register_laws.specs.Uses.{instr_at, instrs_from, reg_at}
use Rattle.register_laws.proofs.Setting.{turn_over, turn_same}

-- the burst's instructions, by what one of them leaves
abbrev pub instrs_after : ℕ → List Entry → Machine → Going → List (Option Instr)
instrs_after left entries m (on m' rest acts) = instr_at m ∷ instrs_from left entries m' acts
instrs_after left entries m (over b) = []

pub instrs_is : (left : ℕ) (entries : List Entry) (m : Machine) (acts : List Act)
    → instrs_from (suc left) entries m acts ≡ instrs_after left entries m (one_turn left entries [] m acts)
unfolding instrs_from
instrs_is left entries m acts = refl

pub no_instrs : (entries : List Entry) (m : Machine) (acts : List Act) → instrs_from zero entries m acts ≡ []
unfolding instrs_from
no_instrs entries m acts = refl

none_there : {X G : Type 0} (xs : List X) (j : ℕ) (x : X) → xs ≡ [] → slice_get xs j ≡ Some x → G
none_there xs j x e h = absurd (none_is_some (sym (ap (λ ys. slice_get ys j) e) ∙ h))

-- without a fault none remains

abbrev rest_of : Going → List Fault
rest_of (on m rest acts) = rest
rest_of (over b) = []

nothing_left : (left : ℕ) (m : Machine) (acts : List Act) (o : Option BurstEnd) → rest_of (past_crossing left [] m acts o) ≡ []
nothing_left left m acts (Some crossing) = refl
nothing_left left m acts None = split (nat_le 64 (length acts)) (λ e. rw e refl) (λ e. rw e refl)

goes_free : (left : ℕ) (entries : List Entry) (m m' : Machine) (acts acts' : List Act) (rest : List Fault)
    → one_turn left entries [] m acts ≡ on m' rest acts' → one_turn left entries [] m acts ≡ on m' [] acts'
goes_free left entries m m' acts acts' rest e =
    let none : rest ≡ [] = sym (ap rest_of e)
    ∙ nothing_left left (turn entries m).machine (acts ++ acts_of (turn entries m).act) (turn entries m).crossing in
    e ∙ ap (λ (xs : List Fault). on m' xs acts') none

-- an instruction after which the burst continues is no crossing
no_crossing : (left : ℕ) (rest rest' : List Fault) (m m' : Machine) (acts acts' : List Act) (o : Option BurstEnd)
    → past_crossing left rest m acts o ≡ on m' rest' acts' → o ≡ None
no_crossing left rest rest' m m' acts acts' (Some crossing) e = absurd cc
no_crossing left rest rest' m m' acts acts' None e = refl

pub burst_on : (left : ℕ) (entries : List Entry) (faults rest : List Fault) (m m' : Machine) (acts acts' : List Act)
    → one_turn left entries faults m acts ≡ on m' rest acts' → burst_from (suc left) entries faults m acts ≡ burst_from left entries rest m' acts'
burst_on left entries faults rest m m' acts acts' e = burst_is left entries faults m acts ∙ ap (burst_after left entries) e

module _ (b k v : ℕ) where
  abbrev f : ℕ → Fault
  f a = reg_at b k v a

  abbrev set_going : Going → Going
  set_going (on m rest acts) = on (setting k v m) rest acts
  set_going (over x) = over (record x { machine = setting k v x.machine })

  crossing_set : (left : ℕ) (rest : List Fault) (m : Machine) (acts : List Act) (o : Option BurstEnd)
      → past_crossing left rest (setting k v m) acts o ≡ set_going (past_crossing left rest m acts o)
  crossing_set left rest m acts (Some crossing) = refl
  crossing_set left rest m acts None = split (nat_le 64 (length acts)) (λ e. rw e refl) (λ e. rw e refl)

  abbrev gone_by : ℕ → List Act → Executed → Going
  gone_by left acts t = past_crossing left [] t.machine (acts ++ acts_of t.act) t.crossing

  free_turn : (left : ℕ) (entries : List Entry) (m : Machine) (acts : List Act) → one_turn left entries [] m acts ≡ gone_by left acts (turn entries m)
  free_turn left entries m acts = refl

  -- the register is set before this instruction

  strikes_on : (a point : ℕ) (entries : List Entry) (m : Machine) → (a == point) ≡ true
      → strikes_at point entries (f a ∷ []) m ≡ strikes_at point entries [] (setting k v m)
  strikes_on a point entries m e = rw (e, strikes_at) refl

  struck_turn : (a left : ℕ) (entries : List Entry) (m : Machine) (acts : List Act) → a ≡ 4096 - suc left
      → one_turn left entries (f a ∷ []) m acts ≡ one_turn left entries [] (setting k v m) acts
  struck_turn a left entries m acts at =
      one_turn_is left entries (f a ∷ []) m acts
      ∙ ap (turn_by left entries acts) (strikes_on a (4096 - suc left) entries m (eq-eqb a (4096 - suc left) at))
      ∙ sym (one_turn_is left entries [] (setting k v m) acts)

  here : (a left : ℕ) (entries : List Entry) (m : Machine) (acts : List Act) → a ≡ 4096 - suc left
      → burst_from (suc left) entries (f a ∷ []) m acts ≡ burst_from (suc left) entries [] (setting k v m) acts
  here a left entries m acts at =
      burst_is left entries (f a ∷ []) m acts
      ∙ ap (burst_after left entries) (struck_turn a left entries m acts at)
      ∙ sym (burst_is left entries [] (setting k v m) acts)

  -- it is set before a later one

  later : (a left : ℕ) (entries : List Entry) (m m' : Machine) (acts acts' : List Act) → 4096 - suc left < a
      → one_turn left entries [] m acts ≡ on m' [] acts'
      → burst_from (suc left) entries (f a ∷ []) m acts ≡ burst_from left entries (f a ∷ []) m' acts'
  later a left entries m m' acts acts' low e =
      burst_on left entries (f a ∷ []) (f a ∷ []) m m' acts acts'
      (turn_after (f a) left entries [] m acts (omega arith)
      (λ at. let same : a ≡ 4096 - suc left = eqb-true a (4096 - suc left) at in absurd (omega arith))
      ∙ ap (going_after (f a)) e)

  -- the instruction does not use the register

  module _ (entries : List Entry) (i : Instr) where
    keeps : (left : ℕ) (m m' : Machine) (acts acts' : List Act) → instr_at m ≡ Some i → reads i k ≡ false → sets i k ≡ false
        → one_turn left entries [] m acts ≡ on m' [] acts'
        → burst_from (suc left) entries [] (setting k v m) acts ≡ burst_from left entries [] (setting k v m') acts'
    keeps left m m' acts acts' at n o e =
        burst_on left entries [] [] (setting k v m) (setting k v m') acts acts'
        (ap (gone_by left acts) (turn_same k v entries m i at n o)
        ∙ crossing_set left [] (turn entries m).machine (acts ++ acts_of (turn entries m).act) (turn entries m).crossing
        ∙ ap set_going e)

    set_next : (a left : ℕ) (m m' : Machine) (acts acts' : List Act) → instr_at m ≡ Some i → reads i k ≡ false → sets i k ≡ false
        → one_turn left entries [] m acts ≡ on m' [] acts' → suc left ≤ 4096 → a ≡ 4096 - suc left → a + 1 < 4096
        → burst_from (suc left) entries (f a ∷ []) m acts ≡ burst_from (suc left) entries (f (a + 1) ∷ []) m acts
    set_next a zero m m' acts acts' at n o e all is few = absurd (omega arith)
    set_next a (suc left) m m' acts acts' at n o e all is few =
        here a (suc left) entries m acts is
        ∙ keeps (suc left) m m' acts acts' at n o e
        ∙ sym (later (a + 1) (suc left) entries m m' acts acts' (omega arith) e ∙ here (a + 1) left entries m' acts' (omega arith))

    next_from : (left j : ℕ) (m : Machine) (acts : List Act) → slice_get (instrs_from left entries m acts) j ≡ Some (Some i)
        → reads i k ≡ false → sets i k ≡ false → left ≤ 4096 → (a : ℕ) → a ≡ 4096 - left + j → a + 1 < 4096
        → burst_from left entries (f a ∷ []) m acts ≡ burst_from left entries (f (a + 1) ∷ []) m acts
    next_from zero j m acts h n o all a is few = none_there _ j (Some i) (no_instrs entries m acts) h
    next_from (suc left) j m acts h n o all a is few = by_going (one_turn left entries [] m acts)
        (λ m' rest acts' e. by_index j m' acts' (goes_free left entries m m' acts acts' rest e)
        (sym (ap (λ (xs : List (Option Instr)). slice_get xs j) (instrs_is left entries m acts ∙ ap (instrs_after left entries m) e)) ∙ h) is
        (λ j' at' is'. next_from left j' m' acts' at' n o (omega arith) a is' few))
        (λ x e. none_there _ j (Some i) (instrs_is left entries m acts ∙ ap (instrs_after left entries m) e) h)
      where
        by_index : (j : ℕ) (m' : Machine) (acts' : List Act) → one_turn left entries [] m acts ≡ on m' [] acts'
            → slice_get (instr_at m ∷ instrs_from left entries m' acts') j ≡ Some (Some i) → a ≡ 4096 - suc left + j
            → ((j' : ℕ) → slice_get (instrs_from left entries m' acts') j' ≡ Some (Some i) → a ≡ 4096 - left + j'
            → burst_from left entries (f a ∷ []) m' acts' ≡ burst_from left entries (f (a + 1) ∷ []) m' acts')
            → burst_from (suc left) entries (f a ∷ []) m acts ≡ burst_from (suc left) entries (f (a + 1) ∷ []) m acts
        by_index zero m' acts' e at is' again = set_next a left m m' acts acts' (same_inside at) n o e all (omega arith) few
        by_index (suc j') m' acts' e at is' again =
            later a left entries m m' acts acts' (omega arith) e
            ∙ again j' at (omega arith)
            ∙ sym (later (a + 1) left entries m m' acts acts' (omega arith) e)

    -- the instruction sets the register without reading it

    set_over : (a left : ℕ) (m m' : Machine) (acts acts' : List Act) → instr_at m ≡ Some i → reads i k ≡ false → sets i k ≡ true
        → one_turn left entries [] m acts ≡ on m' [] acts' → a ≡ 4096 - suc left
        → burst_from (suc left) entries (f a ∷ []) m acts ≡ burst_from (suc left) entries [] m acts
    set_over a left m m' acts acts' at n o e is =
        here a left entries m acts is
        ∙ burst_is left entries [] (setting k v m) acts
        ∙ ap (burst_after left entries) (ap (gone_by left acts) (turn_over k v entries m i at n o
        (no_crossing left [] [] (turn entries m).machine m' (acts ++ acts_of (turn entries m).act) acts' (turn entries m).crossing e)))
        ∙ sym (burst_is left entries [] m acts)

    base_from : (left j : ℕ) (m : Machine) (acts : List Act) → slice_get (instrs_from left entries m acts) j ≡ Some (Some i)
        → reads i k ≡ false → sets i k ≡ true → left ≤ 4096 → (a : ℕ) → a ≡ 4096 - left + j
        → burst_from left entries (f a ∷ []) m acts ≡ burst_from left entries [] m acts
    base_from zero j m acts h n o all a is = none_there _ j (Some i) (no_instrs entries m acts) h
    base_from (suc left) j m acts h n o all a is = by_going (one_turn left entries [] m acts)
        (λ m' rest acts' e. by_index j m' acts' (goes_free left entries m m' acts acts' rest e)
        (sym (ap (λ (xs : List (Option Instr)). slice_get xs j) (instrs_is left entries m acts ∙ ap (instrs_after left entries m) e)) ∙ h) is
        (λ j' at' is'. base_from left j' m' acts' at' n o (omega arith) a is'))
        (λ x e. none_there _ j (Some i) (instrs_is left entries m acts ∙ ap (instrs_after left entries m) e) h)
      where
        by_index : (j : ℕ) (m' : Machine) (acts' : List Act) → one_turn left entries [] m acts ≡ on m' [] acts'
            → slice_get (instr_at m ∷ instrs_from left entries m' acts') j ≡ Some (Some i) → a ≡ 4096 - suc left + j
            → ((j' : ℕ) → slice_get (instrs_from left entries m' acts') j' ≡ Some (Some i) → a ≡ 4096 - left + j'
            → burst_from left entries (f a ∷ []) m' acts' ≡ burst_from left entries [] m' acts')
            → burst_from (suc left) entries (f a ∷ []) m acts ≡ burst_from (suc left) entries [] m acts
        by_index zero m' acts' e at is' again = set_over a left m m' acts acts' (same_inside at) n o e (omega arith)
        by_index (suc j') m' acts' e at is' again =
            later a left entries m m' acts acts' (omega arith) e
            ∙ again j' at (omega arith)
            ∙ sym (burst_on left entries [] [] m m' acts acts' e)

    -- whole bursts

    pub same_as_next : (a : ℕ) (m : Machine) → slice_get (instrs_from 4096 entries m []) a ≡ Some (Some i) → reads i k ≡ false → sets i k ≡ false
        → a + 1 < 4096 → burst entries (f a ∷ []) m ≡ burst entries (f (a + 1) ∷ []) m
    unfolding burst
    same_as_next a m h n o few = next_from 4096 a m [] h n o (omega arith) a (omega arith) few

    pub same_as_none : (a : ℕ) (m : Machine) → slice_get (instrs_from 4096 entries m []) a ≡ Some (Some i) → reads i k ≡ false → sets i k ≡ true
        → burst entries (f a ∷ []) m ≡ burst entries [] m
    unfolding burst
    same_as_none a m h n o = base_from 4096 a m [] h n o (omega arith) a (omega arith)
