-- A walk along the instructions of a burst lists them.
use Rattle.std.proofs.Common.{◌≡◌, ◌<◌, ◌≤◌, ◌+◌, ◌-◌, ◌||◌, ℕ, suc, true, false, nat_le, is_some, Option, Some, None, List, [], ◌∷◌, ◌++◌, length, refl, sym, ap, ◌∙◌, arith, append_assoc, append-nil}
use Rattle.std.proofs.lemmas.Bool.{leb-false}
use Rattle.driver_isa.specs.Turns.{IsExecuted}
use Rattle.front_laws.proofs.Striking.{past_crossing}
use Rattle.machine_defs.specs.Burst.{acts_of, one_turn}
use Rattle.machine_defs.specs.Execution.{Machine, turn}
use Rattle.nook_data.specs.Types.{Act, BurstEnd, Entry, Instr}
use Rattle.register_laws.proofs.Bursts.{instrs_after, instrs_is, no_instrs}
use Rattle.register_laws.specs.Uses.{instr_at, instrs_from}

-- before the first instruction all of the burst is left
pub walk_begins : (entries : List Entry) (m : Machine) (acts : List Act) (instrs : List (Option Instr)) → acts ≡ [] → instrs ≡ []
    → instrs ++ instrs_from 4096 entries m acts ≡ instrs_from 4096 entries m []
walk_begins entries m acts instrs e none =
    ap (λ (xs : List (Option Instr)). xs ++ instrs_from 4096 entries m acts) none ∙ ap (instrs_from 4096 entries m) e

gone_as : (left : ℕ) (entries own : List Entry) (m m' : Machine) (acts acts' : List Act) (crossing : Option BurstEnd) → own ≡ entries
    → IsExecuted (turn own m) m' acts acts' crossing → one_turn left entries [] m acts ≡ past_crossing left [] m' acts' crossing
gone_as left entries own m m' acts acts' crossing same e =
    ap (λ (es : List Entry). one_turn left es [] m acts) (sym same)
    ∙ ap (λ (x : Machine). past_crossing left [] x (acts ++ acts_of (turn own m).act) (turn own m).crossing) e.machine
    ∙ ap (λ (xs : List Act). past_crossing left [] m' xs (turn own m).crossing) (sym e.acts)
    ∙ ap (past_crossing left [] m' acts') e.crossing

none_after : (left : ℕ) (entries : List Entry) (m m' : Machine) (acts : List Act) (crossing : Option BurstEnd)
    → (is_some crossing || nat_le 64 (length acts)) ≡ true → instrs_after left entries m (past_crossing left [] m' acts crossing) ≡ []
none_after left entries m m' acts (Some crossing) h = refl
none_after left entries m m' acts None h = rw h refl

more_after : (left : ℕ) (entries : List Entry) (m m' : Machine) (acts : List Act) (crossing : Option BurstEnd)
    → (is_some crossing || nat_le 64 (length acts)) ≡ false
    → instrs_after left entries m (past_crossing left [] m' acts crossing) ≡ instr_at m ∷ instrs_from left entries m' acts
more_after left entries m m' acts (Some crossing) h = absurd cc
more_after left entries m m' acts None h = rw h refl

module _ (done : ℕ) (entries own : List Entry) (m m' : Machine) (acts acts' : List Act) (crossing : Option BurstEnd)
    (instrs whole : List (Option Instr)) (few : done < 4096) (left_is : instrs ++ instrs_from (4096 - done) entries m acts ≡ whole)
    (same : own ≡ entries) (e : IsExecuted (turn own m) m' acts acts' crossing) where
  instrs_here : instrs_from (4096 - done) entries m acts
      ≡ instrs_after (4096 - (done + 1)) entries m (past_crossing (4096 - (done + 1)) [] m' acts' crossing)
  instrs_here =
      let one : 4096 - done ≡ suc (4096 - (done + 1)) = omega arith in
      ap (λ (n : ℕ). instrs_from n entries m acts) one
      ∙ instrs_is (4096 - (done + 1)) entries m acts
      ∙ ap (instrs_after (4096 - (done + 1)) entries m) (gone_as (4096 - (done + 1)) entries own m m' acts acts' crossing same e)

  -- the instruction ends the burst
  pub walk_ends : (is_some crossing || nat_le 64 (length acts')) ≡ true → instrs ≡ whole
  walk_ends h =
      sym (append-nil instrs)
      ∙ ap (λ (xs : List (Option Instr)). instrs ++ xs) (sym (instrs_here ∙ none_after (4096 - (done + 1)) entries m m' acts' crossing h))
      ∙ left_is

  -- it does not
  pub walk_goes_on : (is_some crossing || nat_le 64 (length acts')) ≡ false
      → (instrs ++ instr_at m ∷ []) ++ instrs_from (4096 - (done + 1)) entries m' acts' ≡ whole
  walk_goes_on h =
      append_assoc instrs (instr_at m ∷ []) (instrs_from (4096 - (done + 1)) entries m' acts')
      ∙ ap (λ (xs : List (Option Instr)). instrs ++ xs) (sym (instrs_here ∙ more_after (4096 - (done + 1)) entries m m' acts' crossing h))
      ∙ left_is

-- after the last instruction there are no more
pub walk_over : (done : ℕ) (entries : List Entry) (m : Machine) (acts : List Act) (instrs whole : List (Option Instr)) → 4096 ≤ done
    → instrs ++ instrs_from (4096 - done) entries m acts ≡ whole → instrs ≡ whole
walk_over done entries m acts instrs whole h e =
    let none : 4096 - done ≡ 0 = omega arith in
    sym (append-nil instrs)
    ∙ ap (λ (xs : List (Option Instr)). instrs ++ xs) (sym (ap (λ (n : ℕ). instrs_from n entries m acts) none ∙ no_instrs entries m acts)) ∙ e

-- it leaves room for an act
pub few_after : (crossing : Option BurstEnd) (acts : List Act) → (is_some crossing || nat_le 64 (length acts)) ≡ false → length acts < 64
few_after (Some crossing) acts h = absurd cc
few_after None acts h = leb-false 64 (length acts) h
