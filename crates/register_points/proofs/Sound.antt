-- What the instructions of a burst say of the faults that set a register in it.
use Rattle.std.proofs.Common.{◌≡◌, ◌<◌, ◌≤◌, ◌+◌, ◌-◌, ℕ, zero, suc, nat_lt, true, false, Option, Some, None, List, [], ◌∷◌, drop, length, slice_get, refl, sym, ap, ◌∙◌, arith}
use Rattle.std.proofs.lemmas.Bool.{ltb-true}
use Rattle.front_laws.proofs.Past.{by_going}
use Rattle.guard_defs.specs.Every.{put_at}
use Rattle.machine_defs.proofs.BurstKeeps.{split}
use Rattle.machine_defs.specs.Burst.{burst, one_turn}
use Rattle.machine_defs.specs.Execution.{Machine}
use Rattle.nook_data.specs.Types.{Act, Entry, FaultKind, Instr}
use Rattle.nook_data.specs.declared.scenario.FaultKind.TheVariants as fault
use Rattle.register_laws.proofs.Bursts.{instrs_after, instrs_is, no_instrs, same_as_next, same_as_none}
use Rattle.machine_defs.specs.Registers.{reads, sets}
use Rattle.register_laws.specs.Uses.{instrs_from}
use Rattle.register_points.specs.Sources.{is_kept_before, is_set_from, keeps, register_source, source_of}
use Rattle.register_points.specs.Uses.{use_of}
use Rattle.register_points.specs.declared.sources.Source.{Source}
use Rattle.register_points.specs.declared.sources.Source.TheVariants as source
use Rattle.register_points.specs.declared.uses.Use.{Use}
use Rattle.register_points.specs.declared.uses.Use.TheVariants as does

-- ---- what an instruction does with a register

-- an instruction that neither reads nor sets it, or sets it without reading it
abbrev IsUse : ℕ → Option Instr → Use → Type 0
IsUse r x does.Reads = Unit {0}
IsUse r x does.Keeps = (i : Instr) × (x ≡ Some i) × (reads i r ≡ false) × (sets i r ≡ false)
IsUse r x does.Sets = (i : Instr) × (x ≡ Some i) × (reads i r ≡ false) × (sets i r ≡ true)

is_use : (r : ℕ) (x : Option Instr) → IsUse r x (use_of x r)
is_use r None = tt
is_use r (Some i) = split (reads i r)
    (λ e. rw e tt)
    (λ e. split (sets i r) (λ h. rw (e, h) (i, refl, e, h)) (λ h. rw (e, h) (i, refl, e, h)))

-- ---- lists

few_instrs : (left : ℕ) (entries : List Entry) (m : Machine) (acts : List Act) → length (instrs_from left entries m acts) ≤ left
few_instrs zero entries m acts = rw (no_instrs entries m acts) (omega arith)
few_instrs (suc left) entries m acts = by_going (one_turn left entries [] m acts)
    (λ m' rest acts' e.
    let same = ap length (instrs_is left entries m acts ∙ ap (instrs_after left entries m) e) in
    let more : length (instrs_from left entries m' acts') ≤ left = few_instrs left entries m' acts' in omega arith)
    (λ b e. let same = ap length (instrs_is left entries m acts ∙ ap (instrs_after left entries m) e) in omega arith)

first_left : {X : Type 0} (xs ys : List X) (a : ℕ) (x : X) → drop a xs ≡ x ∷ ys → (slice_get xs a ≡ Some x) × (drop (suc a) xs ≡ ys) × (a < length xs)
first_left [] ys zero x e = absurd cc
first_left [] ys (suc a) x e = absurd cc
first_left (z ∷ xs) ys zero x e = (cc, cc, omega arith)
first_left (z ∷ xs) ys (suc a) x e = let more = first_left xs ys a x e in (more.0, more.1, omega (arith, more.2))

one_more : (n : ℕ) → n + 1 ≡ suc n
one_more n = omega arith

one_less : (n : ℕ) → n ≡ suc n - 1
one_less n = omega arith

here : {X : Type 0} (xs ys : List X) (a : ℕ) (x : X) → drop a xs ≡ x ∷ ys → (slice_get xs a ≡ Some x) × (drop (a + 1) xs ≡ ys) × (a < length xs)
here xs ys a x e =
    let more = first_left xs ys a x e in (more.0, ap (λ n. drop n xs) (one_more a) ∙ more.1, more.2)

-- ---- a burst

-- what a source says of a fault in a burst
abbrev pub IsSoundIn : List Entry → Machine → ℕ → FaultKind → ℕ → Source → Type 0
IsSoundIn entries m b kind a source.Run = Unit {0}
IsSoundIn entries m b kind a source.Base = burst entries (put_at b a kind ∷ []) m ≡ burst entries [] m
IsSoundIn entries m b kind a source.Before = burst entries (put_at b (a - 1) kind ∷ []) m ≡ burst entries (put_at b a kind ∷ []) m

module _ (entries : List Entry) (m : Machine) (b r v : ℕ) where
  abbrev instrs : List (Option Instr)
  instrs = instrs_from 4096 entries m []

  all_few : length (instrs_from 4096 entries m []) ≤ 4096
  all_few = few_instrs 4096 entries m []

  kept : (before : ℕ) (x : Option (Option Instr)) → slice_get instrs before ≡ x → keeps x r ≡ true → before + 1 < 4096
      → burst entries (put_at b before (fault.Reg r v) ∷ []) m ≡ burst entries (put_at b (before + 1) (fault.Reg r v) ∷ []) m
  kept before None at h few = absurd cc
  kept before (Some x) at h few = by_use (use_of x r) (is_use r x) h
    where
      by_use : (u : Use) → IsUse r x u → elim u [ does.Keeps ↦ true | _ ↦ false ] ≡ true
          → burst entries (put_at b before (fault.Reg r v) ∷ []) m ≡ burst entries (put_at b (before + 1) (fault.Reg r v) ∷ []) m
      by_use does.Keeps (i, is, n, o) h' = same_as_next b r v entries i before m (at ∙ ap Some is) n o few
      by_use does.Sets is h' = absurd cc
      by_use does.Reads is h' = absurd cc

  some_left : (xs : List (Option Instr)) → is_set_from xs r ≡ true → 0 < length xs
  some_left [] h = absurd cc
  some_left (x ∷ xs) h = omega arith

  room : (xs : List (Option Instr)) (a : ℕ) → drop (a + 1) instrs ≡ xs → 0 < length xs → a + 1 < 4096
  room [] a e some = absurd (omega arith)
  room (y ∷ ys) a e some =
      let less : a + 1 < length instrs = (here instrs ys (a + 1) y e).2 in
      let few : length instrs ≤ 4096 = all_few in omega arith

  set_on : (xs : List (Option Instr)) (a : ℕ) → drop a instrs ≡ xs → is_set_from xs r ≡ true
      → burst entries (put_at b a (fault.Reg r v) ∷ []) m ≡ burst entries [] m
  set_on [] a e h = absurd cc
  set_on (x ∷ xs) a e h = by_use (use_of x r) (is_use r x) h (λ h'. set_on xs (a + 1) (here instrs xs a x e).1 h')
    where
      by_use : (u : Use) → IsUse r x u → elim u [ does.Keeps ↦ is_set_from xs r | does.Sets ↦ true | does.Reads ↦ false ] ≡ true
          → (is_set_from xs r ≡ true → burst entries (put_at b (a + 1) (fault.Reg r v) ∷ []) m ≡ burst entries [] m)
          → burst entries (put_at b a (fault.Reg r v) ∷ []) m ≡ burst entries [] m
      by_use does.Keeps (i, is, n, o) h' again =
          let at = here instrs xs a x e in
          let some : 0 < length xs = some_left xs h' in
          same_as_next b r v entries i a m (at.0 ∙ ap Some is) n o (room xs a at.1 some) ∙ again h'
      by_use does.Sets (i, is, n, o) h' again = same_as_none b r v entries i a m ((here instrs xs a x e).0 ∙ ap Some is) n o
      by_use does.Reads is h' again = absurd cc

  abbrev SoundReg : ℕ → Source → Type 0
  SoundReg a s = IsSoundIn entries m b (fault.Reg r v) a s

  before_is : (a : ℕ) → is_kept_before instrs r a ≡ true → SoundReg a source.Before
  before_is zero h = absurd cc
  before_is (suc before) h = split (nat_lt (suc before) 4096)
      (λ few. ap (λ (n : ℕ). burst entries (put_at b n (fault.Reg r v) ∷ []) m) (sym (one_less before))
      ∙ (kept before (slice_get instrs before) refl (sym (with_few few) ∙ h) (omega (arith, ltb-true (suc before) 4096 few))
      ∙ ap (λ (n : ℕ). burst entries (put_at b n (fault.Reg r v) ∷ []) m) (one_more before)))
      (λ many. let no_more : false ≡ true = sym (without many) ∙ h in absurd cc)
    where
      with_few : nat_lt (suc before) 4096 ≡ true → is_kept_before instrs r (suc before) ≡ keeps (slice_get instrs before) r
      with_few e = rw e refl

      without : nat_lt (suc before) 4096 ≡ false → is_kept_before instrs r (suc before) ≡ false
      without e = rw e refl

  pub sound_register : (a : ℕ) → SoundReg a (register_source instrs r a)
  sound_register a = split (is_kept_before instrs r a)
      (λ e. rw e (before_is a e))
      (λ e. split (is_set_from (drop a instrs) r)
      (λ h. rw (e, h) (set_on (drop a instrs) a refl h))
      (λ h. rw (e, h) tt))

pub sound_in : (entries : List Entry) (m : Machine) (b a : ℕ) (kind : FaultKind)
    → IsSoundIn entries m b kind a (source_of (instrs_from 4096 entries m []) kind a)
sound_in entries m b a (fault.Reg r v) = sound_register entries m b r v a
sound_in entries m b a _ = tt

-- nothing is said if no instructions are known
pub nothing_said : (kind : FaultKind) (a : ℕ) → source_of [] kind a ≡ source.Run
nothing_said (fault.Reg r v) a = rw (none_before a, none_left a) refl
  where
    none_before : (n : ℕ) → is_kept_before [] r n ≡ false
    none_before zero = refl
    none_before (suc n) = split (nat_lt (suc n) 4096) (λ e. rw e refl) (λ e. rw e refl)

    none_left : (n : ℕ) → is_set_from (drop n []) r ≡ false
    none_left zero = refl
    none_left (suc n) = refl
nothing_said _ a = refl
