use Rattle.std.specs.Prelude.{◌≡◌, ◌<◌, ◌⊎◌, ℕ, Bool, true, false, Option, Some, None, List, [], ◌∷◌, ◌++◌, length}
use Rattle.std.specs.Prelude.{slice_get, slice_index, slice_index_or}
use Rattle.nook_data.specs.declared.classes.Class.{Class}
use Rattle.nook_data.specs.declared.classes.Class.TheVariants as class
use Rattle.nook_data.specs.declared.steps.Mode.{Mode}
use Rattle.nook_data.specs.declared.steps.Mode.TheVariants as mode
use Rattle.nook_data.specs.declared.calls.Op.{Op}
use Rattle.nook_data.specs.declared.calls.Op.TheVariants.{Read, Write, Send, Recv, Open, Play, Close, Get, Set}
use Rattle.nook_data.specs.declared.steps.Stage.{Stage}
use Rattle.nook_data.specs.declared.steps.Stage.TheVariants as stage
use Rattle.promise_defs.specs.Blocks.{has_block, words_for}
use Rattle.nook_data.specs.Classes.{conflicts, covers, defaults_of, is_recv, is_write, same_class, static_check}
use Rattle.nook_data.specs.Frames.{is_empty}
use Rattle.part_laws.specs.Views.{View, Past, Core, Call, cores, open_from, stage_of}

-- The facts that hold of a part and its past, in any order of the steps, while its driver keeps the contract. Each step
-- keeps them.

-- the item at an index of a list
abbrev pub At : {X : Type 0} → List X → ℕ → X → Type 0
At xs index x = slice_get xs index ≡ Some x

-- ---- calls

-- a call that has at most one attempt
abbrev pub is_once : Op → Bool
is_once (Read first count) = false
is_once (Write first words) = false
is_once (Send frame) = true
is_once Recv = true
is_once Open = true
is_once (Play samples) = true
is_once Close = false
is_once (Get key) = true
is_once (Set key value) = false

-- one call: if it is open, it passed the static check; if it is Inside, it is open and was entered; if it may have only
-- one attempt, it is Inside from its Enter to its end
pub record CallFacts (class : Class) (size : ℕ) (c : Core) : Type 0 where
  pub thread : c.thread < 16
  pub checked : c.waits ≡ true → static_check class size c.op ≡ None
  pub entered : c.inside ≡ true → 0 < c.attempts
  pub opened : c.inside ≡ true → c.waits ≡ true
  pub once : is_once c.op ≡ true → c.waits ≡ true → 0 < c.attempts → c.inside ≡ true

-- all calls: a thread has at most one open call; one that was Inside conflicts with no open call of a smaller number
pub record CallsFacts (class : Class) (size : ℕ) (cs : List Core) : Type 0 where
  pub each : (k : ℕ) (c : Core) → At cs k c → CallFacts class size c
  pub alone : (j k : ℕ) (c d : Core) → At cs j c → At cs k d → c.waits ≡ true → d.waits ≡ true
      → c.thread ≡ d.thread → j ≡ k
  pub apart : (j k : ℕ) (c d : Core) → At cs j c → At cs k d → j < k → c.waits ≡ true → d.waits ≡ true
      → 0 < d.attempts → conflicts class d.op c.op ≡ false

-- ---- the medium

-- an open Write that was Inside covers the block and has stored it
pub record IsStored (cs : List Core) (n : ℕ) (held : List ℕ) : Type 0 where
  pub index : ℕ
  pub call : Core
  pub at : At cs index call
  pub waits : call.waits ≡ true
  pub entered : 0 < call.attempts
  pub writes : is_write call.op ≡ true
  pub covered : covers call.op n ≡ true
  pub named : has_block n call.stored ≡ true
  pub words : held ≡ words_for call.op n

-- a block of the medium differs from the plain disk only if such a Write stored it; a block that an open Write stored
-- has its words
pub record DiskFacts (cs : List Core) (plain medium : List (List ℕ)) : Type 0 where
  pub size : length medium ≡ length plain
  pub blocks : (n : ℕ) → (slice_index_or medium n [] ≡ slice_index_or plain n [])
      ⊎ IsStored cs n (slice_index_or medium n [])
  pub named : (k : ℕ) (c : Core) (n : ℕ) → At cs k c → c.waits ≡ true → is_write c.op ≡ true
      → has_block n c.stored ≡ true
      → slice_index_or medium n [] ≡ words_for c.op n
  pub covered : (k : ℕ) (c : Core) (n : ℕ) → At cs k c → c.waits ≡ true → is_write c.op ≡ true
      → has_block n c.stored ≡ true
      → (0 < c.attempts) × (covers c.op n ≡ true)

-- ---- the stream

-- the stream is free while an Open is Inside; while a Play or Close is Inside, its caller has the stream
abbrev pub HolderFits : Option ℕ → ℕ → Op → Type 0
HolderFits holder thread Open = holder ≡ None
HolderFits holder thread (Play samples) = holder ≡ Some thread
HolderFits holder thread Close = holder ≡ Some thread
HolderFits holder thread o = Unit {0}

-- ---- the registers

-- a Set of the key and value that is Inside
pub record IsSetting (cs : List Core) (key value : ℕ) : Type 0 where
  pub index : ℕ
  pub call : Core
  pub at : At cs index call
  pub inside : call.inside ≡ true
  pub sets : call.op ≡ Set key value

-- a register at a stage: it may be anything up to Reset, is the default before its replay, and the record after it;
-- during its replay it may already have the new value
abbrev pub KeyAt : List ℕ → List ℕ → Bool → Stage → ℕ → ℕ → Type 0
KeyAt config defaults driven stage.Stop key value = Unit {0}
KeyAt config defaults driven stage.Collect key value = Unit {0}
KeyAt config defaults driven stage.Reset key value = Unit {0}
KeyAt config defaults driven stage.Load key value = value ≡ slice_index defaults key
KeyAt config defaults driven stage.Init key value = value ≡ slice_index defaults key
KeyAt config defaults driven (stage.ReplaySet k v) key value =
    (key < k → value ≡ slice_index config key)
    × (k < key → value ≡ slice_index defaults key)
    × (key ≡ k → (value ≡ slice_index defaults key) ⊎ ((driven ≡ true) × (value ≡ v)))
KeyAt config defaults driven stage.ReplayOpen key value = value ≡ slice_index config key
KeyAt config defaults driven stage.Resume key value = value ≡ slice_index config key

-- in Running a register is the record, or already has the value of a Set that is Inside
abbrev pub KeyIn : List Core → List ℕ → List ℕ → Bool → Mode → ℕ → ℕ → Type 0
KeyIn cs config defaults driven (mode.Boot s) key value = KeyAt config defaults driven s key value
KeyIn cs config defaults driven mode.Running key value = (value ≡ slice_index config key) ⊎ IsSetting cs key value
KeyIn cs config defaults driven (mode.Recovering s) key value = KeyAt config defaults driven s key value
KeyIn cs config defaults driven (mode.Dead collected) key value = Unit {0}

-- a ReplaySet has the value of the record
abbrev pub ReplayFits : List ℕ → Option Stage → Type 0
ReplayFits config (Some (stage.ReplaySet key value)) = (key < 4) × (slice_index config key ≡ value)
ReplayFits config s = Unit {0}

-- while a part boots, nothing has been acknowledged yet
abbrev pub BootFits : List ℕ → List ℕ → Mode → Type 0
BootFits config defaults (mode.Boot s) = config ≡ defaults
BootFits config defaults m = Unit {0}

-- ---- frames

-- the first frames are among the second, in the same order
abbrev pub Sub : List (List ℕ) → List (List ℕ) → Type 0
Sub xs [] = xs ≡ []
Sub xs (y ∷ ys) = Sub xs ys ⊎ ((more : List (List ℕ)) × (xs ≡ y ∷ more) × Sub more ys)

-- ---- stages

-- calls are Inside while the driver runs, and after its failure until Stop
abbrev pub may_be_inside : Mode → Bool
may_be_inside mode.Running = true
may_be_inside (mode.Recovering stage.Stop) = true
may_be_inside m = false

-- the stages in which the shadow drives the driver
abbrev pub is_driving : Option Stage → Bool
is_driving (Some stage.Init) = true
is_driving (Some (stage.ReplaySet key value)) = true
is_driving (Some stage.ReplayOpen) = true
is_driving s = false

-- the part was given up
abbrev pub is_dead : Mode → Bool
is_dead (mode.Dead collected) = true
is_dead m = false

-- what holds of a part and its past
pub record Facts (v : View) (b : Past) : Type 0 where
  pub linked : v.dev.linked ≡ same_class v.class class.Net
  pub width : length v.dev.registers ≡ 4
  pub keys : length v.config ≡ 4
  pub defaults : v.defaults ≡ defaults_of v.class
  pub pending : v.pending ≡ open_from 1 (cores b)
  pub count : v.count ≡ length b.calls
  pub calls : CallsFacts v.class v.size (cores b)
  pub disk : DiskFacts (cores b) b.blocks v.dev.medium
  pub holders : (k : ℕ) (c : Core) → At (cores b) k c → c.inside ≡ true → HolderFits v.holder c.thread c.op
  pub registers : (key : ℕ) → KeyIn (cores b) v.config v.defaults v.driven v.mode key (slice_index v.dev.registers key)
  pub replay : ReplayFits v.config (stage_of v.mode)
  pub booting : BootFits v.config v.defaults v.mode
  pub chain : Sub (v.queue ++ (b.rest ++ v.dev.ring)) b.frames
  pub handed_up : v.mode ≡ mode.Running → (k : ℕ) (c : Call) → At b.calls k c → c.core.inside ≡ true
      → is_recv c.core.op ≡ true → c.handed ≡ true → is_empty v.queue ≡ false
  pub insides : (k : ℕ) (c : Core) → At (cores b) k c → c.inside ≡ true → may_be_inside v.mode ≡ true
  pub driving : v.driven ≡ true → is_driving (stage_of v.mode) ≡ true
