-- The replays, key by key.
use Rattle.std.proofs.Common.{◌≡◌, ℕ, suc, ◌+◌, ◌-◌, ◌≤◌, ◌<◌, Option, List, slice_index, refl, ◌∙◌, ◌⊎◌, inl, inr, arith}
use Rattle.std.proofs.lemmas.Bool.{eq-eqb, ne_eqb}
use Rattle.nook_data.specs.declared.steps.Stage.TheVariants as stage
use Rattle.part_defs.specs.State.{CallLog}
use Rattle.part_defs.specs.Log.{next_replay}
use Rattle.part_defs.proofs.PartCases.{replay_stream}

one_less : (key : ℕ) → key < 4 → 4 - key ≡ suc (4 - (key + 1))
one_less key l = omega (arith, l)

pub passed_by : (key : ℕ) (config defaults : List ℕ) (holder : Option ℕ) → key < 4 → slice_index config key ≡ slice_index defaults key
    → next_replay key (4 - key) config defaults holder ≡ next_replay (key + 1) (4 - (key + 1)) config defaults holder
passed_by key config defaults holder l e = rw (one_less key l, eq-eqb (slice_index config key) (slice_index defaults key) e) refl

pub set_again : (key : ℕ) (config defaults : List ℕ) (holder : Option ℕ) → key < 4 → (slice_index config key ≡ slice_index defaults key → ⊥)
    → next_replay key (4 - key) config defaults holder ≡ stage.ReplaySet key (slice_index config key)
set_again key config defaults holder l n = rw (one_less key l, ne_eqb (slice_index config key) (slice_index defaults key) n) refl

pub none_left : (key : ℕ) (config defaults : List ℕ) (holder : Option ℕ) → 4 ≤ key
    → next_replay key (4 - key) config defaults holder ≡ replay_stream holder
none_left key config defaults holder l = let e : 4 - key ≡ 0 = omega (arith, l) in rw e refl

-- the next key, if the sum may not fit
pub rest_after : (key next : ℕ) (log : CallLog) → (next ≡ key + 1) ⊎ ((4 ≤ next) × (4 ≤ key + 1))
    → next_replay next (4 - next) log.config log.defaults log.holder ≡ next_replay (key + 1) (3 - key) log.config log.defaults log.holder
rest_after key next log (inl e) = let k : 4 - (key + 1) ≡ 3 - key = omega arith in rw (e, k) refl
rest_after key next log (inr l) = let k : 3 - key ≡ 0 = omega (arith, l.1) in
    none_left next log.config log.defaults log.holder l.0 ∙ rw k refl
