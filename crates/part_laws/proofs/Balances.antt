use Rattle.std.proofs.Common.{◌≡◌, ◌⊎◌, ℕ, suc, ◌+◌, ◌-◌, not, cond, eqb, Bool, true, false, Option, Some, None, List, [], ◌∷◌, ◌++◌, length, sym, refl, ap, ◌∙◌, inl, inr, arith, nat_lt, length-append}
use Rattle.std.proofs.lemmas.Bool.{cond-true, cond-false, eq-eqb}
use Rattle.nook_data.specs.declared.calls.Answer.{Answer}
use Rattle.nook_data.specs.declared.steps.Mode.{Mode}
use Rattle.nook_data.specs.declared.steps.Mode.TheVariants as mode
use Rattle.nook_data.specs.declared.steps.Stage.{Stage}
use Rattle.nook_data.specs.declared.steps.Stage.TheVariants as stage
use Rattle.promise_defs.specs.Licence.{is_balanced}
use Rattle.promise_defs.specs.Losses.{one_if}
use Rattle.part_laws.specs.Counts.{Counts, count_answer, count_handed, count_stage, in_ring, in_driver, is_frame, reported}
use Rattle.part_laws.specs.Balance.{frame_counts, held_at, Balance}
use Rattle.part_laws.specs.Facts.{is_driving}
use Rattle.part_laws.specs.Views.{stage_of}
use Rattle.part_laws.proofs.Indices.{split}

-- The counts of frames, after everything that moves a frame.

-- ---- frames in the driver

-- while the driver runs, its frames are those popped and not handed up
pub held_active : (m : Mode) (d : Bool) → (d ≡ true → is_driving (stage_of m) ≡ true) → (m ≡ mode.Running) ⊎ (d ≡ true)
    → (rest : List (List ℕ)) → held_at (stage_of m) rest ≡ length rest
held_active m d f (inl e) rest = ap (λ x. held_at (stage_of x) rest) e
held_active m d f (inr e) rest = by_stage (stage_of m) (f e)
  where
    by_stage : (s : Option Stage) → is_driving s ≡ true → held_at s rest ≡ length rest
    by_stage None h = absurd cc
    by_stage (Some stage.Stop) h = absurd cc
    by_stage (Some stage.Collect) h = absurd cc
    by_stage (Some stage.Reset) h = absurd cc
    by_stage (Some stage.Load) h = absurd cc
    by_stage (Some stage.Init) h = refl
    by_stage (Some (stage.ReplaySet k v)) h = refl
    by_stage (Some stage.ReplayOpen) h = refl
    by_stage (Some stage.Resume) h = absurd cc

-- ---- a frame popped

pub popped_balance : (ring ring' queue held held' : ℕ) (n : Counts) → ring ≡ suc ring' → held' ≡ suc held
    → Balance ring queue held (frame_counts n) → Balance ring' queue held' (frame_counts (record n { popped = suc n.popped; popped_since = suc n.popped_since }))
popped_balance ring ring' queue held held' n r h x = record {
  arrived = x.arrived;
  kept = omega (arith, x.kept, r);
  taken = x.taken;
  driver = omega (arith, x.driver, h);
  flow = omega (arith, x.flow, h);
}

-- ---- a frame handed up

pub handed_balance : (ring queue queue' held held' r : ℕ) (n : Counts) → held ≡ suc held'
    → queue + one_if (not (eqb r 0)) ≡ queue' → one_if (not (eqb r 0)) + one_if (eqb r 0) ≡ 1
    → Balance ring queue held (frame_counts n) → Balance ring queue' held' (frame_counts (count_handed (Some r) n))
handed_balance ring queue queue' held held' r n h q one x = record {
  arrived = x.arrived;
  kept = x.kept;
  taken = omega (arith, x.taken, q);
  driver = omega (arith, x.driver, h);
  flow = omega (arith, x.flow, h, one);
}

-- the result of service 6 says whether the queue had room
pub room_balance : (queue : List (List ℕ)) (frame : List ℕ) (r : ℕ) → r ≡ cond (nat_lt (length queue) 64) 1 0
    → (length queue + one_if (not (eqb r 0)) ≡ length (cond (nat_lt (length queue) 64) (queue ++ frame ∷ []) queue))
    × (one_if (not (eqb r 0)) + one_if (eqb r 0) ≡ 1)
room_balance queue frame r e = split (nat_lt (length queue) 64)
    (λ t. (
      ap (λ x. length queue + one_if (not (eqb x 0))) (one t) ∙ omega (arith, length-append queue (frame ∷ []))
          ∙ sym (ap length (cond-true (nat_lt (length queue) 64) (queue ++ frame ∷ []) queue t)),
      ap (λ x. one_if (not (eqb x 0)) + one_if (eqb x 0)) (one t),
    ))
    (λ t. (
      ap (λ x. length queue + one_if (not (eqb x 0))) (none t) ∙ omega arith
          ∙ sym (ap length (cond-false (nat_lt (length queue) 64) (queue ++ frame ∷ []) queue t)),
      ap (λ x. one_if (not (eqb x 0)) + one_if (eqb x 0)) (none t),
    ))
  where
    one : nat_lt (length queue) 64 ≡ true → r ≡ 1
    one t = e ∙ cond-true (nat_lt (length queue) 64) 1 0 t

    none : nat_lt (length queue) 64 ≡ false → r ≡ 0
    none t = e ∙ cond-false (nat_lt (length queue) 64) 1 0 t

-- ---- an answer

-- what an answer takes from the queue
abbrev pub TakesFrame : Answer → List (List ℕ) → List (List ℕ) → Type 0
TakesFrame a queue queue' = length queue' + one_if (is_frame a) ≡ length queue

pub answered_balance : (ring held call : ℕ) (queue queue' : List (List ℕ)) (a : Answer) (n : Counts) → TakesFrame a queue queue'
    → Balance ring (length queue) held (frame_counts n) → Balance ring (length queue') held (frame_counts (count_answer call a n))
answered_balance ring held call queue queue' a n q x = record
    { arrived = x.arrived; kept = x.kept; taken = omega (arith, x.taken, q); driver = x.driver; flow = x.flow }

-- ---- a Reset

pub reset_balance : (ring queue held : ℕ) (n : Counts) → Balance ring queue held (frame_counts n) → Balance 0 queue 0 (frame_counts (count_stage stage.Reset n))
reset_balance ring queue held n x = record {
  arrived = x.arrived;
  kept = omega (arith, x.kept);
  taken = x.taken;
  driver = omega arith;
  flow = omega (arith, x.kept, x.flow, x.driver);
}

-- ---- an arrival

pub arrived_balance : (ring ring' queue held : ℕ) (kept : Bool) (n : Counts) → ring' ≡ ring + one_if kept → one_if kept + one_if (not kept) ≡ 1
    → Balance ring queue held (frame_counts n)
    → Balance ring' queue held (frame_counts (record n { arrived = suc n.arrived; kept = n.kept + one_if kept; lost = n.lost + one_if (not kept) }))
arrived_balance ring ring' queue held kept n r one x = record {
  arrived = omega (arith, x.arrived, one);
  kept = omega (arith, x.kept, r);
  taken = x.taken;
  driver = x.driver;
  flow = x.flow;
}

pub one_of : (b : Bool) → one_if b + one_if (not b) ≡ 1
one_of true = refl
one_of false = refl

-- ---- what is reported

pub balance_reported : (ring queue held : ℕ) (n : Counts) → Balance ring queue held (frame_counts n) → is_balanced (reported n) ≡ true
balance_reported ring queue held n x = eq-eqb n.arrived
    (n.received + (n.taken - n.received) + in_ring n + in_driver n + n.reset + n.lost + n.refused)
    (omega (arith, x.arrived, x.kept, x.taken, x.driver, x.flow))
