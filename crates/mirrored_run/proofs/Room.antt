-- A mirror that serves the script of one thread never meets a part that has all the calls it may have.
use Rattle.std.proofs.Common.{◌≡◌, ℕ, zero, suc, ◌+◌, ◌<◌, ◌≤◌, true, List, [], ◌∷◌, ◌++◌, get_or, length, map, take, refl, sym, ap, subst, ◌∙◌, arith, add-one}
use Rattle.std.specs.List.{list_all}
use Rattle.std.proofs.lemmas.Bool.{and_parts}
use Rattle.std.proofs.Math.Seq.{take-suc}
use Rattle.nook_data.specs.declared.mirror.MirrorAnswer.{MirrorAnswer}
use Rattle.nook_data.specs.declared.calls.Op.{Op}
use Rattle.nook_data.specs.declared.calls.Op.TheVariants as op
use Rattle.nook_data.specs.declared.scenario.PartSpec.{PartSpec}
use Rattle.mirror_block.specs.Mirrors.{IsMirrorAnswer, IsMirror, MirrorView}
use Rattle.mirror_block.specs.Rule.{is_disk_op}
use Rattle.mirrored_run.specs.Mirrors.{is_mirrored_op}
use Rattle.mirrored_run.specs.Serving.{AreServedBy, HasAsked}
use Rattle.mirrored_run.proofs.Following.{asked_so, served_more}

-- ---- the operations so far

mapped_more : (xs : List (ℕ × Op)) (x : ℕ × Op) → map (λ o. o.1) (xs ++ x ∷ []) ≡ map (λ o. o.1) xs ++ x.1 ∷ []
mapped_more [] x = refl
mapped_more (y ∷ xs) x = ap (λ (l : List Op). y.1 ∷ l) (mapped_more xs x)

module _ {D : Type 0} where
  room_for : (n k : ℕ) → n ≤ 256 → k ≤ n → (m : MirrorView D) → HasAsked (0 + k) m → HasAsked 256 m
  room_for n k a b m h = record { left = let l = h.left in omega arith; right = let r = h.right in omega arith }

  pub room_so : (spec : D → PartSpec) (i : ℕ) (ops : List (ℕ × Op)) (answers : List MirrorAnswer) (old now : MirrorView D) → HasAsked 0 old → length ops ≤ 256
      → AreServedBy spec old (map (λ o. o.1) (take i ops)) answers now → HasAsked 256 now
  room_so spec i ops answers old now h few served =
      room_for (length ops) (length (map (λ o. o.1) (take i ops))) few (fewer i ops) now
      (asked_so spec old (map (λ o. o.1) (take i ops)) answers now 0 served h)
    where
      fewer : (i : ℕ) (xs : List (ℕ × Op)) → length (map (λ o. o.1) (take i xs)) ≤ length xs
      fewer zero xs = omega arith
      fewer (suc i) [] = omega arith
      fewer (suc i) (x ∷ xs) = let n = fewer i xs in omega arith

  pub served_next : (spec : D → PartSpec) (i : ℕ) (ops : List (ℕ × Op)) (o : ℕ × Op) (answers more : List MirrorAnswer) (a : MirrorAnswer) (old now new : MirrorView D)
      → i < length ops → o ≡ get_or ops i o → more ≡ answers ++ a ∷ [] → AreServedBy spec old (map (λ o. o.1) (take i ops)) answers now
      → IsMirrorAnswer now new o.1 a → IsMirror spec new → AreServedBy spec old (map (λ o. o.1) (take (i + 1) ops)) more new
  served_next spec i ops o answers more a old now new within is pushed served answered mirror =
      subst (λ (l : List MirrorAnswer). AreServedBy spec old (map (λ o. o.1) (take (i + 1) ops)) l new) (sym pushed)
      (subst (λ (l : List Op). AreServedBy spec old l (answers ++ a ∷ []) new) (sym taken)
      (served_more spec old now (map (λ o. o.1) (take i ops)) answers o.1 a new served answered mirror))
    where
      taken : map (λ o. o.1) (take (i + 1) ops) ≡ map (λ o. o.1) (take i ops) ++ o.1 ∷ []
      taken =
          ap (λ (n : ℕ). map (λ o. o.1) (take n ops)) (add-one i) ∙ ap (map (λ o. o.1)) (take-suc ops i o within)
          ∙ ap (λ (x : ℕ × Op). map (λ o. o.1) (take i ops ++ x ∷ [])) (sym is) ∙ mapped_more (take i ops) o

-- ---- an operation of the script

mirrored_disk : (o : ℕ × Op) → is_mirrored_op o ≡ true → is_disk_op o.1 ≡ true
mirrored_disk (part, op.Read first count) h = refl
mirrored_disk (part, op.Write first words) h = refl
mirrored_disk o h = absurd cc

pub disk_op_at : (i : ℕ) (ops : List (ℕ × Op)) (o : ℕ × Op) → list_all is_mirrored_op ops ≡ true → i < length ops → o ≡ get_or ops i o → is_disk_op o.1 ≡ true
disk_op_at i [] o h l e = absurd (omega arith)
disk_op_at zero (x ∷ ops) o h l e = subst (λ (y : ℕ × Op). is_disk_op y.1 ≡ true) (sym e) (mirrored_disk x (and_parts (is_mirrored_op x) (list_all is_mirrored_op ops) h).0)
disk_op_at (suc i) (x ∷ ops) o h l e = disk_op_at i ops o (and_parts (is_mirrored_op x) (list_all is_mirrored_op ops) h).1 (omega arith) e
