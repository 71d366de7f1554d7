-- Rows at their indexes.
use Rattle.std.proofs.Common.{◌≡◌, sym, subst, ℕ, zero, suc, ◌+◌, ◌<◌, List, [], ◌∷◌, ◌++◌, length, take, get_or, replicate, arith, Option, Some, None}
use Rattle.std.specs.Prelude.{IfSome, slice_get, slice_set}
use Rattle.std.specs.List.{AllZip}
use Rattle.std.proofs.lemmas.List.{take_more}
use Rattle.std.proofs.lemmas.Slice.Zip.{AllZip-long, all_zipped_more}
use Rattle.campaign_defs.specs.Types.{Row}
use Rattle.campaign_rows.specs.declared.shown.Shown.{Shown}
use Rattle.fault_campaign.specs.NumberedRows.{AreRowsFor, AreSlots, IsRowFor, IsRowOfNumber, IsSlotOf}
use Rattle.fault_campaign.specs.declared.placing.NumberedRow.{NumberedRow}
use Rattle.plan_defs.specs.declared.plan.Plan.{Plan}
use Rattle.nook_data.specs.declared.scenario.Fault.{Fault}

-- at first there is no row
pub none_numbered : (plan : Plan) (shown : Shown) (lists : List (List Fault)) (count : ℕ) → length lists ≡ count
    → AreSlots plan shown lists (replicate count None)
none_numbered plan shown [] zero e = tt
none_numbered plan shown [] (suc count) e = absurd (omega (arith, e))
none_numbered plan shown (faults ∷ lists) zero e = absurd (omega (arith, e))
none_numbered plan shown (faults ∷ lists) (suc count) e = (tt, none_numbered plan shown lists count (omega (arith, e)))

zipped_set : {X Y : Type 0} (R : X → Y → Type 0) (xs : List X) (ys : List Y) (i : ℕ) (y : Y) → AllZip R xs ys
    → IfSome (slice_get xs i) (λ x. R x y) → AllZip R xs (slice_set ys i y)
zipped_set R [] [] i y all new = tt
zipped_set R [] (z ∷ ys) i y all new = absurd all
zipped_set R (x ∷ xs) [] i y all new = absurd all
zipped_set R (x ∷ xs) (z ∷ ys) zero y all new = (new, all.1)
zipped_set R (x ∷ xs) (z ∷ ys) (suc i) y all new = (all.0, zipped_set R xs ys i y all.1 new)

-- a row is stored at its index
pub row_numbered : (plan : Plan) (shown : Shown) (lists : List (List Fault)) (slots : List (Option Row)) (numbered : NumberedRow)
    → AreSlots plan shown lists slots → IsRowOfNumber plan shown lists numbered → AreSlots plan shown lists (slice_set slots numbered.index (Some numbered.row))
row_numbered plan shown lists slots numbered are new = zipped_set (IsSlotOf plan shown) lists slots numbered.index (Some numbered.row) are new

pub zipped_at : {X Y : Type 0} (R : X → Y → Type 0) (xs : List X) (ys : List Y) (i : ℕ) (x : X) (y : Y) → AllZip R xs ys → i < length xs
    → R (get_or xs i x) (get_or ys i y)
zipped_at R [] ys i x y all less = absurd (omega (arith, less))
zipped_at R (a ∷ xs) [] i x y all less = absurd all
zipped_at R (a ∷ xs) (b ∷ ys) zero x y all less = all.0
zipped_at R (a ∷ xs) (b ∷ ys) (suc i) x y all less = zipped_at R xs ys i x y all.1 (omega (arith, less))

-- there are as many slots as members
pub as_many_slots : (plan : Plan) (shown : Shown) (lists : List (List Fault)) (slots : List (Option Row)) → AreSlots plan shown lists slots
    → length slots ≡ length lists
as_many_slots plan shown lists slots are = AllZip-long (IsSlotOf plan shown) lists slots are

-- one more row
pub one_more_row : (plan : Plan) (shown : Shown) (lists : List (List Fault)) (rows : List Row) (i : ℕ) (faults : List Fault) (row : Row)
    → i < length lists → AreRowsFor plan shown (take i lists) rows → IsRowFor plan shown (get_or lists i faults) row
    → AreRowsFor plan shown (take (i + 1) lists) (rows ++ row ∷ [])
one_more_row plan shown lists rows i faults row less before new =
    subst (λ some. AreRowsFor plan shown some (rows ++ row ∷ [])) (sym (take_more lists i faults less))
    (all_zipped_more (IsRowFor plan shown) (take i lists) rows (get_or lists i faults) row before new)

-- what holds of an item holds of the item read at its index
pub found_at : {X : Type 0} (P : X → Type 0) (xs : List X) (i : ℕ) (x : X) → x ≡ get_or xs i x → P x → IfSome (slice_get xs i) P
found_at P [] i x e p = tt
found_at P (y ∷ xs) zero x e p = subst P e p
found_at P (y ∷ xs) (suc i) x e p = found_at P xs i x e p
