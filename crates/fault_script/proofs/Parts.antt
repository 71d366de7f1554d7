-- The faults of a burst are consecutive in an ordered list.
use Rattle.std.proofs.Common.{◌≡◌, ℕ, suc, ◌+◌, ◌≤◌, ◌<◌, Bool, true, false, nat_lt, nat_le, List, [], ◌∷◌, ◌++◌, filter, length, take, drop, slice_index_or, refl, sym, ap, ◌∙◌, append-nil, arith}
use Rattle.std.specs.List.Sorted.{IsPartitionedBy, IsPartitionPoint}
use Rattle.std.proofs.lemmas.List.Sorted.{IsPartitionedBy-ltb, IsPartitionedBy-leb, IsNonDecreasingBy-drop}
use Rattle.std.proofs.lemmas.Bool.{eq-eqb, ne_eqb, ltb-true, ltb-false, leb-true, leb-false}
use Rattle.std.proofs.lemmas.List.{get_or-take, get_or-drop, take-append-drop, length-take, length-drop}
use Rattle.std.proofs.lemmas.List.Elements.{filter-append}
use Rattle.nook_data.specs.declared.scenario.Fault.{Fault}
use Rattle.machine_defs.specs.BurstFaults.{is_of_burst, faults_of_burst}
use Rattle.fault_script.specs.Order.{IsOrdered}
use Rattle.fault_script.proofs.Points.{as_they_are}

none_pass : (p : Fault → Bool) (xs : List Fault) → ((k : ℕ) (d : Fault) → k < length xs → p (slice_index_or xs k d) ≡ false) → filter p xs ≡ []
none_pass p [] h = refl
none_pass p (x ∷ xs) h = rw (h 0 x (omega arith)) (none_pass p xs (λ k d l. h (suc k) d (omega arith)))

all_pass : (p : Fault → Bool) (xs : List Fault) → ((k : ℕ) (d : Fault) → k < length xs → p (slice_index_or xs k d) ≡ true) → filter p xs ≡ xs
all_pass p [] h = refl
all_pass p (x ∷ xs) h = rw (h 0 x (omega arith)) (ap (λ z. x ∷ z) (all_pass p xs (λ k d l. h (suc k) d (omega arith))))

-- none before the first split passes; of the rest, all before the second split pass and none after it
three_parts : (p : Fault → Bool) (xs front found rest : List Fault) → xs ≡ front ++ (found ++ rest)
    → filter p front ≡ [] → filter p found ≡ found → filter p rest ≡ [] → filter p xs ≡ found
three_parts p xs front found rest e f g h =
    rw e (rw (filter-append p front (found ++ rest), filter-append p found rest, f, g, h) (append-nil found))

above : (burst start k : ℕ) (d : Fault) (xs : List Fault) → start + k < length xs
    → ((i : ℕ) (d : Fault) → start ≤ i → i < length xs → nat_lt (slice_index_or xs i d).burst burst ≡ false)
    → burst ≤ (slice_index_or (drop start xs) k d).burst
above burst start k d xs l h = rw (get_or-drop start xs k d) (ltb-false _ burst (h (start + k) d (omega arith) l))

at_once : (burst n : ℕ) → n ≤ burst → burst ≤ n → n ≡ burst
at_once burst n l m = omega arith

part_is : (burst start count : ℕ) (xs : List Fault) → IsOrdered xs
    → start ≤ length xs → count ≤ length (drop start xs)
    → IsPartitionPoint (λ f. nat_lt f.burst burst ≡ true) (λ f. nat_lt f.burst burst ≡ false) xs start
    → IsPartitionPoint (λ f. nat_le f.burst burst ≡ true) (λ f. nat_le f.burst burst ≡ false) (drop start xs) count
    → take count (drop start xs) ≡ faults_of_burst burst xs
part_is burst start count xs o l m p q =
    let below : (k : ℕ) (d : Fault) → k < length (take start xs) → is_of_burst burst (slice_index_or (take start xs) k d) ≡ false =
    λ k d h. let i : k < start = omega (arith, length-take start xs) in
    rw (get_or-take start xs k d i) (ne_eqb _ burst (λ e. omega (arith, e, ltb-true _ burst (p.0 k d (omega arith) i)))) in
    let found : (k : ℕ) (d : Fault) → k < length (take count (drop start xs)) → is_of_burst burst (slice_index_or (take count (drop start xs)) k d) ≡ true =
    λ k d h. let i : k < count = omega (arith, length-take count (drop start xs)) in
    let low = leb-true _ burst (q.0 k d (omega arith) i) in
    rw (get_or-take count (drop start xs) k d i) (eq-eqb _ burst (at_once burst _ low (above burst start k d xs (omega (arith, length-drop start xs, i, m)) p.1))) in
    let rest_after : (k : ℕ) (d : Fault) → k < length (drop count (drop start xs)) → is_of_burst burst (slice_index_or (drop count (drop start xs)) k d) ≡ false =
    λ k d h. rw (get_or-drop count (drop start xs) k d)
    (ne_eqb _ burst (λ e. omega (arith, e, leb-false _ burst (q.1 (count + k) d (omega arith) (omega (arith, length-drop count (drop start xs), h)))))) in
    sym (as_they_are xs o burst ∙ three_parts (is_of_burst burst) xs (take start xs) (take count (drop start xs)) (drop count (drop start xs))
    (sym (ap (λ z. take start xs ++ z) (take-append-drop count (drop start xs)) ∙ take-append-drop start xs))
    (none_pass _ _ below) (all_pass _ _ found) (none_pass _ _ rest_after))

-- the same for the results of two searches and two splits
pub part_at : (burst start count : ℕ) (xs first rest found : List Fault) → first ≡ xs → rest ≡ drop start first → found ≡ take count rest
    → IsOrdered xs → start ≤ length first → count ≤ length rest
    → (IsPartitionedBy (λ f. nat_lt f.burst burst) first → IsPartitionPoint (λ f. nat_lt f.burst burst ≡ true) (λ f. nat_lt f.burst burst ≡ false) first start)
    → (IsPartitionedBy (λ f. nat_le f.burst burst) rest → IsPartitionPoint (λ f. nat_le f.burst burst ≡ true) (λ f. nat_le f.burst burst ≡ false) rest count)
    → found ≡ faults_of_burst burst xs
part_at burst start count xs first rest found e f g o l m p q =
    let h : rest ≡ drop start xs = f ∙ ap (λ z. drop start z) e in
    rw (g, h) (part_is burst start count xs o (rw (← e) l) (rw (← h) m)
    (rw (← e) (p (rw e (IsPartitionedBy-ltb (λ x. x.burst) xs burst o.bursts))))
    (rw (← h) (q (rw h (IsPartitionedBy-leb (λ x. x.burst) (drop start xs) burst (IsNonDecreasingBy-drop (λ x. x.burst) start xs o.bursts))))))
