-- Every fault of the given kinds in a burst.
use Rattle.std.proofs.Common.{◌≡◌, ◌∙◌, refl, sym, ap, ℕ, zero, suc, ◌+◌, ◌-◌, ◌<◌, ◌≤◌, min, List, [], ◌∷◌, ◌++◌, map, arith, append_assoc}
use Rattle.campaign_defs.specs.Members.{alone}
use Rattle.fault_points.specs.Points.{faults_at}
use Rattle.fault_points.specs.declared.points.BurstPoints.{BurstPoints}
use Rattle.guard_defs.specs.Every.{faults_in, put_at}
use Rattle.nook_data.specs.declared.scenario.Fault.{Fault}
use Rattle.nook_data.specs.declared.scenario.FaultKind.{FaultKind}

-- the first remaining instruction, and the others
pub first_turn : (kinds : List FaultKind) (burst after turn turns : ℕ) → turn < turns
    → faults_in kinds burst (after + turn) (turns - turn)
    ≡ map (put_at burst (after + turn)) kinds ++ faults_in kinds burst (after + (turn + 1)) (turns - (turn + 1))
unfolding faults_in
first_turn kinds burst after turn turns less =
    let one_more : turns - turn ≡ suc (turns - (turn + 1)) = omega (arith, less) in
    let next : after + turn + 1 ≡ after + (turn + 1) = omega arith in
    ap (faults_in kinds burst (after + turn)) one_more
    ∙ ap (λ n. map (put_at burst (after + turn)) kinds ++ faults_in kinds burst n (turns - (turn + 1))) next

-- the first instructions, and the others
turns_apart : (kinds : List FaultKind) (burst after first more : ℕ)
    → faults_in kinds burst after (first + more) ≡ faults_in kinds burst after first ++ faults_in kinds burst (after + first) more
unfolding faults_in
turns_apart kinds burst after zero more =
    let none : 0 + more ≡ more = omega arith in
    let same : after ≡ after + 0 = omega arith in
    ap (faults_in kinds burst after) none ∙ ap (λ n. faults_in kinds burst n more) same
turns_apart kinds burst after (suc first) more =
    let next : after + 1 + first ≡ after + suc first = omega arith in
    let one_more : suc first + more ≡ suc (first + more) = omega arith in
    ap (faults_in kinds burst after) one_more ∙
    (ap (λ t. map (put_at burst after) kinds ++ t) (turns_apart kinds burst (after + 1) first more
    ∙ ap (λ n. faults_in kinds burst (after + 1) first ++ faults_in kinds burst n more) next)
    ∙ sym_assoc (map (put_at burst after) kinds) (faults_in kinds burst (after + 1) first) (faults_in kinds burst (after + suc first) more))
  where
    sym_assoc : (a b c : List Fault) → a ++ (b ++ c) ≡ (a ++ b) ++ c
    sym_assoc a b c = sym (append_assoc a b c)

map_apart : (xs ys : List Fault) → map alone (xs ++ ys) ≡ map alone xs ++ map alone ys
map_apart [] ys = refl
map_apart (x ∷ xs) ys = ap (λ t. alone x ∷ t) (map_apart xs ys)

pub lists_apart : (faults batch more : List Fault) → faults ≡ batch ++ more → map alone faults ≡ map alone batch ++ map alone more
lists_apart faults batch more e = ap (map alone) e ∙ map_apart batch more

pub burst_apart : (kinds : List FaultKind) (burst after first more turns : ℕ) → turns ≡ first + more
    → map alone (faults_in kinds burst after turns)
    ≡ map alone (faults_in kinds burst after first) ++ map alone (faults_in kinds burst (after + first) more)
burst_apart kinds burst after first more turns e =
    ap (λ n. map alone (faults_in kinds burst after n)) e
    ∙ lists_apart (faults_in kinds burst after (first + more)) (faults_in kinds burst after first) (faults_in kinds burst (after + first) more)
    (turns_apart kinds burst after first more)

pub bursts_apart : (kinds : List FaultKind) (bursts : List BurstPoints) (first : BurstPoints) (more : List BurstPoints) → bursts ≡ first ∷ more
    → map alone (faults_at kinds bursts) ≡ map alone (faults_in kinds first.burst 0 first.points) ++ map alone (faults_at kinds more)
bursts_apart kinds bursts first more e =
    ap (λ b. map alone (faults_at kinds b)) e ∙ map_apart (faults_in kinds first.burst 0 first.points) (faults_at kinds more)

pub no_turns : (kinds : List FaultKind) (burst after turns : ℕ) → turns ≡ 0 → map alone (faults_in kinds burst after turns) ≡ []
unfolding faults_in
no_turns kinds burst after turns e = ap (λ n. map alone (faults_in kinds burst after n)) e

pub turns_in_two : (count most some : ℕ) → some ≡ min count most → count ≡ some + (count - some)
turns_in_two count most some e = let low : min count most ≤ count = omega arith in omega (arith, e, low)

pub bursts_as : (kinds : List FaultKind) (bursts : List BurstPoints) (first : BurstPoints) (more : List BurstPoints) (b a n : ℕ)
    → bursts ≡ first ∷ more → b ≡ first.burst → a ≡ 0 → n ≡ first.points
    → map alone (faults_at kinds bursts) ≡ map alone (faults_in kinds b a n) ++ map alone (faults_at kinds more)
bursts_as kinds bursts first more b a n e eb ea en = rw (eb, ea, en) (bursts_apart kinds bursts first more e)
