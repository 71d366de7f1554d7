-- The generated scenario is within every limit.
use Rattle.std.proofs.Common.{◌≡◌, ◌∙◌, refl, ℕ, zero, suc, ◌+◌, ◌*◌, ◌%◌, ◌^◌, ◌<◌, ◌≤◌, ◌==◌, ◌&&◌, ◌⊎◌, inl, inr, Bool, true, false, nat_lt, nat_le, List, [], ◌∷◌, ◌++◌, length, map, replicate, codes, decimal, if◌then◌else◌, arith, lit≤, lit<, length-append}
use Rattle.std.specs.Prelude.{All}
use Rattle.std.specs.Fmt.{digits}
use Rattle.std.specs.List.{list_all}
use Rattle.std.proofs.lemmas.Bool.{ltb-true, leb-true, and_parts}
use Rattle.std.proofs.lemmas.List.{length-replicate}
use Rattle.std.proofs.lemmas.List.Elements.{All-nil, All-cons, All-push, All-map, All-weaker, All-replicate}
use Rattle.std.proofs.lemmas.List.Sums.{AllPass-from_list_all}
use Rattle.run_defs.specs.Generated.{generated_disk, frames_to, generated_link, generated_op, ops_to, generated_thread}
use Rattle.run_defs.specs.Generated.{generated}
use Rattle.scenario_gen.specs.Pieces.{trap_at, generated_audio}
use Rattle.run_defs.specs.References.{block_image, block_words, net_image, net_words, sound_image, sound_words}
use Rattle.nook_data.specs.Valid.{IsWord, AreWords, IsValidImage, IsValidFault, IsValidPart, IsValidThread}
use Rattle.nook_data.specs.Valid.{IsValidScenario}
use Rattle.nook_data.specs.Views.Limits.{IsValidFrame, IsValidStep}
use Rattle.nook_data.specs.Names.{is_name}
use Rattle.nook_data.specs.declared.calls.Op.TheVariants as op

-- if a test finds all numbers below n, they are
below : (n : ℕ) (xs : List ℕ) → list_all (λ x. nat_lt x n) xs ≡ true → All (λ x. x < n) xs
below n xs h = All-weaker (λ x. nat_lt x n ≡ true) (λ x. x < n) (λ x e. ltb-true x n e) xs (AllPass-from_list_all (λ x. nat_lt x n) xs h)

within : (n : ℕ) (xs : List ℕ) → list_all (λ x. nat_le x n) xs ≡ true → All (λ x. x ≤ n) xs
within n xs h = All-weaker (λ x. nat_le x n ≡ true) (λ x. x ≤ n) (λ x e. leb-true x n e) xs (AllPass-from_list_all (λ x. nat_le x n) xs h)

pub block_is_valid : IsValidImage block_image
block_is_valid = record {
  entries = refl;
  addresses = within 2047 block_image.entries refl;
  text = (lit≤ tt, below (2 ^ 32) block_words refl);
  initial = (lit≤ tt, All-nil IsWord);
}

pub net_is_valid : IsValidImage net_image
net_is_valid = record {
  entries = refl;
  addresses = within 2047 net_image.entries refl;
  text = (lit≤ tt, below (2 ^ 32) net_words refl);
  initial = (lit≤ tt, All-nil IsWord);
}

pub sound_is_valid : IsValidImage sound_image
sound_is_valid = record {
  entries = refl;
  addresses = within 2047 sound_image.entries refl;
  text = (lit≤ tt, below (2 ^ 32) sound_words refl);
  initial = (lit≤ tt, All-nil IsWord);
}

trap_is_valid : (burst : ℕ) → 1 ≤ burst → burst < 2 ^ 32 → IsValidFault (trap_at burst)
trap_is_valid burst low high = record { burst = (low, high); after = lit≤ tt; kind = tt }

-- a number that a trap may have as its burst
abbrev is_burst : ℕ → Bool
is_burst burst = nat_lt 0 burst && nat_lt burst (2 ^ 32)

traps_are_valid : (bursts : List ℕ) → list_all is_burst bursts ≡ true → All IsValidFault (map trap_at bursts)
traps_are_valid bursts h =
    All-map IsValidFault trap_at bursts
    (All-weaker (λ b. is_burst b ≡ true) (λ b. IsValidFault (trap_at b))
    (λ b e. let p = and_parts (nat_lt 0 b) (nat_lt b (2 ^ 32)) e in
    trap_is_valid b (ltb-true 0 b p.0) (ltb-true b (2 ^ 32) p.1))
    bursts (AllPass-from_list_all is_burst bursts h))

frame_is_valid : (n : ℕ) → n < 2 ^ 32 → IsValidFrame (n ∷ [])
frame_is_valid n small = (lit≤ tt, (lit≤ tt, All-cons IsWord n [] small (All-nil IsWord)))

length_frames : (n : ℕ) → length (frames_to n) ≡ n
length_frames zero = refl
length_frames (suc n) = length-append (frames_to n) ((suc n ∷ []) ∷ []) ∙ (omega (arith, length_frames n))

frames_are_valid : (n : ℕ) → n < 2 ^ 32 → All IsValidFrame (frames_to n)
frames_are_valid zero small = All-nil IsValidFrame
frames_are_valid (suc n) small = All-push IsValidFrame (frames_to n) (suc n ∷ []) (frames_are_valid n (omega arith)) (frame_is_valid (suc n) small)

disk_is_valid : IsValidPart generated_disk
disk_is_valid = record {
  name = refl;
  fits = (lit≤ tt, lit≤ tt, refl);
  bad_count = lit≤ tt;
  bad = All-nil _;
  limit = lit≤ tt;
  class = refl;
  image = block_is_valid;
  fault_count = lit≤ tt;
  faults = traps_are_valid (5 ∷ 10 ∷ 15 ∷ 20 ∷ 25 ∷ 30 ∷ 35 ∷ 40 ∷ []) refl;
}

link_is_valid : (n : ℕ) → n ≤ 256 → IsValidPart (generated_link n)
link_is_valid n most = record {
  name = refl;
  fits = (refl, refl, omega (arith, length_frames n), frames_are_valid n (omega arith));
  bad_count = lit≤ tt;
  bad = All-nil _;
  limit = lit≤ tt;
  class = refl;
  image = net_is_valid;
  fault_count = lit≤ tt;
  faults = All-nil IsValidFault;
}

audio_is_valid : IsValidPart generated_audio
audio_is_valid = record {
  name = refl;
  fits = (refl, refl, refl);
  bad_count = lit≤ tt;
  bad = All-nil _;
  limit = lit≤ tt;
  class = refl;
  image = sound_is_valid;
  fault_count = lit≤ tt;
  faults = All-nil IsValidFault;
}

-- a remainder is a word
rest_is_word : (n m : ℕ) → 0 < m → m < 2 ^ 32 → n % m < 2 ^ 32
rest_is_word n m low high = omega arith

write_is_valid : (first word : ℕ) → first < 2 ^ 32 → word < 2 ^ 32 → IsWord first × AreWords 256 (replicate 16 word)
write_is_valid first word f w = (f, (omega (arith, length-replicate 16 word), All-replicate IsWord 16 word w))

send_is_valid : (a b : ℕ) → a < 2 ^ 32 → b < 2 ^ 32 → AreWords 256 (a ∷ b ∷ [])
send_is_valid a b p q = (lit≤ tt, All-cons IsWord a (b ∷ []) p (All-cons IsWord b [] q (All-nil IsWord)))

if_holds : {X : Type 0} (P : X → Type 0) (b : Bool) (x y : X) → P x → P y → P (if b then x else y)
if_holds P true x y p q = p
if_holds P false x y p q = q

step_is_valid : (t k which : ℕ) → t < 4 → k < 256 → IsValidStep 3 (generated_op t k which)
step_is_valid t k which ht hk =
    if_holds (IsValidStep 3) (which == 0) (0, op.Write ((16 * t + k) % 64) (replicate 16 (1000 * t + k))) _
    (lit< tt, write_is_valid _ _ (omega arith) (omega arith))
    (if_holds (IsValidStep 3) (which == 1) (0, op.Read ((16 * t + k + 63) % 64) 1) _ (lit< tt, (omega arith, lit< tt))
    (if_holds (IsValidStep 3) (which == 2) (1, op.Send (t ∷ k ∷ [])) _ (lit< tt, send_is_valid t k (omega arith) (omega arith))
    (if_holds (IsValidStep 3) (which == 3) (1, op.Recv) _ (lit< tt, tt)
    (if_holds (IsValidStep 3) (which == 4) (2, op.Set 1 (k % 11)) (2, op.Get 1) (lit< tt, (lit< tt, omega arith)) (lit< tt, lit< tt)))))

length_ops : (t n : ℕ) → length (ops_to t n) ≡ n
length_ops t zero = refl
length_ops t (suc n) = length-append (ops_to t n) (generated_op t n ((t + n) % 6) ∷ []) ∙ (omega (arith, length_ops t n))

ops_are_valid : (t n : ℕ) → t < 4 → n ≤ 256 → All (IsValidStep 3) (ops_to t n)
ops_are_valid t zero ht hn = All-nil (IsValidStep 3)
ops_are_valid t (suc n) ht hn =
    All-push (IsValidStep 3) (ops_to t n) (generated_op t n ((t + n) % 6)) (ops_are_valid t n ht (omega arith))
    (step_is_valid t n ((t + n) % 6) ht (omega arith))

lt_four : (t : ℕ) → t < 4 → (t ≡ 0) ⊎ ((t ≡ 1) ⊎ ((t ≡ 2) ⊎ (t ≡ 3)))
lt_four zero h = inl refl
lt_four (suc zero) h = inr (inl refl)
lt_four (suc (suc zero)) h = inr (inr (inl refl))
lt_four (suc (suc (suc t))) h = inr (inr (inr (omega arith)))

names_are_valid : (t : ℕ) → t < 4 → is_name (codes "t" ++ decimal t) ≡ true
unfolding digits
names_are_valid t ht = elim (lt_four t ht) [
  | inl e ↦ rw e refl
  | inr (inl e) ↦ rw e refl
  | inr (inr (inl e)) ↦ rw e refl
  | inr (inr (inr e)) ↦ rw e refl
]

thread_is_valid : (n t : ℕ) → n ≤ 256 → t < 4 → IsValidThread 3 (generated_thread n t)
thread_is_valid n t hn ht = record {
  name = names_are_valid t ht;
  op_count = rw (length_ops t n) hn;
  ops = ops_are_valid t n ht hn;
}

three : {X : Type 0} (P : X → Type 0) (x y z : X) → P x → P y → P z → All P (x ∷ y ∷ z ∷ [])
three P x y z p q r = All-cons P x (y ∷ z ∷ []) p (All-cons P y (z ∷ []) q (All-cons P z [] r (All-nil P)))

threads_are_valid : (n : ℕ) → n ≤ 256
    → All (IsValidThread 3) (generated_thread n 0 ∷ generated_thread n 1 ∷ generated_thread n 2 ∷ generated_thread n 3 ∷ [])
threads_are_valid n hn =
    All-cons (IsValidThread 3) (generated_thread n 0) (generated_thread n 1 ∷ generated_thread n 2 ∷ generated_thread n 3 ∷ [])
    (thread_is_valid n 0 hn (lit< tt))
    (three (IsValidThread 3) (generated_thread n 1) (generated_thread n 2) (generated_thread n 3)
    (thread_is_valid n 1 hn (lit< tt)) (thread_is_valid n 2 hn (lit< tt)) (thread_is_valid n 3 hn (lit< tt)))

parts_are_valid : (n : ℕ) → n ≤ 256 → All IsValidPart (generated_disk ∷ generated_link n ∷ generated_audio ∷ [])
parts_are_valid n hn = three IsValidPart generated_disk (generated_link n) generated_audio disk_is_valid (link_is_valid n hn) audio_is_valid

pub generated_is_valid : (n : ℕ) → n ≤ 256 → IsValidScenario (generated n)
unfolding generated digits
generated_is_valid n hn = record {
  schedule = omega arith;
  part_count = (lit≤ tt, lit≤ tt);
  parts = parts_are_valid n hn;
  part_names = refl;
  thread_count = lit≤ tt;
  threads = threads_are_valid n hn;
  thread_names = refl;
}
