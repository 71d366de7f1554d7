-- Claims conflict if their operations do.
use Rattle.std.proofs.Common.{◌≡◌, ℕ, ◌+◌, ◌<◌, ◌≤◌, ◌==◌, ◌&&◌, ◌||◌, nat_lt, Bool, true, false, Option, Some, None, List, [], ◌∷◌, map, refl, sym, ap, ◌∙◌, inl, inr, arith}
use Rattle.std.specs.List.{find}
use Rattle.std.specs.Option.{option_map}
use Rattle.std.proofs.lemmas.Bool.{cases_Bool, eqb-true, le-ltb}
use Rattle.claim_index.specs.declared.claim.Claim.{Claim}
use Rattle.claim_index.specs.declared.claim.Claimed.{Claimed}
use Rattle.claim_index.specs.declared.claim.Claimed.TheVariants as claimed
use Rattle.claim_index.proofs.Claims.{claim_call}
use Rattle.claim_index.proofs.Firsts.{first_before, none_before}
use Rattle.claim_index.specs.Indexed.{number_before}
use Rattle.claim_index.specs.Claims.{AreRising, first_that, HasBlocks, HaveBlocks, blocker_of, blocks_claim, claim_by, claim_of, claimed_by, claims_of, conflict, end_claimed, first_blocking, first_claimed, is_claim, is_oldest, is_reading, is_writing, meets, takes_all, takes_frames, takes_stream}
use Rattle.nook_data.specs.declared.calls.CallEntry.{CallEntry}
use Rattle.nook_data.specs.declared.classes.Class.{Class}
use Rattle.nook_data.specs.declared.classes.Class.TheVariants as class
use Rattle.nook_data.specs.declared.calls.Op.{Op}
use Rattle.nook_data.specs.declared.calls.Op.TheVariants as op
use Rattle.nook_data.specs.Classes.{blocks_of_op, conflicts, first_of_op, is_of_stream, is_recv, is_set, is_write}
use Rattle.part_defs.specs.Log.{blocks_call, is_call, open_call}

-- what an operation claims, test by test
record Agrees (o : Op) : Type 0 where
  pub all : takes_all (claimed_by o) ≡ is_set o
  pub writing : is_writing (claimed_by o) ≡ is_write o
  pub frames : takes_frames (claimed_by o) ≡ is_recv o
  pub stream : takes_stream (claimed_by o) ≡ is_of_stream o
  pub first : first_claimed (claimed_by o) ≡ first_of_op o
  pub end : end_claimed (claimed_by o) ≡ first_of_op o + blocks_of_op o

agrees : (o : Op) → Agrees o
agrees (op.Read first count) = record { all = refl; writing = refl; frames = refl; stream = refl; first = refl; end = refl }
agrees (op.Write first words) = record { all = refl; writing = refl; frames = refl; stream = refl; first = refl; end = refl }
agrees (op.Send frame) = record { all = refl; writing = refl; frames = refl; stream = refl; first = refl; end = refl }
agrees op.Recv = record { all = refl; writing = refl; frames = refl; stream = refl; first = refl; end = refl }
agrees op.Open = record { all = refl; writing = refl; frames = refl; stream = refl; first = refl; end = refl }
agrees (op.Play samples) = record { all = refl; writing = refl; frames = refl; stream = refl; first = refl; end = refl }
agrees op.Close = record { all = refl; writing = refl; frames = refl; stream = refl; first = refl; end = refl }
agrees (op.Get key) = record { all = refl; writing = refl; frames = refl; stream = refl; first = refl; end = refl }
agrees (op.Set key value) = record { all = refl; writing = refl; frames = refl; stream = refl; first = refl; end = refl }

pub conflict_is : (c : Class) (a b : Op) → conflict c (claimed_by a) (claimed_by b) ≡ conflicts c a b
conflict_is class.Block a b = rw ((agrees a).all, (agrees b).all, (agrees a).writing, (agrees b).writing, (agrees a).first, (agrees b).first, (agrees a).end, (agrees b).end) refl
conflict_is class.Net a b = rw ((agrees a).all, (agrees b).all, (agrees a).frames, (agrees b).frames) refl
conflict_is class.Sound a b = rw ((agrees a).all, (agrees b).all, (agrees a).stream, (agrees b).stream) refl

-- a call is blocked by the call whose claim blocks its claim

find_blocking : (cl : Class) (c : CallEntry) (xs : List CallEntry)
    → option_map (λ k. k.call) (find (blocks_claim cl (claim_of c)) (claims_of xs)) ≡ option_map (λ e. e.call) (find (blocks_call cl c) xs)
find_blocking cl c [] = refl
find_blocking cl c (x ∷ xs) =
    let same : blocks_claim cl (claim_of c) (claim_of x) ≡ blocks_call cl c x = ap (λ z. nat_lt x.call c.call && z) (conflict_is cl c.op x.op) in
    elim (cases_Bool (blocks_call cl c x)) [
      | inl t ↦ let s : blocks_claim cl (claim_of c) (claim_of x) ≡ true = same ∙ t in rw (s, t) refl
      | inr t ↦ let s : blocks_claim cl (claim_of c) (claim_of x) ≡ false = same ∙ t in rw (s, t) (find_blocking cl c xs)
    ]

pub claim_of_open : (call : ℕ) (xs : List CallEntry) → claim_by call (claims_of xs) ≡ option_map claim_of (open_call call xs)
claim_of_open call [] = refl
claim_of_open call (x ∷ xs) = elim (cases_Bool (is_call call x)) [
  | inl t ↦ rw t refl
  | inr t ↦ rw t (claim_of_open call xs)
]

blocking_found : (cl : Class) (found : Option CallEntry) (xs : List CallEntry)
    → first_blocking cl (option_map claim_of found) (claims_of xs) ≡ blocker_of cl found xs
blocking_found cl None xs = refl
blocking_found cl (Some c) xs = find_blocking cl c xs

pub blocking_is : (cl : Class) (call : ℕ) (claims : List Claim) (pending : List CallEntry) → claims ≡ claims_of pending
    → first_blocking cl (claim_by call claims) claims ≡ blocker_of cl (open_call call pending) pending
blocking_is cl call claims pending e =
    rw (e, claim_of_open call pending) (blocking_found cl (open_call call pending) pending)

pub blocking_before : (cl : Class) (call : ℕ) (xs : List Claim) (k : Claim) (first found : Option ℕ) → AreRising 0 xs → Some k ≡ claim_by call xs
    → first ≡ first_that (conflict cl k.on) xs → found ≡ number_before call first → found ≡ first_blocking cl (claim_by call xs) xs
blocking_before cl call xs k first found r f e n =
    let same : k.call ≡ call = claim_call call xs k (sym f) in
    rw (← f) (rw same (n ∙ ap (λ z. number_before call z) e ∙ first_before (conflict cl k.on) 0 call xs r))

-- a call that came first waits for no other
pub oldest_waits_for_none : (cl : Class) (call : ℕ) (xs : List Claim) → AreRising 0 xs → is_oldest call xs ≡ true
    → None ≡ first_blocking cl (claim_by call xs) xs
oldest_waits_for_none cl call [] r t = absurd (cc)
oldest_waits_for_none cl call (x ∷ xs) r t =
    rw (t, le-ltb x.call x.call (omega arith)) (sym (none_before (conflict cl x.on) x.call x.call xs r.1 (omega arith)))
