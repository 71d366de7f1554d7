-- An operation that is held has passed the static check, so a Read or Write covers at least one block.
use Rattle.std.proofs.Common.{◌≡◌, ℕ, ◌+◌, ◌/◌, ◌≤◌, ◌<◌, ◌&&◌, nat_le, true, false, Option, Some, None, length, refl, sym, arith, true≢false}
use Rattle.std.proofs.lemmas.Bool.{and_parts, leb-true}
use Rattle.claim_index.specs.Claims.{HasBlocks, claimed_by}
use Rattle.part_laws.proofs.PartFacts.{checked_op_of_table}
use Rattle.nook_data.specs.declared.calls.Answer.{Answer}
use Rattle.nook_data.specs.declared.classes.Class.{Class}
use Rattle.nook_data.specs.declared.calls.Op.{Op}
use Rattle.nook_data.specs.declared.calls.Op.TheVariants as op
use Rattle.nook_data.specs.Classes.{check_op, is_block_length, static_check}
use Rattle.part_defs.specs.State.{PartState}
use Rattle.part_core.specs.Answering.{answer_at_once, answer_by}
use Rattle.machine_defs.proofs.BurstKeeps.{split}

no_answer : {X : Type 0} {x : X} {G : Type 0} → Some x ≡ None → G
no_answer h = cc

sixteen_words : (n : ℕ) → is_block_length n ≡ true → 16 ≤ n
sixteen_words n e = split (nat_le 16 n)
    (λ t. leb-true 16 n t)
    (λ f. absurd (true≢false (sym (rw f at e))))

some_blocks : (first n : ℕ) → 16 ≤ n → first < first + n / 16
some_blocks first n l = omega (arith, l)

checked_has_blocks : (c : Class) (blocks : ℕ) (o : Op) → static_check c blocks o ≡ None → HasBlocks (claimed_by o)
checked_has_blocks c blocks (op.Read first count) h =
    let k : check_op c blocks (op.Read first count) ≡ None = checked_op_of_table c blocks (op.Read first count) h in
    split (nat_le 1 count && nat_le count 8)
    (λ e. let some : 1 ≤ count = leb-true 1 count (and_parts (nat_le 1 count) (nat_le count 8) e).0 in omega (arith, some))
    (λ e. no_answer (rw e at k))
checked_has_blocks c blocks (op.Write first words) h =
    let k : check_op c blocks (op.Write first words) ≡ None = checked_op_of_table c blocks (op.Write first words) h in
    split (is_block_length (length words))
    (λ e. some_blocks first (length words) (sixteen_words (length words) e))
    (λ e. no_answer (rw e at k))
checked_has_blocks c blocks (op.Send frame) h = tt
checked_has_blocks c blocks op.Recv h = tt
checked_has_blocks c blocks op.Open h = tt
checked_has_blocks c blocks (op.Play samples) h = tt
checked_has_blocks c blocks op.Close h = tt
checked_has_blocks c blocks (op.Get key) h = tt
checked_has_blocks c blocks (op.Set key value) h = tt

unanswered : (checked : Option Answer) (thread : ℕ) (o : Op) (p : PartState) → answer_by checked thread o p ≡ None → checked ≡ None
unanswered None thread o p h = refl
unanswered (Some a) thread o p h = no_answer h

pub held_has_blocks : (thread : ℕ) (o : Op) (p : PartState) → answer_at_once thread o p ≡ None → HasBlocks (claimed_by o)
held_has_blocks thread o p h = checked_has_blocks p.spec.class p.spec.blocks o (unanswered (static_check p.spec.class p.spec.blocks o) thread o p h)
