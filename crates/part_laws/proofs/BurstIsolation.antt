use Rattle.std.proofs.Common.{◌≡◌, ◌⊎◌, inl, inr, ℕ, ◌+◌, ◌%◌, ◌^◌, nat_lt, ◌==◌, sym, true, false, Option, Some, None, List, [], ◌∷◌, length, slice_index, slice_set, refl, ◌∙◌, ap, length-set, get_or-set_other, subst, ◌≢◌}
use Rattle.std.specs.List.{list_any, AllByRecursion}
use Rattle.std.proofs.lemmas.Bool.{or_parts, both_ways, eq-eqb}
use Rattle.nook_data.specs.declared.entries.Entry.{Entry}
use Rattle.nook_data.specs.declared.scenario.Fault.{Fault}
use Rattle.nook_data.specs.declared.scenario.FaultKind.{FaultKind}
use Rattle.nook_data.specs.declared.scenario.FaultKind.TheVariants as fault
use Rattle.nook_data.specs.declared.machine.Context.{Context}
use Rattle.nook_data.specs.declared.machine.Instr.{Instr}
use Rattle.nook_data.specs.declared.machine.Instr.TheVariants as instr
use Rattle.machine_defs.specs.Burst.{burst, struck_memory}
use Rattle.machine_defs.specs.Devices.{Given, Taken, input_of, output_of}
use Rattle.part_defs.specs.Domain.{machine_of, domain_burst, context_of}
use Rattle.promise_defs.specs.Isolation.{ChangesOnlyAllowed, writes_code}
use Rattle.part_defs.proofs.PartCases.{burst_by}
use Rattle.machine_defs.proofs.MachineCases.{is_code_at, past_decode, past_fetch, past_read}
use Rattle.machine_defs.specs.Machine.{decode_of}
use Rattle.machine_defs.specs.Pages.{may_write, read_word, fetch_word}
use Rattle.part_defs.specs.State.{DomainState}
use Rattle.machine_defs.specs.Execution.{Machine, turn, executed, past_input, past_output, stores, r}
use Rattle.machine_defs.proofs.BurstKeeps.{split, every_fault, burst_keeps}
use Rattle.part_laws.specs.BurstLaws.{IsIsolatedBurst}

-- memory after an instruction: unchanged, or with one word changed that the driver may write
abbrev IsWrite : List Entry → List ℕ → List ℕ → Type 0
IsWrite entries before after =
    (after ≡ before)
    ⊎ ((address : ℕ) × (word : ℕ) × (may_write entries address ≡ true) × (after ≡ slice_set before address word))

read_keeps : (entries : List Entry) (m : Machine) (a address : ℕ) (o : Option ℕ)
    → IsWrite entries m.memory (past_read m a address o).machine.memory
read_keeps entries m a address None = inl refl
read_keeps entries m a address (Some word) = inl refl

input_keeps : (entries : List Entry) (m : Machine) (a port : ℕ) (o : Option Given)
    → IsWrite entries m.memory (past_input m a port o).machine.memory
input_keeps entries m a port None = inl refl
input_keeps entries m a port (Some given) = inl refl

output_keeps : (entries : List Entry) (m : Machine) (port : ℕ) (o : Option Taken)
    → IsWrite entries m.memory (past_output m port o).machine.memory
output_keeps entries m port None = inl refl
output_keeps entries m port (Some taken) = inl refl

store_writes : (entries : List Entry) (m : Machine) (a address : ℕ)
    → IsWrite entries m.memory (stores entries m a address).machine.memory
store_writes entries m a address = split (may_write entries address)
    (λ e. rw e (inr (address, r m a, e, refl)))
    (λ e. rw e (inl refl))

executed_writes : (entries : List Entry) (m : Machine) (i : Instr)
    → IsWrite entries m.memory (executed entries m i).machine.memory
executed_writes entries m (instr.Ld a b imm) = read_keeps entries m a ((r m b + imm) % 2 ^ 32) (read_word m.memory ((r m b + imm) % 2 ^ 32))
executed_writes entries m (instr.St a b imm) = store_writes entries m a ((r m b + imm) % 2 ^ 32)
executed_writes entries m (instr.In a imm) = input_keeps entries m a imm (input_of imm m.device)
executed_writes entries m (instr.Out a imm) = output_keeps entries m imm (output_of imm (r m a) m.device)
executed_writes entries m _ = inl refl

decode_writes : (entries : List Entry) (m : Machine) (o : Option Instr)
    → IsWrite entries m.memory (past_decode entries m o).machine.memory
decode_writes entries m None = inl refl
decode_writes entries m (Some i) = executed_writes entries m i

fetch_writes : (entries : List Entry) (m : Machine) (o : Option ℕ)
    → IsWrite entries m.memory (past_fetch entries m o).machine.memory
fetch_writes entries m None = inl refl
fetch_writes entries m (Some word) = decode_writes entries m (decode_of word)

turn_writes : (entries : List Entry) (m : Machine) → IsWrite entries m.memory (turn entries m).machine.memory
unfolding turn
turn_writes entries m = fetch_writes entries m (fetch_word m.memory m.cpu.counter)

-- one word

other_position : (entries : List Entry) (a b : ℕ) → may_write entries a ≡ false → may_write entries b ≡ true → a ≢ b
other_position entries a b no' yes' e = both_ways (may_write entries b) (subst (λ x. may_write entries x ≡ false) e no') yes'

write_keeps_word : (entries : List Entry) (a : ℕ) (before after : List ℕ) → may_write entries a ≡ false
    → IsWrite entries before after → slice_index after a ≡ slice_index before a
write_keeps_word entries a before after h (inl e) = ap (λ (xs : List ℕ). slice_index xs a) e
write_keeps_word entries a before after h (inr w) =
    ap (λ (xs : List ℕ). slice_index xs a) w.3 ∙ get_or-set_other before w.0 a w.1 0 (other_position entries a w.0 h w.2)

poke_keeps_word : (entries : List Entry) (a address value : ℕ) (memory : List ℕ) → may_write entries a ≡ false
    → slice_index (struck_memory entries (fault.Poke address value) memory) a ≡ slice_index memory a
poke_keeps_word entries a address value memory h = split (may_write entries address)
    (λ e. rw e (get_or-set_other memory address a value 0 (other_position entries a address h e)))
    (λ e. rw e)

code_keeps_word : (entries : List Entry) (a address value : ℕ) (memory : List ℕ)
    → is_code_at a (fault.Code address value) ≡ false
    → slice_index (struck_memory entries (fault.Code address value) memory) a ≡ slice_index memory a
code_keeps_word entries a address value memory h = split (nat_lt address 2048)
    (λ e. rw e (get_or-set_other memory address a value 0 (λ same. both_ways (address == a) (rw e at h) (eq-eqb address a (sym same)))))
    (λ e. rw e)

struck_keeps_word : (entries : List Entry) (a : ℕ) (k : FaultKind) (memory : List ℕ)
    → may_write entries a ≡ false → is_code_at a k ≡ false
    → slice_index (struck_memory entries k memory) a ≡ slice_index memory a
struck_keeps_word entries a (fault.Poke address value) memory h c = poke_keeps_word entries a address value memory h
struck_keeps_word entries a (fault.Code address value) memory h c = code_keeps_word entries a address value memory c
struck_keeps_word entries a _ memory h c = refl

no_code : (a : ℕ) (faults : List Fault) → list_any (writes_code a) faults ≡ false
    → AllByRecursion (λ f. writes_code a f ≡ false) faults
no_code a [] h = tt
no_code a (f ∷ faults) h =
    let parts : (writes_code a f ≡ false) × (list_any (writes_code a) faults ≡ false) = or_parts (writes_code a f) (list_any (writes_code a) faults) h in
    (parts.0, no_code a faults parts.1)

pub changes_only_allowed : (entries : List Entry) (faults : List Fault) (m : Machine)
    → ChangesOnlyAllowed entries faults m.memory (burst entries faults m).machine.memory
changes_only_allowed entries faults m address no_right unnamed =
    burst_keeps (λ m' acts. slice_index m'.memory address ≡ slice_index m.memory address)
    (λ f. writes_code address f ≡ false) entries
    (λ m' acts k. write_keeps_word entries address m'.memory (turn entries m').machine.memory no_right (turn_writes entries m') ∙ k)
    (λ f m' acts c k. struck_keeps_word entries address f.kind m'.memory no_right c ∙ k)
    faults m (no_code address faults unnamed) refl

-- the length

write_keeps_length : (entries : List Entry) (before after : List ℕ) → IsWrite entries before after → length after ≡ length before
write_keeps_length entries before after (inl e) = ap length e
write_keeps_length entries before after (inr w) = ap length w.3 ∙ length-set before w.0 w.1

poke_keeps_length : (entries : List Entry) (address value : ℕ) (memory : List ℕ)
    → length (struck_memory entries (fault.Poke address value) memory) ≡ length memory
poke_keeps_length entries address value memory = split (may_write entries address)
    (λ e. rw e (length-set memory address value))
    (λ e. rw e)

code_keeps_length : (entries : List Entry) (address value : ℕ) (memory : List ℕ)
    → length (struck_memory entries (fault.Code address value) memory) ≡ length memory
code_keeps_length entries address value memory = split (nat_lt address 2048)
    (λ e. rw e (length-set memory address value))
    (λ e. rw e)

struck_keeps_length : (entries : List Entry) (k : FaultKind) (memory : List ℕ)
    → length (struck_memory entries k memory) ≡ length memory
struck_keeps_length entries (fault.Poke address value) memory = poke_keeps_length entries address value memory
struck_keeps_length entries (fault.Code address value) memory = code_keeps_length entries address value memory
struck_keeps_length entries _ memory = refl

pub burst_keeps_length : (entries : List Entry) (faults : List Fault) (m : Machine)
    → length (burst entries faults m).machine.memory ≡ length m.memory
burst_keeps_length entries faults m =
    burst_keeps (λ m' acts. length m'.memory ≡ length m.memory) (λ f. Unit {0}) entries
    (λ m' acts k. write_keeps_length entries m'.memory (turn entries m').machine.memory (turn_writes entries m') ∙ k)
    (λ f m' acts c k. struck_keeps_length entries f.kind m'.memory ∙ k)
    faults m (every_fault faults) refl

pub burst_isolated : (entries : List Entry) (faults : List Fault) (m : Machine) → IsIsolatedBurst entries faults m
burst_isolated entries faults m = record {
  changes = changes_only_allowed entries faults m;
  same_length = burst_keeps_length entries faults m;
}

-- the same of a domain's burst
burst_by_within : (context : ℕ) (faults : List Fault) (d : DomainState) (o : Option Context)
    → ChangesOnlyAllowed d.entries faults d.memory (burst_by context faults d o).domain.memory
burst_by_within context faults d None = λ address no_right unnamed. refl
burst_by_within context faults d (Some x) = changes_only_allowed d.entries faults (machine_of x d)

pub domain_within : (context : ℕ) (faults : List Fault) (d : DomainState)
    → ChangesOnlyAllowed d.entries faults d.memory (domain_burst context faults d).domain.memory
unfolding domain_burst
domain_within context faults d = burst_by_within context faults d (context_of context d.contexts)
