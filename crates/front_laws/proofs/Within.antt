-- The acts before the instruction of a deed are the acts before the deed.
use Rattle.std.proofs.Common.{◌≡◌, ◌≤◌, ◌<◌, ◌⊎◌, inl, inr, ℕ, zero, suc, ◌+◌, ◌-◌, Bool, true, false, nat_le, nat_lt, if◌then◌else◌, Option, Some, None, List, [], ◌++◌, length, take, refl, sym, ap, subst, ◌∙◌, arith, append_assoc, append-nil, length-append, take_at, take_all}
use Rattle.std.proofs.lemmas.Bool.{le-leb, lt-leb, ltb-false, ltb-true}
use Rattle.nook_data.specs.declared.entries.Entry.{Entry}
use Rattle.nook_data.specs.declared.machine.Act.{Act}
use Rattle.nook_data.specs.declared.machine.BurstEnd.{BurstEnd}
use Rattle.nook_data.specs.declared.machine.BurstEnd.TheVariants as ends
use Rattle.nook_data.specs.declared.machine.Instr.{Instr}
use Rattle.nook_data.specs.declared.machine.Instr.TheVariants as instr
use Rattle.nook_data.specs.declared.scenario.Fault.{Fault}
use Rattle.guard_defs.specs.Turns.{acts_from, acts_within, turns_before, turns_from, turns_of, turns_to}
use Rattle.machine_defs.proofs.BurstKeeps.{split}
use Rattle.machine_defs.proofs.MachineCases.{past_decode, past_fetch, past_read}
use Rattle.machine_defs.specs.Burst.{Burst, Going, Struck, acts_of, burst, burst_from, count_at, ended, on, one_turn, over, strikes_at}
use Rattle.machine_defs.specs.Devices.{Given, Taken, input_of, output_of}
use Rattle.machine_defs.specs.Machine.{decode_of}
use Rattle.machine_defs.specs.Pages.{fetch_word, may_write, read_word}
use Rattle.machine_defs.specs.Execution.{Machine, Executed, executed, past_input, past_output, r, stores, turn}
use Rattle.std.specs.Prelude.{◌%◌, ◌^◌}
use Rattle.front_laws.proofs.Past.{acts_after, acts_begin, acts_go, acts_stay, burst_after, burst_is, by_going, turns_low, turns_on, turns_over}
use Rattle.front_laws.proofs.Striking.{by_option, one_turn_is, past_crossing, turn_stops, turn_turns}

-- an instruction that crosses does no act

abbrev pub IsQuiet : Executed → Type 0
IsQuiet t = (c : BurstEnd) → t.crossing ≡ Some c → acts_of t.act ≡ []

read_quiet : (m : Machine) (a address : ℕ) (o : Option ℕ) → IsQuiet (past_read m a address o)
read_quiet m a address None = λ c e. refl
read_quiet m a address (Some word) = λ c e. refl

input_quiet : (m : Machine) (a port : ℕ) (o : Option Given) → IsQuiet (past_input m a port o)
input_quiet m a port None = λ c e. refl
input_quiet m a port (Some given) = λ c e. refl

output_quiet : (m : Machine) (port : ℕ) (o : Option Taken) → IsQuiet (past_output m port o)
output_quiet m port None = λ c e. refl
output_quiet m port (Some taken) = λ c e. let no : None ≡ Some c = e in absurd cc

stores_quiet : (entries : List Entry) (m : Machine) (a address : ℕ) → IsQuiet (stores entries m a address)
stores_quiet entries m a address = split (may_write entries address) (λ e. rw e (λ c h. refl)) (λ e. rw e (λ c h. refl))

executed_quiet : (entries : List Entry) (m : Machine) (i : Instr) → IsQuiet (executed entries m i)
executed_quiet entries m (instr.Ld a b imm) = read_quiet m a ((r m b + imm) % 2 ^ 32) (read_word m.memory ((r m b + imm) % 2 ^ 32))
executed_quiet entries m (instr.St a b imm) = stores_quiet entries m a ((r m b + imm) % 2 ^ 32)
executed_quiet entries m (instr.In a imm) = input_quiet m a imm (input_of imm m.device)
executed_quiet entries m (instr.Out a imm) = output_quiet m imm (output_of imm (r m a) m.device)
executed_quiet entries m _ = λ c e. refl

decode_quiet : (entries : List Entry) (m : Machine) (o : Option Instr) → IsQuiet (past_decode entries m o)
decode_quiet entries m None = λ c e. refl
decode_quiet entries m (Some i) = executed_quiet entries m i

fetch_quiet : (entries : List Entry) (m : Machine) (o : Option ℕ) → IsQuiet (past_fetch entries m o)
fetch_quiet entries m None = λ c e. refl
fetch_quiet entries m (Some word) = decode_quiet entries m (decode_of word)

turn_quiet : (entries : List Entry) (m : Machine) → IsQuiet (turn entries m)
unfolding turn
turn_quiet entries m = fetch_quiet entries m (fetch_word m.memory m.cpu.counter)

-- an instruction adds at most one act, and none if it is a kernel call or a reply

abbrev pub is_crossing : BurstEnd → Bool
is_crossing (ends.Kcall number) = true
is_crossing (ends.Reply status) = true
is_crossing e = false

abbrev pub AddsOne : List Act → List Act → Type 0
AddsOne acts acts' = (more : List Act) × (acts' ≡ acts ++ more) × (length more ≤ 1)

abbrev pub EndsOne : List Act → Burst → Type 0
EndsOne acts b = (more : List Act) × (b.acts ≡ acts ++ more) × (length more ≤ 1) × (is_crossing b.ending ≡ true → more ≡ [])

abbrev pub GoesOne : List Act → Going → Type 0
GoesOne acts (on m rest acts') = AddsOne acts acts'
GoesOne acts (over b) = EndsOne acts b

few_acts : (a : Option Act) → length (acts_of a) ≤ 1
few_acts None = omega arith
few_acts (Some a) = omega arith

crossing_one : (left : ℕ) (acts : List Act) (rest : List Fault) (m : Machine) (a : Option Act) (o : Option BurstEnd)
    → ((c : BurstEnd) → o ≡ Some c → acts_of a ≡ []) → GoesOne acts (past_crossing left rest m (acts ++ acts_of a) o)
crossing_one left acts rest m a (Some crossing) h = (acts_of a, refl, few_acts a, λ e. h crossing refl)
crossing_one left acts rest m a None h = split (nat_le 64 (length (acts ++ acts_of a)))
    (λ e. rw e (acts_of a, refl, few_acts a, λ c. let no : false ≡ true = c in absurd cc))
    (λ e. rw e (acts_of a, refl, few_acts a))

pub turn_one : (left : ℕ) (entries : List Entry) (faults : List Fault) (m : Machine) (acts : List Act)
    → (strikes_at (4096 - suc left) entries faults m).stopped ≡ None → GoesOne acts (one_turn left entries faults m acts)
turn_one left entries faults m acts none =
    let s : Struck = strikes_at (4096 - suc left) entries faults m in
    subst (GoesOne acts) (sym (turn_turns left entries acts s none))
    (crossing_one left acts s.rest (turn entries s.machine).machine (turn entries s.machine).act (turn entries s.machine).crossing
    (turn_quiet entries s.machine))

-- the instructions before that of a deed

abbrev pub to_after : ℕ → ℕ → List Entry → Going → ℕ
to_after deed left entries (on m rest acts) = if nat_lt deed (length acts) then 4096 - suc left else turns_to deed left entries rest m acts
to_after deed left entries (over b) = 4096 - suc left

pub to_is : (deed left : ℕ) (entries : List Entry) (faults : List Fault) (m : Machine) (acts : List Act)
    → turns_to deed (suc left) entries faults m acts ≡ to_after deed left entries (one_turn left entries faults m acts)
unfolding turns_to
to_is deed left entries faults m acts = refl

pub to_here : (deed left : ℕ) (entries : List Entry) (faults : List Fault) (m m' : Machine) (acts acts' : List Act) (rest : List Fault)
    → one_turn left entries faults m acts ≡ on m' rest acts' → nat_lt deed (length acts') ≡ true
    → turns_to deed (suc left) entries faults m acts ≡ 4096 - suc left
to_here deed left entries faults m m' acts acts' rest e h =
    to_is deed left entries faults m acts ∙ ap (to_after deed left entries) e ∙ rw h refl

pub to_later : (deed left : ℕ) (entries : List Entry) (faults : List Fault) (m m' : Machine) (acts acts' : List Act) (rest : List Fault)
    → one_turn left entries faults m acts ≡ on m' rest acts' → nat_lt deed (length acts') ≡ false
    → turns_to deed (suc left) entries faults m acts ≡ turns_to deed left entries rest m' acts'
to_later deed left entries faults m m' acts acts' rest e h =
    to_is deed left entries faults m acts ∙ ap (to_after deed left entries) e ∙ rw h refl

pub to_over : (deed left : ℕ) (entries : List Entry) (faults : List Fault) (m : Machine) (acts : List Act) (b : Burst)
    → one_turn left entries faults m acts ≡ over b → turns_to deed (suc left) entries faults m acts ≡ 4096 - suc left
to_over deed left entries faults m acts b e = to_is deed left entries faults m acts ∙ ap (to_after deed left entries) e

pub to_low : (deed left : ℕ) (entries : List Entry) (faults : List Fault) (m : Machine) (acts : List Act) → left ≤ 4096
    → 4096 - left ≤ turns_to deed left entries faults m acts
unfolding turns_to
to_low deed zero entries faults m acts h = omega arith
to_low deed (suc left) entries faults m acts h = by_going (one_turn left entries faults m acts)
    (λ m' rest acts' e. split (nat_lt deed (length acts'))
    (λ here. rw (to_here deed left entries faults m m' acts acts' rest e here) (omega arith))
    (λ later. rw (to_later deed left entries faults m m' acts acts' rest e later)
    (let more : 4096 - left ≤ turns_to deed left entries rest m' acts' = to_low deed left entries rest m' acts' (omega arith) in omega arith)))
    (λ b e. rw (to_over deed left entries faults m acts b e) (omega arith))

-- a burst has the deed: the act with that index, or its crossing
abbrev pub HasDeed : ℕ → Burst → Type 0
HasDeed deed b = (deed < length b.acts) ⊎ (is_crossing b.ending ≡ true)

no_deed : (deed : ℕ) (b : Burst) (acts : List Act) → b.acts ≡ acts → length acts ≤ deed → is_crossing b.ending ≡ false → HasDeed deed b → ⊥
no_deed deed b acts e h never (inl less) = let same : length b.acts ≡ length acts = ap length e in omega arith
no_deed deed b acts e h never (inr is) = cc

take_front : (deed : ℕ) (acts more later all : List Act) → all ≡ (acts ++ more) ++ later → length more ≤ 1 → length acts ≤ deed
    → deed < length (acts ++ more) → take deed all ≡ acts
take_front deed acts more later all e few low less =
    let sum : length (acts ++ more) ≡ length acts + length more = length-append acts more in
    let here : length acts ≡ deed = omega arith in
    ap (take deed) (e ∙ append_assoc acts more later) ∙ take_at acts (more ++ later) deed here

take_end : (deed : ℕ) (acts : List Act) (b : Burst) → EndsOne acts b → length acts ≤ deed → HasDeed deed b → take deed b.acts ≡ acts
take_end deed acts b (more, e, few, quiet) low (inl less) =
    let same : length b.acts ≡ length (acts ++ more) = ap length e in
    take_front deed acts more [] b.acts (e ∙ sym (append-nil (acts ++ more))) few low (omega arith)
take_end deed acts b (more, e, few, quiet) low (inr is) =
    let all : b.acts ≡ acts = e ∙ ap (λ (xs : List Act). acts ++ xs) (quiet is) ∙ append-nil acts in
    ap (take deed) all ∙ take_all deed acts low

pub record IsBefore (deed left : ℕ) (entries : List Entry) (faults : List Fault) (m : Machine) (acts : List Act) : Type 0 where
  pub reached : turns_to deed left entries faults m acts < turns_from left entries faults m acts
  pub kept : acts_from (turns_to deed left entries faults m acts) left entries faults m acts
      ≡ take deed (burst_from left entries faults m acts).acts

before_over : (deed left : ℕ) (entries : List Entry) (faults : List Fault) (m : Machine) (acts : List Act) (b : Burst) → suc left ≤ 4096
    → length acts ≤ deed → (strikes_at (4096 - suc left) entries faults m).stopped ≡ None → one_turn left entries faults m acts ≡ over b
    → HasDeed deed b → IsBefore deed (suc left) entries faults m acts
before_over deed left entries faults m acts b h low none e has =
    let one : EndsOne acts b = subst (GoesOne acts) e (turn_one left entries faults m acts none) in
    let to : turns_to deed (suc left) entries faults m acts ≡ 4096 - suc left = to_over deed left entries faults m acts b e in
    let all : turns_from (suc left) entries faults m acts ≡ 4096 - left = turns_over left entries faults m acts b none e in
    let eb : burst_from (suc left) entries faults m acts ≡ b = burst_is left entries faults m acts ∙ ap (burst_after left entries) e in
    record {
      reached = omega arith;
      kept = acts_stay (turns_to deed (suc left) entries faults m acts) left entries faults m acts (le-leb _ (4096 - suc left) (omega arith))
          ∙ sym (take_end deed acts b one low has) ∙ ap (λ (x : Burst). take deed x.acts) (sym eb);
    }

before_here : (deed left : ℕ) (entries : List Entry) (faults : List Fault) (m m' : Machine) (acts acts' : List Act) (rest : List Fault)
    → suc left ≤ 4096 → length acts ≤ deed → (strikes_at (4096 - suc left) entries faults m).stopped ≡ None
    → one_turn left entries faults m acts ≡ on m' rest acts' → nat_lt deed (length acts') ≡ true
    → IsBefore deed (suc left) entries faults m acts
before_here deed left entries faults m m' acts acts' rest h low none e here =
    let one : AddsOne acts acts' = subst (GoesOne acts) e (turn_one left entries faults m acts none) in
    let to : turns_to deed (suc left) entries faults m acts ≡ 4096 - suc left = to_here deed left entries faults m m' acts acts' rest e here in
    let all : turns_from (suc left) entries faults m acts ≡ turns_from left entries rest m' acts' =
    turns_on left entries faults m m' acts acts' rest none e in
    let more : 4096 - left ≤ turns_from left entries rest m' acts' = turns_low left entries rest m' acts' (omega arith) in
    let eb : burst_from (suc left) entries faults m acts ≡ burst_from left entries rest m' acts' =
    burst_is left entries faults m acts ∙ ap (burst_after left entries) e in
    let begun = acts_begin left entries rest m' acts' in
    let less : deed < length acts' = ltb-true deed (length acts') here in
    let same : length acts' ≡ length (acts ++ one.0) = ap length one.1 in
    let all' : (burst_from (suc left) entries faults m acts).acts ≡ (acts ++ one.0) ++ begun.0 =
    ap (λ (x : Burst). x.acts) eb ∙ begun.1 ∙ ap (λ (xs : List Act). xs ++ begun.0) one.1 in
    record {
      reached = omega arith;
      kept = acts_stay (turns_to deed (suc left) entries faults m acts) left entries faults m acts (le-leb _ (4096 - suc left) (omega arith))
          ∙ sym (take_front deed acts one.0 begun.0 (burst_from (suc left) entries faults m acts).acts all' one.2 low (omega arith));
    }

before_later : (deed left : ℕ) (entries : List Entry) (faults : List Fault) (m m' : Machine) (acts acts' : List Act) (rest : List Fault)
    → suc left ≤ 4096 → (strikes_at (4096 - suc left) entries faults m).stopped ≡ None
    → one_turn left entries faults m acts ≡ on m' rest acts' → nat_lt deed (length acts') ≡ false
    → IsBefore deed left entries rest m' acts' → IsBefore deed (suc left) entries faults m acts
before_later deed left entries faults m m' acts acts' rest h none e later more =
    let to : turns_to deed (suc left) entries faults m acts ≡ turns_to deed left entries rest m' acts' =
    to_later deed left entries faults m m' acts acts' rest e later in
    let all : turns_from (suc left) entries faults m acts ≡ turns_from left entries rest m' acts' =
    turns_on left entries faults m m' acts acts' rest none e in
    let eb : burst_from (suc left) entries faults m acts ≡ burst_from left entries rest m' acts' =
    burst_is left entries faults m acts ∙ ap (burst_after left entries) e in
    let low : 4096 - left ≤ turns_to deed left entries rest m' acts' = to_low deed left entries rest m' acts' (omega arith) in
    let reached : turns_to deed left entries rest m' acts' < turns_from left entries rest m' acts' = more.reached in
    record {
      reached = omega arith;
      kept = acts_go (turns_to deed (suc left) entries faults m acts) left entries faults m acts (lt-leb _ (4096 - suc left) (omega arith))
          ∙ ap (acts_after (turns_to deed (suc left) entries faults m acts) left entries) e
          ∙ ap (λ (n : ℕ). acts_from n left entries rest m' acts') to
          ∙ more.kept ∙ ap (λ (x : Burst). take deed x.acts) (sym eb);
    }

before_from : (deed left : ℕ) (entries : List Entry) (faults : List Fault) (m : Machine) (acts : List Act) → left ≤ 4096
    → length acts ≤ deed → HasDeed deed (burst_from left entries faults m acts) → IsBefore deed left entries faults m acts
unfolding burst_from
before_from deed zero entries faults m acts h low has = absurd (no_deed deed (burst_from zero entries faults m acts) acts refl low refl has)
before_from deed (suc left) entries faults m acts h low has =
    let s : Struck = strikes_at (4096 - suc left) entries faults m in
    by_option s.stopped
    (λ cause some. let eb : burst_from (suc left) entries faults m acts ≡ ended (count_at (4096 - suc left) cause) s.machine acts (ends.Trap cause) =
    burst_is left entries faults m acts
    ∙ ap (burst_after left entries) (one_turn_is left entries faults m acts ∙ turn_stops left entries acts s cause some) in
    absurd (no_deed deed (ended (count_at (4096 - suc left) cause) s.machine acts (ends.Trap cause)) acts refl low refl (subst (HasDeed deed) eb has)))
    (λ none. by_going (one_turn left entries faults m acts)
    (λ m' rest acts' e. split (nat_lt deed (length acts'))
    (λ here. before_here deed left entries faults m m' acts acts' rest h low none e here)
    (λ later. before_later deed left entries faults m m' acts acts' rest h none e later
    (before_from deed left entries rest m' acts' (omega arith) (ltb-false deed (length acts') later)
    (subst (HasDeed deed) (burst_is left entries faults m acts ∙ ap (burst_after left entries) e) has))))
    (λ b e. before_over deed left entries faults m acts b h low none e
    (subst (HasDeed deed) (burst_is left entries faults m acts ∙ ap (burst_after left entries) e) has)))

-- the instructions before that of a deed are in the burst, and have the acts before the deed
pub deed_reached : (deed : ℕ) (entries : List Entry) (faults : List Fault) (m : Machine) → HasDeed deed (burst entries faults m)
    → turns_before deed entries faults m < turns_of entries faults m
unfolding burst
deed_reached deed entries faults m has = (before_from deed 4096 entries faults m [] (omega arith) (omega arith) has).reached

pub deed_kept : (deed : ℕ) (entries : List Entry) (faults : List Fault) (m : Machine) → HasDeed deed (burst entries faults m)
    → acts_within (turns_before deed entries faults m) entries faults m ≡ take deed (burst entries faults m).acts
unfolding burst
deed_kept deed entries faults m has = (before_from deed 4096 entries faults m [] (omega arith) (omega arith) has).kept
