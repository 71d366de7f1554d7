use Rattle.std.specs.Prelude.{ℕ, suc, ◌++◌, ◌==◌, if◌then◌else◌, Bool, true, false, Option, Some, None}
use Rattle.std.specs.Prelude.{List, [], ◌∷◌, codes, decimal, flat_map}
use Rattle.nook_data.specs.declared.entries.Entry.{Entry}
use Rattle.nook_data.specs.declared.scenario.Fault.{Fault}
use Rattle.nook_data.specs.declared.scenario.FaultKind.{FaultKind}
use Rattle.nook_data.specs.declared.scenario.FaultKind.TheVariants as fault
use Rattle.nook_data.specs.FaultNames.{fault_name, fault_word}
use Rattle.nook_data.specs.declared.machine.Cpu.{Cpu}
use Rattle.asm_defs.specs.Disassembler.{line_body, text_tokens}
use Rattle.driver_isa.specs.Faults.{is_refused}
use Rattle.report_defs.specs.ReportLines.{acts_tail, line_feed, spaced, with_number}
use Rattle.turn_trace.specs.Bursts.{TracedStep, strike, taken}
use Rattle.turn_trace.specs.declared.traced.TracedTurn.{TracedTurn}

-- The lines of a burst's steps.

-- ---- a fault

-- where a fault of a kind writes, and the value
abbrev pub operands_text : FaultKind → List ℕ
operands_text fault.Trap = []
operands_text fault.Hang = []
operands_text (fault.Poke address value) = spaced address ++ spaced value
operands_text (fault.Code address value) = spaced address ++ spaced value
operands_text (fault.Reg register value) = spaced register ++ spaced value

-- a kind of fault, with what it writes
abbrev pub kind_text : FaultKind → List ℕ
kind_text kind = fault_word (fault_name kind) ++ operands_text kind

-- a word, the number of instructions before the fault, and its kind
abbrev pub fault_text : List ℕ → Fault → List ℕ
fault_text word f = with_number word f.after ++ (codes " " ++ kind_text f.kind)

abbrev pub refusal_text : Bool → List ℕ
refusal_text true = codes " refused"
refusal_text false = []

-- the line of a fault that struck
abbrev pub strike_line : List Entry → Fault → List ℕ
strike_line entries f = fault_text (codes "fault ") f ++ (refusal_text (is_refused entries f.kind) ++ line_feed)

-- the line of a fault that did not strike
abbrev pub unstruck_line : Fault → List ℕ
unstruck_line f = fault_text (codes "unstruck ") f ++ line_feed

-- the lines of the faults that did not strike
abbrev pub unstruck_lines : List Fault → List ℕ
unstruck_lines faults = flat_map unstruck_line faults

-- ---- an instruction

-- the word that was fetched, as its instruction or as a number
abbrev pub word_text : Option ℕ → List ℕ
word_text None = codes "-"
word_text (Some word) = line_body (text_tokens word)

abbrev pub set_text : Option (ℕ × ℕ) → List ℕ
set_text None = []
set_text (Some s) = with_number (codes " | r") s.0 ++ spaced s.1

abbrev pub stored_text : Option (ℕ × ℕ) → List ℕ
stored_text None = []
stored_text (Some s) = with_number (codes " | [") s.0 ++ with_number (codes "] ") s.1

abbrev pub jumped_text : Option ℕ → List ℕ
jumped_text None = []
jumped_text (Some counter) = with_number (codes " | goto ") counter

-- an instruction's number, its counter and the word
abbrev pub fetch_text : TracedTurn → List ℕ
fetch_text t = decimal t.number ++ (spaced t.counter ++ (codes " " ++ word_text t.word))

-- each effect of an instruction after a bar
abbrev pub effects_text : TracedTurn → List ℕ
effects_text t = set_text t.set ++ (stored_text t.stored ++ (jumped_text t.jumped ++ acts_tail t.acts))

abbrev pub turn_line : TracedTurn → List ℕ
turn_line t = fetch_text t ++ (effects_text t ++ line_feed)

-- ---- steps

abbrev pub step_line : List Entry → TracedStep → List ℕ
step_line entries (strike f) = strike_line entries f
step_line entries (taken t) = turn_line t

-- the lines of steps, with the entries that determine where the driver may write
abbrev pub step_lines : List Entry → List TracedStep → List ℕ
step_lines entries steps = flat_map (step_line entries) steps

-- ---- the start

-- a register and its word, if the word is not 0
abbrev pub register_note : ℕ → ℕ → List ℕ
register_note number word = if word == 0 then [] else with_number (codes " r") number ++ spaced word

-- the registers that are not 0; the first has number `number`
abbrev pub register_notes : ℕ → List ℕ → List ℕ
register_notes number [] = []
register_notes number (word ∷ words) = register_note number word ++ register_notes (suc number) words

-- the counter and the registers at the start of a burst
abbrev pub start_line : Cpu → List ℕ
start_line cpu = with_number (codes "start ") cpu.counter ++ (register_notes 0 cpu.registers ++ line_feed)
