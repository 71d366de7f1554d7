-- What is written of an answer, from single texts up to the call.
use Rattle.std.proofs.Common.{◌≡◌, ℕ, true, List, [], ◌∷◌, map, ap, Result, Ok, IfOk, ◌⊎◌, inl, inr, Option, Some, None, refl, sym, ◌∙◌, subst}
use Rattle.std.specs.Io.KnownBytes.{Keeps}
use Rattle.input_defs.specs.Faults.{fault_line}
use Rattle.nook_io.specs.Listening.{Listening}
use Rattle.input_defs.specs.declared.input.InputFault.TheVariants as fault
use Rattle.input_defs.specs.ScenarioReading.{scenario_from}
use Rattle.nook_data.specs.declared.scenario.Scenario.{Scenario}
use Rattle.input_defs.specs.declared.input.Refusal.{Refusal}
use Rattle.request_taps.specs.Bus.{settled}
use Rattle.scenario_read.specs.Gives.{Fails}
use Rattle.scenario_read.specs.declared.stop.ScenarioFault.{ScenarioFault}
use Rattle.scenario_read.specs.declared.stop.ScenarioFault.TheVariants as stops
use Rattle.request_taps.specs.declared.tap.Tap.{Tap}
use Rattle.nooks.specs.Answers.{Answers, AnswersBy, AnswersInput, IsFaultOf, IsRefusalLine, IsReported, Says}
use Rattle.nooks.specs.Endings.{AnswersWords, Ends, IsAnswerTo, IsAnswerStatus, IsBegun, IsCut, IsWritten, ReadsFor, StopWrites, Writes}
use Rattle.command_forms.specs.Forms.{Asks, is_reading, limit_of}
use Rattle.nook_io.specs.Changes.{Change}
use Rattle.nooks.specs.Streams.{Gains, GainsFront, GainsNothing, HasFailed, Input, Reads, TooLong, Whole}
use Rattle.nooks.specs.Texts.{at_root, usage_text}
use Rattle.nooks.specs.declared.program.Status.{Status}
use Rattle.nooks.specs.declared.program.Status.TheVariants as ended
use Rattle.command_forms.specs.declared.words.Form.{Form}
use Rattle.command_forms.specs.declared.words.Form.TheVariants as form

-- ---- one text

-- a text that was written in full
pub says_written : (status : Status) (text : List ℕ) (sink : Change) → IsAnswerStatus status → Gains sink text → Writes (Says text status) sink status
says_written ended.Done text sink is gained = record { text = text; answer = (refl, refl); gained = gained }
says_written ended.GivenUp text sink is gained = record { text = text; answer = (refl, refl); gained = gained }
says_written ended.Usage text sink is gained = record { text = text; answer = (refl, refl); gained = gained }
says_written ended.BadInput text sink is gained = record { text = text; answer = (refl, refl); gained = gained }
says_written ended.ReadFault text sink is gained = absurd is
says_written ended.WriteFault text sink is gained = absurd is
says_written ended.NoMemory text sink is gained = absurd is
says_written ended.ContractBroken text sink is gained = record { text = text; answer = (refl, refl); gained = gained }
says_written ended.AuditNo text sink is gained = record { text = text; answer = (refl, refl); gained = gained }
says_written ended.Cut text sink is gained = record { text = text; answer = (refl, refl); gained = gained }

-- a prefix of a text was written
pub says_begun : (status : Status) (text : List ℕ) (sink : Change) → HasFailed sink → GainsFront sink text → Writes (Says text status) sink ended.WriteFault
says_begun status text sink failed front =
    (failed, record { text = text; status = status; answer = (refl, refl); gained = front })

-- a prefix of a text was written before memory ran out
pub says_cut : (status : Status) (text : List ℕ) (sink : Change) → GainsFront sink text → Writes (Says text status) sink ended.NoMemory
says_cut status text sink front = inr (record { text = text; status = status; answer = (refl, refl); gained = front })

-- a stream with known bytes keeps them if nothing was done
pub kept_reported : (printed : Option (List ℕ)) → Keeps printed printed
kept_reported None = tt
kept_reported (Some bytes) = refl

-- ---- an answer of one kind is one of another

begun_more : (A B : List ℕ → Status → Type 0) (sink : Change) → ((text : List ℕ) (status : Status) → A text status → B text status) → IsBegun A sink
    → IsBegun B sink
begun_more A B sink more begun =
    record { text = begun.text; status = begun.status; answer = more begun.text begun.status begun.answer; gained = begun.gained }

written_more : (A B : List ℕ → Status → Type 0) (sink : Change) (status : Status) → ((text : List ℕ) (s : Status) → A text s → B text s)
    → IsWritten A sink status → IsWritten B sink status
written_more A B sink status more written =
    record { text = written.text; answer = more written.text status written.answer; gained = written.gained }

nothing_more : (A B : List ℕ → Status → Type 0) (sink : Change) → ((text : List ℕ) (status : Status) → A text status → B text status)
    → GainsNothing sink ⊎ IsBegun A sink → GainsNothing sink ⊎ IsBegun B sink
nothing_more A B sink more (inl nothing) = inl nothing
nothing_more A B sink more (inr begun) = inr (begun_more A B sink more begun)

pub writes_more : (A B : List ℕ → Status → Type 0) (sink : Change) (status : Status) → ((text : List ℕ) (s : Status) → A text s → B text s)
    → Writes A sink status → Writes B sink status
writes_more A B sink ended.Done more ends = written_more A B sink ended.Done more ends
writes_more A B sink ended.GivenUp more ends = written_more A B sink ended.GivenUp more ends
writes_more A B sink ended.Usage more ends = written_more A B sink ended.Usage more ends
writes_more A B sink ended.BadInput more ends = written_more A B sink ended.BadInput more ends
writes_more A B sink ended.ReadFault more ends = absurd ends
writes_more A B sink ended.WriteFault more ends = (ends.0, begun_more A B sink more ends.1)
writes_more A B sink ended.NoMemory more ends = nothing_more A B sink more ends
writes_more A B sink ended.ContractBroken more ends = written_more A B sink ended.ContractBroken more ends
writes_more A B sink ended.AuditNo more ends = written_more A B sink ended.AuditNo more ends
writes_more A B sink ended.Cut more ends = written_more A B sink ended.Cut more ends

-- ---- what was read

-- for a subcommand that reads, the answer to its input is its answer
pub answers_input : (asked : Form) (input : Input) (hearing : List Listening) (text : List ℕ) (status : Status) → is_reading asked ≡ true
    → AnswersInput asked input hearing text status → Answers (Some asked) input hearing text status
answers_input asked input hearing text status reads answer = subst (λ r. AnswersBy r asked input hearing text status) (sym reads) answer

-- the call ends as the writing of an answer does
writes_end : (asked : Option Form) (hearing : List Listening) (source : Change) (sink : Change) (status : Status)
    → Writes (IsAnswerTo asked hearing source) sink status → Ends asked hearing source sink status
writes_end asked hearing source sink ended.Done ends = ends
writes_end asked hearing source sink ended.GivenUp ends = ends
writes_end asked hearing source sink ended.Usage ends = ends
writes_end asked hearing source sink ended.BadInput ends = ends
writes_end asked hearing source sink ended.ReadFault ends = absurd ends
writes_end asked hearing source sink ended.WriteFault ends = ends
writes_end asked hearing source sink ended.NoMemory ends = ends
writes_end asked hearing source sink ended.ContractBroken ends = ends
writes_end asked hearing source sink ended.AuditNo ends = ends
writes_end asked hearing source sink ended.Cut ends = ends

-- an input that was read and answered
pub input_ends : (asked : Form) (input : Input) (hearing : List Listening) (source : Change) (limit : ℕ) (sink : Change) (status : Status)
    → is_reading asked ≡ true → limit ≡ limit_of asked → Reads source limit input → Writes (AnswersInput asked input hearing) sink status
    → Ends (Some asked) hearing source sink status
input_ends asked input hearing source limit sink status reading limited reads ends =
    writes_end (Some asked) hearing source sink status
    (writes_more (AnswersInput asked input hearing) (IsAnswerTo (Some asked) hearing source) sink status
    (λ text s answer. record { input = input; read = λ _. subst (λ l. Reads source l input) limited reads; answer = answers_input asked input hearing text s reading answer }) ends)

-- arguments that ask for no input, and were answered
pub unread_ends : (asked : Option Form) (hearing : List Listening) (source : Change) (sink : Change) (status : Status)
    (Answer : List ℕ → Status → Type 0) → ReadsFor asked source TooLong
    → ((text : List ℕ) (s : Status) → Answer text s → Answers asked TooLong hearing text s) → Writes Answer sink status
    → Ends asked hearing source sink status
unread_ends asked hearing source sink status Answer reads more ends =
    writes_end asked hearing source sink status
    (writes_more Answer (IsAnswerTo asked hearing source) sink status
    (λ text s answer. record { input = TooLong; read = reads; answer = more text s answer }) ends)

-- arguments of no subcommand
pub no_form_ends : (text : List ℕ) (hearing : List Listening) (source : Change) (sink : Change) (status : Status) → text ≡ usage_text
    → Writes (Says text ended.Usage) sink status → Ends None hearing source sink status
no_form_ends text hearing source sink status e ends =
    unread_ends None hearing source sink status (Says text ended.Usage) tt (λ said s answer. (answer.0 ∙ e, answer.1)) ends

-- ---- the clauses of the call

worded : (words : List (List ℕ)) (asked : Option Form) (hearing : List Listening) (source : Change) → Asks words asked
    → (text : List ℕ) (status : Status) → IsAnswerTo asked hearing source text status → AnswersWords words hearing source text status
worded words asked hearing source asks text status answer = record { asked = asked; asks = asks; answer = answer }

pub ends_answered : (words : List (List ℕ)) (asked : Option Form) (hearing : List Listening) (source : Change) (sink : Change)
    (status : Status) → Asks words asked → Ends asked hearing source sink status → IsAnswerStatus status
    → IsWritten (AnswersWords words hearing source) sink status
ends_answered words asked hearing source sink ended.Done asks ends is = written_more _ _ sink _ (worded words asked hearing source asks) ends
ends_answered words asked hearing source sink ended.GivenUp asks ends is = written_more _ _ sink _ (worded words asked hearing source asks) ends
ends_answered words asked hearing source sink ended.Usage asks ends is = written_more _ _ sink _ (worded words asked hearing source asks) ends
ends_answered words asked hearing source sink ended.BadInput asks ends is = written_more _ _ sink _ (worded words asked hearing source asks) ends
ends_answered words asked hearing source sink ended.ReadFault asks ends is = absurd is
ends_answered words asked hearing source sink ended.WriteFault asks ends is = absurd is
ends_answered words asked hearing source sink ended.NoMemory asks ends is = absurd is
ends_answered words asked hearing source sink ended.ContractBroken asks ends is = written_more _ _ sink _ (worded words asked hearing source asks) ends
ends_answered words asked hearing source sink ended.AuditNo asks ends is = written_more _ _ sink _ (worded words asked hearing source asks) ends
ends_answered words asked hearing source sink ended.Cut asks ends is = written_more _ _ sink _ (worded words asked hearing source asks) ends

pub ends_cut : (words : List (List ℕ)) (asked : Option Form) (hearing : List Listening) (source : Change) (sink : Change)
    (status : Status) → Asks words asked → Ends asked hearing source sink status → IsCut status
    → GainsNothing sink ⊎ IsBegun (AnswersWords words hearing source) sink
ends_cut words asked hearing source sink ended.Done asks ends is = absurd is
ends_cut words asked hearing source sink ended.GivenUp asks ends is = absurd is
ends_cut words asked hearing source sink ended.Usage asks ends is = absurd is
ends_cut words asked hearing source sink ended.BadInput asks ends is = absurd is
ends_cut words asked hearing source sink ended.ReadFault asks ends is = absurd is
ends_cut words asked hearing source sink ended.WriteFault asks ends is = inr (begun_more _ _ sink (worded words asked hearing source asks) ends.1)
ends_cut words asked hearing source sink ended.NoMemory asks ends is = nothing_more _ _ sink (worded words asked hearing source asks) ends
ends_cut words asked hearing source sink ended.ContractBroken asks ends is = absurd is
ends_cut words asked hearing source sink ended.AuditNo asks ends is = absurd is
ends_cut words asked hearing source sink ended.Cut asks ends is = absurd is

pub ends_complete : (asked : Option Form) (hearing : List Listening) (source : Change) (sink : Change) (status : Status)
    → Ends asked hearing source sink status → (HasFailed source → ⊥) → (HasFailed sink → ⊥) → IsAnswerStatus status ⊎ (status ≡ ended.NoMemory)
ends_complete asked hearing source sink ended.Done ends read wrote = inl tt
ends_complete asked hearing source sink ended.GivenUp ends read wrote = inl tt
ends_complete asked hearing source sink ended.Usage ends read wrote = inl tt
ends_complete asked hearing source sink ended.BadInput ends read wrote = inl tt
ends_complete asked hearing source sink ended.ReadFault ends read wrote = absurd (read ends.0)
ends_complete asked hearing source sink ended.WriteFault ends read wrote = absurd (wrote ends.0)
ends_complete asked hearing source sink ended.NoMemory ends read wrote = inr refl
ends_complete asked hearing source sink ended.ContractBroken ends read wrote = inl tt
ends_complete asked hearing source sink ended.AuditNo ends read wrote = inl tt
ends_complete asked hearing source sink ended.Cut ends read wrote = inl tt

pub ends_read_fault : (asked : Option Form) (hearing : List Listening) (source : Change) (sink : Change) (status : Status)
    → Ends asked hearing source sink status → status ≡ ended.ReadFault → HasFailed source
ends_read_fault asked hearing source sink status ends e =
    let at : Ends asked hearing source sink ended.ReadFault = subst (λ s. Ends asked hearing source sink s) e ends in
    at.0

pub ends_write_fault : (asked : Option Form) (hearing : List Listening) (source : Change) (sink : Change) (status : Status)
    → Ends asked hearing source sink status → status ≡ ended.WriteFault → HasFailed sink
ends_write_fault asked hearing source sink status ends e =
    let at : Ends asked hearing source sink ended.WriteFault = subst (λ s. Ends asked hearing source sink s) e ends in
    at.0

-- ---- listeners

-- wrapped listeners, settled in one step or in two
settled_held : {T L : Type 0} (hold : T → L) (listening : L → Listening) (values : List T)
    → map (λ l. settled (listening l)) (map hold values) ≡ map settled (map (λ v. listening (hold v)) values)
settled_held hold listening [] = refl
settled_held hold listening (v ∷ values) = ap (λ taps. settled (listening (hold v)) ∷ taps) (settled_held hold listening values)

-- a bus of wrapped values
pub bus_settled : {T L B E : Type 0} (r : Result B E) (taps : B → List (Tap Listening)) (hold : T → L) (listening : L → Listening) (values : List T)
    (held : List L) → held ≡ map hold values → IfOk r (λ bus. taps bus ≡ map (λ l. settled (listening l)) held)
    → IfOk r (λ bus. taps bus ≡ map settled (map (λ v. listening (hold v)) values))
bus_settled r taps hold listening values held e known =
    subst (λ x. IfOk r (λ bus. taps bus ≡ x)) (ap (λ ls. map (λ l. settled (listening l)) ls) e ∙ settled_held hold listening values) known

-- ---- scenarios

pub scenario_answered : (bytes : List ℕ) (scenario : Scenario) (hearing : List Listening) (sink : Change) (status : Status)
    → scenario_from bytes ≡ Ok scenario → Writes (IsReported form.Run scenario hearing) sink status
    → Writes (AnswersInput form.Run (Whole bytes) hearing) sink status
scenario_answered bytes scenario hearing sink status reading ends =
    writes_more (IsReported form.Run scenario hearing) (AnswersInput form.Run (Whole bytes) hearing) sink status
    (λ text s reported. inr (record { scenario = scenario; reading = reading; reported = reported })) ends

pub scenario_answered_by_threads : (bytes : List ℕ) (scenario : Scenario) (hearing : List Listening) (sink : Change) (status : Status)
    → scenario_from bytes ≡ Ok scenario → Writes (IsReported form.RunThreads scenario hearing) sink status
    → Writes (AnswersInput form.RunThreads (Whole bytes) hearing) sink status
scenario_answered_by_threads bytes scenario hearing sink status reading ends =
    writes_more (IsReported form.RunThreads scenario hearing) (AnswersInput form.RunThreads (Whole bytes) hearing) sink status
    (λ text s reported. inr (record { scenario = scenario; reading = reading; reported = reported })) ends

-- ---- input errors

-- bytes that are refused
pub refused : (asked : Form) (bytes : List ℕ) (hearing : List Listening) (T : Type 0) (reading : Result T Refusal) (stop : ScenarioFault)
    (sink : Change) (status : Status) → ((text : List ℕ) → IsRefusalLine reading text → IsFaultOf asked bytes text) → Fails stop reading
    → StopWrites stop sink status → Writes (AnswersInput asked (Whole bytes) hearing) sink status
refused asked bytes hearing T reading (stops.Bad refusal) sink status same fails ends =
    writes_more (Says (fault_line refusal) ended.BadInput) (AnswersInput asked (Whole bytes) hearing) sink status
    (λ text s said. inl (same text (record { refusal = refusal; is = fails; text_is = said.0 }), said.1)) ends
refused asked bytes hearing T reading stops.NoMemory sink status same fails ends =
    subst (λ s. Writes (AnswersInput asked (Whole bytes) hearing) sink s) (sym ends.0) (inl ends.1)

-- an input that is too long
pub too_long_refused : (asked : Form) (hearing : List Listening) (refusal : Refusal) (sink : Change) (status : Status)
    → refusal ≡ at_root fault.TooMany → Writes (Says (fault_line refusal) ended.BadInput) sink status
    → Writes (AnswersInput asked TooLong hearing) sink status
too_long_refused asked hearing refusal sink status e ends =
    subst (λ r. Writes (Says (fault_line r) ended.BadInput) sink status) e ends
