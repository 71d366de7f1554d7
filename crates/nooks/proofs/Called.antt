-- How a call with some arguments ended, and what follows from it: each clause of the call.
use Rattle.std.proofs.Common.{◌≡◌, ℕ, ◌+◌, ◌≤◌, true, List, ◌⊎◌, inl, inr, Option, Some, None, Err, IsErrOf, refl, sym, ap, ◌∙◌, subst, true≢false, arith}
use Rattle.std.proofs.lemmas.Result.{IfErr-at_err}
use Rattle.std.specs.Prelude.{[]}
use Rattle.nook_io.specs.Listening.{Listening}
use Rattle.nook_io.specs.Causes.{TakesAtMost}
use Rattle.nook_io.specs.declared.whole.ReadStop.{ReadStop}
use Rattle.nook_io.specs.declared.whole.ReadStop.TheVariants as stopped
use Rattle.input_defs.specs.declared.input.InputFault.TheVariants as fault
use Rattle.command_forms.proofs.OneForm.{one_form}
use Rattle.command_forms.specs.Forms.{AskUnread, Asks, IsForm, IsNoForm, form_for, is_reading, limit_of}
use Rattle.command_forms.specs.declared.words.Form.{Form}
use Rattle.command_forms.specs.declared.words.Form.TheVariants as form
use Rattle.command_forms.specs.declared.words.WaitingForm.{WaitingForm}
use Rattle.command_forms.specs.declared.words.WaitingForm.TheVariants as waiting
use Rattle.nooks.proofs.Written.{ends_answered, ends_complete, ends_cut, ends_read_fault, ends_write_fault, input_ends, too_long_refused}
use Rattle.nooks.specs.Answers.{AnswersInput, IsGuardOf, IsReportOf}
use Rattle.nooks.specs.Endings.{AnswersWords, AskGuard, AskReport, Ends, EndsWords, HasReport, IsAnswerStatus, IsAnswerTo, IsBegun, IsCut}
use Rattle.nooks.specs.Endings.{IsKeptReport, IsSafeReport, IsWritten, ReadStopWrites, TakesFor}
use Rattle.nook_io.specs.Changes.{Change}
use Rattle.nooks.specs.Streams.{GainsNothing, HasFailed, Input, Reads, TooLong, Whole}
use Rattle.nooks.specs.Texts.{at_root}
use Rattle.nooks.specs.declared.program.Status.{Status}
use Rattle.nooks.specs.declared.program.Status.TheVariants as ended

-- ---- a source that was not read to its end

pub stop_ends : (asked : Form) (hearing : List Listening) (source : Change) (stop : ReadStop) (limit : ℕ) (sink : Change) (status : Status)
    → is_reading asked ≡ true → limit ≡ limit_of asked → (stop ≡ stopped.TooLong → Reads source limit TooLong)
    → (stop ≡ stopped.Fault → HasFailed source) → ReadStopWrites stop sink status → Ends (Some asked) hearing source sink status
stop_ends asked hearing source stopped.TooLong limit sink status reading limited long failed ends =
    input_ends asked TooLong hearing source limit sink status reading limited (long refl)
    (too_long_refused asked hearing (at_root fault.TooMany) sink status refl ends)
stop_ends asked hearing source stopped.Fault limit sink status reading limited long failed ends =
    subst (λ s. Ends (Some asked) hearing source sink s) (sym ends.0) (failed refl, ends.1)
stop_ends asked hearing source stopped.NoMemory limit sink status reading limited long failed ends =
    subst (λ s. Ends (Some asked) hearing source sink s) (sym ends.0) (inl ends.1)

-- an I/O error that stopped the reading is reported
pub fault_reported : {T : Type 0} (stop : ReadStop) (sink : Change) (status : Status) → IsErrOf {T = T} (Err stop) stopped.Fault
    → ReadStopWrites stop sink status → status ≡ ended.ReadFault
fault_reported stop sink status e ends =
    let at : ReadStopWrites stopped.Fault sink status =
    subst (λ s. ReadStopWrites s sink status) (IfErr-at_err (λ s. stop ≡ s) e refl) ends in
    at.0

-- ---- subcommands that wait

pub waiting_reads : (asked : WaitingForm) → is_reading (form_for asked) ≡ true
waiting_reads waiting.RunThreads = refl
waiting_reads waiting.Mirror = refl

pub waiting_limit : (asked : WaitingForm) → 1048576 ≡ limit_of (form_for asked)
waiting_limit waiting.RunThreads = refl
waiting_limit waiting.Mirror = refl

-- the arguments of a subcommand that waits ask for an input
pub waiting_asks : {P : Type 0} (words : List (List ℕ)) (asked : WaitingForm) → IsForm words (form_for asked) → AskUnread words → P
waiting_asks words asked is unread = absurd (true≢false (sym (waiting_reads asked) ∙ unread (form_for asked) is))

-- ---- how the call ended

-- a source that did not change
pub takes_nothing : (printed : Option (List ℕ)) (n : ℕ) → TakesAtMost printed printed n
takes_nothing None n = record { front = []; taken = tt; few = omega arith }
takes_nothing (Some bytes) n = record { front = []; taken = refl; few = omega arith }

pub form_ended : (words : List (List ℕ)) (asked : Form) (hearing : List Listening) (source sink : Change) (status : Status) → IsForm words asked
    → Ends (Some asked) hearing source sink status → TakesAtMost source.before.contents source.after.contents (limit_of asked + 1)
    → source.before.errors ≤ source.after.errors → sink.before.errors ≤ sink.after.errors
    → ((status ≡ ended.ReadFault → ⊥) → source.after.errors ≡ source.before.errors)
    → ((status ≡ ended.WriteFault → ⊥) → sink.after.errors ≡ sink.before.errors) → EndsWords words hearing source sink status
form_ended words asked hearing source sink status is ends taken read wrote read_kept wrote_kept = record {
  asked = Some asked;
  asks = is;
  ends = ends;
  taken = λ other is_other.
      subst (λ f. TakesAtMost source.before.contents source.after.contents (limit_of f + 1)) (one_form words asked other is is_other) taken;
  source_later = read;
  sink_later = wrote;
  source_kept = read_kept;
  sink_kept = wrote_kept;
}

pub unformed_ended : (words : List (List ℕ)) (hearing : List Listening) (source sink : Change) (status : Status) → IsNoForm words
    → Ends None hearing source sink status → source.before.errors ≤ source.after.errors → sink.before.errors ≤ sink.after.errors
    → ((status ≡ ended.ReadFault → ⊥) → source.after.errors ≡ source.before.errors)
    → ((status ≡ ended.WriteFault → ⊥) → sink.after.errors ≡ sink.before.errors) → EndsWords words hearing source sink status
unformed_ended words hearing source sink status none ends read wrote read_kept wrote_kept = record {
  asked = None;
  asks = none;
  ends = ends;
  taken = λ other is_other. absurd (none other is_other);
  source_later = read;
  sink_later = wrote;
  source_kept = read_kept;
  sink_kept = wrote_kept;
}

-- ---- what follows

module _ (words : List (List ℕ)) (hearing : List Listening) (source sink : Change) (status : Status)
    (e : EndsWords words hearing source sink status) where
  pub words_written : (IsAnswerStatus status → IsWritten (AnswersWords words hearing source) sink status)
      × (IsCut status → GainsNothing sink ⊎ IsBegun (AnswersWords words hearing source) sink)
  words_written = (
    ends_answered words e.asked hearing source sink status e.asks e.ends,
    ends_cut words e.asked hearing source sink status e.asks e.ends,
  )

  pub words_read_fault : status ≡ ended.ReadFault → HasFailed source
  words_read_fault is = ends_read_fault e.asked hearing source sink status e.ends is

  pub words_write_fault : status ≡ ended.WriteFault → HasFailed sink
  words_write_fault is = ends_write_fault e.asked hearing source sink status e.ends is

  pub words_complete : (HasFailed source → ⊥) → (HasFailed sink → ⊥) → IsAnswerStatus status ⊎ (status ≡ ended.NoMemory)
  words_complete read wrote = ends_complete e.asked hearing source sink status e.ends read wrote

-- ---- what a report promises

has_answer : (status : Status) → HasReport status → IsAnswerStatus status
has_answer ended.Done has = tt
has_answer ended.GivenUp has = tt
has_answer ended.Usage has = absurd has
has_answer ended.BadInput has = absurd has
has_answer ended.ReadFault has = absurd has
has_answer ended.WriteFault has = absurd has
has_answer ended.NoMemory has = absurd has
has_answer ended.ContractBroken has = tt
has_answer ended.AuditNo has = absurd has
has_answer ended.Cut has = absurd has

refused_has_none : (status : Status) → status ≡ ended.BadInput → HasReport status → ⊥
refused_has_none status e has = subst (λ s. HasReport s) e has

safe_report : (asked : Form) (hearing : List Listening) (source : Change) (bytes text : List ℕ) (status : Status)
    → Reads source (limit_of form.Run) (Whole bytes) → IsReportOf asked bytes hearing text status → IsSafeReport source text status
safe_report asked hearing source bytes text status reads r = record {
  bytes = bytes;
  read = reads;
  scenario = r.scenario;
  reading = r.reading;
  left = r.reported.left;
  safe = r.reported.whole.safe;
  text_is = r.reported.text_is;
}

safe_run : (hearing : List Listening) (source : Change) (input : Input) (text : List ℕ) (status : Status)
    → Reads source (limit_of form.Run) input → AnswersInput form.Run input hearing text status → HasReport status → IsSafeReport source text status
safe_run hearing source TooLong text status reads said has = absurd (refused_has_none status said.1 has)
safe_run hearing source (Whole bytes) text status reads (inl refused) has = absurd (refused_has_none status refused.1 has)
safe_run hearing source (Whole bytes) text status reads (inr r) has = safe_report form.Run hearing source bytes text status reads r

safe_threads : (hearing : List Listening) (source : Change) (input : Input) (text : List ℕ) (status : Status)
    → Reads source (limit_of form.Run) input → AnswersInput form.RunThreads input hearing text status → HasReport status
    → IsSafeReport source text status
safe_threads hearing source TooLong text status reads said has = absurd (refused_has_none status said.1 has)
safe_threads hearing source (Whole bytes) text status reads (inl refused) has = absurd (refused_has_none status refused.1 has)
safe_threads hearing source (Whole bytes) text status reads (inr r) has = safe_report form.RunThreads hearing source bytes text status reads r

report_asked : (words : List (List ℕ)) (asked : Option Form) → AskReport words → Asks words asked
    → (asked ≡ Some form.Run) ⊎ (asked ≡ Some form.RunThreads)
report_asked words None (inl run) none = absurd (none form.Run run)
report_asked words None (inr threads) none = absurd (none form.RunThreads threads)
report_asked words (Some asked) (inl run) is = inl (ap Some (one_form words asked form.Run is run))
report_asked words (Some asked) (inr threads) is = inr (ap Some (one_form words asked form.RunThreads is threads))

safe_answer : (asked : Option Form) (hearing : List Listening) (source : Change) (text : List ℕ) (status : Status)
    → (asked ≡ Some form.Run) ⊎ (asked ≡ Some form.RunThreads) → IsAnswerTo asked hearing source text status → HasReport status
    → IsSafeReport source text status
safe_answer asked hearing source text status (inl e) answer has =
    let at : IsAnswerTo (Some form.Run) hearing source text status = subst (λ a. IsAnswerTo a hearing source text status) e answer in
    safe_run hearing source at.input text status (at.read refl) at.answer has
safe_answer asked hearing source text status (inr e) answer has =
    let at : IsAnswerTo (Some form.RunThreads) hearing source text status = subst (λ a. IsAnswerTo a hearing source text status) e answer in
    safe_threads hearing source at.input text status (at.read refl) at.answer has

-- the journals of a report that was written are safe
pub words_safe : (words : List (List ℕ)) (hearing : List Listening) (source sink : Change) (status : Status)
    → EndsWords words hearing source sink status → AskReport words → HasReport status → IsWritten (IsSafeReport source) sink status
words_safe words hearing source sink status e asks has =
    let w = (words_written words hearing source sink status e).0 (has_answer status has) in record {
      text = w.text;
      answer =
          safe_answer w.answer.asked hearing source w.text status (report_asked words w.answer.asked asks w.answer.asks) w.answer.answer has;
      gained = w.gained;
    }

-- ---- what a guard's report promises

kept_report : (hearing : List Listening) (source : Change) (bytes text : List ℕ) (status : Status) → Reads source (limit_of form.Guard) (Whole bytes)
    → IsGuardOf bytes hearing text status → IsKeptReport source text status
kept_report hearing source bytes text status reads r = record {
  bytes = bytes;
  read = reads;
  scenario = r.scenario;
  reading = r.reading;
  guarded = r.reported.guarded;
  is_guarded = r.reported.is_guarded;
  stops = r.reported.stops;
  left = r.reported.left;
  safe = r.reported.whole.safe;
  kept = r.reported.kept;
  never_broken = r.reported.never_broken;
  text_is = r.reported.text_is;
}

kept_run : (hearing : List Listening) (source : Change) (input : Input) (text : List ℕ) (status : Status)
    → Reads source (limit_of form.Guard) input → AnswersInput form.Guard input hearing text status → HasReport status → IsKeptReport source text status
kept_run hearing source TooLong text status reads said has = absurd (refused_has_none status said.1 has)
kept_run hearing source (Whole bytes) text status reads (inl refused) has = absurd (refused_has_none status refused.1 has)
kept_run hearing source (Whole bytes) text status reads (inr r) has = kept_report hearing source bytes text status reads r

guard_asked : (words : List (List ℕ)) (asked : Option Form) → AskGuard words → Asks words asked → asked ≡ Some form.Guard
guard_asked words None guard none = absurd (none form.Guard guard)
guard_asked words (Some asked) guard is = ap Some (one_form words asked form.Guard is guard)

kept_answer : (asked : Option Form) (hearing : List Listening) (source : Change) (text : List ℕ) (status : Status)
    → asked ≡ Some form.Guard → IsAnswerTo asked hearing source text status → HasReport status → IsKeptReport source text status
kept_answer asked hearing source text status e answer has =
    let at : IsAnswerTo (Some form.Guard) hearing source text status = subst (λ a. IsAnswerTo a hearing source text status) e answer in
    kept_run hearing source at.input text status (at.read refl) at.answer has

-- no driver broke its contract in a guard's report that was written
pub words_kept : (words : List (List ℕ)) (hearing : List Listening) (source sink : Change) (status : Status)
    → EndsWords words hearing source sink status → AskGuard words → HasReport status → IsWritten (IsKeptReport source) sink status
words_kept words hearing source sink status e asks has =
    let w = (words_written words hearing source sink status e).0 (has_answer status has) in record {
      text = w.text;
      answer =
          kept_answer w.answer.asked hearing source w.text status (guard_asked words w.answer.asked asks w.answer.asks) w.answer.answer has;
      gained = w.gained;
    }
