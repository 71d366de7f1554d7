-- The laws of each subcommand: each has an answer, but for `mirror`; one that never waits has only one, but for `explore`.
use Rattle.std.proofs.Common.{◌≡◌, ℕ, true, false, List, Option, Some, None, refl, sym, ◌∙◌, subst, true≢false}
use Rattle.answer_laws.proofs.Answered.{HasAnswer, HasOneAnswer, answer_by, said_exists, said_once}
use Rattle.answer_laws.proofs.Existing.{asm_exists, audit_exists, campaign_exists, dis_exists, explore_exists}
use Rattle.answer_laws.proofs.Existing.{guard_exists, guarded_exists, list_exists, run_exists, summary_exists, trace_exists}
use Rattle.answer_laws.proofs.Guarding.{can_be_guarded}
use Rattle.answer_laws.proofs.Once.{asm_once, audit_once, campaign_once, dis_once, guard_once, guarded_scenario_once}
use Rattle.answer_laws.proofs.Once.{list_once, run_once, summary_once, trace_once}
use Rattle.answer_laws.proofs.Threading.{threads_exist}
use Rattle.command_forms.proofs.OneForm.{one_form}
use Rattle.command_forms.specs.Forms.{AskOneAnswer, Asks, IsForm, has_one_answer, is_alone, is_reading}
use Rattle.command_forms.specs.declared.words.Form.{Form}
use Rattle.command_forms.specs.declared.words.Form.TheVariants as form
use Rattle.input_defs.specs.Faults.{fault_line}
use Rattle.input_defs.specs.declared.input.InputFault.TheVariants as fault
use Rattle.nook_io.specs.Listening.{Listening}
use Rattle.nooks.specs.Answers.{Answers, AnswersBy, AnswersInput, AnswersUnread}
use Rattle.nooks.specs.Endings.{AnswersBytes, input_for}
use Rattle.nooks.specs.Streams.{Input, TooLong, Whole}
use Rattle.nooks.specs.Texts.{at_root, help_text, usage_text, version_text}
use Rattle.nooks.specs.declared.program.Status.{Status}
use Rattle.nooks.specs.declared.program.Status.TheVariants as ended
use Rattle.run_defs.specs.Generated.{generated}
use Rattle.scenario_write.specs.ScenarioText.{scenario_line}

-- ---- the laws of one subcommand

pub record FormLaws (asked : Form) : Type 0 where
  pub exists : (words : List (List ℕ)) (input : Input) (hearing : List Listening) → IsForm words asked
      → (asked ≡ form.Mirror → ⊥) → HasAnswer (Answers (Some asked) input hearing)
  pub once : (input : Input) (hearing : List Listening) → has_one_answer asked ≡ true
      → HasOneAnswer (Answers (Some asked) input hearing)
  pub alone : is_alone asked ≡ true → (asked ≡ form.Explore → ⊥) → has_one_answer asked ≡ true

input_exists : (asked : Form)
    → ((bytes : List ℕ) (hearing : List Listening) → HasAnswer (AnswersInput asked (Whole bytes) hearing))
    → (input : Input) (hearing : List Listening) → HasAnswer (AnswersInput asked input hearing)
input_exists asked exists TooLong hearing = said_exists (fault_line (at_root fault.TooMany)) ended.BadInput
input_exists asked exists (Whole bytes) hearing = exists bytes hearing

input_once : (asked : Form)
    → ((bytes : List ℕ) (hearing : List Listening) → HasOneAnswer (AnswersInput asked (Whole bytes) hearing))
    → (input : Input) (hearing : List Listening) → HasOneAnswer (AnswersInput asked input hearing)
input_once asked once TooLong hearing = said_once (fault_line (at_root fault.TooMany)) ended.BadInput
input_once asked once (Whole bytes) hearing = once bytes hearing

-- a subcommand that reads an input
reading : (asked : Form) → is_reading asked ≡ true → has_one_answer asked ≡ true
    → ((bytes : List ℕ) (hearing : List Listening) → HasAnswer (AnswersInput asked (Whole bytes) hearing))
    → ((bytes : List ℕ) (hearing : List Listening) → HasOneAnswer (AnswersInput asked (Whole bytes) hearing))
    → FormLaws asked
reading asked reads single exists once = record {
  exists = λ words input hearing is other.
      subst (λ r. HasAnswer (AnswersBy r asked input hearing)) (sym reads) (input_exists asked exists input hearing);
  once = λ input hearing single.
      subst (λ r. HasOneAnswer (AnswersBy r asked input hearing)) (sym reads) (input_once asked once input hearing);
  alone = λ alone other. single;
}

-- a subcommand that reads nothing
unread : (asked : Form) → is_reading asked ≡ false → has_one_answer asked ≡ true
    → ((words : List (List ℕ)) → IsForm words asked → HasAnswer (AnswersUnread asked))
    → HasOneAnswer (AnswersUnread asked) → FormLaws asked
unread asked reads single exists once = record {
  exists = λ words input hearing is other.
      subst (λ r. HasAnswer (AnswersBy r asked input hearing)) (sym reads) (exists words is);
  once = λ input hearing single. subst (λ r. HasOneAnswer (AnswersBy r asked input hearing)) (sym reads) once;
  alone = λ alone other. single;
}

-- a subcommand that waits
waiting : (asked : Form) → is_alone asked ≡ false → has_one_answer asked ≡ false
    → ((words : List (List ℕ)) (input : Input) (hearing : List Listening) → IsForm words asked → (asked ≡ form.Mirror → ⊥)
    → HasAnswer (Answers (Some asked) input hearing))
    → FormLaws asked
waiting asked waits many exists = record {
  exists = exists;
  once = λ input hearing single. absurd (true≢false (sym single ∙ many));
  alone = λ alone other. absurd (true≢false (sym alone ∙ waits));
}

-- ---- the subcommands

pub form_laws : (asked : Form) → FormLaws asked
form_laws form.Run = reading form.Run refl refl run_exists run_once
form_laws form.RunThreads = waiting form.RunThreads refl refl
    (λ words input hearing is other. input_exists form.RunThreads threads_exist input hearing)
form_laws form.Asm = reading form.Asm refl refl (λ bytes hearing. asm_exists bytes) (λ bytes hearing. asm_once bytes)
form_laws form.Dis = reading form.Dis refl refl (λ bytes hearing. dis_exists bytes) (λ bytes hearing. dis_once bytes)
form_laws (form.Gen number) = unread (form.Gen number) refl refl
    (λ words is. summary_exists number is.2) (summary_once number)
form_laws (form.GenScenario number) = unread (form.GenScenario number) refl refl
    (λ words is. said_exists (scenario_line (generated number)) ended.Done)
    (said_once (scenario_line (generated number)) ended.Done)
form_laws form.Audit = reading form.Audit refl refl
    (λ bytes hearing. audit_exists bytes) (λ bytes hearing. audit_once bytes)
form_laws form.Campaign = reading form.Campaign refl refl
    (λ bytes hearing. campaign_exists bytes) (λ bytes hearing. campaign_once bytes)
form_laws form.Mirror = waiting form.Mirror refl refl (λ words input hearing is other. absurd (other refl))
form_laws form.List = reading form.List refl refl
    (λ bytes hearing. list_exists bytes) (λ bytes hearing. list_once bytes)
form_laws (form.Trace part burst) = reading (form.Trace part burst) refl refl
    (λ bytes hearing. trace_exists bytes part burst) (λ bytes hearing. trace_once bytes part burst)
form_laws form.Guard = reading form.Guard refl refl (guard_exists can_be_guarded) guard_once
form_laws form.GuardScenario = reading form.GuardScenario refl refl
    (λ bytes hearing. guarded_exists can_be_guarded bytes) (λ bytes hearing. guarded_scenario_once bytes)
form_laws form.Explore = record {
  exists = λ words input hearing is other.
      input_exists form.Explore (λ bytes heard. explore_exists bytes) input hearing;
  once = λ input hearing single. absurd (true≢false (sym single));
  alone = λ alone other. absurd (other refl);
}
form_laws form.Help = unread form.Help refl refl
    (λ words is. said_exists help_text ended.Done) (said_once help_text ended.Done)
form_laws form.Version = unread form.Version refl refl
    (λ words is. said_exists version_text ended.Done) (said_once version_text ended.Done)

-- ---- arguments

pub words_exist : (words : List (List ℕ)) (asked : Option Form) (hearing : List Listening) (bytes : List ℕ)
    → Asks words asked → (IsForm words form.Mirror → ⊥) → HasAnswer (AnswersBytes words hearing bytes)
words_exist words None hearing bytes asks other =
    (usage_text, (ended.Usage, record { asked = None; asks = asks; answer = (refl, refl) }))
words_exist words (Some asked) hearing bytes asks other =
    answer_by (Answers (Some asked) (input_for (Some asked) bytes) hearing) (AnswersBytes words hearing bytes)
    (λ text status answer. record { asked = Some asked; asks = asks; answer = answer })
    ((form_laws asked).exists words (input_for (Some asked) bytes) hearing asks (λ e. other (subst (IsForm words) e asks)))

asked_once : (words : List (List ℕ)) (one two : Option Form) (hearing : List Listening) (bytes text other : List ℕ)
    (status end : Status) → AskOneAnswer words → Asks words one → Asks words two
    → Answers one (input_for one bytes) hearing text status → Answers two (input_for two bytes) hearing other end
    → (text ≡ other) × (status ≡ end)
asked_once words None None hearing bytes text other status end single x y a b =
    said_once usage_text ended.Usage text other status end a b
asked_once words None (Some two) hearing bytes text other status end single x y a b = absurd (x two y)
asked_once words (Some one) None hearing bytes text other status end single x y a b = absurd (y one x)
asked_once words (Some one) (Some two) hearing bytes text other status end single x y a b =
    (form_laws two).once (input_for (Some two) bytes) hearing (single two y) text other status end
    (subst (λ f. Answers (Some f) (input_for (Some f) bytes) hearing text status) (one_form words one two x y) a) b

pub words_once : (words : List (List ℕ)) (hearing : List Listening) (bytes text other : List ℕ) (status end : Status)
    → AskOneAnswer words → AnswersBytes words hearing bytes text status → AnswersBytes words hearing bytes other end
    → (text ≡ other) × (status ≡ end)
words_once words hearing bytes text other status end single a b =
    asked_once words a.asked b.asked hearing bytes text other status end single a.asks b.asks a.answer b.answer
