-- Explorations of one scenario have the same rows.
use Rattle.std.proofs.Common.{◌≡◌, ℕ, ◌<◌, ◌==◌, nat_lt, if◌then◌else◌, Bool, true, false, is_some, Option, Some, None, Ok, List, inl, inr, refl, sym, ap, ◌∙◌, subst, arith}
use Rattle.answer_laws.specs.Rows.{HasFollowedAll, HaveSameRows}
use Rattle.command_forms.specs.declared.words.Form.TheVariants as form
use Rattle.explore_defs.specs.Explored.{AreOutcomes, IsExplored, all_numbers, explored_status, explored_text, outcome_lines, rows_of_status}
use Rattle.explore_defs.specs.Orders.{Path}
use Rattle.explore_defs.specs.declared.TheConstants.{CUT_STATUS}
use Rattle.explore_laws.proofs.OneList.{one_list}
use Rattle.input_defs.specs.ScenarioReading.{scenario_from}
use Rattle.nook_data.specs.Types.{MemberRow}
use Rattle.nook_data.specs.declared.scenario.Scenario.{Scenario}
use Rattle.nook_io.specs.Listening.{Listening}
use Rattle.nooks.specs.Answers.{Answers, IsExploration, IsExploredOf, IsExploredStatus}
use Rattle.nooks.specs.Streams.{Input, TooLong, Whole}
use Rattle.nooks.specs.declared.program.Status.{Status}
use Rattle.nooks.specs.declared.program.Status.TheVariants as ended

-- ---- explorations of all orders

pub whole_alike : (scenario : Scenario) (text other : List ℕ) (status end : ℕ) (one : IsExplored scenario text status)
    (two : IsExplored scenario other end) → one.cut ≡ None → two.cut ≡ None → HaveSameRows text other × (status ≡ end)
whole_alike scenario text other status end one two whole also =
    let same : one.firsts ≡ two.firsts =
    one_list scenario None one.firsts two.firsts (subst (λ cut. AreOutcomes scenario cut one.firsts) whole one.outcomes)
    (subst (λ cut. AreOutcomes scenario cut two.firsts) also two.outcomes) in (
      record {
        rows = outcome_lines 1 scenario two.firsts;
        numbers = all_numbers scenario two.firsts;
        states = one.states;
        others = two.states;
        text_is = one.text_is
            ∙ (ap (λ cut. explored_text scenario (is_some cut) one.states one.firsts) whole
            ∙ ap (λ firsts. explored_text scenario false one.states firsts) same);
        other_is = two.text_is ∙ ap (λ cut. explored_text scenario (is_some cut) two.states two.firsts) also;
      },
      one.status_is
          ∙ (ap (λ cut. explored_status (is_some cut) (all_numbers scenario one.firsts)) whole
          ∙ (ap (λ firsts. explored_status false (all_numbers scenario firsts)) same
          ∙ sym (two.status_is ∙ ap (λ cut. explored_status (is_some cut) (all_numbers scenario two.firsts)) also))),
    )

-- ---- by the status

-- the status of an exploration of all orders, by its number
abbrev status_by : ℕ → Status
status_by number = if number == 0 then ended.Done else ended.GivenUp

printed : (number : ℕ) (status : Status) → HasFollowedAll status → IsExploredStatus number status → (number < 7) × (status ≡ status_by number)
printed number ended.Done followed is = (omega (arith, is), rw is refl)
printed number ended.GivenUp followed is = (omega (arith, is), rw is refl)
printed number ended.Usage followed is = absurd followed
printed number ended.BadInput followed is = absurd followed
printed number ended.ReadFault followed is = absurd followed
printed number ended.WriteFault followed is = absurd followed
printed number ended.NoMemory followed is = absurd followed
printed number ended.ContractBroken followed is = absurd followed
printed number ended.AuditNo followed is = absurd followed
printed number ended.Cut followed is = absurd followed

not_cut : (broken is_cut given_up : Bool) → (if broken then 7 else if is_cut then CUT_STATUS else if given_up then 1 else 0) < 7 → is_cut ≡ false
not_cut true is_cut given_up low = absurd (omega (arith, low))
not_cut false true given_up low = absurd (omega (arith, low))
not_cut false false given_up low = refl

no_cut : (cut : Option (List ℕ)) → is_some cut ≡ false → cut ≡ None
no_cut None none = refl
no_cut (Some last) none = absurd (cc)

whole_by : (scenario : Scenario) (text : List ℕ) (number : ℕ) (one : IsExplored scenario text number) → number < 7 → one.cut ≡ None
whole_by scenario text number one low =
    let rows : List MemberRow = all_numbers scenario one.firsts in
    no_cut one.cut
    (not_cut (nat_lt 0 (rows_of_status 7 rows)) (is_some one.cut) (nat_lt 0 (rows_of_status 1 rows)) (subst (λ (n : ℕ). n < 7) one.status_is low))

explorations_alike : (scenario : Scenario) (text other : List ℕ) (status end : Status) → HasFollowedAll status → HasFollowedAll end
    → IsExploration scenario text status → IsExploration scenario other end → HaveSameRows text other × (status ≡ end)
explorations_alike scenario text other status end followed also a b =
    let x = printed a.number status followed a.status_is in
    let y = printed b.number end also b.status_is in
    let same = whole_alike scenario text other a.number b.number a.explored b.explored (whole_by scenario text a.number a.explored x.0)
    (whole_by scenario other b.number b.explored y.0) in
    (same.0, x.1 ∙ (ap status_by same.1 ∙ sym y.1))

scenario_once : (bytes : List ℕ) (a b : Scenario) → scenario_from bytes ≡ Ok a → scenario_from bytes ≡ Ok b → a ≡ b
scenario_once bytes a b e f = cc

refused_is_none : {P : Type 0} (status : Status) → status ≡ ended.BadInput → HasFollowedAll status → P
refused_is_none status e followed = absurd (subst (λ s. HasFollowedAll s) e followed)

pub answers_alike : (input : Input) (hearing : List Listening) (text other : List ℕ) (status end : Status) → HasFollowedAll status
    → HasFollowedAll end → Answers (Some form.Explore) input hearing text status → Answers (Some form.Explore) input hearing other end
    → HaveSameRows text other × (status ≡ end)
answers_alike TooLong hearing text other status end followed also a b = refused_is_none status a.1 followed
answers_alike (Whole bytes) hearing text other status end followed also (inl a) b = refused_is_none status a.1 followed
answers_alike (Whole bytes) hearing text other status end followed also (inr a) (inl b) = refused_is_none end b.1 also
answers_alike (Whole bytes) hearing text other status end followed also (inr a) (inr b) =
    explorations_alike b.scenario text other status end followed also
    (subst (λ s. IsExploration s text status) (scenario_once bytes a.scenario b.scenario a.reading b.reading) a.exploration) b.exploration
