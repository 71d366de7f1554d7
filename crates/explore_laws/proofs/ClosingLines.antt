-- An outcome decides the lines after the events.
use Rattle.std.proofs.Common.{◌≡◌, ℕ, suc, if◌then◌else◌, bytes_eq, codes, filter, flat_map, option_map, Option}
use Rattle.std.proofs.Common.{Some, None, List, [], ◌∷◌, ◌++◌, refl, sym, ap, ap₂, ◌∙◌}
use Rattle.explore_defs.specs.Outcomes.{clause_of, given_by, left_by, objects_of, shown_losses}
use Rattle.explore_defs.specs.declared.outcome.PartOutcome.{PartOutcome}
use Rattle.explore_laws.specs.Closing.{at_no_event, closing_lines, undated}
use Rattle.machine_defs.specs.Devices.{medium_of}
use Rattle.machine_defs.specs.Pages.{opening_object}
use Rattle.nook_data.specs.Types.{Act, Break, Class, Event, Losses, PartSpec}
use Rattle.nook_data.specs.declared.classes.Class.TheVariants as class
use Rattle.nook_data.specs.declared.machine.Act.TheVariants as act
use Rattle.part_defs.specs.State.{PartState}
use Rattle.promise_defs.specs.Contract.{first_break}
use Rattle.promise_defs.specs.Losses.{is_played, is_sent, losses}
use Rattle.report_defs.specs.ReportLines.{line_feed, spaced, with_list, with_number}
use Rattle.report_defs.specs.ReportText.{block_lines, contract_line, device_lines, journal_acts, losses_lines}
use Rattle.report_defs.specs.ReportText.{object_lines, played_line, wire_line}

-- ---- the lines by the outcome

abbrev object_texts : ℕ → List (List ℕ) → List ℕ
object_texts object [] = []
object_texts object (words ∷ more) =
    (if bytes_eq words (opening_object object) then []
    else with_number (codes "object ") object ++ (with_list (codes " ") words ++ line_feed))
    ++ object_texts (suc object) more

abbrev device_texts : Class → List (List ℕ) → List Act → List ℕ
device_texts class.Block medium given = block_lines 0 medium
device_texts class.Net medium given = flat_map wire_line given
device_texts class.Sound medium given = flat_map played_line given

abbrev outcome_lines : Class → PartOutcome → List ℕ
outcome_lines c o =
    object_texts 1 o.objects ++ (device_texts c o.medium o.given
    ++ ((codes "config" ++ (flat_map spaced o.config ++ line_feed))
    ++ (losses_lines c o.losses ++ ((with_number (codes "failures ") o.failures ++ line_feed)
    ++ contract_line (option_map at_no_event o.broken)))))

wired : (acts : List Act) → flat_map wire_line acts ≡ flat_map wire_line (filter is_sent acts)
wired [] = refl
wired (act.Load block ∷ acts) = wired acts
wired (act.Failed block store ∷ acts) = wired acts
wired (act.Store block words ∷ acts) = wired acts
wired (act.Sent frame ∷ acts) = ap (λ text. wire_line (act.Sent frame) ++ text) (wired acts)
wired (act.Popped frame ∷ acts) = wired acts
wired (act.Played word rate volume ∷ acts) = wired acts
wired (act.Register key value ∷ acts) = wired acts

sounded : (acts : List Act) → flat_map played_line acts ≡ flat_map played_line (filter is_played acts)
sounded [] = refl
sounded (act.Load block ∷ acts) = sounded acts
sounded (act.Failed block store ∷ acts) = sounded acts
sounded (act.Store block words ∷ acts) = sounded acts
sounded (act.Sent frame ∷ acts) = sounded acts
sounded (act.Popped frame ∷ acts) = sounded acts
sounded (act.Played word rate volume ∷ acts) = ap (λ text. played_line (act.Played word rate volume) ++ text) (sounded acts)
sounded (act.Register key value ∷ acts) = sounded acts

device_reported : (c : Class) (events : List Event) (p : PartState)
    → device_lines c events p ≡ device_texts c (medium_of p.domain.device) (given_by c (journal_acts events))
device_reported class.Block events p = refl
device_reported class.Net events p = wired (journal_acts events)
device_reported class.Sound events p = sounded (journal_acts events)

losses_reported : (c : Class) (n : Losses) → losses_lines c n ≡ losses_lines c (shown_losses c n)
losses_reported class.Block n = refl
losses_reported class.Net n = refl
losses_reported class.Sound n = refl

verdict_reported : (verdict : Option Break) → undated verdict ≡ option_map at_no_event (clause_of verdict)
verdict_reported None = refl
verdict_reported (Some b) = refl

objects_reported : (memory : List ℕ) → object_lines 1 12 memory ≡ object_texts 1 (objects_of memory)
objects_reported memory = refl

lines_by : (spec : PartSpec) (events : List Event) (p : PartState)
    → closing_lines spec events p ≡ outcome_lines spec.class (left_by spec events p)
lines_by spec events p =
    let config : List ℕ = codes "config" ++ (flat_map spaced p.log.config ++ line_feed) in
    let failures : List ℕ = with_number (codes "failures ") p.failures ++ line_feed in
    ap₂ (λ (a b : List ℕ). a ++ b) (objects_reported p.domain.memory)
    (ap₂ (λ (a b : List ℕ). a ++ (config ++ b)) (device_reported spec.class events p)
    (ap₂ (λ (a b : List ℕ). a ++ (failures ++ b)) (losses_reported spec.class (losses events))
    (ap contract_line (verdict_reported (first_break spec.class spec.blocks events)))))

pub same_lines : (spec : PartSpec) (events others : List Event) (p q : PartState) → left_by spec events p ≡ left_by spec others q
    → closing_lines spec events p ≡ closing_lines spec others q
same_lines spec events others p q h =
    lines_by spec events p ∙ ap (outcome_lines spec.class) h ∙ sym (lines_by spec others q)
