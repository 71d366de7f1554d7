-- Parts are judged and counted alike after events whose monitors judge alike.
use Rattle.std.proofs.Common.{◌≡◌, ℕ, Option, Some, None, List, [], refl, sym, ap, ◌∙◌}
use Rattle.std.specs.List.{fold}
use Rattle.std.specs.Option.{option_map}
use Rattle.nook_data.specs.declared.verdicts.Break.{Break}
use Rattle.nook_data.specs.declared.classes.Class.{Class}
use Rattle.nook_data.specs.declared.steps.Event.{Event}
use Rattle.promise_defs.specs.Contract.{Known, first_break, known_after, known_first}
use Rattle.promise_defs.specs.Losses.{call_effects_after}
use Rattle.contract_monitor.specs.Keeping.{LossCounts, shorter}
use Rattle.contract_monitor.specs.Monitors.{JudgeAlike, Monitored, Represents, counts_of}

-- the clause of a break
abbrev pub clause_of : Option Break → Option ℕ
clause_of found = option_map (λ (b : Break). b.clause) found

-- the state from which the judge continues: nothing, once a clause is broken
abbrev pub judged_from : Option ℕ → Known → Option Known
judged_from None k = Some (shorter k)
judged_from (Some clause) k = None

-- a part of this class, with a disk of this size, is judged and counted alike after both lists of events
pub record GoAlike (class : Class) (size : ℕ) (events others : List Event) : Type 0 where
  pub broken : clause_of (first_break class size events) ≡ clause_of (first_break class size others)
  pub known : first_break class size events ≡ None
      → shorter (fold known_after (known_first class size) events) ≡ shorter (fold known_after (known_first class size) others)
  pub from : judged_from (clause_of (first_break class size events)) (fold known_after (known_first class size) events)
      ≡ judged_from (clause_of (first_break class size others)) (fold known_after (known_first class size) others)
  pub call_effects : fold call_effects_after [] events ≡ fold call_effects_after [] others
  pub counts : counts_of events ≡ counts_of others

no_clause : (found : Option Break) → clause_of found ≡ None → found ≡ None
no_clause None h = refl
no_clause (Some b) h = absurd cc

same_from : (was now : Option Break) (k l : Known) → clause_of was ≡ clause_of now → (was ≡ None → shorter k ≡ shorter l)
    → judged_from (clause_of was) k ≡ judged_from (clause_of now) l
same_from None None k l e h = ap {B = Option Known} (λ known. Some known) (h refl)
same_from None (Some b) k l e h = absurd cc
same_from (Some a) None k l e h = absurd cc
same_from (Some a) (Some b) k l e h = refl

pub alike : (class : Class) (size : ℕ) (events others : List Event) (m n : Monitored) → Represents class size events m
    → Represents class size others n → JudgeAlike m n → GoAlike class size events others
alike class size events others m n s t j =
    let was : Option Break = first_break class size events in
    let now : Option Break = first_break class size others in
    let k : Known = fold known_after (known_first class size) events in
    let l : Known = fold known_after (known_first class size) others in
    let broken : clause_of was ≡ clause_of now = ap clause_of (sym s.broken) ∙ (j.broken ∙ ap clause_of t.broken) in
    let known : was ≡ None → shorter k ≡ shorter l = λ none.
    let first : m.broken ≡ None = s.broken ∙ none in
    let second : n.broken ≡ None = no_clause n.broken (sym j.broken ∙ ap clause_of first) in
    sym (s.known first).same ∙ (j.known first ∙ (t.known second).same) in
    record {
      broken = broken;
      known = known;
      from = same_from was now k l broken known;
      call_effects = sym s.call_effects ∙ (j.call_effects ∙ t.call_effects);
      counts = sym s.counts ∙ (j.counts ∙ t.counts);
    }
