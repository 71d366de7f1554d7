-- The whole run of a mirror: its operations, and what its two parts leave after them.
use Rattle.std.proofs.Common.{◌≡◌, inl, inr, ℕ, ◌≤◌, ◌==◌, ◌&&◌, ◌||◌, is_some, Bool, true, false, Option, Some, None, Result, Ok, Err, IfOk, List, [], ◌∷◌, ◌++◌, length, map, refl, sym, ap, subst, ◌∙◌, arith, eqb-true, get_or}
use Rattle.std.specs.List.{All, list_any}
use Rattle.std.proofs.lemmas.List.{length-map}
use Rattle.std.proofs.lemmas.List.Elements.{All-head, All-tail}
use Rattle.std.proofs.lemmas.Bool.{and_parts}
use mathlib.Core.List.{IsPrefix}
use Rattle.nook_data.specs.declared.verdicts.Break.{Break}
use Rattle.nook_data.specs.declared.classes.Class.{Class}
use Rattle.nook_data.specs.declared.classes.Class.TheVariants as class
use Rattle.nook_data.specs.declared.steps.Event.{Event}
use Rattle.nook_data.specs.declared.mirror.MirrorAnswer.{MirrorAnswer}
use Rattle.nook_data.specs.declared.calls.Op.{Op}
use Rattle.nook_data.specs.declared.scenario.PartSpec.{PartSpec}
use Rattle.nook_data.specs.declared.scenario.Scenario.{Scenario}
use Rattle.nook_data.specs.declared.scenario.ThreadSpec.{ThreadSpec}
use Rattle.nook_data.specs.Classes.{same_class}
use Rattle.promise_defs.specs.Contract.{first_break}
use Rattle.report_defs.specs.ReportText.{has_break}
use Rattle.part_defs.specs.Runs.{IsRun, next_any, state_of}
use Rattle.nook_data.specs.Valid.{IsValidPart, IsValidScenario, IsValidThread}
use Rattle.desk_like.specs.Desks.{Accounts, DeskView, IsAlone}
use Rattle.mirror_block.specs.Mirrors.{IsDisk, IsMirror, MirrorView, new_mirror}
use Rattle.mirror_block.specs.Rule.{both_present}
use Rattle.mirror_block.specs.Sides.{IsNewSide}
use Rattle.mirror_block.proofs.NewMirror.{new_is_mirror}
use Rattle.nook_data.specs.Views.Room.{Kept}
use Rattle.part_server.specs.Turns.{opening_view}
use Rattle.run_results.specs.declared.report.PartEnd.{PartEnd}
use Rattle.run_results.specs.Reports.{HaveEnds}
use Rattle.run_results.specs.Journals.{AreRuns, events_in}
use Rattle.mirrored_run.specs.declared.running.Unheard.{Unheard}
use Rattle.threaded_run.proofs.Working.{new_accounts, new_alone}
use Rattle.threaded_run.specs.Leaving.{GoesOn, IsLeft}
use Rattle.mirrored_run.specs.Hearing.{HearAllOrNothing}
use Rattle.nook_io.specs.Listening.{Listening}
use Rattle.request_taps.specs.Bus.{after_hearing_all}
use Rattle.request_taps.specs.declared.tap.Tap.{Tap}
use Rattle.mirrored_run.specs.Exchanges.{AreExchanges, ArePlain, Exchange, answers_of, left_events, right_events}
use Rattle.mirrored_run.specs.Mirrors.{HaveDisk, IsMirrorRun, end_medium, is_lost, is_mirror, is_pair, is_single, ops_of_thread, size_of}
use Rattle.threaded_run.specs.Threaded.{AreSettled, in_parts}
use Rattle.mirrored_run.specs.Serving.{HasServed}
use Rattle.mirrored_run.specs.Unheard.{IsWholeRun}
use Rattle.mirrored_run.proofs.Following.{Exchanged, HasExchanged, are_exchanges, between, exchanged_by, exchanged_keeps, left_seen, right_seen, same_sides}
use Rattle.mirrored_run.proofs.Plain.{before_unbroken, left_ends, plain_answers, right_ends}

-- ---- the contract of both

none_broken : (o : Option Break) (b : Bool) → (is_some o || b) ≡ false → (o ≡ None) × (b ≡ false)
none_broken None b h = (refl, h)
none_broken (Some x) b h = absurd cc

both_kept : (l r : PartSpec) (left right : List Event) → has_break (l ∷ r ∷ []) (left ∷ right ∷ []) ≡ false
    → (first_break l.class l.blocks left ≡ None) × (first_break r.class r.blocks right ≡ None)
unfolding has_break
both_kept l r left right h =
    let k = none_broken (first_break l.class l.blocks left) (is_some (first_break r.class r.blocks right) || false) h in
    (k.0, (none_broken (first_break r.class r.blocks right) false k.1).0)

-- ---- the whole

module _ {D : Type 0} (spec : D → PartSpec) (scenario : Scenario) (l r : PartSpec) (ld rd : D) (ov ow lv rv : DeskView) (answers : List MirrorAnswer)
    (left right : List Event) (parts : scenario.parts ≡ l ∷ r ∷ []) (left_is : spec ld ≡ l) (right_is : spec rd ≡ r) (left_side : IsNewSide (spec ld) l.blocks ov)
    (right_side : IsNewSide (spec rd) l.blocks ow) (h : HasServed spec ld rd ov ow l.blocks (ops_of_thread scenario.threads) answers lv rv)
    (left_run : IsRun l left) (right_run : IsRun r right) (gl : GoesOn lv.seen left) (gr : GoesOn rv.seen right)
    (sl : next_any (state_of l left) ≡ None) (sr : next_any (state_of r right) ≡ None) where
  abbrev start : MirrorView D
  start = new_mirror ld rd ov ow l.blocks

  done : HasExchanged spec start (ops_of_thread scenario.threads) answers h.new
  done = exchanged_by spec start (ops_of_thread scenario.threads) answers h.new h.served

  abbrev exchanges : List Exchange
  exchanges = done.exchanges

  ends : IsMirror spec h.new × (h.new.stopped ≡ false)
  ends = exchanged_keeps spec start exchanges h.new (new_is_mirror spec ld rd ov ow l.blocks left_side right_side) refl done.exchanged

  -- what the sides of a mirror have seen after exchanges
  left_saw : (xs : List Exchange) (m : MirrorView D) → Exchanged spec start xs m → left_events xs ≡ m.left.seen
  left_saw xs m k = ap (λ (x : List Event). x ++ left_events xs) (sym left_side.seen) ∙ left_seen spec start xs m k

  right_saw : (xs : List Exchange) (m : MirrorView D) → Exchanged spec start xs m → right_events xs ≡ m.right.seen
  right_saw xs m k = ap (λ (x : List Event). x ++ right_events xs) (sym right_side.seen) ∙ right_seen spec start xs m k

  left_spec : (xs : List Exchange) (m : MirrorView D) → Exchanged spec start xs m → spec m.left_desk ≡ l
  left_spec xs m k = ap spec (same_sides spec start xs m k).left_desk ∙ left_is

  right_spec : (xs : List Exchange) (m : MirrorView D) → Exchanged spec start xs m → spec m.right_desk ≡ r
  right_spec xs m k = ap spec (same_sides spec start xs m k).right_desk ∙ right_is

  left_goes_on : GoesOn h.new.left.seen left
  left_goes_on = subst (λ (v : DeskView). GoesOn v.seen left) h.left_is gl

  right_goes_on : GoesOn h.new.right.seen right
  right_goes_on = subst (λ (v : DeskView). GoesOn v.seen right) h.right_is gr

  -- the contract was kept in what the sides had seen after these exchanges
  plain_after : (xs : List Exchange) (m : MirrorView D) → Exchanged spec start xs m → list_any is_lost (answers_of xs) ≡ false
      → first_break l.class l.blocks (left_events xs) ≡ None → first_break r.class r.blocks (right_events xs) ≡ None
      → (disk : List (List ℕ)) × IsDisk m disk × ArePlain l.blocks xs disk
  plain_after xs m k some kl kr =
      plain_answers spec start xs m k left_side.seen right_side.seen refl
      (ap (λ (s : PartSpec). first_break s.class s.blocks m.left.seen) (left_spec xs m k) ∙ ap (λ (x : List Event). first_break l.class l.blocks x) (sym (left_saw xs m k)) ∙ kl)
      (ap (λ (s : PartSpec). first_break s.class s.blocks m.right.seen) (right_spec xs m k) ∙ ap (λ (x : List Event). first_break r.class r.blocks x) (sym (right_saw xs m k)) ∙ kr)
      some

  plain_so : (front : List Exchange) → IsPrefix front exchanges → list_any is_lost (answers_of front) ≡ false
      → has_break (l ∷ r ∷ []) (left_events front ∷ right_events front ∷ []) ≡ false → (disk : List (List ℕ)) × ArePlain l.blocks front disk
  plain_so front p some kept =
      let b = between spec start front p.0 h.new (subst (λ (xs : List Exchange). Exchanged spec start xs h.new) (sym p.1) done.exchanged) in
      let k = both_kept l r (left_events front) (right_events front) kept in
      let plain = plain_after front b.view b.before some k.0 k.1 in
      (plain.0, plain.2)

  left_unbroken : first_break l.class l.blocks left ≡ None → first_break l.class l.blocks (left_events exchanges) ≡ None
  left_unbroken kept =
      before_unbroken l (left_events exchanges) left
      (left_goes_on.rest, ap (λ (x : List Event). x ++ left_goes_on.rest) (left_saw exchanges h.new done.exchanged) ∙ left_goes_on.begins) kept

  right_unbroken : first_break r.class r.blocks right ≡ None → first_break r.class r.blocks (right_events exchanges) ≡ None
  right_unbroken kept =
      before_unbroken r (right_events exchanges) right
      (right_goes_on.rest, ap (λ (x : List Event). x ++ right_goes_on.rest) (right_saw exchanges h.new done.exchanged) ∙ right_goes_on.begins) kept

  disks_so : list_any is_lost answers ≡ false → has_break (l ∷ r ∷ []) (left ∷ right ∷ []) ≡ false
      → (disk : List (List ℕ)) × ArePlain l.blocks exchanges disk × HaveDisk (l ∷ r ∷ []) h.new.present left right disk
  disks_so some kept =
      let k = both_kept l r left right kept in
      let plain = plain_after exchanges h.new done.exchanged (ap (list_any is_lost) done.answers_are ∙ some) (left_unbroken k.0) (right_unbroken k.1) in
      let ls = left_spec exchanges h.new done.exchanged in
      let rs = right_spec exchanges h.new done.exchanged in (
        plain.0,
        plain.2,
        (
          λ here. ap (λ (s : PartSpec). end_medium s left) (sym ls)
              ∙ left_ends spec start exchanges h.new left plain.0 done.exchanged left_side.seen right_side.seen ends.0 ends.1 plain.1 left_goes_on
              (subst (λ (s : PartSpec). IsRun s left) (sym ls) left_run) (ap (λ (s : PartSpec). first_break s.class s.blocks left) ls ∙ k.0) here,
          λ here. ap (λ (s : PartSpec). end_medium s right) (sym rs)
              ∙ right_ends spec start exchanges h.new right plain.0 done.exchanged left_side.seen right_side.seen ends.0 ends.1 plain.1 right_goes_on
              (subst (λ (s : PartSpec). IsRun s right) (sym rs) right_run) (ap (λ (s : PartSpec). first_break s.class s.blocks right) rs ∙ k.1) here,
        ),
      )

  pub mirror_ran : IsMirrorRun scenario left right answers
  mirror_ran = record {
    exchanges = exchanges;
    ops = done.ops_are;
    answers_are = done.answers_are;
    present = h.new.present;
    asked = subst (λ (specs : List PartSpec). AreExchanges (size_of specs) both_present exchanges h.new.present) (sym parts)
        (are_exchanges spec start exchanges h.new done.exchanged);
    left_goes_on = subst (λ (seen : List Event). GoesOn seen left) (sym (left_saw exchanges h.new done.exchanged)) left_goes_on;
    right_goes_on = subst (λ (seen : List Event). GoesOn seen right) (sym (right_saw exchanges h.new done.exchanged)) right_goes_on;
    settled = subst (λ (specs : List PartSpec). AreSettled specs (left ∷ right ∷ [])) (sym parts) (sl, (sr, tt));
    plain = λ front p some kept.
        subst (λ (specs : List PartSpec). (disk : List (List ℕ)) × ArePlain (size_of specs) front disk) (sym parts)
        (plain_so front p some (ap (λ (specs : List PartSpec). has_break specs (left_events front ∷ right_events front ∷ [])) (sym parts) ∙ kept));
    disks = λ some kept.
        subst (λ (specs : List PartSpec). (disk : List (List ℕ)) × ArePlain (size_of specs) exchanges disk × HaveDisk specs h.new.present left right disk) (sym parts)
        (disks_so some (ap (λ (specs : List PartSpec). has_break specs (left ∷ right ∷ [])) (sym parts) ∙ kept));
  }

-- ---- which scenarios are served

block_is : (c : Class) → same_class c class.Block ≡ true → c ≡ class.Block
block_is class.Block h = refl
block_is class.Net h = absurd cc
block_is class.Sound h = absurd cc

-- the two parts are disks of one size
pub record IsPair (l r : PartSpec) : Type 0 where
  pub left_class : l.class ≡ class.Block
  pub right_class : r.class ≡ class.Block
  pub size : r.blocks ≡ l.blocks

pair_of : (l r : PartSpec) → is_pair (l ∷ r ∷ []) ≡ true → IsPair l r
pair_of l r h =
    let k = and_parts (same_class l.class class.Block) (same_class r.class class.Block && (l.blocks == r.blocks)) h in
    let m = and_parts (same_class r.class class.Block) (l.blocks == r.blocks) k.1 in
    record { left_class = block_is l.class k.0; right_class = block_is r.class m.0; size = sym (eqb-true l.blocks r.blocks m.1) }

pub served_pair : (scenario : Scenario) (l r : PartSpec) → scenario.parts ≡ l ∷ r ∷ [] → is_mirror scenario ≡ true → IsPair l r
unfolding is_mirror
served_pair scenario l r e h = pair_of l r (ap is_pair (sym e) ∙ (and_parts (is_pair scenario.parts) (is_single scenario.threads) h).0)

pub served_single : (scenario : Scenario) → is_mirror scenario ≡ true → is_single scenario.threads ≡ true
unfolding is_mirror
served_single scenario h = (and_parts (is_pair scenario.parts) (is_single scenario.threads) h).1

two_in : (specs : List PartSpec) → is_pair specs ≡ true → length specs ≡ 2
two_in [] h = absurd cc
two_in (l ∷ []) h = absurd cc
two_in (l ∷ r ∷ []) h = refl
two_in (l ∷ r ∷ s ∷ specs) h = absurd cc

pub served_two : (scenario : Scenario) → is_mirror scenario ≡ true → length scenario.parts ≡ 2
unfolding is_mirror
served_two scenario h = two_in scenario.parts (and_parts (is_pair scenario.parts) (is_single scenario.threads) h).0

pub two_items : (specs : List PartSpec) (l r : PartSpec) → length specs ≡ 2 → l ≡ get_or specs 0 l → r ≡ get_or specs 1 r → specs ≡ l ∷ r ∷ []
two_items [] l r n e f = absurd (omega arith)
two_items (x ∷ []) l r n e f = absurd (omega arith)
two_items (x ∷ y ∷ []) l r n e f = ap (λ (z : PartSpec). z ∷ y ∷ []) (sym e) ∙ ap (λ (z : PartSpec). l ∷ z ∷ []) (sym f)
two_items (x ∷ y ∷ z ∷ specs) l r n e f = absurd (omega arith)

few_of : (parts : ℕ) (threads : List ThreadSpec) → All (IsValidThread parts) threads → length (ops_of_thread threads) ≤ 256
few_of parts [] h = omega arith
few_of parts (t ∷ threads) h =
    let few : length t.ops ≤ 256 = (All-head (IsValidThread parts) t threads h).op_count in
    let same : length (map (λ o. o.1) t.ops) ≡ length t.ops = length-map t.ops (λ o. o.1) in
    omega arith

pub few_ops : (scenario : Scenario) → IsValidScenario scenario → length (ops_of_thread scenario.threads) ≤ 256
few_ops scenario valid = few_of (length scenario.parts) scenario.threads valid.threads

pub both_valid : (scenario : Scenario) (l r : PartSpec) → scenario.parts ≡ l ∷ r ∷ [] → IsValidScenario scenario → IsValidPart l × IsValidPart r
both_valid scenario l r e valid =
    let all : All IsValidPart (l ∷ r ∷ []) = subst (All IsValidPart) e valid.parts in
    (All-head IsValidPart l (r ∷ []) all, All-head IsValidPart r [] (All-tail IsValidPart l (r ∷ []) all))

-- ---- the sides

pub new_side : (s t : PartSpec) (blocks : ℕ) (v : DeskView) → s ≡ t → t.class ≡ class.Block → t.blocks ≡ blocks → v ≡ opening_view → IsNewSide s blocks v
new_side s t blocks v e c b o = record {
  class = ap (λ (x : PartSpec). x.class) e ∙ c;
  size = ap (λ (x : PartSpec). x.blocks) e ∙ b;
  alone = subst IsAlone (sym o) new_alone;
  accounts = subst Accounts (sym o) new_accounts;
  seen = ap (λ (x : DeskView). x.seen) o;
}

-- the seats are still alone
pub served_alone : {D : Type 0} (spec : D → PartSpec) (ld rd : D) (ov ow : DeskView) (blocks : ℕ) (ops : List Op) (answers : List MirrorAnswer) (lv rv : DeskView)
    → IsNewSide (spec ld) blocks ov → IsNewSide (spec rd) blocks ow → HasServed spec ld rd ov ow blocks ops answers lv rv → IsAlone lv × IsAlone rv
served_alone spec ld rd ov ow blocks ops answers lv rv l r h =
    let e = exchanged_by spec (new_mirror ld rd ov ow blocks) ops answers h.new h.served in
    let k = exchanged_keeps spec (new_mirror ld rd ov ow blocks) e.exchanges h.new (new_is_mirror spec ld rd ov ow blocks l r) refl e.exchanged in
    (subst IsAlone (sym h.left_is) k.0.left.alone, subst IsAlone (sym h.right_is) k.0.right.alone)

-- ---- what the run leaves

pub whole_run : {D : Type 0} (spec : D → PartSpec) (scenario : Scenario) (l r : PartSpec) (ld rd : D) (ov ow lv rv : DeskView) (answers : List MirrorAnswer)
    (lj rj : Kept Event) (le re : PartEnd) (made : Unheard) → scenario.parts ≡ l ∷ r ∷ [] → spec ld ≡ l → spec rd ≡ r → IsNewSide (spec ld) l.blocks ov → IsNewSide (spec rd) l.blocks ow
    → HasServed spec ld rd ov ow l.blocks (ops_of_thread scenario.threads) answers lv rv
    → IsLeft (spec ld) lv.seen lj le → IsLeft (spec rd) rv.seen rj re
    → made.journals ≡ lj ∷ rj ∷ [] → made.ends ≡ le ∷ re ∷ [] → made.answers ≡ answers → IsWholeRun scenario made
whole_run spec scenario l r ld rd ov ow lv rv answers lj rj le re made parts left_is right_is left_side right_side h hl hr journals ends same =
    let kl : IsLeft l lv.seen lj le = subst (λ (s : PartSpec). IsLeft s lv.seen lj le) left_is hl in
    let kr : IsLeft r rv.seen rj re = subst (λ (s : PartSpec). IsLeft s rv.seen rj re) right_is hr in
    record {
      runs = subst (λ (specs : List PartSpec). AreRuns specs (map events_in made.journals)) (sym parts)
          (subst (λ (js : List (Kept Event)). AreRuns (l ∷ r ∷ []) (map events_in js)) (sym journals) (kl.run, (kr.run, tt)));
      ends = subst (λ (specs : List PartSpec). HaveEnds specs made.journals made.ends) (sym parts)
          (subst (λ (js : List (Kept Event)). HaveEnds (l ∷ r ∷ []) js made.ends) (sym journals)
          (subst (λ (es : List PartEnd). HaveEnds (l ∷ r ∷ []) (lj ∷ rj ∷ []) es) (sym ends) (kl.shows, (kr.shows, tt))));
      mirrored = (
        lj.list,
        rj.list,
        ap (map events_in) journals,
        subst (IsMirrorRun scenario lj.list rj.list) (sym same)
            (mirror_ran spec scenario l r ld rd ov ow lv rv answers lj.list rj.list parts left_is right_is left_side right_side h kl.run kr.run
            kl.goes_on kr.goes_on kl.settled kr.settled),
      );
    }

-- there are at most eight journals
pub few_journals : (scenario : Scenario) (made : Unheard) → IsWholeRun scenario made → length made.journals ≤ 8
few_journals scenario made h =
    let two : length (map events_in made.journals) ≡ 2 = ap (λ (l : List (List Event)). length l) h.mirrored.2 in
    let same : length (map events_in made.journals) ≡ length made.journals = length-map made.journals events_in in
    omega arith

-- ---- what taps heard of a run that is refused

pub heard_nothing : (scenario : Scenario) (taps : List (Tap Listening)) → HearAllOrNothing scenario taps taps
heard_nothing scenario taps = inl refl

pub heard_all : (scenario : Scenario) (made : Unheard) (old new : List (Tap Listening)) → IsWholeRun scenario made
    → new ≡ after_hearing_all (in_parts 0 (map events_in made.journals)) old → HearAllOrNothing scenario old new
heard_all scenario made old new h heard =
    let m = h.mirrored in
    inr (record {
      left = m.0;
      right = m.1;
      answers = made.answers;
      runs = subst (AreRuns scenario.parts) m.2 h.runs;
      mirrored = m.3;
      heard = heard ∙ ap (λ (js : List (List Event)). after_hearing_all (in_parts 0 js) old) m.2;
    })

pub all_ok : {X E : Type 0} (r : Result X E) (P Q R S : X → Type 0) → ((x : X) → P x → Q x → R x → S x) → IfOk r P → IfOk r Q → IfOk r R → IfOk r S
all_ok (Ok x) P Q R S f p q s = f x p q s
all_ok (Err e) P Q R S f p q s = tt
