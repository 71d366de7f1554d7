-- What an audit keeps of the finished sections, when one more is over.
use Rattle.std.proofs.Common.{◌≡◌, ◌<◌, ◌≤◌, ℕ, suc, ◌+◌, ◌||◌, Bool, true, false, is_some, List, [], ◌∷◌, ◌++◌, length, drop, get_or, map, refl, sym, ap, ◌∙◌, add-one, add-zero, append-nil, append_assoc, length-append, arith}
use Rattle.std.proofs.Math.Bool.{or-false}
use Rattle.std.proofs.Math.ListN.{drop_of_length-le}
use Rattle.std.proofs.Math.Seq.{drop-cons}
use Rattle.std.proofs.lemmas.List.{map-append}
use Rattle.run_laws.specs.Audit.{Done, Section, done_of, each_of_part, journal_in, own_listeners, published_in}
use Rattle.promise_defs.specs.Contract.{first_break}
use Rattle.nook_io.specs.Listening.{Listening}
use Rattle.report_defs.specs.ReportText.{has_break, has_given_up}
use Rattle.part_defs.specs.Runs.{state_of}
use Rattle.run_defs.specs.Simulation.{answers_of_thread}
use Rattle.part_defs.specs.Stages.{is_given_up}
use Rattle.nook_data.specs.declared.steps.Event.{Event}
use Rattle.nook_data.specs.declared.scenario.PartSpec.{PartSpec}
use Rattle.request_taps.specs.Bus.{settled, after_hearing, after_hearing_all}
use Rattle.request_taps.specs.declared.tap.Tap.{Tap}
use Rattle.journal_audit.specs.PastSections.{SumsUp, Past, answers_in}

-- ---- listeners

-- the next event is heard
pub heard_next : (part i : ℕ) (e : Event) (events : List Event) (taps : List (Tap Listening)) → i < length events → e ≡ get_or events i e
    → after_hearing_all (each_of_part part (drop i events)) taps ≡ after_hearing_all (each_of_part part (drop (i + 1) events)) (map (after_hearing part e) taps)
unfolding after_hearing_all
heard_next part i e events taps less is = rw (add-one i, drop-cons events i e less, ← is) refl

-- no event is left
pub heard_none : (part i : ℕ) (events : List Event) (taps : List (Tap Listening)) → length events ≤ i
    → after_hearing_all (each_of_part part (drop i events)) taps ≡ taps
unfolding after_hearing_all
heard_none part i events taps most = rw (drop_of_length-le events {i = i} most) refl

heard_both : (xs ys : List (ℕ × Event)) (taps : List (Tap Listening)) → after_hearing_all (xs ++ ys) taps ≡ after_hearing_all ys (after_hearing_all xs taps)
unfolding after_hearing_all
heard_both [] ys taps = refl
heard_both (e ∷ xs) ys taps = heard_both xs ys (map (after_hearing e.0 e.1) taps)

published_back : (part : ℕ) (sections : List Done) (d : Done)
    → published_in part (sections ++ d ∷ []) ≡ published_in part sections ++ each_of_part (part + length sections) d.journal
published_back part [] d = rw (add-zero part) (append-nil (each_of_part part d.journal))
published_back part (x ∷ sections) d =
    let n : suc part + length sections ≡ part + suc (length sections) = omega arith in
    rw (published_back (suc part) sections d, n)
    (sym (append_assoc (each_of_part part x.journal) (published_in (suc part) sections) (each_of_part (part + suc (length sections)) d.journal)))

heard_back : (sections : List Done) (d : Done) (index : ℕ) (taps : List (Tap Listening)) → 0 + length sections ≡ index
    → taps ≡ after_hearing_all (published_in 0 sections) (map settled own_listeners)
    → after_hearing_all (each_of_part index d.journal) taps ≡ after_hearing_all (published_in 0 (sections ++ d ∷ [])) (map settled own_listeners)
heard_back sections d index taps h e =
    ap (after_hearing_all (each_of_part index d.journal)) e
    ∙ (sym (heard_both (published_in 0 sections) (each_of_part index d.journal) (map settled own_listeners))
    ∙ ap (λ xs. after_hearing_all xs (map settled own_listeners))
    (ap (λ n. published_in 0 sections ++ each_of_part n d.journal) (sym h) ∙ sym (published_back 0 sections d)))

-- ---- breaks and failures

or_assoc : (a b c : Bool) → a || (b || c) ≡ (a || b) || c
or_assoc true b c = refl
or_assoc false b c = refl

break_back : (specs : List PartSpec) (s : PartSpec) (sections : List Done) (d : Done) → length sections ≡ length specs
    → has_break (specs ++ s ∷ []) (map journal_in (sections ++ d ∷ []))
    ≡ has_break specs (map journal_in sections) || is_some (first_break s.class s.blocks d.journal)
unfolding has_break
break_back [] s [] d h = or-false (is_some (first_break s.class s.blocks d.journal))
break_back [] s (x ∷ sections) d h = absurd (cc)
break_back (r ∷ specs) s [] d h = absurd (cc)
break_back (r ∷ specs) s (x ∷ sections) d h =
    rw (break_back specs s sections d (omega arith))
    (or_assoc (is_some (first_break r.class r.blocks x.journal)) (has_break specs (map journal_in sections)) (is_some (first_break s.class s.blocks d.journal)))

given_up_back : (specs : List PartSpec) (s : PartSpec) (sections : List Done) (d : Done) → length sections ≡ length specs
    → has_given_up (specs ++ s ∷ []) (map journal_in (sections ++ d ∷ []))
    ≡ has_given_up specs (map journal_in sections) || is_given_up (state_of s d.journal)
unfolding has_given_up
given_up_back [] s [] d h = or-false (is_given_up (state_of s d.journal))
given_up_back [] s (x ∷ sections) d h = absurd (cc)
given_up_back (r ∷ specs) s [] d h = absurd (cc)
given_up_back (r ∷ specs) s (x ∷ sections) d h =
    rw (given_up_back specs s sections d (omega arith))
    (or_assoc (is_given_up (state_of r x.journal)) (has_given_up specs (map journal_in sections)) (is_given_up (state_of s d.journal)))

-- ---- one more section

-- what there is after one more section
pub record Adds (s : Section) (old new : Past) : Type 0 where
  pub answers : new.answers ≡ old.answers ++ map answers_of_thread s.threads ∷ []
  pub journals : new.journals ≡ old.journals ++ s.seat.run.journal ∷ []
  pub taps : new.taps ≡ after_hearing_all (each_of_part s.index s.seat.run.journal) old.taps
  pub broken : new.broken ≡ old.broken || is_some (first_break s.spec.class s.spec.blocks s.seat.run.journal)
  pub given_up : new.given_up ≡ old.given_up || is_given_up (state_of s.spec s.seat.run.journal)

pub kept : (specs : List PartSpec) (sections : List Done) (s : Section) (old new : Past) → length specs ≡ s.index
    → SumsUp specs sections old → Adds s old new → SumsUp (specs ++ s.spec ∷ []) (sections ++ done_of s ∷ []) new
kept specs sections s old new index sums adds =
    let part : length sections ≡ s.index = sums.many ∙ index in
    let from_zero : 0 + length sections ≡ s.index = omega arith in
    record {
      many = omega (arith, length-append sections (done_of s ∷ []), length-append specs (s.spec ∷ []));
      answers = adds.answers ∙ ap (λ l. l ++ map answers_of_thread s.threads ∷ []) sums.answers ∙ sym (map-append answers_in sections (done_of s ∷ []));
      journals = adds.journals ∙ ap (λ l. l ++ s.seat.run.journal ∷ []) sums.journals ∙ sym (map-append journal_in sections (done_of s ∷ []));
      taps = adds.taps ∙ heard_back sections (done_of s) s.index old.taps from_zero sums.taps;
      broken = adds.broken ∙ ap (λ b. b || is_some (first_break s.spec.class s.spec.blocks s.seat.run.journal)) sums.broken
          ∙ sym (break_back specs s.spec sections (done_of s) sums.many);
      given_up = adds.given_up ∙ ap (λ b. b || is_given_up (state_of s.spec s.seat.run.journal)) sums.given_up
          ∙ sym (given_up_back specs s.spec sections (done_of s) sums.many);
    }

pub or_same : {a b c d : Bool} → a ≡ b → c ≡ d → a || c ≡ b || d
or_same e f = cc
