-- Texts that are written one after another.
use Rattle.std.proofs.Common.{◌≡◌, ℕ, ◌+◌, ◌<◌, ◌≤◌, List, [], ◌++◌, length, drop, refl, sym, ◌∙◌, ap, subst, append_assoc, append-nil, Option, None, Some, Result, Ok, Err, OnOk, OnErr, IsErrOf, get_or, add-one, ◌∷◌, decimal, codes, suc}
use Rattle.std.proofs.lemmas.List.{drop_all}
use Rattle.std.proofs.Math.Seq.{drop-cons}
use Rattle.std.proofs.Math.Nat.{le_refl, le_trans}
use Rattle.std.specs.Io.KnownBytes.{Appends}
use Rattle.nook_io.specs.Causes.{AppendsPrefix, Rose}
use Rattle.nook_io.specs.Changes.{Change, Stream, between}
use Rattle.nook_data.specs.declared.calls.Answer.{Answer}
use Rattle.nook_data.specs.declared.steps.Event.{Event}
use Rattle.report_defs.specs.ReportLines.{answer_text, event_line, event_lines, line_feed, with_number}
use Rattle.nook_data.specs.declared.scenario.ThreadSpec.{ThreadSpec}
use Rattle.report_defs.specs.ReportText.{answer_lines, thread_line, threads_text}
use Rattle.report_text.specs.Answers.{answer_line}
use Rattle.report_text.specs.declared.write.WriteStop.{WriteStop}
use Rattle.report_text.specs.declared.write.WriteStop.TheVariants.{Fault}
use Rattle.report_text.specs.Writing.{Spilled, Wrote, each_text}

-- one text and then another
pub appends_more : (old mid new : Option (List ℕ)) (xs ys : List ℕ) → Appends old mid xs → Appends mid new ys → Appends old new (xs ++ ys)
appends_more None mid new xs ys p q = tt
appends_more (Some a) None new xs ys p q = absurd p
appends_more (Some a) (Some b) None xs ys p q = absurd q
appends_more (Some a) (Some b) (Some c) xs ys p q = q ∙ (ap (λ front. front ++ ys) p ∙ append_assoc a xs ys)

-- known bytes that stay the same gain the empty text
pub appends_nothing : (held : Option (List ℕ)) → Appends held held []
appends_nothing None = tt
appends_nothing (Some xs) = sym (append-nil xs)

-- an equal text
pub appends_whole : (old new : Option (List ℕ)) (xs ys : List ℕ) → Appends old new xs → xs ≡ ys → Appends old new ys
appends_whole None new xs ys p e = tt
appends_whole (Some a) None xs ys p e = absurd p
appends_whole (Some a) (Some b) xs ys p e = p ∙ ap (λ more. a ++ more) e

-- one text and then a prefix of another
pub prefix_more : (old mid new : Option (List ℕ)) (xs ys : List ℕ) → Appends old mid xs → AppendsPrefix mid new ys → AppendsPrefix old new (xs ++ ys)
prefix_more old mid new xs ys p q = record {
  front = xs ++ q.front;
  rest = q.rest;
  gained = appends_more old mid new xs q.front p q.gained;
  whole = append_assoc xs q.front q.rest ∙ ap (λ more. xs ++ more) q.whole;
}

-- a prefix of one text is a prefix of it followed by another
pub prefix_longer : (old new : Option (List ℕ)) (xs ys : List ℕ) → AppendsPrefix old new xs → AppendsPrefix old new (xs ++ ys)
prefix_longer old new xs ys p = record {
  front = p.front;
  rest = p.rest ++ ys;
  gained = p.gained;
  whole = sym (append_assoc p.front p.rest ys) ∙ ap (λ more. more ++ ys) p.whole;
}

-- a prefix of an equal text
prefix_whole : (old new : Option (List ℕ)) (xs ys : List ℕ) → AppendsPrefix old new xs → xs ≡ ys → AppendsPrefix old new ys
prefix_whole old new xs ys p e = record { front = p.front; rest = p.rest; gained = p.gained; whole = p.whole ∙ e }

-- a count that rose, from an equal earlier count
pub rose_from : (a b c : ℕ) → b ≡ a → Rose b c → Rose a c
rose_from a b c e q = subst (λ n. Rose n c) e q

pub on_ok : {U E : Type 0} {P Q : Type 0} (r : Result U E) → (P → Q) → OnOk r P → OnOk r Q
on_ok (Ok v) f p = f p
on_ok (Err e) f p = tt

pub on_err : {U E : Type 0} {P Q : Type 0} (r : Result U E) → (P → Q) → OnErr r P → OnErr r Q
on_err (Ok v) f p = tt
on_err (Err e) f p = f p

-- one text was written, and then another
pub both : {T U : Type 0} {a b c : Stream} {v : T} {r : Result U WriteStop} {x y : List ℕ} →
    Wrote (between a b) (Ok v) x → Wrote (between b c) r y → Wrote (between a c) r (x ++ y)
both {a = a} {b = b} {c = c} {r = r} {x = x} {y = y} p q = record {
  ok = on_ok r (λ h. appends_more a.contents b.contents c.contents x y p.ok h) q.ok;
  err = on_err r (λ h. prefix_more a.contents b.contents c.contents x y p.ok h) q.err;
  later = le_trans p.later q.later;
  fault = λ e. rose_from a.errors b.errors c.errors p.kept (q.fault e);
  kept = on_ok r (λ h. h ∙ p.kept) q.kept;
  no_memory = λ e. q.no_memory e ∙ p.kept;
}

-- a text was not written completely, and so nothing after it
pub cut : {T : Type 0} {sink : Change} {e : WriteStop} {x : List ℕ} (y : List ℕ) →
    Wrote {T = T} sink (Err e) x → Wrote {T = T} sink (Err e) (x ++ y)
cut {sink = sink} {x = x} y p = record {
  ok = tt;
  err = prefix_longer sink.before.contents sink.after.contents x y p.err;
  later = p.later;
  fault = p.fault;
  kept = tt;
  no_memory = p.no_memory;
}

-- how far items have been written: a prefix of the whole text, without an I/O error, and the rest remains
pub record Progress (sink : Change) (rest whole : List ℕ) : Type 0 where
  pub front : List ℕ
  pub gained : Appends sink.before.contents sink.after.contents front
  pub parts : front ++ rest ≡ whole
  pub kept : sink.after.errors ≡ sink.before.errors

pub progress_start : (sink : Stream) (whole : List ℕ) → Progress (between sink sink) whole whole
progress_start sink whole = record { front = []; gained = appends_nothing sink.contents; parts = refl; kept = refl }

pub progress_step : {T : Type 0} {v : T} {a b c : Stream} {x rest whole : List ℕ} →
    Progress (between a b) (x ++ rest) whole → Wrote (between b c) (Ok v) x → Progress (between a c) rest whole
progress_step {a = a} {b = b} {c = c} {x = x} {rest = rest} p q = record {
  front = p.front ++ x;
  gained = appends_more a.contents b.contents c.contents p.front x p.gained q.ok;
  parts = append_assoc p.front x rest ∙ p.parts;
  kept = q.kept ∙ p.kept;
}

pub progress_stop : {T : Type 0} {e : WriteStop} {a b c : Stream} {x whole : List ℕ} (rest : List ℕ) →
    Progress (between a b) (x ++ rest) whole → Wrote {T = T} (between b c) (Err e) x → Wrote {T = T} (between a c) (Err e) whole
progress_stop {a = a} {b = b} {c = c} {x = x} rest p q =
    let more = prefix_more a.contents b.contents c.contents p.front x p.gained q.err in
    let longer = prefix_longer a.contents c.contents (p.front ++ x) rest more in record {
      ok = tt;
      err = record { front = longer.front; rest = longer.rest; gained = longer.gained; whole = longer.whole ∙ (append_assoc p.front x rest ∙ p.parts) };
      later = subst (λ n. n ≤ c.errors) p.kept q.later;
      fault = λ e. rose_from a.errors b.errors c.errors p.kept (q.fault e);
      kept = tt;
      no_memory = λ e. q.no_memory e ∙ p.kept;
    }

-- nothing more is written
pub progress_halt : {T : Type 0} {e : WriteStop} {sink : Change} {rest whole : List ℕ} →
    Progress sink rest whole → (IsErrOf {T = T} (Err e) Fault → Rose sink.before.errors sink.after.errors) → Wrote {T = T} sink (Err e) whole
progress_halt {sink = sink} {rest = rest} p f = record {
  ok = tt;
  err = record { front = p.front; rest = rest; gained = p.gained; whole = p.parts };
  later = subst (λ n. sink.before.errors ≤ n) (sym p.kept) (le_refl sink.before.errors);
  fault = f;
  kept = tt;
  no_memory = λ e. p.kept;
}

-- the contents of the buffer end the text
pub progress_last : {T : Type 0} {r : Result T WriteStop} {a b c : Stream} {held rest whole : List ℕ} →
    Progress (between a b) (held ++ rest) whole → rest ≡ [] → Wrote (between b c) r held → Wrote (between a c) r whole
progress_last {r = r} {a = a} {b = b} {c = c} {held = held} {rest = rest} {whole = whole} p e q =
    let none : held ≡ held ++ rest = sym (ap (λ t. held ++ t) e ∙ append-nil held) in
    let all : p.front ++ held ≡ whole = ap (λ t. p.front ++ t) none ∙ p.parts in record {
      ok = on_ok r
          (λ h. appends_whole a.contents c.contents (p.front ++ held) whole (appends_more a.contents b.contents c.contents p.front held p.gained h) all) q.ok;
      err = on_err r
          (λ h. prefix_whole a.contents c.contents (p.front ++ held) whole (prefix_more a.contents b.contents c.contents p.front held p.gained h) all) q.err;
      later = subst (λ n. n ≤ c.errors) p.kept q.later;
      fault = λ e. rose_from a.errors b.errors c.errors p.kept (q.fault e);
      kept = on_ok r (λ h. h ∙ p.kept) q.kept;
      no_memory = λ e. q.no_memory e ∙ p.kept;
    }

held_first : (held x line rest : List ℕ) → line ≡ held ++ x → line ++ rest ≡ held ++ (x ++ rest)
held_first held x line rest e = ap (λ t. t ++ rest) e ∙ append_assoc held x rest

-- a line was appended to the buffer, which was spilled
pub spill_step : {T : Type 0} {v : T} {a b c : Stream} {line left whole : List ℕ} (held x rest : List ℕ) →
    Progress (between a b) (held ++ (x ++ rest)) whole → line ≡ held ++ x → Spilled (between b c) (Ok v) line left → Progress (between a c) (left ++ rest) whole
spill_step {a = a} {b = b} {c = c} {line = line} {left = left} held x rest p e q =
    let f = q.ok.front in record {
      front = p.front ++ f;
      gained = appends_more a.contents b.contents c.contents p.front f p.gained q.ok.gained;
      parts =
          append_assoc p.front f (left ++ rest)
          ∙ (ap (λ t. p.front ++ t) (sym (append_assoc f left rest) ∙ (ap (λ t. t ++ rest) q.ok.whole ∙ held_first held x line rest e))
          ∙ p.parts);
      kept = q.kept ∙ p.kept;
    }

pub spill_stop : {T : Type 0} {e : WriteStop} {a b c : Stream} {line left whole : List ℕ} (held x rest : List ℕ) →
    Progress (between a b) (held ++ (x ++ rest)) whole → line ≡ held ++ x → Spilled {T = T} (between b c) (Err e) line left
    → Wrote {T = T} (between a c) (Err e) whole
spill_stop {line = line} held x rest p e q =
    progress_stop rest
    (record { front = p.front; gained = p.gained; parts = ap (λ t. p.front ++ t) (held_first held x line rest e) ∙ p.parts; kept = p.kept })
    (record { ok = tt; err = q.err; later = q.later; fault = q.fault; kept = tt; no_memory = q.no_memory })

-- the remaining texts of items begin with the next one's
pub next_text : {T : Type 0} (text : ℕ → T → List ℕ) (items : List T) (i number : ℕ) (item : T) → i < length items → item ≡ get_or items i item →
    each_text text number (drop i items) ≡ text number item ++ each_text text (number + 1) (drop (i + 1) items)
next_text text items i number item h e = rw (drop-cons items i item h, add-one number, add-one i, sym e) refl

-- no text remains after the last one
pub no_text : {T : Type 0} (text : ℕ → T → List ℕ) (items : List T) (i number : ℕ) → length items ≤ i → each_text text number (drop i items) ≡ []
no_text text items i number h = ap (each_text text number) (drop_all i items h)

-- the lines of events, one by one
pub event_lines_each : (number : ℕ) (events : List Event) → event_lines number events ≡ each_text event_line number events
unfolding event_lines
event_lines_each number [] = refl
event_lines_each number (e ∷ events) = ap (λ more. event_line number e ++ more) (event_lines_each (suc number) events)

pub five : (a b c d e rest : List ℕ) → (a ++ (b ++ (c ++ (d ++ e)))) ++ rest ≡ a ++ (b ++ (c ++ (d ++ (e ++ rest))))
five a b c d e rest =
    append_assoc a (b ++ (c ++ (d ++ e))) rest
    ∙ ap (λ t. a ++ t) (append_assoc b (c ++ (d ++ e)) rest
    ∙ ap (λ t. b ++ t) (append_assoc c (d ++ e) rest
    ∙ ap (λ t. c ++ t) (append_assoc d e rest)))

-- the lines of answers, one by one
pub answer_lines_each : (number : ℕ) (answers : List (ℕ × Answer)) → answer_lines number answers ≡ each_text answer_line number answers
answer_lines_each number [] = refl
answer_lines_each number (a ∷ answers) =
    rw (answer_lines_each (suc number) answers)
    (sym (five (decimal number) (with_number (codes " p") a.0) (codes " ") (answer_text a.1) line_feed (each_text answer_line (suc number) answers)))

-- nothing was to be written, and nothing was
pub wrote_nothing : {T : Type 0} (sink : Stream) (v : T) (text : List ℕ) → text ≡ [] → Wrote (between sink sink) (Ok v) text
wrote_nothing sink v text e = rw e record {
  ok = appends_nothing sink.contents;
  err = tt;
  later = le_refl sink.errors;
  fault = λ e. cc;
  kept = refl;
  no_memory = λ e. refl;
}

-- the first thread's lines and the others'
pub threads_first : (number : ℕ) (threads : List ThreadSpec) (answers : List (List (ℕ × Answer))) (t : ThreadSpec) (own : List (ℕ × Answer))
    (more_threads : List ThreadSpec) (more_answers : List (List (ℕ × Answer))) →
    threads ≡ t ∷ more_threads → answers ≡ own ∷ more_answers →
    threads_text number threads answers ≡ thread_line number t ++ (answer_lines 1 own ++ threads_text (number + 1) more_threads more_answers)
unfolding threads_text
threads_first number threads answers t own more_threads more_answers e f = rw (e, f, add-one number) refl
