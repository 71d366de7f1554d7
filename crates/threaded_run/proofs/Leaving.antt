-- What the parts leave, as facts about each part.
use Rattle.std.proofs.Common.{◌≡◌, ℕ, zero, suc, Bool, false, List, [], ◌∷◌, ◌++◌, filter, length, map, refl, sym, ap, ◌∙◌, append-nil}
use Rattle.std.specs.List.{AllByRecursion}
use Rattle.std.proofs.lemmas.List.Elements.{filter-append}
use mathlib.Core.List.{IsPrefix}
use Rattle.desk_like.specs.Desks.{IsOther}
use Rattle.nook_data.specs.declared.steps.Event.{Event}
use Rattle.nook_data.specs.declared.steps.Event.TheVariants as event
use Rattle.nook_data.specs.declared.scenario.PartSpec.{PartSpec}
use Rattle.nook_data.specs.declared.scenario.ThreadSpec.{ThreadSpec}
use Rattle.nook_data.specs.Views.Room.{Kept}
use Rattle.run_results.specs.declared.report.PartEnd.{PartEnd}
use Rattle.run_results.specs.Reports.{HaveEnds}
use Rattle.run_results.specs.Journals.{AreRuns, events_in}
use Rattle.threaded_run.proofs.Growing.{arrivals_grown}
use Rattle.threaded_run.proofs.Numbered.{left_out}
use Rattle.threaded_run.specs.Leaving.{AreLeft, GoesOn}
use Rattle.part_laws.specs.Bound.{is_arrival}
use Rattle.threaded_run.specs.Others.{HaveNoOthers, is_invocation_by}
use Rattle.threaded_run.specs.Threaded.{AreSettled, HaveArrivals, journal_at}

prefix_of : (seen journal : List Event) → GoesOn seen journal → IsPrefix seen journal
prefix_of seen journal h = (h.rest, h.begins)

pub runs_left : (specs : List PartSpec) (seens : List (List Event)) (journals : List (Kept Event)) (ends : List PartEnd)
    → AreLeft specs seens journals ends → AreRuns specs (map events_in journals)
runs_left [] [] [] [] h = tt
runs_left [] [] [] (end ∷ ends) h = absurd h
runs_left [] [] (journal ∷ journals) ends h = absurd h
runs_left [] (seen ∷ seens) journals ends h = absurd h
runs_left (spec ∷ specs) [] journals ends h = absurd h
runs_left (spec ∷ specs) (seen ∷ seens) [] ends h = absurd h
runs_left (spec ∷ specs) (seen ∷ seens) (journal ∷ journals) [] h = absurd h
runs_left (spec ∷ specs) (seen ∷ seens) (journal ∷ journals) (end ∷ ends) h =
    (h.0.run, runs_left specs seens journals ends h.1)

pub ends_left : (specs : List PartSpec) (seens : List (List Event)) (journals : List (Kept Event)) (ends : List PartEnd)
    → AreLeft specs seens journals ends → HaveEnds specs journals ends
ends_left [] [] [] [] h = tt
ends_left [] [] [] (end ∷ ends) h = absurd h
ends_left [] [] (journal ∷ journals) ends h = absurd h
ends_left [] (seen ∷ seens) journals ends h = absurd h
ends_left (spec ∷ specs) [] journals ends h = absurd h
ends_left (spec ∷ specs) (seen ∷ seens) [] ends h = absurd h
ends_left (spec ∷ specs) (seen ∷ seens) (journal ∷ journals) [] h = absurd h
ends_left (spec ∷ specs) (seen ∷ seens) (journal ∷ journals) (end ∷ ends) h =
    (h.0.shows, ends_left specs seens journals ends h.1)

pub settled_left : (specs : List PartSpec) (seens : List (List Event)) (journals : List (Kept Event)) (ends : List PartEnd)
    → AreLeft specs seens journals ends → AreSettled specs (map events_in journals)
settled_left [] [] [] [] h = tt
settled_left [] [] [] (end ∷ ends) h = absurd h
settled_left [] [] (journal ∷ journals) ends h = absurd h
settled_left [] (seen ∷ seens) journals ends h = absurd h
settled_left (spec ∷ specs) [] journals ends h = absurd h
settled_left (spec ∷ specs) (seen ∷ seens) [] ends h = absurd h
settled_left (spec ∷ specs) (seen ∷ seens) (journal ∷ journals) [] h = absurd h
settled_left (spec ∷ specs) (seen ∷ seens) (journal ∷ journals) (end ∷ ends) h =
    (h.0.settled, settled_left specs seens journals ends h.1)

pub arrivals_left : (specs : List PartSpec) (seens : List (List Event)) (journals : List (Kept Event)) (ends : List PartEnd)
    → AreLeft specs seens journals ends → HaveArrivals specs seens → HaveArrivals specs (map events_in journals)
arrivals_left [] [] [] [] h a = tt
arrivals_left [] [] [] (end ∷ ends) h a = absurd h
arrivals_left [] [] (journal ∷ journals) ends h a = absurd h
arrivals_left [] (seen ∷ seens) journals ends h a = absurd h
arrivals_left (spec ∷ specs) [] journals ends h a = absurd h
arrivals_left (spec ∷ specs) (seen ∷ seens) [] ends h a = absurd h
arrivals_left (spec ∷ specs) (seen ∷ seens) (journal ∷ journals) [] h a = absurd h
arrivals_left (spec ∷ specs) (seen ∷ seens) (journal ∷ journals) (end ∷ ends) h a =
    (arrivals_grown seen journal.list spec.arrivals (prefix_of seen journal.list h.0.goes_on) a.0, arrivals_left specs seens journals ends h.1 a.1)

other_invokes : (thread : ℕ) (e : Event) → IsOther e → is_invocation_by thread e ≡ false
other_invokes thread (event.Invoke call t o a) h = absurd h
other_invokes thread (event.Enter call t attempt a) h = refl
other_invokes thread (event.Burst context call burst count end acts a failure) h = refl
other_invokes thread (event.Stage stage answers released) h = refl
other_invokes thread (event.Arrive frame kept) h = refl

other_arrives : (e : Event) → IsOther e → is_arrival e ≡ false
other_arrives (event.Invoke call t o a) h = refl
other_arrives (event.Enter call t attempt a) h = refl
other_arrives (event.Burst context call burst count end acts a failure) h = refl
other_arrives (event.Stage stage answers released) h = refl
other_arrives (event.Arrive frame kept) h = absurd h

none_pass : (test : Event → Bool) (events : List Event) → ((e : Event) → IsOther e → test e ≡ false) → AllByRecursion IsOther events → filter test events ≡ []
none_pass test [] fails h = refl
none_pass test (e ∷ events) fails h = left_out test e events (fails e h.0) ∙ none_pass test events fails h.1

-- the events that continue the journal are none of these
as_many : (test : Event → Bool) (seen journal : List Event) → ((e : Event) → IsOther e → test e ≡ false) → GoesOn seen journal
    → length (filter test journal) ≡ length (filter test seen)
as_many test seen journal fails h =
    ap (λ (xs : List Event). length (filter test xs)) (sym h.begins)
    ∙ ap length (filter-append test seen h.rest ∙ ap (λ (xs : List Event). filter test seen ++ xs) (none_pass test h.rest fails h.others) ∙ append-nil (filter test seen))

pub no_others_left : (threads : List ThreadSpec) (index : ℕ) (specs : List PartSpec) (seens : List (List Event)) (journals : List (Kept Event)) (ends : List PartEnd)
    → AreLeft specs seens journals ends → HaveNoOthers threads index specs seens → HaveNoOthers threads index specs (map events_in journals)
no_others_left threads index [] [] [] [] h n = tt
no_others_left threads index [] [] [] (end ∷ ends) h n = absurd h
no_others_left threads index [] [] (journal ∷ journals) ends h n = absurd h
no_others_left threads index [] (seen ∷ seens) journals ends h n = absurd h
no_others_left threads index (spec ∷ specs) [] journals ends h n = absurd h
no_others_left threads index (spec ∷ specs) (seen ∷ seens) [] ends h n = absurd h
no_others_left threads index (spec ∷ specs) (seen ∷ seens) (journal ∷ journals) [] h n = absurd h
no_others_left threads index (spec ∷ specs) (seen ∷ seens) (journal ∷ journals) (end ∷ ends) h n = (
  record {
    invoked = λ thread. as_many (is_invocation_by thread) seen journal.list (other_invokes thread) h.0.goes_on ∙ n.0.invoked thread;
    arrived = as_many is_arrival seen journal.list other_arrives h.0.goes_on ∙ n.0.arrived;
  },
  no_others_left threads (suc index) specs seens journals ends h.1 n.1,
)

-- what was seen of each part is a prefix of its journal
pub begin_left : (specs : List PartSpec) (seens : List (List Event)) (journals : List (Kept Event)) (ends : List PartEnd)
    → AreLeft specs seens journals ends → (part : ℕ) → IsPrefix (journal_at seens part) (journal_at (map events_in journals) part)
begin_left [] [] [] [] h part = ([], refl)
begin_left [] [] [] (end ∷ ends) h part = absurd h
begin_left [] [] (journal ∷ journals) ends h part = absurd h
begin_left [] (seen ∷ seens) journals ends h part = absurd h
begin_left (spec ∷ specs) [] journals ends h part = absurd h
begin_left (spec ∷ specs) (seen ∷ seens) [] ends h part = absurd h
begin_left (spec ∷ specs) (seen ∷ seens) (journal ∷ journals) [] h part = absurd h
begin_left (spec ∷ specs) (seen ∷ seens) (journal ∷ journals) (end ∷ ends) h zero = prefix_of seen journal.list h.0.goes_on
begin_left (spec ∷ specs) (seen ∷ seens) (journal ∷ journals) (end ∷ ends) h (suc part) = begin_left specs seens journals ends h.1 part

-- there are as many journals as parts
pub count_left : (specs : List PartSpec) (journals : List (List Event)) → AreRuns specs journals → length journals ≡ length specs
count_left [] [] h = refl
count_left [] (journal ∷ journals) h = absurd h
count_left (spec ∷ specs) [] h = absurd h
count_left (spec ∷ specs) (journal ∷ journals) h = ap suc (count_left specs journals h.1)
