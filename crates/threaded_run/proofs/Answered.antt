-- The answers of a run by threads are those of the scripts' operations, in order.
use Rattle.std.proofs.Common.{◌≡◌, ℕ, suc, ◌+◌, ◌<◌, ◌≤◌, List, [], ◌∷◌, ◌++◌, length, map, drop, get_or, refl, sym, ap, ◌∙◌, arith, add-one, append_assoc, drop-cons}
use Rattle.nook_data.specs.declared.calls.Answer.{Answer}
use Rattle.nook_data.specs.declared.steps.Event.{Event}
use Rattle.nook_data.specs.declared.calls.Op.{Op}
use Rattle.nook_data.specs.declared.desks.Receipt.{Receipt}
use Rattle.nook_data.specs.declared.scenario.Scenario.{Scenario}
use Rattle.nook_data.specs.declared.scenario.ThreadSpec.{ThreadSpec}
use Rattle.nook_data.specs.Valid.{IsValidScenario}
use Rattle.std.proofs.lemmas.List.{length-map}
use Rattle.threaded_run.specs.declared.running.Unheard.{Unheard}
use Rattle.run_results.specs.Journals.{events_in}
use Rattle.threaded_run.proofs.Leaving.{count_left}
use Rattle.threaded_run.specs.Leaving.{answers_in}
use Rattle.threaded_run.specs.Threaded.{AreAnswered, AreServed, HaveReceipts, IsThreaded, answers_by}
use Rattle.threaded_run.specs.Unheard.{IsWholeRun}

parts_by : (journals : List (List Event)) (thread : ℕ) (ops : List (ℕ × Op)) (receipts : List Receipt) → HaveReceipts journals thread ops receipts
    → map (λ a. a.0) (answers_by ops receipts) ≡ map (λ o. o.0) ops
parts_by journals thread [] receipts h = refl
parts_by journals thread (o ∷ ops) [] h = absurd h
parts_by journals thread ((part, op) ∷ ops) (receipt ∷ receipts) h = ap (λ xs. part ∷ xs) (parts_by journals thread ops receipts h.1)

parts_served : (journals : List (List Event)) (thread : ℕ) (threads : List ThreadSpec) (table : List (List (ℕ × Answer)))
    → AreServed journals thread threads table → map (λ own. map (λ a. a.0) own) table ≡ map (λ t. map (λ o. o.0) t.ops) threads
parts_served journals thread [] [] h = refl
parts_served journals thread [] (answers ∷ table) h = absurd h
parts_served journals thread (t ∷ threads) [] h = absurd h
parts_served journals thread (t ∷ threads) (answers ∷ table) h =
    let first : map (λ a. a.0) answers ≡ map (λ o. o.0) t.ops =
    ap (map (λ a. a.0)) h.0.same ∙ parts_by journals thread t.ops h.0.receipts h.0.have in
    let rest = parts_served journals (suc thread) threads table h.1 in
    cc

pub threaded_answered : (scenario : Scenario) (journals : List (List Event)) (answers : List (List (ℕ × Answer))) → IsThreaded scenario journals answers
    → AreAnswered scenario answers
threaded_answered scenario journals answers h = parts_served journals 0 scenario.threads answers h.served

-- there are at most eight journals
pub few_journals : (scenario : Scenario) (left : Unheard) → IsValidScenario scenario → IsWholeRun scenario left → length left.journals ≤ 8
few_journals scenario left valid h =
    let same : length (map events_in left.journals) ≡ length scenario.parts = count_left scenario.parts (map events_in left.journals) h.runs in
    let few : length scenario.parts ≤ 8 = valid.part_count.1 in
    omega (arith, length-map left.journals events_in)

-- ---- two lists, item by item

module _ {X Y Z : Type 0} (f : X → Y → Z) (zip : List X → List Y → List Z)
    (zip_some : (x : X) (xs : List X) (y : Y) (ys : List Y) → zip (x ∷ xs) (y ∷ ys) ≡ f x y ∷ zip xs ys) (zip_none : (xs : List X) → zip xs [] ≡ []) where
  pub zipped_more : (i : ℕ) (xs : List X) (x : X) (y : Y) (olds news : List Y) (made more all : List Z) → i < length xs → x ≡ get_or xs i x
      → olds ≡ y ∷ news → more ≡ made ++ f x y ∷ [] → made ++ zip (drop i xs) olds ≡ all → more ++ zip (drop (i + 1) xs) news ≡ all
  zipped_more i xs x y olds news made more all within is o m before =
      let front : drop i xs ≡ x ∷ drop (i + 1) xs
      = drop-cons xs i x within ∙ ap (λ z. z ∷ drop (suc i) xs) (sym is) ∙ ap (λ (n : ℕ). x ∷ drop n xs) (sym (add-one i)) in
      ap (λ zs. zs ++ zip (drop (i + 1) xs) news) m
      ∙ append_assoc made (f x y ∷ []) (zip (drop (i + 1) xs) news)
      ∙ ap (λ zs. made ++ zs) (sym (zip_some x (drop (i + 1) xs) y news))
      ∙ ap (λ zs. made ++ zip zs (y ∷ news)) (sym front)
      ∙ ap (λ ys. made ++ zip (drop i xs) ys) (sym o)
      ∙ before

  pub zipped_none : (i : ℕ) (xs : List X) (m : ℕ) (olds news : List Y) (made all : List Z) → m ≡ length olds → m ≡ 0 → olds ≡ news
      → made ++ zip (drop i xs) olds ≡ all → made ++ zip (drop (i + 1) xs) news ≡ all
  zipped_none i xs m (y ∷ olds) news made all e z o before = absurd (let h : m ≡ suc (length olds) = e in omega arith)
  zipped_none i xs m [] news made all e z o before =
      ap (λ ys. made ++ zip (drop (i + 1) xs) ys) (sym o)
      ∙ ap (λ zs. made ++ zs) (zip_none (drop (i + 1) xs) ∙ sym (zip_none (drop i xs)))
      ∙ before

pub by_none : (ops : List (ℕ × Op)) → answers_by ops [] ≡ []
by_none [] = refl
by_none (o ∷ ops) = refl

pub in_none : (threads : List ThreadSpec) → answers_in threads [] ≡ []
in_none [] = refl
in_none (t ∷ threads) = refl
