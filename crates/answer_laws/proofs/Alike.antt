-- Whether two outcomes are equal is decidable.
use Rattle.std.proofs.Common.{◌≡◌, ◌⊎◌, inl, inr, ℕ, ◌==◌, if◌then◌else◌, true, false, Option, Some, None, List, [], ◌∷◌, refl, sym, ap, ap₂, ◌∙◌}
use Rattle.std.proofs.lemmas.Bool.{cases_eq}
use Rattle.explore_defs.specs.declared.outcome.Outcome.{Outcome}
use Rattle.explore_defs.specs.declared.outcome.PartOutcome.{PartOutcome}
use Rattle.nook_data.specs.Types.{Act, Answer, Losses, Stage}
use Rattle.nook_data.specs.declared.calls.Answer.TheVariants as answered
use Rattle.nook_data.specs.declared.machine.Act.TheVariants as act
use Rattle.nook_data.specs.declared.steps.Stage.TheVariants as stages

-- ---- lists, pairs and options

-- it is decidable whether two of its values are equal
abbrev pub IsDecidable : Type 0 → Type 0
IsDecidable A = (a b : A) → (a ≡ b) ⊎ (a ≡ b → ⊥)

-- values that can be decoded from their encoding
by_code : {A B : Type 0} (code : A → B) (read : B → A) → ((a : A) → read (code a) ≡ a) → IsDecidable B → IsDecidable A
by_code code read back reports a b = elim (reports (code a) (code b)) [
  | inl same ↦ inl (sym (back a) ∙ (ap read same ∙ back b))
  | inr other ↦ inr (λ e. other (ap code e))
]

of_pair : {A B : Type 0} → IsDecidable A → IsDecidable B → IsDecidable (A × B)
of_pair first second a b = elim (first a.0 b.0) [
  | inr other ↦ inr (λ e. other (ap (λ p. p.0) e))
  | inl same ↦ elim (second a.1 b.1) [
    | inl also ↦ inl (ap₂ (λ x y. (x, y)) same also)
    | inr other ↦ inr (λ e. other (ap (λ p. p.1) e))
  ]
]

of_option : {A : Type 0} → IsDecidable A → IsDecidable (Option A)
of_option reports None None = inl refl
of_option reports None (Some b) = inr (λ e. cc)
of_option reports (Some a) None = inr (λ e. cc)
of_option reports (Some a) (Some b) = elim (reports a b) [
  | inl same ↦ inl (ap (λ x. Some x) same)
  | inr other ↦ inr (λ e. other (cc))
]

of_list : {A : Type 0} → IsDecidable A → IsDecidable (List A)
of_list reports [] [] = inl refl
of_list reports [] (y ∷ ys) = inr (λ e. cc)
of_list reports (x ∷ xs) [] = inr (λ e. cc)
of_list reports (x ∷ xs) (y ∷ ys) = elim (reports x y) [
  | inr other ↦ inr (λ e. other (cc))
  | inl same ↦ elim (of_list reports xs ys) [
    | inl also ↦ inl (ap₂ (λ z zs. z ∷ zs) same also)
    | inr other ↦ inr (λ e. other (cc))
  ]
]

of_words : IsDecidable (List ℕ)
of_words = of_list cases_eq

-- ---- variants as words: a number for the variant, followed by its fields

first_of : List ℕ → ℕ
first_of [] = 0
first_of (word ∷ words) = word

rest_of : List ℕ → List ℕ
rest_of [] = []
rest_of (word ∷ words) = words

stage_code : Stage → List ℕ
stage_code stages.Stop = 0 ∷ []
stage_code stages.Collect = 1 ∷ []
stage_code stages.Reset = 2 ∷ []
stage_code stages.Load = 3 ∷ []
stage_code stages.Init = 4 ∷ []
stage_code (stages.ReplaySet key value) = 5 ∷ key ∷ value ∷ []
stage_code stages.ReplayOpen = 6 ∷ []
stage_code stages.Resume = 7 ∷ []

stage_by : ℕ → List ℕ → Stage
stage_by variant words =
    if variant == 0 then stages.Stop else
    if variant == 1 then stages.Collect else
    if variant == 2 then stages.Reset else
    if variant == 3 then stages.Load else
    if variant == 4 then stages.Init else
    if variant == 5 then stages.ReplaySet (first_of words) (first_of (rest_of words)) else
    if variant == 6 then stages.ReplayOpen else stages.Resume

stage_read : List ℕ → Stage
stage_read words = stage_by (first_of words) (rest_of words)

stage_back : (stage : Stage) → stage_read (stage_code stage) ≡ stage
unfolding stage_code stage_read stage_by first_of rest_of
stage_back stages.Stop = refl
stage_back stages.Collect = refl
stage_back stages.Reset = refl
stage_back stages.Load = refl
stage_back stages.Init = refl
stage_back (stages.ReplaySet key value) = refl
stage_back stages.ReplayOpen = refl
stage_back stages.Resume = refl

answer_code : Answer → List ℕ
answer_code answered.Done = 0 ∷ []
answer_code (answered.Blocks words) = 1 ∷ words
answer_code (answered.Value word) = 2 ∷ word ∷ []
answer_code (answered.Frame words) = 3 ∷ words
answer_code answered.Empty = 4 ∷ []
answer_code (answered.Busy stage) = 5 ∷ stage_code stage
answer_code (answered.InUse holder) = 6 ∷ holder ∷ []
answer_code answered.NotOpen = 7 ∷ []
answer_code answered.BadRange = 8 ∷ []
answer_code answered.BadLength = 9 ∷ []
answer_code answered.BadKey = 10 ∷ []
answer_code answered.BadValue = 11 ∷ []
answer_code answered.BadClass = 12 ∷ []
answer_code (answered.IoError block) = 13 ∷ block ∷ []
answer_code (answered.Gone failures) = 14 ∷ failures ∷ []

answer_by : ℕ → List ℕ → Answer
answer_by variant words =
    if variant == 0 then answered.Done else
    if variant == 1 then answered.Blocks words else
    if variant == 2 then answered.Value (first_of words) else
    if variant == 3 then answered.Frame words else
    if variant == 4 then answered.Empty else
    if variant == 5 then answered.Busy (stage_read words) else
    if variant == 6 then answered.InUse (first_of words) else
    if variant == 7 then answered.NotOpen else
    if variant == 8 then answered.BadRange else
    if variant == 9 then answered.BadLength else
    if variant == 10 then answered.BadKey else
    if variant == 11 then answered.BadValue else
    if variant == 12 then answered.BadClass else
    if variant == 13 then answered.IoError (first_of words) else answered.Gone (first_of words)

answer_read : List ℕ → Answer
answer_read words = answer_by (first_of words) (rest_of words)

answer_back : (answer : Answer) → answer_read (answer_code answer) ≡ answer
unfolding answer_code answer_read answer_by first_of rest_of
answer_back answered.Done = refl
answer_back (answered.Blocks words) = refl
answer_back (answered.Value word) = refl
answer_back (answered.Frame words) = refl
answer_back answered.Empty = refl
answer_back (answered.Busy stage) = ap (λ s. answered.Busy s) (stage_back stage)
answer_back (answered.InUse holder) = refl
answer_back answered.NotOpen = refl
answer_back answered.BadRange = refl
answer_back answered.BadLength = refl
answer_back answered.BadKey = refl
answer_back answered.BadValue = refl
answer_back answered.BadClass = refl
answer_back (answered.IoError block) = refl
answer_back (answered.Gone failures) = refl

act_code : Act → List ℕ
act_code (act.Load block) = 0 ∷ block ∷ []
act_code (act.Store block words) = 1 ∷ block ∷ words
act_code (act.Failed block true) = 2 ∷ block ∷ []
act_code (act.Failed block false) = 3 ∷ block ∷ []
act_code (act.Sent frame) = 4 ∷ frame
act_code (act.Popped frame) = 5 ∷ frame
act_code (act.Played sample rate volume) = 6 ∷ sample ∷ rate ∷ volume ∷ []
act_code (act.Register key value) = 7 ∷ key ∷ value ∷ []

act_by : ℕ → List ℕ → Act
act_by variant words =
    if variant == 0 then act.Load (first_of words) else
    if variant == 1 then act.Store (first_of words) (rest_of words) else
    if variant == 2 then act.Failed (first_of words) true else
    if variant == 3 then act.Failed (first_of words) false else
    if variant == 4 then act.Sent words else
    if variant == 5 then act.Popped words else
    if variant == 6 then act.Played (first_of words) (first_of (rest_of words)) (first_of (rest_of (rest_of words))) else
    act.Register (first_of words) (first_of (rest_of words))

act_read : List ℕ → Act
act_read words = act_by (first_of words) (rest_of words)

act_back : (it : Act) → act_read (act_code it) ≡ it
unfolding act_code act_read act_by first_of rest_of
act_back (act.Load block) = refl
act_back (act.Store block words) = refl
act_back (act.Failed block true) = refl
act_back (act.Failed block false) = refl
act_back (act.Sent frame) = refl
act_back (act.Popped frame) = refl
act_back (act.Played sample rate volume) = refl
act_back (act.Register key value) = refl

-- ---- outcomes

losses_code : Losses → List ℕ
losses_code n =
    n.sends ∷ n.samples ∷ n.busy ∷ n.arrived ∷ n.received ∷ n.queued ∷ n.ring ∷ n.driver ∷ n.reset ∷ n.full_ring ∷ n.full_queue ∷ []

losses_read : List ℕ → Losses
losses_read words =
    let frames = rest_of (rest_of (rest_of words)) in
    let kept = rest_of (rest_of frames) in
    let lost = rest_of (rest_of (rest_of kept)) in record {
      sends = first_of words;
      samples = first_of (rest_of words);
      busy = first_of (rest_of (rest_of words));
      arrived = first_of frames;
      received = first_of (rest_of frames);
      queued = first_of kept;
      ring = first_of (rest_of kept);
      driver = first_of (rest_of (rest_of kept));
      reset = first_of lost;
      full_ring = first_of (rest_of lost);
      full_queue = first_of (rest_of (rest_of lost));
    }

losses_back : (n : Losses) → losses_read (losses_code n) ≡ n
unfolding losses_code losses_read first_of rest_of
losses_back n = refl

-- a part's outcome as nested pairs of its fields
abbrev PartFields : Type 0
PartFields = (List (List ℕ) × List (List ℕ)) × ((List ℕ × Option ℕ) × (List (List ℕ) × List Act))

part_code : PartOutcome → PartFields
part_code p = ((p.objects, p.medium), ((p.failures ∷ p.config, p.broken), (losses_code p.losses ∷ [], p.given)))

words_first : List (List ℕ) → List ℕ
words_first [] = []
words_first (words ∷ more) = words

part_read : PartFields → PartOutcome
part_read f = record {
  objects = f.0.0;
  medium = f.0.1;
  given = f.1.1.1;
  config = rest_of f.1.0.0;
  losses = losses_read (words_first f.1.1.0);
  failures = first_of f.1.0.0;
  broken = f.1.0.1;
}

part_back : (p : PartOutcome) → part_read (part_code p) ≡ p
unfolding part_code part_read words_first first_of rest_of losses_code losses_read
part_back p = refl

outcome_code : Outcome → List (List (ℕ × Answer)) × List PartOutcome
outcome_code o = (o.answers, o.parts)

outcome_read : List (List (ℕ × Answer)) × List PartOutcome → Outcome
outcome_read f = record { answers = f.0; parts = f.1 }

outcome_back : (o : Outcome) → outcome_read (outcome_code o) ≡ o
unfolding outcome_code outcome_read
outcome_back o = refl

part_alike : IsDecidable PartOutcome
part_alike =
    by_code part_code part_read part_back
    (of_pair (of_pair (of_list of_words) (of_list of_words))
    (of_pair (of_pair of_words (of_option cases_eq)) (of_pair (of_list of_words) (of_list (by_code act_code act_read act_back of_words)))))

pub outcome_alike : IsDecidable Outcome
outcome_alike =
    by_code outcome_code outcome_read outcome_back
    (of_pair (of_list (of_list (of_pair cases_eq (by_code answer_code answer_read answer_back of_words)))) (of_list part_alike))
