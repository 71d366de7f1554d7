-- Seats that are split from others, and the works of workers.
use Rattle.std.proofs.Common.{◌≡◌, ◌⊎◌, ℕ, ◌+◌, ◌<◌, Some, List, [], ◌∷◌, ◌++◌, drop, length, slice_get, subst, sym, ap, ◌∙◌, inl, inr, arith, append_assoc, length-append}
use Rattle.nook_data.specs.declared.scenario.PartSpec.{PartSpec}
use Rattle.nook_data.specs.declared.scenario.ThreadSpec.{ThreadSpec}
use Rattle.desk_like.specs.Desks.{DeskView}
use Rattle.app_threads.specs.declared.work.Work.{Work}
use Rattle.app_threads.specs.declared.work.Work.TheVariants as work
use Rattle.app_threads.specs.Order.{KeepClocked, KeepsClocked}
use Rattle.app_threads.specs.Steps.{IsStepAt, Same, Splits, Starts}
use Rattle.app_threads.specs.Workers.{AtDesks, KeepAccounts, KeepsAccounts}
use Rattle.app_threads.specs.Works.{script_works}
use Rattle.app_threads.proofs.Listed.{drop_next, get_push, some_at}
use Rattle.app_threads.proofs.Scripts.{at_desks_more, at_desks_refl, step_more}

pub same_more : (specs : List PartSpec) (olds mids news : List DeskView) (at : ℕ) (made : DeskView) → IsStepAt specs mids news at (λ spec v w. Splits v w made) → AtDesks Same olds mids → AtDesks Same olds news
same_more specs olds mids news at made s h =
    step_more Same Same specs olds mids news at _ s (λ d u v n k. k)
    (λ u k. (ap (λ (v : DeskView). v.seen) s.ends.0 ∙ k.0, ap (λ (v : DeskView). v.made) s.ends.0 ∙ k.1)) h

pub accounts_none : (views : List DeskView) → KeepAccounts views views
accounts_none views = at_desks_refl (λ d v w. KeepsAccounts v w) views (λ d v. record { still = λ a. a })

pub accounts_twice : (olds mids news : List DeskView) → KeepAccounts olds mids → KeepAccounts mids news → KeepAccounts olds news
accounts_twice olds mids news h k =
    at_desks_more (λ d v w. KeepsAccounts v w) (λ d v w. KeepsAccounts v w) (λ d v w. KeepsAccounts v w) olds mids news (λ d u v w a b. record { still = λ x. b.still (a.still x) }) h k

pub accounts_more : (specs : List PartSpec) (olds mids news : List DeskView) (at : ℕ) (made : DeskView) → IsStepAt specs mids news at (λ spec v w. Splits v w made) → KeepAccounts olds mids → KeepAccounts olds news
accounts_more specs olds mids news at made s h =
    step_more (λ d v w. KeepsAccounts v w) (λ d v w. KeepsAccounts v w) specs olds mids news at _ s (λ d u v n k. k) (λ u k. record { still = λ a. s.ends.2 }) h

pub clocked_twice : (olds mids news : List DeskView) → KeepClocked olds mids → KeepClocked mids news → KeepClocked olds news
clocked_twice olds mids news h k =
    at_desks_more (λ d v w. KeepsClocked v w) (λ d v w. KeepsClocked v w) (λ d v w. KeepsClocked v w) olds mids news (λ d u v w a b. record { still = λ x. b.still (a.still x) }) h k

pub clocked_more : (specs : List PartSpec) (olds mids news : List DeskView) (at : ℕ) (made : DeskView) → IsStepAt specs mids news at (λ spec v w. Splits v w made) → KeepClocked olds mids → KeepClocked olds news
clocked_more specs olds mids news at made s h =
    step_more (λ d v w. KeepsClocked v w) (λ d v w. KeepsClocked v w) specs olds mids news at _ s (λ d u v n k. k) (λ u k. record { still = λ a. s.ends.3 }) h

-- new seats were split from this many of the first seats
abbrev pub StartSoFar : ℕ → List DeskView → List DeskView → Type 0
StartSoFar count olds made = (length made ≡ count) × ((d : ℕ) (v w : DeskView) → slice_get olds d ≡ Some v → slice_get made d ≡ Some w → Starts d v w)

pub start_more : (specs : List PartSpec) (olds mids news made : List DeskView) (at : ℕ) (one : DeskView) → IsStepAt specs mids news at (λ spec v w. Splits v w one) → AtDesks Same olds mids
    → StartSoFar at olds made → StartSoFar (at + 1) olds (made ++ one ∷ [])
start_more specs olds mids news made at one s h k = (let n = k.0 in omega (arith, length-append made (one ∷ [])), λ d v w i j. by_position d v w i (get_push made one w d j))
  where
    by_position : (d : ℕ) (v w : DeskView) → slice_get olds d ≡ Some v → (slice_get made d ≡ Some w) ⊎ ((d ≡ length made) × (one ≡ w)) → Starts d v w
    by_position d v w i (inl j) = k.1 d v w i j
    by_position d v w i (inr e) =
        let same : Same at v s.old = h.1 at v s.old (subst (λ n. slice_get olds n ≡ Some v) (e.0 ∙ k.0) i) s.old_there in
        subst (λ (x : DeskView). Starts d v x) e.1
        (ap (λ (x : DeskView). x.seen) s.ends.1 ∙ same.0, ap (λ (x : DeskView). x.made) s.ends.1)

pub start_done : (olds made : List DeskView) (count : ℕ) → count ≡ length olds → StartSoFar count olds made → AtDesks Starts olds made
start_done olds made count e h = (h.0 ∙ e, h.1)

pub same_twice : (olds mids news : List DeskView) → AtDesks Same olds mids → AtDesks Same mids news → AtDesks Same olds news
same_twice olds mids news h k = at_desks_more Same Same Same olds mids news (λ d u v w a b. (b.0 ∙ a.0, b.1 ∙ a.1)) h k

pub starts_same : (olds mids made : List DeskView) → AtDesks Same olds mids → AtDesks Starts mids made → AtDesks Starts olds made
starts_same olds mids made h k = at_desks_more Same Starts Starts olds mids made (λ d u v w a b. (b.0 ∙ a.0, b.1)) h k

-- ---- works

pub script_step : (all : List ThreadSpec) (thread : ℕ) → thread < length all → script_works thread (drop thread all) ≡ work.Script thread ∷ script_works (thread + 1) (drop (thread + 1) all)
script_step all thread l = let s = some_at all thread l in ap (script_works thread) (drop_next all thread s.0 s.1)

pub scripts_next : (all : List ThreadSpec) (works whole : List Work) (thread : ℕ) → thread < length all
    → works ++ script_works thread (drop thread all) ≡ whole → (works ++ work.Script thread ∷ []) ++ script_works (thread + 1) (drop (thread + 1) all) ≡ whole
scripts_next all works whole thread l e =
    append_assoc works (work.Script thread ∷ []) (script_works (thread + 1) (drop (thread + 1) all)) ∙ (ap (λ (k : List Work). works ++ k) (sym (script_step all thread l)) ∙ e)
