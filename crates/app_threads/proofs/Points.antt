-- Where the points of the seats' shares are while seats are split, work, and are joined.
use Rattle.std.proofs.Common.{◌≡◌, ◌⊎◌, ℕ, zero, suc, Bool, true, false, ◌||◌, Some, List, [], ◌∷◌, ◌++◌, length, slice_get, subst, sym, refl, ap, ◌∙◌, inl, inr, arith}
use Rattle.std.proofs.lemmas.Option.{slice_get_within}
use Rattle.nook_data.specs.declared.scenario.PartSpec.{PartSpec}
use Rattle.shares.specs.Shares.{Share, half, owns}
use Rattle.shares.proofs.Shares.{in_left, in_right, owns_halves}
use Rattle.desk_like.specs.Desks.{DeskView}
use Rattle.app_threads.specs.Hired.{Each}
use Rattle.app_threads.specs.Steps.{Halve, HasPoint, IsStepAt, OneHasPoint, Splits, Spread, TakeAllIn, TakesIn}
use Rattle.app_threads.specs.Workers.{KeepShares, StayAlone}
use Rattle.app_threads.proofs.Listed.{get_append, get_set_other, get_set_same, same_at, same_or_other, some_at}

one_of : (a b : Bool) → (a || b) ≡ true → (a ≡ true) ⊎ (b ≡ true)
one_of true b e = inl refl
one_of false b e = inr e

in_a_half : (s : Share) (point : ℕ → Bool) → owns s point ≡ true → (owns (half false s) point ≡ true) ⊎ (owns (half true s) point ≡ true)
in_a_half s point e = one_of (owns (half false s) point) (owns (half true s) point) (sym (owns_halves s point) ∙ e)

-- the last item of a list
last_there : (xs : List DeskView) (x : DeskView) (n : ℕ) → length xs ≡ n → slice_get (xs ++ x ∷ []) n ≡ Some x
last_there [] x zero e = refl
last_there [] x (suc n) e = absurd (omega arith)
last_there (y ∷ xs) x zero e = absurd (omega arith)
last_there (y ∷ xs) x (suc n) e = last_there xs x n (omega arith)

last_worker : (xs : List (List DeskView)) (x : List DeskView) → slice_get (xs ++ x ∷ []) (length xs) ≡ Some x
last_worker [] x = refl
last_worker (y ∷ xs) x = last_worker xs x

-- ---- seats that are split

pub halve_none : (views : List DeskView) → Halve views views []
halve_none views = record { each = λ d point h. inl h }

more_made : (made : List DeskView) (one : DeskView) (d : ℕ) (point : ℕ → Bool) → HasPoint made d point → HasPoint (made ++ one ∷ []) d point
more_made made one d point h = record { view = h.view; there = get_append made (one ∷ []) d h.view h.there; has = h.has }

pub halve_more : (specs : List PartSpec) (olds mids news made : List DeskView) (at : ℕ) (one : DeskView) → length made ≡ at → IsStepAt specs mids news at (λ spec v w. Splits v w one)
    → Halve olds mids made → Halve olds news (made ++ one ∷ [])
halve_more specs olds mids news made at one long s h = record { each = λ d point p. after d point (h.each d point p) }
  where
    here : slice_get news at ≡ Some s.new
    here = ap (λ (l : List DeskView). slice_get l at) s.news_are ∙ get_set_same mids at s.old s.new s.old_there

    by_half : (d : ℕ) (point : ℕ → Bool) → d ≡ at → (owns (half false s.old.share) point ≡ true) ⊎ (owns (half true s.old.share) point ≡ true) → HasPoint news d point ⊎ HasPoint (made ++ one ∷ []) d point
    by_half d point e (inl p) = inl (record {
      view = s.new;
      there = subst (λ k. slice_get news k ≡ Some s.new) (sym e) here;
      has = subst (λ (v : DeskView). owns v.share point ≡ true) (sym s.ends.0) p;
    })
    by_half d point e (inr p) = inr (record {
      view = one;
      there = last_there made one d (long ∙ sym e);
      has = subst (λ (v : DeskView). owns v.share point ≡ true) (sym s.ends.1) p;
    })

    by_position : (d : ℕ) (point : ℕ → Bool) → HasPoint mids d point → (d ≡ at) ⊎ (d ≡ at → ⊥) → HasPoint news d point ⊎ HasPoint (made ++ one ∷ []) d point
    by_position d point p (inl e) =
        let is : p.view ≡ s.old = same_at mids at p.view s.old (subst (λ k. slice_get mids k ≡ Some p.view) e p.there) s.old_there in
        by_half d point e (in_a_half s.old.share point (subst (λ (v : DeskView). owns v.share point ≡ true) is p.has))
    by_position d point p (inr n) = inl (record {
      view = p.view;
      there = ap (λ (l : List DeskView). slice_get l d) s.news_are ∙ (get_set_other mids d at s.new n ∙ p.there);
      has = p.has;
    })

    after : (d : ℕ) (point : ℕ → Bool) → HasPoint mids d point ⊎ HasPoint made d point → HasPoint news d point ⊎ HasPoint (made ++ one ∷ []) d point
    after d point (inl p) = by_position d point p (same_or_other d at)
    after d point (inr p) = inr (more_made made one d point p)

-- ---- workers

pub spread_none : (views : List DeskView) → Spread views views []
spread_none views = record { each = λ d point h. inl h }

-- one more worker, whose seats were split from these
pub spread_more : (olds mids news made : List DeskView) (workers : List (List DeskView)) → Spread olds mids workers → Halve mids news made → Spread olds news (workers ++ made ∷ [])
spread_more olds mids news made workers s h = record { each = λ d point p. after d point (s.each d point p) }
  where
    new_one : (d : ℕ) (point : ℕ → Bool) → HasPoint news d point ⊎ HasPoint made d point → HasPoint news d point ⊎ OneHasPoint (workers ++ made ∷ []) d point
    new_one d point (inl p) = inl p
    new_one d point (inr p) = inr (record { worker = length workers; views = made; there = last_worker workers made; has = p })

    after : (d : ℕ) (point : ℕ → Bool) → HasPoint mids d point ⊎ OneHasPoint workers d point → HasPoint news d point ⊎ OneHasPoint (workers ++ made ∷ []) d point
    after d point (inl p) = new_one d point (h.each d point p)
    after d point (inr p) = inr (record { worker = p.worker; views = p.views; there = get_append workers (made ∷ []) p.worker p.views p.there; has = p.has })

-- a point stays where it is while a worker works
point_stays : (olds news : List DeskView) (d : ℕ) (point : ℕ → Bool) → KeepShares olds news → HasPoint olds d point → HasPoint news d point
point_stays olds news d point k p =
    let l = slice_get_within olds d p.view p.there in
    let w = some_at news d (let n = k.0 in omega arith) in
    record { view = w.0; there = w.1; has = ap (λ (s : Share). owns s point) (k.1 d p.view w.0 p.there w.1) ∙ p.has }

pub spread_done : (olds news : List DeskView) (workers dones : List (List DeskView)) → Each KeepShares workers dones → Spread olds news workers → Spread olds news dones
spread_done olds news workers dones e s = record { each = λ d point p. after d point (s.each d point p) }
  where
    after : (d : ℕ) (point : ℕ → Bool) → HasPoint news d point ⊎ OneHasPoint workers d point → HasPoint news d point ⊎ OneHasPoint dones d point
    after d point (inl p) = inl p
    after d point (inr p) =
        let l = slice_get_within workers p.worker p.views p.there in
        let w = some_at dones p.worker (let n = e.0 in omega arith) in
        inr (record { worker = p.worker; views = w.0; there = w.1; has = point_stays p.views w.0 d point (e.1 p.worker p.views w.0 p.there w.1) p.has })

-- ---- seats that are joined

-- a seat into which another was joined has the points of both
point_left : (specs : List PartSpec) (olds others news : List DeskView) (d : ℕ) (point : ℕ → Bool) → TakesIn specs olds others news → HasPoint olds d point → HasPoint news d point
point_left specs olds others news d point t p =
    let l = slice_get_within olds d p.view p.there in
    let s = some_at specs d (let n = t.1 in omega arith) in
    let o = some_at others d (let n = t.0 in omega arith) in
    let w = some_at news d (let n = t.2 in omega arith) in
    let joins = (t.3 d s.0 p.view o.0 w.0 s.1 p.there o.1 w.1).0 in
    record { view = w.0; there = w.1; has = ap (λ (x : Share). owns x point) joins.share ∙ in_left p.view.share o.0.share point p.has }

point_right : (specs : List PartSpec) (olds others news : List DeskView) (d : ℕ) (point : ℕ → Bool) → TakesIn specs olds others news → HasPoint others d point → HasPoint news d point
point_right specs olds others news d point t p =
    let l = slice_get_within others d p.view p.there in
    let s = some_at specs d (let n = t.1 in let m = t.0 in omega arith) in
    let v = some_at olds d (let n = t.0 in omega arith) in
    let w = some_at news d (let n = t.2 in let m = t.0 in omega arith) in
    let joins = (t.3 d s.0 v.0 p.view w.0 s.1 v.1 p.there w.1).0 in
    record { view = w.0; there = w.1; has = ap (λ (x : Share). owns x point) joins.share ∙ in_right v.0.share p.view.share point p.has }

points_left : (specs : List PartSpec) (olds : List DeskView) (workers : List (List DeskView)) (news : List DeskView) (d : ℕ) (point : ℕ → Bool) → TakeAllIn specs olds workers news → HasPoint olds d point → HasPoint news d point
points_left specs olds [] news d point t p = subst (λ (l : List DeskView). HasPoint l d point) (sym t) p
points_left specs olds (o ∷ workers) news d point t p = points_left specs t.0 workers news d point t.2 (point_left specs olds o t.0 d point t.1 p)

points_right : (specs : List PartSpec) (olds : List DeskView) (workers : List (List DeskView)) (news : List DeskView) (d : ℕ) (point : ℕ → Bool) (k : ℕ) (views : List DeskView) → TakeAllIn specs olds workers news
    → slice_get workers k ≡ Some views → HasPoint views d point → HasPoint news d point
points_right specs olds [] news d point k views t a p = absurd cc
points_right specs olds (o ∷ workers) news d point zero views t a p =
    let is : o ≡ views = same_at (o ∷ workers) 0 o views refl a in
    points_left specs t.0 workers news d point t.2 (point_right specs olds o t.0 d point t.1 (subst (λ (l : List DeskView). HasPoint l d point) (sym is) p))
points_right specs olds (o ∷ workers) news d point (suc k) views t a p = points_right specs t.0 workers news d point k views t.2 a p

-- once all workers' seats are joined, each seat has every point that it had before
pub all_back_alone : (specs : List PartSpec) (olds mids : List DeskView) (workers : List (List DeskView)) (news : List DeskView) → length news ≡ length olds → Spread olds mids workers → TakeAllIn specs mids workers news → StayAlone olds news
all_back_alone specs olds mids workers news n s t = (n, λ d v w a b. record { still = λ alone point. by_view d v w point b (back d point (s.each d point (record { view = v; there = a; has = alone point }))) })
  where
    back : (d : ℕ) (point : ℕ → Bool) → HasPoint mids d point ⊎ OneHasPoint workers d point → HasPoint news d point
    back d point (inl p) = points_left specs mids workers news d point t p
    back d point (inr p) = points_right specs mids workers news d point p.worker p.views t p.there p.has

    by_view : (d : ℕ) (v w : DeskView) (point : ℕ → Bool) → slice_get news d ≡ Some w → HasPoint news d point → owns w.share point ≡ true
    by_view d v w point b p = subst (λ (x : DeskView). owns x.share point ≡ true) (same_at news d p.view w p.there b) p.has
