-- The views of all seats, when one of them changes or a new one is added.
use Rattle.std.proofs.Common.{◌≡◌, ◌≢◌, ℕ, zero, suc, ◌<◌, ◌≤◌, Bool, true, false, List, [], ◌∷◌, ◌++◌, length, set, Option, Some, None, All, Contains, ◌⊎◌, inl, inr, sym, refl, ap, ◌∙◌, subst, ⊎_elim, append-nil, length-append, lt_of_not-le, arith}
use Rattle.std.proofs.lemmas.List.Elements.{All-contains, Contains-append_left, Contains-append_right}
use mathlib.Core.List.{IsPrefix}
use mathlib.Core.Logic.{dite}
use mathlib.Core.Option.{some, some-injective, some-ne-none}
use native.Mathlib.Decide.{dec_le, ℕ_discrete}
use lib.ListN.{get_elem?}
use Rattle.atomic_table.proofs.Lists.{at_set, at_longer, set_else}
use Rattle.shares.specs.Shares.{owns}
use Rattle.turn_lock.specs.declared.view.View.{View}
use Rattle.turn_lock.specs.Seats.{IsAlone, MadeIsSeen}
use Rattle.turn_lock.specs.Views.{took, spent, joined}
use Rattle.turn_lock.specs.Turns.{Fits, Apart, AreViews, AreMade}
use Rattle.turn_lock.proofs.Prefixes.{prefix_nil, prefix_length}

pub never : {A : Type 0} → false ≡ true → A
never e = absurd (cc)

module _ {A : Type 0} where
  pub set_there : (l : List A) (i : ℕ) (a b : A) → get_elem? l i ≡ some a → get_elem? (set l i b) i ≡ some b
  set_there [] i a b e = absurd (some-ne-none a (sym e))
  set_there (x ∷ xs) zero a b e = refl
  set_there (x ∷ xs) (suc i) a b e = set_there xs i a b e

  pub only : (a b : A) (i : ℕ) → get_elem? (a ∷ []) i ≡ some b → (i ≡ 0) × (a ≡ b)
  only a b zero e = (refl, some-injective a b e)
  only a b (suc i) e = absurd (some-ne-none b (sym e))

  pub none_in : (x : A) → Contains [] x → ⊥
  none_in x h = let lt = h.1 in omega arith

  -- an item of a list that grew by one was there before, or is the new one at the end
  pub at_end : (l : List A) (a b : A) (j : ℕ) → get_elem? (l ++ a ∷ []) j ≡ some b → (get_elem? l j ≡ some b) ⊎ ((j ≡ length l) × (a ≡ b))
  at_end [] a b zero e = inr (refl, some-injective a b e)
  at_end [] a b (suc j) e = absurd (some-ne-none b (sym e))
  at_end (x ∷ xs) a b zero e = inl e
  at_end (x ∷ xs) a b (suc j) e = ⊎_elim (λ t. inl t) (λ t. inr (ap suc t.0, t.1)) (at_end xs a b j e)

  -- a prefix that is not shorter is the whole list
  pub all_begun : (a b : List A) → IsPrefix a b → length b ≤ length a → a ≡ b
  all_begun a b p le = none_left a p.0 b p.1 le
    where
      none_left : (xs ys zs : List A) → xs ++ ys ≡ zs → length zs ≤ length xs → xs ≡ zs
      none_left xs [] zs e le = sym (append-nil xs) ∙ e
      none_left xs (y ∷ ys) zs e le = absurd (omega (arith, length-append xs (y ∷ ys), ap length e))

module _ {E O : Type 0} where
  pub views_set : (all all' : List E) (home : O) (start : ℕ) (out out' : Bool) (holder holder' id : ℕ) (vs : List (View E O)) (w : View E O) → AreViews all home start out holder vs → Fits all' home start out' holder' id w
      → ((j : ℕ) (u : View E O) → j ≢ id → get_elem? vs j ≡ some u → Fits all' home start out' holder' j u)
      → ((j : ℕ) (u : View E O) → j ≢ id → get_elem? vs j ≡ some u → Apart w u × Apart u w)
      → AreViews all' home start out' holder' (set vs id w)
  views_set all all' home start out out' holder holder' id vs w r mine others far = record {
    fits = λ j v e. ⊎_elim
        (λ (t : (j ≡ id) × (w ≡ v)). subst (λ (z : ℕ × View E O). Fits all' home start out' holder' z.0 z.1) (λ k. (sym t.0 k, t.1 k)) mine)
        (λ (t : (j ≢ id) × (get_elem? vs j ≡ some v)). others j v t.0 t.1)
        (at_set vs id j w v e);
    apart = λ i j u v ne eu ev. ⊎_elim
        (λ (t : (i ≡ id) × (w ≡ u)). ⊎_elim
        (λ (z : (j ≡ id) × (w ≡ v)). absurd (ne (t.0 ∙ sym z.0)))
        (λ (z : (j ≢ id) × (get_elem? vs j ≡ some v)). subst (λ (x : View E O). Apart x v) t.1 (far j v z.0 z.1).0)
        (at_set vs id j w v ev))
        (λ (t : (i ≢ id) × (get_elem? vs i ≡ some u)). ⊎_elim
        (λ (z : (j ≡ id) × (w ≡ v)). subst (λ (x : View E O). Apart u x) z.1 (far i u t.0 t.1).1)
        (λ (z : (j ≢ id) × (get_elem? vs j ≡ some v)). r.apart i j u v ne t.1 z.1)
        (at_set vs id j w v ev))
        (at_set vs id i w u eu);
  }

  pub views_more : (all : List E) (home : O) (start : ℕ) (out : Bool) (holder : ℕ) (vs : List (View E O)) (w : View E O) → AreViews all home start out holder vs
      → ((j : ℕ) → Fits all home start out holder j w)
      → ((j : ℕ) (u : View E O) → get_elem? vs j ≡ some u → Apart w u × Apart u w)
      → AreViews all home start out holder (vs ++ w ∷ [])
  views_more all home start out holder vs w r mine far = record {
    fits = λ j v e. ⊎_elim (λ (t : get_elem? vs j ≡ some v). r.fits j v t) (λ (t : (j ≡ length vs) × (w ≡ v)). subst (λ (z : View E O). Fits all home start out holder j z) t.1 (mine j)) (at_end vs w v j e);
    apart = λ i j u v ne eu ev. ⊎_elim
        (λ (t : get_elem? vs i ≡ some u). ⊎_elim
        (λ (z : get_elem? vs j ≡ some v). r.apart i j u v ne t z)
        (λ (z : (j ≡ length vs) × (w ≡ v)). subst (λ (x : View E O). Apart u x) z.1 (far i u t).1)
        (at_end vs w v j ev))
        (λ (t : (i ≡ length vs) × (w ≡ u)). ⊎_elim
        (λ (z : get_elem? vs j ≡ some v). subst (λ (x : View E O). Apart x v) t.1 (far j v z).0)
        (λ (z : (j ≡ length vs) × (w ≡ v)). absurd (ne (t.0 ∙ sym z.0)))
        (at_end vs w v j ev))
        (at_end vs w u i eu);
  }

  -- some seat numbered h has the turn
  abbrev pub Holds : List (View E O) → ℕ → Type 0
  Holds vs h = (v : View E O) × (get_elem? vs h ≡ some v) × (v.has ≡ true)

  pub holds_set : (vs : List (View E O)) (id h : ℕ) (v w : View E O) → get_elem? vs id ≡ some v → (v.has ≡ true → w.has ≡ true) → Holds vs h → Holds (set vs id w) h
  holds_set vs id h v w at more (u, there, has) = dite (ℕ_discrete h id)
      (λ (e : h ≡ id). let same : u ≡ v = some-injective u v (sym there ∙ (ap (get_elem? vs) e ∙ at)) in
      (w, subst (λ (i : ℕ). get_elem? (set vs id w) i ≡ some w) (sym e) (set_there vs id v w at), more (sym (ap (λ (z : View E O). z.has) same) ∙ has)))
      (λ (ne : h ≢ id). (u, set_else vs id h w ne ∙ there, has))

  -- a step that leaves `made` as it is and adds no point keeps a seat apart from every other one
  pub same_far : (v w u : View E O) → w.made ≡ v.made → ((point : ℕ → Bool) → owns w.share point ≡ true → owns v.share point ≡ true) → Apart v u → Apart u v → Apart w u × Apart u w
  same_far v w u made less vu uv = (
    record { share = λ f a b. vu.share f (less f a) b; made = λ p a b. vu.made p (subst (λ (l : List ℕ). Contains l p) made a) b },
    record { share = λ f a b. uv.share f a (less f b); made = λ p a b. uv.made p a (subst (λ (l : List ℕ). Contains l p) made b) },
  )

  pub spent_fits : (all : List E) (home : O) (start : ℕ) (out : Bool) (holder j : ℕ) → Fits all home start out holder j spent
  spent_fits all home start out holder j = record {
    seen = prefix_nil all;
    pending = prefix_nil [];
    made = λ k d lt. absurd (omega arith);
    origin = λ o e. absurd (cc);
    begins = λ o e. absurd (cc);
    owner = λ o e. absurd (cc);
    gone = λ _. refl;
    turn = λ e. never e;
  }

  pub spent_apart : (u : View E O) → Apart spent u × Apart u spent
  spent_apart u = (record { share = λ f a b. never a; made = λ p a b. none_in p a }, record { share = λ f a b. never b; made = λ p a b. none_in p b })

  -- ---- a seat that is alone

  by_origin : (u : View E O) (G : Type 0) → (u.origin ≡ None → G) → ((o : O) → u.origin ≡ Some o → G) → G
  by_origin u G nowhere from = cases u.origin refl
    where
      cases : (x : Option O) → u.origin ≡ x → G
      cases None e = nowhere e
      cases (Some o) e = from o e

  -- if a seat is alone, every other seat is spent
  pub others_spent : (all : List E) (home : O) (start : ℕ) (out : Bool) (holder : ℕ) (vs : List (View E O)) → AreViews all home start out holder vs
      → (i j : ℕ) (v u : View E O) → get_elem? vs i ≡ some v → j ≢ i → get_elem? vs j ≡ some u → IsAlone v → u ≡ spent
  others_spent all home start out holder vs r i j v u at ne there alone = let f = r.fits j u there in
      by_origin u (u ≡ spent) (λ lost. f.gone lost) (λ o from. let point = f.owner o from in absurd ((r.apart i j v u (λ z. ne (sym z)) at there).share point.0 (alone point.0) point.1))

  -- so all entries that were made were made through it
  pub all_made : (all : List E) (home : O) (start : ℕ) (out : Bool) (holder : ℕ) (vs : List (View E O)) → AreViews all home start out holder vs → AreMade start (length all) vs
      → (i : ℕ) (v : View E O) → get_elem? vs i ≡ some v → IsAlone v → (p : ℕ) → start < p → p ≤ length all → Contains v.made p
  all_made all home start out holder vs r made i v at alone p past le = let m = made p past le in
      dite (ℕ_discrete m.0 i)
      (λ (e : m.0 ≡ i). let same : m.1 ≡ v = some-injective m.1 v (sym m.2 ∙ (ap (get_elem? vs) e ∙ at)) in subst (λ (z : View E O). Contains z.made p) same m.3)
      (λ (ne : m.0 ≢ i). absurd (none_in p (subst (λ (z : View E O). Contains z.made p) (others_spent all home start out holder vs r i m.0 v m.1 at ne m.2 alone) m.3)))

  -- and it has seen all entries
  pub all_seen : (all : List E) (home : O) (start : ℕ) (out : Bool) (holder : ℕ) (vs : List (View E O)) → AreViews all home start out holder vs → AreMade start (length all) vs
      → (i : ℕ) (v : View E O) (o : O) → get_elem? vs i ≡ some v → v.origin ≡ Some o → IsAlone v → v.seen ≡ all
  all_seen all home start out holder vs r made i v o at from alone = all_begun v.seen all f.seen (no_more (length all) refl)
    where
      f : Fits all home start out holder i v
      f = r.fits i v at

      long : start ≤ length v.seen
      long = (f.begins o from).1

      no_more : (n : ℕ) → n ≡ length all → n ≤ length v.seen
      no_more n e = dite (dec_le n (length v.seen)) (λ (le : n ≤ length v.seen). le) (λ (more : n ≤ length v.seen → ⊥).
          let past : start < n = let lt = lt_of_not-le more in let begun = long in omega arith in
          let last = All-contains (λ q. (start < q) × (q ≤ length v.seen)) v.made n f.made (all_made all home start out holder vs r made i v at alone n past (omega arith)) in absurd (more last.1))

  pub made_is_seen_of : (all : List E) (home : O) (start : ℕ) (out : Bool) (holder : ℕ) (vs : List (View E O)) → AreViews all home start out holder vs → AreMade start (length all) vs
      → (i : ℕ) (v : View E O) (o : O) → get_elem? vs i ≡ some v → v.origin ≡ Some o → MadeIsSeen v
  made_is_seen_of all home start out holder vs r made i v o at from = let f = r.fits i v at in let e = (f.begins o from).0 in record {
    within = subst (λ (n : ℕ). All (λ p. (n < p) × (p ≤ length v.seen)) v.made) (sym e) f.made;
    all = λ alone p past le. let long = prefix_length v.seen all f.seen in all_made all home start out holder vs r made i v at alone p (omega arith) (omega arith);
  }

  -- what a seat may claim after a take, it could claim before
  pub made_is_seen_took : (v w : View E O) (all : List E) → w ≡ took v all → MadeIsSeen w → MadeIsSeen v
  made_is_seen_took v w all same t = let u : MadeIsSeen (took v all) = subst MadeIsSeen same t in record { within = u.within; all = u.all }

  -- ---- an entry that was made stays made

  -- a view changes, and keeps every number that it had in `made`
  pub made_set : (start last : ℕ) (vs : List (View E O)) (i : ℕ) (v w : View E O) → get_elem? vs i ≡ some v → ((p : ℕ) → Contains v.made p → Contains w.made p)
      → AreMade start last vs → AreMade start last (set vs i w)
  made_set start last vs i v w at more made p past le = let m = made p past le in
      dite (ℕ_discrete m.0 i)
      (λ (e : m.0 ≡ i). let same : m.1 ≡ v = some-injective m.1 v (sym m.2 ∙ (ap (get_elem? vs) e ∙ at)) in (i, w, set_there vs i v w at, more p (subst (λ (z : View E O). Contains z.made p) same m.3)))
      (λ (ne : m.0 ≢ i). (m.0, m.1, set_else vs i m.0 w ne ∙ m.2, m.3))

  -- a seat is added
  pub made_more : (start last : ℕ) (vs ws : List (View E O)) → AreMade start last vs → AreMade start last (vs ++ ws)
  made_more start last vs ws made p past le = let m = made p past le in (m.0, m.1, at_longer vs ws m.0 m.1 m.2, m.3)

  -- two seats are joined
  pub made_join : (start last : ℕ) (vs : List (View E O)) (i other : ℕ) (v w : View E O) → other ≢ i → get_elem? vs i ≡ some v → get_elem? vs other ≡ some w
      → AreMade start last vs → AreMade start last (set (set vs other spent) i (joined v w))
  made_join start last vs i other v w ne at at' made p past le =
      let m = made p past le in
      let ne' : i ≢ other = λ e. ne (sym e) in
      let free = set vs other spent in
      let there : get_elem? free i ≡ some v = set_else vs other i spent ne' ∙ at in
      let here : get_elem? (set free i (joined v w)) i ≡ some (joined v w) = set_there free i v (joined v w) there in
      dite (ℕ_discrete m.0 i)
      (λ (e : m.0 ≡ i). let same : m.1 ≡ v = some-injective m.1 v (sym m.2 ∙ (ap (get_elem? vs) e ∙ at)) in
      (i, joined v w, here, Contains-append_left v.made w.made p (subst (λ (z : View E O). Contains z.made p) same m.3)))
      (λ (far : m.0 ≢ i). dite (ℕ_discrete m.0 other)
      (λ (e : m.0 ≡ other). let same : m.1 ≡ w = some-injective m.1 w (sym m.2 ∙ (ap (get_elem? vs) e ∙ at')) in
      (i, joined v w, here, Contains-append_right v.made w.made p (subst (λ (z : View E O). Contains z.made p) same m.3)))
      (λ (farther : m.0 ≢ other). (m.0, m.1, set_else free i m.0 (joined v w) far ∙ (set_else vs other m.0 spent farther ∙ m.2), m.3)))
