-- The faults of a burst, if one more follows a part's own.
use Rattle.std.proofs.Common.{◌≡◌, ◌≤◌, ◌<◌, ℕ, ◌==◌, true, false, nat_le, filter, List, [], ◌∷◌, ◌++◌, refl, sym, ap, ◌∙◌, arith}
use Rattle.std.proofs.lemmas.Bool.{le-leb, leb-false, leb-true, lt-leb}
use Rattle.std.proofs.lemmas.List.Elements.{filter-append}
use Rattle.std.proofs.lemmas.List.{append-nil}
use Rattle.nook_data.specs.declared.scenario.Fault.{Fault}
use Rattle.machine_defs.proofs.BurstKeeps.{split}
use Rattle.machine_defs.specs.BurstFaults.{faults_of_burst, in_order, insert_fault, is_of_burst}
use Rattle.front_laws.specs.Fronts.{IsRising, put_after}

insert_before : (g h : Fault) (ys : List Fault) → nat_le g.after h.after ≡ true → insert_fault g (h ∷ ys) ≡ g ∷ h ∷ ys
insert_before g h ys e = rw e refl

insert_later : (g h : Fault) (ys : List Fault) → nat_le g.after h.after ≡ false → insert_fault g (h ∷ ys) ≡ h ∷ insert_fault g ys
insert_later g h ys e = rw e refl

pub after_later : (f g : Fault) (ys : List Fault) → nat_le g.after f.after ≡ true → put_after f (g ∷ ys) ≡ g ∷ put_after f ys
after_later f g ys e = rw e refl

pub after_here : (f g : Fault) (ys : List Fault) → nat_le g.after f.after ≡ false → put_after f (g ∷ ys) ≡ f ∷ g ∷ ys
after_here f g ys e = rw e refl

not_before : (f g h : Fault) → nat_le h.after f.after ≡ false → nat_le g.after h.after ≡ false → nat_le g.after f.after ≡ false
not_before f g h fh hg =
    let a : f.after < h.after = leb-false h.after f.after fh in
    let b : h.after < g.after = leb-false g.after h.after hg in
    lt-leb g.after f.after (omega arith)

before_too : (f g h : Fault) → nat_le g.after h.after ≡ true → nat_le h.after f.after ≡ true → nat_le g.after f.after ≡ true
before_too f g h gh hf =
    let a : g.after ≤ h.after = leb-true g.after h.after gh in
    let b : h.after ≤ f.after = leb-true h.after f.after hf in
    le-leb g.after f.after (omega arith)

-- a fault is inserted before those at its position, and another after them, in either order
insert_after : (f g : Fault) (ys : List Fault) → insert_fault g (put_after f ys) ≡ put_after f (insert_fault g ys)
insert_after f g [] = split (nat_le g.after f.after) (λ e. rw e refl) (λ e. rw e refl)
insert_after f g (h ∷ ys) = split (nat_le h.after f.after)
    (λ hf. ap (insert_fault g) (after_later f h ys hf) ∙ split (nat_le g.after h.after)
    (λ gh. insert_before g h (put_after f ys) gh
    ∙ sym (ap (put_after f) (insert_before g h ys gh) ∙ after_later f g (h ∷ ys) (before_too f g h gh hf)
    ∙ ap (λ (xs : List Fault). g ∷ xs) (after_later f h ys hf)))
    (λ hg. insert_later g h (put_after f ys) hg ∙ ap (λ (xs : List Fault). h ∷ xs) (insert_after f g ys)
    ∙ sym (ap (put_after f) (insert_later g h ys hg) ∙ after_later f h (insert_fault g ys) hf)))
    (λ fh. ap (insert_fault g) (after_here f h ys fh) ∙ split (nat_le g.after h.after)
    (λ gh. split (nat_le g.after f.after)
    (λ gf. insert_before g f (h ∷ ys) gf
    ∙ sym (ap (put_after f) (insert_before g h ys gh) ∙ after_later f g (h ∷ ys) gf
    ∙ ap (λ (xs : List Fault). g ∷ xs) (after_here f h ys fh)))
    (λ fg. insert_later g f (h ∷ ys) fg ∙ ap (λ (xs : List Fault). f ∷ xs) (insert_before g h ys gh)
    ∙ sym (ap (put_after f) (insert_before g h ys gh) ∙ after_here f g (h ∷ ys) fg)))
    (λ hg. insert_later g f (h ∷ ys) (not_before f g h fh hg) ∙ ap (λ (xs : List Fault). f ∷ xs) (insert_later g h ys hg)
    ∙ sym (ap (put_after f) (insert_later g h ys hg) ∙ after_here f h (insert_fault g ys) fh)))

order_after : (f : Fault) (xs : List Fault) → in_order (xs ++ f ∷ []) ≡ put_after f (in_order xs)
order_after f [] = refl
order_after f (g ∷ xs) = ap (insert_fault g) (order_after f xs) ∙ insert_after f g (in_order xs)

-- a fault of the burst that follows a part's own comes after those that strike no later
pub own_burst : (n : ℕ) (own : List Fault) (f : Fault) → (f.burst == n) ≡ true
    → faults_of_burst n (own ++ f ∷ []) ≡ put_after f (faults_of_burst n own)
unfolding faults_of_burst
own_burst n own f e =
    ap in_order (filter-append (is_of_burst n) own (f ∷ []) ∙ ap (λ (xs : List Fault). filter (is_of_burst n) own ++ xs) (passes e))
    ∙ order_after f (filter (is_of_burst n) own)
  where
    passes : (f.burst == n) ≡ true → filter (is_of_burst n) (f ∷ []) ≡ f ∷ []
    passes h = rw h refl

-- a fault of another burst is not among them
pub other_burst : (n : ℕ) (own : List Fault) (f : Fault) → (f.burst == n) ≡ false
    → faults_of_burst n (own ++ f ∷ []) ≡ faults_of_burst n own
unfolding faults_of_burst
other_burst n own f e =
    ap in_order (filter-append (is_of_burst n) own (f ∷ []) ∙ ap (λ (xs : List Fault). filter (is_of_burst n) own ++ xs) (fails e)
    ∙ append-nil (filter (is_of_burst n) own))
  where
    fails : (f.burst == n) ≡ false → filter (is_of_burst n) (f ∷ []) ≡ []
    fails h = rw h refl

-- the faults of a burst are in increasing order

insert_rises : (point : ℕ) (f : Fault) (ys : List Fault) → point ≤ f.after → IsRising point ys → IsRising point (insert_fault f ys)
insert_rises point f [] h r = (h, tt)
insert_rises point f (g ∷ ys) h r = split (nat_le f.after g.after)
    (λ e. rw e (h, (leb-true f.after g.after e, r.1)))
    (λ e. let low : g.after < f.after = leb-false f.after g.after e in
    rw e (r.0, insert_rises g.after f ys (omega arith) r.1))

order_rises : (xs : List Fault) → IsRising 0 (in_order xs)
order_rises [] = tt
order_rises (f ∷ xs) = insert_rises 0 f (in_order xs) (omega arith) (order_rises xs)

pub burst_rises : (n : ℕ) (faults : List Fault) → IsRising 0 (faults_of_burst n faults)
unfolding faults_of_burst
burst_rises n faults = order_rises (filter (is_of_burst n) faults)

-- two faults, one of which strikes before the other, are inserted in either order
pub after_both : (t f : Fault) (ys : List Fault) → t.after < f.after → put_after t (put_after f ys) ≡ put_after f (put_after t ys)
after_both t f [] h =
    after_here t f [] (lt-leb f.after t.after h) ∙ sym (after_later f t [] (le-leb t.after f.after (omega arith)))
after_both t f (g ∷ ys) h = split (nat_le g.after t.after)
    (λ gt. let low : g.after ≤ t.after = leb-true g.after t.after gt in
    let gf : nat_le g.after f.after ≡ true = le-leb g.after f.after (omega arith) in
    ap (put_after t) (after_later f g ys gf) ∙ after_later t g (put_after f ys) gt
    ∙ ap (λ (xs : List Fault). g ∷ xs) (after_both t f ys h)
    ∙ sym (ap (put_after f) (after_later t g ys gt) ∙ after_later f g (put_after t ys) gf))
    (λ tg. let tf : nat_le t.after f.after ≡ true = le-leb t.after f.after (omega arith) in
    split (nat_le g.after f.after)
    (λ gf. ap (put_after t) (after_later f g ys gf) ∙ after_here t g (put_after f ys) tg
    ∙ sym (ap (put_after f) (after_here t g ys tg) ∙ after_later f t (g ∷ ys) tf
    ∙ ap (λ (xs : List Fault). t ∷ xs) (after_later f g ys gf)))
    (λ fg. ap (put_after t) (after_here f g ys fg) ∙ after_here t f (g ∷ ys) (lt-leb f.after t.after h)
    ∙ sym (ap (put_after f) (after_here t g ys tg) ∙ after_later f t (g ∷ ys) tf
    ∙ ap (λ (xs : List Fault). t ∷ xs) (after_here f g ys fg))))
