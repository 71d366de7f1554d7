-- Two operations of one kind are the same if their fields are.
use Rattle.std.proofs.Common.{◌≡◌, ℕ, ◌&&◌, ◌==◌, Bool, true, false, true≢false, eq-eqb, List, bytes_eq, refl, sym, ap, ap₂, ◌∙◌}
use Rattle.std.proofs.lemmas.Bool.Decides.{Decides-and, Decides-at, Decides-eqb, Decides-like}
use Rattle.std.proofs.lemmas.Slice.Eq.{bytes_eq-Decides}
use Rattle.std.specs.Bool.{Decides}
use Rattle.nook_data.specs.declared.calls.Op.{Op}
use Rattle.nook_data.specs.declared.calls.Op.TheVariants as op

pub always : (r : Bool) (o : Op) → r ≡ true → Decides r (o ≡ o)
always r o h = (λ t. refl, λ e. h)

pub same_read : (r : Bool) (f n g m : ℕ) → r ≡ (f == g) && (n == m) → Decides r (op.Read f n ≡ op.Read g m)
same_read r f n g m h = Decides-at r ((f == g) && (n == m)) h
    (Decides-like ((f == g) && (n == m)) (λ p. ap₂ (λ (x y : ℕ). op.Read x y) p.0 p.1) (λ e. let p : f ≡ g = cc in let q : n ≡ m = cc in (p, q))
    (Decides-and (f == g) (n == m) (Decides-eqb f g) (Decides-eqb n m)))

pub same_set : (r : Bool) (f n g m : ℕ) → r ≡ (f == g) && (n == m) → Decides r (op.Set f n ≡ op.Set g m)
same_set r f n g m h = Decides-at r ((f == g) && (n == m)) h
    (Decides-like ((f == g) && (n == m)) (λ p. ap₂ (λ (x y : ℕ). op.Set x y) p.0 p.1) (λ e. let p : f ≡ g = cc in let q : n ≡ m = cc in (p, q))
    (Decides-and (f == g) (n == m) (Decides-eqb f g) (Decides-eqb n m)))

pub same_write : (r : Bool) (f g : ℕ) (n m : List ℕ) → r ≡ (f == g) && bytes_eq n m → Decides r (op.Write f n ≡ op.Write g m)
same_write r f g n m h = Decides-at r ((f == g) && bytes_eq n m) h
    (Decides-like ((f == g) && bytes_eq n m) (λ p. ap₂ (λ (x : ℕ) (y : List ℕ). op.Write x y) p.0 p.1) (λ e. let p : f ≡ g = cc in let q : n ≡ m = cc in (p, q))
    (Decides-and (f == g) (bytes_eq n m) (Decides-eqb f g) (bytes_eq-Decides n m)))

pub same_get : (r : Bool) (f g : ℕ) → r ≡ (f == g) → Decides r (op.Get f ≡ op.Get g)
same_get r f g h = Decides-at r (f == g) h (Decides-like (f == g) (λ p. ap (λ (x : ℕ). op.Get x) p) (λ e. cc) (Decides-eqb f g))

pub same_send : (r : Bool) (f g : List ℕ) → r ≡ bytes_eq f g → Decides r (op.Send f ≡ op.Send g)
same_send r f g h = Decides-at r (bytes_eq f g) h (Decides-like (bytes_eq f g) (λ p. ap (λ (x : List ℕ). op.Send x) p) (λ e. cc) (bytes_eq-Decides f g))

pub same_play : (r : Bool) (f g : List ℕ) → r ≡ bytes_eq f g → Decides r (op.Play f ≡ op.Play g)
same_play r f g h = Decides-at r (bytes_eq f g) h (Decides-like (bytes_eq f g) (λ p. ap (λ (x : List ℕ). op.Play x) p) (λ e. cc) (bytes_eq-Decides f g))

abbrev kind : Op → ℕ
kind (op.Read f n) = 0
kind (op.Write f n) = 1
kind (op.Send n) = 2
kind op.Recv = 3
kind op.Open = 4
kind (op.Play n) = 5
kind op.Close = 6
kind (op.Get f) = 7
kind (op.Set f n) = 8

pub other_kind : (r : Bool) (x y : Op) → r ≡ false → (kind x == kind y) ≡ false → Decides r (x ≡ y)
other_kind r x y h apart = (
  λ t. absurd (true≢false (sym t ∙ h)),
  λ e. absurd (true≢false (sym (eq-eqb (kind x) (kind y) (ap kind e)) ∙ apart)),
)
