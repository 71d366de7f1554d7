use Rattle.std.proofs.Common.{◌≡◌, ℕ, zero, suc, ◌&&◌, ◌||◌, not, eqb, Bool, true, false, Option, Some, None, List, [], ◌∷◌, sym, refl, ap, ap₂, ◌∙◌, arith, bytes_eq}
use Rattle.std.proofs.lemmas.Bool.{eqb-true, cond-true, cond-false, and_parts}
use Rattle.nook_data.specs.declared.machine.Act.{Act}
use Rattle.nook_data.specs.declared.machine.Act.TheVariants as act
use Rattle.nook_data.specs.declared.calls.Op.{Op}
use Rattle.nook_data.specs.declared.calls.Op.TheVariants.{Read, Write, Send, Recv, Open, Play, Close, Get, Set}
use Rattle.promise_defs.specs.Blocks.{words_for}
use Rattle.nook_data.specs.Classes.{covers, is_write}
use Rattle.part_laws.specs.Watch.{Watch, Watched, required, stores_at, is_covered, is_agreed, is_setting, sees_act, sees_acts}
use Rattle.nook_data.specs.Numbered.{at_number, number_where, one_later}
use Rattle.promise_defs.specs.Contract.{sets}
use Rattle.part_laws.specs.Facts.{At}
use Rattle.part_laws.proofs.Indices.{split, some_same}
use Rattle.part_laws.proofs.Subs.{same_bytes}

-- What follows from a kept clause.

-- a clause that is not broken was kept, and the earlier ones too
pub required_met : (t : Bool) (n : ℕ) (broken : Option ℕ) → required t n broken ≡ None → (t ≡ true) × (broken ≡ None)
required_met true n broken h = (refl, h)
required_met false n broken h = absurd cc

pub required_same : (t : Bool) (n : ℕ) (broken : Option ℕ) → t ≡ true → required t n broken ≡ broken
required_same true n broken h = refl
required_same false n broken h = absurd cc

pub act_clause : (call : ℕ) (a : Act) (w : Watch) → (sees_act call a w).clause ≡ None → w.clause ≡ None
act_clause call (act.Load block) w h = h
act_clause call (act.Failed block store) w h = h
act_clause call (act.Store block words) w h = (required_met _ 2 w.clause (required_met _ 1 (required _ 2 w.clause) h).1).1
act_clause call (act.Sent frame) w h = (required_met _ 6 w.clause (required_met _ 5 (required _ 6 w.clause) h).1).1
act_clause call (act.Popped frame) w h = h
act_clause call (act.Played word rate volume) w h = (required_met _ 10 w.clause h).1
act_clause call (act.Register key value) w h = (required_met _ 12 w.clause h).1

-- no act clears a broken clause
pub acts_clause : (call : ℕ) (acts : List Act) (w : Watch) → (sees_acts call acts w).clause ≡ None → w.clause ≡ None
acts_clause call [] w h = h
acts_clause call (a ∷ acts) w h = act_clause call a w (acts_clause call acts (sees_act call a w) h)

-- ---- the first item that passes a test

-- the item that was found passes the test
pub record FoundWhere {X : Type 0} (test : X → Bool) (xs : List X) (x : X) : Type 0 where
  pub index : ℕ
  pub number : number_where test xs ≡ suc index
  pub at : At xs index x
  pub passes : test x ≡ true

pub where_at : {X : Type 0} (test : X → Bool) (xs : List X) (x : X) → at_number (number_where test xs) xs ≡ Some x → FoundWhere test xs x
where_at test [] x h = absurd cc
where_at {X} test (y ∷ xs) x h = split (test y)
    (λ t. here t (sym (ap (λ n. at_number n (y ∷ xs)) (cond-true (test y) 1 (one_later (number_where test xs)) t)) ∙ h))
    (λ t. there t (number_where test xs) refl (sym (ap (λ n. at_number n (y ∷ xs)) (cond-false (test y) 1 (one_later (number_where test xs)) t)) ∙ h)
    (where_at test xs x))
  where
    here : test y ≡ true → Some y ≡ Some x → FoundWhere test (y ∷ xs) x
    here t e = record
        { index = 0; number = cond-true (test y) 1 (one_later (number_where test xs)) t; at = e; passes = ap test (sym (some_same y x e)) ∙ t }

    there : test y ≡ false → (n : ℕ) → number_where test xs ≡ n → at_number (one_later n) (y ∷ xs) ≡ Some x
        → (at_number (number_where test xs) xs ≡ Some x → FoundWhere test xs x) → FoundWhere test (y ∷ xs) x
    there t zero e h go = absurd cc
    there t (suc n) e h go = further (go (ap (λ n. at_number n xs) e ∙ h))
      where
        further : FoundWhere test xs x → FoundWhere test (y ∷ xs) x
        further f = record {
          index = suc f.index;
          number = cond-false (test y) 1 (one_later (number_where test xs)) t ∙ ap one_later f.number;
          at = f.at;
          passes = f.passes;
        }

-- the only item that passes is found
pub where_only : {X : Type 0} (test : X → Bool) (xs : List X) (k : ℕ) (x : X) → At xs k x → test x ≡ true
    → ((j : ℕ) (y : X) → At xs j y → test y ≡ true → j ≡ k) → number_where test xs ≡ suc k
where_only test [] k x h t only = absurd cc
where_only test (y ∷ xs) zero x h t only =
    cond-true (test y) 1 (one_later (number_where test xs)) (ap test (some_same y x h) ∙ t)
where_only test (y ∷ xs) (suc k) x h t only = split (test y)
    (λ e. absurd (omega (arith, only 0 y refl e)))
    (λ e. cond-false (test y) 1 (one_later (number_where test xs)) e
    ∙ ap one_later (where_only test xs k x h t (λ j z i u. omega (arith, only (suc j) z i u))))

-- ---- stores

-- a Write that is Inside and covers a block
pub record StoresAt (block : ℕ) (ws : List Watched) : Type 0 where
  pub index : ℕ
  pub call : Watched
  pub at : At ws index call
  pub inside : call.inside ≡ true
  pub writes : is_write call.op ≡ true
  pub covered : covers call.op block ≡ true

pub covered_at : (block : ℕ) (ws : List Watched) → is_covered block ws ≡ true → StoresAt block ws
covered_at block [] h = absurd cc
covered_at block (w ∷ ws) h = by_head (stores_at block w) refl h (covered_at block ws)
  where
    by_head : (t : Bool) → stores_at block w ≡ t → (t || is_covered block ws) ≡ true
        → (is_covered block ws ≡ true → StoresAt block ws) → StoresAt block (w ∷ ws)
    by_head true e h go = record {
      index = 0;
      call = w;
      at = refl;
      inside = (and_parts w.inside (is_write w.op) (and_parts (w.inside && is_write w.op) (covers w.op block) e).0).0;
      writes = (and_parts w.inside (is_write w.op) (and_parts (w.inside && is_write w.op) (covers w.op block) e).0).1;
      covered = (and_parts (w.inside && is_write w.op) (covers w.op block) e).1;
    }
    by_head false e h go = further (go h)
      where
        further : StoresAt block ws → StoresAt block (w ∷ ws)
        further s = record
            { index = suc s.index; call = s.call; at = s.at; inside = s.inside; writes = s.writes; covered = s.covered }

pub agreed_at : (block : ℕ) (words : List ℕ) (ws : List Watched) → is_agreed block words ws ≡ true
    → (k : ℕ) (w : Watched) → At ws k w → w.inside ≡ true → is_write w.op ≡ true → covers w.op block ≡ true
    → words ≡ words_for w.op block
agreed_at block words [] h k w i a b c = absurd cc
agreed_at block words (x ∷ ws) h zero w i a b c =
    same_bytes words (words_for w.op block)
    (at_head w.inside (is_write w.op) (covers w.op block) (bytes_eq words (words_for w.op block)) a b c
    (ap (λ y. not (stores_at block y) || bytes_eq words (words_for y.op block)) (sym (some_same x w i))
    ∙ (and_parts (not (stores_at block x) || bytes_eq words (words_for x.op block)) (is_agreed block words ws) h).0))
  where
    at_head : (a b c d : Bool) → a ≡ true → b ≡ true → c ≡ true → (not (a && b && c) || d) ≡ true → d ≡ true
    at_head true true true d h i j k = k
    at_head true true false d h i j k = absurd cc
    at_head true false c d h i j k = absurd cc
    at_head false b c d h i j k = absurd cc
agreed_at block words (x ∷ ws) h (suc k) w i a b c =
    agreed_at block words ws (and_parts (not (stores_at block x) || bytes_eq words (words_for x.op block)) (is_agreed block words ws) h).1 k w i a b c

-- ---- registers

pub sets_same : (key value : ℕ) (o : Op) → sets key value o ≡ true → o ≡ Set key value
sets_same key value (Set k v) h =
    ap₂ Set (eqb-true k key (and_parts (eqb k key) (eqb v value) h).0) (eqb-true v value (and_parts (eqb k key) (eqb v value) h).1)
sets_same key value (Read first count) h = absurd cc
sets_same key value (Write first words) h = absurd cc
sets_same key value (Send frame) h = absurd cc
sets_same key value Recv h = absurd cc
sets_same key value Open h = absurd cc
sets_same key value (Play samples) h = absurd cc
sets_same key value Close h = absurd cc
sets_same key value (Get k) h = absurd cc

-- a Set of a key and value that is Inside
pub record SetsAt (key value : ℕ) (ws : List Watched) : Type 0 where
  pub index : ℕ
  pub call : Watched
  pub at : At ws index call
  pub inside : call.inside ≡ true
  pub sets : call.op ≡ Set key value

pub setting_at : (key value : ℕ) (ws : List Watched) → is_setting key value ws ≡ true → SetsAt key value ws
setting_at key value [] h = absurd cc
setting_at key value (w ∷ ws) h = by_head (w.inside && sets key value w.op) refl h (setting_at key value ws)
  where
    by_head : (t : Bool) → (w.inside && sets key value w.op) ≡ t → (t || is_setting key value ws) ≡ true
        → (is_setting key value ws ≡ true → SetsAt key value ws) → SetsAt key value (w ∷ ws)
    by_head true e h go = record {
      index = 0;
      call = w;
      at = refl;
      inside = (and_parts w.inside (sets key value w.op) e).0;
      sets = sets_same key value w.op (and_parts w.inside (sets key value w.op) e).1;
    }
    by_head false e h go = further (go h)
      where
        further : SetsAt key value ws → SetsAt key value (w ∷ ws)
        further s = record { index = suc s.index; call = s.call; at = s.at; inside = s.inside; sets = s.sets }
