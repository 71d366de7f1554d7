-- Each step of a turn preserves its rule.
use Rattle.std.proofs.Common.{◌≡◌, ◌≢◌, ℕ, ◌+◌, ◌-◌, ◌*◌, ◌/◌, ◌%◌, ◌^◌, ◌<◌, ◌≤◌, eqb, Bool, true, false, List, [], ◌∷◌, ◌++◌, length, get_or, set, Option, Some, None, All, Contains, sym, refl, ap, ◌∙◌, subst, ⊎_elim, arith, append-nil, length-append, length-set}
use Rattle.std.proofs.lemmas.List.Elements.{All-append, All-push, All-contains, Contains-append_cases, Contains-append_left, Contains-push, Contains-push_cases}
use mathlib.Core.List.{IsPrefix}
use mathlib.Core.Option.{none, some}
use mathlib.Core.Option.{Option as Slot}
use lib.ListN.{get_elem?}
use lib.Seq.{set-get_or, set_comm}
use mathlib.Core.Logic.{dite}
use native.Mathlib.Decide.{ℕ_discrete}
use prog.Atomic.{either}
use Rattle.atomic_table.specs.Table.{State, Me, Act, put_back, step, keeps, takes, gives, stepped, opening, Valid, carried_after, Allows, Splits, Joins}
use Rattle.atomic_table.proofs.Lists.{at_set, set_here, set_else, at_longer, exchanged}
use Rattle.shares.specs.Shares.{owns}
use Rattle.shares.proofs.Shares.{half_in, half_has, halves_apart, in_left, in_one}
use Rattle.turn_lock.specs.declared.view.View.{View}
use Rattle.turn_lock.specs.Views.{longer, opener, took, committed, gave, halved, newcomer, spent, joined, learnt}
use Rattle.turn_lock.specs.Seats.{IsAlone, MadeIsSeen}
use Rattle.turn_lock.specs.Turns.{bit, carried_list, Fits, Apart, AreViews, AreMade, IsTurn, Takes, Commits, Gives, Looks, Learns}
use Rattle.turn_lock.proofs.Prefixes.{prefix_refl, prefix_nil, prefix_trans, prefix_snoc, prefix_length, longer_begins, shorter_begins, longer_long}
use Rattle.turn_lock.proofs.ViewLists.{never, set_there, only, none_in, views_set, views_more, holds_set, same_far, spent_fits, spent_apart, all_seen, made_is_seen_of, made_set, made_more, made_join}

one_bit : (b : Bool) → bit b ≤ 1
one_bit true = omega arith
one_bit false = omega arith

-- if the word is even, the turn is not out
even_in : (n : ℕ) (b : Bool) → (2 * n + bit b) % 2 ≡ 0 → b ≡ false
even_in n true e = absurd (omega arith)
even_in n false e = refl

All-more : (l m n : ℕ) (ps : List ℕ) → m ≤ n → All (λ p. (l < p) × (p ≤ m)) ps → All (λ p. (l < p) × (p ≤ n)) ps
All-more l m n ps le h k d lt = let here = h k d lt in (here.0, let up = here.1 in omega arith)

module _ {T E O : Type 0} (list : T → List E) (origin : T → O) (home : O) (start : ℕ) where
  abbrev V : Type 0
  V = View E O

  abbrev St : Type 0
  St = State (Option T) V

  abbrev M : Type 0
  M = Me (Option T) V

  abbrev Rule : St → Type 0
  Rule = IsTurn list origin home start

  not_gone : (v u : V) (o : O) → v.origin ≡ Some o → v.origin ≡ None → u ≡ spent
  not_gone v u o own lost = absurd (cc)

  -- what every seat may claim
  made_is_seen : (s : St) (k : Rule s) (id : ℕ) (v : V) (o : O) → get_elem? s.views id ≡ some v → v.origin ≡ Some o → MadeIsSeen v
  made_is_seen s k id v o at own = made_is_seen_of k.all home start k.out k.holder s.views k.views k.made id v o at own

  sees : (s : St) (k : Rule s) (id : ℕ) (v : V) (o : O) → get_elem? s.views id ≡ some v → v.origin ≡ Some o → IsAlone v → v.seen ≡ k.all
  sees s k id v o at own alone = all_seen k.all home start k.out k.holder s.views k.views k.made id v o at own alone

  word_at : (s : St) (k : Rule s) → get_or s.words 0 0 ≡ 2 * length k.all + bit k.out
  word_at s k = ap (λ (ws : List ℕ). get_or ws 0 0) k.word

  word_set : (s : St) (k : Rule s) (n m : ℕ) → n ≡ m → set s.words 0 n ≡ m ∷ []
  word_set s k n m e = ap (λ (ws : List ℕ). set ws 0 n) k.word ∙ ap (λ (z : ℕ). z ∷ []) e

  pub opens : (n : ℕ) (x : T) (items : List (Option T)) → n ≡ length (list x) → length (list x) < 2 ^ 62 → origin x ≡ home → length (list x) ≡ start → items ≡ Some x ∷ [] → Rule (opening (2 * n ∷ []) items (opener (list x) home))
  opens n x items is short own begun here = subst (λ (l : List (Option T)). Rule (opening (2 * n ∷ []) l (opener (list x) home))) (sym here) record {
    all = list x;
    out = false;
    holder = 0;
    word = ap (λ (z : ℕ). z ∷ []) (omega arith);
    short = short;
    slots = omega arith;
    slot = λ _. (x, refl, refl, own);
    held = λ e. never e;
    views = record {
      fits = λ j v e. subst (λ (z : V). Fits (list x) home start false 0 j z) (only (opener (list x) home) v j e).1 record {
        seen = prefix_refl (list x);
        pending = prefix_nil (list x);
        made = λ k d lt. absurd (omega arith);
        origin = λ o e. cc;
        begins = λ o e. (begun, omega arith);
        owner = λ o e. ((λ _. true), refl);
        gone = λ e. absurd (cc);
        turn = λ e. never e;
      };
      apart = λ i j v w ne a b. absurd (ne ((only (opener (list x) home) v i a).0 ∙ sym (only (opener (list x) home) w j b).0));
    };
    made = λ p past le. absurd (omega arith);
  }

  still_made : (s : St) (k : Rule s) (id : ℕ) (v w : V) → get_elem? s.views id ≡ some v → w.made ≡ v.made → AreMade start (length k.all) (set s.views id w)
  still_made s k id v w at same = made_set start (length k.all) s.views id v w at (λ p h. subst (λ (l : List ℕ). Contains l p) (sym same) h) k.made

  -- a step that changes neither the word nor a slot
  unmoved : (s : St) (k : Rule s) (id : ℕ) (c : List (ℕ × Option T)) (v w : V) → get_elem? s.views id ≡ some v → (v.has ≡ true → w.has ≡ true) → w.made ≡ v.made → AreViews k.all home start k.out k.holder (set s.views id w)
      → Rule (stepped s 0 (get_or s.words 0 0) id c w keeps)
  unmoved s k id c v w at has same views = record {
    all = k.all;
    out = k.out;
    holder = k.holder;
    word = set-get_or s.words 0 0 ∙ k.word;
    short = k.short;
    slots = k.slots;
    slot = k.slot;
    held = λ o. holds_set s.views id k.holder v w at has (k.held o);
    views = views;
    made = still_made s k id v w at same;
  }

  -- one view changes, but gains neither a number in `made` nor a point of a share
  kept_views : (s : St) (k : Rule s) (id : ℕ) (v w : V) → get_elem? s.views id ≡ some v → w.made ≡ v.made → ((point : ℕ → Bool) → owns w.share point ≡ true → owns v.share point ≡ true)
      → Fits k.all home start k.out k.holder id w → AreViews k.all home start k.out k.holder (set s.views id w)
  kept_views s k id v w at made less mine = views_set k.all k.all home start k.out k.out k.holder k.holder id s.views w k.views mine (λ j u _ e. k.views.fits j u e)
      (λ j u ne e. same_far v w u made less (k.views.apart id j v u (λ z. ne (sym z)) at e) (k.views.apart j id u v ne e at))

  pub looks : (slots id : ℕ) (m : M) (o : O) → m.0.origin ≡ Some o → Allows Rule slots id m 0 (λ n. n) (Looks (step slots 0 0 0 none) m)
  looks slots id m o own s k _ at _ =
      let f = k.views.fits id m.0 at in
      let word = word_at s k in
      let one = one_bit k.out in
      let half : get_or s.words 0 0 / 2 ≡ length k.all = omega arith in (
        m.0,
        keeps,
        tt,
        unmoved s k id m.1 m.0 m.0 at (λ h. h) refl (kept_views s k id m.0 m.0 at refl (λ _ a. a) f),
        record {
          same = refl;
          seen = let long = prefix_length m.0.seen k.all f.seen in omega arith;
          taken = λ h. half ∙ sym (ap length (f.turn h).2);
          alone = λ h. half ∙ sym (ap length (sees s k id m.0 o at own h));
          made_is_seen = made_is_seen s k id m.0 o at own;
        },
      )

  pub learns : (slots id : ℕ) (m : M) (o : O) → m.0.origin ≡ Some o → Allows Rule slots id m 0 (λ n. n) (Learns (step slots 0 0 0 none) m)
  learns slots id m o own s k _ at _ =
      let f = k.views.fits id m.0 at in
      let w : V = learnt m.0 in (
        w,
        keeps,
        tt,
        unmoved s k id m.1 m.0 w at (λ h. h) refl (kept_views s k id m.0 w at refl (λ _ a. a) record {
          seen = f.seen;
          pending = prefix_nil m.0.seen;
          made = f.made;
          origin = f.origin;
          begins = f.begins;
          owner = f.owner;
          gone = λ lost. not_gone m.0 w o own lost;
          turn = f.turn;
        }),
        (refl, f.pending, let t = made_is_seen s k id m.0 o at own in record { within = t.within; all = t.all }),
      )

  -- for a step that sets the word to n, the seat can choose a view and an act
  abbrev Goes : St → ℕ → M → ℕ → (M → Type 0) → Type 0
  Goes s id m n then = (w : V) × (a : Act (Option T)) × Valid s.homes m.1 a × Rule (stepped s 0 n id m.1 w a) × then (w, carried_after m.1 a)

  wins : (slots id old : ℕ) (m : M) (o : O) → m.1 ≡ [] → m.0.origin ≡ Some o → (s : St) (k : Rule s) → get_elem? s.views id ≡ some m.0 → get_or s.words 0 0 ≡ old → k.out ≡ false
      → Goes s id m (old + 1) (Takes list origin (step slots 0 old (old + 1) none) m (get_or s.words 0 0))
  wins slots id old m o empty own s k at hit isin =
      let f = k.views.fits id m.0 at in
      let x : T = (k.slot isin).0 in
      let is : list x ≡ k.all = (k.slot isin).2 in
      let w : V = took m.0 (list x) in
      let word = word_at s k in
      let even : bit k.out ≡ 0 = ap bit isin in (
        w,
        takes 0 (Some x),
        (k.slot isin).1,
        record {
          all = k.all;
          out = true;
          holder = id;
          word = word_set s k (old + 1) (2 * length k.all + bit true) (omega arith);
          short = k.short;
          slots = let many = k.slots in omega (arith, length-set s.homes 0 none);
          slot = λ e. never (sym e);
          held = λ _. (w, set_there s.views id m.0 w at, refl);
          views = views_set k.all k.all home start k.out true k.holder id id s.views w k.views record {
            seen = f.seen;
            pending = f.pending;
            made = f.made;
            origin = f.origin;
            begins = f.begins;
            owner = f.owner;
            gone = λ lost. not_gone m.0 w o own lost;
            turn = λ _. (refl, refl, is);
          } (λ j u ne e. let g = k.views.fits j u e in record {
            seen = g.seen;
            pending = g.pending;
            made = g.made;
            origin = g.origin;
            begins = g.begins;
            owner = g.owner;
            gone = g.gone;
            turn = λ h. never (sym isin ∙ (g.turn h).1);
          }) (λ j u ne e. same_far m.0 w u refl (λ _ a. a) (k.views.apart id j m.0 u (λ z. ne (sym z)) at e) (k.views.apart j id u m.0 ne e at));
          made = still_made s k id m.0 w at refl;
        },
        (
          (λ _. record {
            value = x;
            slot = ap (λ (z : List (ℕ × Option T)). (0, Some x) ∷ z) empty;
            view = refl;
            begins = subst (IsPrefix m.0.seen) (sym is) f.seen;
            home = λ h e. (k.slot isin).3 ∙ sym (f.origin h e);
            alone = λ a. is ∙ sym (sees s k id m.0 o at own a);
            short = let small = k.short in omega (arith, ap length is);
            made_is_seen = let t = made_is_seen s k id m.0 o at own in record { within = t.within; all = t.all };
          }),
          λ miss. absurd (miss hit),
        ),
      )

  misses : (slots id old : ℕ) (m : M) (o : O) → m.0.origin ≡ Some o → (s : St) (k : Rule s) → get_elem? s.views id ≡ some m.0 → get_or s.words 0 0 ≢ old
      → Goes s id m (get_or s.words 0 0) (Takes list origin (step slots 0 old (old + 1) none) m (get_or s.words 0 0))
  misses slots id old m o own s k at miss =
      (m.0, keeps, tt, unmoved s k id m.1 m.0 m.0 at (λ h. h) refl (kept_views s k id m.0 m.0 at refl (λ _ a. a) (k.views.fits id m.0 at)), ((λ hit. absurd (miss hit)), λ _. refl))

  pub takes_turn : (slots id old : ℕ) (m : M) (o : O) → old % 2 ≡ 0 → m.1 ≡ [] → m.0.origin ≡ Some o
      → Allows Rule slots id m 0 (λ n. either (eqb n old) (old + 1) n) (Takes list origin (step slots 0 old (old + 1) none) m)
  takes_turn slots id old m o even empty own s k _ at _ = exchanged (get_or s.words 0 0) old (old + 1)
      (λ n. Goes s id m n (Takes list origin (step slots 0 old (old + 1) none) m (get_or s.words 0 0)))
      (λ hit. wins slots id old m o empty own s k at hit (even_in (length k.all) k.out (ap (λ (z : ℕ). z % 2) (sym (word_at s k) ∙ hit) ∙ even)))
      (λ miss. misses slots id old m o own s k at miss)

  -- if a seat has the turn, no other seat has it
  no_turn : (s : St) (k : Rule s) (id j : ℕ) (v u : V) → v.has ≡ true → get_elem? s.views id ≡ some v → j ≢ id → get_elem? s.views j ≡ some u → u.has ≡ true → ⊥
  no_turn s k id j v u has at ne e h = ne (((k.views.fits j u e).turn h).0 ∙ sym ((k.views.fits id v at).turn has).0)

  -- the views after a commit that makes the list `all`
  commit_views : (s : St) (k : Rule s) (id : ℕ) (v : V) (o : O) (x : E) (all : List E) → v.has ≡ true → all ≡ v.taken ++ x ∷ [] → v.origin ≡ Some o → get_elem? s.views id ≡ some v
      → AreViews all home start k.out k.holder (set s.views id (committed v all))
  commit_views s k id v o x all has is own at =
      let f = k.views.fits id v at in
      let t = f.turn has in
      let more : all ≡ k.all ++ x ∷ [] = is ∙ ap (λ (z : List E). z ++ (x ∷ [])) t.2 in
      let grows : IsPrefix k.all all = prefix_snoc k.all all x more in
      let one_more : length all ≡ length k.all + 1 = omega (arith, ap length more, length-append k.all (x ∷ [])) in
      let pending : IsPrefix v.pending all = prefix_trans v.pending v.seen all f.pending (prefix_trans v.seen k.all all f.seen grows) in
      let long : length v.seen ≤ length k.all = prefix_length v.seen k.all f.seen in
      let begun : start ≤ length v.seen = (f.begins o own).1 in
      views_set k.all all home start k.out k.out k.holder k.holder id s.views (committed v all) k.views record {
        seen = prefix_refl all;
        pending = pending;
        made = All-push (λ p. (start < p) × (p ≤ length all)) v.made (length all) (All-more start (length v.seen) (length all) v.made (omega arith) f.made) (omega arith, omega arith);
        origin = f.origin;
        begins = λ h e. ((f.begins h e).0, omega arith);
        owner = f.owner;
        gone = λ lost. not_gone v (committed v all) o own lost;
        turn = λ _. (t.0, t.1, refl);
      } (λ j u ne e. let g = k.views.fits j u e in record {
        seen = prefix_trans u.seen k.all all g.seen grows;
        pending = g.pending;
        made = g.made;
        origin = g.origin;
        begins = g.begins;
        owner = g.owner;
        gone = g.gone;
        turn = λ h. absurd (no_turn s k id j v u has at ne e h);
      }) (λ j u ne e.
      let g = k.views.fits j u e in
      let far = k.views.apart id j v u (λ z. ne (sym z)) at e in
      let fresh : (p : ℕ) → Contains (v.made ++ length all ∷ []) p → Contains u.made p → ⊥ = λ p a b.
      ⊎_elim (λ old. far.made p old b)
      (λ (new : length all ≡ p). let low = (All-contains (λ q. (start < q) × (q ≤ length u.seen)) u.made p g.made b).1 in let less = prefix_length u.seen k.all g.seen in omega arith)
      (Contains-push_cases v.made (length all) p a)
      in (
        record { share = far.share; made = fresh },
        record { share = λ point a b. far.share point b a; made = λ p a b. fresh p b a },
      ))

  -- and the new entry was made through a seat too
  commit_made : (s : St) (k : Rule s) (id : ℕ) (v : V) (all : List E) → length all ≡ length k.all + 1 → get_elem? s.views id ≡ some v → AreMade start (length all) (set s.views id (committed v all))
  commit_made s k id v all more at p past le = dite (ℕ_discrete (length all) p)
      (λ (e : length all ≡ p). (id, committed v all, set_there s.views id v (committed v all) at, subst (Contains (v.made ++ length all ∷ [])) e (Contains-push v.made (length all))))
      (λ (ne : length all ≢ p). made_set start (length k.all) s.views id v (committed v all) at (λ q h. Contains-append_left v.made (length all ∷ []) q h) k.made p past (grind arith))

  pub commits : (slots id : ℕ) (m : M) (o : O) (x : E) (y : T) → m.1 ≡ (0, Some y) ∷ [] → m.0.has ≡ true → list y ≡ m.0.taken ++ x ∷ [] → m.0.origin ≡ Some o → length (list y) < 2 ^ 62
      → Allows Rule slots id m 0 (λ n. (n + 2) % 2 ^ 64) (Commits list (step slots 0 2 0 none) m)
  commits slots id m o x y slot has is own short s k _ at _ =
      let v : V = m.0 in
      let all : List E = list y in
      let w : V = committed v all in
      let t = (k.views.fits id v at).turn has in
      let one_more : length all ≡ length k.all + 1 = omega (arith, ap length (is ∙ ap (λ (z : List E). z ++ (x ∷ [])) t.2), length-append k.all (x ∷ [])) in
      let word = word_at s k in
      let one = one_bit k.out in
      let small = k.short in (
        w,
        keeps,
        tt,
        record {
          all = all;
          out = k.out;
          holder = k.holder;
          word = word_set s k ((get_or s.words 0 0 + 2) % 2 ^ 64) (2 * length all + bit k.out) (omega arith);
          short = short;
          slots = k.slots;
          slot = λ e. never (sym e ∙ t.1);
          held = λ e. holds_set s.views id k.holder v w at (λ h. h) (k.held e);
          views = commit_views s k id v o x all has is own at;
          made = commit_made s k id v all one_more at;
        },
        ap (λ (z : List E). (committed v z, m.1)) (sym (ap (carried_list list) slot)),
      )

  give_views : (s : St) (k : Rule s) (id : ℕ) (v : V) (o : O) → v.has ≡ true → v.origin ≡ Some o → get_elem? s.views id ≡ some v → AreViews k.all home start false k.holder (set s.views id (gave v))
  give_views s k id v o has own at =
      let f = k.views.fits id v at in
      let t = f.turn has in
      let grows : IsPrefix v.seen v.taken = subst (IsPrefix v.seen) (sym t.2) f.seen in
      views_set k.all k.all home start k.out false k.holder k.holder id s.views (gave v) k.views record {
        seen = ([], append-nil v.taken ∙ t.2);
        pending = prefix_trans v.pending v.seen v.taken f.pending grows;
        made = All-more start (length v.seen) (length v.taken) v.made (prefix_length v.seen v.taken grows) f.made;
        origin = f.origin;
        begins = λ h e. let b = f.begins h e in (b.0, let begun = b.1 in let long = prefix_length v.seen v.taken grows in omega arith);
        owner = f.owner;
        gone = λ lost. not_gone v (gave v) o own lost;
        turn = λ h. never h;
      } (λ j u ne e. let g = k.views.fits j u e in record {
        seen = g.seen;
        pending = g.pending;
        made = g.made;
        origin = g.origin;
        begins = g.begins;
        owner = g.owner;
        gone = g.gone;
        turn = λ h. absurd (no_turn s k id j v u has at ne e h);
      }) (λ j u ne e. same_far v (gave v) u refl (λ _ a. a) (k.views.apart id j v u (λ z. ne (sym z)) at e) (k.views.apart j id u v ne e at))

  pub gives_turn : (slots id : ℕ) (m : M) (o : O) (y : T) → m.1 ≡ (0, Some y) ∷ [] → m.0.has ≡ true → list y ≡ m.0.taken → m.0.origin ≡ Some o → origin y ≡ home
      → Allows Rule slots id m 0 (λ n. (n + (2 ^ 64 - 1)) % 2 ^ 64) (Gives (step slots 0 1 0 none) m)
  gives_turn slots id m o y slot has is own from s k _ at _ =
      let v : V = m.0 in
      let t = (k.views.fits id v at).turn has in
      let word = word_at s k in
      let odd : bit k.out ≡ 1 = ap bit t.1 in
      let small = k.short in
      let homes : List (Slot (Option T)) = put_back s.homes m.1 in
      let back : homes ≡ set s.homes 0 (some (Some y)) = ap (put_back s.homes) slot in (
        gave v,
        gives,
        tt,
        record {
          all = k.all;
          out = false;
          holder = k.holder;
          word = word_set s k ((get_or s.words 0 0 + (2 ^ 64 - 1)) % 2 ^ 64) (2 * length k.all + bit false) (omega arith);
          short = k.short;
          slots = let many = k.slots in omega (arith, length-set s.homes 0 (some (Some y)), ap length back);
          slot = λ _. (y, ap (λ (l : List (Slot (Option T))). get_elem? l 0) back ∙ set_here s.homes 0 (some (Some y)) k.slots, is ∙ t.2, from);
          held = λ e. never e;
          views = give_views s k id v o has own at;
          made = still_made s k id v (gave v) at refl;
        },
        (refl, made_is_seen_of k.all home start false k.holder (set s.views id (gave v)) (give_views s k id v o has own at) (still_made s k id v (gave v) at refl) id (gave v) o (set_there s.views id v (gave v) at) own),
      )

  -- the views after a split
  split_views : (s : St) (k : Rule s) (id : ℕ) (v : V) (o : O) → v.origin ≡ Some o → get_elem? s.views id ≡ some v → AreViews k.all home start k.out k.holder (set s.views id (halved v) ++ newcomer v ∷ [])
  split_views s k id v o own at =
      let f = k.views.fits id v at in
      let left : V = halved v in
      let right : V = newcomer v in
      let first : AreViews k.all home start k.out k.holder (set s.views id left) = kept_views s k id v left at refl (half_in false v.share) record {
        seen = f.seen;
        pending = f.pending;
        made = f.made;
        origin = f.origin;
        begins = f.begins;
        owner = λ h e. let point = f.owner h e in half_has false v.share point.0 point.1;
        gone = λ lost. not_gone v left o own lost;
        turn = f.turn;
      } in
      views_more k.all home start k.out k.holder (set s.views id left) right first (λ j. record {
        seen = f.seen;
        pending = prefix_nil v.seen;
        made = λ i d lt. absurd (omega arith);
        origin = f.origin;
        begins = f.begins;
        owner = λ h e. let point = f.owner h e in half_has true v.share point.0 point.1;
        gone = λ lost. not_gone v right o own lost;
        turn = λ h. never h;
      }) (λ j u e.
      let no_both : (point : ℕ → Bool) → owns u.share point ≡ true → owns right.share point ≡ true → ⊥ = λ point a b. ⊎_elim
      (λ (t : (j ≡ id) × (left ≡ u)). halves_apart v.share point (subst (λ (z : V). owns z.share point ≡ true) (sym t.1) a) b)
      (λ (t : (j ≢ id) × (get_elem? s.views j ≡ some u)). (k.views.apart j id u v t.0 t.1 at).share point a (half_in true v.share point b))
      (at_set s.views id j left u e) in (
        record { share = λ point a b. no_both point b a; made = λ p a b. none_in p a },
        record { share = no_both; made = λ p a b. none_in p b },
      ))

  pub splits : (id : ℕ) (v : V) (o : O) → v.origin ≡ Some o → Splits Rule id v (halved v) (newcomer v)
  splits id v o own s k at = record {
    all = k.all;
    out = k.out;
    holder = k.holder;
    word = k.word;
    short = k.short;
    slots = k.slots;
    slot = k.slot;
    held = λ e. let h = holds_set s.views id k.holder v (halved v) at (λ z. z) (k.held e) in (h.0, at_longer (set s.views id (halved v)) (newcomer v ∷ []) k.holder h.0 h.1, h.2);
    views = split_views s k id v o own at;
    made = made_more start (length k.all) (set s.views id (halved v)) (newcomer v ∷ []) (still_made s k id v (halved v) at refl);
  }

  -- the views after a join
  join_views : (s : St) (k : Rule s) (id other : ℕ) (v w : V) (o : O) → other ≢ id → v.origin ≡ Some o → get_elem? s.views id ≡ some v → get_elem? s.views other ≡ some w
      → AreViews k.all home start k.out k.holder (set (set s.views other spent) id (joined v w))
  join_views s k id other v w o ne own at at' =
      let f = k.views.fits id v at in
      let g = k.views.fits other w at' in
      let id_ne : id ≢ other = λ e. ne (sym e) in
      let first : AreViews k.all home start k.out k.holder (set s.views other spent) = views_set k.all k.all home start k.out k.out k.holder k.holder other s.views spent k.views
      (spent_fits k.all home start k.out k.holder other) (λ j u _ e. k.views.fits j u e) (λ j u _ _. spent_apart u) in
      let there : get_elem? (set s.views other spent) id ≡ some v = set_else s.views other id spent id_ne ∙ at in
      let long = longer_long v.seen w.seen in
      let J : V = joined v w in
      let L : ℕ = length (longer v.seen w.seen) in
      views_set k.all k.all home start k.out k.out k.holder k.holder id (set s.views other spent) J first record {
        seen = longer_begins v.seen w.seen k.all f.seen g.seen;
        pending = shorter_begins v.seen w.seen k.all f.seen g.seen;
        made = All-append (λ p. (start < p) × (p ≤ L)) v.made w.made (All-more start (length v.seen) L v.made long.0 f.made) (All-more start (length w.seen) L w.made long.1 g.made);
        origin = f.origin;
        begins = λ h e. let b = f.begins h e in (b.0, let begun = b.1 in let longer = long.0 in omega arith);
        owner = λ h e. let point = f.owner h e in (point.0, in_left v.share w.share point.0 point.1);
        gone = λ lost. not_gone v J o own lost;
        turn = f.turn;
      } (λ j u _ e. first.fits j u e) (λ j u far e.
      let vu = first.apart id j v u (λ z. far (sym z)) there e in
      let wu : Apart w u = ⊎_elim
      (λ (t : (j ≡ other) × (spent ≡ u)). subst (Apart w) t.1 (spent_apart w).1)
      (λ (t : (j ≢ other) × (get_elem? s.views j ≡ some u)). k.views.apart other j w u (λ z. t.0 (sym z)) at' t.1)
      (at_set s.views other j spent u e) in
      let no_both : (point : ℕ → Bool) → owns (v.share ++ w.share) point ≡ true → owns u.share point ≡ true → ⊥ = λ point a b. ⊎_elim (λ c. vu.share point c b) (λ c. wu.share point c b) (in_one v.share w.share point a) in
      let both : (p : ℕ) → Contains (v.made ++ w.made) p → Contains u.made p → ⊥ = λ p a b. ⊎_elim (λ c. vu.made p c b) (λ c. wu.made p c b) (Contains-append_cases v.made w.made p a) in (
        record { share = no_both; made = both },
        record { share = λ point a b. no_both point b a; made = λ p a b. both p b a },
      ))

  pub joins : (id other : ℕ) (v w : V) (o : O) → v.origin ≡ Some o → w.has ≡ false → Joins Rule id v other w (joined v w) spent
  joins id other v w o own free s k at ne there =
      let at' : get_elem? s.views other ≡ some w = sym (set_else s.views id other (joined v w) ne) ∙ there in
      let turned : set (set s.views id (joined v w)) other spent ≡ set (set s.views other spent) id (joined v w) = set_comm s.views id other (joined v w) spent (λ e. ne (sym e)) in
      subst (λ (l : List V). Rule record { words = s.words; homes = s.homes; views = l }) (sym turned) record {
        all = k.all;
        out = k.out;
        holder = k.holder;
        word = k.word;
        short = k.short;
        slots = k.slots;
        slot = k.slot;
        held = λ e. holds_set (set s.views other spent) id k.holder v (joined v w) (set_else s.views other id spent (λ z. ne (sym z)) ∙ at) (λ h. h)
            (holds_set s.views other k.holder w spent at' (λ h. sym free ∙ h) (k.held e));
        views = join_views s k id other v w o ne own at at';
        made = made_join start (length k.all) s.views id other v w ne at at' k.made;
      }

-- the steps that only load the word
pub ruleset loads = (looks, learns)
