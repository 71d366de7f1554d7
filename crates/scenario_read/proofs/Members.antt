-- An object has only known members if each name of the map is known.
use Rattle.std.proofs.Common.{◌≡◌, ◌↔◌, Bool, true, false, ◌&&◌, List, [], ◌∷◌, map, refl, ap, subst}
use Rattle.std.specs.Prelude.{IsTrue, All, String, string_bytes}
use Rattle.std.specs.List.{list_all}
use Rattle.std.specs.declared.alloc.Global.{Global}
use Rattle.std.proofs.lemmas.List.Sums.{AllPass-from_list_all, list_all-from_AllPass}
use Rattle.serde_json.specs.View.{members_view}
use Rattle.serde_json.specs.declared.value.Value.{Value}
use Rattle.input_defs.specs.Views.Readings.{is_key}
use Rattle.input_defs.specs.Reading.{all_known}
use Rattle.asm_defs.specs.declared.keys.Key.{Key}

same : (a b : Bool) → (a ≡ true → b ≡ true) → (b ≡ true → a ≡ true) → a ≡ b
same true true there back = refl
same true false there back = absurd (cc (there refl))
same false true there back = absurd (cc (back refl))
same false false there back = refl

known_names : (known : List Key) (entries : List (String Global × Value)) → list_all (λ name. is_key known (string_bytes name)) (map (λ entry. entry.0) entries) ≡ all_known known (members_view entries)
known_names known [] = refl
known_names known (entry ∷ more) = ap (λ rest. is_key known (string_bytes entry.0) && rest) (known_names known more)

pub all_known_is : (known : List Key) (entries : List (String Global × Value)) (r : Bool) → (IsTrue r ↔ All (λ name. IsTrue (is_key known (string_bytes name))) (map (λ entry. entry.0) entries)) → r ≡ all_known known (members_view entries)
all_known_is known entries r h =
    subst (λ b. r ≡ b) (known_names known entries)
    (same r _
    (λ e. list_all-from_AllPass (λ name. is_key known (string_bytes name)) (map (λ entry. entry.0) entries) (h.0 e))
    (λ e. h.1 (AllPass-from_list_all (λ name. is_key known (string_bytes name)) (map (λ entry. entry.0) entries) e)))
