-- Members and lists of texts and unsigned numbers.
use Rattle.std.proofs.Common.{◌≡◌, ℕ, ◌^◌, ◌<◌, true, IsUtf8, List, [], ◌∷◌, arith}
use Rattle.std.specs.Prelude.{All}
use Rattle.std.proofs.lemmas.List.Elements.{All-head, All-tail}
use Rattle.json.proofs.Printed.Utf8.{are_ascii, IsUtf8-are_ascii}
use Rattle.serde_json.specs.Data.{Data, Members}
use Rattle.nook_data.specs.Valid.{IsWord}
use Rattle.asm_defs.specs.Keys.{key_text}
use Rattle.asm_defs.specs.declared.keys.Key.{Key}
use Rattle.reading_laws.proofs.PlainData.{ArePlain, ArePlainMembers, IsPlain}
use Rattle.scenario_write.specs.ScenarioText.{at, items_with, list_data, number_data, numbers_data}

pub with : (n : ℕ) (k : Key) (d : Data) (more : Members) → are_ascii (key_text k) ≡ true → IsPlain n d → ArePlainMembers n more → ArePlainMembers n (at k d more)
with n k d more e p q = (IsUtf8-are_ascii (key_text k) e, p, q)

pub text : (s : List ℕ) → are_ascii s ≡ true → IsUtf8 s
text s e = IsUtf8-are_ascii s e

pub named : (k : Key) → are_ascii (key_text k) ≡ true → IsUtf8 (key_text k)
named k e = IsUtf8-are_ascii (key_text k) e

pub wide : (n : ℕ) → IsWord n → n < 2 ^ 64
wide n h = omega (arith, h)

items_plain : {T : Type 0} (n : ℕ) (data_of : T → Data) (P : T → Type 0) → ((x : T) → P x → IsPlain n (data_of x)) → (xs : List T) → All P xs → ArePlain n (items_with data_of xs)
items_plain n data_of P each [] h = tt
items_plain n data_of P each (x ∷ xs) h = (each x (All-head P x xs h), items_plain n data_of P each xs (All-tail P x xs h))

pub list_plain : {T : Type 0} (n m : ℕ) (data_of : T → Data) (P : T → Type 0) → m < n → ((x : T) → P x → IsPlain m (data_of x)) → (xs : List T) → All P xs → IsPlain n (list_data data_of xs)
list_plain n m data_of P deep each xs h = (m, deep, items_plain m data_of P each xs h)

pub words_plain : (n : ℕ) (ns : List ℕ) → 0 < n → All IsWord ns → IsPlain n (numbers_data ns)
words_plain n ns deep h = list_plain n 0 number_data IsWord deep wide ns h
