-- Names are text.
use Rattle.std.proofs.Common.{◌≡◌, ◌<◌, ℕ, true, List, [], ◌∷◌, slice_index, zero, suc, arith}
use Rattle.std.proofs.lemmas.Grind.{common_steps}
use Rattle.std.proofs.lemmas.Str.{IsUtf8-from_ascii}
use Rattle.std.specs.Str.{IsUtf8}
use Rattle.std.specs.List.{list_all}
use Rattle.nook_data.specs.Names.{is_name, is_name_byte}

pub name_byte_ascii : (b : ℕ) → is_name_byte b ≡ true → b < 128
name_byte_ascii b h = grind (arith, common_steps)

pub name_bytes_ascii : (bs : List ℕ) (i : ℕ) → list_all is_name_byte bs ≡ true → slice_index bs i < 128
name_bytes_ascii [] i h = grind (arith, common_steps)
name_bytes_ascii (b ∷ bs) zero h = let e : is_name_byte b ≡ true = grind (arith, common_steps) in name_byte_ascii b e
name_bytes_ascii (b ∷ bs) (suc i) h = let e : list_all is_name_byte bs ≡ true = grind (arith, common_steps) in name_bytes_ascii bs i e

pub name_utf8 : (bs : List ℕ) → is_name bs ≡ true → IsUtf8 bs
name_utf8 bs h = let e : list_all is_name_byte bs ≡ true = grind (arith, common_steps) in IsUtf8-from_ascii bs (λ i. name_bytes_ascii bs i e)
