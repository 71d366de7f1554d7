-- An image's JSON value has no float.
use Rattle.std.proofs.Common.{◌≡◌, ℕ, Bool, true, false, List, [], ◌∷◌, refl, Ordering, Less, Equal, Greater, ◌||◌}
use Rattle.std.specs.Cmp.Lexicographic.{slice_cmp}
use Rattle.std.specs.Ordering.{nat_cmp, match_ordering}
use Rattle.serde_json.specs.Data.{Data, number, unsigned, Members, no_members, member, put}
use Rattle.serde_json.specs.Written.{has_float, items_have_float, members_have_float}
use Rattle.asm_defs.specs.ImageText.{entry_members, image_data, word_items}
use Rattle.asm_defs.specs.Keys.{entry_keys, key_text}
use Rattle.nook_data.specs.declared.scenario.Image.{Image}
use Rattle.asm_defs.specs.declared.keys.Key.{Key}

words_have_none : (words : List ℕ) → items_have_float (word_items words) ≡ false
words_have_none [] = refl
words_have_none (word ∷ more) = words_have_none more

either : (o : Ordering) (a b c : Members) → members_have_float a ≡ false → members_have_float b ≡ false → members_have_float c ≡ false → members_have_float (match_ordering o a b c) ≡ false
either Less a b c p q r = p
either Equal a b c p q r = q
either Greater a b c p q r = r

both : (a b : Bool) → (a || b) ≡ false → (a ≡ false) × (b ≡ false)
both true b h = absurd (cc h)
both false b h = (refl, h)

one_of : (a b : Bool) → a ≡ false → b ≡ false → (a || b) ≡ false
one_of a b p q = rw (p, q)

put_has_none : (key : List ℕ) (address : ℕ) (ms : Members) → members_have_float ms ≡ false → members_have_float (put key (number (unsigned address)) ms) ≡ false
put_has_none key address no_members h = refl
put_has_none key address (member other d more) h =
    either (slice_cmp nat_cmp key other) _ _ _ h (both (has_float d) (members_have_float more) h).1
    (one_of (has_float d) _ (both (has_float d) (members_have_float more) h).0 (put_has_none key address more (both (has_float d) (members_have_float more) h).1))

entries_have_none : (keys : List Key) (addresses : List ℕ) (ms : Members) → members_have_float ms ≡ false → members_have_float (entry_members keys addresses ms) ≡ false
entries_have_none [] addresses ms h = h
entries_have_none (key ∷ keys) [] ms h = h
entries_have_none (key ∷ keys) (address ∷ addresses) ms h = entries_have_none keys addresses (put (key_text key) (number (unsigned address)) ms) (put_has_none (key_text key) address ms h)

pub image_has_none : (image : Image) → has_float (image_data image) ≡ false
unfolding image_data
image_has_none image = rw (words_have_none image.initial, entries_have_none (entry_keys image.class) image.entries no_members refl, words_have_none image.text) refl
