-- The text of a value is read as the same value, with the members of each object in the order of their keys.
use Rattle.std.proofs.Common.{◌≡◌, ℕ, Some, refl}
use Rattle.serde_json.specs.Data.{Num, unsigned, negative, float, Data, null, boolean, number, string, array, object, Items, no_items, item, Members, no_members, member, put}
use Rattle.serde_json.specs.Read.{of_json, of_items, of_members}
use Rattle.serde_json.specs.Written.{outline, items_outline, members_outline}
use Rattle.serde_json.proofs.Numbers.{number_of-decimal}
use Rattle.reading_laws.proofs.PlainData.{IsPlain, ArePlain, ArePlainMembers, IsPlainNumber}

abbrev mutual
  pub sorted : Data → Data
  sorted null = null
  sorted (boolean b) = boolean b
  sorted (number x) = number x
  sorted (string s) = string s
  sorted (array ds) = array (sorted_items ds)
  sorted (object ms) = object (sorted_onto ms no_members)

  pub sorted_items : Items → Items
  sorted_items no_items = no_items
  sorted_items (item d ds) = item (sorted d) (sorted_items ds)

  pub sorted_onto : Members → Members → Members
  sorted_onto no_members found = found
  sorted_onto (member k d ms) found = sorted_onto ms (put k (sorted d) found)

number_read : (x : Num) → IsPlainNumber x → of_json (outline (number x)) ≡ Some (number x)
number_read (unsigned n) h = rw (number_of-decimal n h) refl
number_read (negative z) h = absurd h
number_read (float x) h = absurd h

mutual
  pub read_sorted : (n : ℕ) (d : Data) → IsPlain n d → of_json (outline d) ≡ Some (sorted d)
  read_sorted n null h = refl
  read_sorted n (boolean b) h = refl
  read_sorted n (number x) h = number_read x h
  read_sorted n (string s) h = refl
  read_sorted n (array ds) h = rw (items_sorted h.0 ds h.2) refl
  read_sorted n (object ms) h = rw (members_sorted h.0 ms no_members h.2) refl

  items_sorted : (n : ℕ) (ds : Items) → ArePlain n ds → of_items (items_outline ds) ≡ Some (sorted_items ds)
  items_sorted n no_items h = refl
  items_sorted n (item d ds) h = rw (read_sorted n d h.0, items_sorted n ds h.1) refl

  members_sorted : (n : ℕ) (ms found : Members) → ArePlainMembers n ms → of_members (members_outline ms) found ≡ Some (sorted_onto ms found)
  members_sorted n no_members found h = refl
  members_sorted n (member k d ms) found h = rw (read_sorted n d h.1) (members_sorted n ms (put k (sorted d) found) h.2)
