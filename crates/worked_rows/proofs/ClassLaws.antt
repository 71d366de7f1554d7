use Rattle.std.specs.Prelude.{◌≡◌, ◌<◌, ◌≤◌, ℕ, ◌+◌, ◌-◌, Bool, true, false, Some, length, slice_get, ◌&&◌, ◌||◌, nat_lt, refl}
use Rattle.std.proofs.Math.Bool.{or_comm, and_comm}
use Rattle.std.proofs.Common.{arith, ap, ◌∙◌}
use Rattle.nook_data.specs.declared.classes.Accept.TheVariants.{IoError}
use Rattle.nook_data.specs.declared.classes.Class.{Class}
use Rattle.nook_data.specs.declared.classes.Class.TheVariants.{Block, Net, Sound}
use Rattle.nook_data.specs.declared.calls.Op.{Op}
use Rattle.nook_data.specs.declared.calls.Op.TheVariants.{Read, Write, Send, Recv, Open, Play, Close, Get, Set}
use Rattle.nook_data.specs.Classes.{conflicts, clash, share_block, is_set, is_write, is_recv, is_of_stream, is_of_class}
use Rattle.nook_data.specs.Classes.{entry_count, entry_address, accept, blocks_of_op, first_of_op}
use Rattle.worked_rows.specs.EntryNames.{entry_name, entry_names}

clash_symmetric : (c : Class) (a b : Op) → clash c a b ≡ clash c b a
clash_symmetric Block a b =
    ap (λ x. x && share_block a b) (or_comm (is_write a) (is_write b))
    ∙ ap (λ x. (is_write b || is_write a) && x)
    (and_comm (nat_lt (first_of_op a) (first_of_op b + blocks_of_op b)) (nat_lt (first_of_op b) (first_of_op a + blocks_of_op a)))
clash_symmetric Net a b = and_comm (is_recv a) (is_recv b)
clash_symmetric Sound a b = and_comm (is_of_stream a) (is_of_stream b)

pub conflicts_symmetric : (c : Class) (a b : Op) → conflicts c a b ≡ conflicts c b a
conflicts_symmetric c a b =
    ap (λ x. x || clash c a b) (or_comm (is_set a) (is_set b)) ∙ ap (λ x. is_set b || is_set a || x) (clash_symmetric c a b)

pub entries_counted : (c : Class) → entry_count c ≡ length (entry_names c)
entries_counted Block = refl
entries_counted Net = refl
entries_counted Sound = refl

pub entry_named : (c : Class) (o : Op) → is_of_class c o ≡ true → slice_get (entry_names c) (entry_address c o) ≡ Some (entry_name o)
entry_named Block (Read first count) h = refl
entry_named Block (Write first words) h = refl
entry_named Block (Get key) h = refl
entry_named Block (Set key value) h = refl
entry_named Net (Send frame) h = refl
entry_named Net Recv h = refl
entry_named Net (Get key) h = refl
entry_named Net (Set key value) h = refl
entry_named Sound Open h = refl
entry_named Sound (Play samples) h = refl
entry_named Sound Close h = refl
entry_named Sound (Get key) h = refl
entry_named Sound (Set key value) h = refl
entry_named c o h = absurd cc

pub io_status_accepted : (o : Op) (index : ℕ) → index < blocks_of_op o → accept o (256 + index) ≡ IoError (first_of_op o + index)
io_status_accepted o index h = grind (arith, h)
