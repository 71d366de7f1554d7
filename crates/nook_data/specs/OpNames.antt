use Rattle.std.specs.Prelude.{ℕ, List, [], ◌∷◌, codes, Option}
use Rattle.nook_data.specs.Names.{of_text}
use Rattle.nook_data.specs.Types.{Op, OpName}
use Rattle.nook_data.specs.declared.calls.Op.TheVariants as op
use Rattle.nook_data.specs.declared.calls.OpName.TheVariants as named

-- The names of the operations.

-- the name of an operation
abbrev pub op_name : Op → OpName
op_name (op.Read first count) = named.Read
op_name (op.Write first words) = named.Write
op_name (op.Send frame) = named.Send
op_name op.Recv = named.Recv
op_name op.Open = named.Open
op_name (op.Play samples) = named.Play
op_name op.Close = named.Close
op_name (op.Get key) = named.Get
op_name (op.Set key value) = named.Set

-- the word for an operation, in inputs and reports
abbrev pub op_word : OpName → List ℕ
op_word named.Read = codes "read"
op_word named.Write = codes "write"
op_word named.Send = codes "send"
op_word named.Recv = codes "recv"
op_word named.Open = codes "open"
op_word named.Play = codes "play"
op_word named.Close = codes "close"
op_word named.Get = codes "get"
op_word named.Set = codes "set"

-- the operation with a word
unfoldable pub op_named : List ℕ → Option OpName
op_named word = of_text op_word (named.Read ∷ named.Write ∷ named.Send ∷ named.Recv ∷ named.Open ∷ named.Play
    ∷ named.Close ∷ named.Get ∷ named.Set ∷ []) word
