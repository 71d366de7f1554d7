-- What equal options imply.
use Rattle.std.proofs.Common.{◌≡◌, Some, None}

-- equal options have equal contents
pub same_inside : {X : Type 0} {x y : X} → Some x ≡ Some y → x ≡ y
same_inside h = cc

-- an option is not both Some and None
pub none_is_some : {X G : Type 0} {x : X} → None ≡ Some x → G
none_is_some h = cc
