-- What times and lists of stamps represent.
use Rattle.std.specs.Prelude.{ℕ, suc, List, [], ◌∷◌, ◌++◌}
use Rattle.clocks.specs.Clocks.{latest}
use Rattle.clocks.specs.declared.clock.Time.{Time}
use Rattle.clocks.specs.declared.clock.Time.TheVariants as time
use Rattle.clocks.specs.declared.stamps.Row.{Row}
use Rattle.clocks.specs.declared.stamps.Row.TheVariants as row

abbrev pub number : Time → ℕ
number time.Start = 0
number (time.Same' shape a) = number a
number (time.Later' shape a shape' b) = latest (number a) (number b)
number (time.Next' shape a shape' b) = suc (latest (number a) (number b))

abbrev pub numbers : Row → List ℕ
numbers row.Empty = []
numbers (row.Then' shape before last) = numbers before ++ last ∷ []
