-- The signs of tree nodes, as the rules name them: whether the node grows.
use Rattle.std.specs.Prelude.{Bool, true, false}
use Rattle.request_expansion.specs.declared.attaching.Sign.{Sign}
use Rattle.request_expansion.specs.declared.attaching.Sign.TheVariants.{Plus, Minus}

abbrev pub grows : Sign → Bool
grows Plus = true
grows Minus = false
