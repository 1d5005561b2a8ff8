-- The pairs inside a node, if it is a blossom: the part that the pair rule and the listing of a virtual match share.
use Rattle.std.specs.Prelude.{ℕ, List}
use Rattle.table.specs.Table.{Table}
use Rattle.table.specs.Nodes.{is_blossom}
use Rattle.record.specs.declared.answer.Record.{Record}
use Rattle.rules.specs.Act.{choose}
use Rattle.rules.specs.Listing.{levels_listed, nothing}

unfoldable pub inside_listed : ℕ → ℕ → ℕ → Table → List Record
inside_listed k n touch t = choose (is_blossom t n) (λ u. levels_listed k n touch u) nothing t
