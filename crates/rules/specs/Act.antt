-- What a rule does to a table, and which records it says on the way; and what that does to lent bytes.
use Rattle.std.specs.Prelude.{ℕ, Bool, true, false, List, [], ◌∷◌, ◌++◌}
use Rattle.slot.specs.Slot.{Slot}
use Rattle.slot.specs.declared.number.Node.{Node}
use Rattle.table.specs.Table.{Table, at, put}
use Rattle.table.specs.Words.{table_of}
use Rattle.record.specs.declared.answer.Speed.{Speed}
use Rattle.record.specs.declared.answer.Record.{Record}
use Rattle.record.specs.declared.answer.Record.TheVariants as R
use Rattle.record.specs.Writing.{Out, out_of, write_all}

-- the table afterwards, and the records said
pub record Did : Type 0 where
  pub table : Table
  pub said : List Record

abbrev pub Act : Type 0
Act = Table → Did

unfoldable pub skip : Act
skip t = record { table = t; said = [] }

unfoldable pub say : Record → Act
say r t = record { table = t; said = r ∷ [] }

unfoldable pub change : (Table → Table) → Act
change f t = record { table = f t; said = [] }

-- f, and on the table that f leaves, g
infixr 20 ◌then◌
unfoldable pub ◌then◌ : Act → Act → Act
◌then◌ f g t =
    let first = f t in
    let second = g first.table in
    record { table = second.table; said = first.said ++ second.said }

-- what is done next may depend on what stands in slot n
unfoldable pub look : ℕ → (Slot → Act) → Act
look n k t = k (at t n) t

-- .. or on the table
unfoldable pub read : (Table → Act) → Act
read k t = k t t

-- one of two functions of the table, by a test
unfoldable pub choose : {A : Type 0} → Bool → (Table → A) → (Table → A) → Table → A
choose true f g t = f t
choose false f g t = g t

-- slot n, changed by f
unfoldable pub alter : ℕ → (Slot → Slot) → Table → Table
alter n f t = put t n (f (at t n))

abbrev pub same : Table → Table
same t = t

-- the commands

abbrev pub node_of : ℕ → Node
node_of n = record { 0 = n }

abbrev pub speed : ℕ → Speed → Record
speed n s = R.Speed (node_of n) s

abbrev pub create : ℕ → Record
create n = R.Create (node_of n)

abbrev pub expand : ℕ → Record
expand n = R.Expand (node_of n)

-- table and lent bytes together, and an act done to them: what is said is written

pub record World : Type 0 where
  pub table : Table
  pub out : Out

abbrev pub world_of : List ℕ → List ℕ → ℕ → World
world_of words bytes pos = record { table = table_of words; out = out_of bytes pos }

unfoldable pub run : World → Act → World
run w f = record { table = (f w.table).table; out = write_all w.out (f w.table).said }
