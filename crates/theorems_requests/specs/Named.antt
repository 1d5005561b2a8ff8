-- What the theorems about the listing speak of: the defects that its entries name, how often, and which of them it is to name.
use Rattle.std.specs.Prelude.{◌≡◌, ◌⊎◌, Bool, ◌&&◌, List, [], ◌∷◌, ◌++◌, ℕ, ◌+◌, T, eqb}
use Rattle.lists.specs.Choice.{pick}
use Rattle.slot.specs.declared.state.State.TheVariants as S
use Rattle.table.specs.Table.{Table, at}
use Rattle.table.specs.Nodes.{is_present_defect, present, outer}
use Rattle.table.specs.Climb.{outer_blossom}
use Rattle.record.specs.declared.answer.Record.{Record}
use Rattle.record.specs.declared.answer.Record.TheVariants as R
use Rattle.rules.specs.Slots.{is_stay}
use Rattle.theorems_soundness.specs.Chain.{◌∈◌}
use Rattle.rules.specs.Listing.{pair_entry, virtual_entry}

-- ---- what entries name

-- "Entries name touched defects": a pair both of its touches, a virtual pair its one; no other record is an entry
abbrev pub named_by : Record → List ℕ
named_by (R.Speed n s) = []
named_by (R.Create n) = []
named_by (R.Expand n) = []
named_by (R.End e s) = []
named_by (R.Pair p) = p.node.0 ∷ p.peer.0 ∷ []
named_by (R.VirtualPair p) = p.node.0 ∷ []

abbrev pub named_in : List Record → List ℕ
named_in [] = []
named_in (r ∷ rs) = named_by r ++ named_in rs

-- 1 where the numbers are one
unfoldable pub one : ℕ → ℕ → ℕ
one a x = pick (eqb a x) 1 0

-- how often a number stands in a list: lists that differ in order alone have the same counts
abbrev pub times : ℕ → List ℕ → ℕ
times a [] = 0
times a (x ∷ xs) = one a x + times a xs

-- ---- what the listing is to name

-- "Over outer slots ascending, matched ones only": a present defect is listed where the outer node around it is matched, which
-- S3 and S4 say of Stay alone
abbrev pub is_listed : Table → ℕ → Bool
is_listed t n = is_present_defect t n && is_stay (at t (outer_blossom t n)).state

-- no tree and no free node is left
abbrev pub AllMatched : Table → Type 0
AllMatched t = (m : ℕ) → T (outer t m) → (at t m).state ≡ S.Stay

-- ---- what an entry is

-- the record is the entry of a link that a node of the table has, through numbers and all, and names present defects
pub record Entry (t : Table) (r : Record) : Type 0 where
  pub owner : ℕ
  pub there : T (present t owner)
  pub link : (r ≡ pair_entry (at t owner).link) ⊎ (r ≡ virtual_entry (at t owner).link)
  pub names : (n : ℕ) → n ∈ named_by r → T (is_present_defect t n)

-- of every record in a list
abbrev pub Each : (Record → Type 0) → List Record → Type 0
Each P [] = Unit {0}
Each P (r ∷ rs) = P r × Each P rs
