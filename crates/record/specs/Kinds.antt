-- The kinds of records: each kind's number, the widths of its fields and so its length. 01, "Records".
use Rattle.std.specs.Prelude.{ℕ, ◌+◌, List, [], ◌∷◌, Bool, true, false, eqb, Result, Ok, Err}
use Rattle.lists.specs.Choice.{pick}
use Rattle.record.specs.declared.kind.Kind.{Kind}
use Rattle.record.specs.declared.kind.Kind.TheVariants as K
use Rattle.record.specs.declared.kind.UnknownKind.{UnknownKind}

-- "Requests: 1 conflict [..] 2 virtual [..] 3 expansion [..] 4 reset [..] 5 list [..] Answers: 16 speed [..] 17 Create [..]
-- 18 Expand [..] 19 end [..] 20 pair [..] 21 virtual pair"
abbrev pub number_of_kind : Kind → ℕ
number_of_kind K.Conflict = 1
number_of_kind K.VirtualConflict = 2
number_of_kind K.Expansion = 3
number_of_kind K.Reset = 4
number_of_kind K.List = 5
number_of_kind K.Speed = 16
number_of_kind K.Create = 17
number_of_kind K.Expand = 18
number_of_kind K.End = 19
number_of_kind K.Pair = 20
number_of_kind K.VirtualPair = 21

-- the bytes of each field: two for a node, a speed, a number given back and a side, four for a vertex
abbrev pub widths : Kind → List ℕ
widths K.Conflict = 2 ∷ 2 ∷ 2 ∷ 2 ∷ 4 ∷ 4 ∷ []
widths K.VirtualConflict = 2 ∷ 2 ∷ 4 ∷ 4 ∷ []
widths K.Expansion = 2 ∷ []
widths K.Reset = []
widths K.List = []
widths K.Speed = 2 ∷ 2 ∷ []
widths K.Create = 2 ∷ []
widths K.Expand = 2 ∷ []
widths K.End = 2 ∷ 2 ∷ []
widths K.Pair = 2 ∷ 2 ∷ 4 ∷ 4 ∷ []
widths K.VirtualPair = 2 ∷ 4 ∷ 4 ∷ []

abbrev pub sum : List ℕ → ℕ
sum [] = 0
sum (n ∷ ns) = n + sum ns

-- "A two-byte length first (bytes after it)": those of the kind and of the fields
abbrev pub length_of : Kind → ℕ
length_of k = 2 + sum (widths k)

-- "Reading takes requests alone."
abbrev pub is_request : Kind → Bool
is_request K.Conflict = true
is_request K.VirtualConflict = true
is_request K.Expansion = true
is_request K.Reset = true
is_request K.List = true
is_request K.Speed = false
is_request K.Create = false
is_request K.Expand = false
is_request K.End = false
is_request K.Pair = false
is_request K.VirtualPair = false

-- the kinds that records have
abbrev pub kinds : List Kind
kinds =
    K.Conflict
    ∷ K.VirtualConflict
    ∷ K.Expansion
    ∷ K.Reset
    ∷ K.List
    ∷ K.Speed
    ∷ K.Create
    ∷ K.Expand
    ∷ K.End
    ∷ K.Pair
    ∷ K.VirtualPair
    ∷ []

abbrev pub kind_among : List Kind → ℕ → Result Kind UnknownKind
kind_among [] n = Err (record { 0 = n })
kind_among (k ∷ ks) n = pick (eqb n (number_of_kind k)) (Ok k) (kind_among ks n)

-- the kind with the number n, where one has it
unfoldable pub kind_of : ℕ → Result Kind UnknownKind
kind_of n = kind_among kinds n
