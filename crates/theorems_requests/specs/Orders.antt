-- What "in either order" and "in any order" say: requests that are apart, a list of them done one after another, and its
-- reorderings.
use Rattle.std.specs.Prelude.{◌≡◌, List, [], ◌∷◌, ℕ, T, Ok}
use Rattle.table.specs.Table.{Table}
use Rattle.record.specs.declared.request.Request.{Request}
use Rattle.record.specs.declared.answer.Record.{Record}
use Rattle.rules.specs.Calls.{verdict, answered}
use Rattle.rules.specs.Commands.{gives_commands}
use Rattle.rules.specs.Concerns.{concerns, is_making}

-- ---- requests on a table

-- one of the three, accepted on t with so much room for its commands
pub record Asked (t : Table) (r : Request) (room : ℕ) : Type 0 where
  pub three : T (gives_commands r)
  pub accepted : verdict r t room ≡ Ok tt

-- r and q concern no common node, and do not both make a blossom
abbrev pub ApartIn : Table → Request → Request → Type 0
ApartIn t r q = ((j : ℕ) → ¬ (T (concerns r t j) × T (concerns q t j))) × (¬ (T (is_making r t) × T (is_making q t)))

-- ---- lists of requests

pub record Ask : Type 0 where
  pub request : Request
  pub room : ℕ

-- each is one of the three and accepted on t
abbrev pub AllAsked : Table → List Ask → Type 0
AllAsked t [] = Unit {0}
AllAsked t (a ∷ rest) = Asked t a.request a.room × AllAsked t rest

-- every two of them are apart: each one from all that stand after it
abbrev pub ApartFromAll : Table → Ask → List Ask → Type 0
ApartFromAll t a [] = Unit {0}
ApartFromAll t a (b ∷ rest) = ApartIn t a.request b.request × ApartFromAll t a rest

abbrev pub PairwiseApart : Table → List Ask → Type 0
PairwiseApart t [] = Unit {0}
PairwiseApart t (a ∷ rest) = ApartFromAll t a rest × PairwiseApart t rest

-- ---- a list done in its order

-- the table after all of them
abbrev pub done_in_order : List Ask → Table → Table
done_in_order [] t = t
done_in_order (a ∷ rest) t = done_in_order rest (answered a.request a.room t).table

-- each is accepted when its turn comes
abbrev pub AcceptedInOrder : List Ask → Table → Type 0
AcceptedInOrder [] t = Unit {0}
AcceptedInOrder (a ∷ rest) t =
    (verdict a.request t a.room ≡ Ok tt) × AcceptedInOrder rest (answered a.request a.room t).table

-- a request, and the commands that it gave
pub record Given : Type 0 where
  pub ask : Ask
  pub commands : List Record

-- what a request gives on t
abbrev pub given_on : Table → Ask → Given
given_on t a = record { ask = a; commands = (answered a.request a.room t).said }

-- each with the commands that it gave when its turn came
abbrev pub given_in_order : List Ask → Table → List Given
given_in_order [] t = []
given_in_order (a ∷ rest) t = given_on t a ∷ given_in_order rest (answered a.request a.room t).table

-- each with the commands that it gives where it is the first
abbrev pub given_first : List Ask → Table → List Given
given_first [] t = []
given_first (a ∷ rest) t = given_on t a ∷ given_first rest t

-- ---- reorderings

-- the second list is the first in another order: neighbours change places, any number of times
pub data Reordered {A : Type 0} : List A → List A → Type 0 where
  as_it_is : {xs : List A} → Reordered xs xs
  neighbours : {x y : A} {xs : List A} → Reordered (x ∷ y ∷ xs) (y ∷ x ∷ xs)
  further_on : {x : A} {xs ys : List A} → Reordered xs ys → Reordered (x ∷ xs) (x ∷ ys)
  and_then : {xs ys zs : List A} → Reordered xs ys → Reordered ys zs → Reordered xs zs
