-- Worked examples of the question for a partner (ticket 3 of 02): (e) and (c) of 01, two blossoms matched to one another of which one is
-- nested, asked from each defect, and what is refused.
use mathlib.Core.Path.{◌≡◌, refl}
use mathlib.Core.Bool.{true}
use mathlib.Core.List.{List, [], ◌∷◌, ◌++◌}
use Prim.Native.Nat.{ℕ}
use Rattle.std.specs.Prelude.{Option, Some, None, Ok, Err}
use Rattle.table.specs.Table.{Table, at, put}
use Rattle.table.specs.Making.{fresh}
use Rattle.refusal.specs.declared.Refusal.TheVariants.{NotSound, NoSuchNode}
use Rattle.record.specs.declared.request.Request.{Request}
use Rattle.rules.specs.Act.{node_of}
use Rattle.rules.specs.Slots.{with_sibling}
use Rattle.rules.specs.Listing.{vertex_of, listing}
use Rattle.rules.specs.Partner.{holder, link_in_twos, paired_within}
use Rattle.rules.specs.Script.{meet, join, border, after, accepted_in_turn}
use Rattle.rules.specs.Scenarios.{start, nested}
use Rattle.rules.proofs.Script.{all_rules}
use Rattle.outcome.specs.declared.partner.Partner.{Partner}
use Rattle.outcome.specs.declared.partner.Partner.TheVariants.{Defect, Virtual}
use Rattle.outcome.specs.Handled.{later_verdict}
use Rattle.outcome.specs.Partner.{partner_of}
use Rattle.theorems_partner.specs.Said.{said_of}
use Rattle.theorems_examples.proofs.InTurn.{accepted_later, played}

-- a with b, a through v and b through w
with : ℕ → ℕ → ℕ → ℕ → Option Partner
with a b v w = Some (Defect (record { node = node_of a; peer = node_of b; through = vertex_of v; peer_through = vertex_of w }))

with_virtual : ℕ → ℕ → ℕ → Option Partner
with_virtual a v w = Some (Virtual (record { node = node_of a; through = vertex_of v; virtual_vertex = vertex_of w }))

-- the requests of (c), and with that of (e)
free_blossom : List Request
free_blossom = join 0 1 ∷ join 2 0 ∷ join 2 1 ∷ []

matched_blossom : List Request
matched_blossom = free_blossom ++ border 128 0 30 99 ∷ []

-- opens every definition of the question
unfoldable asking : Unit {0}
unfolding holder link_in_twos paired_within said_of with with_virtual free_blossom matched_blossom
asking = tt

-- (e): 1 with 2, seen from either with the through numbers exchanged, and 0 with the virtual vertex 99
asked-in-e :
    let t = after matched_blossom (fresh 128) in
    (partner_of t 1 ≡ Ok (with 1 2 11 12)) × (partner_of t 2 ≡ Ok (with 2 1 12 11)) × (partner_of t 0 ≡ Ok (with_virtual 0 30 99))
unfolding all_rules asking
asked-in-e = (refl, refl, refl)

-- .. which the listing says too
said-in-e :
    let t = after matched_blossom (fresh 128) in
    (said_of 1 (listing t) ≡ with 1 2 11 12) × (said_of 2 (listing t) ≡ with 2 1 12 11) × (said_of 0 (listing t) ≡ with_virtual 0 30 99)
unfolding all_rules asking
said-in-e = (refl, refl, refl)

-- (c): the blossom is free
asked-in-c :
    let t = after free_blossom (fresh 128) in
    (partner_of t 0 ≡ Ok None) × (partner_of t 1 ≡ Ok None) × (partner_of t 2 ≡ Ok None) × (said_of 1 (listing t) ≡ None)
unfolding all_rules asking
asked-in-c = (refl, refl, refl, refl)

-- (b): in a tree, and the − node of it has a link
asked-in-a-tree :
    let t = after (join 0 1 ∷ join 2 0 ∷ []) (fresh 128) in
    (partner_of t 0 ≡ Ok None) × (partner_of t 1 ≡ Ok None) × (partner_of t 2 ≡ Ok None)
unfolding all_rules asking
asked-in-a-tree = (refl, refl, refl)

-- `nested` has the rings 2, 0, 1 (in 128) and 128, 3, 4 (in 129). Beside it stands 130, of 22, 20, 21, matched at 20 to 129 at 3
two_deep : List Request
two_deep = nested ++ join 20 21 ∷ join 22 20 ∷ join 22 21 ∷ meet 130 129 20 3 50 51 ∷ []

two_deep_accepted : accepted_in_turn two_deep start ≡ true
unfolding all_rules later_verdict accepted_later start nested two_deep
two_deep_accepted = played 128 _ tt tt

asked-two-deep :
    let t = after two_deep start in
    (partner_of t 0 ≡ Ok (with 0 1 10 11))
    × (partner_of t 1 ≡ Ok (with 1 0 11 10))
    × (partner_of t 2 ≡ Ok (with 2 4 12 14))
    × (partner_of t 4 ≡ Ok (with 4 2 14 12))
    × (partner_of t 3 ≡ Ok (with 3 20 51 50))
    × (partner_of t 20 ≡ Ok (with 20 3 50 51))
    × (partner_of t 21 ≡ Ok (with 21 22 31 32))
    × (partner_of t 22 ≡ Ok (with 22 21 32 31))
unfolding all_rules asking start nested two_deep
asked-two-deep = (refl, refl, refl, refl, refl, refl, refl, refl)

-- 3: a blossom, an empty slot, 256, none
refused-numbers :
    let t = after matched_blossom (fresh 128) in
    (partner_of t 128 ≡ Err NoSuchNode)
    × (partner_of t 3 ≡ Err NoSuchNode)
    × (partner_of t 256 ≡ Err NoSuchNode)
    × (partner_of t 65535 ≡ Err NoSuchNode)
unfolding all_rules asking
refused-numbers = (refl, refl, refl, refl)

-- 1, before 3: the blossom's sibling is stored, though it is matched to a virtual vertex
damaged : Table
damaged = let t = after matched_blossom (fresh 128) in put t 128 (with_sibling 5 (at t 128))

refused_table : (partner_of damaged 1 ≡ Err NotSound) × (partner_of damaged 300 ≡ Err NotSound)
unfolding all_rules asking damaged
refused_table = (refl, refl)
