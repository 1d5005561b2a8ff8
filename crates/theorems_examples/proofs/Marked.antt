-- The examples that 01 marks for proof, (a) to (j), each one statement on one table. Each request is accepted when its turn
-- comes, but for the three that 01 gives the refusal of: (h), (i) with 4,095 bytes, and the last of (j).
use mathlib.Core.Path.{◌≡◌, refl}
use mathlib.Core.Bool.{true}
use mathlib.Core.List.{[], ◌∷◌}
use Prim.Native.Nat.{ℕ}
use Rattle.slot.specs.declared.state.State.TheVariants as S
use Rattle.slot.specs.Number.{none}
use Rattle.slot.specs.Slot.{Link}
use Rattle.table.specs.Table.{at}
use Rattle.table.specs.Making.{fresh}
use Rattle.record.specs.declared.request.Request.{Request}
use Rattle.record.specs.declared.request.Request.TheVariants as Q
use Rattle.rules.specs.Act.{create, expand}
use Rattle.rules.specs.Sound.{sound, ring_of, is_single, is_free}
use Rattle.rules.specs.Listing.{pair_entry, virtual_entry}
use Rattle.rules.specs.Calls.{verdict, verdict_number}
use Rattle.rules.specs.Script.{meet, border, open_up, after, accepted_in_turn, says_after, number_after, stays, grows, shrinks}
use Rattle.rules.proofs.Script.{all_rules}

link : ℕ → ℕ → ℕ → ℕ → Link
link t v p w = record { touch = t; through = v; peer_touch = p; peer_through = w }

-- the requests of (a), (b) and (c)
first : Request
first = meet 0 1 0 1 10 11

second : Request
second = meet 2 0 2 0 12 10

third : Request
third = meet 2 1 2 1 12 11

-- (a) 0 and 1 are matched, each to the other by the mirrored link
a :
    (accepted_in_turn (first ∷ []) (fresh 128) ≡ true)
    × (says_after [] first (fresh 128) ≡ stays 0 ∷ stays 1 ∷ [])
    × (at (after (first ∷ []) (fresh 128)) 0 ≡ record { state = S.Stay; parent = none; first_child = none; sibling = 1; ring = none; link = link 0 10 1 11 })
    × (at (after (first ∷ []) (fresh 128)) 1 ≡ record { state = S.Stay; parent = none; first_child = none; sibling = 0; ring = none; link = link 1 11 0 10 })
    × (sound (after (first ∷ []) (fresh 128)) ≡ true)
unfolding all_rules accepted_in_turn first link
a = (refl, refl, refl, refl, refl)

-- (b) 2 Grow, 0 Shrink, 1 Grow: a tree of three
b :
    (accepted_in_turn (first ∷ second ∷ []) (fresh 128) ≡ true)
    × (says_after (first ∷ []) second (fresh 128) ≡ grows 2 ∷ shrinks 0 ∷ grows 1 ∷ [])
    × (sound (after (first ∷ second ∷ []) (fresh 128)) ≡ true)
unfolding all_rules accepted_in_turn first second
b = (refl, refl, refl)

-- (c) Create 128, ring 2, 0, 1, node 128 free
c :
    (accepted_in_turn (first ∷ second ∷ third ∷ []) (fresh 128) ≡ true)
    × (says_after (first ∷ second ∷ []) third (fresh 128) ≡ create 128 ∷ [])
    × (ring_of (after (first ∷ second ∷ third ∷ []) (fresh 128)) 128 ≡ 2 ∷ 0 ∷ 1 ∷ [])
    × (is_single (after (first ∷ second ∷ third ∷ []) (fresh 128)) 128 ≡ true)
    × (is_free (at (after (first ∷ second ∷ third ∷ []) (fresh 128)) 128) ≡ true)
    × (sound (after (first ∷ second ∷ third ∷ []) (fresh 128)) ≡ true)
unfolding all_rules accepted_in_turn first second third
c = (refl, refl, refl, refl, refl, refl)

-- (d) instead 1, 2: ring 2, 1, 0
d :
    (accepted_in_turn (first ∷ second ∷ meet 1 2 1 2 11 12 ∷ []) (fresh 128) ≡ true)
    × (says_after (first ∷ second ∷ []) (meet 1 2 1 2 11 12) (fresh 128) ≡ create 128 ∷ [])
    × (ring_of (after (first ∷ second ∷ meet 1 2 1 2 11 12 ∷ []) (fresh 128)) 128 ≡ 2 ∷ 1 ∷ 0 ∷ [])
    × (sound (after (first ∷ second ∷ meet 1 2 1 2 11 12 ∷ []) (fresh 128)) ≡ true)
unfolding all_rules accepted_in_turn first second
d = (refl, refl, refl, refl)

-- (e) after (c), virtual at 128, touch 0, virtual 99: listing 1 with 2, then 0 with 99
e :
    (accepted_in_turn (first ∷ second ∷ third ∷ border 128 0 30 99 ∷ Q.List ∷ []) (fresh 128) ≡ true)
    × (says_after (first ∷ second ∷ third ∷ []) (border 128 0 30 99) (fresh 128) ≡ stays 128 ∷ [])
    × (
    says_after (first ∷ second ∷ third ∷ border 128 0 30 99 ∷ []) Q.List (fresh 128)
    ≡ pair_entry (link 1 11 2 12) ∷ virtual_entry (link 0 30 none 99) ∷ []
    )
    × (sound (after (first ∷ second ∷ third ∷ border 128 0 30 99 ∷ []) (fresh 128)) ≡ true)
unfolding all_rules accepted_in_turn first second third link
e = (refl, refl, refl, refl)

-- (f) after (c), 128 with 3 (touch 1), 4 with 128 (touch 0), expand
f :
    (accepted_in_turn (first ∷ second ∷ third ∷ meet 128 3 1 3 11 13 ∷ meet 4 128 4 0 14 10 ∷ open_up 128 ∷ []) (fresh 128) ≡ true)
    × (
    says_after (first ∷ second ∷ third ∷ meet 128 3 1 3 11 13 ∷ meet 4 128 4 0 14 10 ∷ []) (open_up 128) (fresh 128)
    ≡ expand 128 ∷ shrinks 1 ∷ grows 2 ∷ shrinks 0 ∷ []
    )
    × (sound (after (first ∷ second ∷ third ∷ meet 128 3 1 3 11 13 ∷ meet 4 128 4 0 14 10 ∷ open_up 128 ∷ []) (fresh 128)) ≡ true)
unfolding all_rules accepted_in_turn first second third
f = (refl, refl, refl)

-- (g) as (f) with touch 0 both times
g :
    (accepted_in_turn (first ∷ second ∷ third ∷ meet 128 3 0 3 11 13 ∷ meet 4 128 4 0 14 10 ∷ open_up 128 ∷ []) (fresh 128) ≡ true)
    × (
    says_after (first ∷ second ∷ third ∷ meet 128 3 0 3 11 13 ∷ meet 4 128 4 0 14 10 ∷ []) (open_up 128) (fresh 128)
    ≡ expand 128 ∷ stays 1 ∷ stays 2 ∷ shrinks 0 ∷ []
    )
    × (sound (after (first ∷ second ∷ third ∷ meet 128 3 0 3 11 13 ∷ meet 4 128 4 0 14 10 ∷ open_up 128 ∷ []) (fresh 128)) ≡ true)
unfolding all_rules accepted_in_turn first second third
g = (refl, refl, refl)

-- (h) 0 with 0: 5
h : number_after [] (meet 0 0 0 0 10 11) (fresh 128) ≡ 5
unfolding all_rules
h = refl

-- (i) 4,095 bytes: 9; 4,096: accepted
i : (verdict_number (verdict first (fresh 128) 4095) ≡ 9) × (verdict_number (verdict first (fresh 128) 4096) ≡ 0)
unfolding all_rules first
i = (refl, refl)

-- (j) begin 256, then (c): 8
j : (accepted_in_turn (first ∷ second ∷ []) (fresh 256) ≡ true) × (number_after (first ∷ second ∷ []) third (fresh 256) ≡ 8)
unfolding all_rules accepted_in_turn first second third
j = (refl, refl)
