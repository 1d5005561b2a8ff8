-- The answer to the question for a partner, told in numbers.
use Rattle.std.specs.Prelude.{◌≡◌, ℕ, Option, Some, None, Result, Ok, Err}
use Rattle.slot.specs.Number.{none, no_vertex}
use Rattle.refusal.specs.declared.Refusal.{Refusal}
use Rattle.refusal.specs.Refusal.{number_of}
use Rattle.outcome.specs.declared.partner.Partner.{Partner}
use Rattle.outcome.specs.declared.partner.Partner.TheVariants.{Defect, Virtual}

-- 0, or the refusal's number
abbrev pub partner_refusal : Result (Option Partner) Refusal → ℕ
partner_refusal (Ok p) = 0
partner_refusal (Err n) = number_of n

-- 0 nobody, 1 a defect, 2 a virtual vertex
abbrev pub partner_kind : Result (Option Partner) Refusal → ℕ
partner_kind (Ok None) = 0
partner_kind (Ok (Some (Defect p))) = 1
partner_kind (Ok (Some (Virtual p))) = 2
partner_kind (Err n) = 0

-- the partner, and the throughs, of which the second is the virtual vertex where there is one; what does not apply is none
abbrev pub partner_node : Result (Option Partner) Refusal → ℕ
partner_node (Ok None) = none
partner_node (Ok (Some (Defect p))) = p.peer.0
partner_node (Ok (Some (Virtual p))) = none
partner_node (Err n) = none

abbrev pub partner_through : Result (Option Partner) Refusal → ℕ
partner_through (Ok None) = no_vertex
partner_through (Ok (Some (Defect p))) = p.through.0
partner_through (Ok (Some (Virtual p))) = p.through.0
partner_through (Err n) = no_vertex

abbrev pub partner_peer_through : Result (Option Partner) Refusal → ℕ
partner_peer_through (Ok None) = no_vertex
partner_peer_through (Ok (Some (Defect p))) = p.peer_through.0
partner_peer_through (Ok (Some (Virtual p))) = p.virtual_vertex.0
partner_peer_through (Err n) = no_vertex

abbrev pub ToldPartner : Result (Option Partner) Refusal → ℕ → ℕ → ℕ → ℕ → ℕ → Type 0
ToldPartner a number kind partner through peer_through =
    (number ≡ partner_refusal a)
    × (kind ≡ partner_kind a)
    × (partner ≡ partner_node a)
    × (through ≡ partner_through a)
    × (peer_through ≡ partner_peer_through a)
