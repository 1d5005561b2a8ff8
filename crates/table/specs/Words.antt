-- How the words of the lent memory are read as a table: eleven words a slot, then the three counts.
use Rattle.std.specs.Prelude.{ℕ, ◌+◌, ◌*◌, ◌%◌, ◌/◌, ◌^◌, ◌<◌, List, [], ◌∷◌, ◌++◌, get_or}
use Rattle.lists.specs.Count.{count}
use Rattle.slot.specs.Number.{vertex_from}
use Rattle.slot.specs.State.{state_of, mark_of}
use Rattle.slot.specs.Slot.{Link, Slot}
use Rattle.table.specs.Table.{Table}
use Rattle.table.specs.Layout.{slot_size, link_place, begin_place, defects_place, blossoms_place}

-- what the memory is known to hold: words of 16 bits
abbrev pub Words : List ℕ → Type 0
Words ws = (j : ℕ) → get_or ws j 0 < 2 ^ 16

-- touch, peer touch, through (low word, high word), peer through (low word, high word)
abbrev pub link_from : List ℕ → ℕ → Link
link_from ws b =
    record {
      touch = get_or ws (b + 0) 0;
      through = vertex_from (get_or ws (b + 2) 0) (get_or ws (b + 3) 0);
      peer_touch = get_or ws (b + 1) 0;
      peer_through = vertex_from (get_or ws (b + 4) 0) (get_or ws (b + 5) 0);
    }

abbrev pub link_words : Link → List ℕ
link_words l =
    l.touch
    ∷ l.peer_touch
    ∷ l.through % 65536
    ∷ l.through / 65536
    ∷ l.peer_through % 65536
    ∷ l.peer_through / 65536
    ∷ []

-- mark, parent, first child, sibling, first blossom child, then the link
abbrev pub slot_from : List ℕ → ℕ → Slot
slot_from ws b =
    record {
      state = state_of (get_or ws (b + 0) 0);
      parent = get_or ws (b + 1) 0;
      first_child = get_or ws (b + 2) 0;
      sibling = get_or ws (b + 3) 0;
      ring = get_or ws (b + 4) 0;
      link = link_from ws (b + link_place);
    }

abbrev pub first_words : Slot → List ℕ
first_words s = mark_of s.state ∷ s.parent ∷ s.first_child ∷ s.sibling ∷ s.ring ∷ []

abbrev pub slot_words : Slot → List ℕ
slot_words s = first_words s ++ link_words s.link

-- words 11 i .. 11 i + 10 are slot i; 2816, 2817, 2818 are begin, count_defects, count_blossoms
unfoldable pub table_of : List ℕ → Table
table_of ws =
    record {
      slots = count (λ i. slot_from ws (i * slot_size)) 0 256;
      begin = get_or ws begin_place 0;
      defects = get_or ws defects_place 0;
      blossoms = get_or ws blossoms_place 0;
    }
