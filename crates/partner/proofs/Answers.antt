-- What the code answers, by the tests that it has made.
use mathlib.Core.Path.{◌≡◌, ap, ◌∙◌}
use mathlib.Core.Bool.{true}
use Prim.Native.Nat.{ℕ}
use Rattle.std.specs.Prelude.{Option, Ok, option_map}
use Rattle.slot.specs.Slot.{Link}
use Rattle.table.specs.Table.{Table, Full}
use Rattle.table.specs.Nodes.{is_present_defect}
use Rattle.rules.specs.Sound.{sound}
use Rattle.outcome.specs.declared.partner.Partner.{Partner}
use Rattle.outcome.specs.Partner.{partner_at, later_partner}
use Rattle.theorems_soundness.proofs.Reflect.{true_test}
use Rattle.partner.specs.Following.{followed_entry}
use Rattle.partner.proofs.FollowedEntry.{followed-entry}

-- on a sound table the link that was followed is the entry's
pub answered : (t : Table) (d : ℕ) (l : Option Link) (r : Option Partner) → Full t → is_present_defect t d ≡ true → l ≡ followed_entry t d → r ≡ option_map partner_at l → sound t ≡ true → Ok r ≡ later_partner t d
answered t d l r full h e q s =
    let same = followed-entry t full (true_test (sound t) s) d (true_test (is_present_defect t d) h) in
    ap Ok (q ∙ ap (option_map partner_at) e ∙ same) ∙ rw h
