use Rattle.std.proofs.Common.{arith}
use Rattle.ept_space.proofs.PlaceKeys.{InBox-key_at, IsKey-key_at, depth-key_at, key_at-box, key_at-root, key_at-suc, parent-key_at, octant_of-key_at, octant_at-below, is_within-key_at, key_at-unique, is_within-child_at}
use Rattle.ept_space.proofs.laws.place_law.Goals as goal

pub returns-clause-has_key : goal.returns-clause-has_key
returns-clause-has_key c = λ cube depth place h inside low.
    (InBox-key_at cube depth place inside, IsKey-key_at cube depth place h inside low, depth-key_at cube depth place)

pub returns-clause-has_one_key : goal.returns-clause-has_one_key
returns-clause-has_one_key c = key_at-box

pub returns-clause-has_root : goal.returns-clause-has_root
returns-clause-has_root c = key_at-root

pub returns-clause-next_is_child : goal.returns-clause-next_is_child
returns-clause-next_is_child c = λ cube depth place h low. key_at-suc cube depth place (omega arith)

pub returns-clause-next_has_parent : goal.returns-clause-next_has_parent
returns-clause-next_has_parent c = λ cube depth place h low. parent-key_at cube depth place (omega arith)

pub returns-clause-next_has_octant : goal.returns-clause-next_has_octant
returns-clause-next_has_octant c = octant_of-key_at

pub returns-clause-has_octant : goal.returns-clause-has_octant
returns-clause-has_octant c = octant_at-below

pub returns-clause-nest : goal.returns-clause-nest
returns-clause-nest c = λ cube upper lower place h order low.
    is_within-key_at cube upper lower place order (omega arith)

pub returns-clause-above : goal.returns-clause-above
returns-clause-above c = λ cube top depth place h low inside.
    key_at-unique cube top depth place inside (omega arith)

pub returns-clause-in_its_octant : goal.returns-clause-in_its_octant
returns-clause-in_its_octant c = λ cube top depth place h low below.
    is_within-child_at cube top depth place below (omega arith)
