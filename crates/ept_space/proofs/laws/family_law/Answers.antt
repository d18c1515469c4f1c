use Rattle.ept_space.proofs.Family.{parent-child, octant_of-child, child-parent, octant_of-below, depth-child, IsKey-child, IsKey-parent, root-only}
use Rattle.ept_space.proofs.laws.family_law.Goals as goal

pub returns-clause-parent_of_child : goal.returns-clause-parent_of_child
returns-clause-parent_of_child c = parent-child

pub returns-clause-octant_of_child : goal.returns-clause-octant_of_child
returns-clause-octant_of_child c = octant_of-child

pub returns-clause-child_of_parent : goal.returns-clause-child_of_parent
returns-clause-child_of_parent c = child-parent

pub returns-clause-eight : goal.returns-clause-eight
returns-clause-eight c = octant_of-below

pub returns-clause-deeper : goal.returns-clause-deeper
returns-clause-deeper c = depth-child

pub returns-clause-child_is_key : goal.returns-clause-child_is_key
returns-clause-child_is_key c = IsKey-child

pub returns-clause-parent_is_key : goal.returns-clause-parent_is_key
returns-clause-parent_is_key c = IsKey-parent

pub returns-clause-one_root : goal.returns-clause-one_root
returns-clause-one_root c = root-only
