-- How the refusals of nodes are reported, and which refusals are those of devices.
use Rattle.std.specs.Prelude.{⊤}
use Rattle.ept_node.specs.declared.error.NodeError.{NodeError}
use Rattle.ept_node.specs.declared.error.NodeError.TheVariants as node
use Rattle.ept_save.specs.declared.error.SaveError.TheVariants as save
use Rattle.ept_save.specs.Errors.{IsStores}
use Rattle.ept_octree_ckpt.specs.declared.error.PhaseError.{PhaseError}
use Rattle.ept_octree_ckpt.specs.declared.error.PhaseError.TheVariants.{Save, TooManyNodes, SpillFault, SpillDamaged}

abbrev pub of_node : NodeError → PhaseError
of_node node.SpillFault = SpillFault
of_node (node.SpillDamaged kept found at) = SpillDamaged kept found at
of_node node.Memory = Save save.Memory

-- a refusal of the store itself or of a spill file, or that memory ran out
abbrev pub IsDevices : PhaseError → Type 0
IsDevices (Save e) = IsStores e
IsDevices TooManyNodes = ⊥
IsDevices SpillFault = ⊤
IsDevices (SpillDamaged kept found at) = ⊤
