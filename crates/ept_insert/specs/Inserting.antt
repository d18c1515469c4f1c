-- Records inserted by a table whose ghost input is what is known of them.
use Rattle.std.specs.Prelude.{◌≡◌, ℕ, ◌<◌, true, List, Option, Some, None, length, map, take, min}
use Rattle.ept_sample.specs.SamplingLaws.{CanBeSampled}
use Rattle.ept_scan.specs.declared.second_reading.Reader.{Reader}
use Rattle.ept_scan.specs.declared.read_error.ReadError.TheVariants as read
use Rattle.ept_scan.specs.Reader.{drawn_of, refusal_of, HasFault}
use Rattle.ept_node.specs.declared.error.NodeError.TheVariants as node
use Rattle.ept_node.specs.declared.node.Node.{Node}
use Rattle.ept_node.specs.Shown.{file_of, fault_of}
use Rattle.ept_table.specs.declared.note.Told.{Told}
use Rattle.ept_table.specs.Shown.{IsTold, FitsReader}
use Rattle.std.specs.List.{All, Any}
use Rattle.ept_forest.specs.declared.forest.Forest.{Forest}
use Rattle.ept_forest.specs.Slots as forest
use Rattle.ept_table.specs.Item.{seen_reader, IsFiled, IsFiledNode}
use Rattle.ept_table.specs.Tells.{IsTooMany}
use Rattle.ept_table.specs.Octree.{AreSampled, KeepsNodes, entry_of}
use Rattle.ept_octree.specs.declared.octree.Octree.{Octree}
use Rattle.ept_octree.specs.Octree.{forest_of, rules_of, most_of, cache_of, nodes_of, points_of, begun_of, IsWhole, IsLinked, IsUnbroken, AgreesWithFiles}
use Rattle.ept_insert.specs.declared.error.InsertError.{InsertError}
use Rattle.ept_insert.specs.declared.error.InsertError.TheVariants.{SourceFault, SourceChanged, SpillFault, SpillDamaged, TooManyNodes}

module _ {F S : Type 0} (told : Told) (held : F → Option (List ℕ)) (node_faults keeps : F → ℕ) (whole left : S → Option (List ℕ)) (given faults : S → ℕ) where
  -- the ghost input of the table is this octree and this reader, which has drawn the octree's points
  pub record MayInsert (octree : Octree F) (reader : Reader S) : Type 0 where
    pub is_told : IsTold told
    pub rules : rules_of octree ≡ told.rules
    pub most : most_of octree ≡ told.most
    pub cache : told.cache ≡ cache_of octree
    pub begun : told.begun ≡ begun_of held octree
    pub is_whole : IsWhole held octree
    pub is_linked : IsLinked held octree
    pub nodes : All (IsFiledNode held node_faults keeps told) (forest.nodes_of (forest_of octree))
    pub unbroken : IsUnbroken octree
    pub filed : IsFiled whole left given faults told reader
    pub fits : FitsReader told (seen_reader whole reader)
    pub sound : refusal_of reader ≡ None
    pub number : length (points_of held octree) ≡ drawn_of reader
    pub points : told.tells ≡ true → CanBeSampled told.rules told.points × (length told.points ≡ told.total)
    pub sampled : told.tells ≡ true → AreSampled told.rules (take (drawn_of reader) told.points) (nodes_of held octree)

  -- All records of the allowance are drawn, and the octree has their points too.
  pub record HasInserted (old new : Octree F) (reader : Reader S) : Type 0 where
    pub rules : rules_of new ≡ rules_of old
    pub most : most_of new ≡ most_of old
    pub cache : cache_of new ≡ cache_of old
    pub is_whole : IsWhole held new
    pub kept : KeepsNodes (map entry_of (nodes_of held old)) (map entry_of (nodes_of held new))
    pub is_linked : IsLinked held new
    pub agrees : AgreesWithFiles held node_faults keeps new
    pub unbroken : IsUnbroken new
    pub number : length (points_of held new) ≡ drawn_of reader
    pub sampled : told.tells ≡ true → AreSampled told.rules (take (drawn_of reader) told.points) (nodes_of held new)
    pub drawn : drawn_of reader ≡ min told.end told.total
    pub sound : refusal_of reader ≡ None
    pub filed : IsFiled whole left given faults told reader
    pub fits : FitsReader told (seen_reader whole reader)

-- Why they are not inserted.
pub record IsRefused {F S : Type 0} (told : Told) (node_faults : F → ℕ) (faults : S → ℕ) (nodes : Forest F) (reader : Reader S) (error : InsertError) : Type 0 where
  pub too_many : error ≡ TooManyNodes → IsTooMany told
  pub fault : error ≡ SourceFault → HasFault faults reader
  pub changed : (source number : ℕ) → error ≡ SourceChanged source number → refusal_of reader ≡ Some (read.SourceChanged source number)
  pub no_change : told.tells ≡ true → (source number : ℕ) → error ≡ SourceChanged source number → ⊥
  pub spill : error ≡ SpillFault → Any (λ (n : Node F). (fault_of n ≡ Some node.SpillFault) × (0 < node_faults (file_of n))) (forest.nodes_of nodes)
  pub damaged : (was found at : ℕ) → error ≡ SpillDamaged was found at → Any (λ (n : Node F). fault_of n ≡ Some (node.SpillDamaged was found at)) (forest.nodes_of nodes)
  pub no_damage : told.tells ≡ true → (was found at : ℕ) → error ≡ SpillDamaged was found at → ⊥
  pub none_broken : (error ≡ SpillFault → ⊥) → ((was found at : ℕ) → error ≡ SpillDamaged was found at → ⊥) → All (λ (n : Node F). fault_of n ≡ None) (forest.nodes_of nodes)
