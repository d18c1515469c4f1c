use Rattle.std.proofs.Common.{◌∙◌, ap, List, [], ◌++◌, map}
use Rattle.std.specs.BTreeMap.{insert_entry}
use Rattle.ept_space.specs.VoxelKey.{root, key_cmp}
use Rattle.ept_point.specs.declared.point.Point.{Point}
use Rattle.ept_table.specs.Octree.{Branch, entry_of, points_in}
use Rattle.ept_tree.proofs.Growing.{empty-tree}
use Rattle.ept_tree.proofs.Wholeness.{root-whole, whole-alone}
use Rattle.ept_tree.proofs.octree.Tree.new.Goals as goal

pub returns-clause-begun : goal.returns-clause-begun
returns-clause-begun c = λ points can. empty-tree c.args.rules.now points c.new.result c.insert.new.self.entries can c.new.ensures.key c.new.ensures.rules c.new.ensures.points c.new.ensures.mask (c.in_ok-insert.ensures.entries ∙ ap (λ (es : List Branch). insert_entry key_cmp es root c.new.result) c.new-nodes.ensures.empty)

pub returns-clause-none : goal.returns-clause-none
returns-clause-none c =
    ap (λ (es : List Branch). points_in es) (c.in_ok-insert.ensures.entries ∙ ap (λ (es : List Branch). insert_entry key_cmp es root c.new.result) c.new-nodes.ensures.empty)
    ∙ ap (λ (w : List Point). w ++ []) c.new.ensures.points

pub returns-clause-whole : goal.returns-clause-whole
returns-clause-whole c =
    let entries = c.insert.new.self.entries in
    whole-alone (map entry_of entries) (root-whole c.new.result c.new.ensures.mask entries (c.in_ok-insert.ensures.entries ∙ ap (λ (es : List Branch). insert_entry key_cmp es root c.new.result) c.new-nodes.ensures.empty))
