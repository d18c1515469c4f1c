use Rattle.std.proofs.Common.{◌≡◌, ◌∙◌, sym, ap, cond, nat_lt, map}
use Rattle.ept_space.specs.VoxelKey.{VoxelKey}
use Rattle.ept_hier.specs.OpenFiles.{with_entry}
use Rattle.ept_hier.proofs.Steps.{middle-deep, middle-top, node-filed, node-unfiled}
use Rattle.ept_hier.proofs.files.add_node.Goals as goal
use Rattle.ept_hier.proofs.files.add_node.Goals.{then-key-gt0+in_ok-add_above, else-key-gt0}

pub returns-in_ok-insert : goal.returns-in_ok-insert
returns-in_ok-insert c =
    let middle : c.if-key-gt0.files.entries ≡ cond (nat_lt 0 c.args.key.now.depth) (map (with_entry c.args.step (c.args.key.now, c.args.count)) c.args.files.now.entries) c.args.files.now.entries =
    elim c.if-key-gt0.branch [
      | then-key-gt0+in_ok-add_above w ↦ rw w.files-is (middle-deep c.args.step (c.args.key.now, c.args.count) c.key.inside.depth c.args.files.now.entries _ (ap (λ (k : VoxelKey). k.depth) c.key.view_is) w.if-key-gt0.true w.in_ok-add_above.ensures)
      | else-key-gt0 w ↦ rw w.files-is (middle-top c.args.step (c.args.key.now, c.args.count) c.key.inside.depth c.args.files.now.entries (ap (λ (k : VoxelKey). k.depth) c.key.view_is) w.if-key-gt0.false)
    ] in
    c.in_ok-insert.ensures.entries
    ∙ node-filed c.args.step (c.args.key.now, c.args.count) _ c.args.files.now.entries c.if-key-gt0.files.entries c.in_ok-begin.field-0 c.key.view_is middle (sym c.has_file.ensures ∙ c.if-has_file.true) c.in_ok-begin.ensures

pub returns-else-has_file : goal.returns-else-has_file
returns-else-has_file c =
    let middle : c.if-key-gt0.files.entries ≡ cond (nat_lt 0 c.args.key.now.depth) (map (with_entry c.args.step (c.args.key.now, c.args.count)) c.args.files.now.entries) c.args.files.now.entries =
    elim c.if-key-gt0.branch [
      | then-key-gt0+in_ok-add_above w ↦ rw w.files-is (middle-deep c.args.step (c.args.key.now, c.args.count) c.key.inside.depth c.args.files.now.entries _ (ap (λ (k : VoxelKey). k.depth) c.key.view_is) w.if-key-gt0.true w.in_ok-add_above.ensures)
      | else-key-gt0 w ↦ rw w.files-is (middle-top c.args.step (c.args.key.now, c.args.count) c.key.inside.depth c.args.files.now.entries (ap (λ (k : VoxelKey). k.depth) c.key.view_is) w.if-key-gt0.false)
    ] in
    node-unfiled c.args.step (c.args.key.now, c.args.count) c.args.files.now.entries c.if-key-gt0.files.entries middle (sym c.has_file.ensures ∙ c.if-has_file.false)
