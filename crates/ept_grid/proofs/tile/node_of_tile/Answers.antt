use Rattle.std.proofs.Common.{◌∙◌, true, false, ap, sym, vec_capacity}
use Rattle.ept_space.specs.VoxelKey.{VoxelKey}
use Rattle.ept_grid.proofs.Filled.{overfull-lane, node-filled, order-filled, deep-told, shallow-told}
use Rattle.ept_grid.proofs.tile.node_of_tile.Goals as goal

pub returns-in-Some-first_overfull-clause-refused : goal.returns-in-Some-first_overfull-clause-refused
returns-in-Some-first_overfull-clause-refused c =
    let depth = ap (λ (k : VoxelKey). k.depth) c.key.view_is in
    λ _. (
      c.in_default.ensures,
      sym c.first_open_loser.ensures ∙ c.in_default-first_open_loser.is,
      record {
        one_of_eight = c.in-Some-first_overfull.ensures.0;
        overfull = overfull-lane c.args.key.now c.args.rules.now c.in_ok-kept.kept.heads.items c.in_ok-kept.kept.cells.items (vec_capacity c.in_ok-kept.kept.cells) c.in_ok-kept.kept.losers c.args.points.now c.args.mask _ true _ c.in_ok-kept.ensures.filled c.requires.ascend depth c.in-Some-first_overfull.ensures.1;
        before = λ k h. overfull-lane c.args.key.now c.args.rules.now c.in_ok-kept.kept.heads.items c.in_ok-kept.kept.cells.items (vec_capacity c.in_ok-kept.kept.cells) c.in_ok-kept.kept.losers c.args.points.now c.args.mask _ false k c.in_ok-kept.ensures.filled c.requires.ascend depth (c.in-Some-first_overfull.ensures.2 k h);
      },
    )

pub returns-then-is_deep-clause-refused : goal.returns-then-is_deep-clause-refused
returns-then-is_deep-clause-refused c =
    let depth = ap (λ (k : VoxelKey). k.depth) c.key.view_is in
    let deep = deep-told c.args.mask c.args.key.now.depth c.args.rules.now.cube.depth (sym c.is_deep.ensures ∙ c.if-is_deep.true) in
    λ _. (c.in_default.ensures, sym c.first_open_loser.ensures ∙ c.in_default-first_open_loser.is, λ o h. overfull-lane c.args.key.now c.args.rules.now c.in_ok-kept.kept.heads.items c.in_ok-kept.kept.cells.items (vec_capacity c.in_ok-kept.kept.cells) c.in_ok-kept.kept.losers c.args.points.now c.args.mask _ false o c.in_ok-kept.ensures.filled c.requires.ascend depth (c.in_default-first_overfull.ensures o h), deep.0, deep.1)

pub returns-clause-points : goal.returns-clause-points
returns-clause-points c =
    order-filled c.args.key.now c.args.rules.now c.in_ok-kept.kept.heads.items c.in_ok-kept.kept.cells.items (vec_capacity c.in_ok-kept.kept.cells) c.in_ok-kept.kept.losers c.args.points.now c.in_ok-kept.ensures.filled c.requires.ascend

pub returns-clause-node : goal.returns-clause-node
returns-clause-node c =
    let depth = ap (λ (k : VoxelKey). k.depth) c.key.view_is in
    node-filled c.args.key.now c.args.rules.now c.in_ok-kept.kept.heads.items c.in_ok-kept.kept.cells.items (vec_capacity c.in_ok-kept.kept.cells) c.in_ok-kept.kept.losers c.args.points.now c.args.mask _ c.requires.low c.in_ok-kept.ensures.filled c.requires.ascend c.in_default.ensures depth (sym c.first_open_loser.ensures ∙ c.in_default-first_open_loser.is) c.in_default-first_overfull.ensures (λ e. shallow-told c.args.mask c.args.key.now.depth c.args.rules.now.cube.depth (sym c.is_deep.ensures ∙ c.if-is_deep.false) e)

pub returns-clause-tile : goal.returns-clause-tile
returns-clause-tile c =
    let depth = ap (λ (k : VoxelKey). k.depth) c.key.view_is in
    record {
      inside = c.in_default.ensures;
      no_open_loser = sym c.first_open_loser.ensures ∙ c.in_default-first_open_loser.is;
      none_overfull = λ o h. overfull-lane c.args.key.now c.args.rules.now c.in_ok-kept.kept.heads.items c.in_ok-kept.kept.cells.items (vec_capacity c.in_ok-kept.kept.cells) c.in_ok-kept.kept.losers c.args.points.now c.args.mask _ false o c.in_ok-kept.ensures.filled c.requires.ascend depth (c.in_default-first_overfull.ensures o h);
      not_deep = λ e. shallow-told c.args.mask c.args.key.now.depth c.args.rules.now.cube.depth (sym c.is_deep.ensures ∙ c.if-is_deep.false) e;
    }
