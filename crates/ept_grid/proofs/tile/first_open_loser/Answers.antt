use Rattle.std.proofs.Common.{◌≡◌, ◌∙◌, List, ap, sym, subst, vec_capacity}
use Rattle.std.specs.Prelude.{position}
use Rattle.std.specs.List.{All}
use Rattle.ept_space.specs.OctreeCube.{InCube}
use Rattle.ept_sample.specs.Place.{place, AllInCube}
use Rattle.ept_sample.proofs.IdLaws.{HasDistinctIds-IsAscending}
use Rattle.ept_grid.specs.declared.pool.Cell.{Cell}
use Rattle.ept_grid.specs.Settling.{winners, is_open_stranger}
use Rattle.ept_grid.specs.Columns.{StandInPlace}
use Rattle.ept_grid.proofs.Filled.{none-open, box-in-cube}
use Rattle.ept_grid.proofs.Lookups.{same-first, winners-hold, all-in-place}
use Rattle.ept_grid.proofs.tile.first_open_loser.Goals as goal

pub returns-then-not-has_open_losers : goal.returns-then-not-has_open_losers
returns-then-not-has_open_losers c =
    sym (none-open c.args.key.now c.args.rules.now c.args.kept.now.heads.items c.args.kept.now.cells.items (vec_capacity c.args.kept.now.cells) c.args.kept.now.losers c.args.points.now c.args.mask c.requires.filled c.if-not-has_open_losers.ensures)

pub first_losing-requires-clause-all_inside : goal.first_losing-requires-clause-all_inside
first_losing-requires-clause-all_inside c =
    let kept = c.args.kept.now in
    let inside = box-in-cube c.args.key.now c.args.rules.now c.args.points.now c.known.ensures c.known-2.ensures c.requires.low c.requires.inside in
    subst (λ (cs : List Cell). AllInCube c.args.rules.now.cube (winners cs)) (sym c.as_slice.ensures.value) (winners-hold (λ p. InCube c.args.rules.now.cube (place p)) (winners kept.cells.items) kept.losers c.args.points.now c.requires.filled.all inside)

pub first_losing-requires-clause-inside : goal.first_losing-requires-clause-inside
first_losing-requires-clause-inside c =
    box-in-cube c.args.key.now c.args.rules.now c.args.points.now c.known.ensures c.known-2.ensures c.requires.low c.requires.inside

pub first_losing-requires-clause-in_place : goal.first_losing-requires-clause-in_place
first_losing-requires-clause-in_place c =
    let kept = c.args.kept.now in
    subst (λ (cs : List Cell). All (StandInPlace c.args.rules.now c.key.inside.depth (winners cs)) c.args.points.now) (sym c.as_slice.ensures.value) (all-in-place c.args.rules.now c.key.inside.depth (winners kept.cells.items) kept.losers c.args.points.now (HasDistinctIds-IsAscending c.args.points.now c.requires.ascend) c.requires.filled.all)

pub returns : goal.returns
returns c =
    let points = c.args.points.now in
    let kept = c.args.kept.now in
    let is : c.key.inside.depth ≡ c.args.key.now.depth = ap (λ v. v.depth) c.key.view_is in
    let same = same-first c.args.rules.now c.args.key.now.depth c.args.mask (winners kept.cells.items) kept.losers points c.requires.filled.settled (HasDistinctIds-IsAscending points c.requires.ascend) c.requires.filled.all in
    let found = subst (λ (cs : List Cell). c.first_losing.result ≡ position (is_open_stranger c.args.rules.now c.key.inside.depth c.args.mask (winners cs)) points) c.as_slice.ensures.value c.first_losing.ensures in
    subst (λ n. c.first_losing.result ≡ position (is_open_stranger c.args.rules.now n c.args.mask (winners kept.cells.items)) points) is found ∙ same
