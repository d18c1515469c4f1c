use Rattle.std.proofs.Common.{refl}
use Rattle.ept_sample.specs.Place.{place}
use Rattle.ept_sample.proofs.RankLaws.{same_cells}
use Rattle.ept_sample.proofs.rank.share_cell.Goals as goal

pub returns : goal.returns
returns c = record {
  one_cell = same_cells c.args.rules.now.cube c.args.depth (place c.args.first.now) (place c.args.second.now) c.eq.result c.cell.result c.cell-2.result (rw c.cell.ensures.cell (rw c.place_of.ensures refl)) (rw c.cell-2.ensures.cell (rw c.place_of-2.ensures refl)) c.eq.ensures;
}
