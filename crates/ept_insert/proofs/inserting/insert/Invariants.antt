use Rattle.ept_octree.specs.Octree.{rules_of, most_of, cache_of, begun_of}
use Rattle.ept_table.specs.Scanned.{told_of}
use Rattle.ept_insert.proofs.Choosing.{tells, points}
use Rattle.ept_insert.proofs.inserting.insert.Given as goal

-- what the octree and the reader have, computed from them
abbrev pub ghosts-insert_told : goal.ghosts-insert_told
ghosts-insert_told g a = record {
  told = told_of g.S.Source.whole a.reader (rules_of a.octree) (most_of a.octree) (cache_of a.octree) (begun_of g.F.SpillFile.held a.octree) (tells g.F.SpillFile.held g.S.Source.whole a.octree a.reader) (points g.F.SpillFile.held g.S.Source.whole a.octree a.reader);
}
