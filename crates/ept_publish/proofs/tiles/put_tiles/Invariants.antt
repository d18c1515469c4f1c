use Rattle.std.proofs.Common.{◌≡◌, ◌≤◌, List, map, take, Some}
use Rattle.ept_base.specs.Files.{Files, StepsBy}
use Rattle.ept_base.specs.Moves.{Moves}
use Rattle.ept_sample.specs.declared.tiles.Tile.{Tile}
use Rattle.ept_meta.specs.Output.{tile_file}
use Rattle.ept_save.specs.Opening.{lines_of}
use Rattle.ept_publish.specs.Lines.{counted_by, named_by, NamesTiles}
use Rattle.ept_publish.specs.Publishing.{PutsAll, SameButThese}
use Rattle.ept_publish.proofs.tiles.put_tiles.Given as goal

abbrev pub invariant-loop-line : goal.invariant-loop-line
invariant-loop-line g l = record {
  counts : l.counts.items ≡ map counted_by (take l.line-index l.lines);
  put : (start : Files) (tiles : List Tile) → g.T.Store.files l.initial.store ≡ Some start → NamesTiles start l.saved.current tiles
      → StepsBy (PutsAll (map tile_file (take l.line-index tiles))) (g.T.Store.files l.initial.store) (g.T.Store.files l.store);
  moves : Moves g.T.Store.files g.T.Store.may_leave g.T.Store.moment g.T.Store.image_since (SameButThese (map named_by (lines_of l.saved.current))) l.initial.store l.store;
  later : g.T.Store.faults l.initial.store ≤ g.T.Store.faults l.store;
}
