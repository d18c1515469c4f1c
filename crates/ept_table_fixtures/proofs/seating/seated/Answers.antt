use Rattle.std.proofs.Common.{◌≡◌, ◌≤◌, [], ap, sym, subst, arith, List}
use Rattle.ept_forest.specs.Slots.{nodes_of, residents_of}
use Rattle.std.specs.Prelude.{All}
use Rattle.ept_space.specs.VoxelKey.{VoxelKey, root}
use Rattle.ept_config.specs.declared.source_count.SourceCount.{SourceCount}
use Rattle.ept_scan.specs.Opening.{IsFileOf}
use Rattle.ept_scan.specs.Reader.{files_of}
use Rattle.ept_table.specs.declared.note.Told.{Told}
use Rattle.ept_table.specs.At.{At}
use Rattle.ept_table.proofs.Lists.{at-zero}
use Rattle.ept_table_fixtures.proofs.seating.seated.Goals as goal

pub scanned_law-requires-clause-top : goal.scanned_law-requires-clause-top
scanned_law-requires-clause-top g c =
    subst (λ (w : List VoxelKey). At w 0 root) (sym (ap (λ (t : Told). t.begun) c.requires.told)) (at-zero root [])

pub scanned_law-requires-clause-files : goal.scanned_law-requires-clause-files
scanned_law-requires-clause-files g c =
    subst (λ (w : List SourceCount). All (IsFileOf c.args.known.kept w) (files_of g.S.Source.whole c.args.known.reader)) (sym c.as_slice.ensures) c.requires.known.files

pub make-requires-clause-cache : goal.make-requires-clause-cache
make-requires-clause-cache g c =
    let cache : c.args.cache ≡ g.J.Scan.told.cache = sym (ap (λ (t : Told). t.cache) c.requires.told) in
    let few : residents_of (nodes_of c.args.forest) ≤ 1 = c.plant_law.ensures.few in
    (cache, omega (arith, cache, few, c.requires.some.1))
