use Rattle.std.proofs.Common.{List, subst, sym}
use Rattle.std.specs.BTreeMap.{get}
use Rattle.ept_space.specs.VoxelKey.{key_cmp}
use Rattle.ept_hier.specs.Hierarchy.{Entry}
use Rattle.ept_query.specs.Hierarchies.{AreOf}
use Rattle.ept_query.proofs.Walking.{links-behind}
use Rattle.ept_query.proofs.Noting.{tiles-shallow}
use Rattle.ept_query.proofs.walk.note_file.Goals as goal

pub returns-clause-behind : goal.returns-clause-behind
returns-clause-behind g c = λ above.
    links-behind c.args.search.now c.args.top.now c.deref.result.now c.args.pending.now.keys c.note_links.new.pending.keys (subst (λ (es : List Entry). AreOf c.args.search.now c.args.top.now es) (sym c.deref.ensures.value) c.in_ok-entries.ensures.form) c.in_ok-note_links.ensures.links above

pub returns-clause-shallow : goal.returns-clause-shallow
returns-clause-shallow g c = λ shallow.
    tiles-shallow c.args.search.now c.args.top.now c.deref-2.result.now (get key_cmp c.args.tiles.now) (get key_cmp c.note_tiles.new.tiles) (subst (λ (es : List Entry). AreOf c.args.search.now c.args.top.now es) (sym c.deref-2.ensures.value) c.in_ok-entries.ensures.form) c.in_ok-note_tiles.ensures shallow
