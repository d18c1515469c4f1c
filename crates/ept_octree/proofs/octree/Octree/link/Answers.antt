use Rattle.std.proofs.Common.{map, sym, subst}
use Rattle.ept_forest.specs.Slots.{nodes_of, used_of}
use Rattle.ept_table.specs.Octree.{entry_of, AreWhole}
use Rattle.ept_octree.specs.Index.{in_slots, untold, branches, IsIndex}
use Rattle.ept_octree.proofs.Alike.{index-any, told-index}
use Rattle.ept_octree.proofs.Linked.{used-low, may-link, all-linked}
use Rattle.ept_octree.proofs.octree.Octree.link.Goals as goal

pub link_all-requires-clause-low : goal.link_all-requires-clause-low
link_all-requires-clause-low g c =
    let self = c.args.self.now in
    used-low g.F.SpillFile.held self.rules (used_of self.forest) (nodes_of self.forest) self.slots.entries (told-index g.F.SpillFile.held self)

pub link_all-requires-clause-may : goal.link_all-requires-clause-may
link_all-requires-clause-may g c =
    let self = c.args.self.now in
    may-link g.F.SpillFile.held self.rules (used_of self.forest) (nodes_of self.forest) self.slots.entries (told-index g.F.SpillFile.held self) c.known.ensures

pub returns-clause-linked : goal.returns-clause-linked
returns-clause-linked g c =
    let self = c.args.self.now in
    let e = c.link_all.ensures in
    let sites = self.slots.entries in
    let index = subst (λ w. IsIndex self.rules (used_of self.forest) w sites) (sym e.nodes) (told-index g.F.SpillFile.held self) in
    let whole = subst (λ w. AreWhole (map entry_of (branches w sites))) (sym e.nodes) c.requires.whole in
    all-linked g.F.SpillFile.held self.rules (used_of self.forest) (nodes_of c.link_all.new.forest) sites index whole e.children

pub invariant_of-self-clause-indexed : goal.invariant_of-self-clause-indexed
invariant_of-self-clause-indexed g c =
    let self = c.args.self.now in
    let e = c.link_all.ensures in
    let f = c.link_all.new.forest in
    let sites = self.slots.entries in
    let index = subst (λ w. IsIndex self.rules (used_of self.forest) w sites) (sym e.nodes) (told-index g.F.SpillFile.held self) in
    index-any g.F.SpillFile.held untold self.rules (used_of f) (nodes_of f) sites (subst (λ n. IsIndex self.rules n (in_slots g.F.SpillFile.held (nodes_of f)) sites) (sym e.used) index)
