use Rattle.std.proofs.Common.{◌≡◌, Option, sym, subst}
use Rattle.std.specs.Prelude.{MatchOption}
use Rattle.ept_hier.specs.Hierarchy.{keys_of}
use Rattle.ept_sample.proofs.Members.{all-member}
use Rattle.ept_fit.specs.Fit.{IsInOctree}
use Rattle.ept_check.specs.declared.fault.Fault.{Fault}
use Rattle.ept_check.specs.Facts.{IsFirstLack}
use Rattle.ept_check.specs.Looking.{Finds, AreFound}
use Rattle.ept_check.specs.Walking.{LoseTo, HaveNewIds}
use Rattle.ept_check.proofs.Looks.{early-fault, late-first, all-hold, err-found, rules-come}
use Rattle.ept_check.proofs.seen.Seen.look.Goals as goal

pub from_tile-requires-clause-low : goal.from_tile-requires-clause-low
from_tile-requires-clause-low c =
    (all-member (IsInOctree c.args.octree.now.rules) c.args.key.now (keys_of c.args.octree.now.nodes.items) c.requires.sound.in_octree c.requires.listed).1

pub returns-in-Err-clause-found : goal.returns-in-Err-clause-found
returns-in-Err-clause-found c =
    let octree = c.args.octree.now in
    let seen = c.args.self.now in
    let key = c.args.key.now in
    let points = c.args.points.now in
    err-found c.fault_of.result c.in-Err.error (λ (found : Option Fault). MatchOption found (AreFound octree seen key points) (IsFirstLack (Finds octree seen key points))) c.fault_of.ensures (λ other.
    early-fault (LoseTo seen.above.items key points) (HaveNewIds seen.ids points) octree.rules octree.nodes.items key points c.mask_of-mask.result c.mask_of-mask.ensures.«open» c.requires.parent c.in-Err.error other c.mask_of-mask.ensures.deepest (c.in-Err.ensures.refused other))

pub returns-in-Some-clause-found : goal.returns-in-Some-clause-found
returns-in-Some-clause-found c =
    let octree = c.args.octree.now in
    let seen = c.args.self.now in
    let key = c.args.key.now in
    let points = c.args.points.now in
    late-first (LoseTo seen.above.items key points) (HaveNewIds seen.ids points) octree.rules octree.nodes.items key points c.mask_of-mask.result c.mask_of-mask.ensures.«open» c.requires.parent c.in-Ok.ensures.tile c.in-Some.fault c.in-Some.ensures.some

pub returns-clause-found : goal.returns-clause-found
returns-clause-found c =
    let octree = c.args.octree.now in
    let seen = c.args.self.now in
    let key = c.args.key.now in
    let points = c.args.points.now in
    all-hold (LoseTo seen.above.items key points) (HaveNewIds seen.ids points) octree.rules octree.nodes.items key points c.mask_of-mask.result c.mask_of-mask.ensures.«open» c.requires.parent c.in-Ok.ensures.tile c.in-None.ensures.none

pub returns-clause-of_rules : goal.returns-clause-of_rules
returns-clause-of_rules c = λ none.
    rules-come c.args.octree.now.rules c.in-Ok.grid c.args.self.now.above.items c.take.new.self.above.items c.in_ok-take.ensures.above c.in-Ok.ensures.node.rules c.requires.of_rules
