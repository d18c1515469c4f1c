use Rattle.std.proofs.Common.{◌∙◌, ◌≤◌, List, sym, subst, arith}
use Rattle.std.proofs.lemmas.Result.{IfOk-weaker, IfErr-weaker}
use Rattle.ept_point.specs.declared.point.Point.{Point}
use Rattle.ept_space.specs.OctreeCube.{InCube}
use Rattle.ept_sample.specs.Place.{place}
use Rattle.ept_scan.specs.Queue.{Held, LiesIn}
use Rattle.ept_scan.specs.Reader.{left_of, files_of}
use Rattle.ept_octree.specs.Octree.{rules_of}
use Rattle.ept_insert.proofs.Beginning.{may-insert}
use Rattle.ept_insert.proofs.Ending.{now-sampled, now-left, has-too_many, has-no_change, has-no_damage, still-inside}
use Rattle.ept_insert.proofs.inserting.insert.Goals as goal

pub insert_told-requires-clause-may : goal.insert_told-requires-clause-may
insert_told-requires-clause-may g c κs within =
    let inside : (p : Point) → LiesIn (files_of g.S.Source.whole c.allow.new.self) p → InCube (rules_of c.args.octree).cube (place p) = λ p lies. c.requires.inside p (subst (λ (w : List Held). LiesIn w p) c.allow.ensures.files lies) in
    may-insert g.F.SpillFile.held g.F.SpillFile.faults g.F.SpillFile.keeps g.S.Source.whole g.S.Source.left g.S.Source.given g.S.Source.faults c.args.octree c.allow.new.self c.allow.ensures.reader (c.allow.ensures.refusal ∙ c.requires.fresh) inside c.requires.whole c.requires.linked c.requires.agrees c.requires.unbroken (c.requires.number ∙ sym c.allow.ensures.drawn)

pub returns-clause-sampled : goal.returns-clause-sampled
returns-clause-sampled g c =
    let number = c.requires.number ∙ sym c.allow.ensures.drawn in
    let enough : c.args.count ≤ left_of c.allow.new.self = omega (arith, c.requires.enough, c.allow.ensures.left) in
    IfOk-weaker c.insert_told.result _ _ (λ r done first left stands. now-sampled g.F.SpillFile.held g.F.SpillFile.faults g.F.SpillFile.keeps g.S.Source.whole g.S.Source.left g.S.Source.given g.S.Source.faults c.args.octree c.allow.new.self c.args.count number c.allow.ensures.allowed enough first left (record { telling = stands.telling; rest = c.allow.ensures.rest left stands.rest; can = stands.can; sampled = stands.sampled }) r.0 r.1 done) c.insert_told.ensures.inserted

pub returns-clause-rest_left : goal.returns-clause-rest_left
returns-clause-rest_left g c =
    let number = c.requires.number ∙ sym c.allow.ensures.drawn in
    let enough : c.args.count ≤ left_of c.allow.new.self = omega (arith, c.requires.enough, c.allow.ensures.left) in
    IfOk-weaker c.insert_told.result _ _ (λ r done first left stands. now-left g.F.SpillFile.held g.F.SpillFile.faults g.F.SpillFile.keeps g.S.Source.whole g.S.Source.left g.S.Source.given g.S.Source.faults c.args.octree c.allow.new.self c.args.count number c.allow.ensures.allowed enough first left (record { telling = stands.telling; rest = c.allow.ensures.rest left stands.rest; can = stands.can; sampled = stands.sampled }) r.0 r.1 done) c.insert_told.ensures.inserted

pub returns-clause-too_many : goal.returns-clause-too_many
returns-clause-too_many g c =
    let number = c.requires.number ∙ sym c.allow.ensures.drawn in
    let enough : c.args.count ≤ left_of c.allow.new.self = omega (arith, c.requires.enough, c.allow.ensures.left) in
    IfErr-weaker c.insert_told.result _ _ (λ r refused is first left stands. has-too_many g.F.SpillFile.held g.F.SpillFile.faults g.F.SpillFile.keeps g.S.Source.whole g.S.Source.left g.S.Source.given g.S.Source.faults c.args.octree c.allow.new.self c.args.count number c.allow.ensures.allowed enough first left (record { telling = stands.telling; rest = c.allow.ensures.rest left stands.rest; can = stands.can; sampled = stands.sampled }) r.forest r.reader r.error refused is) c.insert_told.ensures.refused

pub returns-clause-no_change : goal.returns-clause-no_change
returns-clause-no_change g c =
    let number = c.requires.number ∙ sym c.allow.ensures.drawn in
    let enough : c.args.count ≤ left_of c.allow.new.self = omega (arith, c.requires.enough, c.allow.ensures.left) in
    IfErr-weaker c.insert_told.result _ _ (λ r refused source n is first left stands. has-no_change g.F.SpillFile.held g.F.SpillFile.faults g.F.SpillFile.keeps g.S.Source.whole g.S.Source.left g.S.Source.given g.S.Source.faults c.args.octree c.allow.new.self c.args.count number c.allow.ensures.allowed enough first left (record { telling = stands.telling; rest = c.allow.ensures.rest left stands.rest; can = stands.can; sampled = stands.sampled }) r.forest r.reader r.error refused source n is) c.insert_told.ensures.refused

pub returns-clause-no_damage : goal.returns-clause-no_damage
returns-clause-no_damage g c =
    let number = c.requires.number ∙ sym c.allow.ensures.drawn in
    let enough : c.args.count ≤ left_of c.allow.new.self = omega (arith, c.requires.enough, c.allow.ensures.left) in
    IfErr-weaker c.insert_told.result _ _ (λ r refused was found at is first left stands. has-no_damage g.F.SpillFile.held g.F.SpillFile.faults g.F.SpillFile.keeps g.S.Source.whole g.S.Source.left g.S.Source.given g.S.Source.faults c.args.octree c.allow.new.self c.args.count number c.allow.ensures.allowed enough first left (record { telling = stands.telling; rest = c.allow.ensures.rest left stands.rest; can = stands.can; sampled = stands.sampled }) r.forest r.reader r.error refused was found at is) c.insert_told.ensures.refused

pub returns-clause-inside : goal.returns-clause-inside
returns-clause-inside g c =
    let number = c.requires.number ∙ sym c.allow.ensures.drawn in
    let enough : c.args.count ≤ left_of c.allow.new.self = omega (arith, c.requires.enough, c.allow.ensures.left) in
    let inside : (p : Point) → LiesIn (files_of g.S.Source.whole c.allow.new.self) p → InCube (rules_of c.args.octree).cube (place p) = λ p lies. c.requires.inside p (subst (λ (w : List Held). LiesIn w p) c.allow.ensures.files lies) in
    IfOk-weaker c.insert_told.result _ _ (λ r done. still-inside g.F.SpillFile.held g.F.SpillFile.faults g.F.SpillFile.keeps g.S.Source.whole g.S.Source.left g.S.Source.given g.S.Source.faults c.args.octree c.allow.new.self c.args.count number c.allow.ensures.allowed enough inside r.0 r.1 done) c.insert_told.ensures.inserted

pub returns-clause-none_broken : goal.returns-clause-none_broken
returns-clause-none_broken g c =
    IfErr-weaker c.insert_told.result _ _ (λ r refused. refused.none_broken) c.insert_told.ensures.refused
