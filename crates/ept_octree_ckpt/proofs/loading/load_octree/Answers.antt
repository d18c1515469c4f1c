use Rattle.std.proofs.Common.{◌≡◌, ◌∙◌, List, map, sym, ap, subst, rules}
use Rattle.std.specs.Prelude.{Err}
use Rattle.ept_ckpt.specs.declared.checkpoint.Checkpoint.{Checkpoint}
use Rattle.ept_save.specs.declared.error.SaveError.TheVariants.{TileDamaged}
use Rattle.ept_table.specs.Octree.{Branch, entry_of, AreWhole}
use Rattle.ept_octree.specs.Octree.{rules_of, nodes_of}
use Rattle.ept_octree.proofs.Begun.{root-whole}
use Rattle.ept_octree_ckpt.proofs.Lining.{have-keys}
use Rattle.ept_octree_ckpt.specs.declared.error.PhaseError.{PhaseError}
use Rattle.ept_octree_ckpt.specs.declared.error.PhaseError.TheVariants.{Save}
use Rattle.ept_octree_ckpt.proofs.loading.load_octree.Goals as goal

pub link-requires-clause-whole : goal.link-requires-clause-whole
link-requires-clause-whole g c =
    let at : Checkpoint = c.in-Some.checkpoint.now in
    c.lines_law.ensures.whole (nodes_of g.F.SpillFile.held c.add_nodes.new.octree) at.nodes c.in_ok-add_nodes-in-Some.ensures.told (have-keys at) at.is_checkpoint.nodes_are.octree

pub returns-in_ok-add_nodes-in-Some-clause-whole : goal.returns-in_ok-add_nodes-in-Some-clause-whole
returns-in_ok-add_nodes-in-Some-clause-whole g c =
    let at : Checkpoint = c.in-Some.checkpoint.now in
    subst (λ (w : List Branch). AreWhole (map entry_of w)) (sym c.link.ensures.nodes)
    (c.lines_law.ensures.whole (nodes_of g.F.SpillFile.held c.add_nodes.new.octree) at.nodes c.in_ok-add_nodes-in-Some.ensures.told (have-keys at) at.is_checkpoint.nodes_are.octree)

pub returns-in_ok-add_nodes-in-Some-clause-agrees : goal.returns-in_ok-add_nodes-in-Some-clause-agrees
returns-in_ok-add_nodes-in-Some-clause-agrees g c = c.link.ensures.agrees c.in_ok-add_nodes-in-Some.ensures.agrees

pub link-requires-in-None : goal.link-requires-in-None
link-requires-in-None g c = record {
  whole = subst (λ (w : List Branch). AreWhole (map entry_of w)) (sym c.requires.new) (root-whole (rules_of c.args.octree.now));
  unbroken = c.requires.unbroken;
}

pub returns-in-None-clause-whole : goal.returns-in-None-clause-whole
returns-in-None-clause-whole g c =
    subst (λ (w : List Branch). AreWhole (map entry_of w)) (sym (c.link-in-None.ensures.nodes ∙ c.requires.new)) (root-whole (rules_of c.args.octree.now))

pub returns-in_err-add_nodes-in-Some-clause-damaged : goal.returns-in_err-add_nodes-in-Some-clause-damaged
returns-in_err-add_nodes-in-Some-clause-damaged g c = λ key is.
    let its : c.in_err-add_nodes-in-Some.field-0.0 ≡ Save (TileDamaged key) = search (rules, is) in
    c.add_nodes.ensures.damaged key (c.in_err-add_nodes-in-Some.was ∙ ap (λ (e : PhaseError). Err e) its)

pub returns-in_err-add_nodes-in-Some-clause-sound : goal.returns-in_err-add_nodes-in-Some-clause-sound
returns-in_err-add_nodes-in-Some-clause-sound g c = λ shelf all told sound has key is.
    let its : c.in_err-add_nodes-in-Some.field-0.0 ≡ Save (TileDamaged key) = search (rules, is) in
    c.add_nodes.ensures.sound shelf all told sound has key (c.in_err-add_nodes-in-Some.was ∙ ap (λ (e : PhaseError). Err e) its)
