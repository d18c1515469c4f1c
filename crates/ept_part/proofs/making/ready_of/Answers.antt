use Rattle.std.proofs.Common.{◌∙◌, ◌<◌, sym, subst}
use Rattle.ept_config.specs.KeptOf.{IsKeptOf}
use Rattle.ept_config.specs.declared.kept.Kept.{Kept}
use Rattle.ept_meta.specs.Output.{rules_of}
use Rattle.ept_part.proofs.Bodies.{have-keys, body-valid}
use Rattle.ept_part.proofs.making.ready_of.Goals as goal

pub body_of-checkpoint-requires : goal.body_of-checkpoint-requires
body_of-checkpoint-requires c =
    body-valid c.args.config.now c.args.plan c.requires.plan c.args.sampled.inserted c.args.sampled.tree c.requires.grown c.in_ok-lines.ensures.known c.lines_law.ensures.told c.requires.number c.in_ok-lines.lines.items c.in_ok-lines.ensures.lines

pub returns-clause-ready : goal.returns-clause-ready
returns-clause-ready c = record {
  kept_is = subst (λ (k : Kept). IsKeptOf c.args.config.now k.bounds k) (sym c.body_of-checkpoint.ensures.kept) c.requires.plan.kept_is;
  newest = c.body_of-checkpoint.ensures.version;
  first = c.body_of-checkpoint.ensures.generation;
  lines = c.body_of-checkpoint.ensures.nodes ∙ c.in_ok-lines.ensures.lines;
  deep = subst (λ (k : Kept). 0 < (rules_of k).cube.depth) (sym c.body_of-checkpoint.ensures.kept) c.requires.deep;
  few = c.requires.grown.few;
  keys = have-keys c.args.config.now c.args.plan c.requires.plan c.args.sampled.inserted c.args.sampled.tree c.requires.grown c.in_ok-lines.ensures.known;
}
