use Rattle.std.proofs.Common.{◌∙◌, inl, inr, ap, refl, Option}
use Rattle.std.specs.Prelude.{Ok, Vec}
use Rattle.std.specs.declared.alloc.Global.{Global}
use Rattle.ept_merge.specs.declared.joining.PartNode.{PartNode}
use Rattle.ept_merge.proofs.joining.together.Goals as goal

pub returns-in-Ok-None-clause-refused : goal.returns-in-Ok-None-clause-refused
returns-in-Ok-None-clause-refused c =
    inr (c.last_of.result, refl, c.last_of.ensures, inl (c.nodes_in_order.ensures.twice (c.in-Ok-None.is ∙ ap (λ (o : Option (Vec PartNode Global)). Ok o) c.in-Ok-None.field-0-is)))
