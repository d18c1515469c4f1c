use Rattle.std.proofs.Common.{ap, ◌∙◌, eqb, bit_or, rules, tests}
use Rattle.std.proofs.lemmas.Iterator.{YieldsList-from_slice}
use Rattle.std.proofs.lemmas.Iterator.Consumers.{fold_from_yields_List}
use Rattle.ept_class.specs.ClassSet.{has_member}
use Rattle.ept_class.proofs.Bits.{or-none}
use Rattle.ept_class.proofs.class_set.ClassSet.is_empty.Goals as goal

pub returns : goal.returns
unfolding has_member
returns c = record {
  none = ap (λ n. eqb n 0) (fold_from_yields_List _ bit_or 0 c.fold.result c.fold.ensures.ran (YieldsList-from_slice c.args.self.now.bytes cc) (λ a x b q k. search (rules, tests))) ∙ or-none c.args.self.now.bytes;
}
