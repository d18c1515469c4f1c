use Rattle.std.proofs.Common.{ap}
use Rattle.std.proofs.lemmas.Bool.Decides.{Decides-eqb}
use Rattle.std.proofs.lemmas.Slice.Eq.{slice_eq-Decides}
use Rattle.ept_class.specs.declared.class_set.ClassSet.{ClassSet}
use Rattle.ept_class.proofs.Bits.{same_set}
use Rattle.ept_config_diff.proofs.equal.is_same_set.Goals as goal

pub returns : goal.returns
returns c =
    let bytes = slice_eq-Decides Decides-eqb c.args.b.now.bytes c.args.a.now.bytes c.eq.result c.eq.ensures in
    (λ is. same_set c.args.b.now c.args.a.now (bytes.0 is), λ same. bytes.1 (ap (λ (set : ClassSet). set.bytes) same))
