use Rattle.std.proofs.lemmas.Bool.Decides.{Decides-int_eq}
use Rattle.std.proofs.lemmas.Slice.Eq.{slice_eq-Decides}
use Rattle.ept_config_diff.proofs.equal.is_same_corner.Goals as goal

pub returns : goal.returns
returns c = slice_eq-Decides Decides-int_eq c.args.b.now c.args.a.now c.eq.result c.eq.ensures
