use Rattle.std.proofs.Common.{◌∙◌, List, ◌++◌, ℕ, sym, ap, subst, rules}
use Rattle.std.specs.Prelude.{IsNone, ◌↔◌}
use Rattle.ept_point.specs.Packed.{HasFieldAboveBound}
use Rattle.ept_point.specs.Layout.{no_high_bytes}
use Rattle.ept_point.proofs.LayoutLaws.{packed_of_old, put_before, read_fits, read_old}
use Rattle.ept_point.proofs.packed.unpack_old.Goals as goal

pub returns-clause-point : goal.returns-clause-point
returns-clause-point c =
    read_old c.args.bytes.now c.put_front.new.into c.unpack.result (search rules) (put_before c.args.bytes.now _ (search rules) c.put_front.ensures) c.unpack.ensures.point

pub returns-clause-fits : goal.returns-clause-fits
returns-clause-fits c =
    read_fits c.args.bytes.now c.put_front.new.into c.unpack.result (search rules) (put_before c.args.bytes.now _ (search rules) c.put_front.ensures) c.unpack.ensures.point

pub returns-clause-none : goal.returns-clause-none
returns-clause-none c =
    subst (λ (t : List ℕ). IsNone c.unpack.result ↔ HasFieldAboveBound t) (put_before c.args.bytes.now _ (search rules) c.put_front.ensures) c.unpack.ensures.none

pub returns-clause-inverse : goal.returns-clause-inverse
returns-clause-inverse c =
    λ p fits e. c.unpack.ensures.inverse p (packed_of_old p fits ∙ ap (λ (t : List ℕ). t ++ no_high_bytes) e ∙ sym (put_before c.args.bytes.now _ (search rules) c.put_front.ensures))
