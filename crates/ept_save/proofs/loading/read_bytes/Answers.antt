use Rattle.std.proofs.Common.{rules, refl}
use Rattle.ept_point.specs.declared.layout.Layout.TheVariants.{New}
use Rattle.ept_save.proofs.LoadedLines.{damaged-told}
use Rattle.ept_save.proofs.TileBytes.{bytes-told}
use Rattle.ept_save.proofs.loading.read_bytes.Goals as goal

pub returns-clause-bytes : goal.returns-clause-bytes
returns-clause-bytes g c =
    bytes-told (g.T.Store.files c.args.store.now) c.args.name.now c.in_ok-get.field-0 c.get.new.into.items c.get.new.into.items c.if-not-branch.false refl c.in_ok-get.ensures.ok

pub returns-then-not-has_length-clause-refused : goal.returns-then-not-has_length-clause-refused
returns-then-not-has_length-clause-refused g c = λ is rules_.
    damaged-told New rules_ c.args.line.now (g.T.Store.files c.args.store.now) c.args.name.now c.in_ok-get.field-0 c.get.new.into.items c.deref-then-not-has_length.result.now
    c.if-not-branch.false c.deref-then-not-has_length.ensures.value c.in_ok-get.ensures.ok
    (c.of_other_length.ensures.refused (search rules) rules_)
