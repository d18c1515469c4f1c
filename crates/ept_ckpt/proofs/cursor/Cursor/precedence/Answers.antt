use Rattle.std.proofs.Common.{◌≡◌, ◌∙◌, Ok, false, sym, subst, ap, refl}
use Rattle.ept_class.specs.declared.class_set.ClassSet.{ClassSet}
use Rattle.ept_class.specs.ClassSet.{has_member}
use Rattle.ept_class.proofs.Bits.{none_has_no_member}
use Rattle.ept_ckpt.specs.Facts.{PrecedenceFacts}
use Rattle.ept_ckpt.specs.Fields.{Reading}
use Rattle.ept_ckpt.proofs.ReadPrecedence.{form_before}
use Rattle.ept_ckpt.proofs.cursor.Cursor.precedence.Goals as goal

pub returns-in-V1 : goal.returns-in-V1
returns-in-V1 c = record {
  reads = (
    ap (λ (form : Reading PrecedenceFacts). form c.args.self.now.total c.args.self.now.rest.now) (form_before c.args.version c.in-V1.is)
        ∙ ap (λ (set : ClassSet). Ok (record { first = set.bytes; withheld_last = false }, c.args.self.now.rest.now)) (sym c.new.ensures.value),
    refl,
  );
  plain = λ older. (subst (λ (set : ClassSet). has_member set ≡ false) (sym c.new.ensures.value) none_has_no_member, refl);
}
