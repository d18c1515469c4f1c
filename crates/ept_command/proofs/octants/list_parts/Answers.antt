use Rattle.std.proofs.Common.{◌≡◌, ◌<◌, ◌+◌, ℕ, List, String, Global, length, set, take, ap, sym, ◌∙◌, subst, arith, length-set}
use Rattle.std.specs.List.{AllZip}
use Rattle.std.specs.Prelude.{string_bytes}
use Rattle.ept_command.specs.Words.{bytes_of, IsOctantsText}
use Rattle.ept_command.proofs.PartTexts.{list-more, list-none}
use Rattle.ept_command.proofs.octants.list_parts.Goals as goal

pub returns-in_err-masks-clause-none : goal.returns-in_err-masks-clause-none
returns-in_err-masks-clause-none c =
    rw c.from_residual.ensures (list-none c.args.texts.now c.loop-text.text-index c.text-item.result c.loop-text-test.true c.text-item.is
    (subst (λ (t : List ℕ). (octants : ℕ) → ¬ IsOctantsText t octants) c.deref.ensures c.in_err-masks.ensures.none))

pub loop-text-preserved : goal.loop-text-preserved
loop-text-preserved c =
    let i = c.loop-text in
    let few : i.text-index < length i.masks = omega (arith, c.requires.few, c.loop-text-test.true, i.invariant.array) in
    record {
      array = length-set i.masks i.len c.in_ok-masks.field-0 ∙ i.invariant.array;
      place = ap (λ (n : ℕ). n + 1) i.invariant.place;
      listed = subst (λ (n : ℕ). AllZip IsOctantsText (bytes_of (take (i.text-index + 1) c.args.texts.now)) (take (i.text-index + 1) (set i.masks n c.in_ok-masks.field-0))) (sym i.invariant.place)
          (list-more c.args.texts.now i.masks i.text-index c.text-item.result c.in_ok-masks.field-0 c.loop-text-test.true c.text-item.is few i.invariant.listed
          (subst (λ (t : List ℕ). IsOctantsText t c.in_ok-masks.field-0) c.deref.ensures c.in_ok-masks.ensures.some));
    }
