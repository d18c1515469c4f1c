use Rattle.std.proofs.Common.{◌≡◌, ℕ, List, sym, ◌∙◌, subst, arith}
use Rattle.std.proofs.lemmas.Bool.{false≢true}
use Rattle.std.proofs.lemmas.List.{length-map}
use Rattle.std.specs.Prelude.{string_bytes}
use Rattle.ept_merge.specs.Merging.{AreAllParts}
use Rattle.ept_command.specs.Words.{bytes_of, masks_in}
use Rattle.ept_command.proofs.PartTexts.{one_list}
use Rattle.ept_command.proofs.octants.read_parts.Goals as goal

pub returns-then-not-are_all_parts-clause-none : goal.returns-then-not-are_all_parts-clause-none
returns-then-not-are_all_parts-clause-none c = λ masks is.
    let same : masks_in c.in_ok-parts.parts ≡ masks = one_list c.class_set_law.ensures.once (bytes_of c.args.texts.now) (masks_in c.in_ok-parts.parts) masks c.in_ok-parts.ensures.some is.octants_are in
    let yes = c.are_all_parts.ensures.1 (subst AreAllParts (sym (c.as_slice.ensures ∙ same)) is.all) in
    false≢true (sym c.if-not-are_all_parts.true ∙ yes)

pub returns-clause-some : goal.returns-clause-some
returns-clause-some c = record {
  few = omega (arith, length-map c.args.texts.now string_bytes, c.if-texts-gt-MOST_PARTS.false);
  octants_are = c.in_ok-parts.ensures.some;
  all = subst AreAllParts c.as_slice.ensures (c.are_all_parts.ensures.0 c.if-not-are_all_parts.false);
}
