use Rattle.std.proofs.Common.{◌≡◌, ◌∙◌, ℕ, arith, sym, ap, String, Global}
use Rattle.std.specs.Prelude.{string_bytes}
use Rattle.ept_part.proofs.Digits.{name_below, name-yes, name-no, folder-of}
use Rattle.ept_part.proofs.names.folder.Goals as goal
use Rattle.ept_part.proofs.names.folder.Goals.{then-has_octant+in_ok-push_str, else-has_octant}

pub loop-octant-init : goal.loop-octant-init
loop-octant-init c = c.in_ok-name.ensures.ok

pub loop-octant-preserved : goal.loop-octant-preserved
loop-octant-preserved c = elim c.if-has_octant.branch [
  | then-has_octant+in_ok-push_str w ↦
      ap (λ (s : String Global). string_bytes s) w.name-is
      ∙ name-yes c.args.octants c.loop-octant.octant (string_bytes c.loop-octant.name) _ w.digit.result.now c.loop-octant.invariant w.digit.ensures w.in_ok-push_str.ensures.bytes (sym c.has_octant.ensures ∙ w.if-has_octant.true)
  | else-has_octant w ↦
      ap (λ (s : String Global). string_bytes s) w.name-is
      ∙ name-no c.args.octants c.loop-octant.octant (string_bytes c.loop-octant.name) c.loop-octant.invariant (sym c.has_octant.ensures ∙ w.if-has_octant.false)
]

pub returns : goal.returns
returns c =
    let end : c.loop-octant.octant ≡ 8 = omega arith in
    c.loop-octant.invariant ∙ (ap (λ (n : ℕ). name_below c.args.octants n) end ∙ folder-of c.args.octants)
