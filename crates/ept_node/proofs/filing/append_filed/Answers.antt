use Rattle.std.proofs.Common.{◌≡◌, ◌∙◌, ℕ, ◌*◌, Err, sym, ap}
use Rattle.ept_point.specs.Dimensions.{packed_width}
use Rattle.ept_node.specs.declared.error.NodeError.{NodeError}
use Rattle.ept_node.specs.declared.error.NodeError.TheVariants.{SpillDamaged}
use Rattle.ept_node.specs.Shown.{filed_node}
use Rattle.ept_node.proofs.Filings.{handed-on, damaged-told, intact-told, listed-alike, listed-told}
use Rattle.ept_node.proofs.filing.append_filed.Goals as goal

pub returns-in_err-bytes-clause-intact : goal.returns-in_err-bytes-clause-intact
returns-in_err-bytes-clause-intact g c = λ tells distinct. (
    let told = g.F.SpillFile.held c.args.file.now in
    intact-told c.tile_once_law.ensures.once c.tile_length_law.ensures.length (filed_node told c.args.filed.now) told (λ kept found at. c.from_residual.result ≡ Err (SpillDamaged kept found at))
    (λ once. c.known.ensures.ascend told once)
    (λ kept found at is. c.in_err-bytes.ensures.kept kept found at (ap (λ (d : NodeError). Err d) (handed-on c.from_residual.result c.in_err-bytes.field-0.0 (SpillDamaged kept found at) c.from_residual.ensures.1 is)) ∙ ap (λ (n : ℕ). packed_width * n) (sym (c.known.ensures.count told)))
    (λ kept found at is. c.in_err-bytes.ensures.damaged kept found at (ap (λ (d : NodeError). Err d) (handed-on c.from_residual.result c.in_err-bytes.field-0.0 (SpillDamaged kept found at) c.from_residual.ensures.1 is)))
    tells distinct)

pub returns-in_err-points-clause-intact : goal.returns-in_err-points-clause-intact
returns-in_err-points-clause-intact g c = λ tells distinct. (
    let told = g.F.SpillFile.held c.args.file.now in
    let node = filed_node told c.args.filed.now in
    let bytes = c.in_ok-bytes.bytes.items in
    intact-told c.tile_once_law.ensures.once c.tile_length_law.ensures.length node told (λ kept found at. c.from_residual-in_err-points.result ≡ Err (SpillDamaged kept found at))
    (λ once. c.known.ensures.ascend told once)
    (λ kept found at is. (let wrong = c.in_err-points.ensures.wrong kept found at (handed-on c.from_residual-in_err-points.result c.in_err-points.field-0.0 (SpillDamaged kept found at) c.from_residual-in_err-points.ensures.1 is) in wrong.0 ∙ (c.in_ok-bytes.ensures.length ∙ ap (λ (n : ℕ). packed_width * n) (sym (c.known.ensures.count told)))))
    (λ kept found at is. (let wrong = c.in_err-points.ensures.wrong kept found at (handed-on c.from_residual-in_err-points.result c.in_err-points.field-0.0 (SpillDamaged kept found at) c.from_residual-in_err-points.ensures.1 is) in damaged-told node told bytes kept found at c.in_ok-bytes.ensures.bytes wrong.0 wrong.1 (wrong.2 told)))
    tells distinct)

pub returns-clause-told : goal.returns-clause-told
returns-clause-told g c =
    let told = g.F.SpillFile.held c.args.file.now in
    listed-told c.args.filed.now told c.in_ok-bytes.bytes.items c.in_ok-points.points.items c.args.out.now.items c.append.new.self.items c.in_ok-points.ensures.points c.in_ok-points.ensures.inside c.in_ok-bytes.ensures.bytes c.in_ok-append.ensures.items

pub returns-clause-appended : goal.returns-clause-appended
returns-clause-appended g c =
    listed-alike c.args.filed.now c.in_ok-bytes.bytes.items c.in_ok-points.points.items c.args.out.now.items c.append.new.self.items c.in_ok-points.ensures.points c.in_ok-points.ensures.inside c.in_ok-append.ensures.items
