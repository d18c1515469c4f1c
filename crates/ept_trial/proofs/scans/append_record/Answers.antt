use Rattle.std.proofs.Common.{◌∙◌, ℕ, refl, ap}
use Rattle.ept_num.specs.Generator.{after}
use Rattle.ept_trial.specs.Scans.{drawn}
use Rattle.ept_trial.proofs.Records.{record-end}
use Rattle.ept_trial.proofs.scans.append_record.Goals as goal

pub returns-clause-bytes : goal.returns-clause-bytes
returns-clause-bytes c =
    let x = c.lcg-x.ensures.next in
    let y = c.lcg-y.ensures.next ∙ ap after x in
    let z = c.lcg-z.ensures.next ∙ ap after y in
    record-end c.args.at c.args.number c.args.out.now.items c.append_u32.new.out.items c.append_u32-2.new.out.items c.append_u32-3.new.out.items c.append.new.out.items c.append-2.new.out.items _ _ _ _ _
    c.in_ok-append_u32.ensures c.in_ok-append_u32-2.ensures c.in_ok-append_u32-3.ensures c.in_ok-append.ensures c.in_ok-append-2.ensures
    (c.coordinate.ensures ∙ ap (λ (s : ℕ). drawn s 100000) x)
    (c.coordinate-2.ensures ∙ ap (λ (s : ℕ). drawn s 100000) y)
    (c.coordinate-3.ensures ∙ ap (λ (s : ℕ). drawn s 1000) z)
    c.to_le_bytes.ensures refl
