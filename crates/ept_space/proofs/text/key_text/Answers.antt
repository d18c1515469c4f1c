use Rattle.std.proofs.Common.{ap, sym, ◌∙◌, arith, length, ◌≤◌}
use Rattle.std.proofs.lemmas.List.{length-take-le}
use Rattle.ept_space.specs.KeyText.{key_text}
use Rattle.ept_space.proofs.KeyTexts.{length-depth, length-index}
use Rattle.ept_space.proofs.text.key_text.Goals as goal

pub append_number-end-requires : goal.append_number-end-requires
append_number-end-requires c =
    let depth = length-depth c.from.result (omega arith) in
    let x = length-index c.key.inside.x c.key.inside.depth c.key.invariant.x_in c.key.invariant.shallow in
    let y = length-index c.key.inside.y c.key.inside.depth c.key.invariant.y_in c.key.invariant.shallow in
    let z = length-index c.key.inside.z c.key.inside.depth c.key.invariant.z_in c.key.invariant.shallow in
    omega arith

pub append-end-requires : goal.append-end-requires
append-end-requires c =
    let depth = length-depth c.from.result (omega arith) in
    let x = length-index c.key.inside.x c.key.inside.depth c.key.invariant.x_in c.key.invariant.shallow in
    let y = length-index c.key.inside.y c.key.inside.depth c.key.invariant.y_in c.key.invariant.shallow in
    let z = length-index c.key.inside.z c.key.inside.depth c.key.invariant.z_in c.key.invariant.shallow in
    omega arith

pub append_number-end-requires-2 : goal.append_number-end-requires-2
append_number-end-requires-2 c =
    let depth = length-depth c.from.result (omega arith) in
    let x = length-index c.key.inside.x c.key.inside.depth c.key.invariant.x_in c.key.invariant.shallow in
    let y = length-index c.key.inside.y c.key.inside.depth c.key.invariant.y_in c.key.invariant.shallow in
    let z = length-index c.key.inside.z c.key.inside.depth c.key.invariant.z_in c.key.invariant.shallow in
    omega arith

pub append-end-requires-2 : goal.append-end-requires-2
append-end-requires-2 c =
    let depth = length-depth c.from.result (omega arith) in
    let x = length-index c.key.inside.x c.key.inside.depth c.key.invariant.x_in c.key.invariant.shallow in
    let y = length-index c.key.inside.y c.key.inside.depth c.key.invariant.y_in c.key.invariant.shallow in
    let z = length-index c.key.inside.z c.key.inside.depth c.key.invariant.z_in c.key.invariant.shallow in
    omega arith

pub append_number-end-requires-3 : goal.append_number-end-requires-3
append_number-end-requires-3 c =
    let depth = length-depth c.from.result (omega arith) in
    let x = length-index c.key.inside.x c.key.inside.depth c.key.invariant.x_in c.key.invariant.shallow in
    let y = length-index c.key.inside.y c.key.inside.depth c.key.invariant.y_in c.key.invariant.shallow in
    let z = length-index c.key.inside.z c.key.inside.depth c.key.invariant.z_in c.key.invariant.shallow in
    omega arith

pub append-end-requires-3 : goal.append-end-requires-3
append-end-requires-3 c =
    let depth = length-depth c.from.result (omega arith) in
    let x = length-index c.key.inside.x c.key.inside.depth c.key.invariant.x_in c.key.invariant.shallow in
    let y = length-index c.key.inside.y c.key.inside.depth c.key.invariant.y_in c.key.invariant.shallow in
    let z = length-index c.key.inside.z c.key.inside.depth c.key.invariant.z_in c.key.invariant.shallow in
    omega arith

pub append_number-requires : goal.append_number-requires
append_number-requires c =
    let depth = length-depth c.from.result (omega arith) in
    let x = length-index c.key.inside.x c.key.inside.depth c.key.invariant.x_in c.key.invariant.shallow in
    let y = length-index c.key.inside.y c.key.inside.depth c.key.invariant.y_in c.key.invariant.shallow in
    let z = length-index c.key.inside.z c.key.inside.depth c.key.invariant.z_in c.key.invariant.shallow in
    omega arith

pub returns-clause-text : goal.returns-clause-text
unfolding key_text
returns-clause-text c =
    let depth = ap (λ k. k.depth) c.key.view_is in
    let x = ap (λ k. k.x) c.key.view_is in
    let y = ap (λ k. k.y) c.key.view_is in
    let z = ap (λ k. k.z) c.key.view_is in
    cc

pub returns-clause-len : goal.returns-clause-len
returns-clause-len c =
    let depth = length-depth c.from.result (omega arith) in
    let x = length-index c.key.inside.x c.key.inside.depth c.key.invariant.x_in c.key.invariant.shallow in
    let y = length-index c.key.inside.y c.key.inside.depth c.key.invariant.y_in c.key.invariant.shallow in
    let z = length-index c.key.inside.z c.key.inside.depth c.key.invariant.z_in c.key.invariant.shallow in
    let long : c.append_number.result ≤ length c.append_number.new.into = omega arith in
    sym (length-take-le c.append_number.result c.append_number.new.into long) ∙ ap length (returns-clause-text c)
