use Rattle.std.proofs.Common.{◌∙◌, arith, decimal}
use Rattle.ept_space.proofs.KeyTexts.{key_text-parts, after_depth, after_x, index-small, read-key}
use Rattle.ept_space.proofs.text.numbers.Goals as goal

pub returns-in_err-depth : goal.returns-in_err-depth
returns-in_err-depth c = λ key h spelled.
    absurd (c.in_err-depth.ensures key.depth (after_depth key) (omega arith) (spelled ∙ key_text-parts key))

pub returns-in_err-x : goal.returns-in_err-x
returns-in_err-x c = λ key h spelled.
    let first = c.in_ok-depth.ensures key.depth (after_depth key) (omega arith) (spelled ∙ key_text-parts key) in
    let small = index-small key.x key.depth h.x_in h.shallow in
    absurd (c.in_err-x.ensures key.x (after_x key) (omega arith) first.1)

pub returns-in_err-y : goal.returns-in_err-y
returns-in_err-y c = λ key h spelled.
    let first = c.in_ok-depth.ensures key.depth (after_depth key) (omega arith) (spelled ∙ key_text-parts key) in
    let small_x = index-small key.x key.depth h.x_in h.shallow in
    let small_y = index-small key.y key.depth h.y_in h.shallow in
    let second = c.in_ok-x.ensures key.x (after_x key) (omega arith) first.1 in
    absurd (c.in_err-y.ensures key.y (decimal key.z) (omega arith) second.1)

pub returns-in_err-z : goal.returns-in_err-z
returns-in_err-z c = λ key h spelled.
    let first = c.in_ok-depth.ensures key.depth (after_depth key) (omega arith) (spelled ∙ key_text-parts key) in
    let small_x = index-small key.x key.depth h.x_in h.shallow in
    let small_y = index-small key.y key.depth h.y_in h.shallow in
    let small_z = index-small key.z key.depth h.z_in h.shallow in
    let second = c.in_ok-x.ensures key.x (after_x key) (omega arith) first.1 in
    let third = c.in_ok-y.ensures key.y (decimal key.z) (omega arith) second.1 in
    let none = c.in_err-z.was in
    let read = c.number.ensures key.z (omega arith) third.1 in
    cc

pub returns : goal.returns
returns c = λ key h spelled.
    let first = c.in_ok-depth.ensures key.depth (after_depth key) (omega arith) (spelled ∙ key_text-parts key) in
    let small_x = index-small key.x key.depth h.x_in h.shallow in
    let small_y = index-small key.y key.depth h.y_in h.shallow in
    let small_z = index-small key.z key.depth h.z_in h.shallow in
    let second = c.in_ok-x.ensures key.x (after_x key) (omega arith) first.1 in
    let third = c.in_ok-y.ensures key.y (decimal key.z) (omega arith) second.1 in
    let some = c.in_ok-z.was in
    let read = c.number.ensures key.z (omega arith) third.1 in
    read-key key _ _ _ _ _ h first.0 second.0 third.0 (cc) c.key_of.ensures
