use Rattle.ept_space.proofs.KeyTexts.{split-number}
use Rattle.ept_space.proofs.text.next_number.Goals as goal

pub returns-in_err-digits : goal.returns-in_err-digits
returns-in_err-digits c = λ n rest small spelled.
    let split = split-number n rest c.args.text.now c.split_once.result small spelled c.split_once.ensures.cases in
    absurd (rw c.in_err-digits.was at split)

pub returns-in_err-number : goal.returns-in_err-number
returns-in_err-number c = λ n rest small spelled.
    let split = split-number n rest c.args.text.now c.split_once.result small spelled c.split_once.ensures.cases in
    let parts = rw c.in_ok-digits.was at split in
    let read = c.number.ensures n small parts.0 in
    let none = c.in_err-number.was in
    cc

pub returns : goal.returns
returns c = λ n rest small spelled.
    let split = split-number n rest c.args.text.now c.split_once.result small spelled c.split_once.ensures.cases in
    let parts = rw c.in_ok-digits.was at split in
    let read = c.number.ensures n small parts.0 in
    let some = c.in_ok-number.was in
    (cc, parts.1)
