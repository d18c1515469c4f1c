use Rattle.std.proofs.Common.{◌≡◌, slice_index, arith, rules}
use Rattle.std.proofs.lemmas.List.{get_or_read}
use Rattle.ept_class.proofs.Bits.{inserted}
use Rattle.ept_check.specs.Pages.{has_number}
use Rattle.ept_check.proofs.page.Page.insert.Goals as goal

pub returns : goal.returns
unfolding has_number
returns c = λ other.
    let read : c.index_mut.result.now ≡ slice_index c.args.self.now.bytes.items c.from.result = get_or_read c.args.self.now.bytes.items c.from.result c.index_mut.result.now (omega (arith, c.from.ensures, c.args.self.now.whole, c.ranges.number)) (search rules) 0 in
    rw (read, c.from.ensures) (inserted c.args.self.now.bytes.items c.args.number other (omega (arith, c.args.self.now.whole, c.ranges.number)))
