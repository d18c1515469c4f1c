use Rattle.std.proofs.Common.{◌≡◌, slice_index, arith}
use Rattle.std.proofs.lemmas.List.{get_or_read}
use Rattle.ept_class.proofs.Bits.{read-member}
use Rattle.ept_check.specs.Pages.{has_number}
use Rattle.ept_check.proofs.page.Page.contains.Goals as goal

pub returns : goal.returns
unfolding has_number
returns c =
    let read : c.index.result.now ≡ slice_index c.args.self.now.bytes.items c.from.result = get_or_read c.args.self.now.bytes.items c.from.result c.index.result.now (omega (arith, c.from.ensures, c.args.self.now.whole, c.ranges.number)) c.index.ensures 0 in
    rw read (read-member c.args.self.now.bytes.items c.from.result c.args.number c.from.ensures)
