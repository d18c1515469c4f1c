use Rattle.std.proofs.Common.{◌≡◌, rules}
use Rattle.std.specs.Ordering.{is_lt}
use Rattle.ept_space.specs.VoxelKey.{key_cmp}
use Rattle.ept_space.proofs.KeyOrder.{before-code}
use Rattle.ept_space.proofs.key.Key.is_before.Goals as goal

pub returns : goal.returns
returns c =
    let less : c.lt.result ≡ is_lt (key_cmp c.args.self.now c.args.other.now) = search rules in
    record { before = before-code c.lt.result c.args.self.now c.args.other.now less }
