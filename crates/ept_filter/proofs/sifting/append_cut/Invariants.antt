use Rattle.std.proofs.Common.{◌≡◌, ◌++◌, take}
use Rattle.std.specs.List.{flat_map}
use Rattle.ept_filter.specs.Layout.{part}
use Rattle.ept_filter.proofs.sifting.append_cut.Given as goal

abbrev pub invariant-loop-row : goal.invariant-loop-row
invariant-loop-row l = l.out.items ≡ l.fn.out.items ++ flat_map (part l.packed) (take l.row-index l.row-items)
