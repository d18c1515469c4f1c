use Rattle.std.proofs.Common.{◌<◌, ◌^◌, ℕ, List, sym, subst, length}
use Rattle.ept_ckpt.proofs.Lengths.{path_short}
use Rattle.ept_ckpt.proofs.append.append_path.Goals as goal

pub append_text-requires : goal.append_text-requires
append_text-requires c = subst (λ (text : List ℕ). length text < 2 ^ 32) (sym c.as_str.ensures) (path_short c.args.path.now c.requires)
