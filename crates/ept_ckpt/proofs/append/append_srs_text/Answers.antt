use Rattle.std.proofs.Common.{◌<◌, ◌^◌, ℕ, List, sym, subst, length}
use Rattle.ept_ckpt.proofs.Lengths.{srs_text_short}
use Rattle.ept_ckpt.proofs.append.append_srs_text.Goals as goal

pub append_text-requires : goal.append_text-requires
append_text-requires c =
    subst (λ (text : List ℕ). length text < 2 ^ 32) (sym c.as_str.ensures) (srs_text_short c.in-Some.text (c.requires c.in-Some.text c.in-Some.is))
