use Rattle.std.proofs.Common.{◌/◌, ◌%◌, refl}
use Rattle.std.proofs.lemmas.Nat.Bits.{bit_at-zero}
use Rattle.ept_check.specs.Pages.{has_number}
use Rattle.ept_check.proofs.page.Page.new.Goals as goal

pub returns : goal.returns
unfolding has_number
returns c = λ number. rw (c.in_ok-zeros.ensures.zeros (number / 8), bit_at-zero (number % 8)) refl
