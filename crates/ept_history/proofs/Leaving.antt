-- What a build leaves at any moment is a step of a history.
use Rattle.std.proofs.Common.{◌≡◌, ℕ, inl, inr, Option, Some, None, subst, arith}
use Rattle.ept_base.specs.Files.{Files, StepsBy}
use Rattle.ept_history.specs.HeadlineLaws.{LeavesSteps}
use Rattle.ept_build.specs.Building.{IsUnderWay}

read-last : (Has : Files → Type 0) (left : Files) (one two : Option Files) → two ≡ Some left → StepsBy (λ (a b : Files). Has b) one two → Has left
read-last Has left None None is moved = absurd cc
read-last Has left None (Some b) is moved = absurd moved
read-last Has left (Some a) None is moved = absurd moved
read-last Has left (Some a) (Some b) is moved = let same : b ≡ left = cc in subst Has same moved

pub leaves-steps : {D : Type 0} (files : D → Option Files) (may_leave : D → Files → Type 0) (moment : D → ℕ) (image_since : D → ℕ → Files → Type 0) (old new : D) → LeavesSteps files may_leave moment image_since old new
leaves-steps files may_leave moment image_since old new shelf start config promised left (inl reads) sound =
    read-last (IsUnderWay shelf config start) left (files old) (files new) reads (promised sound).reads
leaves-steps files may_leave moment image_since old new shelf start config promised left (inr (inl may)) sound =
    let was = (promised sound).leaves left may in was.2
leaves-steps files may_leave moment image_since old new shelf start config promised left (inr (inr (since, not))) sound =
    elim ((promised sound).moments (moment old) left (omega arith) since) [ inl was ↦ absurd (not was) | inr of ↦ of.2 ]
