-- Facts about what a store holds, from call to call that change nothing.
use Rattle.std.proofs.Common.{◌≡◌, ◌∙◌, inl, ℕ, refl, sym, subst, ap, List, Option, Some, None, arith}
use Rattle.ept_base.specs.Files.{Files, SameFiles, StepsBy, Tells}
use Rattle.ept_base.specs.Moves.{Moves}
use Rattle.ept_base.proofs.Moving.{moves_both}
use Rattle.ept_point.specs.declared.point.Point.{Point}
use Rattle.ept_space.specs.VoxelKey.{VoxelKey}
use Rattle.ept_meta.specs.Output.{tile_name}
use Rattle.ept_query.specs.Damage.{HasTile, HasNoTile}

pub tells-from : {X : Type 0} (P : X → Type 0) (files : Option X) → ((all : X) → files ≡ Some all → P all) → Tells P files
tells-from P None each = tt
tells-from P (Some all) each = each all refl

pub told : {X : Type 0} (P : X → Type 0) (files : Option X) (all : X) → files ≡ Some all → Tells P files → P all
told {X = X} P files all is tells = subst (λ (o : Option X). Tells P o) is tells

-- what holds of what is read now held of what was read
pub told-back : (P : Files → Type 0) → ((old new : Files) → SameFiles old new → P new → P old) → (before now : Option Files) (all : Files) → before ≡ Some all → StepsBy SameFiles before now → Tells P now → P all
told-back P back before now all is steps tells = by_now now (subst (λ (o : Option Files). StepsBy SameFiles o now) is steps) tells
  where
    by_now : (now : Option Files) → StepsBy SameFiles (Some all) now → Tells P now → P all
    by_now None steps tells = absurd steps
    by_now (Some new) steps tells = back all new steps tells

same-refl : (files : Option Files) → StepsBy SameFiles files files
same-refl None = tt
same-refl (Some all) = λ name. refl

module _ {D : Type 0} (files : D → Option Files) (may_leave : D → Files → Type 0) (moment : D → ℕ) (image_since : D → ℕ → Files → Type 0) where
  pub same-none : (store : D) → Moves files may_leave moment image_since SameFiles store store
  same-none store = record {
    reads = same-refl (files store);
    leaves = λ image now. (image, now, λ name. refl);
    later = omega arith;
    moments = λ t image le since. inl since;
  }

  pub same-twice : (old mid new : D) → Moves files may_leave moment image_since SameFiles old mid → Moves files may_leave moment image_since SameFiles mid new → Moves files may_leave moment image_since SameFiles old new
  same-twice old mid new one two =
      moves_both files may_leave moment image_since SameFiles SameFiles SameFiles (λ a b c f s name. s name ∙ f name) (λ a b f. f) old mid new one two

-- ---- tiles

pub tile-back : (key : VoxelKey) (count : ℕ) (points : List Point) (old new : Files) → SameFiles old new → HasTile new key count points → HasTile old key count points
tile-back key count points old new same has = record { bytes = has.bytes; there = sym (same (tile_name key)) ∙ has.there; form = has.form }

pub no-tile-back : (key : VoxelKey) (count : ℕ) (old new : Files) → SameFiles old new → HasNoTile new key count → HasNoTile old key count
no-tile-back key count old new same none = λ points has. none points (tile-back key count points new old (λ name. sym (same name)) has)
