-- A store that is only read.
use Rattle.std.proofs.Common.{◌≡◌, ◌∙◌, inl, ℕ, refl, ap, arith, Option, Some, None}
use Rattle.ept_base.specs.Files.{Files, SameFiles, Tells, StepsBy}
use Rattle.ept_base.specs.Moves.{Moves}
use Rattle.ept_base.proofs.Moving.{moves_both}

-- files of which each name reads as before are the same files
pub files-are : (old new : Files) → SameFiles old new → new ≡ old
files-are old new same = λ i name. same name i

pub reads-same : (old new : Option Files) → StepsBy SameFiles old new → new ≡ old
reads-same None None same = refl
reads-same None (Some new) same = absurd same
reads-same (Some old) None same = absurd same
reads-same (Some old) (Some new) same = ap (λ (f : Files). Some f) (files-are old new same)

-- what follows of a visible fact is visible
pub tells-more : {X : Type 0} (P Q : X → Type 0) → ((x : X) → P x → Q x) → (o : Option X) → Tells P o → Tells Q o
tells-more P Q more None told = tt
tells-more P Q more (Some x) told = more x told

pub tells-always : {X : Type 0} (Q : X → Type 0) → ((x : X) → Q x) → (o : Option X) → Tells Q o
tells-always Q all None = tt
tells-always Q all (Some x) = all x

pub tells-both : {X : Type 0} (P Q R : X → Type 0) → ((x : X) → P x → Q x → R x) → (o : Option X) → Tells P o → Tells Q o → Tells R o
tells-both P Q R both None one other = tt
tells-both P Q R both (Some x) one other = both x one other

module _ {D : Type 0} (files : D → Option Files) (may_leave : D → Files → Type 0) (moment : D → ℕ) (image_since : D → ℕ → Files → Type 0) where
  abbrev Reads : D → D → Type 0
  Reads old new = Moves files may_leave moment image_since SameFiles old new

  same_reads : (now : Option Files) → StepsBy SameFiles now now
  same_reads None = tt
  same_reads (Some all) = λ name. refl

  pub reads-none : (d : D) → Reads d d
  reads-none d = record {
    reads = same_reads (files d);
    leaves = λ image may. (image, may, λ name. refl);
    later = omega arith;
    moments = λ t image le since. inl since;
  }

  pub reads-both : (old mid new : D) → Reads old mid → Reads mid new → Reads old new
  reads-both old mid new =
      moves_both files may_leave moment image_since SameFiles SameFiles SameFiles (λ a b c first second name. second name ∙ first name) (λ a b same. same) old mid new

  pub reads-files : (old new : D) → Reads old new → files new ≡ files old
  reads-files old new moved = reads-same (files old) (files new) moved.reads
