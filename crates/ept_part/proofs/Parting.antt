-- A part that was made, and what a refusal leaves of the store.
use Rattle.std.proofs.Common.{◌≡◌, ◌≢◌, ◌∙◌, inl, inr, ℕ, List, refl, sym, ap, subst, arith, length, Option, Some, None}
use Rattle.std.proofs.lemmas.List.{length-map}
use Rattle.ept_base.specs.Files.{Files, Tells, StepsBy}
use Rattle.ept_base.specs.Moves.{Moves, IsSettled}
use Rattle.ept_point.specs.declared.point.Point.{Point}
use Rattle.ept_ckpt.specs.declared.node_line.NodeLine.{NodeLine}
use Rattle.ept_tree.specs.Grown.{nodes_of}
use Rattle.ept_config.specs.declared.config.Config.{Config}
use Rattle.ept_save.specs.Gates.{IsOpen}
use Rattle.ept_save.proofs.Standing.{settled_some}
use Rattle.ept_part.specs.declared.error.PartError.{PartError}
use Rattle.ept_part.specs.declared.error.PartError.TheVariants.{SourceFault, StoreFault, Memory}
use Rattle.ept_part.specs.declared.making.Ready.{Ready}
use Rattle.ept_part.specs.declared.part_done.PartDone.{PartDone}
use Rattle.ept_part.specs.Names.{part_gate}
use Rattle.ept_part.specs.Files.{HasPart, IsPartSound, ChangesPart}
use Rattle.ept_part.specs.Errors.{IsStores}
use Rattle.ept_part.specs.Filling.{line_for}
use Rattle.ept_part.specs.Making.{IsReady, IsPartOf, IsMade}
use Rattle.ept_part.proofs.PartFiles.{own-names}

-- ---- the part is there

module _ (all : Files) (config : Config) (octants : ℕ) (ready : Ready) (done : PartDone) where
  pub is-made : IsReady config ready → (part : (points : List Point) × IsPartOf all config octants ready points) → done.points ≡ ready.checkpoint.inserted → done.nodes ≡ length ready.checkpoint.nodes
      → (files : Option Files) → Tells (λ f. HasPart all f octants ready.checkpoint part.0) files → Tells (λ f. IsOpen f (part_gate octants)) files → Tells (IsMade all config octants done) files
  is-made is part points nodes None has is_open = tt
  is-made is part points nodes (Some f) has is_open = record {
    body = ready.checkpoint;
    points = part.0;
    kept_is = is.kept_is;
    scanned = part.1.scanned;
    has = has;
    opened = is_open;
    points_are = points;
    nodes_are = nodes;
    few = omega (arith, nodes, ap (λ (w : List NodeLine). length w) is.lines, length-map (nodes_of ready.tree) line_for, is.few);
    deep = is.deep;
  }

-- ---- nothing has changed

module _ {D : Type 0} (files : D → Option Files) (may_leave : D → Files → Type 0) (moment : D → ℕ) (image_since : D → ℕ → Files → Type 0) (octants : ℕ) (store : D) where
  same_reads : (now : Option Files) → StepsBy (ChangesPart octants) now now
  same_reads None = tt
  same_reads (Some all) = λ name not. refl

  pub same-folder : Moves files may_leave moment image_since (ChangesPart octants) store store
  same-folder = record {
    reads = same_reads (files store);
    leaves = λ image may. (image, may, λ name not. refl);
    later = omega arith;
    moments = λ t image le since. inl since;
  }

  sound_reads : (all : Files) (now : Option Files) → Tells (λ f. IsPartSound all f octants) now → StepsBy (λ (a b : Files). IsPartSound all b octants) now now
  sound_reads all None sound = tt
  sound_reads all (Some f) sound = sound

  pub same-own : (all start : Files) → files store ≡ Some start → IsSettled (files store) (may_leave store) → IsPartSound all start octants → Moves files may_leave moment image_since (λ (a b : Files). IsPartSound all b octants) store store
  same-own all start told settled sound = record {
    reads = sound_reads all (files store) (subst (λ (o : Option Files). Tells (λ f. IsPartSound all f octants) o) (sym told) sound);
    leaves = λ image may. (image, may, own-names all start image octants (λ name part. settled_some (files store) (may_leave store) start told settled image may name) sound);
    later = omega arith;
    moments = λ t image le since. inl since;
  }

-- ---- a refusal of the store

pub stores-late : (e : PartError) → IsStores e → e ≢ StoreFault → e ≢ Memory → {P : Type 0} → P
stores-late e (inl is) no_fault no_want = absurd (no_fault is)
stores-late e (inr is) no_fault no_want = absurd (no_want is)

pub stores-no_source : (e : PartError) → IsStores e → e ≢ SourceFault
stores-no_source e (inl is) same = let other : StoreFault ≡ SourceFault = sym is ∙ same in cc
stores-no_source e (inr is) same = let other : Memory ≡ SourceFault = sym is ∙ same in cc
