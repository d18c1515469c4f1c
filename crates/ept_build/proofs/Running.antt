-- What is left of a build: the nodes are loaded, the done gate is closed, and all points of the inputs are inserted.
use Rattle.std.proofs.Common.{◌≡◌, ◌∙◌, ◌⊎◌, inl, inr, ℕ, true, ◌<◌, ◌≤◌, List, length, refl, sym, ap, subst, arith, Option, Some, None}
use Rattle.std.proofs.lemmas.List.Elements.{All-nil}
use Rattle.ept_base.specs.Files.{Files, SameFiles, Tells}
use Rattle.ept_base.specs.Moves.{IsSettled, Moves}
use Rattle.ept_save.specs.Names.{gate_name, body_name, done_name}
use Rattle.ept_save.specs.Current.{Current, HasCurrent}
use Rattle.ept_save.specs.Done.{IsDone, IsGuarded, Guards}
use Rattle.ept_save.specs.Sound.{IsSound}
use Rattle.ept_save.specs.SoundLaws.{SameIsSound, DoneIsPublished, GuardingKeepsSound}
use Rattle.ept_point.specs.declared.layout.Layout.TheVariants.{Old}
use Rattle.ept_save.specs.Tiles.{IsOfLayout}
use Rattle.ept_save.specs.View.{View}
use Rattle.ept_save.proofs.Keeping.{has_current-same}
use Rattle.ept_save.proofs.NamesDiffer.{done-gate, done-body}
use Rattle.ept_save.proofs.Standing.{open_or_not, told_some, settled_some}
use Rattle.ept_ckpt.specs.declared.checkpoint.Checkpoint.{Checkpoint}
use Rattle.ept_ckpt.specs.declared.node_line.NodeLine.{NodeLine}
use Rattle.ept_ckpt.specs.Octree.{is_among}
use Rattle.ept_octree.specs.declared.octree.Octree.{Octree}
use Rattle.ept_octree.specs.Octree as tree
use Rattle.ept_table.specs.Octree.{Branch, points_in}
use Rattle.ept_octree_ckpt.specs.Lines.{TellNodes}
use Rattle.ept_octree_ckpt.specs.Loaded.{OfCurrent}
use Rattle.ept_octree_ckpt.specs.Saving.{HasEachNodeOf, keys_in}
use Rattle.ept_plan.specs.declared.plan.Plan.{Plan}
use Rattle.ept_plan.specs.Plans.{inserted_by}
use Rattle.ept_build.specs.Phases.{IsBegun, IsTreeOf, IsSoundUndone, IsSoundAt, TakesUp}
use Rattle.ept_build.proofs.Moved.{AllAre, all-settled, all-after, moves-after}
use Rattle.ept_build.proofs.Numbers.{told-number}
use Rattle.ept_build.proofs.Phased.{each-told}
use Rattle.ept_build.proofs.TakenUp.{taken-rules, taken-each, taken-inserted, taken-inputs}

pub sound-same : SameIsSound → (shelf : Files) (current : Current) (a b : Files) → IsSoundAt shelf current a → SameFiles a b → IsSoundAt shelf current b
sound-same same_sound shelf current a b at same = record {
  sound = same_sound shelf a b same at.sound;
  has = has_current-same current a b (λ l. same (gate_name l)) (λ l. same (body_name l)) at.has;
}

module _ (same_sound : SameIsSound) (published : DoneIsPublished) (guarding : GuardingKeepsSound) (shelf : Files) (current : Current) {D : Type 0} (files : D → Option Files) (may_leave : D → Files → Type 0) (moment : D → ℕ) (image_since : D → ℕ → Files → Type 0) where
  abbrev pub AllSound : D → Type 0
  AllSound = AllAre files may_leave moment image_since (IsSoundAt shelf current)

  -- a settled store with sound files
  pub sound-settled : (d : D) (start : Files) → files d ≡ Some start → IsSettled (files d) (may_leave d) → IsSound shelf start → HasCurrent current start → AllSound d
  sound-settled d start told settled sound has =
      all-settled files may_leave moment image_since (IsSoundAt shelf current) (λ a b same at. sound-same same_sound shelf current a b at same) d start told settled (record { sound = sound; has = has })

  -- a call that changes nothing
  pub same-moves : (old new : D) → AllSound old → Moves files may_leave moment image_since SameFiles old new → Moves files may_leave moment image_since (λ (a b : Files). IsSoundAt shelf current b) old new
  same-moves old new all moved = moves-after files may_leave moment image_since (IsSoundAt shelf current) SameFiles old new (IsSoundAt shelf current) (λ a b at same. sound-same same_sound shelf current a b at same) all moved

  pub same-all : (old new : D) → AllSound old → Moves files may_leave moment image_since SameFiles old new → AllSound new
  same-all old new all moved = all-after files may_leave moment image_since (IsSoundAt shelf current) SameFiles old new (IsSoundAt shelf current) (λ a b at same. sound-same same_sound shelf current a b at same) all moved

  -- ---- closing the done gate

  module _ (old new : D) (all : AllSound old) (start : Files) (told : files old ≡ Some start) (alike : (image : Files) → may_leave old image → SameFiles start image) (stood_shut : (now : Files) → files old ≡ Some now → ¬ IsDone now → Moves files may_leave moment image_since SameFiles old new) (guards : (guarded : IsGuarded (files old) (may_leave old)) → Moves files may_leave moment image_since (Guards guarded.all) old new) where
    abbrev guarded : IsGuarded (files old) (may_leave old)
    guarded = record {
      all = start;
      told = told;
      stable = λ some may done image im name outside. alike image im name;
    }

    at_start : IsSoundAt shelf current start
    at_start = told_some (IsSoundAt shelf current) (files old) start told all.read

    closes : (a b : Files) → IsDone start → IsSoundAt shelf current a → Guards start a b → IsSoundAt shelf current b
    closes a b done at guard = record {
      sound = guarding shelf start a b current at.has (published shelf start current at_start.has at_start.sound done) guard at.sound;
      has = has_current-same current a b (λ l. guard.others (gate_name l) (λ same. done-gate l (sym same))) (λ l. guard.others (body_name l) (λ same. done-body l (sym same))) at.has;
    }

    pub close-all : AllSound new
    close-all = by (open_or_not start done_name)
      where
        by : IsDone start ⊎ ¬ IsDone start → AllSound new
        by (inl done) = all-after files may_leave moment image_since (IsSoundAt shelf current) (Guards start) old new (IsSoundAt shelf current) (λ a b. closes a b done) all (guards guarded)
        by (inr undone) = same-all old new all (stood_shut start told undone)

    pub close-moves : Moves files may_leave moment image_since (λ (a b : Files). IsSoundAt shelf current b) old new
    close-moves = by (open_or_not start done_name)
      where
        by : IsDone start ⊎ ¬ IsDone start → Moves files may_leave moment image_since (λ (a b : Files). IsSoundAt shelf current b) old new
        by (inl done) = moves-after files may_leave moment image_since (IsSoundAt shelf current) (Guards start) old new (IsSoundAt shelf current) (λ a b. closes a b done) all (guards guarded)
        by (inr undone) = same-moves old new all (stood_shut start told undone)

  -- once the gate is closed, and this is flushed, no image has an open one
  pub closed-images : (d : D) → AllSound d → (now : Files) → files d ≡ Some now → Tells (λ all. ¬ IsDone all) (files d) → IsSettled (files d) (may_leave d) → (image : Files) → may_leave d image → IsSoundUndone shelf image
  closed-images d all now told closed settled image may = record {
    sound = (all.images image may).sound;
    undone = λ done. told_some (λ all. ¬ IsDone all) (files d) now told closed (sym (settled_some (files d) (may_leave d) now told settled image may done_name) ∙ done);
  }

-- ---- what was loaded

-- an image of a store that changed nothing
pub settled-on : (start now image : Files) {may : Files → Type 0} → ((some : Files) → may some → SameFiles start some) → SameFiles start now → may image → SameFiles now image
settled-on start now image settled same is name = settled image is name ∙ sym (same name)

pub few-lines : (max slots lines nodes : ℕ) → (slots < lines → slots ≡ max) → slots < lines → lines ≤ nodes → max < nodes
few-lines max slots lines nodes all many few = omega (arith, all many, many, few)

-- the octree that was loaded is that of the plan, for what is taken up
pub tree-loaded : {F : Type 0} (held : F → Option (List ℕ)) (faults keeps : F → ℕ) (plan : Plan) (inserted : ℕ) (view : View) (old new : Octree F) → IsBegun held faults keeps plan inserted old view → tree.rules_of new ≡ tree.rules_of old → tree.IsWhole held new → tree.IsLinked held new → tree.AgreesWithFiles held faults keeps new → tree.IsUnbroken new → OfCurrent view.current (λ (c : Checkpoint). TellNodes (tree.nodes_of held new) c.nodes) → (view.current ≡ None → tree.nodes_of held new ≡ tree.nodes_of held old) → (next : View) → TakesUp view next → ¬ IsOfLayout Old next.current → IsTreeOf held faults keeps plan inserted new next
tree-loaded held faults keeps plan inserted view old new is own whole linked agrees unbroken told begun next takes newest = record {
  rules = own ∙ is.rules;
  whole = whole;
  linked = linked;
  agrees = agrees;
  unbroken = unbroken;
  number = number view.current refl told;
  fresh = takes.fresh is.fresh;
  newest = newest;
  each = taken-each (tree.nodes_of held new) view.current next.current takes.taken (each view.current told);
  rules_stay = taken-rules plan.kept view.current next.current takes.taken is.rules_stay;
  by_checkpoint = taken-inserted view.current next.current takes.taken ∙ is.by_checkpoint;
  inputs_least = subst (λ (n : ℕ). n ≤ length plan.kept.inputs) (sym (taken-inputs view.current next.current takes.taken)) is.inputs_least;
}
  where
    number : (now : Current) → view.current ≡ now → OfCurrent now (λ (c : Checkpoint). TellNodes (tree.nodes_of held new) c.nodes) → length (tree.points_of held new) ≡ inserted
    number None same of = ap (λ (w : List Branch). length (points_in w)) (begun same ∙ is.root_alone) ∙ (sym (ap inserted_by same) ∙ is.by_checkpoint)
    number (Some (letter, c)) same of = told-number (tree.nodes_of held new) c.nodes of ∙ (c.is_checkpoint.nodes_are.counted ∙ (sym (ap inserted_by same) ∙ is.by_checkpoint))

    each : (now : Current) → OfCurrent now (λ (c : Checkpoint). TellNodes (tree.nodes_of held new) c.nodes) → HasEachNodeOf now (tree.nodes_of held new)
    each None of = All-nil (λ (line : NodeLine). is_among (keys_in (tree.nodes_of held new)) line.key ≡ true)
    each (Some (letter, c)) of = each-told (tree.nodes_of held new) letter c of
