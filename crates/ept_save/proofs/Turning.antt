-- The next checkpoint of a migration: of the same points, with the lines turned.
use Rattle.std.proofs.Common.{◌≡◌, ◌∙◌, ℕ, ◌+◌, ◌<◌, false, List, map, refl, sym, ap, subst, arith, Option, Some, None}
use Rattle.std.proofs.lemmas.List.{length-map}
use Rattle.ept_point.specs.declared.layout.Layout.TheVariants.{Old, New}
use Rattle.ept_ckpt.specs.declared.letter.Letter.{Letter}
use Rattle.ept_ckpt.specs.declared.node_line.NodeLine.{NodeLine}
use Rattle.ept_ckpt.specs.declared.checkpoint.Checkpoint.{Checkpoint}
use Rattle.ept_ckpt.specs.declared.version.BodyVersion.{BodyVersion}
use Rattle.ept_ckpt.specs.declared.version.BodyVersion.TheVariants.{V1, V2, V3}
use Rattle.ept_ckpt.specs.Versions.{layout_of, spare_of}
use Rattle.ept_ckpt.specs.Facts.{CheckpointFacts, kept_facts, precedence_of, sources_of, facts}
use Rattle.ept_ckpt.specs.Valid.{IsCheckpoint, IsNode, deepest}
use Rattle.ept_ckpt.proofs.FactsTell.{checkpoint_same}
use Rattle.ept_save.specs.Current.{Current}
use Rattle.ept_save.specs.Names.{other}
use Rattle.ept_save.specs.Migrating.{turned, IsTurnOf, HasMigrated}
use Rattle.ept_save.specs.Opening.{lines_of}
use Rattle.ept_save.specs.Tiles.{IsOfLayout}
use Rattle.ept_save.specs.View.{View, IsNewer, next_letter, next_generation, next_facts}
use Rattle.ept_save.proofs.TurnedLines.{turned-all, turned-nodes}

-- a version of the old layout has no commit to spare
none_spare : (version : BodyVersion) → layout_of version ≡ Old → spare_of version ≡ 0
none_spare V1 old = refl
none_spare V2 old = absurd (let wrong : New ≡ Old = old in cc)
none_spare V3 old = absurd (let wrong : New ≡ Old = old in cc)

module _ (c : Checkpoint) (old : layout_of c.version ≡ Old) where
  turned-valid : IsCheckpoint V3 (c.generation + 1) c.kept c.counts c.inserted (map turned c.nodes)
  turned-valid = record {
    each = c.is_checkpoint.each;
    few = λ k d inside. (c.is_checkpoint.counted k d inside).few;
    plain = λ other. absurd (other refl);
    counted = c.is_checkpoint.counted;
    extents = c.is_checkpoint.extents;
    inserted_most = c.is_checkpoint.inserted_most;
    generation_least = omega arith;
    generation_most = omega (arith, c.is_checkpoint.generation_most, none_spare c.version old);
    nodes_few = omega (arith, c.is_checkpoint.nodes_few, length-map c.nodes turned);
    lines = turned-all (IsNode (deepest c.kept.bounds c.kept.s c.kept.max_depth)) (λ l is. record { is_key = is.is_key; depth_most = is.depth_most }) c.nodes c.is_checkpoint.lines;
    nodes_are = turned-nodes c.inserted c.nodes c.is_checkpoint.nodes_are;
  }

  abbrev the_turn : Checkpoint
  the_turn = record {
    version = V3;
    generation = c.generation + 1;
    kept = c.kept;
    counts = c.counts;
    inserted = c.inserted;
    nodes = map turned c.nodes;
    is_checkpoint = turned-valid;
  }

  turn_is : IsTurnOf c the_turn
  turn_is = record { version = refl; generation = refl; kept_is = refl; counts_are = refl; inserted_is = refl; turned_are = refl }

  -- there is one
  one_turn : (next : Checkpoint) → IsTurnOf c next → next ≡ the_turn
  one_turn next is = checkpoint_same next the_turn (λ i. record {
    version = is.version i;
    generation = is.generation i;
    kept = kept_facts (is.kept_is i);
    precedence = precedence_of (is.kept_is i);
    sources = sources_of (is.kept_is i).inputs (is.counts_are i);
    inserted = is.inserted_is i;
    nodes = is.turned_are i;
  })

  module _ (view : View) (letter : Letter) (current : view.current ≡ Some (letter, c)) (lines : view.lines ≡ map turned c.nodes) where
    -- the lines are those of a next checkpoint
    pub turned-next-valid : IsCheckpoint V3 (next_generation view.current) c.kept c.counts c.inserted view.lines
    turned-next-valid =
        subst (λ (w : Current). IsCheckpoint V3 (next_generation w) c.kept c.counts c.inserted view.lines) (sym current)
        (subst (λ (w : List NodeLine). IsCheckpoint V3 (c.generation + 1) c.kept c.counts c.inserted w) (sym lines) turned-valid)

    turn_facts : facts the_turn ≡ next_facts view c.kept c.counts c.inserted
    turn_facts = λ i. let its : CheckpointFacts = record {
      version = V3;
      generation = next_generation (sym current i);
      kept = kept_facts c.kept;
      precedence = precedence_of c.kept;
      sources = sources_of c.kept.inputs c.counts;
      inserted = c.inserted;
      nodes = sym lines i;
    } in its

    -- and that is the turn
    pub is-turn : (next : Checkpoint) → facts next ≡ next_facts view c.kept c.counts c.inserted → IsTurnOf c next
    is-turn next are = subst (IsTurnOf c) (sym (checkpoint_same next the_turn (are ∙ sym turn_facts))) turn_is

-- a checkpoint with tiles of the old layout has a turn
pub has-turn : (c : Checkpoint) → layout_of c.version ≡ Old → (next : Checkpoint) × IsTurnOf c next
has-turn c old = (the_turn c old, turn_is c old)

-- two checkpoints that are the turn of one are the same
pub same-turn : (c : Checkpoint) → layout_of c.version ≡ Old → (a b : Checkpoint) → IsTurnOf c a → IsTurnOf c b → a ≡ b
same-turn c old a b is also = one_turn c old a is ∙ sym (one_turn c old b also)

-- the current checkpoint, where its tiles are of the old layout
pub old-current : (current : Current) (at : Letter × Checkpoint) → current ≡ Some at → IsOfLayout Old current → layout_of at.1.version ≡ Old
old-current current at is old = subst (IsOfLayout Old) is old

-- what is of the old layout is a checkpoint
pub the-old : (current : Current) → IsOfLayout Old current → (at : Letter × Checkpoint) × (current ≡ Some at) × (layout_of at.1.version ≡ Old)
the-old None old = absurd old
the-old (Some (letter, c)) old = ((letter, c), refl, old)

abbrev value_or : Letter × Checkpoint → Option (Letter × Checkpoint) → Letter × Checkpoint
value_or at None = at
value_or at (Some found) = found

pub one-current : (at : Letter × Checkpoint) (letter : Letter) (c : Checkpoint) → Some at ≡ Some (letter, c) → at ≡ (letter, c)
one-current at letter c is = ap (value_or at) is

-- the turn of the current checkpoint is of a greater generation
pub turn-newer : (current : Current) (at : Letter × Checkpoint) → current ≡ Some at → (next : Checkpoint) → IsTurnOf at.1 next → IsNewer current next
turn-newer current at is next turn = subst (λ (w : Current). IsNewer w next) (sym is) (more at.1.generation next.generation turn.generation)
  where
    more : (a b : ℕ) → b ≡ a + 1 → a < b
    more a b e = omega (arith, e)

-- what is noted once it is committed
pub migrated-view : (old new : View) (at : Letter × Checkpoint) → old.current ≡ Some at → (next : Checkpoint) → IsTurnOf at.1 next → old.lines ≡ map turned (lines_of old.current) → new ≡ record old { current = Some (next_letter old.current, next); begun = false } → HasMigrated old new
migrated-view old new at is next turn lines now = record {
  letter = at.0;
  c = at.1;
  was = is;
  next = next;
  turns = turn;
  view_is = now
      ∙ (ap (λ (w : Current). let v : View = record { current = Some (next_letter w, next); lines = old.lines; begun = false } in v) is
      ∙ ap (λ (ls : List NodeLine). let v : View = record { current = Some (other at.0, next); lines = ls; begun = false } in v) (lines ∙ (ap (λ (w : Current). map turned (lines_of w)) is ∙ sym turn.turned_are)));
}
