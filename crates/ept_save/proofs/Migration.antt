-- A migration at every moment, and what it leaves sound.
use Rattle.std.proofs.Common.{◌≡◌, ◌∙◌, ◌⊎◌, inl, inr, ⊎_elim, ℕ, zero, suc, ◌<◌, List, [], ◌∷◌, map, take, length, get_or, refl, sym, ap, subst, arith, Option, Some, None}
use Rattle.std.specs.Prelude.{Result, Ok, Err, IfErr, OnOk, OnErr}
use Rattle.std.specs.List.{AllZip}
use Rattle.ept_base.specs.Files.{Files, SameFiles, SameBut, StepsBy, Tells}
use Rattle.ept_base.specs.Moves.{Moves}
use Rattle.ept_base.proofs.Moving.{moves_weaker, moves_both}
use Rattle.ept_point.specs.declared.layout.Layout.{Layout}
use Rattle.ept_point.specs.declared.layout.Layout.TheVariants.{Old, New}
use Rattle.ept_point.specs.declared.point.Point.{Point}
use Rattle.ept_point.specs.Packed.{tile}
use Rattle.ept_space.specs.VoxelKey.{VoxelKey}
use Rattle.ept_config.specs.declared.kept.Kept.{Kept}
use Rattle.ept_config.specs.declared.source_count.SourceCount.{SourceCount}
use Rattle.ept_sample.specs.declared.tiles.Tile.{Tile}
use Rattle.ept_sample.specs.Members.{IsMember}
use Rattle.ept_sample.specs.Nodes.{sampled}
use Rattle.ept_sample.proofs.Members.{IsMember-map}
use Rattle.ept_scan.specs.Laws.{ScanInOneWay}
use Rattle.ept_scan.specs.Scans.{IsScan}
use Rattle.ept_ckpt.specs.declared.letter.Letter.{Letter}
use Rattle.ept_ckpt.specs.declared.node_line.NodeLine.{NodeLine}
use Rattle.ept_ckpt.specs.declared.checkpoint.Checkpoint.{Checkpoint}
use Rattle.ept_ckpt.specs.Versions.{layout_of}
use Rattle.ept_meta.specs.Output.{IsOutput, EachIsOutsideWork, rules_of}
use Rattle.ept_meta.specs.OutputLaws.{FilesHaveOutputNames}
use Rattle.ept_save.specs.declared.error.SaveError.{SaveError}
use Rattle.ept_save.specs.declared.error.SaveError.TheVariants.{TileDamaged}
use Rattle.ept_save.specs.Errors.{IsStores}
use Rattle.ept_save.specs.Names.{other, gate_name, done_name}
use Rattle.ept_save.specs.Current.{Current, IsCurrent, HasCurrent, IsNamed, Keeps, IsNow, Commits, tile_of_line}
use Rattle.ept_save.specs.Done.{IsDone}
use Rattle.ept_save.specs.Loading.{HasLine, IsDamaged, HasNoDamage}
use Rattle.ept_save.specs.Migrating.{turned, IsTurnOf, ArePutAgain, Migrates}
use Rattle.ept_save.specs.Sound.{HasPointsOf, IsSavedAs, HasAtMost, IsSoundFor, IsSound}
use Rattle.ept_save.proofs.DamagedTiles.{line-named, damaged-before}
use Rattle.ept_save.proofs.Keeping.{keeps-same, keeps-both}
use Rattle.ept_save.proofs.NamesDiffer.{done-apart, gate-tile}
use Rattle.ept_save.proofs.SoundFiles.{sound-at, keeping-sound}
use Rattle.ept_save.proofs.TileFiles.{tile-same, one-file}
use Rattle.ept_save.proofs.WorkNames.{outside-saved}

-- ---- the tiles that are put again, in other files

still_put : (start old new : Files) (lines : List NodeLine) → ((l : NodeLine) → IsMember l lines → new (tile_of_line (turned l)) ≡ old (tile_of_line (turned l))) → ArePutAgain start old lines → ArePutAgain start new lines
still_put start old new [] same all = tt
still_put start old new (l ∷ lines) same all = (
  record {
    points = all.0.points;
    was = all.0.was;
    put = tile-same New (tile_of_line (turned l)) (tile_of_line (turned l)) all.0.points old new (same l (inl refl)) all.0.put;
  },
  still_put start old new lines (λ m is. same m (inr is)) all.1,
)

pub earlier-put : (start then now : Files) (lines : List NodeLine) → ((l : NodeLine) → start (tile_of_line l) ≡ then (tile_of_line l)) → ArePutAgain then now lines → ArePutAgain start now lines
earlier-put start then now [] same all = tt
earlier-put start then now (l ∷ lines) same all = (
  record { points = all.0.points; was = tile-same Old (tile_of_line l) (tile_of_line l) all.0.points then start (same l) all.0.was; put = all.0.put },
  earlier-put start then now lines same all.1,
)

-- ---- every moment

any_at : (lines : List NodeLine) (l : NodeLine) → IsMember l lines → (k : ℕ) × (k < length lines) × (get_or lines k l ≡ l)
any_at [] l m = absurd m
any_at (x ∷ xs) l (inl is) = (zero, omega arith, is)
any_at (x ∷ xs) l (inr m) = let at = any_at xs l m in (suc at.0, omega (arith, at.1), at.2)

module _ (letter : Letter) (c next : Checkpoint) (turn : IsTurnOf c next) where
  turned_named : (l : NodeLine) → IsMember l c.nodes → IsNamed (Some (other letter, next)) (tile_of_line (turned l))
  turned_named l m =
      let there : IsMember (turned l) next.nodes = subst (IsMember (turned l)) (sym turn.turned_are) (IsMember-map turned l c.nodes m) in
      let at = any_at next.nodes (turned l) there in
      (at.0, turned l, at.1, at.2, refl)

  pub keeps-migrates : (start a b : Files) → Keeps (Some (letter, c)) a b → Migrates letter c next start a b
  keeps-migrates start a b keeps = record { either = inl keeps; apart = keeps.apart }

  migrates_behind : (start x y z : Files) → Keeps (Some (letter, c)) x y → Migrates letter c next start y z → Migrates letter c next start x z
  migrates_behind start x y z keeps more = record {
    either = ⊎_elim (λ again. inl (keeps-both (Some (letter, c)) x y z keeps again)) (λ now. inr now) more.either;
    apart = λ name apart. more.apart name apart ∙ keeps.apart name apart;
  }

  commit_migrates : (start mid a b : Files) → ArePutAgain start mid c.nodes → Commits (Some (letter, c)) (other letter) next mid a b → Migrates letter c next start a b
  commit_migrates start mid a b put commits = record {
    either = ⊎_elim (λ keeps. inl keeps) (λ now. inr (its now)) commits.either;
    apart = commits.apart;
  }
    where
      its : IsNow (other letter) next mid b → IsCurrent b (other letter) next × ArePutAgain start b c.nodes
      its now = (now.is_current, still_put start mid b c.nodes (λ l m. now.tiles (tile_of_line (turned l)) (turned_named l m)) put)

  module _ {D : Type 0} (files : D → Option Files) (may_leave : D → Files → Type 0) (moment : D → ℕ) (image_since : D → ℕ → Files → Type 0) where
    -- the current checkpoint is kept
    pub kept-moves : (start : Files) (old new : D) → Moves files may_leave moment image_since (Keeps (Some (letter, c))) old new → Moves files may_leave moment image_since (Migrates letter c next start) old new
    kept-moves start old new = moves_weaker files may_leave moment image_since (Keeps (Some (letter, c))) (Migrates letter c next start) (keeps-migrates start) old new

    -- and after that the next one is committed
    pub commit-moves : (start there : Files) (old mid new : D) → ArePutAgain start there c.nodes → Moves files may_leave moment image_since (Keeps (Some (letter, c))) old mid → Moves files may_leave moment image_since (Commits (Some (letter, c)) (other letter) next there) mid new → Moves files may_leave moment image_since (Migrates letter c next start) old new
    commit-moves start there old mid new put =
        moves_both files may_leave moment image_since (Keeps (Some (letter, c))) (Commits (Some (letter, c)) (other letter) next there) (Migrates letter c next start)
        (λ x y z keeps commits. migrates_behind start x y z keeps (commit_migrates start there y z put commits)) (keeps-migrates start) old mid new

-- calls that keep the current checkpoint
module _ {D : Type 0} (files : D → Option Files) (may_leave : D → Files → Type 0) (moment : D → ℕ) (image_since : D → ℕ → Files → Type 0) where
  pub same-keeps : (current : Current) (old new : D) → Moves files may_leave moment image_since SameFiles old new → Moves files may_leave moment image_since (Keeps current) old new
  same-keeps current old new = moves_weaker files may_leave moment image_since SameFiles (Keeps current) (keeps-same current) old new

  -- no call
  pub keeps-nothing : (current : Current) (store : D) → Moves files may_leave moment image_since (Keeps current) store store
  keeps-nothing current store = record {
    reads = same_reads (files store);
    leaves = λ image now. (image, now, keeps-same current image image (λ name. refl));
    later = omega arith;
    moments = λ t image le since. inl since;
  }
    where
      same_reads : (read : Option Files) → StepsBy (Keeps current) read read
      same_reads None = tt
      same_reads (Some all) = keeps-same current all all (λ name. refl)

  -- one after another
  pub keep-then : (current : Current) (old mid new : D) → Moves files may_leave moment image_since (Keeps current) old mid → Moves files may_leave moment image_since (Keeps current) mid new → Moves files may_leave moment image_since (Keeps current) old new
  keep-then current old mid new =
      moves_both files may_leave moment image_since (Keeps current) (Keeps current) (Keeps current) (keeps-both current) (λ a b keeps. keeps) old mid new

-- ---- damage, where no name but a gate has changed

gate_damaged : (current : Current) (key : VoxelKey) (letter : Letter) (old new : Files) → SameBut (gate_name letter) old new → IsDamaged current key new → IsDamaged current key old
gate_damaged current key letter old new same =
    damaged-before current key old new (λ line is. same (tile_of_line line) (λ e. gate-tile letter line.letter line.key (sym e)))

pub damaged-at-start : (current : Current) (key : VoxelKey) (letter : Letter) (old new : Option Files) → StepsBy (SameBut (gate_name letter)) old new → Tells (IsDamaged current key) new → Tells (IsDamaged current key) old
damaged-at-start current key letter None None same is = tt
damaged-at-start current key letter None (Some b) same is = absurd same
damaged-at-start current key letter (Some a) None same is = absurd same
damaged-at-start current key letter (Some a) (Some b) same is = gate_damaged current key letter a b same is

pub intact-at-start : (current : Current) (letter : Letter) (old new : Option Files) → StepsBy (SameBut (gate_name letter)) old new → Tells (HasNoDamage current) new → Tells (HasNoDamage current) old
intact-at-start current letter None None same none = tt
intact-at-start current letter None (Some b) same none = absurd same
intact-at-start current letter (Some a) None same none = absurd same
intact-at-start current letter (Some a) (Some b) same none = λ key has damaged.
    none key has (damaged-before current key b a (λ line is. sym (same (tile_of_line line) (λ e. gate-tile letter line.letter line.key (sym e)))) damaged)

-- and where the current checkpoint is kept
pub damaged-kept : (current : Current) (key : VoxelKey) (old new : Option Files) → StepsBy (Keeps current) old new → Tells (IsDamaged current key) new → Tells (IsDamaged current key) old
damaged-kept current key None None keeps is = tt
damaged-kept current key None (Some b) keeps is = absurd keeps
damaged-kept current key (Some a) None keeps is = absurd keeps
damaged-kept current key (Some a) (Some b) keeps is = damaged-before current key a b (λ line found. keeps.tiles (tile_of_line line) (line-named current key line found)) is

-- ---- what is reported

-- a refusal that is passed on
pub some-tile : {T U : Type 0} (inner : Result T SaveError) (outer : Result U SaveError) (e : SaveError) → inner ≡ Err e → outer ≡ Err e → (key : VoxelKey) → IfErr inner (λ e. (e ≡ TileDamaged key) ⊎ IsStores e) → IfErr outer (λ e. ((key : VoxelKey) × (e ≡ TileDamaged key)) ⊎ IsStores e)
some-tile {T} {U} inner outer e was is key only =
    subst (λ (r : Result U SaveError). IfErr r (λ e. ((key : VoxelKey) × (e ≡ TileDamaged key)) ⊎ IsStores e)) (sym is)
    (⊎_elim (λ tile. inl (key, tile)) (λ stores. inr stores) (subst (λ (r : Result T SaveError). IfErr r (λ e. (e ≡ TileDamaged key) ⊎ IsStores e)) was only))

-- what is known at a refusal
pub on-err : {X E : Type 0} (P : Type 0) (r : Result X E) (e : E) → r ≡ Err e → P → OnErr r P
on-err {X} {E} P r e is p = subst (λ (w : Result X E). OnErr w P) (sym is) p

pub some-store : {T U : Type 0} (inner : Result T SaveError) (outer : Result U SaveError) (e : SaveError) → inner ≡ Err e → outer ≡ Err e → IfErr inner IsStores → IfErr outer (λ e. ((key : VoxelKey) × (e ≡ TileDamaged key)) ⊎ IsStores e)
some-store {T} {U} inner outer e was is only =
    subst (λ (r : Result U SaveError). IfErr r (λ e. ((key : VoxelKey) × (e ≡ TileDamaged key)) ⊎ IsStores e)) (sym is)
    (inr (subst (λ (r : Result T SaveError). IfErr r IsStores) was only))

pub same-report : {T U : Type 0} (inner : Result T SaveError) (outer : Result U SaveError) (e : SaveError) → inner ≡ Err e → outer ≡ Err e → IfErr inner (λ e. ((key : VoxelKey) × (e ≡ TileDamaged key)) ⊎ IsStores e) → IfErr outer (λ e. ((key : VoxelKey) × (e ≡ TileDamaged key)) ⊎ IsStores e)
same-report {T} {U} inner outer e was is only =
    subst (λ (r : Result U SaveError). IfErr r (λ e. ((key : VoxelKey) × (e ≡ TileDamaged key)) ⊎ IsStores e)) (sym is)
    (subst (λ (r : Result T SaveError). IfErr r (λ e. ((key : VoxelKey) × (e ≡ TileDamaged key)) ⊎ IsStores e)) was only)

-- a fact that is known anyway
pub ok-known : {T E P : Type 0} (result : Result T E) → P → OnOk result P
ok-known (Ok t) p = p
ok-known (Err e) p = tt

-- where no tile is damaged, none is reported
pub stores-only : {T : Type 0} (result : Result T SaveError) (current : Current) (files : Option Files) (all : Files) → files ≡ Some all → IfErr result (λ e. ((key : VoxelKey) × (e ≡ TileDamaged key)) ⊎ IsStores e)
    → ((key : VoxelKey) → result ≡ Err (TileDamaged key) → HasLine current key × Tells (IsDamaged current key) files) → HasNoDamage current all → IfErr result IsStores
stores-only (Ok t) current files all told only damaged none = tt
stores-only {T} (Err e) current files all told only damaged none = elim only [
  | inl tile ↦ (
      let its = damaged tile.0 (ap (λ (w : SaveError). Err w) tile.1) in
      absurd (none tile.0 its.0 (subst (λ (o : Option Files). Tells (IsDamaged current tile.0) o) told its.1)))
  | inr stores ↦ stores
]

-- ---- sound files stay sound

-- the tiles of the nodes are in the new layout
turned_tiles : (start now : Files) (tiles : List Tile) (lines : List NodeLine) → AllZip (IsSavedAs Old start) tiles lines → ArePutAgain start now lines → AllZip (IsSavedAs New now) tiles (map turned lines)
turned_tiles start now [] [] saved put = tt
turned_tiles start now [] (l ∷ lines) saved put = absurd saved
turned_tiles start now (t ∷ tiles) [] saved put = absurd saved
turned_tiles start now (t ∷ tiles) (l ∷ lines) saved put = (
  record {
    key = saved.0.key;
    count = saved.0.count;
    has_tile = subst (λ (w : List Point). now (tile_of_line (turned l)) ≡ Some (tile w)) (one-file Old (tile_of_line l) start put.0.points t.points put.0.was saved.0.has_tile) put.0.put;
  },
  turned_tiles start now tiles lines saved.1 put.1,
)

points_of_turn : (shelf : Files) (c next : Checkpoint) (points : List Point) → IsTurnOf c next → HasPointsOf shelf c points → HasPointsOf shelf next points
points_of_turn shelf c next points turn scan =
    subst (λ (k : Kept). IsScan shelf k.scale (Some k.bounds) k.inputs 0 points (record { counts = next.counts; bounds = k.bounds })) (sym turn.kept_is)
    (subst (λ (w : List SourceCount). IsScan shelf c.kept.scale (Some c.kept.bounds) c.kept.inputs 0 points (record { counts = w; bounds = c.kept.bounds })) (sym turn.counts_are) scan)

module _ (has_names : FilesHaveOutputNames) (each_outside : EachIsOutsideWork) (one_scan : ScanInOneWay) where
  pub migrating-sound : (shelf start old new : Files) (letter : Letter) (c next : Checkpoint) → layout_of c.version ≡ Old → IsTurnOf c next → HasCurrent (Some (letter, c)) start → IsSound shelf start → HasCurrent (Some (letter, c)) old → ¬ IsDone old → Migrates letter c next start old new → IsSound shelf old → IsSound shelf new
  migrating-sound shelf start old new letter c next is_old turn has_start sound_start has not_done migrates sound = elim migrates.either [
    | inl keeps ↦ keeping-sound has_names each_outside shelf old new (Some (letter, c)) has keeps sound
    | inr now ↦ record { current = Some (other letter, next); has_current = now.0; sound = its now.1 }
  ]
    where
      its : ArePutAgain start new c.nodes → IsSoundFor shelf new (Some (other letter, next))
      its put =
          let first = sound-at shelf start (Some (letter, c)) has_start sound_start in
          let then = sound-at shelf old (Some (letter, c)) has sound in
          let points : List Point = first.0 in
          let most : HasAtMost c then.0 old = then.2 in
          let same : then.0 ≡ points = one_scan shelf c.kept.scale (Some c.kept.bounds) c.kept.inputs 0 then.0 points _ _ then.1.scan first.1.scan in
          let was : AllZip (IsSavedAs Old start) (sampled (rules_of c.kept) (take c.inserted points)) c.nodes =
          subst (λ (layout : Layout). AllZip (IsSavedAs layout start) (sampled (rules_of c.kept) (take c.inserted points)) c.nodes) is_old first.1.nodes in
          let zip : AllZip (IsSavedAs New new) (sampled (rules_of c.kept) (take c.inserted points)) (map turned c.nodes) =
          turned_tiles start new (sampled (rules_of c.kept) (take c.inserted points)) c.nodes was put in (
            points,
            record {
              scan = points_of_turn shelf c next points turn first.1.scan;
              nodes =
                  subst (λ (layout : Layout). AllZip (IsSavedAs layout new) (sampled (rules_of next.kept) (take next.inserted points)) next.nodes) (sym (ap layout_of turn.version))
                  (subst (λ (k : Kept). AllZip (IsSavedAs New new) (sampled (rules_of k) (take next.inserted points)) next.nodes) (sym turn.kept_is)
                  (subst (λ (n : ℕ). AllZip (IsSavedAs New new) (sampled (rules_of c.kept) (take n points)) next.nodes) (sym turn.inserted_is)
                  (subst (λ (w : List NodeLine). AllZip (IsSavedAs New new) (sampled (rules_of c.kept) (take c.inserted points)) w) (sym turn.turned_are) zip)));
            },
            record {
              output = most.output;
              is_output = subst (λ (k : Kept). IsOutput k points most.output) (sym turn.kept_is) (subst (λ (w : List Point). IsOutput c.kept w most.output) same most.is_output);
              no_other = λ name outside not. migrates.apart name (outside-saved name outside) ∙ most.no_other name outside not;
              whole = λ done. absurd (not_done (sym (migrates.apart done_name done-apart) ∙ done));
            },
          )
