-- What keeps files sound.
use Rattle.std.proofs.Common.{◌≡◌, ◌∙◌, inl, inr, ℕ, suc, ◌<◌, List, [], ◌∷◌, Some, None, refl, sym, ap, subst, arith, length, get_or}
use Rattle.std.specs.Prelude.{Contains}
use Rattle.std.specs.List.{AllZip}
use Rattle.std.proofs.lemmas.List.{get_or-map, length-map}
use Rattle.ept_base.specs.Files.{Files, SameFiles}
use Rattle.ept_point.specs.declared.layout.Layout.{Layout}
use Rattle.ept_point.specs.declared.point.Point.{Point}
use Rattle.ept_sample.specs.declared.tiles.Tile.{Tile}
use Rattle.ept_config.specs.declared.kept.Kept.{Kept}
use Rattle.ept_scan.specs.Laws.{ScanInOneWay}
use Rattle.ept_ckpt.specs.declared.letter.Letter.{Letter}
use Rattle.ept_ckpt.specs.declared.node_line.NodeLine.{NodeLine}
use Rattle.ept_ckpt.specs.declared.checkpoint.Checkpoint.{Checkpoint}
use Rattle.ept_ckpt.specs.Versions.{layout_of}
use Rattle.ept_meta.specs.Output.{File, IsOutput, IsOutputName, IsOutsideWork, EachIsOutsideWork, names_of}
use Rattle.ept_meta.specs.OutputLaws.{OutputIsOne, FilesHaveOutputNames}
use Rattle.ept_save.specs.Names.{gate_name, body_name, done_name, IsSavedName}
use Rattle.ept_save.specs.Current.{Current, HasCurrent, IsNamed, Keeps, Commits, tile_of_line}
use Rattle.ept_save.specs.Done.{IsDone, HasOutputOf, Guards}
use Rattle.ept_save.specs.Complete.{HasAllOf, HasNoOther}
use Rattle.ept_save.specs.Sound.{HasPointsOf, IsSavedAs, IsSaved, IsWhole, HasAtMost, IsSoundFor, IsSound}
use Rattle.ept_save.specs.SoundLaws.{no_files, LeavesBuild, IsPublished, HasNamesOf}
use Rattle.ept_save.proofs.NamesDiffer.{done-gate, done-body, done-apart}
use Rattle.ept_save.proofs.WorkNames.{outside-saved, outside-done}
use Rattle.ept_save.proofs.Keeping.{has_current-same, named-saved, keeps-same}
use Rattle.ept_save.proofs.Newer.{current-one}
use Rattle.ept_save.proofs.TileFiles.{tile-same}

-- ---- the current checkpoint of sound files

pub sound-at : (shelf files : Files) (current : Current) → HasCurrent current files → IsSound shelf files → IsSoundFor shelf files current
sound-at shelf files current has sound = subst (IsSoundFor shelf files) (current-one files sound.current current sound.has_current has) sound.sound

pub empty-sound : (shelf : Files) → IsSound shelf no_files
empty-sound shelf = record {
  current = None;
  has_current = λ letter counts. cc;
  sound = ((λ done. cc), (λ name outside. refl));
}

-- ---- tiles

tiles-same : (layout : Layout) (one two : Files) (tiles : List Tile) (lines : List NodeLine) → ((k : ℕ) (line : NodeLine) → k < length lines → get_or lines k line ≡ line → two (tile_of_line line) ≡ one (tile_of_line line)) → AllZip (IsSavedAs layout one) tiles lines → AllZip (IsSavedAs layout two) tiles lines
tiles-same layout one two [] [] same all = tt
tiles-same layout one two [] (l ∷ ls) same all = absurd all
tiles-same layout one two (t ∷ ts) [] same all = absurd all
tiles-same layout one two (t ∷ ts) (l ∷ ls) same all = (
  record { key = all.0.key; count = all.0.count; has_tile = tile-same layout (tile_of_line l) (tile_of_line l) t.points one two (same 0 l (omega arith) refl) all.0.has_tile },
  tiles-same layout one two ts ls (λ k line lt is. same (suc k) line (omega (arith, lt)) is) all.1,
)

saved-same : (shelf one two : Files) (letter : Letter) (c : Checkpoint) (points : List Point) → ((name : List ℕ) → IsNamed (Some (letter, c)) name → two name ≡ one name) → IsSaved shelf one c points → IsSaved shelf two c points
saved-same shelf one two letter c points same saved = record {
  scan = saved.scan;
  nodes = tiles-same (layout_of c.version) one two _ c.nodes (λ k line lt is. same (tile_of_line line) (k, line, lt, is, refl)) saved.nodes;
}

-- ---- the done gate

pub done-published : (shelf files : Files) (current : Current) → HasCurrent current files → IsSound shelf files → IsDone files → IsPublished shelf current files
done-published shelf files current has sound done = at current (sound-at shelf files current has sound)
  where
    at : (current : Current) → IsSoundFor shelf files current → IsPublished shelf current files
    at None sound = absurd (sound.0 done)
    at (Some (letter, c)) sound =
        let most : HasAtMost c sound.0 files = sound.2 in (sound.0, most.output, sound.1.scan, most.is_output, most.whole done)

module _ (has_names : FilesHaveOutputNames) (each_outside : EachIsOutsideWork) where
  -- ---- files of an output

  file-outside : (kept : Kept) (points : List Point) (output : List File) → IsOutput kept points output → (k : ℕ) (d : File) → k < length output → IsOutsideWork (get_or output k d).0
  file-outside kept points output is k d lt =
      let named : IsOutputName (get_or (names_of output) k d.0) = has_names kept points output is k d.0 (omega (arith, lt, length-map output (λ (f : File). f.0))) in
      each_outside (get_or output k d).0 (subst IsOutputName (get_or-map (λ (f : File). f.0) output k d d.0 lt) named)

  all-same : (kept : Kept) (points : List Point) (output : List File) → IsOutput kept points output → (one two : Files) → HasOutputOf one two → HasAllOf output one → HasAllOf output two
  all-same kept points output is one two same there = λ k d lt. same (get_or output k d).0 (file-outside kept points output is k d lt) ∙ there k d lt

  output-outside : (kept : Kept) (points : List Point) (output : List File) → IsOutput kept points output → (name : List ℕ) → Contains (names_of output) name → IsOutsideWork name
  output-outside kept points output is name among =
      each_outside name (subst IsOutputName among.2 (has_names kept points output is among.0 name among.1))

  -- ---- soundness depends on the checkpoint, its tiles, the done gate and the files outside

  sound-same : (shelf one two : Files) (current : Current) → ((name : List ℕ) → IsNamed current name → two name ≡ one name) → HasOutputOf one two → two done_name ≡ one done_name → IsSoundFor shelf one current → IsSoundFor shelf two current
  sound-same shelf one two None tiles outside gate sound = (
    (λ done. sound.0 (sym gate ∙ done)),
    (λ name apart. outside name apart ∙ sound.1 name apart),
  )
  sound-same shelf one two (Some (letter, c)) tiles outside gate sound =
      let most : HasAtMost c sound.0 one = sound.2 in (
        sound.0,
        saved-same shelf one two letter c sound.0 tiles sound.1,
        record {
          output = most.output;
          is_output = most.is_output;
          no_other = λ name apart not. outside name apart ∙ most.no_other name apart not;
          whole = λ done. (
              let was : IsWhole c sound.0 most.output one = most.whole (sym gate ∙ done) in
              record { inserted = was.inserted; newest = was.newest; there = all-same c.kept sound.0 most.output most.is_output one two outside was.there });
        },
      )

  pub keeping-sound : (shelf old new : Files) (current : Current) → HasCurrent current old → Keeps current old new → IsSound shelf old → IsSound shelf new
  keeping-sound shelf old new current has keeps sound = record {
    current = current;
    has_current = keeps.same has;
    sound = sound-same shelf old new current keeps.tiles (λ name outside. keeps.apart name (outside-saved name outside)) (keeps.apart done_name done-apart) (sound-at shelf old current has sound);
  }

  pub same-sound : (shelf old new : Files) → SameFiles old new → IsSound shelf old → IsSound shelf new
  same-sound shelf old new same sound = keeping-sound shelf old new sound.current sound.has_current (keeps-same sound.current old new same) sound

  pub beside-sound : (shelf old new : Files) → LeavesBuild old new → IsSound shelf old → IsSound shelf new
  beside-sound shelf old new leaves sound = record {
    current = sound.current;
    has_current = has_current-same sound.current old new (λ letter. leaves (gate_name letter) (inl (inl (letter, refl)))) (λ letter. leaves (body_name letter) (inl (inr (inl (letter, refl))))) sound.has_current;
    sound = sound-same shelf old new sound.current (λ name named. leaves name (inl (named-saved sound.current name named))) (λ name outside. leaves name (inr (inr outside))) (leaves done_name (inr (inl refl))) sound.sound;
  }

  module _ (one_scan : ScanInOneWay) (one_output : OutputIsOne) where
    -- what was published of the checkpoint's points is what is known of them
    same-whole : (shelf files : Files) (letter : Letter) (c : Checkpoint) (points : List Point) (output : List File) → HasPointsOf shelf c points → IsOutput c.kept points output → IsPublished shelf (Some (letter, c)) files → IsWhole c points output files
    same-whole shelf files letter c points output scan is published =
        let same : published.0 ≡ points = one_scan shelf c.kept.scale (Some c.kept.bounds) c.kept.inputs 0 published.0 points _ _ published.2 scan in
        let its : IsOutput c.kept points published.1 = subst (λ (w : List Point). IsOutput c.kept w published.1) same published.3 in
        record {
          inserted = published.4.inserted ∙ ap (λ (w : List Point). length w) same;
          newest = published.4.newest;
          there = subst (λ (w : List File). HasAllOf w files) (one_output c.kept points published.1 output its is) published.4.there;
        }

    guarded-sound : (shelf start old new : Files) (current : Current) → IsPublished shelf current start → Guards start old new → IsSoundFor shelf old current → IsSoundFor shelf new current
    guarded-sound shelf start old new None published guards sound = absurd published
    guarded-sound shelf start old new (Some (letter, c)) published guards sound =
        let most : HasAtMost c sound.0 old = sound.2 in (
          sound.0,
          saved-same shelf old new letter c sound.0 (λ name named. guards.others name (λ same. done-apart (subst IsSavedName same (named-saved (Some (letter, c)) name named)))) sound.1,
          record {
            output = most.output;
            is_output = most.is_output;
            no_other = λ name apart not. guards.others name (outside-done name apart) ∙ most.no_other name apart not;
            whole = λ done. (
                let was : IsWhole c sound.0 most.output start = same-whole shelf start letter c sound.0 most.output sound.1.scan most.is_output published in
                record { inserted = was.inserted; newest = was.newest; there = all-same c.kept sound.0 most.output most.is_output start new (guards.output done) was.there });
          },
        )

    pub guarding-sound : (shelf start old new : Files) (current : Current) → HasCurrent current old → IsPublished shelf current start → Guards start old new → IsSound shelf old → IsSound shelf new
    guarding-sound shelf start old new current has published guards sound = record {
      current = current;
      has_current = has_current-same current old new (λ letter. guards.others (gate_name letter) (λ same. done-gate letter (sym same))) (λ letter. guards.others (body_name letter) (λ same. done-body letter (sym same))) has;
      sound = guarded-sound shelf start old new current published guards (sound-at shelf old current has sound);
    }

    -- ---- files of the output

    module _ (shelf old new : Files) (letter : Letter) (c : Checkpoint) (points : List Point) (output : List File) (scan : HasPointsOf shelf c points) (is : IsOutput c.kept points output) (change : (name : List ℕ) → ¬ Contains (names_of output) name → new name ≡ old name) where
      saved-stays : (name : List ℕ) → IsSavedName name → new name ≡ old name
      saved-stays name saved = change name (λ among. outside-saved name (output-outside c.kept points output is name among) saved)

      done-stays : new done_name ≡ old done_name
      done-stays = change done_name (λ among. outside-done done_name (output-outside c.kept points output is done_name among) refl)

      put-sound : ¬ IsDone old → IsSoundFor shelf old (Some (letter, c)) → IsSoundFor shelf new (Some (letter, c))
      put-sound not_done sound =
          let most : HasAtMost c sound.0 old = sound.2 in
          let same : sound.0 ≡ points = one_scan shelf c.kept.scale (Some c.kept.bounds) c.kept.inputs 0 sound.0 points _ _ sound.1.scan scan in
          let its : IsOutput c.kept points most.output = subst (λ (w : List Point). IsOutput c.kept w most.output) same most.is_output in
          let no_other : HasNoOther output old = subst (λ (w : List File). HasNoOther w old) (one_output c.kept points most.output output its is) most.no_other in (
            points,
            saved-same shelf old new letter c points (λ name named. saved-stays name (named-saved (Some (letter, c)) name named)) (subst (IsSaved shelf old c) same sound.1),
            record {
              output = output;
              is_output = is;
              no_other = λ name apart not. change name not ∙ no_other name apart not;
              whole = λ done. absurd (not_done (sym done-stays ∙ done));
            },
          )

      pub putting-sound : HasCurrent (Some (letter, c)) old → ¬ IsDone old → IsSound shelf old → IsSound shelf new
      putting-sound has not_done sound = record {
        current = Some (letter, c);
        has_current = has_current-same (Some (letter, c)) old new (λ l. saved-stays (gate_name l) (inl (l, refl))) (λ l. saved-stays (body_name l) (inr (inl (l, refl)))) has;
        sound = put-sound not_done (sound-at shelf old (Some (letter, c)) has sound);
      }

  -- ---- a commit

  -- outside there are no other files than those of the last checkpoint's points
  none-other : (shelf files : Files) (current : Current) (names : List (List ℕ)) → HasNamesOf shelf current names → IsSoundFor shelf files current → (name : List ℕ) → IsOutsideWork name → ¬ Contains names name → files name ≡ None
  none-other shelf files None names has sound name outside not = sound.1 name outside
  none-other shelf files (Some (letter, c)) names has sound name outside not =
      let most : HasAtMost c sound.0 files = sound.2 in
      most.no_other name outside (λ among. not (has sound.0 most.output sound.1.scan most.is_output name among))

  pub committing-sound : (shelf start old new : Files) (current : Current) (letter : Letter) (next : Checkpoint) (points : List Point) (output : List File) → HasCurrent current old → ¬ IsDone old → IsSaved shelf start next points → IsOutput next.kept points output → HasNamesOf shelf current (names_of output)
      → Commits current letter next start old new → IsSound shelf old → IsSound shelf new
  committing-sound shelf start old new current letter next points output has not_done saved is names commits sound = elim commits.either [
    | inl keeps ↦ keeping-sound shelf old new current has keeps sound
    | inr now ↦ record {
      current = Some (letter, next);
      has_current = now.is_current;
      sound = (
        points,
        saved-same shelf start new letter next points now.tiles saved,
        record {
          output = output;
          is_output = is;
          no_other = λ name outside not. commits.apart name (outside-saved name outside) ∙ none-other shelf old current (names_of output) names (sound-at shelf old current has sound) name outside not;
          whole = λ done. absurd (not_done (sym (commits.apart done_name done-apart) ∙ done));
        },
      );
    }
  ]
