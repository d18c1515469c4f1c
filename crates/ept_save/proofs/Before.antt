-- A folder of before is sound.
use Rattle.std.proofs.Common.{◌≡◌, ◌∙◌, ◌<◌, ◌≤◌, inl, inr, List, [], ◌∷◌, take, Some, None, refl, sym, ap, subst, arith}
use Rattle.std.specs.Prelude.{All}
use Rattle.std.specs.List.{AllZip, AllByRecursion}
use Rattle.std.proofs.lemmas.List.Elements.{All-take}
use Rattle.ept_base.specs.Files.{Files}
use Rattle.ept_point.specs.declared.point.Point.{Point}
use Rattle.ept_point.specs.declared.layout.Layout.{Layout}
use Rattle.ept_point.specs.declared.layout.Layout.TheVariants.{Old}
use Rattle.ept_point.specs.Layout.{FitsIn}
use Rattle.ept_space.specs.declared.cube.Rules.{Rules}
use Rattle.ept_config.specs.declared.source_count.SourceCount.{SourceCount}
use Rattle.ept_sample.specs.declared.tiles.Tile.{Tile}
use Rattle.ept_sample.specs.Members.{IsMember}
use Rattle.ept_sample.specs.Nodes.{sampled}
use Rattle.ept_sample.specs.Sampling.{sampling}
use Rattle.ept_sample.proofs.Members.{all-member}
use Rattle.ept_sample.proofs.SamplingLaws.{given-IsMember, IsMember-sampling}
use Rattle.ept_scan.specs.Laws.{ScanIsNumbered}
use Rattle.ept_ckpt.specs.declared.node_line.NodeLine.{NodeLine}
use Rattle.ept_ckpt.specs.declared.checkpoint.Checkpoint.{Checkpoint}
use Rattle.ept_ckpt.specs.declared.version.BodyVersion.{BodyVersion}
use Rattle.ept_ckpt.specs.Versions.{layout_of, most_points_of}
use Rattle.ept_meta.specs.Output.{rules_of}
use Rattle.ept_save.specs.Names.{done_name}
use Rattle.ept_save.specs.Done.{IsDone}
use Rattle.ept_save.specs.Current.{Current}
use Rattle.ept_save.specs.Sound.{IsSavedAs, IsSoundFor}
use Rattle.ept_save.specs.Before.{WasSavedAs, WasSaved, HadAtMost, WasSoundFor, BeforeIsSound}
use Rattle.ept_save.proofs.SoundTiles.{member-sampled}

-- a gate that is not there is not open
no_gate : (files : Files) → files done_name ≡ None → ¬ IsDone files
no_gate files shut done = let wrong : None ≡ Some (1 ∷ []) = sym shut ∙ done in cc

-- numbers that have four bytes
each_fits : (points : List Point) → ((p : Point) → IsMember p points → p.number < 4294967295) → AllByRecursion (FitsIn Old) points
each_fits [] low = tt
each_fits (p ∷ points) low = ((let here = low p (inl refl) in omega (arith, here)), each_fits points (λ q m. low q (inr m)))

-- the numbers of the points of a checkpoint of version 1
module _ (numbered : ScanIsNumbered) (shelf files : Files) (c : Checkpoint) (points : List Point) (was : WasSaved shelf files c points) where
  few : All (λ (count : SourceCount). count.points ≤ 4294967295) c.counts
  few = subst (λ (version : BodyVersion). All (λ (count : SourceCount). count.points ≤ most_points_of version) c.counts) was.version c.is_checkpoint.few

  all_low : All (λ (p : Point). p.number < 4294967295) points
  all_low = numbered shelf c.kept.scale (Some c.kept.bounds) c.kept.inputs 0 points _ 4294967295 was.scan few

  abbrev rules : Rules
  rules = rules_of c.kept

  abbrev first : List Point
  first = take c.inserted points

  tile_fits : (t : Tile) → IsMember t (sampled rules first) → AllByRecursion (FitsIn Old) t.points
  tile_fits t m =
      subst (λ (w : List Point). AllByRecursion (FitsIn Old) w) (sym (member-sampled rules first t m))
      (each_fits (sampling rules first t.key) (λ p here.
      all-member (λ (q : Point). q.number < 4294967295) p first (All-take (λ (q : Point). q.number < 4294967295) c.inserted points all_low)
      (given-IsMember rules first t.key p (IsMember-sampling rules first t.key p here).0)))

-- the tiles of before are those of the old layout
tiles_before : (files : Files) (tiles : List Tile) (lines : List NodeLine) → ((t : Tile) → IsMember t tiles → AllByRecursion (FitsIn Old) t.points) → AllZip (WasSavedAs files) tiles lines → AllZip (IsSavedAs Old files) tiles lines
tiles_before files [] [] fits all = tt
tiles_before files [] (l ∷ ls) fits all = absurd all
tiles_before files (t ∷ ts) [] fits all = absurd all
tiles_before files (t ∷ ts) (l ∷ ls) fits all = (
  record { key = all.0.key; count = all.0.count; has_tile = (all.0.has_tile, fits t (inl refl)) },
  tiles_before files ts ls (λ u m. fits u (inr m)) all.1,
)

pub before_is_sound : ScanIsNumbered → BeforeIsSound
before_is_sound numbered shelf files was shut = record { current = was.current; has_current = was.has_current; sound = at was.current was.sound }
  where
    at : (current : Current) → WasSoundFor shelf files current → IsSoundFor shelf files current
    at None sound = (no_gate files shut, sound.1)
    at (Some (letter, c)) sound =
        let saved : WasSaved shelf files c sound.0 = sound.1 in
        let most : HadAtMost c sound.0 files = sound.2 in
        let old : AllZip (IsSavedAs Old files) (sampled (rules_of c.kept) (take c.inserted sound.0)) c.nodes =
        tiles_before files (sampled (rules_of c.kept) (take c.inserted sound.0)) c.nodes (tile_fits numbered shelf files c sound.0 saved) saved.nodes in (
          sound.0,
          record {
            scan = saved.scan;
            nodes = subst (λ (layout : Layout). AllZip (IsSavedAs layout files) (sampled (rules_of c.kept) (take c.inserted sound.0)) c.nodes) (sym (ap layout_of saved.version)) old;
          },
          record { output = most.output; is_output = most.is_output; no_other = most.no_other; whole = λ done. absurd (no_gate files shut done) },
        )
