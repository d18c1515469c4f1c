-- The version under which a tile is put is not named by the current checkpoint.
use Rattle.std.proofs.Common.{◌≡◌, ◌≢◌, ◌∙◌, sym, ap, subst, Some, None}
use Rattle.std.specs.declared.cmp.Ordering.TheVariants.{Equal}
use Rattle.ept_space.specs.VoxelKey.{VoxelKey, IsKey, key_cmp}
use Rattle.ept_space.proofs.KeyOrder.{key_cmp-same}
use Rattle.ept_ckpt.specs.declared.letter.Letter.{Letter}
use Rattle.ept_ckpt.specs.declared.letter.Letter.TheVariants.{A, B}
use Rattle.ept_ckpt.specs.declared.node_line.NodeLine.{NodeLine}
use Rattle.ept_ckpt.specs.Lookup.{line_of_key}
use Rattle.ept_ckpt.proofs.Finding.{line-found}
use Rattle.ept_save.specs.Names.{other, work_tile_name}
use Rattle.ept_save.specs.Current.{Current, IsNamed}
use Rattle.ept_save.specs.Lines.{free_of, free_letter}
use Rattle.ept_save.proofs.NamesDiffer.{tile-letter, tile-key}

not-other : (letter : Letter) → other letter ≢ letter
not-other A same = cc
not-other B same = cc

pub free-unnamed : (current : Current) (key : VoxelKey) → IsKey key → ¬ IsNamed current (work_tile_name (free_letter current key) key)
free-unnamed None key is_key named = absurd named
free-unnamed (Some (at, c)) key is_key named =
    let line : NodeLine = named.1 in
    let is_line : IsKey line.key = subst (λ (l : NodeLine). IsKey l.key) named.3 (c.is_checkpoint.lines named.0 line named.2).is_key in
    let key_is : key ≡ line.key = tile-key (free_letter (Some (at, c)) key) line.letter key line.key is_key is_line named.4 in
    let letter_is : free_letter (Some (at, c)) key ≡ line.letter = tile-letter (free_letter (Some (at, c)) key) line.letter key line.key named.4 in
    let equal : key_cmp line.key key ≡ Equal = key_cmp-same line.key key (sym key_is) in
    let found : line_of_key c.nodes key ≡ Some line = line-found c.nodes key c.is_checkpoint.nodes_are.octree.ascend named.0 line named.2 (ap (λ (l : NodeLine). key_cmp l.key key) named.3 ∙ equal) ∙ ap Some named.3 in
    not-other line.letter (sym (ap free_of found) ∙ letter_is)
