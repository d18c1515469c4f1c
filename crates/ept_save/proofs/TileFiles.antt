-- Files of tiles, in either layout.
use Rattle.std.proofs.Common.{◌≡◌, ◌∙◌, ℕ, ◌+◌, Bool, true, cond, List, [], ◌∷◌, length, length-append, Option, Some, None, refl, sym, ap, subst, arith}
use Rattle.std.specs.List.{AllByRecursion}
use Rattle.ept_base.specs.Files.{Files, Tells}
use Rattle.ept_base.specs.Devices.{Gets}
use Rattle.ept_point.specs.declared.point.Point.{Point}
use Rattle.ept_point.specs.declared.layout.Layout.{Layout}
use Rattle.ept_point.specs.declared.layout.Layout.TheVariants.{Old, New}
use Rattle.ept_point.specs.Packed.{tile, old_tile}
use Rattle.ept_point.specs.Layout.{width_of, packed_in, tile_in, FitsIn, IsTileIn}
use Rattle.ept_point.proofs.PackedLaws.{append_same}
use Rattle.ept_point.proofs.LayoutLaws.{length-packed_in, packed_in_one, tile_parts_in}
use Rattle.ept_ckpt.specs.declared.letter.Letter.{Letter}
use Rattle.ept_ckpt.specs.declared.checkpoint.Checkpoint.{Checkpoint}
use Rattle.ept_ckpt.specs.Versions.{layout_of}
use Rattle.ept_save.specs.Tiles.{HasTileUnder, IsOfLayout}

some_same : (one two : List ℕ) → Some one ≡ Some two → one ≡ two
some_same one two same = cc

-- a file that holds the same is the same tile
pub tile-same : (layout : Layout) (one two : List ℕ) (points : List Point) (old new : Files) → new two ≡ old one → HasTileUnder layout one points old → HasTileUnder layout two points new
tile-same Old one two points old new same has = (same ∙ has.0, has.1)
tile-same New one two points old new same has = same ∙ has

-- a file whose bytes are a tile, and back
pub tile-file : (layout : Layout) (name bytes : List ℕ) (points : List Point) (files : Files) → files name ≡ Some bytes → IsTileIn layout bytes points → HasTileUnder layout name points files
tile-file Old name bytes points files has is = (has ∙ ap Some is.0, is.1)
tile-file New name bytes points files has is = has ∙ ap Some is

pub file-tile : (layout : Layout) (name : List ℕ) (points : List Point) (files : Files) → HasTileUnder layout name points files → (bytes : List ℕ) × (files name ≡ Some bytes) × IsTileIn layout bytes points
file-tile Old name points files has = (old_tile points, has.0, (refl, has.1))
file-tile New name points files has = (tile points, has, refl)

-- a tile is that of one list of points which fit its layout
no_width : (layout : Layout) (n : ℕ) → width_of layout + n ≡ 0 → ⊥
no_width Old n none = omega (arith, none)
no_width New n none = omega (arith, none)

no_bytes : (layout : Layout) (p : Point) (points : List Point) → tile_in layout (p ∷ points) ≡ [] → ⊥
no_bytes layout p points none =
    no_width layout (length (tile_in layout points)) (omega (arith, ap length none, length-append (packed_in layout p) (tile_in layout points), length-packed_in layout p))

pub same-tile : (layout : Layout) (a b : List Point) → AllByRecursion (FitsIn layout) a → AllByRecursion (FitsIn layout) b → tile_in layout a ≡ tile_in layout b → a ≡ b
same-tile layout [] [] fit fits e = refl
same-tile layout [] (q ∷ b) fit fits e = absurd (no_bytes layout q b (sym e))
same-tile layout (p ∷ a) [] fit fits e = absurd (no_bytes layout p a e)
same-tile layout (p ∷ a) (q ∷ b) fit fits e =
    let parts = append_same (packed_in layout p) (packed_in layout q) (tile_in layout a) (tile_in layout b) (length-packed_in layout p ∙ sym (length-packed_in layout q)) e in
    ap (λ (w : Point). w ∷ a) (packed_in_one layout p q fit.0 fits.0 parts.0) ∙ ap (λ (w : List Point). q ∷ w) (same-tile layout a b fit.1 fits.1 parts.1)

pub one-file : (layout : Layout) (name : List ℕ) (files : Files) (a b : List Point) → HasTileUnder layout name a files → HasTileUnder layout name b files → a ≡ b
one-file layout name files a b has_a has_b =
    let first = file-tile layout name a files has_a in
    let second = file-tile layout name b files has_b in
    let one = tile_parts_in layout first.0 a first.2 in
    let two = tile_parts_in layout second.0 b second.2 in
    same-tile layout a b one.1 two.1 (sym one.0 ∙ (some_same first.0 second.0 (sym first.1 ∙ second.1) ∙ two.0))

-- a file was read, and its bytes are a tile
pub tile-told : (layout : Layout) (points : List Point) (files : Option Files) (name : List ℕ) (found : Bool) (bytes read : List ℕ) → found ≡ true → read ≡ bytes → Tells (λ all. Gets all name found bytes) files → IsTileIn layout read points → Tells (HasTileUnder layout name points) files
tile-told layout points None name found bytes read there same gets is = tt
tile-told layout points (Some all) name found bytes read there same gets is =
    tile-file layout name bytes points all (subst (λ (b : Bool). all name ≡ cond b (Some bytes) None) there gets.0) (subst (λ (w : List ℕ). IsTileIn layout w points) same is)

-- ---- layouts

old-or-new : (layout : Layout) → ¬ (layout ≡ Old) → layout ≡ New
old-or-new Old none = absurd (none refl)
old-or-new New none = refl

-- what is not of the old layout is of the new one
pub new-layout : (letter : Letter) (c : Checkpoint) → ¬ IsOfLayout Old (Some (letter, c)) → layout_of c.version ≡ New
new-layout letter c none = old-or-new (layout_of c.version) none

pub not-old : (layout : Layout) → layout ≡ New → ¬ (layout ≡ Old)
not-old layout is old = let wrong : New ≡ Old = sym is ∙ old in absurd cc
