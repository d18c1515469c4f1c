use Rattle.std.proofs.Common.{◌≡◌, ◌∙◌, List, ℕ, ◌∷◌, ◌++◌, ap, append_assoc}
use Rattle.std.specs.Prelude.{codes, decimal}
use Rattle.std.proofs.lemmas.Result.{IfOk-weaker}
use Rattle.ept_space.specs.VoxelKey.{VoxelKey}
use Rattle.ept_space.specs.KeyText.{key_text}
use Rattle.ept_part.proofs.names.tile_in.Goals as goal

-- the tile's name, piece by piece
tile_text : (folder : List ℕ) (key : VoxelKey) → folder ++ 47 ∷ (decimal key.depth ++ 45 ∷ (decimal key.x ++ 45 ∷ (decimal key.y ++ 45 ∷ (decimal key.z ++ codes ".bin")))) ≡ folder ++ (codes "/" ++ (key_text key ++ codes ".bin"))
unfolding key_text
tile_text folder key = simp append_assoc

pub returns : goal.returns
returns c =
    let key : VoxelKey = record { depth = c.key.inside.depth; x = c.key.inside.x; y = c.key.inside.y; z = c.key.inside.z } in
    IfOk-weaker c.format.result _ _ (λ path is. is ∙ (tile_text c.args.folder.now key ∙ ap (λ (k : VoxelKey). c.args.folder.now ++ (codes "/" ++ (key_text k ++ codes ".bin"))) c.key.view_is)) c.format.ensures.ok
