-- The names of checkpoints are in the folder that a build has for itself.
use Rattle.std.proofs.Common.{◌≢◌, inl, inr, ℕ, List, ◌++◌, refl, sym, subst}
use Rattle.std.specs.Prelude.{codes}
use Rattle.ept_space.specs.VoxelKey.{VoxelKey}
use Rattle.ept_space.specs.KeyText.{key_text}
use Rattle.ept_ckpt.specs.declared.letter.Letter.{Letter}
use Rattle.ept_ckpt.specs.declared.letter.Letter.TheVariants.{A, B}
use Rattle.ept_meta.specs.Output.{IsIn, IsOutsideWork}
use Rattle.ept_save.specs.Names.{gate_name, body_name, work_tile_name, done_name, IsSavedName}

abbrev InWork : List ℕ → Type 0
InWork name = IsIn (codes "ept-work") name

gate_in : (letter : Letter) → InWork (gate_name letter)
gate_in A = (codes "gate-a", refl)
gate_in B = (codes "gate-b", refl)

body_in : (letter : Letter) → InWork (body_name letter)
body_in A = (codes "body-a", refl)
body_in B = (codes "body-b", refl)

tile_in : (letter : Letter) (key : VoxelKey) → InWork (work_tile_name letter key)
unfolding work_tile_name
tile_in A key = (codes "a/" ++ key_text key ++ codes ".bin", refl)
tile_in B key = (codes "b/" ++ key_text key ++ codes ".bin", refl)

saved_in : (name : List ℕ) → IsSavedName name → InWork name
saved_in name (inl gate) = subst InWork (sym gate.1) (gate_in gate.0)
saved_in name (inr (inl body)) = subst InWork (sym body.1) (body_in body.0)
saved_in name (inr (inr tile)) = subst InWork (sym tile.2) (tile_in tile.0 tile.1)

-- so a file outside is none of a checkpoint's, and is not the done gate
pub outside-saved : (name : List ℕ) → IsOutsideWork name → ¬ IsSavedName name
outside-saved name outside saved = outside.0 (saved_in name saved)

pub outside-done : (name : List ℕ) → IsOutsideWork name → name ≢ done_name
outside-done name outside same = outside.0 (subst InWork (sym same) (codes "done-2", refl))
