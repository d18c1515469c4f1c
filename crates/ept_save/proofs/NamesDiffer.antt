-- The names of the work files are different.
use Rattle.std.proofs.Common.{◌≡◌, ◌≢◌, ◌∙◌, ◌⊎◌, inl, inr, ℕ, List, ◌∷◌, ◌++◌, refl, sym, ap, arith, get_or, append_assoc}
use Rattle.std.specs.Prelude.{codes, decimal}
use Rattle.std.proofs.lemmas.List.{append_cancel_left, append_cancel_right}
use Rattle.ept_space.specs.VoxelKey.{VoxelKey, IsKey}
use Rattle.ept_space.specs.KeyText.{key_text}
use Rattle.ept_space.proofs.KeyTexts.{key_text-injective}
use Rattle.ept_ckpt.specs.declared.letter.Letter.{Letter}
use Rattle.ept_ckpt.specs.declared.letter.Letter.TheVariants.{A, B}
use Rattle.ept_save.specs.Names.{other, gate_name, body_name, folder, work_tile_name, done_name, IsSavedName}

-- a tile's name, piece by piece
pub tile-name-of : (letter : Letter) (key : VoxelKey) → folder letter ++ (decimal key.depth ++ 45 ∷ (decimal key.x ++ 45 ∷ (decimal key.y ++ 45 ∷ (decimal key.z ++ codes ".bin")))) ≡ work_tile_name letter key
unfolding work_tile_name key_text
tile-name-of letter key = simp append_assoc

abbrev at : ℕ → List ℕ → ℕ
at n w = get_or w n 0

pub other-other : (letter : Letter) → other (other letter) ≡ letter
other-other A = refl
other-other B = refl

-- a letter is one of the two that belong together
pub one_of_two : (letter which : Letter) → (which ≡ letter) ⊎ (which ≡ other letter)
one_of_two A A = inl refl
one_of_two A B = inr refl
one_of_two B A = inr refl
one_of_two B B = inl refl

pub gates-differ : (letter : Letter) → gate_name letter ≢ gate_name (other letter)
gates-differ A same = let differ : 97 ≡ 98 = ap (at 14) same in absurd (omega (arith, differ))
gates-differ B same = let differ : 98 ≡ 97 = ap (at 14) same in absurd (omega (arith, differ))

pub bodies-differ : (letter : Letter) → body_name letter ≢ body_name (other letter)
bodies-differ A same = let differ : 97 ≡ 98 = ap (at 14) same in absurd (omega (arith, differ))
bodies-differ B same = let differ : 98 ≡ 97 = ap (at 14) same in absurd (omega (arith, differ))

pub gate-body : (one two : Letter) → gate_name one ≢ body_name two
gate-body A A same = let differ : 103 ≡ 98 = ap (at 9) same in absurd (omega (arith, differ))
gate-body A B same = let differ : 103 ≡ 98 = ap (at 9) same in absurd (omega (arith, differ))
gate-body B A same = let differ : 103 ≡ 98 = ap (at 9) same in absurd (omega (arith, differ))
gate-body B B same = let differ : 103 ≡ 98 = ap (at 9) same in absurd (omega (arith, differ))

pub gate-tile : (one two : Letter) (key : VoxelKey) → gate_name one ≢ work_tile_name two key
unfolding work_tile_name
gate-tile A A key same = let differ : 103 ≡ 97 = ap (at 9) same in absurd (omega (arith, differ))
gate-tile A B key same = let differ : 103 ≡ 98 = ap (at 9) same in absurd (omega (arith, differ))
gate-tile B A key same = let differ : 103 ≡ 97 = ap (at 9) same in absurd (omega (arith, differ))
gate-tile B B key same = let differ : 103 ≡ 98 = ap (at 9) same in absurd (omega (arith, differ))

pub body-tile : (one two : Letter) (key : VoxelKey) → body_name one ≢ work_tile_name two key
unfolding work_tile_name
body-tile A A key same = let differ : 98 ≡ 97 = ap (at 9) same in absurd (omega (arith, differ))
body-tile A B key same = let differ : 111 ≡ 47 = ap (at 10) same in absurd (omega (arith, differ))
body-tile B A key same = let differ : 98 ≡ 97 = ap (at 9) same in absurd (omega (arith, differ))
body-tile B B key same = let differ : 111 ≡ 47 = ap (at 10) same in absurd (omega (arith, differ))

-- two tiles have one name only if letter and key are the same
pub tile-letter : (one two : Letter) (a b : VoxelKey) → work_tile_name one a ≡ work_tile_name two b → one ≡ two
unfolding work_tile_name
tile-letter A A a b same = refl
tile-letter A B a b same = let differ : 97 ≡ 98 = ap (at 9) same in absurd (omega (arith, differ))
tile-letter B A a b same = let differ : 98 ≡ 97 = ap (at 9) same in absurd (omega (arith, differ))
tile-letter B B a b same = refl

same_folder : (letter : Letter) (a b : VoxelKey) → IsKey a → IsKey b → work_tile_name letter a ≡ work_tile_name letter b → a ≡ b
unfolding work_tile_name
same_folder letter a b is_a is_b same =
    key_text-injective a b is_a is_b (append_cancel_left (folder letter) (key_text a) (key_text b) (append_cancel_right (folder letter ++ key_text a) (folder letter ++ key_text b) (codes ".bin") same))

pub tile-key : (one two : Letter) (a b : VoxelKey) → IsKey a → IsKey b → work_tile_name one a ≡ work_tile_name two b → a ≡ b
tile-key one two a b is_a is_b same =
    same_folder one a b is_a is_b (same ∙ ap (λ (l : Letter). work_tile_name l b) (sym (tile-letter one two a b same)))

-- the done gate is none of them
pub done-gate : (letter : Letter) → done_name ≢ gate_name letter
done-gate A same = let differ : 100 ≡ 103 = ap (at 9) same in absurd (omega (arith, differ))
done-gate B same = let differ : 100 ≡ 103 = ap (at 9) same in absurd (omega (arith, differ))

pub done-body : (letter : Letter) → done_name ≢ body_name letter
done-body A same = let differ : 100 ≡ 98 = ap (at 9) same in absurd (omega (arith, differ))
done-body B same = let differ : 100 ≡ 98 = ap (at 9) same in absurd (omega (arith, differ))

done-tile : (letter : Letter) (key : VoxelKey) → done_name ≢ work_tile_name letter key
unfolding work_tile_name
done-tile A key same = let differ : 100 ≡ 97 = ap (at 9) same in absurd (omega (arith, differ))
done-tile B key same = let differ : 100 ≡ 98 = ap (at 9) same in absurd (omega (arith, differ))

pub done-apart : ¬ IsSavedName done_name
done-apart (inl gate) = done-gate gate.0 gate.1
done-apart (inr (inl body)) = done-body body.0 body.1
done-apart (inr (inr tile)) = done-tile tile.0 tile.1 tile.2
