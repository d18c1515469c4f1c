-- The nodes of a checkpoint are the bytes that they are read from.
use Rattle.std.proofs.Common.{◌≡◌, ◌∙◌, ℕ, zero, suc, ◌≤◌, List, [], ◌∷◌, ◌++◌, length, Ok, refl, sym, ap, arith, append_assoc}
use Rattle.std.specs.List.{flat_map}
use Rattle.byteorder.specs.Endian.{little_bytes}
use Rattle.ept_space.specs.VoxelKey.{VoxelKey}
use Rattle.ept_ckpt.specs.declared.node_line.NodeLine.{NodeLine}
use Rattle.ept_ckpt.specs.Body.{letter_code, node_bytes}
use Rattle.ept_ckpt.specs.Fields.{Reading, number, within, times}
use Rattle.ept_ckpt.specs.Forms.{index, key_form, letter_of, node_form}
use Rattle.ept_ckpt.proofs.ReadNumbers.{CutsOff, steps, same_read, uncut, cut_by, all_cut, field_cut, most_of, number_cut, byte_cut}

index_cut : (depth : ℕ) → CutsOff ℕ (index depth) (little_bytes 4)
unfolding index
index_cut depth = field_cut _ (number_cut 4)

-- the bytes of a key
abbrev pub key_bytes : VoxelKey → List ℕ
key_bytes key = (key.depth ∷ []) ++ little_bytes 4 key.x ++ little_bytes 4 key.y ++ little_bytes 4 key.z

pub key_cut : (most : ℕ) → CutsOff VoxelKey (key_form most) key_bytes
unfolding key_form
key_cut most = record {
  cut = λ total rest left key fit read.
      steps (within 0 most (number 1) total rest) _ read (λ depth m1 r1 read1.
      steps (index depth total m1) _ read1 (λ x m2 r2 read2.
      steps (index depth total m2) _ read2 (λ y m3 r3 read3.
      steps (index depth total m3) _ read3 (λ z m4 r4 last.
      all_cut key_bytes (cut_by total (index_cut depth) (cut_by total (index_cut depth) (cut_by total (index_cut depth) (cut_by total (field_cut _ byte_cut) (uncut rest fit) r1) r2) r3) r4) refl last))));
}

-- a letter has the code that it is read from
code_of_letter : (code : ℕ) → code ≤ 1 → letter_code (letter_of code) ≡ code
code_of_letter zero most = refl
code_of_letter (suc zero) most = refl
code_of_letter (suc (suc code)) most = absurd (omega (arith, most))

-- the mask, and after it the code of the letter
letter_behind : (front : List ℕ) (mask code letter : ℕ) → letter ≡ code → (front ++ (mask ∷ [])) ++ (code ∷ []) ≡ front ++ (mask ∷ letter ∷ [])
letter_behind front mask code letter same = append_assoc front (mask ∷ []) (code ∷ []) ∙ ap (λ (n : ℕ). front ++ (mask ∷ n ∷ [])) (sym same)

pub node_cut : (most : ℕ) → CutsOff NodeLine (node_form most) node_bytes
unfolding node_form node_bytes
node_cut most = record {
  cut = λ total rest left line fit read.
      steps (key_form most total rest) _ read (λ key m1 r1 read1.
      steps (number 8 total m1) _ read1 (λ count m2 r2 read2.
      steps (number 1 total m2) _ read2 (λ mask m3 r3 read3.
      steps (within 0 1 (number 1) total m3) _ read3 (λ code m4 r4 last.
      let same = code_of_letter code (most_of 0 1 (number 1) total m3 m4 code r4) in
      all_cut node_bytes (cut_by total (field_cut _ byte_cut) (cut_by total byte_cut (cut_by total (number_cut 8) (cut_by total (key_cut most) (uncut rest fit) r1) r2) r3) r4)
      (letter_behind (key_bytes key ++ little_bytes 8 count) mask code (letter_code (letter_of code)) same) last))));
}

-- n items are their bytes, one after another
pub times_cut : {A : Type 0} {form : Reading A} {f : A → List ℕ} (n : ℕ) → CutsOff A form f → CutsOff (List A) (times n form) (flat_map f)
times_cut {f = f} zero cuts = record { cut = λ total rest left xs fit read. all_cut (flat_map f) (uncut rest fit) refl read }
times_cut {form = form} {f = f} (suc n) cuts = record {
  cut = λ total rest left xs fit read.
      steps (form total rest) _ read (λ first m1 r1 read1.
      steps (times n form total m1) _ read1 (λ more m2 r2 last.
      all_cut (flat_map f) (cut_by total (times_cut n cuts) (cut_by total cuts (uncut rest fit) r1) r2) refl last));
}

pub times_count : {A : Type 0} (form : Reading A) (n total : ℕ) (rest left : List ℕ) (xs : List A) → times n form total rest ≡ Ok (xs, left) → n ≡ length xs
times_count form zero total rest left xs read = ap length (same_read read).0
times_count form (suc n) total rest left xs read =
    steps (form total rest) _ read (λ first m1 r1 read1.
    steps (times n form total m1) _ read1 (λ more m2 r2 last.
    ap suc (times_count form n total m1 m2 more r2) ∙ ap length (same_read last).0))
