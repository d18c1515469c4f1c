-- The inputs of a checkpoint, each with its count, are the bytes that they are read from.
use Rattle.std.proofs.Common.{◌≡◌, ℕ, ◌<◌, ◌^◌, Bool, true, false, List, [], ◌∷◌, ◌++◌, refl, sym, arith, append_assoc}
use Rattle.std.specs.Prelude.{◌==◌, if◌then◌else◌}
use Rattle.std.proofs.lemmas.Bool.{eqb-true}
use Rattle.byteorder.specs.Endian.{little_bytes}
use Rattle.ept_space.specs.declared.bounds.Bounds.{Bounds}
use Rattle.ept_config.specs.Facts.{InputFacts}
use Rattle.ept_config.specs.Texts.{is_path}
use Rattle.ept_config.specs.declared.source_count.SourceCount.{SourceCount}
use Rattle.ept_ckpt.specs.Facts.{Source}
use Rattle.ept_ckpt.specs.Body.{flag, i64_bytes, bounds_bytes, text_bytes, source_bytes}
use Rattle.ept_ckpt.specs.Body as body
use Rattle.ept_ckpt.specs.Fields.{bytes, number, field, within, three, optional}
use Rattle.ept_ckpt.specs.Forms.{near, text, box_within, input_form, count_form, source_form}
use Rattle.ept_ckpt.proofs.ReadNumbers.{CutsOff, steps, uncut, cut_by, all_cut, field_cut, field_read, most_of, number_cut, byte_cut, bytes_cut}
use Rattle.ept_ckpt.proofs.ReadSettings.{near_cut, three_cut, box_cut, text_cut, optional_cut, flag_is}

-- the bytes of an input, and of a count
abbrev pub input_bytes : InputFacts → List ℕ
input_bytes input =
    text_bytes input.path
    ++ (input.scale ∷ [])
    ++ i64_bytes input.shift
    ++ (flag input.expect ∷ [])
    ++ body.optional (λ bytes. bytes) input.expect

abbrev pub count_bytes : SourceCount → List ℕ
count_bytes count = little_bytes 8 count.points ++ (flag count.extent ∷ []) ++ body.optional bounds_bytes count.extent

-- a flag after other bytes, and bytes after it
flag_between : (n m : ℕ) (front back : List ℕ) → n ≡ m → front ++ (n ∷ []) ++ back ≡ front ++ (m ∷ []) ++ back
flag_between n m front back same = rw same refl

pub input_cut : (scale : ℕ) → CutsOff InputFacts (input_form scale) input_bytes
unfolding input_form
input_cut scale = record {
  cut = λ total rest left input fit read.
      steps (text 1 4096 is_path total rest) _ read (λ path m1 r1 read1.
      steps (within 0 scale (number 1) total m1) _ read1 (λ its_scale m2 r2 read2.
      steps (three (near (10 ^ 15)) total m2) _ read2 (λ shift m3 r3 read3.
      steps (within 0 1 (number 1) total m3) _ read3 (λ expected m4 r4 read4.
      steps (optional (expected == 1) (bytes 48) total m4) _ read4 (λ expect m5 r5 last.
      let most = most_of 0 1 (number 1) total m3 m4 expected r4 in
      let told : expected ≡ flag expect = sym (flag_is (bytes 48) expected total m4 m5 expect (omega (arith, most)) r5) in
      all_cut input_bytes (cut_by total (optional_cut (expected == 1) (bytes_cut 48)) (cut_by total (field_cut _ byte_cut) (cut_by total (three_cut _ _ (near_cut (10 ^ 15))) (cut_by total (field_cut _ byte_cut) (cut_by total (text_cut 1 4096 is_path) (uncut rest fit) r1) r2) r3) r4) r5)
      (flag_between expected (flag expect) (text_bytes path ++ (its_scale ∷ []) ++ i64_bytes shift) (body.optional (λ bytes. bytes) expect) told) last)))));
}

-- the flag of an extent is 0 or 1
few_there : (empty : Bool) (there : ℕ) → (there == (if empty then 0 else 1)) ≡ true → there < 2
few_there true there passed = omega (arith, eqb-true there 0 passed)
few_there false there passed = omega (arith, eqb-true there 1 passed)

pub count_cut : (most : ℕ) (bounds : Bounds) → CutsOff SourceCount (count_form most bounds) count_bytes
unfolding count_form
count_cut most bounds = record {
  cut = λ total rest left count fit read.
      steps (within 0 most (number 8) total rest) _ read (λ points m1 r1 read1.
      steps (field (λ n. n == (if points == 0 then 0 else 1)) (number 1) total m1) _ read1 (λ there m2 r2 read2.
      steps (optional (there == 1) (box_within bounds) total m2) _ read2 (λ extent m3 r3 last.
      let few = few_there (points == 0) there (field_read (λ n. n == (if points == 0 then 0 else 1)) (number 1) total m1 m2 there r2).1 in
      let told : there ≡ flag extent = sym (flag_is (box_within bounds) there total m2 m3 extent few r3) in
      all_cut count_bytes (cut_by total (optional_cut (there == 1) (box_cut bounds)) (cut_by total (field_cut _ byte_cut) (cut_by total (field_cut _ (number_cut 8)) (uncut rest fit) r1) r2) r3)
      (flag_between there (flag extent) (little_bytes 8 points) (body.optional bounds_bytes extent) told) last)));
}

-- a count after an input
count_behind : (input a b c : List ℕ) → input ++ ((a ++ b) ++ c) ≡ ((input ++ a) ++ b) ++ c
count_behind input a b c = simp append_assoc

pub source_cut : (most scale : ℕ) (bounds : Bounds) → CutsOff Source (source_form most scale bounds) source_bytes
unfolding source_form source_bytes
source_cut most scale bounds = record {
  cut = λ total rest left source fit read.
      steps (input_form scale total rest) _ read (λ input m1 r1 read1.
      steps (count_form most bounds total m1) _ read1 (λ count m2 r2 last.
      all_cut source_bytes (cut_by total (count_cut most bounds) (cut_by total (input_cut scale) (uncut rest fit) r1) r2)
      (count_behind (input_bytes input) (little_bytes 8 count.points) (flag count.extent ∷ []) (body.optional bounds_bytes count.extent)) last));
}
