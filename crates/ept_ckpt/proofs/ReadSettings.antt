-- The settings of a checkpoint are the bytes that they are read from.
use Rattle.std.proofs.Common.{◌≡◌, ◌∙◌, ℕ, ◌+◌, ◌*◌, ◌<◌, ◌≤◌, ◌^◌, ℤ, Bool, true, false, List, [], ◌∷◌, ◌++◌, Option, Ok, refl, sym, ap, arith, append_assoc}
use Rattle.std.specs.Prelude.{◌==◌, if◌then◌else◌}
use Rattle.std.specs.Int.{bit_at, w32, w64, cast_unsigned}
use Rattle.std.specs.List.{flat_map}
use Rattle.std.proofs.lemmas.List.{append-nil}
use Rattle.std.proofs.lemmas.Nat.Bits.{bit_at-lt}
use Rattle.byteorder.specs.Endian.{little_bytes}
use Rattle.ept_space.specs.declared.bounds.Bounds.{Bounds}
use Rattle.ept_config.specs.Facts.{SrsFacts}
use Rattle.ept_config.specs.Texts.{is_srs_text}
use Rattle.ept_ckpt.specs.Facts.{KeptFacts}
use Rattle.ept_ckpt.specs.Body.{flag, i32_bytes, bounds_bytes, text_bytes, srs_bytes, kept_bytes}
use Rattle.ept_ckpt.specs.Body as body
use Rattle.ept_ckpt.specs.Fields.{Reading, ◌>>=◌, give, bytes, number, within, three, optional}
use Rattle.ept_ckpt.specs.Forms.{near, between, corner, box_within, text, srs_text, srs_form, kept_form, whole}
use Rattle.ept_ckpt.proofs.ReadNumbers.{HasBytes, Cut, CutsOff, steps, same_read, uncut, cut_by, all_cut, field_cut, field_read, most_of, bytes_length, number_cut, byte_cut, bytes_cut, i32_cut, i64_cut}

-- a whole number near 0, and a coordinate
pub near_cut : (most : ℕ) → CutsOff ℤ (near most) (λ z. little_bytes 8 (cast_unsigned w64 z))
unfolding near
near_cut most = field_cut _ i64_cut

pub between_cut : (low high : ℤ) → CutsOff ℤ (between low high) (λ z. little_bytes 4 (cast_unsigned w32 z))
unfolding between
between_cut low high = field_cut _ i32_cut

-- three numbers, one after another
in_order : (a b c : List ℕ) → (a ++ b) ++ c ≡ a ++ (b ++ (c ++ []))
in_order a b c = rw (append-nil c) (append_assoc a b c)

axes_cut : {A : Type 0} (first second third : Reading A) (f : A → List ℕ) → CutsOff A first f → CutsOff A second f → CutsOff A third f
    → CutsOff (List A) (first >>= (λ x. second >>= (λ y. third >>= (λ z. give (x ∷ y ∷ z ∷ []))))) (flat_map f)
axes_cut first second third f cuts_first cuts_second cuts_third = record {
  cut = λ total rest left xs fit read.
      steps _ _ read (λ x m1 r1 read1. steps _ _ read1 (λ y m2 r2 read2. steps _ _ read2 (λ z m3 r3 last.
      all_cut (flat_map f) (cut_by total cuts_third (cut_by total cuts_second (cut_by total cuts_first (uncut rest fit) r1) r2) r3) (in_order (f x) (f y) (f z)) last)));
}

pub three_cut : {A : Type 0} (form : Reading A) (f : A → List ℕ) → CutsOff A form f → CutsOff (List A) (three form) (flat_map f)
unfolding three
three_cut form f cuts = axes_cut form form form f cuts cuts cuts

pub corner_cut : (low high : List ℤ) → CutsOff (List ℤ) (corner low high) i32_bytes
unfolding corner
corner_cut low high = axes_cut _ _ _ _ (between_cut _ _) (between_cut _ _) (between_cut _ _)

-- bounds: the minimum, then the maximum
pub box_cut : (outer : Bounds) → CutsOff Bounds (box_within outer) bounds_bytes
unfolding box_within bounds_bytes
box_cut outer = record {
  cut = λ total rest left bounds fit read.
      steps (corner outer.min outer.max total rest) _ read (λ min m1 r1 read1. steps (corner min outer.max total m1) _ read1 (λ max m2 r2 last.
      all_cut bounds_bytes (cut_by total (corner_cut min outer.max) (cut_by total (corner_cut outer.min outer.max) (uncut rest fit) r1) r2) refl last));
}

-- a text: its length, then its bytes
text_is : (least most total : ℕ) (test : List ℕ → Bool) (rest left x : List ℕ) → HasBytes rest → text least most test total rest ≡ Ok (x, left) → rest ≡ text_bytes x ++ left
unfolding text text_bytes
text_is least most total test rest left x fit read = steps _ _ read (λ width mid first last.
    let piece = (field_read test (bytes width) total mid left x last).0 in
    let so_far : Cut rest (little_bytes 4 width ++ x) left = cut_by total (bytes_cut width) (cut_by total (field_cut _ (number_cut 4)) (uncut rest fit) first) piece in
    so_far.is ∙ ap (λ (n : ℕ). (little_bytes 4 n ++ x) ++ left) (sym (bytes_length width total mid left x piece)))

pub text_cut : (least most : ℕ) (test : List ℕ → Bool) → CutsOff (List ℕ) (text least most test) text_bytes
text_cut least most test = record { cut = λ total rest left x fit read. text_is least most total test rest left x fit read }

pub srs_text_cut : CutsOff (List ℕ) srs_text text_bytes
unfolding srs_text
srs_text_cut = text_cut 0 65536 is_srs_text

-- the value is read if it is there, otherwise nothing is read
pub optional_cut : {A : Type 0} {form : Reading A} {f : A → List ℕ} (there : Bool) → CutsOff A form f → CutsOff (Option A) (optional there form) (body.optional f)
optional_cut {f = f} false cuts = record { cut = λ total rest left a fit read. all_cut (body.optional f) (uncut rest fit) refl read }
optional_cut {f = f} true cuts = record {
  cut = λ total rest left a fit read. steps _ _ read (λ x m1 r1 last. all_cut (body.optional f) (cut_by total cuts (uncut rest fit) r1) refl last);
}

-- the flag of what was read is 1 if and only if it was there
flag_tells : {A : Type 0} (form : Reading A) (there : Bool) (total : ℕ) (rest left : List ℕ) (a : Option A) → optional there form total rest ≡ Ok (a, left) → flag a ≡ (if there then 1 else 0)
flag_tells form false total rest left a read = ap flag (sym (same_read read).0)
flag_tells form true total rest left a read = steps (form total rest) _ read (λ x mid first last. ap flag (sym (same_read last).0))

pub one_or_none : (n : ℕ) → n < 2 → (if n == 1 then 1 else 0) ≡ n
one_or_none n few = grind arith

pub flag_is : {A : Type 0} (form : Reading A) (n total : ℕ) (rest left : List ℕ) (a : Option A) → n < 2 → optional (n == 1) form total rest ≡ Ok (a, left) → flag a ≡ n
flag_is form n total rest left a few read = flag_tells form (n == 1) total rest left a read ∙ one_or_none n few

-- the bits of a number up to 15
bits_of : (n a b c d : ℕ) → n ≤ 15 → a ≡ bit_at n 0 → b ≡ bit_at n 1 → c ≡ bit_at n 2 → d ≡ bit_at n 3 → n ≡ a + 2 * b + 4 * c + 8 * d
bits_of n a b c d most bit_0 bit_1 bit_2 bit_3 = omega arith

-- the bits, then the texts that are there
bits_first : (n m : ℕ) (a b c d : Option (List ℕ)) → n ≡ m
    → (n ∷ []) ++ body.optional text_bytes a ++ body.optional text_bytes b ++ body.optional text_bytes c ++ body.optional text_bytes d ≡ (m ∷ []) ++ body.optional text_bytes a ++ body.optional text_bytes b ++ body.optional text_bytes c ++ body.optional text_bytes d
bits_first n m a b c d same = rw same refl

-- a bit for each text that is there, then these texts
pub srs_cut : CutsOff SrsFacts srs_form srs_bytes
unfolding srs_form srs_bytes
srs_cut = record {
  cut = λ total rest left srs fit read.
      steps (within 0 15 (number 1) total rest) _ read (λ n m0 r0 read0.
      steps (optional (bit_at n 0 == 1) srs_text total m0) _ read0 (λ a m1 r1 read1.
      steps (optional (bit_at n 1 == 1) srs_text total m1) _ read1 (λ b m2 r2 read2.
      steps (optional (bit_at n 2 == 1) srs_text total m2) _ read2 (λ c m3 r3 read3.
      steps (optional (bit_at n 3 == 1) srs_text total m3) _ read3 (λ d m4 r4 last.
      let bits : n ≡ flag a + 2 * flag b + 4 * flag c + 8 * flag d =
      bits_of n _ _ _ _ (most_of 0 15 (number 1) total rest m0 n r0) (flag_is srs_text (bit_at n 0) total m0 m1 a (bit_at-lt n 0) r1) (flag_is srs_text (bit_at n 1) total m1 m2 b (bit_at-lt n 1) r2)
      (flag_is srs_text (bit_at n 2) total m2 m3 c (bit_at-lt n 2) r3) (flag_is srs_text (bit_at n 3) total m3 m4 d (bit_at-lt n 3) r4) in
      all_cut srs_bytes (cut_by total (optional_cut (bit_at n 3 == 1) srs_text_cut) (cut_by total (optional_cut (bit_at n 2 == 1) srs_text_cut) (cut_by total (optional_cut (bit_at n 1 == 1) srs_text_cut) (cut_by total (optional_cut (bit_at n 0 == 1) srs_text_cut)
      (cut_by total (field_cut _ byte_cut) (uncut rest fit) r0) r1) r2) r3) r4) (bits_first n _ a b c d bits) last)))));
}

-- all settings, in order
pub kept_cut : CutsOff KeptFacts kept_form kept_bytes
unfolding kept_form kept_bytes
kept_cut = record {
  cut = λ total rest left kept fit read.
      steps (within 0 9 (number 1) total rest) _ read (λ scale m1 r1 read1.
      steps (within 1 10 (number 1) total m1) _ read1 (λ s m2 r2 read2.
      steps (within 0 32 (number 1) total m2) _ read2 (λ max_depth m3 r3 read3.
      steps (within 0 32 (number 1) total m3) _ read3 (λ step m4 r4 read4.
      steps (within 0 (2 ^ 31) (number 4) total m4) _ read4 (λ threshold m5 r5 read5.
      steps (three (near (10 ^ 9)) total m5) _ read5 (λ offset m6 r6 read6.
      steps (box_within whole total m6) _ read6 (λ bounds m7 r7 read7.
      steps (srs_form total m7) _ read7 (λ srs m8 r8 last.
      let four = cut_by total (field_cut _ byte_cut) (cut_by total (field_cut _ byte_cut) (cut_by total (field_cut _ byte_cut) (cut_by total (field_cut _ byte_cut) (uncut rest fit) r1) r2) r3) r4 in
      all_cut kept_bytes (cut_by total srs_cut (cut_by total (box_cut whole) (cut_by total (three_cut _ _ (near_cut (10 ^ 9))) (cut_by total (field_cut _ (number_cut 4)) four r5) r6) r7) r8) refl last))))))));
}
