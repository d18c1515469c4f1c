-- Texts, and the spatial reference, that are written read back.
use Rattle.std.proofs.Common.{◌≡◌, ℕ, ◌+◌, ◌*◌, ◌^◌, ◌<◌, ◌≤◌, Bool, true, List, ◌++◌, length, Option, Some, None, Ok, refl, ap, arith, append_assoc}
use Rattle.std.specs.Prelude.{◌==◌}
use Rattle.std.specs.Option.{ForSome}
use Rattle.std.specs.Int.{bit_at}
use Rattle.byteorder.specs.Endian.{little_bytes}
use Rattle.ept_config.specs.Facts.{SrsFacts}
use Rattle.ept_config.specs.SrsRanges.{SrsInRange}
use Rattle.ept_config.specs.Texts.{is_path, is_srs_text}
use Rattle.ept_ckpt.specs.Body as body
use Rattle.ept_ckpt.specs.Body.{text_bytes, flag, srs_bytes}
use Rattle.ept_ckpt.specs.Fields.{Reading, number, bytes, optional}
use Rattle.ept_ckpt.specs.Forms.{text, srs_text, srs_form}
use Rattle.ept_ckpt.proofs.WrittenLists.{four_then}
use Rattle.ept_ckpt.proofs.WrittenNumbers.{read_then, field_read, within_read, byte_within, bytes_written, number_written}

pub text_written : (total least most : ℕ) (test : List ℕ → Bool) (xs rest : List ℕ) → most < 2 ^ 32 → least ≤ length xs → length xs ≤ most → test xs ≡ true → text least most test total (text_bytes xs ++ rest) ≡ Ok (xs, rest)
unfolding text text_bytes
text_written total least most test xs rest small low high passes =
    rw (append_assoc (little_bytes 4 (length xs)) xs rest)
    (read_then _ (within_read least most (number 4) total _ (xs ++ rest) (length xs) (number_written total 4 (length xs) (xs ++ rest) (omega (arith, small, high))) low high)
    (field_read test (bytes (length xs)) total (xs ++ rest) rest xs (bytes_written total (length xs) xs rest refl) passes))

-- the path of an input
path_least : (xs : List ℕ) → is_path xs ≡ true → 1 ≤ length xs
unfolding is_path
path_least xs is = grind (arith, is)

path_most : (xs : List ℕ) → is_path xs ≡ true → length xs ≤ 4096
unfolding is_path
path_most xs is = grind (arith, is)

pub path_written : (total : ℕ) (xs rest : List ℕ) → is_path xs ≡ true → text 1 4096 is_path total (text_bytes xs ++ rest) ≡ Ok (xs, rest)
path_written total xs rest is = text_written total 1 4096 is_path xs rest (omega arith) (path_least xs is) (path_most xs is) is

-- a text of the spatial reference
srs_text_most : (xs : List ℕ) → is_srs_text xs ≡ true → length xs ≤ 65536
unfolding is_srs_text
srs_text_most xs is = grind (arith, is)

srs_text_written : (total : ℕ) (xs rest : List ℕ) → is_srs_text xs ≡ true → srs_text total (text_bytes xs ++ rest) ≡ Ok (xs, rest)
unfolding srs_text
srs_text_written total xs rest is = text_written total 0 65536 is_srs_text xs rest (omega arith) (omega arith) (srs_text_most xs is) is

-- the value, or nothing
pub optional_written : {A : Type 0} (total : ℕ) (form : Reading A) (written : A → List ℕ) (value : Option A) (there : Bool) (rest : List ℕ) → there ≡ (flag value == 1) → ((a : A) → value ≡ Some a → form total (written a ++ rest) ≡ Ok (a, rest)) → optional there form total (body.optional written value ++ rest) ≡ Ok (value, rest)
optional_written total form written None there rest is each = rw is refl
optional_written total form written (Some a) there rest is each = rw (is, each a refl) refl

srs_texts_written : (total : ℕ) (value : Option (List ℕ)) (there : Bool) (rest : List ℕ) → there ≡ (flag value == 1) → ForSome value (λ xs. is_srs_text xs ≡ true) → optional there srs_text total (body.optional text_bytes value ++ rest) ≡ Ok (value, rest)
srs_texts_written total value there rest is each = optional_written total srs_text text_bytes value there rest is (λ xs some. srs_text_written total xs rest (each xs some))

-- a bit for each of four texts
pub flag-most : {A : Type 0} (value : Option A) → flag value ≤ 1
flag-most None = omega arith
flag-most (Some a) = omega arith

there_of : SrsFacts → ℕ
there_of srs = flag srs.authority + 2 * flag srs.horizontal + 4 * flag srs.vertical + 8 * flag srs.wkt

four_bits : (a b c d : ℕ) → a ≤ 1 → b ≤ 1 → c ≤ 1 → d ≤ 1 → (bit_at (a + 2 * b + 4 * c + 8 * d) 0 ≡ a) × (bit_at (a + 2 * b + 4 * c + 8 * d) 1 ≡ b) × (bit_at (a + 2 * b + 4 * c + 8 * d) 2 ≡ c) × (bit_at (a + 2 * b + 4 * c + 8 * d) 3 ≡ d)
four_bits a b c d ha hb hc hd = (omega arith, omega arith, omega arith, omega arith)

pub srs_written : (total : ℕ) (srs : SrsFacts) (rest : List ℕ) → SrsInRange srs.authority srs.horizontal srs.vertical srs.wkt → srs_form total (srs_bytes srs ++ rest) ≡ Ok (srs, rest)
unfolding srs_form srs_bytes there_of
srs_written total srs rest are =
    let bits = four_bits (flag srs.authority) (flag srs.horizontal) (flag srs.vertical) (flag srs.wkt) (flag-most srs.authority) (flag-most srs.horizontal) (flag-most srs.vertical) (flag-most srs.wkt) in
    let most : there_of srs ≤ 15 = omega (arith, flag-most srs.authority, flag-most srs.horizontal, flag-most srs.vertical, flag-most srs.wkt) in
    let wkt : List ℕ = body.optional text_bytes srs.wkt ++ rest in
    let vertical : List ℕ = body.optional text_bytes srs.vertical ++ wkt in
    let horizontal : List ℕ = body.optional text_bytes srs.horizontal ++ vertical in
    let authority : List ℕ = body.optional text_bytes srs.authority ++ horizontal in
    rw (four_then (body.optional text_bytes srs.authority) (body.optional text_bytes srs.horizontal) (body.optional text_bytes srs.vertical) (body.optional text_bytes srs.wkt) rest)
    (read_then _ (byte_within total 0 15 (there_of srs) authority (omega arith) most)
    (read_then _ (srs_texts_written total srs.authority _ horizontal (ap (λ (n : ℕ). n == 1) bits.0) are.authority_is)
    (read_then _ (srs_texts_written total srs.horizontal _ vertical (ap (λ (n : ℕ). n == 1) bits.1) are.horizontal_is)
    (read_then _ (srs_texts_written total srs.vertical _ wkt (ap (λ (n : ℕ). n == 1) bits.2) are.vertical_is)
    (read_then _ (srs_texts_written total srs.wkt _ rest (ap (λ (n : ℕ). n == 1) bits.3) are.wkt_is) refl)))))
