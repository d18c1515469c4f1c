-- The value of a build file is read as the configuration that it was made of.
use Rattle.std.proofs.Common.{◌≡◌, ℕ, zero, suc, ◌^◌, ◌≤◌, ℤ, pos, negsuc, Bool, true, false, List, [], ◌∷◌, ◌++◌, codes, length, map, Option, Some, None, Ok, refl, ap, arith, le-leb}
use Rattle.std.specs.Prelude.{◌≤ℤ◌, int_le, FitsSigned}
use Rattle.std.specs.Option.{ForSome}
use Rattle.std.specs.Int.{w32}
use Rattle.std.specs.List.{list_all, All}
use Rattle.std.proofs.lemmas.Int.{ints}
use Rattle.std.proofs.lemmas.List.Elements.{All-head, All-tail}
use Rattle.std.proofs.Math.Pow.{pow_mono}
use Rattle.hex.specs.Hex.{encode_lower}
use Rattle.hex.proofs.HexLemmas.{decode_sized-encode_lower}
use Rattle.serde_json.specs.Data.{number, string, array, object, no_items, member}
use Rattle.serde_json.specs.Find.{of_integer}
use Rattle.ept_space.specs.declared.bounds.Bounds.{Bounds}
use Rattle.ept_config.specs.declared.input.Input.{Input}
use Rattle.ept_config.specs.declared.srs.Srs.{Srs}
use Rattle.ept_config.specs.declared.kept.Kept.{Kept}
use Rattle.ept_config_text.specs.declared.config_key.ConfigKey.{ConfigKey}
use Rattle.ept_config_text.specs.declared.config_key.ConfigKey.TheVariants as key
use Rattle.ept_config.specs.Facts.{Facts, SrsFacts, input_facts, srs_facts}
use Rattle.ept_config.specs.InputRanges.{AreThreeWithin, AreBytes}
use Rattle.ept_config.specs.Ranges.{AreCoordinates, BoundsInRange}
use Rattle.ept_config.specs.Texts.{is_srs_text}
use Rattle.ept_config_text.specs.Json.{whole, wholes, array_items, has_only, list_of}
use Rattle.ept_config_text.specs.Numbers.{natural_within, exponent_of, span_exponent, all_within, coordinate_of, place_of, is_ordered, bounds_between, bounds_within}
use Rattle.ept_config_text.specs.Inputs.{expected_bytes, expect_of, path_member, scale_member, shift_member, expect_member, input_members, input_object, raw_input, input_scale, input_shift, input_within, input_items, is_input}
use Rattle.ept_config_text.specs.SrsTexts.{srs_member, srs_members, raw_srs, fits_srs}
use Rattle.ept_config_text.specs.Values.{natural, natural_at, span, span_at, offset, offset_at, bounds, bounds_at, srs_text, srs_texts, srs, srs_at, first_classes_at, withheld_last_at, input, each_input, list_inputs, inputs}
use Rattle.ept_config_text.specs.Classes.{is_listed}
use Rattle.ept_config_text.specs.Configuration.{work_at, values, settings, object_reading, value_reading}
use Rattle.ept_meta.specs.SrsObject.{given, members}
use Rattle.ept_meta.specs.BuildText.{build_text}
use Rattle.ept_meta.specs.Classes.{members_of}
use Rattle.ept_meta.specs.BuildReading.{build_facts, within, told}
use Rattle.ept_meta.proofs.ClassMembers.{AreClasses, members_read, listed_members, first_read}
use Rattle.ept_meta.proofs.JsonTexts.{ordered, items_ordered}
use Rattle.ept_meta.proofs.BuildData.{numbers, natural_value, wholes_value, bounds_value, texts_value, srs_value, expect_value, input_value, inputs_value, build_value_with, digits_are, span_most, build_document}

-- ---- numbers

whole_read : (z : ℤ) → whole (number (of_integer z)) ≡ Some z
unfolding whole
whole_read (pos n) = refl
whole_read (negsuc n) = refl

within_read : (least most n : ℕ) → least ≤ n → n ≤ most → natural_within least most (pos n) ≡ Some n
unfolding natural_within
within_read least most n low high = rw (le-leb least n low, le-leb n most high) refl

natural_read : (key : ConfigKey) (least most n : ℕ) → least ≤ n → n ≤ most → natural key least most (natural_value n) ≡ Ok n
unfolding natural whole
natural_read key least most n low high = rw (within_read least most n low high) refl

exponent_read : (s : ℕ) → 1 ≤ s → s ≤ 10 → exponent_of (2 ^ s) ≡ Some s
unfolding exponent_of
exponent_read zero low high = absurd (omega arith)
exponent_read (suc zero) low high = refl
exponent_read (suc (suc zero)) low high = refl
exponent_read (suc (suc (suc zero))) low high = refl
exponent_read (suc (suc (suc (suc zero)))) low high = refl
exponent_read (suc (suc (suc (suc (suc zero))))) low high = refl
exponent_read (suc (suc (suc (suc (suc (suc zero)))))) low high = refl
exponent_read (suc (suc (suc (suc (suc (suc (suc zero))))))) low high = refl
exponent_read (suc (suc (suc (suc (suc (suc (suc (suc zero)))))))) low high = refl
exponent_read (suc (suc (suc (suc (suc (suc (suc (suc (suc zero))))))))) low high = refl
exponent_read (suc (suc (suc (suc (suc (suc (suc (suc (suc (suc zero)))))))))) low high = refl
exponent_read (suc (suc (suc (suc (suc (suc (suc (suc (suc (suc (suc n))))))))))) low high = absurd (omega arith)

span_least : (s : ℕ) → 1 ≤ s → 2 ≤ 2 ^ s
span_least s low = let more : 2 ^ 1 ≤ 2 ^ s = pow_mono low in omega (arith, more)

span_read : (s : ℕ) → 1 ≤ s → s ≤ 10 → span (natural_value (2 ^ s)) ≡ Ok s
unfolding span whole span_exponent
span_read s low high =
    rw (within_read 2 1024 (2 ^ s) (span_least s low) (span_most s high), exponent_read s low high) refl

three_read : (zs : List ℤ) → length zs ≡ 3 → wholes 3 (ordered (wholes_value zs)) ≡ Some zs
unfolding wholes array_items
three_read (x ∷ y ∷ z ∷ []) three = rw (whole_read x, whole_read y, whole_read z) refl
three_read [] three = absurd (omega (arith, three))
three_read (x ∷ []) three = absurd (omega (arith, three))
three_read (x ∷ y ∷ []) three = absurd (omega (arith, three))
three_read (x ∷ y ∷ z ∷ a ∷ zs) three = absurd (omega (arith, three))

three_within : (most : ℕ) (zs : List ℤ) → AreThreeWithin most zs → all_within most zs ≡ Some zs
unfolding all_within
three_within most (x ∷ y ∷ z ∷ []) are = rw (le-leb _ most are.x, le-leb _ most are.y, le-leb _ most are.z) refl
three_within most [] are = absurd (omega (arith, are.three))
three_within most (x ∷ []) are = absurd (omega (arith, are.three))
three_within most (x ∷ y ∷ []) are = absurd (omega (arith, are.three))
three_within most (x ∷ y ∷ z ∷ a ∷ zs) are = absurd (omega (arith, are.three))

offset_read : (zs : List ℤ) → AreThreeWithin (10 ^ 9) zs → offset (ordered (wholes_value zs)) ≡ Ok zs
unfolding offset
offset_read zs are = rw (three_read zs are.three, three_within (10 ^ 9) zs are) refl

-- ---- bounds

int_le-true : (a b : ℤ) → a ≤ℤ b → int_le a b ≡ true
int_le-true a b h = grind (arith, ints)

coordinate_fits : (z : ℤ) → FitsSigned w32 z → coordinate_of z ≡ Some z
unfolding coordinate_of
coordinate_fits z fits = rw (int_le-true (negsuc 2147483647) z (omega (arith, ints, fits)), int_le-true z (pos 2147483647) (omega (arith, ints, fits))) refl

between_read : (box : Bounds) → BoundsInRange box → bounds_between box.min box.max ≡ Some box
unfolding bounds_between is_ordered
between_read box are =
    rw (int_le-true _ _ are.ordered.x_ordered, int_le-true _ _ are.ordered.y_ordered, int_le-true _ _ are.ordered.z_ordered) refl

place_read : (zs : List ℤ) → AreCoordinates zs → place_of zs ≡ Some zs
unfolding place_of
place_read (x ∷ y ∷ z ∷ []) are = rw (coordinate_fits x are.x, coordinate_fits y are.y, coordinate_fits z are.z) refl
place_read [] are = absurd (omega (arith, are.three))
place_read (x ∷ []) are = absurd (omega (arith, are.three))
place_read (x ∷ y ∷ []) are = absurd (omega (arith, are.three))
place_read (x ∷ y ∷ z ∷ a ∷ zs) are = absurd (omega (arith, are.three))

six_read : (low high : List ℤ) → length low ≡ 3 → length high ≡ 3 → wholes 6 (ordered (array (numbers low (numbers high no_items)))) ≡ Some (low ++ high)
unfolding wholes array_items
six_read (a ∷ b ∷ c ∷ []) (x ∷ y ∷ z ∷ []) three_low three_high =
    rw (whole_read a, whole_read b, whole_read c, whole_read x, whole_read y, whole_read z) refl
six_read [] high three_low three_high = absurd (omega (arith, three_low))
six_read (a ∷ []) high three_low three_high = absurd (omega (arith, three_low))
six_read (a ∷ b ∷ []) high three_low three_high = absurd (omega (arith, three_low))
six_read (a ∷ b ∷ c ∷ d ∷ low) high three_low three_high = absurd (omega (arith, three_low))
six_read (a ∷ b ∷ c ∷ []) [] three_low three_high = absurd (omega (arith, three_high))
six_read (a ∷ b ∷ c ∷ []) (x ∷ []) three_low three_high = absurd (omega (arith, three_high))
six_read (a ∷ b ∷ c ∷ []) (x ∷ y ∷ []) three_low three_high = absurd (omega (arith, three_high))
six_read (a ∷ b ∷ c ∷ []) (x ∷ y ∷ z ∷ w ∷ high) three_low three_high = absurd (omega (arith, three_high))

split_read : (low high : List ℤ) (box : Bounds) → AreCoordinates low → AreCoordinates high → bounds_between low high ≡ Some box → bounds_within (low ++ high) ≡ Some box
unfolding bounds_within
split_read (a ∷ b ∷ c ∷ []) high box are_low are_high between =
    rw (place_read (a ∷ b ∷ c ∷ []) are_low, place_read high are_high) between
split_read [] high box are_low are_high between = absurd (omega (arith, are_low.three))
split_read (a ∷ []) high box are_low are_high between = absurd (omega (arith, are_low.three))
split_read (a ∷ b ∷ []) high box are_low are_high between = absurd (omega (arith, are_low.three))
split_read (a ∷ b ∷ c ∷ d ∷ low) high box are_low are_high between = absurd (omega (arith, are_low.three))

bounds_read : (box : Bounds) → BoundsInRange box → bounds (ordered (bounds_value box)) ≡ Ok (Some box)
unfolding bounds
bounds_read box are =
    rw (six_read box.min box.max are.min_is.three are.max_is.three, split_read box.min box.max box are.min_is are.max_is (between_read box are)) refl

-- ---- the spatial reference

abbrev all_texts : Option (List ℕ) → Option (List ℕ) → Option (List ℕ) → Option (List ℕ) → SrsFacts
all_texts a h v w = record { authority = a; horizontal = h; vertical = v; wkt = w }

raw_read : (a h v w : Option (List ℕ)) → raw_srs (ordered (object (texts_value (given (codes "authority") a ++ given (codes "horizontal") h ++ given (codes "vertical") v ++ given (codes "wkt") w)))) ≡ Some (all_texts a h v w)
unfolding raw_srs srs_members srs_member has_only
raw_read None None None None = refl
raw_read None None None (Some w) = refl
raw_read None None (Some v) None = refl
raw_read None None (Some v) (Some w) = refl
raw_read None (Some h) None None = refl
raw_read None (Some h) None (Some w) = refl
raw_read None (Some h) (Some v) None = refl
raw_read None (Some h) (Some v) (Some w) = refl
raw_read (Some a) None None None = refl
raw_read (Some a) None None (Some w) = refl
raw_read (Some a) None (Some v) None = refl
raw_read (Some a) None (Some v) (Some w) = refl
raw_read (Some a) (Some h) None None = refl
raw_read (Some a) (Some h) None (Some w) = refl
raw_read (Some a) (Some h) (Some v) None = refl
raw_read (Some a) (Some h) (Some v) (Some w) = refl

text_fits : (text : Option (List ℕ)) → ForSome text (λ t. is_srs_text t ≡ true) → srs_text text ≡ Ok text
unfolding srs_text fits_srs
text_fits None is = refl
text_fits (Some t) is = rw (is t refl) refl

srs_read : (s : Srs) → srs (ordered (srs_value s)) ≡ Ok (srs_facts s)
unfolding srs srs_texts members
srs_read s =
    rw (raw_read s.authority s.horizontal s.vertical s.wkt, text_fits s.authority s.in_range.authority_is, text_fits s.horizontal s.in_range.horizontal_is, text_fits s.vertical s.in_range.vertical_is, text_fits s.wkt s.in_range.wkt_is) refl

-- ---- the inputs

bytes_read : (bytes : List ℕ) → AreBytes 48 bytes → expected_bytes (encode_lower bytes) ≡ Some bytes
unfolding expected_bytes
bytes_read bytes are =
    rw ((digits_are bytes are.fit).0, decode_sized-encode_lower bytes 48 are.width_is are.fit) refl

raw_of : (path : List ℕ) (scale : ℕ) (shift : List ℤ) (expect : Option (List ℕ)) → length shift ≡ 3 → ForSome expect (AreBytes 48) → raw_input (ordered (object (member (codes "path") (string path) (member (codes "scale") (natural_value scale) (member (codes "shift") (wholes_value shift) (expect_value expect)))))) ≡ Some (record { path = path; scale = Some (pos scale); shift = Some shift; expect = expect })
unfolding raw_input input_object input_members path_member scale_member shift_member expect_member expect_of has_only whole
raw_of path scale shift None three are = rw (three_read shift three) refl
raw_of path scale shift (Some bytes) three are = rw (three_read shift three, bytes_read bytes (are bytes refl)) refl

raw_input_read : (i : Input) → raw_input (ordered (input_value i)) ≡ Some (record { path = i.path; scale = Some (pos i.scale); shift = Some i.shift; expect = i.expect })
raw_input_read i = raw_of i.path i.scale i.shift i.expect i.in_range.shift_within.three i.in_range.expect_is

input_read : (scale : ℕ) (i : Input) → i.scale ≤ scale → input scale (ordered (input_value i)) ≡ Ok (input_facts i)
unfolding input input_within input_scale input_shift
input_read scale i low =
    rw (raw_input_read i, i.in_range.path_is, within_read 0 scale i.scale (omega arith) low, three_within (10 ^ 15) i.shift i.in_range.shift_within) refl

are_inputs : (is : List Input) → list_all is_input (list_of (items_ordered (inputs_value is))) ≡ true
are_inputs [] = refl
are_inputs (i ∷ is) = rw (raw_input_read i) (are_inputs is)

as_many : (is : List Input) → length (list_of (items_ordered (inputs_value is))) ≡ length is
as_many [] = refl
as_many (i ∷ is) = ap (λ (n : ℕ). suc n) (as_many is)

each_read : (scale : ℕ) (is : List Input) → All (λ (i : Input). i.scale ≤ scale) is → each_input scale (list_of (items_ordered (inputs_value is))) ≡ Ok (map input_facts is)
each_read scale [] low = refl
each_read scale (i ∷ is) low =
    rw (input_read scale i (All-head (λ (x : Input). x.scale ≤ scale) i is low), each_read scale is (All-tail (λ (x : Input). x.scale ≤ scale) i is low)) refl

inputs_read : (k : Kept) → inputs k.scale (ordered (array (inputs_value k.inputs))) ≡ Ok (map input_facts k.inputs)
unfolding inputs input_items array_items list_inputs
inputs_read k =
    rw (are_inputs k.inputs, as_many k.inputs, le-leb 1 (length k.inputs) k.layout.inputs_some, le-leb (length k.inputs) 65535 k.layout.inputs_most, each_read k.scale k.inputs k.layout.inputs_scale) refl

-- ---- the whole value

abbrev told_facts : Kept → (ℕ → Bool) → Bool → Facts
told_facts k first last = record {
  scale = k.scale;
  offset = k.offset;
  bounds = Some k.bounds;
  s = k.s;
  threshold = k.threshold;
  max_depth = k.max_depth;
  step = k.step;
  srs = srs_facts k.srs;
  first = first;
  withheld_last = last;
  inputs = map input_facts k.inputs;
  threads = 4;
  cache = 64;
  max_nodes = 65536;
  checkpoint = 10000000;
}

value_read : (k : Kept) (classes : List ℕ) (last : Bool) → AreClasses classes → value_reading (ordered (build_value_with k classes last)) ≡ Ok (told_facts k (is_listed classes) last)
unfolding value_reading object_reading settings values has_only natural_at span_at offset_at bounds_at srs_at first_classes_at withheld_last_at work_at
value_read k [] true are =
    let is = k.layout in
    rw (
      natural_read key.Scale 0 9 k.scale (omega arith) is.scale_most,
      inputs_read k,
      offset_read k.offset is.offset_within,
      bounds_read k.bounds k.has_bounds,
      span_read k.s is.span_least is.span_most,
      natural_read key.MinNodeSize 0 (2 ^ 31) k.threshold (omega arith) is.threshold_most,
      natural_read key.MaxDepth 0 32 k.max_depth (omega arith) is.depth_most,
      natural_read key.HierarchyStep 0 32 k.step (omega arith) is.step_most,
      srs_read k.srs,
    )
    refl
value_read k [] false are =
    let is = k.layout in
    rw (
      natural_read key.Scale 0 9 k.scale (omega arith) is.scale_most,
      inputs_read k,
      offset_read k.offset is.offset_within,
      bounds_read k.bounds k.has_bounds,
      span_read k.s is.span_least is.span_most,
      natural_read key.MinNodeSize 0 (2 ^ 31) k.threshold (omega arith) is.threshold_most,
      natural_read key.MaxDepth 0 32 k.max_depth (omega arith) is.depth_most,
      natural_read key.HierarchyStep 0 32 k.step (omega arith) is.step_most,
      srs_read k.srs,
    )
    refl
value_read k (n ∷ ns) true are =
    let is = k.layout in
    rw (
      natural_read key.Scale 0 9 k.scale (omega arith) is.scale_most,
      inputs_read k,
      offset_read k.offset is.offset_within,
      bounds_read k.bounds k.has_bounds,
      span_read k.s is.span_least is.span_most,
      natural_read key.MinNodeSize 0 (2 ^ 31) k.threshold (omega arith) is.threshold_most,
      natural_read key.MaxDepth 0 32 k.max_depth (omega arith) is.depth_most,
      natural_read key.HierarchyStep 0 32 k.step (omega arith) is.step_most,
      srs_read k.srs,
      first_read (n ∷ ns) are,
    )
    refl
value_read k (n ∷ ns) false are =
    let is = k.layout in
    rw (
      natural_read key.Scale 0 9 k.scale (omega arith) is.scale_most,
      inputs_read k,
      offset_read k.offset is.offset_within,
      bounds_read k.bounds k.has_bounds,
      span_read k.s is.span_least is.span_most,
      natural_read key.MinNodeSize 0 (2 ^ 31) k.threshold (omega arith) is.threshold_most,
      natural_read key.MaxDepth 0 32 k.max_depth (omega arith) is.depth_most,
      natural_read key.HierarchyStep 0 32 k.step (omega arith) is.step_most,
      srs_read k.srs,
      first_read (n ∷ ns) are,
    )
    refl

pub build_told : (k : Kept) → told (build_text k) ≡ Some (build_facts k)
unfolding told
build_told k =
    rw (build_document k, value_read k (members_of k.first) k.withheld_last (members_read k.first))
    (λ i. Some (within (told_facts k (λ class. listed_members k.first class i) k.withheld_last) k.bounds))
