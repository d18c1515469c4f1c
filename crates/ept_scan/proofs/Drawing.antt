-- A record that the second reading draws.
use Rattle.std.proofs.Common.{◌≡◌, ◌≢◌, ◌⊎◌, ⊎_elim, inl, inr, ℕ, ◌+◌, ◌*◌, ◌-◌, max, ◌<◌, ◌≤◌, List, Option, Some, None, length, drop, refl, sym, ◌∙◌, ap, subst, arith, length-append, length-drop}
use Rattle.std.proofs.lemmas.Bool.{cases_lt}
use Rattle.std.proofs.lemmas.List.{drop-drop}
use Rattle.std.proofs.Math.Nat.{mul-le-mul_left}
use Rattle.std.specs.Io.KnownBytes.{prepend_known, Keeps}
use Rattle.ept_base.specs.Files.{Tells}
use Rattle.ept_point.specs.declared.point.Point.{Point}
use Rattle.ept_las.specs.declared.header.Header.{Header}
use Rattle.ept_las.specs.declared.header.TheConstants.{HEAD_LENGTH}
use Rattle.ept_las.specs.Format.{IsFormat, record_length}
use Rattle.ept_las.proofs.Formats.{least_length}
use Rattle.ept_scan.specs.declared.reading.Reading.{Reading}
use Rattle.ept_config.specs.Counts.{most_points}
use Rattle.ept_scan.specs.declared.scan_error.ScanError.{ScanError}
use Rattle.ept_scan.specs.declared.scan_error.ScanError.TheVariants as scan
use Rattle.ept_scan.specs.declared.record.Found.{Found}
use Rattle.ept_scan.specs.declared.record.Found.TheVariants as found
use Rattle.ept_scan.specs.Extents.{IsAllowed}
use Rattle.ept_scan.specs.LasFile.{HasHeader, records_of}
use Rattle.ept_scan.specs.Records.{ReadsNext}
use Rattle.ept_scan.specs.Refusals.{HeaderIsRefused}
use Rattle.ept_scan.specs.Reach.{HasLeftOf, Skips, ReadsNoFurther, end_of}
use Rattle.ept_scan.specs.Changes.{HeaderDiffers, RecordDiffers, IsChange, HasRecord, change_of}
use Rattle.ept_scan.specs.Places.{IsWithinFile}
use Rattle.ept_scan.proofs.SoFar.{IsAtRecord, point_is, outside_is, early_is}
use Rattle.ept_scan.proofs.Reaching.{split_product}

-- a refused header is reported as a fault of the source, or as a change
pub header_changed : (reading : Reading) (points next : ℕ) (whole left : Option (List ℕ)) (e : ScanError) → left ≡ whole → points ≤ most_points → e ≢ scan.Memory → Tells (λ file. HeaderIsRefused reading file e) left → IsChange reading points next whole (change_of e reading.origin)
header_changed reading points next whole left scan.SourceFault start few enough refused = tt
header_changed reading points next whole left scan.Memory start few enough refused = absurd (enough refl)
header_changed reading points next whole left scan.NoBounds start few enough refused = (refl, inl (refl, subst (Tells (HeaderDiffers reading points)) start (told left refused)))
  where
    told : (left : Option (List ℕ)) → Tells (λ file. HeaderIsRefused reading file scan.NoBounds) left → Tells (HeaderDiffers reading points) left
    told None refused = tt
    told (Some file) refused = absurd refused
header_changed reading points next whole left (scan.OutOfBounds source number) start few enough refused = (refl, inl (refl, subst (Tells (HeaderDiffers reading points)) start (told left refused)))
  where
    told : (left : Option (List ℕ)) → Tells (λ file. HeaderIsRefused reading file (scan.OutOfBounds source number)) left → Tells (HeaderDiffers reading points) left
    told None refused = tt
    told (Some file) refused = absurd refused
header_changed reading points next whole left (scan.BadLas source fault) start few enough refused = (refl, inl (refl, subst (Tells (HeaderDiffers reading points)) start (told left refused)))
  where
    told : (left : Option (List ℕ)) → Tells (λ file. HeaderIsRefused reading file (scan.BadLas source fault)) left → Tells (HeaderDiffers reading points) left
    told None refused = tt
    told (Some file) refused = inl (fault, refused.1)
header_changed reading points next whole left (scan.TooManyPoints source) start few enough refused = (refl, inl (refl, subst (Tells (HeaderDiffers reading points)) start (told left refused)))
  where
    told : (left : Option (List ℕ)) → Tells (λ file. HeaderIsRefused reading file (scan.TooManyPoints source)) left → Tells (HeaderDiffers reading points) left
    told None refused = tt
    told (Some file) refused = inr (refused.1.0, refused.1.1, λ same. omega (arith, same, few, refused.1.2))

pub count_changed : (reading : Reading) (points : ℕ) (whole left : Option (List ℕ)) (header : Header) → left ≡ whole → header.points ≢ points → Tells (λ file. HasHeader reading file header) left → Tells (HeaderDiffers reading points) whole
count_changed reading points whole left header start other has = subst (Tells (HeaderDiffers reading points)) start (told left has)
  where
    told : (left : Option (List ℕ)) → Tells (λ file. HasHeader reading file header) left → Tells (HeaderDiffers reading points) left
    told None has = tt
    told (Some file) has = inr (header, has, other)

-- the first bytes were read, and then some were passed over
pub skipped : (whole left front at : Option (List ℕ)) (n : ℕ) → left ≡ whole → Keeps left front → Skips front at n → Skips whole at n
skipped whole left front at n start keeps skips = subst (λ (o : Option (List ℕ)). Skips o at n) start (told left front at keeps skips)
  where
    told : (left front at : Option (List ℕ)) → Keeps left front → Skips front at n → Skips left at n
    told None front at keeps skips = tt
    told (Some file) None at keeps skips = absurd keeps
    told (Some file) (Some front) None keeps skips = absurd skips
    told (Some file) (Some front) (Some at) keeps skips = skips ∙ ap (λ (l : List ℕ). drop n l) keeps

part_of : (size n points : ℕ) → n ≤ points → size * n ≤ size * points
part_of size n points within = mul-le-mul_left size within

pub start_reach : (header : Header) (n held before k : ℕ) → n < header.points → k ≡ header.offset + header.length * n → before ≤ HEAD_LENGTH → held ≤ before - k → held + (header.offset + header.length * n) ≤ max HEAD_LENGTH (end_of header)
start_reach header n held before k within is short skipped =
    let less : header.length * n ≤ header.length * header.points = part_of header.length n header.points (omega (arith, within)) in
    omega (arith, is, short, skipped, less)

-- no byte was read past the last record
pub far_start : (reading : Reading) (header : Header) (n k : ℕ) (whole left mid exit : Option (List ℕ)) (held : List ℕ) → n < header.points → k ≡ header.offset + header.length * n → left ≡ whole → Tells (λ file. HasHeader reading file header) left → Keeps left (prepend_known held mid)
    → length held ≤ HEAD_LENGTH → HasLeftOf mid exit (k - length held) → ReadsNoFurther reading whole exit
far_start reading header n k whole left mid exit held within is start has keeps short read = subst (λ (o : Option (List ℕ)). ReadsNoFurther reading o exit) start (told left mid exit has keeps read)
  where
    told : (left mid exit : Option (List ℕ)) → Tells (λ file. HasHeader reading file header) left → Keeps left (prepend_known held mid) → HasLeftOf mid exit (k - length held) → ReadsNoFurther reading left exit
    told None mid exit has keeps read = tt
    told (Some file) mid None has keeps read = tt
    told (Some file) None (Some exit) has keeps read = absurd keeps
    told (Some file) (Some mid) (Some exit) has keeps read =
        let sizes : length held + length mid ≡ length file = sym (length-append held mid) ∙ ap length keeps in
        let less : header.length * n ≤ header.length * header.points = part_of header.length n header.points (omega (arith, within)) in
        ⊎_elim (λ (lower : length held < k). inr (header, has, omega (arith, within), omega (arith, sizes, lower, read, less, is))) (λ (more : k ≤ length held). inl (omega (arith, sizes, more, read, short))) (cases_lt (length held) k)

pub far_within : (reading : Reading) (points : ℕ) (whole mid exit : Option (List ℕ)) (held : List ℕ) (n : ℕ) (header : Header) → IsWithinFile reading points whole mid held n header → n < header.points → HasLeftOf mid exit (header.length * (header.points - n) - length held)
    → ReadsNoFurther reading whole exit
far_within reading points None mid exit held n header at within read = tt
far_within reading points (Some file) mid None held n header at within read = tt
far_within reading points (Some file) None (Some exit) held n header at within read = absurd at.place
far_within reading points (Some file) (Some mid) (Some exit) held n header at within read =
    let sizes : length held + length mid ≡ length file - (header.offset + header.length * n) = sym (length-append held mid) ∙ ap length at.place ∙ length-drop (header.offset + header.length * n) file in
    let split : header.length * (header.points - n) + header.length * n ≡ header.length * header.points = split_product header.length n header.points (omega (arith, within)) in
    ⊎_elim (λ (near : length held + (header.offset + header.length * n) ≤ HEAD_LENGTH). near_or_far near sizes split)
    (λ (far : HEAD_LENGTH < length held + (header.offset + header.length * n)). inr (header, at.has_header, omega (arith, within), omega (arith, sizes, split, far, at.reach, read))) (swap (cases_lt HEAD_LENGTH (length held + (header.offset + header.length * n))))
  where
    swap : {A B : Type 0} → (A ⊎ B) → (B ⊎ A)
    swap (inl a) = inr a
    swap (inr b) = inl b

    near_or_far : length held + (header.offset + header.length * n) ≤ HEAD_LENGTH → length held + length mid ≡ length file - (header.offset + header.length * n) → header.length * (header.points - n) + header.length * n ≡ header.length * header.points → ReadsNoFurther reading (Some file) (Some exit)
    near_or_far near sizes split =
        ⊎_elim (λ (some : length held < header.length * (header.points - n)). inr (header, at.has_header, omega (arith, within), omega (arith, sizes, split, some, read))) (λ (none : header.length * (header.points - n) ≤ length held). inl (omega (arith, sizes, none, near, read))) (cases_lt (length held) (header.length * (header.points - n)))

-- the records are what is ahead of the first one
module _ (reading : Reading) (points : ℕ) (held after : List ℕ) (mid new : Option (List ℕ)) (n : ℕ) (header : Header) where
  some_bytes : IsFormat header.format → record_length header.format ≤ header.length → 0 < header.length
  some_bytes format size = omega (arith, least_length header.format, size)

  at_record : (file : List ℕ) → Skips (Some file) (prepend_known held mid) (header.offset + header.length * n) → IsAtRecord header (Some (records_of header file)) (prepend_known held mid) n
  at_record file skips = record { ahead = known (prepend_known held mid) skips }
    where
      known : (now : Option (List ℕ)) → Skips (Some file) now (header.offset + header.length * n) → now ≡ Some (drop (header.length * n) (records_of header file))
      known None skips = absurd skips
      known (Some now) skips = ap (λ (l : List ℕ). Some l) (skips ∙ sym (drop-drop (header.length * n) header.offset file))

  pub drawn_is : (whole : Option (List ℕ)) (p : Point) → IsWithinFile reading points whole mid held n header → ReadsNext reading header n (prepend_known held mid) (prepend_known after new) (found.At p) → IsAllowed reading.limits p
      → Tells (λ file. HasRecord reading points file n p) whole
  drawn_is None p at next allowed = tt
  drawn_is (Some file) p at next allowed = (
    header,
    record { has_header = at.has_header; stated = at.stated },
    point_is reading header (some_bytes at.format at.size) (Some (records_of header file)) (prepend_known held mid) (prepend_known after new) n p (at_record file at.place) next allowed,
  )

  next_skip : (whole now after : Option (List ℕ)) (p : Point) → Skips whole now (header.offset + header.length * n) → ReadsNext reading header n now after (found.At p) → Skips whole after (header.offset + header.length * (n + 1))
  next_skip None now after p skips next = tt
  next_skip (Some file) None after p skips next = absurd skips
  next_skip (Some file) (Some now) after p skips next =
      let sum : header.offset + header.length * n + header.length ≡ header.offset + header.length * (n + 1) = omega arith in
      subst (λ (o : Option (List ℕ)). Skips (Some file) o (header.offset + header.length * (n + 1))) (sym next.rest)
      (ap (λ (l : List ℕ). drop header.length l) skips ∙ drop-drop header.length (header.offset + header.length * n) file ∙ ap (λ (i : ℕ). drop i file) sum)

  pub within_next : (whole : Option (List ℕ)) (p : Point) → n < header.points → IsWithinFile reading points whole mid held n header → ReadsNext reading header n (prepend_known held mid) (prepend_known after new) (found.At p)
      → length after + header.length ≤ max (length held) (header.length * (header.points - n)) → IsWithinFile reading points whole new after (n + 1) header
  within_next whole p within at next reach = record {
    format = at.format;
    size = at.size;
    stated = at.stated;
    has_header = at.has_header;
    place = next_skip whole (prepend_known held mid) (prepend_known after new) p at.place next;
    reach = further;
  }
    where
      further : length after + (header.offset + header.length * (n + 1)) ≤ max HEAD_LENGTH (end_of header)
      further =
          let split : header.length * (header.points - n) + header.length * n ≡ header.length * header.points = split_product header.length n header.points (omega (arith, within)) in
          omega (arith, at.reach, split, reach)

  pub record_changed : (whole : Option (List ℕ)) (it : Found Point) → n < points → ((p : Point) → it ≢ found.At p) → IsWithinFile reading points whole mid held n header → ReadsNext reading header n (prepend_known held mid) (prepend_known after new) it
      → Tells (λ file. RecordDiffers reading points file n) whole
  record_changed None it stated other at next = tt
  record_changed (Some file) (found.At p) stated other at next = absurd (other p refl)
  record_changed (Some file) found.Outside stated other at next =
      (stated, header, record { has_header = at.has_header; stated = at.stated }, inr (outside_is reading header (some_bytes at.format at.size) (Some (records_of header file)) (prepend_known held mid) (prepend_known after new) n (at_record file at.place) next))
  record_changed (Some file) found.Early stated other at next =
      (stated, header, record { has_header = at.has_header; stated = at.stated }, inl (early_is reading header (Some (records_of header file)) (prepend_known held mid) (prepend_known after new) n (at_record file at.place) next))
