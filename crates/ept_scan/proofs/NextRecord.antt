-- A record that was read is the next one of the bytes ahead.
use Rattle.std.proofs.Common.{◌≡◌, ℕ, ◌≤◌, List, ◌++◌, Option, Some, None, length, take, drop, sym, ◌∙◌, ap, subst, arith, length-append}
use Rattle.std.proofs.lemmas.List.{take-append-le, drop-append-le}
use Rattle.std.specs.Io.KnownBytes.{prepend_known, Keeps}
use Rattle.ept_las.specs.declared.header.Header.{Header}
use Rattle.ept_las.specs.declared.place.Place.{Place}
use Rattle.ept_scan.specs.declared.reading.Reading.{Reading}
use Rattle.ept_point.specs.declared.point.Point.{Point}
use Rattle.ept_scan.specs.declared.record.Found.{Found}
use Rattle.ept_scan.specs.declared.record.Found.TheVariants as found
use Rattle.ept_scan.specs.Records.{BytesAre, Takes, ReadsNext, PlaceIs, FindsPlace}

module _ (reading : Reading) (header : Header) (n : ℕ) (held : List ℕ) (fits : header.length ≤ length held) (it : Found Point) (are : BytesAre reading header.format n (take header.length held) it) where
  takes : (ahead rest : List ℕ) → held ++ rest ≡ ahead → Takes reading header n ahead (Some (drop header.length held ++ rest)) it
  takes ahead rest is = record {
    whole = omega (arith, fits, ap length is, length-append held rest);
    rest = ap (λ (l : List ℕ). Some l) (sym (drop-append-le header.length held rest fits) ∙ ap (λ (l : List ℕ). drop header.length l) is);
    bytes = subst (λ (l : List ℕ). BytesAre reading header.format n l it) (sym (take-append-le header.length held rest fits) ∙ ap (λ (l : List ℕ). take header.length l) is) are;
  }

module _ (reading : Reading) (header : Header) (n : ℕ) (held : List ℕ) (fits : header.length ≤ length held) where
  reads_known : (it : Found Point) (ahead rest : List ℕ) → BytesAre reading header.format n (take header.length held) it → held ++ rest ≡ ahead → ReadsNext reading header n (Some ahead) (Some (drop header.length held ++ rest)) it
  reads_known (found.At p) ahead rest are is = takes reading header n held fits (found.At p) are ahead rest is
  reads_known found.Outside ahead rest are is = takes reading header n held fits found.Outside are ahead rest is
  reads_known found.Early ahead rest are is = absurd are

  pub reads_next : (it : Found Point) (before : List ℕ) (old new : Option (List ℕ)) → BytesAre reading header.format n (take header.length held) it → Keeps (prepend_known before old) (prepend_known held new)
      → ReadsNext reading header n (prepend_known before old) (prepend_known (drop header.length held) new) it
  reads_next it before None new are keeps = tt
  reads_next it before (Some old) None are keeps = absurd keeps
  reads_next it before (Some old) (Some rest) are keeps = reads_known it (before ++ old) rest are keeps

-- the same for the numbers and the lists of the code
pub read_is : (reading : Reading) (header : Header) (n : ℕ) (it : Found Point) (before held bytes after : List ℕ) (size : ℕ) (old new : Option (List ℕ)) → size ≡ header.length → size ≤ length held → bytes ≡ held → after ≡ drop size held
    → BytesAre reading header.format n (take size bytes) it → Keeps (prepend_known before old) (prepend_known held new) → ReadsNext reading header n (prepend_known before old) (prepend_known after new) it
read_is reading header n it before held bytes after size old new size_is fits bytes_are after_is are keeps =
    let here : BytesAre reading header.format n (take header.length held) it = subst (λ (k : ℕ). BytesAre reading header.format n (take k held) it) size_is (subst (λ (l : List ℕ). BytesAre reading header.format n (take size l) it) bytes_are are) in
    subst (λ (l : List ℕ). ReadsNext reading header n (prepend_known before old) (prepend_known l new) it) (sym (after_is ∙ ap (λ (k : ℕ). drop k held) size_is))
    (reads_next reading header n held (subst (λ (k : ℕ). k ≤ length held) size_is fits) it before old new here keeps)

-- and for its place only
pub place_is : (reading : Reading) (header : Header) (n : ℕ) (it : Found Place) (before held bytes after : List ℕ) (size : ℕ) (old new : Option (List ℕ)) → size ≡ header.length → size ≤ length held → bytes ≡ held → after ≡ drop size held
    → PlaceIs reading header.format n (take size bytes) it → Keeps (prepend_known before old) (prepend_known held new) → FindsPlace reading header n (prepend_known before old) (prepend_known after new) it
place_is reading header n (found.At place) before held bytes after size old new size_is fits bytes_are after_is are keeps =
    (are.0, are.1, are.2, read_is reading header n (found.At are.0) before held bytes after size old new size_is fits bytes_are after_is are.3 keeps)
place_is reading header n found.Outside before held bytes after size old new size_is fits bytes_are after_is are keeps = read_is reading header n found.Outside before held bytes after size old new size_is fits bytes_are after_is are keeps
place_is reading header n found.Early before held bytes after size old new size_is fits bytes_are after_is are keeps = absurd are
