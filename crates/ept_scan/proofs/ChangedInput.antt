-- A change among the files of a reader is a change of an input of the shelf.
use Rattle.std.proofs.Common.{◌≡◌, ◌⊎◌, ⊎_elim, inl, inr, ℕ, zero, suc, List, [], ◌∷◌, Option, Some, None, refl, sym, ◌∙◌, ap, subst}
use Rattle.std.specs.Prelude.{All, IsSome, true, false, slice_get}
use Rattle.std.proofs.lemmas.List.Elements.{All-head, All-tail}
use Rattle.ept_base.specs.Files.{Files, Tells}
use Rattle.ept_config.specs.declared.kept.Kept.{Kept}
use Rattle.ept_config.specs.declared.source_count.SourceCount.{SourceCount}
use Rattle.ept_scan.specs.declared.reading.Reading.{Reading}
use Rattle.ept_scan.specs.Scans.{IsReadingOf}
use Rattle.ept_scan.specs.Changes.{HeaderDiffers, RecordDiffers, Differs}
use Rattle.ept_scan.specs.Queue.{Held, IsFirstChanged}
use Rattle.ept_scan.specs.Opening.{IsFileOf, HasBytesOf, InputDiffers}
use Rattle.ept_scan.proofs.Rereading.{one_input}

at_index : (P : Held → Type 0) (files : List Held) (i : ℕ) (file : Held) → slice_get files i ≡ Some file → All P files → P file
at_index P [] i file is every = absurd (nothing file is)
  where
    nothing : (f : Held) → None ≡ Some f → ⊥
    nothing f e = cc
at_index P (f ∷ files) zero file is every = subst P (some_same f file is) (All-head P f files every)
  where
    some_same : (a b : Held) → Some a ≡ Some b → a ≡ b
    some_same a b same = cc
at_index P (f ∷ files) (suc i) file is every = at_index P files i file is (All-tail P f files every)

whole : (content : Option (List ℕ)) → IsSome content → (file : List ℕ) × (content ≡ Some file)
whole None some = absurd (nothing some)
  where
    nothing : false ≡ true → ⊥
    nothing e = cc
whole (Some file) some = (file, refl)

-- it differs in its header, or in the record with the reported number
told : (reading : Reading) (points next n : ℕ) (file : List ℕ) (content : Option (List ℕ)) → content ≡ Some file → Differs reading points content next n → ((n ≡ 0) × HeaderDiffers reading points file) ⊎ RecordDiffers reading points file n
told reading points next n file content is differs =
    ⊎_elim (λ (header : (n ≡ 0) × Tells (HeaderDiffers reading points) content). inl (header.0, subst (Tells (HeaderDiffers reading points)) is header.1))
    (λ (record_next : (n ≡ next) × Tells (λ bytes. RecordDiffers reading points bytes next) content). inr (subst (RecordDiffers reading points file) (sym record_next.0) (subst (Tells (λ bytes. RecordDiffers reading points bytes next)) is record_next.1))) differs

pub changed_input : (all : Files) (kept : Kept) (counts : List SourceCount) (files : List Held) (left most source n : ℕ) → All (IsFileOf kept counts) files → All (HasBytesOf all kept.inputs) files → IsFirstChanged files left most source n → InputDiffers all kept counts source n
changed_input all kept counts files left most source n known bytes first =
    let held = first.changed.held in
    let mine = at_index (IsFileOf kept counts) files first.changed.next.index held first.changed.next.is known in
    let has = at_index (HasBytesOf all kept.inputs) files first.changed.next.index held first.changed.next.is bytes in
    let same = one_input kept.inputs held.reading.origin has.input mine.input has.is_input mine.is_input in
    let is : held.reading.origin ≡ source = sym first.changed.origin in
    let content = whole held.file has.there in
    record {
      input = mine.input;
      is_input = subst (λ (i : ℕ). slice_get kept.inputs i ≡ Some mine.input) is mine.is_input;
      count = mine.count;
      is_count = subst (λ (i : ℕ). slice_get counts i ≡ Some mine.count) is mine.is_count;
      reading = held.reading;
      reads = subst (λ (i : ℕ). IsReadingOf kept.scale mine.count.extent i mine.input held.reading) is mine.reads;
      file = content.0;
      content = ap (λ (input : _). all input.path) (sym same) ∙ sym has.bytes ∙ content.1;
      differs = subst (λ (points : ℕ). ((n ≡ 0) × HeaderDiffers held.reading points content.0) ⊎ RecordDiffers held.reading points content.0 n) mine.points_are (told held.reading held.points first.changed.number n content.0 held.file content.1 first.changed.differs);
    }
