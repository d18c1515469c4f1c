use Rattle.std.proofs.Common.{◌≡◌, ◌<◌, List, ℕ, Result, Ok, Err, false, rules, refl, sym, ap, ◌∙◌}
use Rattle.std.specs.List.{slice_index}
use Rattle.std.specs.Result.{is_err, MatchResult, OnOk}
use Rattle.std.proofs.lemmas.Bool.{false≢true}
use Rattle.std.proofs.lemmas.Slice.Eq.{bytes_eq-Decides}
use Rattle.hex.specs.declared.error.FromHexError.{FromHexError}
use Rattle.hex.specs.Hex.{decode_sized, encode_lower}
use Rattle.hex.proofs.HexLemmas.{decode_of-ok, decode_sized-ok, decode_sized-twice, decode_sized-encode_lower}
use Rattle.ept_filter.specs.SiftText.{IsTimeDigits}
use Rattle.ept_filter.proofs.time.read_digits.Goals as goal

-- what a text decodes to
decoded : (text time : List ℕ) → IsTimeDigits text time → decode_sized text 8 ≡ Ok time
decoded text time is = rw is.spelled (decode_sized-encode_lower time 8 is.len is.bytes)

holds : {P : Type 0} (r : Result (Unit {0}) FromHexError) → is_err r ≡ false → OnOk r P → P
holds (Ok x) fine h = h
holds (Err x) fine h = absurd (false≢true (sym fine))

-- and these are bytes
bytes-decoded : (text out : List ℕ) (r : Result (Unit {0}) FromHexError) → is_err r ≡ false → MatchResult (decode_sized text 8) (λ bytes. (r ≡ Ok tt) × (out ≡ bytes)) (λ e. r ≡ Err e) → (i : ℕ) → slice_index out i < 256
bytes-decoded text out r fine h = by (decode_sized text 8) refl h
  where
    by : (d : Result (List ℕ) FromHexError) → decode_sized text 8 ≡ d → MatchResult d (λ bytes. (r ≡ Ok tt) × (out ≡ bytes)) (λ e. r ≡ Err e) → (i : ℕ) → slice_index out i < 256
    by (Ok bytes) e h =
        let len = decode_sized-ok text 8 bytes e in
        let is = (decode_of-ok text bytes (sym (decode_sized-twice text 8 len) ∙ e)).3 in
        rw h.1 is
    by (Err x) e h = absurd (false≢true (sym fine ∙ ap is_err h))

pub returns-then-is_err-clause-none : goal.returns-then-is_err-clause-none
returns-then-is_err-clause-none c = λ time is.
    let ok = rw (decoded c.args.text.now time is) at c.decode_to_slice.ensures.value in
    let fine : c.is_err.result ≡ false = c.is_err.ensures.value ∙ ap is_err ok.0 in
    false≢true (sym fine ∙ c.if-is_err.true)

pub returns-then-eq-clause-some : goal.returns-then-eq-clause-some
returns-then-eq-clause-some c =
    let same = (bytes_eq-Decides c.as_slice-2.result.now c.args.text.now).0 (sym c.eq.ensures ∙ c.if-eq.true) in
    let written = holds c.encode_to_slice.result (sym c.is_err-2.ensures.value ∙ c.if-is_err-2.false) c.encode_to_slice.ensures.written in
    record {
      spelled = sym same ∙ c.as_slice-2.ensures ∙ written ∙ ap encode_lower c.as_slice.ensures;
      len = search rules;
      bytes = bytes-decoded c.args.text.now c.decode_to_slice.new.out c.decode_to_slice.result (sym c.is_err.ensures.value ∙ c.if-is_err.false) c.decode_to_slice.ensures.value;
    }

pub returns-else-eq-clause-none : goal.returns-else-eq-clause-none
returns-else-eq-clause-none c = λ time is.
    let ok = rw (decoded c.args.text.now time is) at c.decode_to_slice.ensures.value in
    let written = holds c.encode_to_slice.result (sym c.is_err-2.ensures.value ∙ c.if-is_err-2.false) c.encode_to_slice.ensures.written in
    let same = c.as_slice-2.ensures ∙ written ∙ ap encode_lower (c.as_slice.ensures ∙ ok.1) ∙ sym is.spelled in
    false≢true (sym c.if-eq.false ∙ c.eq.ensures ∙ (bytes_eq-Decides c.as_slice-2.result.now c.args.text.now).1 same)
