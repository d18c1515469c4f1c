-- The value of a text, by what `serde_json` says of bytes.
use Rattle.std.proofs.Common.{ℕ, ◌≡◌, List, Bool, true, false, None, Some, refl, sym}
use Rattle.std.specs.Prelude.{if◌then◌else◌}
use Rattle.std.specs.Str.{IsUtf8, is_utf8}
use Rattle.std.proofs.lemmas.Str.{is_utf8-from_IsUtf8, IsUtf8-from_is_utf8}
use Rattle.serde_json.specs.Data.{Data}
use Rattle.serde_json.specs.Read.{read}
use Rattle.ept_json.specs.Document.{document}

pub document_read : (bytes : List ℕ) (d : Data) → IsUtf8 bytes → read bytes ≡ Some d → document bytes ≡ Some d
unfolding document
document_read bytes d utf8 e = rw (is_utf8-from_IsUtf8 bytes utf8, e)

refused : (bytes : List ℕ) (test : Bool) → test ≡ is_utf8 bytes → (IsUtf8 bytes → read bytes ≡ None) → (if test then read bytes else None) ≡ None
refused bytes true e h = h (IsUtf8-from_is_utf8 bytes (sym e))
refused bytes false e h = refl

pub document_refused : (bytes : List ℕ) → (IsUtf8 bytes → read bytes ≡ None) → document bytes ≡ None
unfolding document
document_refused bytes h = refused bytes (is_utf8 bytes) refl h
