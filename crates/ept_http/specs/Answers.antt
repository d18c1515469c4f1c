-- What the head of a request asks for, and whether the connection ends after it.
use Rattle.std.specs.Prelude.{◌≡◌, ◌≤◌, ◌⊎◌, IsTrue, ℕ, List, Bool, true, false, ◌||◌, ◌==◌, not, if◌then◌else◌, Option, Some, None, MatchOption, codes}
use Rattle.std.specs.Str.{bytes_eq}
use Rattle.httparse.specs.Grammar.{RequestHead}
use Rattle.ept_http.specs.declared.asked.Asked.{Asked}
use Rattle.ept_http.specs.declared.asked.Asked.TheVariants.{File, Query, Select, Refuse}
use Rattle.ept_http.specs.WholeHead.{IsHead, lines_of}
use Rattle.ept_http.specs.Fields.{has_close, is_faulty}
use Rattle.ept_http.specs.QueryWords.{IsOrdered}
use Rattle.ept_http.specs.Targets.{IsServedName, AsksFor}
use Rattle.ept_http.specs.AnswerHead.{is_refusal}

-- the status with which a head is refused before its target is read
unfoldable pub refusal_of : RequestHead → Option ℕ
refusal_of head =
    if is_faulty head.minor (lines_of head) then Some 400
    else if not (bytes_eq head.method (codes "GET")) then Some 405
    else if head.minor == 0 then Some 505
    else None

-- what a head asks for: a refusal, or what its target asks for
abbrev pub HeadAsks : RequestHead → Asked → Type 0
HeadAsks head asked = MatchOption (refusal_of head) (AsksFor head.target asked) (λ status. asked ≡ Refuse status)

-- the statuses after which a connection ends
abbrev pub closes : ℕ → Bool
closes status = status == 431 || status == 400 || status == 505 || status == 503 || status == 507

-- the status of the response is one of these
abbrev pub is_last : Asked → Bool
is_last (File name) = false
is_last (Query area first last) = false
is_last (Select area first last sift) = false
is_last (Refuse status) = closes status

-- what a head asks for, and whether the connection ends after the response
pub record IsAnswerTo (head : RequestHead) (asked : Asked) (last : Bool) : Type 0 where
  pub asks : HeadAsks head asked
  pub ends : last ≡ (is_last asked || has_close (lines_of head))

-- what bytes ask for: what the head that they are asks for, or status 400 if they are not a head
abbrev pub IsAnswer : List ℕ → Asked → Bool → Type 0
IsAnswer bytes asked last =
    ((head : RequestHead) × IsHead bytes head × IsAnswerTo head asked last)
    ⊎ (((head : RequestHead) → ¬ IsHead bytes head) × (asked ≡ Refuse 400) × (last ≡ true))

-- What may be asked for: a file that is served, a query or a selection, or the status of a refusal. A query or a
-- selection has an ordered box, and ordered depths from 0 to 32.
abbrev pub MayBeAsked : Asked → Type 0
MayBeAsked (File name) = IsServedName name
MayBeAsked (Query area first last) = IsOrdered area × (first ≤ last) × (last ≤ 32)
MayBeAsked (Select area first last sift) = IsOrdered area × (first ≤ last) × (last ≤ 32)
MayBeAsked (Refuse status) = IsTrue (is_refusal status)

-- a judge gives what any bytes ask for
abbrev pub IsJudge : (List ℕ → Asked × Bool) → Type 0
IsJudge judge = (bytes : List ℕ) → IsAnswer bytes (judge bytes).0 (judge bytes).1
