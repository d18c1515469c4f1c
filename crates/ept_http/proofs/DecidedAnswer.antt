-- Each list of bytes asks for something.
use Rattle.std.proofs.Common.{◌≡◌, ℕ, List, Bool, true, ◌||◌, Option, Some, None, refl, inl, inr}
use Rattle.std.specs.Prelude.{MatchOption}
use Rattle.httparse.specs.Grammar.{RequestHead}
use Rattle.ept_http.specs.declared.asked.Asked.{Asked}
use Rattle.ept_http.specs.declared.asked.Asked.TheVariants.{Refuse}
use Rattle.ept_http.specs.WholeHead.{IsHead, lines_of}
use Rattle.ept_http.specs.Fields.{has_close}
use Rattle.ept_http.specs.Targets.{AsksFor}
use Rattle.ept_http.specs.Answers.{refusal_of, is_last, IsAnswerTo, IsAnswer, IsJudge}
use Rattle.ept_http.proofs.Decided.{Decided}
use Rattle.ept_http.proofs.DecidedHead.{head-decided}
use Rattle.ept_http.proofs.DecidedTarget.{each-target-asks}

head-asks : (refusal : Option ℕ) (target : List ℕ) → (asked : Asked) × MatchOption refusal (AsksFor target asked) (λ status. asked ≡ Refuse status)
head-asks None target = each-target-asks target
head-asks (Some status) target = (Refuse status, refl)

head-answered : (bytes : List ℕ) → Decided ((head : RequestHead) × IsHead bytes head) → (asked : Asked) × (last : Bool) × IsAnswer bytes asked last
head-answered bytes (inl (head, is)) =
    let asks = head-asks (refusal_of head) head.target in
    let to : IsAnswerTo head asks.0 (is_last asks.0 || has_close (lines_of head)) = record { asks = asks.1; ends = refl } in
    (asks.0, (is_last asks.0 || has_close (lines_of head)), inl (head, is, to))
head-answered bytes (inr none) = (Refuse 400, true, inr ((λ head is. none (head, is)), refl, refl))

pub each-answered : (bytes : List ℕ) → (asked : Asked) × (last : Bool) × IsAnswer bytes asked last
each-answered bytes = head-answered bytes (head-decided bytes)

pub some-judge : (judge : List ℕ → Asked × Bool) × IsJudge judge
some-judge = ((λ bytes. ((each-answered bytes).0, (each-answered bytes).1)), (λ bytes. (each-answered bytes).2))
