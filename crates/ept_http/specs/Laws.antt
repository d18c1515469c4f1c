-- What holds for every head and every text. Each statement is a clause of a function of `laws`.
use Rattle.std.specs.Prelude.{◌≡◌, ℕ, List, Bool}
use Rattle.ept_space.specs.declared.box3.Box3.{Box3}
use Rattle.ept_http.specs.declared.asked.Asked.{Asked}
use Rattle.ept_http.specs.QueryWords.{IsBoxText, IsDepthsText}
use Rattle.ept_http.specs.Targets.{AsksFor}
use Rattle.ept_http.specs.Answers.{IsAnswer, MayBeAsked, IsJudge}

-- a text spells at most one box
abbrev pub TextHasOneBox : Type 0
TextHasOneBox = (text : List ℕ) (a b : Box3) → IsBoxText text a → IsBoxText text b → a ≡ b

-- a text spells at most one range of depths
abbrev pub TextHasOneRange : Type 0
TextHasOneRange =
    (text : List ℕ) (a b c d : ℕ) → IsDepthsText text a b → IsDepthsText text c d → (a ≡ c) × (b ≡ d)

-- a target asks for at most one thing
abbrev pub TargetAsksOnce : Type 0
TargetAsksOnce = (target : List ℕ) (a b : Asked) → AsksFor target a → AsksFor target b → a ≡ b

-- bytes ask for at most one thing, and determine whether the connection ends after it
abbrev pub BytesHaveOneAnswer : Type 0
BytesHaveOneAnswer =
    (bytes : List ℕ) (a b : Asked) (k l : Bool) → IsAnswer bytes a k → IsAnswer bytes b l → (a ≡ b) × (k ≡ l)

-- bytes ask only for what may be asked for
abbrev pub AnswersMayBeAsked : Type 0
AnswersMayBeAsked = (bytes : List ℕ) (asked : Asked) (last : Bool) → IsAnswer bytes asked last → MayBeAsked asked

-- each list of bytes asks for something
abbrev pub BytesHaveAnAnswer : Type 0
BytesHaveAnAnswer = (bytes : List ℕ) → (asked : Asked) × (last : Bool) × IsAnswer bytes asked last

-- so there is a judge
abbrev pub ThereIsAJudge : Type 0
ThereIsAJudge = (judge : List ℕ → Asked × Bool) × IsJudge judge
