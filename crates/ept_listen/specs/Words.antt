-- What the words of the server's command line ask for.
use Rattle.std.specs.Prelude.{◌≡◌, ◌≢◌, ℕ, ◌^◌, ◌<◌, List, [], ◌∷◌, Bool, true, false, String, Option, Some, None, decimal, map, string_bytes, codes}
use Rattle.std.specs.declared.alloc.Global.{Global}
use Rattle.ept_listen.specs.declared.words.Serve.{Serve}

-- words as lists of bytes
abbrev pub bytes_of : List (String Global) → List (List ℕ)
bytes_of words = map string_bytes words

-- a folder and an address
pub record ArePlace (words : List (List ℕ)) : Type 0 where
  pub out : List ℕ
  pub address : List ℕ
  pub words_are : words ≡ out ∷ address ∷ []
  pub out_is : out ≢ []
  pub address_is : address ≢ []

-- `--connections`, a number from 1 to 4,294,967,295 in its one spelling, a folder and an address
pub record AreLimited (words : List (List ℕ)) (count : ℕ) : Type 0 where
  pub place : List (List ℕ)
  pub words_are : words ≡ codes "--connections" ∷ decimal count ∷ place
  pub some : 0 < count
  pub fits : count < 2 ^ 32
  pub place_is : ArePlace place

-- what words without `--single` ask for: to serve connections without end, or `count` of them
abbrev pub AskForCount : List (List ℕ) → Option ℕ → Type 0
AskForCount words None = ArePlace words
AskForCount words (Some count) = AreLimited words count

-- the same after `--single`
pub record AreSingle (words : List (List ℕ)) (count : Option ℕ) : Type 0 where
  pub others : List (List ℕ)
  pub words_are : words ≡ codes "--single" ∷ others
  pub others_ask : AskForCount others count

abbrev pub AskForIn : List (List ℕ) → Bool → Option ℕ → Type 0
AskForIn words false count = AskForCount words count
AskForIn words true count = AreSingle words count

-- what the words ask for: how many connections, and whether one thread serves them all
abbrev pub AskFor : List (List ℕ) → Serve → Type 0
AskFor words serve = AskForIn words serve.single serve.connections

-- what words are read as: what they ask for, and nothing if and only if they ask for nothing
abbrev pub AreRead : List (List ℕ) → Option Serve → Type 0
AreRead words None = (serve : Serve) → ¬ AskFor words serve
AreRead words (Some serve) = AskFor words serve

-- what words without `--single` are read as
abbrev pub AreReadPlain : List (List ℕ) → Option Serve → Type 0
AreReadPlain words None = (count : Option ℕ) → ¬ AskForCount words count
AreReadPlain words (Some serve) = (serve.single ≡ false) × AskForCount words serve.connections

-- what words after `--single` are read as
abbrev pub AreReadSingle : List (List ℕ) → Option Serve → Type 0
AreReadSingle words None = (count : Option ℕ) → ¬ AreSingle words count
AreReadSingle words (Some serve) = (serve.single ≡ true) × AreSingle words serve.connections
