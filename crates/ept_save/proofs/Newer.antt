-- Which of two checkpoints is the current one.
use Rattle.std.proofs.Common.{◌≡◌, ◌≢◌, ◌∙◌, ◌<◌, inl, inr, ℕ, List, Option, Some, None, refl, sym, ap, subst, arith}
use Rattle.std.specs.Prelude.{Result, Ok, Err, IfErr}
use Rattle.ept_base.specs.Files.{Files, SameFiles, Tells}
use Rattle.ept_space.specs.VoxelKey.{VoxelKey}
use Rattle.ept_save.specs.Names.{gate_name, body_name}
use Rattle.ept_ckpt.specs.declared.letter.Letter.TheVariants.{A, B}
use Rattle.ept_ckpt.specs.declared.checkpoint.Checkpoint.{Checkpoint}
use Rattle.ept_ckpt.specs.declared.letter.Letter.{Letter}
use Rattle.ept_ckpt.specs.Body.{body}
use Rattle.ept_ckpt.specs.Facts.{facts}
use Rattle.ept_ckpt.proofs.BothWays.{body_once}
use Rattle.ept_save.specs.declared.error.SaveError.{SaveError}
use Rattle.ept_save.specs.declared.error.SaveError.TheVariants.{StoreFault, BadCheckpoint, TileDamaged, Memory}
use Rattle.ept_save.specs.Errors.{IsStores}
use Rattle.ept_save.specs.Gates.{Counts}
use Rattle.ept_save.specs.Current.{Current, HasBody, IsCurrent, HasCurrent}
use Rattle.ept_save.specs.Opening.{IsBroken, IsBad, IsFound, AreAlike}
use Rattle.ept_save.proofs.NamesDiffer.{one_of_two}
use Rattle.ept_save.proofs.Keeping.{body-moved}

pub newer_a : (files : Files) (a b : Checkpoint) → b.generation < a.generation → IsFound files A (Some a) → IsFound files B (Some b) → IsCurrent files A a
newer_a files a b before found other = record {
  counts = found.0;
  has_body = found.1;
  newest = λ counts. record { older = b; has_body = other.1; before = before };
}

pub newer_b : (files : Files) (a b : Checkpoint) → a.generation < b.generation → IsFound files A (Some a) → IsFound files B (Some b) → IsCurrent files B b
newer_b files a b before other found = record {
  counts = found.0;
  has_body = found.1;
  newest = λ counts. record { older = a; has_body = other.1; before = before };
}

pub alike : (files : Files) (a b : Checkpoint) → a.generation ≡ b.generation → IsFound files A (Some a) → IsFound files B (Some b) → AreAlike files
alike files a b same found other = record { one = a; two = b; counts_a = found.0; counts_b = other.0; has_a = found.1; has_b = other.1; same = same }

-- files with a current checkpoint have no bad one
not-broken : (current : Current) (files : Files) (letter : Letter) → HasCurrent current files → ¬ IsBroken files letter
not-broken None files letter none broken = none letter broken.counts
not-broken (Some (at, c)) files letter is broken = elim (one_of_two at letter) [
  | inl same ↦ broken.no_body c (subst (λ (l : Letter). HasBody files l c) (sym same) is.has_body)
  | inr same ↦ (
      let older = is.newest (subst (λ (l : Letter). Counts files l) same broken.counts) in
      broken.no_body older.older (subst (λ (l : Letter). HasBody files l older.older) (sym same) older.has_body))
]

one-body : (files : Files) (letter : Letter) (c d : Checkpoint) → HasBody files letter c → HasBody files letter d → c ≡ d
one-body files letter c d first second =
    let same : body (facts c) ≡ body (facts d) = some_same (body (facts c)) (body (facts d)) (sym first ∙ second) in
    body_once c d same
  where
    some_same : (one two : List ℕ) → Some one ≡ Some two → one ≡ two
    some_same one two same = cc

not-alike : (current : Current) (files : Files) → HasCurrent current files → ¬ AreAlike files
not-alike None files none both = none A both.counts_a
not-alike (Some (A, c)) files is both =
    let older = is.newest both.counts_b in
    let first : c ≡ both.one = one-body files A c both.one is.has_body both.has_a in
    let second : older.older ≡ both.two = one-body files B older.older both.two older.has_body both.has_b in
    absurd (omega (arith, older.before, both.same, ap (λ (d : Checkpoint). d.generation) first, ap (λ (d : Checkpoint). d.generation) second))
not-alike (Some (B, c)) files is both =
    let older = is.newest both.counts_a in
    let first : c ≡ both.two = one-body files B c both.two is.has_body both.has_b in
    let second : older.older ≡ both.one = one-body files A older.older both.one older.has_body both.has_a in
    absurd (omega (arith, older.before, both.same, ap (λ (d : Checkpoint). d.generation) first, ap (λ (d : Checkpoint). d.generation) second))

pub not-bad : (current : Current) (files : Files) (letter : Letter) → HasCurrent current files → ¬ IsBad files letter
not-bad current files A is bad = not-broken current files A is bad
not-bad current files B is bad = elim bad.1 [ inl broken ↦ not-broken current files B is broken | inr both ↦ not-alike current files is both ]

-- files have one current checkpoint
two-current : (files : Files) (c d : Checkpoint) → ¬ (IsCurrent files A c × IsCurrent files B d)
two-current files c d both =
    let older = both.0.newest both.1.counts in
    let newer = both.1.newest both.0.counts in
    let first : older.older ≡ d = one-body files B older.older d older.has_body both.1.has_body in
    let second : newer.older ≡ c = one-body files A newer.older c newer.has_body both.0.has_body in
    absurd (omega (arith, older.before, newer.before, ap (λ (e : Checkpoint). e.generation) first, ap (λ (e : Checkpoint). e.generation) second))

pub current-one : (files : Files) (a b : Current) → HasCurrent a files → HasCurrent b files → a ≡ b
current-one files None None first second = refl
current-one files None (Some (letter, c)) first second = absurd (first letter second.counts)
current-one files (Some (letter, c)) None first second = absurd (second letter first.counts)
current-one files (Some (A, c)) (Some (A, d)) first second = ap (λ (e : Checkpoint). let now : Current = Some (A, e) in now) (one-body files A c d first.has_body second.has_body)
current-one files (Some (B, c)) (Some (B, d)) first second = ap (λ (e : Checkpoint). let now : Current = Some (B, e) in now) (one-body files B c d first.has_body second.has_body)
current-one files (Some (A, c)) (Some (B, d)) first second = absurd (two-current files c d (first, second))
current-one files (Some (B, c)) (Some (A, d)) first second = absurd (two-current files d c (second, first))

-- the bad letter is one
pub one-bad : (files : Files) (one two : Letter) → IsBad files one → IsBad files two → one ≡ two
one-bad files A A first second = refl
one-bad files A B first second = absurd (second.0 first)
one-bad files B A first second = absurd (first.0 second)
one-bad files B B first second = refl

-- so none is among them
pub only-stores : {T : Type 0} (result : Result T SaveError) (files : Option Files) (current : Current) (all : Files) → files ≡ Some all → HasCurrent current all → ((which : Letter) → result ≡ Err (BadCheckpoint which) → Tells (λ f. IsBad f which) files) → IfErr result (λ e. (key : VoxelKey) → e ≢ TileDamaged key) → IfErr result IsStores
only-stores (Ok t) files current all told has bad no_tile = tt
only-stores (Err StoreFault) files current all told has bad no_tile = inl refl
only-stores (Err (BadCheckpoint which)) files current all told has bad no_tile =
    absurd (not-bad current all which has (subst (λ (o : Option Files). Tells (λ f. IsBad f which) o) told (bad which refl)))
only-stores (Err (TileDamaged key)) files current all told has bad no_tile = absurd (no_tile key refl)
only-stores (Err Memory) files current all told has bad no_tile = inr refl

-- what is found does not change where the files do not
pub found-back : (files mid : Files) (letter : Letter) (found : Option Checkpoint) → SameFiles files mid → IsFound mid letter found → IsFound files letter found
found-back files mid letter None same none = λ counts. none (same (gate_name letter) ∙ counts)
found-back files mid letter (Some c) same found = (sym (same (gate_name letter)) ∙ found.0, body-moved letter c mid files (sym (same (body_name letter))) found.1)
