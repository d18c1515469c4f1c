-- What comes and goes over a link.
use Rattle.std.specs.Prelude.{◌≡◌, ◌⊎◌, ℕ, List, [], ◌∷◌, ◌++◌, length}

-- The bytes taken, those that are still to come, and those written. For each read, how many bytes were taken and
-- written before it.
pub record Wire : Type 0 where
  pub taken : List ℕ
  pub left : List ℕ
  pub written : List ℕ
  pub reads : List (ℕ × ℕ)

-- a read took these bytes
pub record Reads (bytes : List ℕ) (old new : Wire) : Type 0 where
  pub taken : new.taken ≡ old.taken ++ bytes
  pub left : old.left ≡ bytes ++ new.left
  pub written : new.written ≡ old.written
  pub reads : new.reads ≡ old.reads ++ (length old.taken, length old.written) ∷ []

-- a read failed: no byte was taken, and the read is recorded unless there was no memory for it
abbrev pub FailsToRead : Wire → Wire → Type 0
FailsToRead old new = Reads [] old new ⊎ (new ≡ old)

-- a write passed on these bytes
pub record Writes (bytes : List ℕ) (old new : Wire) : Type 0 where
  pub taken : new.taken ≡ old.taken
  pub left : new.left ≡ old.left
  pub written : new.written ≡ old.written ++ bytes
  pub reads : new.reads ≡ old.reads
