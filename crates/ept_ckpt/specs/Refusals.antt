-- Why bytes are no body of a checkpoint.
use Rattle.std.specs.Prelude.{◌≡◌, ℕ, List, [], length, Ok, Err}
use Rattle.ept_ckpt.specs.declared.field_error.FieldError.{FieldError}
use Rattle.ept_ckpt.specs.declared.field_error.FieldError.TheVariants as field
use Rattle.ept_ckpt.specs.declared.ckpt_error.CkptError.{CkptError}
use Rattle.ept_ckpt.specs.declared.ckpt_error.CkptError.TheVariants.{Length, Version, Field, Tree, Memory}
use Rattle.ept_ckpt.specs.Facts.{CheckpointFacts}
use Rattle.ept_ckpt.specs.Octree.{AreNodesOf}
use Rattle.ept_ckpt.specs.Forms.{fields}

-- the error for the refusal of a field
abbrev pub of_field : FieldError → CkptError
of_field field.Length = Length
of_field field.Version = Version
of_field (field.Field at) = Field at
of_field field.Memory = Memory

-- each field is within its range, but the nodes are no whole octree of the inserted points
pub record HasNoOctree (bytes : List ℕ) : Type 0 where
  pub read : CheckpointFacts
  pub reads : fields (length bytes) bytes ≡ Ok (read, [])
  pub no_octree : ¬ AreNodesOf read.inserted read.nodes

-- the first fault in the order of the fields, and after all fields that of the octree
abbrev pub RefusesBody : List ℕ → CkptError → Type 0
RefusesBody bytes Length = fields (length bytes) bytes ≡ Err field.Length
RefusesBody bytes Version = fields (length bytes) bytes ≡ Err field.Version
RefusesBody bytes (Field at) = fields (length bytes) bytes ≡ Err (field.Field at)
RefusesBody bytes Tree = HasNoOctree bytes
RefusesBody bytes Memory = ⊥
