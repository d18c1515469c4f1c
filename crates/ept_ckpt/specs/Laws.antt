-- What holds of all checkpoints. Each statement is a clause of a function of `laws`.
use Rattle.std.specs.Prelude.{◌≡◌}
use Rattle.ept_ckpt.specs.declared.checkpoint.Checkpoint.{Checkpoint}
use Rattle.ept_ckpt.specs.Facts.{facts}
use Rattle.ept_ckpt.specs.Body.{body}

-- a body is that of one checkpoint only
abbrev pub BodyOnce : Type 0
BodyOnce = (a b : Checkpoint) → body (facts a) ≡ body (facts b) → a ≡ b

-- checkpoints with the same facts are the same
abbrev pub CheckpointByFacts : Type 0
CheckpointByFacts = (a b : Checkpoint) → facts a ≡ facts b → a ≡ b
