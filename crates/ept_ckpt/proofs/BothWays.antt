-- What is read is a body, and each body is read.
use Rattle.std.proofs.Common.{◌≡◌, ◌≢◌, ◌∙◌, ℕ, ◌<◌, ◌^◌, List, [], length, slice_index, Ok, Err, refl, sym, ap, subst}
use Rattle.std.specs.Prelude.{Result, IfOk, IfErr}
use Rattle.ept_ckpt.specs.declared.checkpoint.Checkpoint.{Checkpoint}
use Rattle.ept_ckpt.specs.declared.ckpt_error.CkptError.{CkptError}
use Rattle.ept_ckpt.specs.declared.ckpt_error.CkptError.TheVariants.{Length, Version, Field, Tree, Memory}
use Rattle.ept_ckpt.specs.declared.field_error.FieldError.{FieldError}
use Rattle.ept_ckpt.specs.Facts.{CheckpointFacts, facts}
use Rattle.ept_ckpt.specs.Body.{body}
use Rattle.ept_ckpt.specs.Forms.{fields}
use Rattle.ept_ckpt.specs.Octree.{AreNodesOf}
use Rattle.ept_ckpt.specs.Refusals.{RefusesBody}
use Rattle.ept_ckpt.proofs.WrittenBodies.{written}
use Rattle.ept_ckpt.proofs.ReadBodies.{read_back}
use Rattle.ept_ckpt.proofs.FactsTell.{checkpoint_same}

pub is_body : (bytes : List ℕ) (result : Result Checkpoint CkptError) → ((i : ℕ) → slice_index bytes i < 2 ^ 8)
    → IfOk result (λ c. fields (length bytes) bytes ≡ Ok (facts c, [])) → IfOk result (λ c. bytes ≡ body (facts c))
is_body bytes (Ok c) fits reads = read_back bytes (facts c) fits reads
is_body bytes (Err e) fits reads = tt

-- equal results have equal facts
same_facts : (a b : CheckpointFacts) → ◌≡◌ {A = Result (CheckpointFacts × List ℕ) FieldError} (Ok (a, [])) (Ok (b, [])) → a ≡ b
same_facts a b same = ap (read_or a) same
  where
    read_or : CheckpointFacts → Result (CheckpointFacts × List ℕ) FieldError → CheckpointFacts
    read_or other (Ok found) = found.0
    read_or other (Err e) = other

never_both : (a : CheckpointFacts) (e : FieldError) → ◌≡◌ {A = Result (CheckpointFacts × List ℕ) FieldError} (Ok (a, [])) (Err e) → ⊥
never_both a e same = cc

module _ (bytes : List ℕ) (c : Checkpoint) (is : bytes ≡ body (facts c)) where
  reads : fields (length bytes) bytes ≡ Ok (facts c, [])
  reads = subst (λ (w : List ℕ). fields (length w) w ≡ Ok (facts c, [])) (sym is) (written c)

  -- a body is refused only because memory ran out
  memory_only : (e : CkptError) → (e ≢ Memory → RefusesBody bytes e) → e ≡ Memory
  memory_only Memory refused = refl
  memory_only Length refused = absurd (never_both (facts c) _ (sym reads ∙ refused (λ same. cc)))
  memory_only Version refused = absurd (never_both (facts c) _ (sym reads ∙ refused (λ same. cc)))
  memory_only (Field at) refused = absurd (never_both (facts c) _ (sym reads ∙ refused (λ same. cc)))
  memory_only Tree refused =
      let found = refused (λ same. cc) in
      absurd (found.no_octree (subst (λ (f : CheckpointFacts). AreNodesOf f.inserted f.nodes) (same_facts (facts c) found.read (sym reads ∙ found.reads)) c.is_checkpoint.nodes_are))

  pub comes_back : (result : Result Checkpoint CkptError) → IfOk result (λ found. fields (length bytes) bytes ≡ Ok (facts found, [])) → IfErr result (λ e. e ≢ Memory → RefusesBody bytes e)
      → IfOk result (λ found. found ≡ c) × IfErr result (λ e. e ≡ Memory)
  comes_back (Ok found) found_reads refused = (checkpoint_same found c (same_facts (facts found) (facts c) (sym found_reads ∙ reads)), tt)
  comes_back (Err e) found_reads refused = (tt, memory_only e refused)

pub body_once : (a b : Checkpoint) → body (facts a) ≡ body (facts b) → a ≡ b
body_once a b same =
    checkpoint_same a b (same_facts (facts a) (facts b) (sym (written a) ∙ reads (body (facts a)) b same))
