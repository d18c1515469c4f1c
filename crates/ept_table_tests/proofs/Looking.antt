-- An item that is returned as it was taken.
use Rattle.std.proofs.Common.{◌≡◌, ◌∙◌, ℕ, zero, suc, inl, inr, refl, ap, arith}
use Rattle.ept_table.specs.declared.done.Done.TheVariants.{Nothing}
use Rattle.ept_table.specs.declared.note.Told.{Told}
use Rattle.ept_table.specs.declared.taken.Taken.{Taken}
use Rattle.ept_table.specs.View.{View}
use Rattle.ept_table.specs.Steps.{holding}
use Rattle.ept_table.specs.Tells.{Fits}
use Rattle.ept_table.specs.Visits.{Visits}
use Rattle.ept_table_tests.specs.Rest.{IsAtRest}

pub given-as-taken : (told : Told) (v w : View) (k : ℕ) (x : Taken) → w ≡ holding v k x → IsAtRest v → Fits told v k x → Visits told w k x x Nothing
given-as-taken told v w zero x is rest fits =
    let r = fits.reader refl in
    inr (record {
      old = r.0;
      new = r.0;
      slot = refl;
      taken = r.1;
      given = r.1;
      has_read = record {
        inputs = refl;
        drawn = omega arith;
        left = omega arith;
        allowed = omega arith;
        failed = λ e failed. failed;
        in_cube = λ p m. absurd m;
        next = λ tells. refl;
      };
      actor = 0;
      flies = refl;
    })
given-as-taken told v w (suc k) x is rest fits = inl (inl refl, omega arith, ap (λ (u : View). u.note.draws) is ∙ rest.draws)
