use Rattle.std.proofs.Common.{◌≡◌, ◌≢◌, ◌∙◌, ℕ, List, ◌++◌, Option, Some, None, Err, refl, sym, ap, subst, arith}
use Rattle.ept_point.specs.declared.point.Point.{Point}
use Rattle.ept_scan.specs.declared.read_error.ReadError.{ReadError}
use Rattle.ept_scan.specs.declared.read_error.ReadError.TheVariants.{SourceFault, Memory}
use Rattle.ept_scan.specs.Queue.{Held, AreDrawn, IsFirstChanged}
use Rattle.ept_scan.specs.Reader.{files_of, left_of}
use Rattle.ept_scan.proofs.Batches.{kept_change}
use Rattle.ept_scan.proofs.second_reading.Reader.next_batch.Goals as goal

pub returns-in-Err-clause-no_change : goal.returns-in-Err-clause-no_change
returns-in-Err-clause-no_change g c points rest free source number is = c.in-Err.ensures.no_change points rest source number is

none_is : (o : Option ReadError) → ((e : ReadError) → o ≢ Some e) → o ≡ None
none_is None never = refl
none_is (Some e) never = absurd (never e refl)

some_same : (a b : ReadError) → Some a ≡ Some b → a ≡ b
some_same a b same = cc

pub returns-in-Ok-clause-records : goal.returns-in-Ok-clause-records
returns-in-Ok-clause-records g c =
    let free = none_is c.args.self.now.refused c.in_default.not-Some in
    let drawn = c.in-Ok.ensures.records in (
      drawn.0,
      drawn.1 ∙ ap (λ (l : List Point). l ++ drawn.0) c.reserve.ensures.items,
      subst (λ (n : ℕ). AreDrawn (files_of g.S.Source.whole c.args.self.now) n drawn.0) (c.requires.reader.counts free) drawn.2,
    )

-- a refusal is kept
pub returns-in-Err-clause-reader : goal.returns-in-Err-clause-reader
returns-in-Err-clause-reader g c =
    let free = none_is c.args.self.now.refused c.in_default.not-Some in
    record {
      stands = λ wrong. cc;
      counts = λ wrong. cc;
      rewound = c.in-Err.ensures.rewound c.requires.reader.rewound;
      fits = c.requires.reader.fits;
      fault = λ is. c.in-Err.ensures.fault (ap (λ (e : ReadError). Err e) (some_same c.in-Err.refused SourceFault is));
      changed = λ source n is.
          subst (λ (files : List Held). IsFirstChanged files (left_of c.args.self.now) (left_of c.args.self.now) source n) (sym c.in-Err.ensures.held)
          (kept_change (files_of g.S.Source.whole c.args.self.now) _ (left_of c.args.self.now) _ (c.requires.reader.counts free) (omega arith) source n c.in-Err.refused is c.in-Err.ensures.changed);
      memory = λ is. c.in-Err.ensures.memory (ap (λ (e : ReadError). Err e) (some_same c.in-Err.refused Memory is));
    }
