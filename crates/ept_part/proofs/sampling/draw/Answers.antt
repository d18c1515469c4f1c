use Rattle.std.proofs.Common.{◌≡◌, ◌∙◌, ℕ, ◌+◌, List, length, take, drop, sym, ap, subst, arith, rules}
use Rattle.std.specs.Prelude.{Err}
use Rattle.std.proofs.lemmas.Result.{err_from_is_err_and}
use Rattle.ept_point.specs.declared.point.Point.{Point}
use Rattle.ept_sample.specs.Place.{AllInCube}
use Rattle.ept_grid.specs.Mask.{opened}
use Rattle.ept_scan.specs.declared.read_error.ReadError.{ReadError}
use Rattle.ept_scan.specs.Reader.{batch_of, IsRest}
use Rattle.ept_parts.specs.Parts.{part_of}
use Rattle.ept_part.proofs.Drawn.{part-inside, part-few, batch-few, batch-some, drawn-inside, ahead-next, emptied}
use Rattle.ept_part.proofs.Causes.{read-fault, read-changed, read-of_sampling, read-few}
use Rattle.ept_part.proofs.sampling.draw.Goals as goal

pub next_batch-requires : goal.next_batch-requires
next_batch-requires g c = record { reader = c.requires.ahead.is_reader }

pub select-requires-clause-inside : goal.select-requires-clause-inside
select-requires-clause-inside g c =
    let s = g.S.Source in
    let drew = c.in_ok-next_batch.ensures.points in
    let is : c.deref.result.now ≡ drew.0 = c.deref.ensures.value ∙ emptied c.clear.new.self.items drew.0 c.next_batch.new.out.items c.clear.ensures.items drew.1 in
    subst (λ (w : List Point). AllInCube c.args.rules.now.cube w) (sym is)
    (drawn-inside s.whole s.left s.given s.faults c.args.rules.now c.args.to_come c.args.reader.now c.next_batch.new.self c.requires.ahead drew.0 drew.3)

pub returns-in_err-next_batch-clause-no_change : goal.returns-in_err-next_batch-clause-no_change
returns-in_err-next_batch-clause-no_change g c = λ source number is points rest.
    c.in_err-next_batch.ensures.no_change points rest c.requires.ahead.fresh source number (ap (λ (e : ReadError). Err e) (read-changed c.in_err-next_batch.field-0.0 source number (search (rules, is))))

pub returns-in_err-next_batch-clause-fault : goal.returns-in_err-next_batch-clause-fault
returns-in_err-next_batch-clause-fault g c = λ is.
    c.in_err-next_batch.ensures.fault (ap (λ (e : ReadError). Err e) (read-fault c.in_err-next_batch.field-0.0 (search (rules, is))))

pub returns-in_err-next_batch-clause-only : goal.returns-in_err-next_batch-clause-only
returns-in_err-next_batch-clause-only g c =
    let p = err_from_is_err_and c.from_residual.result c.from_residual.ensures.1 in
    rw (p.1, p.2) (read-of_sampling c.in_err-next_batch.field-0.0, read-few c.in_err-next_batch.field-0.0)

pub returns-clause-some : goal.returns-clause-some
returns-clause-some g c =
    let s = g.S.Source in
    let reader = c.args.reader.now in
    let drew = c.in_ok-next_batch.ensures.points in
    let is = emptied c.clear.new.self.items drew.0 c.next_batch.new.out.items c.clear.ensures.items drew.1 in
    let n : c.len.result ≡ batch_of 1024 reader = omega (arith, c.len.ensures, c.next_batch.new.out.ok.0, ap length is, drew.2) in
    omega (arith, n, batch-some s.whole s.left s.given s.faults c.args.rules.now c.args.to_come reader c.next_batch.new.self c.requires.ahead 1024 (omega arith) c.requires.some)

pub returns-clause-most : goal.returns-clause-most
returns-clause-most g c =
    let s = g.S.Source in
    let reader = c.args.reader.now in
    let drew = c.in_ok-next_batch.ensures.points in
    let is = emptied c.clear.new.self.items drew.0 c.next_batch.new.out.items c.clear.ensures.items drew.1 in
    let n : c.len.result ≡ batch_of 1024 reader = omega (arith, c.len.ensures, c.next_batch.new.out.ok.0, ap length is, drew.2) in
    omega (arith, n, batch-few s.whole s.left s.given s.faults c.args.rules.now c.args.to_come reader c.next_batch.new.self c.requires.ahead 1024)

pub returns-clause-few : goal.returns-clause-few
returns-clause-few g c =
    let part = part_of c.args.rules.now (opened c.args.octants) in
    let drew = c.in_ok-next_batch.ensures.points in
    let is = emptied c.clear.new.self.items drew.0 c.next_batch.new.out.items c.clear.ensures.items drew.1 in
    let mine : c.select.new.out.items ≡ part drew.0 = emptied c.clear-2.new.self.items (part c.deref.result.now) c.select.new.out.items c.clear-2.ensures.items c.in_ok-select.ensures ∙ ap part (c.deref.ensures.value ∙ is) in
    omega (arith, c.len.ensures, c.next_batch.new.out.ok.0, ap length is, ap length mine, part-few c.args.rules.now (opened c.args.octants) drew.0)

pub returns-clause-ahead : goal.returns-clause-ahead
returns-clause-ahead g c = λ more both.
    let s = g.S.Source in
    let reader = c.args.reader.now in
    let next = c.in_ok-next_batch.ensures in
    let drew = next.points in
    let is = emptied c.clear.new.self.items drew.0 c.next_batch.new.out.items c.clear.ensures.items drew.1 in
    let n : c.len.result ≡ batch_of 1024 reader = omega (arith, c.len.ensures, c.next_batch.new.out.ok.0, ap length is, drew.2) in
    ahead-next s.whole s.left s.given s.faults c.args.rules.now c.args.to_come reader c.next_batch.new.self c.requires.ahead (batch_of 1024 reader) more next.reader next.none next.left next.allowed next.files (ap (λ (k : ℕ). k + more) (sym n) ∙ both)

pub returns-clause-inside : goal.returns-clause-inside
returns-clause-inside g c =
    let s = g.S.Source in
    let rules = c.args.rules.now in
    let octants = opened c.args.octants in
    let part = part_of rules octants in
    let drew = c.in_ok-next_batch.ensures.points in
    let is = emptied c.clear.new.self.items drew.0 c.next_batch.new.out.items c.clear.ensures.items drew.1 in
    let mine : c.select.new.out.items ≡ part drew.0 = emptied c.clear-2.new.self.items (part c.deref.result.now) c.select.new.out.items c.clear-2.ensures.items c.in_ok-select.ensures ∙ ap part (c.deref.ensures.value ∙ is) in
    subst (λ (w : List Point). AllInCube rules.cube w) (sym mine)
    (part-inside rules octants drew.0 (drawn-inside s.whole s.left s.given s.faults rules c.args.to_come c.args.reader.now c.next_batch.new.self c.requires.ahead drew.0 drew.3))

pub returns-clause-mine : goal.returns-clause-mine
returns-clause-mine g c = λ points rest.
    let reader = c.args.reader.now in
    let part = part_of c.args.rules.now (opened c.args.octants) in
    let drew = c.in_ok-next_batch.ensures.points in
    let got = (c.in_ok-next_batch.ensures.rest points rest).0 in
    let is = emptied c.clear.new.self.items drew.0 c.next_batch.new.out.items c.clear.ensures.items drew.1 in
    let n : c.len.result ≡ batch_of 1024 reader = omega (arith, c.len.ensures, c.next_batch.new.out.ok.0, ap length is, drew.2) in
    emptied c.clear-2.new.self.items (part c.deref.result.now) c.select.new.out.items c.clear-2.ensures.items c.in_ok-select.ensures
    ∙ (ap part (c.deref.ensures.value ∙ emptied c.clear.new.self.items (take (batch_of 1024 reader) points) c.next_batch.new.out.items c.clear.ensures.items got)
    ∙ ap (λ (k : ℕ). part (take k points)) (sym n))

pub returns-clause-rest : goal.returns-clause-rest
returns-clause-rest g c = λ points rest.
    let reader = c.args.reader.now in
    let drew = c.in_ok-next_batch.ensures.points in
    let is = emptied c.clear.new.self.items drew.0 c.next_batch.new.out.items c.clear.ensures.items drew.1 in
    let n : c.len.result ≡ batch_of 1024 reader = omega (arith, c.len.ensures, c.next_batch.new.out.ok.0, ap length is, drew.2) in
    subst (λ (k : ℕ). IsRest g.S.Source.whole c.next_batch.new.self (drop k points)) (sym n) (c.in_ok-next_batch.ensures.rest points rest).1
