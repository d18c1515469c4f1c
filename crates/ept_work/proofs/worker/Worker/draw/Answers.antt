use Rattle.std.proofs.Common.{◌≡◌, ◌∙◌, refl, sym, ap, subst, arith, Bool, not, vec_len, Result, IfOk, IfErr}
use Rattle.ept_table.specs.declared.item.Item.{Item}
use Rattle.ept_table.specs.Item.{seen, seen_reader, broken_by, Filed}
use Rattle.ept_table.specs.Permits.{weight_of}
use Rattle.ept_table.specs.Standing.{known}
use Rattle.ept_work.specs.declared.error.WorkError.{WorkError}
use Rattle.ept_work.specs.Drawing.{DrawsBatch, DrawsNone, IsReadCause}
use Rattle.ept_work.proofs.Known.{seen-reader}
use Rattle.ept_work.proofs.Reading.{fits-taken, has-drawn, drawn-rest, drawn-ok, drawn-err}
use Rattle.ept_work.proofs.worker.Worker.draw.Goals as goal

pub reader_in-requires : goal.reader_in-requires
reader_in-requires g c =
    let r = c.take-item.ensures.fits.reader refl in
    seen-reader g.F.SpillFile.held g.S.Source.whole c.take-item.result r.0 r.1

pub read_batch-reader-requires-clause-told : goal.read_batch-reader-requires-clause-told
read_batch-reader-requires-clause-told g c = c.take-item.ensures.fits.is_told

pub read_batch-reader-requires-clause-fits : goal.read_batch-reader-requires-clause-fits
read_batch-reader-requires-clause-fits g c =
    let r = c.take-item.ensures.fits.reader refl in
    fits-taken g.F.SpillFile.held g.S.Source.whole g.J.Scan.told c.take-item.result c.reader_in.result r.0 c.reader_in.ensures r.1 r.2

pub read_batch-reader-requires-clause-filed : goal.read_batch-reader-requires-clause-filed
read_batch-reader-requires-clause-filed g c =
    subst (λ (x : Item g.row.F.Denot g.row.S.Denot). Filed g.F.SpillFile.held g.F.SpillFile.faults g.F.SpillFile.keeps g.S.Source.whole g.S.Source.left g.S.Source.given g.S.Source.faults g.J.Scan.told x) c.reader_in.ensures c.take-item.ensures.filed

pub give-done-requires-clause-visit : goal.give-done-requires-clause-visit
give-done-requires-clause-visit g c = (
  c.take-item.result,
  c.take-item.ensures.holds,
  (
    c.read_batch-reader.result.batch.items,
    record {
      old = seen_reader g.S.Source.whole c.reader_in.result;
      new = seen_reader g.S.Source.whole c.read_batch-reader.result.reader;
      slot = refl;
      taken = ap (λ (x : Item g.row.F.Denot g.row.S.Denot). seen g.F.SpillFile.held g.S.Source.whole x) c.reader_in.ensures;
      given = refl;
      has_read = c.read_batch-reader.ensures.reads.0;
      actor = c.args.self.now.number;
      flies = c.of.ensures ∙ c.launched-fresh.ensures;
    },
  ),
  λ why is. sym (ap (λ (x : Item g.row.F.Denot g.row.S.Denot). broken_by x) c.reader_in.ensures) ∙ is,
)

pub give-done-requires-clause-filed : goal.give-done-requires-clause-filed
give-done-requires-clause-filed g c = c.read_batch-reader.ensures.reads.1

pub returns-clause-rest : goal.returns-clause-rest
returns-clause-rest g c =
    let r = c.take-item.ensures.fits.reader refl in
    let v = known g.F.SpillFile.held g.S.Source.whole c.args.self.now.seat.me.0 in
    let w = known g.F.SpillFile.held g.S.Source.whole c.give-done.new.seat.me.0 in
    let points = c.read_batch-reader.result.batch.items in
    let h = has-drawn g.J.Scan.told c.args.self.now.number v (known g.F.SpillFile.held g.S.Source.whole c.take-item.new.seat.me.0) w (seen g.F.SpillFile.held g.S.Source.whole c.take-item.result) (seen_reader g.S.Source.whole c.reader_in.result) (seen_reader g.S.Source.whole c.read_batch-reader.result.reader) points c.of.result c.take-item.ensures.known c.give-done.ensures.known (c.of.ensures ∙ c.launched-fresh.ensures) (fits-taken g.F.SpillFile.held g.S.Source.whole g.J.Scan.told c.take-item.result c.reader_in.result r.0 c.reader_in.ensures r.1 r.2) c.read_batch-reader.ensures.reads.0 in
    drawn-rest g.J.Scan.told c.args.self.now.number v w points h c.take-item.ensures.fits.is_told c.requires.rest

pub returns-clause-ok : goal.returns-clause-ok
returns-clause-ok g c =
    let r = c.take-item.ensures.fits.reader refl in
    let v = known g.F.SpillFile.held g.S.Source.whole c.args.self.now.seat.me.0 in
    let w = known g.F.SpillFile.held g.S.Source.whole c.give-done.new.seat.me.0 in
    let points = c.read_batch-reader.result.batch.items in
    let h = has-drawn g.J.Scan.told c.args.self.now.number v (known g.F.SpillFile.held g.S.Source.whole c.take-item.new.seat.me.0) w (seen g.F.SpillFile.held g.S.Source.whole c.take-item.result) (seen_reader g.S.Source.whole c.reader_in.result) (seen_reader g.S.Source.whole c.read_batch-reader.result.reader) points c.of.result c.take-item.ensures.known c.give-done.ensures.known (c.of.ensures ∙ c.launched-fresh.ensures) (fits-taken g.F.SpillFile.held g.S.Source.whole g.J.Scan.told c.take-item.result c.reader_in.result r.0 c.reader_in.ensures r.1 r.2) c.read_batch-reader.ensures.reads.0 in
    subst (λ (a : Result Bool WorkError). IfOk a (λ some. DrawsBatch g.J.Scan.told c.args.self.now.number v w some)) (sym c.answer.ensures) (drawn-ok g.J.Scan.told c.args.self.now.number v w points h c.read_batch-reader.result.read (not c.is_empty-is_some.result) (vec_len c.read_batch-reader.result.batch) c.read_batch-reader.ensures.sound c.read_batch-reader.ensures.batch (ap not c.is_empty-is_some.ensures) c.read_batch-reader.result.batch.ok.0)

pub returns-clause-refused : goal.returns-clause-refused
returns-clause-refused g c =
    let r = c.take-item.ensures.fits.reader refl in
    let v = known g.F.SpillFile.held g.S.Source.whole c.args.self.now.seat.me.0 in
    let w = known g.F.SpillFile.held g.S.Source.whole c.give-done.new.seat.me.0 in
    let points = c.read_batch-reader.result.batch.items in
    let h = has-drawn g.J.Scan.told c.args.self.now.number v (known g.F.SpillFile.held g.S.Source.whole c.take-item.new.seat.me.0) w (seen g.F.SpillFile.held g.S.Source.whole c.take-item.result) (seen_reader g.S.Source.whole c.reader_in.result) (seen_reader g.S.Source.whole c.read_batch-reader.result.reader) points c.of.result c.take-item.ensures.known c.give-done.ensures.known (c.of.ensures ∙ c.launched-fresh.ensures) (fits-taken g.F.SpillFile.held g.S.Source.whole g.J.Scan.told c.take-item.result c.reader_in.result r.0 c.reader_in.ensures r.1 r.2) c.read_batch-reader.ensures.reads.0 in
    subst (λ (a : Result Bool WorkError). IfErr a (λ e. IsReadCause w e × DrawsNone g.J.Scan.told c.args.self.now.number v w)) (sym c.answer.ensures) (drawn-err g.J.Scan.told c.args.self.now.number v w points h c.read_batch-reader.result.read (not c.is_empty-is_some.result) c.read_batch-reader.ensures.none c.read_batch-reader.ensures.failed)

pub returns-clause-permits : goal.returns-clause-permits
returns-clause-permits g c =
    let none : weight_of c.take-item.result ≡ 0 = ap (λ (x : Item g.row.F.Denot g.row.S.Denot). weight_of x) c.reader_in.ensures in
    omega (arith, none, c.take-item.ensures.permits, c.give-done.ensures.permits)
