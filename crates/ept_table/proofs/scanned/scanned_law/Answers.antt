use Rattle.ept_table.proofs.Inside.{scanned-fits, scanned-told}
use Rattle.ept_table.proofs.scanned.scanned_law.Goals as goal

pub returns : goal.returns
returns g c = record {
  told = scanned-told g.S.Source.whole g.J.Scan.told c.args.reader.now c.requires.told c.args.kept.now c.args.counts.now c.requires.some c.requires.top c.requires.cube c.requires.counts c.requires.files;
  fits = scanned-fits g.S.Source.whole g.J.Scan.told c.args.reader.now c.requires.told;
}
