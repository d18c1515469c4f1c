use Rattle.ept_table.proofs.Planting.{planted-landed, planted-filed, planted-few}
use Rattle.ept_table.proofs.making.plant_law.Goals as goal

pub returns : goal.returns
returns g c = record {
  landed = planted-landed g.F.SpillFile.held g.F.SpillFile.faults g.F.SpillFile.keeps g.S.Source.whole g.J.Scan.told c.args.forest.now c.args.reader.now c.requires.told c.requires.points c.requires.begun c.requires.planted c.requires.fits c.requires.undrawn c.requires.sound;
  nodes = planted-filed g.F.SpillFile.held g.F.SpillFile.faults g.F.SpillFile.keeps g.J.Scan.told c.args.forest.now c.requires.planted c.requires.telling;
  few = planted-few g.F.SpillFile.held g.F.SpillFile.faults g.F.SpillFile.keeps g.J.Scan.told c.args.forest.now c.requires.planted;
}
