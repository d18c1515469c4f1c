use Rattle.ept_work.proofs.Reading.{read-any}
use Rattle.ept_work.proofs.worker.read_batch.Goals as goal

pub returns-clause-reads : goal.returns-clause-reads
returns-clause-reads g c =
    let n = c.next_batch-read.ensures in
    read-any g.S.Source.whole g.S.Source.left g.S.Source.given g.S.Source.faults g.J.Scan.told 1024 c.args.reader c.next_batch-read.new.self c.requires.told c.requires.fits c.requires.filed n.files n.reader c.next_batch-read.new.out.items c.args.batch.items c.next_batch-read.result c.requires.empty n.drawn n.allowed n.left n.left_unchanged n.points n.rest n.no_change n.unchanged n.memory n.refusal n.again n.none
