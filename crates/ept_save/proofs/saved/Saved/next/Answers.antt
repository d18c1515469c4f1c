use Rattle.ept_save.proofs.Next.{generation-fits}
use Rattle.ept_save.specs.View.{next_generation}
use Rattle.ept_save.proofs.saved.Saved.next.Goals as goal

pub next_generation-requires : goal.next_generation-requires
next_generation-requires c = generation-fits (next_generation c.args.self.now.current) c.args.kept.now c.args.counts.now c.args.inserted c.args.self.now.lines c.requires
