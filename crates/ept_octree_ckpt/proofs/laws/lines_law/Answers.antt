use Rattle.ept_octree_ckpt.proofs.Telling.{whole-told, told-whole, kept-each}
use Rattle.ept_octree_ckpt.proofs.laws.lines_law.Goals as goal

pub returns-clause-told : goal.returns-clause-told
returns-clause-told c = whole-told

pub returns-clause-whole : goal.returns-clause-whole
returns-clause-whole c = told-whole

pub returns-clause-each : goal.returns-clause-each
returns-clause-each c = kept-each
