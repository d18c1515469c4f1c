use Rattle.ept_hier.proofs.HierarchyLaws.{counts-once, links-filed}
use Rattle.ept_hier.proofs.laws.hierarchy_law.Goals as goal

pub returns : goal.returns
returns c = record { once = counts-once; links = links-filed }
