use Rattle.std.specs.Prelude.{unwrap_or, []}
use Rattle.ept_node.proofs.Tellings.{length-told, inside-told, order-told, ascend-told}
use Rattle.ept_node.proofs.site.Filed.known.Goals as goal

pub returns-clause-inside : goal.returns-clause-inside
returns-clause-inside c = λ told. inside-told c.args.self.now.site.rules.cube c.args.self.now.site.key c.args.self.now.count (unwrap_or told []) c.args.self.now.places

pub returns-clause-in_order : goal.returns-clause-in_order
returns-clause-in_order c = λ told. order-told c.args.self.now.site.rules.cube c.args.self.now.site.key c.args.self.now.count (unwrap_or told [])

pub returns-clause-ascend : goal.returns-clause-ascend
returns-clause-ascend c = λ told once. ascend-told c.args.self.now.site.rules.cube c.args.self.now.site.key c.args.self.now.count (unwrap_or told []) once

pub returns-clause-count : goal.returns-clause-count
returns-clause-count c = λ told. length-told c.args.self.now.site.rules.cube c.args.self.now.site.key c.args.self.now.count (unwrap_or told [])
