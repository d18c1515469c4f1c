use Rattle.std.proofs.Common.{◌≡◌, ◌∙◌, ℕ, ◌+◌, ◌≤◌, min, map, length, vec_capacity, sym, ap, subst, arith, Some}
use Rattle.ept_slots.specs.Seating.{count_of}
use Rattle.ept_table.specs.Tells.{IsEnded}
use Rattle.ept_table.specs.Item.{seen, IsFiledNode}
use Rattle.ept_table.specs.Standing.{known}
use Rattle.ept_table.specs.Row.{items_of}
use Rattle.ept_forest.specs.Slots.{residents_of}
use Rattle.ept_table.specs.Permits.{weight_of}
use Rattle.ept_forest.specs.Slots.{nodes_of}
use Rattle.std.specs.List.{sum_by, All, Any}
use Rattle.ept_node.specs.Shown.{fault_of}
use Rattle.ept_table.proofs.Glue.{at-from}
use Rattle.ept_table.proofs.Allowed.{ended-known}
use Rattle.ept_table.proofs.Rows.{row-weight, closed-row, closed-most, filed-first, filed-rest, broken-rest}
use Rattle.ept_table.proofs.table.NodeTable.close.Goals as goal
use Rattle.ept_table.proofs.table.NodeTable.close.Goals.{then-drawn-from, else-drawn-from}

pub take_apart-nodes-requires-clause-items : goal.take_apart-nodes-requires-clause-items
take_apart-nodes-requires-clause-items g c =
    let e = c.close-ending.ensures.ended in
    let all = closed-row g.F.SpillFile.held g.F.SpillFile.faults g.F.SpillFile.keeps g.S.Source.whole g.S.Source.left g.S.Source.given g.S.Source.faults g.J.Scan.told c.close-ending.result.drawn c.close-ending.result.items.items (map (known g.F.SpillFile.held g.S.Source.whole) e.0) e.2.rule in
    let most : length all.1 ≡ g.J.Scan.told.most = closed-most g.F.SpillFile.held g.F.SpillFile.faults g.F.SpillFile.keeps g.S.Source.whole g.S.Source.left g.S.Source.given g.S.Source.faults g.J.Scan.told c.close-ending.result.drawn c.close-ending.result.items.items (map (known g.F.SpillFile.held g.S.Source.whole) e.0) all.0 all.1 e.2.rule all.2 in
    let slots : count_of c.args.self.slots ≡ g.J.Scan.told.most + 1 = c.requires.slots in
    let room : count_of c.args.self.slots ≤ vec_capacity c.args.self.spare + 1 = c.args.self.room in
    (all.0, all.1, all.2, omega (arith, most, slots, room))

pub returns-clause-ended : goal.returns-clause-ended
returns-clause-ended g c =
    let e = c.close-ending.ensures.ended in
    let slots : count_of c.args.self.slots ≡ g.J.Scan.told.most + 1 = c.requires.slots in
    let limit : count_of c.args.self.slots ≡ c.args.self.most + 1 = c.args.self.limit in
    let wide : c.from.result ≡ c.args.self.most = c.from.ensures in
    let used : c.from_nodes.result.used ≡ c.if-drawn-from.used = c.from_nodes.ensures.used in
    let drawn : ℕ = c.close-ending.result.drawn in
    let least : c.if-drawn-from.used ≡ min drawn g.J.Scan.told.most = elim c.if-drawn-from.branch [
      | then-drawn-from w ↦ omega (arith, w.if-drawn-from.true, w.used-is, slots, limit, wide)
      | else-drawn-from w ↦ omega (arith, w.if-drawn-from.false, w.used-is, slots, limit, wide)
    ] in
    (drawn, used ∙ least, subst (λ xs. IsEnded g.J.Scan.told drawn (map (seen g.F.SpillFile.held g.S.Source.whole) xs) (known g.F.SpillFile.held g.S.Source.whole c.args.seat.me.0)) (c.take_apart-nodes.ensures ∙ ap (λ ns. items_of c.take_apart-nodes.result.reader ns) (sym c.from_nodes.ensures.nodes)) (ended-known g.row.F.Denot g.row.S.Denot g.F.SpillFile.held g.F.SpillFile.faults g.F.SpillFile.keeps g.S.Source.whole g.S.Source.left g.S.Source.given g.S.Source.faults g.J.Scan.told drawn c.close-ending.result.items.items c.args.seat.id c.args.seat.me.0 e c.requires.idle.0))

pub returns-clause-filed : goal.returns-clause-filed
returns-clause-filed g c =
    filed-first g.F.SpillFile.held g.F.SpillFile.faults g.F.SpillFile.keeps g.S.Source.whole g.S.Source.left g.S.Source.given g.S.Source.faults g.J.Scan.told c.close-ending.result.items.items c.take_apart-nodes.result.reader c.take_apart-nodes.result.nodes.items c.take_apart-nodes.ensures c.close-ending.ensures.ended.2.filed

pub returns-clause-nodes : goal.returns-clause-nodes
returns-clause-nodes g c =
    subst (λ ns. All (IsFiledNode g.F.SpillFile.held g.F.SpillFile.faults g.F.SpillFile.keeps g.J.Scan.told) ns) (sym c.from_nodes.ensures.nodes) (filed-rest g.F.SpillFile.held g.F.SpillFile.faults g.F.SpillFile.keeps g.S.Source.whole g.S.Source.left g.S.Source.given g.S.Source.faults g.J.Scan.told c.close-ending.result.items.items c.take_apart-nodes.result.reader c.take_apart-nodes.result.nodes.items c.take_apart-nodes.ensures c.close-ending.ensures.ended.2.filed)

pub returns-clause-cached : goal.returns-clause-cached
returns-clause-cached g c =
    let row = c.take_apart-nodes.ensures ∙ ap (λ ns. items_of c.take_apart-nodes.result.reader ns) (sym c.from_nodes.ensures.nodes) in
    let weight : sum_by weight_of c.close-ending.result.items.items ≡ residents_of (nodes_of c.from_nodes.result) = ap (λ xs. sum_by weight_of xs) row ∙ row-weight g.row.F.Denot g.row.S.Denot c.take_apart-nodes.result.reader (nodes_of c.from_nodes.result) in
    let all : c.close-ending.result.free + c.args.seat.me.0.permits + sum_by weight_of c.close-ending.result.items.items ≡ g.J.Scan.told.cache = c.close-ending.ensures.permits in
    omega (arith, weight, all)

pub returns-clause-broken : goal.returns-clause-broken
returns-clause-broken g c = λ why noted.
    let e = c.close-ending.ensures.ended in
    let has = e.2.broken c.args.seat.id c.args.seat.me.0 why (at-from e.0 c.args.seat.id c.args.seat.me.0 e.3) noted in
    subst (λ ns. Any (λ n. fault_of n ≡ Some why) ns) (sym c.from_nodes.ensures.nodes) (broken-rest g.F.SpillFile.held g.F.SpillFile.faults g.F.SpillFile.keeps g.S.Source.whole g.S.Source.left g.S.Source.given g.S.Source.faults g.J.Scan.told c.close-ending.result.items.items c.take_apart-nodes.result.reader c.take_apart-nodes.result.nodes.items c.take_apart-nodes.ensures why has)
