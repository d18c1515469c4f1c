use Rattle.std.proofs.Common.{◌≡◌, ◌∙◌, ℕ, ◌<◌, ◌≤◌, ◌^◌, [], ◌∷◌, length, vec_len, sym, ap, subst, arith}
use Rattle.std.specs.List.{sum_by}
use Rattle.ept_slots.specs.Views.{first_view}
use Rattle.ept_forest.specs.Slots.{nodes_of, used_of}
use Rattle.ept_table.specs.Steps.{first_note}
use Rattle.ept_table.specs.Standing.{Stands}
use Rattle.ept_table.specs.Row.{items_of}
use Rattle.ept_forest.specs.Slots.{residents_of}
use Rattle.ept_table.specs.Permits.{weight_of}
use Rattle.ept_table.proofs.Rows.{row-weight, make-stands, landed-low, landed-most, items-same}
use Rattle.ept_table.proofs.table.NodeTable.make.Goals as goal

pub new-requires-clause-start : goal.new-requires-clause-start
new-requires-clause-start g c =
    let low : used_of c.args.forest ≤ g.J.Scan.told.most = landed-low g.F.SpillFile.held g.F.SpillFile.faults g.F.SpillFile.keeps g.S.Source.whole g.S.Source.left g.S.Source.given g.S.Source.faults g.J.Scan.told (used_of c.args.forest) c.args.reader (nodes_of c.args.forest) c.requires.landed in
    let all : length (nodes_of c.args.forest) ≡ g.J.Scan.told.most = landed-most g.F.SpillFile.held g.F.SpillFile.faults g.F.SpillFile.keeps g.S.Source.whole g.S.Source.left g.S.Source.given g.S.Source.faults g.J.Scan.told (used_of c.args.forest) c.args.reader (nodes_of c.args.forest) c.requires.landed in
    let used : c.into_nodes-nodes.result.1 ≡ used_of c.args.forest = c.into_nodes-nodes.ensures.used in
    let nodes : length c.into_nodes-nodes.result.0.items ≡ length (nodes_of c.args.forest) = ap length c.into_nodes-nodes.ensures.nodes in
    let counted : vec_len c.into_nodes-nodes.result.0 ≡ length c.into_nodes-nodes.result.0.items = c.into_nodes-nodes.result.0.ok.0 in
    let told : c.len.result ≡ vec_len c.into_nodes-nodes.result.0 = c.len.ensures in
    let most : c.in-Ok.most ≡ c.len.result = c.in-Ok.ensures.1 in
    (omega (arith, low, all, used, nodes, counted, told, most), omega (arith, all, nodes, counted, told, most))

pub new-requires-clause-permits : goal.new-requires-clause-permits
new-requires-clause-permits g c =
    let laid : c.in-Ok-lay.laid.items.items ≡ items_of c.args.reader c.into_nodes-nodes.result.0.items = c.in-Ok-lay.ensures.items in
    let weight : sum_by weight_of c.in-Ok-lay.laid.items.items ≡ residents_of c.into_nodes-nodes.result.0.items = ap (λ xs. sum_by weight_of xs) laid ∙ row-weight g.row.F.Denot g.row.S.Denot c.args.reader c.into_nodes-nodes.result.0.items in
    let cache : c.args.cache ≡ g.J.Scan.told.cache = c.requires.cache.0 in
    let few : residents_of (nodes_of c.args.forest) ≤ g.J.Scan.told.cache = c.requires.cache.1 in
    let nodes : residents_of c.into_nodes-nodes.result.0.items ≡ residents_of (nodes_of c.args.forest) = ap residents_of c.into_nodes-nodes.ensures.nodes in
    let fits : c.args.cache < 2 ^ 32 = c.ranges.cache.fits in
    let from : c.from.result ≡ c.args.cache = c.from.ensures in
    let here : c.residents.result ≡ residents_of (nodes_of c.args.forest) = c.residents.ensures in
    (omega (arith, weight, cache, few, nodes, from, here), omega (arith, cache, fits))

pub new-requires-clause-rule : goal.new-requires-clause-rule
new-requires-clause-rule g c =
    subst (λ (n : ℕ). Stands g.F.SpillFile.held g.F.SpillFile.faults g.F.SpillFile.keeps g.S.Source.whole g.S.Source.left g.S.Source.given g.S.Source.faults g.J.Scan.told n c.in-Ok-lay.laid.items.items (first_view c.in-Ok.most (first_note g.J.Scan.told) ∷ [])) (sym c.into_nodes-nodes.ensures.used)
    (make-stands g.F.SpillFile.held g.F.SpillFile.faults g.F.SpillFile.keeps g.S.Source.whole g.S.Source.left g.S.Source.given g.S.Source.faults g.J.Scan.told c.in-Ok.most (used_of c.args.forest) c.args.reader (nodes_of c.args.forest) c.in-Ok-lay.laid.items.items (c.in-Ok-lay.ensures.items ∙ ap (λ ns. items_of c.args.reader ns) c.into_nodes-nodes.ensures.nodes) c.requires.landed c.requires.filed c.requires.nodes)

pub take_apart-requires-clause-items : goal.take_apart-requires-clause-items
take_apart-requires-clause-items g c =
    (c.args.reader, c.into_nodes-nodes.result.0.items, c.in-Err-new.ensures.refused ∙ c.in-Ok-lay.ensures.items, c.in-Ok-lay.ensures.spare.1)

pub returns-in-Err-new-clause-forest : goal.returns-in-Err-new-clause-forest
returns-in-Err-new-clause-forest g c =
    let same = items-same c.take_apart.result.reader c.args.reader c.take_apart.result.nodes.items c.into_nodes-nodes.result.0.items (sym c.take_apart.ensures ∙ (c.in-Err-new.ensures.refused ∙ c.in-Ok-lay.ensures.items)) in
    (c.given_up-in-Err-new.ensures.forest.0 ∙ (same.1 ∙ c.into_nodes-nodes.ensures.nodes), c.given_up-in-Err-new.ensures.forest.1 ∙ c.into_nodes-nodes.ensures.used)
