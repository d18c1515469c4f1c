use Rattle.std.proofs.Common.{◌≡◌, ◌∙◌, suc, ◌+◌, ◌≤◌, [], ◌∷◌, ◌++◌, reverse, length, vec_capacity, sym, ap, arith, length-append}
use Rattle.ept_table.specs.Row.{items_of}
use Rattle.ept_table.proofs.Rows.{cons-parts, reader-same, turned, turned-again, back-step, one-more-back}
use Rattle.ept_table.proofs.making.take_apart.Goals as goal

pub reader_in-reader-requires : goal.reader_in-reader-requires
reader_in-reader-requires g c =
    let all = turned c.args.laid.items.items c.pop-first.new.self.items c.in-Some.first (sym c.reverse.ensures.items ∙ c.in-Some.ensures.items) in
    (c.requires.items.0, (cons-parts _ _ _ _ (sym all ∙ c.requires.items.2)).0)

pub loop-item-init : goal.loop-item-init
loop-item-init g c =
    let all = turned c.args.laid.items.items c.pop-first.new.self.items c.in-Some.first (sym c.reverse.ensures.items ∙ c.in-Some.ensures.items) in
    let parts = cons-parts _ _ _ _ (sym all ∙ c.requires.items.2) in
    let reader = reader-same (c.requires.items.0) c.reader_in-reader.result (sym parts.0 ∙ c.reader_in-reader.ensures) in
    let none : length c.args.laid.spare.items ≡ 0 = ap length c.requires.spare in (
      c.requires.items.1,
      c.requires.items.2 ∙ (ap (λ r. items_of r c.requires.items.1) reader ∙ ap (λ ns. items_of c.reader_in-reader.result (ns ++ c.requires.items.1)) (sym c.requires.spare)),
      parts.1,
      (let room : length c.requires.items.1 ≤ vec_capacity c.args.laid.spare = c.requires.items.3 in omega (arith, none, room)),
    )

pub node_in-requires : goal.node_in-requires
node_in-requires g c =
    let i = c.loop-item.invariant in
    let step = back-step c.in-Some-pop.item (reverse c.pop.new.self.items) i.0 (sym (turned-again c.loop-item.items.items c.pop.new.self.items c.in-Some-pop.item c.in-Some-pop.ensures.items) ∙ i.2) in
    (step.0, step.3)

pub loop-item-preserved : goal.loop-item-preserved
loop-item-preserved g c =
    let i = c.loop-item.invariant in
    let step = back-step c.in-Some-pop.item (reverse c.pop.new.self.items) i.0 (sym (turned-again c.loop-item.items.items c.pop.new.self.items c.in-Some-pop.item c.in-Some-pop.ensures.items) ∙ i.2) in
    let now = c.push_reserved.ensures.items in
    let room : length c.loop-item.nodes.items + length i.0 ≤ vec_capacity c.loop-item.nodes = i.3 in
    let same : vec_capacity c.push_reserved.new.self ≡ vec_capacity c.loop-item.nodes = c.push_reserved.ensures.capacity in
    let longer : length c.push_reserved.new.self.items ≡ length c.loop-item.nodes.items + 1 = ap length now ∙ length-append c.loop-item.nodes.items (c.node_in.result ∷ []) in
    let fewer : length i.0 ≡ suc (length step.1) = ap length step.2 in (
      step.1,
      one-more-back c.reader_in-reader.result c.args.laid.items.items c.loop-item.nodes.items i.0 step.1 step.0 c.node_in.result c.in-Some-pop.item c.push_reserved.new.self.items i.1 step.2 step.3 c.node_in.ensures now,
      step.4,
      omega (arith, room, same, longer, fewer),
    )
