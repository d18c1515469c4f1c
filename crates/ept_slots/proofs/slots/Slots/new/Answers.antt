use Rattle.std.proofs.Common.{◌≡◌, ℕ, ◌+◌, ◌<◌, ◌≤◌, [], ◌∷◌, length, replicate, set, ◌^◌, refl, subst, ◌∙◌, ap, arith}
use Rattle.ept_slots.specs.Views.{first_view}
use Rattle.ept_slots.specs.Laid.{IsLaid}
use Rattle.ept_slots.proofs.Ends.{starts, first-words}
use Rattle.ept_slots.proofs.Layings.{laid-same}
use Rattle.ept_slots.proofs.slots.Slots.new.Goals as goal

pub new-requires : goal.new-requires
new-requires g c = let all = c.args.items in let key = c.args.key.now in let most : ℕ = g.R.SlotRule.most key in let is : c.args.most ≡ most = c.requires.start.1 in
    let same : c.len-count.result ≡ length all.items = c.len-count.ensures ∙ all.ok.0 in
    let words = first-words (length all.items) c.args.drawn c.args.free c.in-Ok.words.items (set c.in-Ok.words.items 0 c.args.drawn) c.as_slice.result.now (c.in-Ok.ensures.items_if_clones_equal (λ y e. e) ∙ ap (λ n. replicate (n + 2) 0) same) refl c.as_slice.ensures.value in
    let fits : c.args.most < 2 ^ 32 = c.ranges.most.fits in let enough : c.args.drawn ≤ c.args.most = c.requires.start.0 in
    starts g.R.SlotRule.weight (g.R.SlotRule.permits key) most (g.R.SlotRule.holds key) c.args.drawn c.args.free (g.R.SlotRule.first key) all.items c.as_slice.result.now c.in_ok-slots.slots.items (omega arith) c.requires.permits.1 (omega arith) c.requires.permits.0 c.in_ok-slots.ensures.laid words.0 words.1 words.2 words.3
    (subst (λ z. g.R.SlotRule.holds key c.args.drawn all.items (first_view z (g.R.SlotRule.first key) ∷ [])) is c.requires.rule)

pub returns-clause-refused : goal.returns-clause-refused
returns-clause-refused g c = laid-same c.take_back.result.items c.args.items.items c.in_ok-slots.slots.items (subst (IsLaid c.take_back.result.items) c.in-Err.ensures.err c.take_back.ensures) c.in_ok-slots.ensures.laid
