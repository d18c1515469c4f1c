use Rattle.std.proofs.Common.{◌≡◌, ◌++◌, ◌∷◌, [], ◌∙◌, List, ℕ, take, sym, ap, subst}
use Rattle.ept_space.specs.VoxelKey.{VoxelKey}
use Rattle.ept_grid.specs.Node.{Node as GridNode}
use Rattle.ept_check.proofs.Looks.{come, stacked}
use Rattle.ept_check.proofs.seen.Seen.take.Goals as goal

pub returns-clause-above : goal.returns-clause-above
returns-clause-above c =
    let depth : c.from-2.result ≡ c.args.grid.key.depth = c.from-2.ensures ∙ ap (λ (k : VoxelKey). k.depth) (c.from.view_is ∙ c.key.ensures) in
    come c.args.grid c.args.self.now.above.items c.push.new.self.items (c.in_ok-push.ensures.items ∙ ap (λ (w : List GridNode). w ++ c.args.grid ∷ []) (c.truncate.ensures.items ∙ ap (λ (n : ℕ). take n c.args.self.now.above.items) depth)) c.requires

pub returns-clause-stack : goal.returns-clause-stack
returns-clause-stack c =
    let depth : c.from-2.result ≡ c.args.grid.key.depth = c.from-2.ensures ∙ ap (λ (k : VoxelKey). k.depth) (c.from.view_is ∙ c.key.ensures) in
    stacked c.args.grid c.args.self.now.above.items c.push.new.self.items (c.in_ok-push.ensures.items ∙ ap (λ (w : List GridNode). w ++ c.args.grid ∷ []) (c.truncate.ensures.items ∙ ap (λ (n : ℕ). take n c.args.self.now.above.items) depth)) c.requires
