use Rattle.std.proofs.Common.{◌≡◌, ◌∙◌, inl, inr, ◌≤◌, ◌<◌, ◌^◌, List, [], ◌∷◌, ◌++◌, map, refl, sym, ap, subst, rules}
use Rattle.std.specs.Map.Iter.{deref_pair}
use Rattle.std.proofs.lemmas.Map.Iter.{iter_end}
use Rattle.ept_space.specs.VoxelKey.{IsKey}
use Rattle.ept_ckpt.specs.declared.node_line.NodeLine.{NodeLine}
use Rattle.ept_table.specs.Octree.{Branch}
use Rattle.ept_octree_ckpt.specs.Saving.{AreKnown}
use Rattle.ept_part.specs.Filling.{line_for}
use Rattle.ept_part.proofs.lines.lines_of.Goals as goal

abbrev IsKnown : Branch → Type 0
IsKnown b = IsKey b.0 × (b.1.key.depth ≤ b.1.rules.cube.depth) × (b.1.mask < 2 ^ 8)

-- the lines of the nodes so far, with one more
lines_join : {X : Type 0} (f : X → Branch) (xs : List X) (x : X) → map line_for (map f (xs ++ x ∷ [])) ≡ map line_for (map f xs) ++ line_for (f x) ∷ []
lines_join f [] x = refl
lines_join f (y ∷ ys) x = ap (λ (w : List NodeLine). line_for (f y) ∷ w) (lines_join f ys x)

lines-more : {X : Type 0} (f : X → Branch) (xs : List X) (x : X) (old new : List NodeLine) (line : NodeLine) → old ≡ map line_for (map f xs) → new ≡ old ++ line ∷ [] → line ≡ line_for (f x) → new ≡ map line_for (map f (xs ++ x ∷ []))
lines-more f xs x old new line so more is =
    more ∙ (ap (λ (w : List NodeLine). w ++ line ∷ []) so ∙ (ap (λ (l : NodeLine). map line_for (map f xs) ++ l ∷ []) is ∙ sym (lines_join f xs x)))

known-more : {X : Type 0} (f : X → Branch) (xs : List X) (x : X) → AreKnown (map f xs) → IsKnown (f x) → AreKnown (map f (xs ++ x ∷ []))
known-more f [] x are here b (inl is) = subst (λ (w : Branch). IsKnown w) is here
known-more f [] x are here b (inr m) = absurd m
known-more f (y ∷ ys) x are here b (inl is) = are b (inl is)
known-more f (y ∷ ys) x are here b (inr m) = known-more f ys x (λ d i. are d (inr i)) here b m

pub loop-key-init : goal.loop-key-init
loop-key-init c = record { lines = c.in_ok-lines.ensures.items; known = λ b m. absurd m }

pub loop-key-preserved : goal.loop-key-preserved
loop-key-preserved c =
    let i = c.loop-key in
    record {
      lines = lines-more deref_pair i.yielded (c.in-Some.key, c.in-Some.node) i.lines.items _ c.line_of.result i.invariant.lines c.in_ok-push.ensures.items c.line_of.ensures.line;
      known = known-more deref_pair i.yielded (c.in-Some.key, c.in-Some.node) i.invariant.known (c.line_of.ensures.is_key, c.line_of.ensures.shallow, c.line_of.ensures.byte);
    }

pub returns-clause-lines : goal.returns-clause-lines
returns-clause-lines c =
    let all : map deref_pair c.loop-key.yielded ≡ c.nodes-nodes.result.now.entries = search (rules, iter_end) in
    c.loop-key.invariant.lines ∙ ap (map line_for) (all ∙ c.nodes-nodes.ensures.nodes)

pub returns-clause-known : goal.returns-clause-known
returns-clause-known c =
    let all : map deref_pair c.loop-key.yielded ≡ c.nodes-nodes.result.now.entries = search (rules, iter_end) in
    subst (λ (w : List Branch). AreKnown w) (all ∙ c.nodes-nodes.ensures.nodes) c.loop-key.invariant.known
