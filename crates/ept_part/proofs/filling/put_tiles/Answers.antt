use Rattle.std.proofs.Common.{◌≡◌, ◌∙◌, ℕ, List, [], ◌∷◌, ◌++◌, map, refl, ap, subst, arith, rules, Option, Some, None}
use Rattle.std.specs.Map.Iter.{deref_pair}
use Rattle.std.proofs.lemmas.Map.Iter.{iter_end}
use Rattle.ept_base.specs.Files.{Files, SameFiles, Puts, StepsBy}
use Rattle.ept_point.specs.Packed.{tile}
use Rattle.ept_meta.specs.Output.{File}
use Rattle.ept_table.specs.Octree.{Branch}
use Rattle.ept_publish.specs.Publishing.{PutsAll}
use Rattle.ept_publish.proofs.Putting.{puts-none, puts-more}
use Rattle.ept_part.specs.Names.{part_tile}
use Rattle.ept_part.specs.Filling.{tile_file}
use Rattle.ept_part.proofs.Stages.{fills-none, fills-both, tile-fills}
use Rattle.ept_part.proofs.filling.put_tiles.Goals as goal

reads_same : (now : Option Files) → StepsBy SameFiles now now
reads_same None = tt
reads_same (Some all) = λ name. refl

pub loop-key-init : goal.loop-key-init
loop-key-init g c =
    let s = g.T.Store in
    record {
      put = puts-none (s.files c.args.store.now) (s.files c.args.store.now) (reads_same (s.files c.args.store.now));
      fills = fills-none s.files s.may_leave s.moment s.image_since c.args.octants c.args.store.now;
      later = omega arith;
    }

-- the tiles of the nodes so far, with one more
tiles_more : {A : Type 0} (octants : ℕ) (f : A → Branch) (xs : List A) (x : A) → map (tile_file octants) (map f (xs ++ x ∷ [])) ≡ map (tile_file octants) (map f xs) ++ tile_file octants (f x) ∷ []
tiles_more octants f [] x = refl
tiles_more octants f (y ∷ xs) x = ap (λ (w : List File). tile_file octants (f y) ∷ w) (tiles_more octants f xs x)

pub loop-key-preserved : goal.loop-key-preserved
loop-key-preserved g c =
    let s = g.T.Store in
    let i = c.loop-key in
    let b : Branch = (c.in-Some.key.now, c.in-Some.node.now) in
    record {
      put = puts-more (map (tile_file c.args.octants) (map deref_pair i.yielded)) _ (part_tile c.args.octants b.0) (tile b.1.points) (tiles_more c.args.octants deref_pair i.yielded (c.in-Some.key, c.in-Some.node)) (s.files c.args.store.now) (s.files i.store) (s.files c.put_tile.new.store) i.invariant.put
          (subst (λ (w : List ℕ). StepsBy (Puts (part_tile c.args.octants b.0) w) (s.files i.store) (s.files c.put_tile.new.store)) (c.deref.ensures.value ∙ c.in_ok-bytes.ensures) c.in_ok-put_tile.ensures.puts);
      fills = fills-both s.files s.may_leave s.moment s.image_since c.args.octants c.args.store.now i.store c.put_tile.new.store i.invariant.fills
          (tile-fills s.files s.may_leave s.moment s.image_since c.args.octants b.0 i.store c.put_tile.new.store c.put_tile.ensures.one_tile);
      later = omega (arith, i.invariant.later, c.put_tile.ensures.cause.later);
    }

pub returns-in_err-bytes-clause-fills : goal.returns-in_err-bytes-clause-fills
returns-in_err-bytes-clause-fills g c = c.loop-key.invariant.fills

pub returns-in_err-put_tile-clause-fills : goal.returns-in_err-put_tile-clause-fills
returns-in_err-put_tile-clause-fills g c =
    let s = g.T.Store in
    let i = c.loop-key in
    fills-both s.files s.may_leave s.moment s.image_since c.args.octants c.args.store.now i.store c.put_tile.new.store i.invariant.fills
    (tile-fills s.files s.may_leave s.moment s.image_since c.args.octants c.in-Some.key.now i.store c.put_tile.new.store c.put_tile.ensures.one_tile)

pub returns-clause-fills : goal.returns-clause-fills
returns-clause-fills g c = c.loop-key.invariant.fills

pub returns-clause-puts : goal.returns-clause-puts
returns-clause-puts g c =
    let s = g.T.Store in
    let all : map deref_pair c.loop-key.yielded ≡ c.nodes.result.now.entries = search (rules, iter_end) in
    subst (λ (w : List Branch). StepsBy (PutsAll (map (tile_file c.args.octants) w)) (s.files c.args.store.now) (s.files c.loop-key.store)) (all ∙ c.nodes.ensures.nodes) c.loop-key.invariant.put
