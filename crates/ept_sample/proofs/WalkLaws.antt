-- The walk from the top down, step by step.
use Rattle.std.proofs.Common.{◌≡◌, ◌∙◌, ℕ, zero, suc, ◌+◌, ◌-◌, ◌≤◌, ◌<◌, Bool, true, false, cond, ◌&&◌, ◌==◌, nat_lt, List, [], ◌∷◌, ◌++◌, refl, sym, ap, subst, arith, filter, length}
use Rattle.std.proofs.lemmas.Bool.Decides.{nat_tests}
use Rattle.std.proofs.lemmas.List.{append-nil}
use Rattle.ept_space.proofs.Family.{depth-child}
use Rattle.ept_point.specs.declared.point.Point.{Point}
use Rattle.ept_space.specs.declared.cube.Rules.{Rules}
use Rattle.ept_sample.specs.Arrivals.{loses, octant, losers, overflows, kept, none_open, has_too_many}
use Rattle.ept_sample.specs.Walk.{Node, node_of, nodes_of_octants, nodes_below, with_nodes}
use Rattle.std.specs.BTreeMap.{insert_entry}
use Rattle.std.specs.List.{All}
use Rattle.std.proofs.lemmas.List.Sums.{length-filter}
use Rattle.std.proofs.lemmas.List.Elements.{All-filter}
use Rattle.ept_space.specs.VoxelKey.{VoxelKey, child, key_cmp}
use Rattle.ept_space.specs.OctreeCube.{IsCube, InCube, InBox}
use Rattle.ept_space.proofs.PlaceKeys.{InBox-child}
use Rattle.ept_sample.specs.Place.{place, AllInCube, AllInBox}
use Rattle.ept_sample.proofs.Members.{IsMember-filter, All-members, all-member, filter-filter}
use Rattle.ept_sample.proofs.ArrivalLaws.{same_number}
use Rattle.ept_sample.proofs.SamplingLaws.{depth-side}
use Rattle.ept_sample.proofs.Choices.{and_right}

and_left_false : (b c : Bool) → b ≡ false → (b && c) ≡ false
and_left_false b c e = ap (λ (x : Bool). x && c) e

-- no octant overflows at the greatest depth
pub overflows-deepest : (rules : Rules) (depth : ℕ) (given : List Point) (o : ℕ) → nat_lt depth rules.cube.depth ≡ false → overflows rules depth given o ≡ false
unfolding overflows
overflows-deepest rules depth given o deepest = and_left_false (nat_lt depth rules.cube.depth) _ deepest

-- ---- losers, octant by octant

-- the losers of an octant are those of its points among all that lose
pub losers-steps : (rules : Rules) (depth : ℕ) (given : List Point) (o : ℕ) → filter (λ p. octant rules depth p == o) (filter (loses rules depth given) given) ≡ losers rules depth given o
unfolding losers
losers-steps rules depth given o = filter-filter (loses rules depth given) (λ p. octant rules depth p == o) given

pub too_many-overflows : (rules : Rules) (depth : ℕ) (given losing : List Point) (o : ℕ) → losing ≡ filter (loses rules depth given) given → has_too_many rules depth losing o ≡ overflows rules depth given o
unfolding overflows
too_many-overflows rules depth given losing o is =
    ap (λ (n : ℕ). nat_lt depth rules.cube.depth && nat_lt rules.threshold n) (sym (length-filter (λ p. octant rules depth p == o) losing) ∙ (ap (λ (xs : List Point). length (filter (λ p. octant rules depth p == o) xs)) is ∙ ap (λ (xs : List Point). length xs) (losers-steps rules depth given o)))

-- what holds of each given point holds of each that passes a test
pub All-passed : (P : Point → Type 0) (test : Point → Bool) (given items xs : List Point) → xs ≡ items → items ≡ filter test given → All P given → All P xs
All-passed P test given items xs e is all = let M : List Point → Type 0 = λ w. All P w in subst M (sym (e ∙ is)) (All-filter test P given all)

-- the same list, if the depth is given in two ways
pub losing-at : (rules : Rules) (d depth : ℕ) (given items xs : List Point) → d ≡ depth → xs ≡ items → items ≡ filter (loses rules d given) given → xs ≡ filter (loses rules depth given) given
losing-at rules d depth given items xs at e is =
    e ∙ (is ∙ ap (λ (n : ℕ). filter (loses rules n given) given) at)

-- what is sent to an octant
pub sent-is : (rules : Rules) (depth : ℕ) (given losing items xs : List Point) (o : ℕ) → xs ≡ items → losing ≡ filter (loses rules depth given) given → items ≡ filter (λ p. octant rules depth p == o) losing → xs ≡ losers rules depth given o
sent-is rules depth given losing items xs o e is found =
    e ∙ (found ∙ (ap (λ (w : List Point). filter (λ p. octant rules depth p == o) w) is ∙ losers-steps rules depth given o))

-- ---- where the points that are sent lie

-- the losers of an octant lie in the child's box
pub losers-InBox : (rules : Rules) (key : VoxelKey) (given : List Point) (o : ℕ) → IsCube rules.cube → key.depth < rules.cube.depth → AllInBox rules.cube key given → AllInBox rules.cube (child key o) (losers rules key.depth given o)
unfolding losers
losers-InBox rules key given o ok above inside =
    All-members (λ p. InBox rules.cube (child key o) (place p)) (filter (λ p. loses rules key.depth given p && (octant rules key.depth p == o)) given) (λ p m.
    let h = IsMember-filter (λ p. loses rules key.depth given p && (octant rules key.depth p == o)) p given m in
    let here : octant rules key.depth p ≡ o = same_number (octant rules key.depth p) o (and_right (loses rules key.depth given p) (octant rules key.depth p == o) h.1) in
    subst (λ (n : ℕ). InBox rules.cube (child key n) (place p)) here (InBox-child rules.cube key (place p) (omega (arith, above, depth-side rules.cube ok)) (all-member (λ q. InBox rules.cube key (place q)) p given inside h.0)))

pub losers-InCube : (rules : Rules) (depth : ℕ) (given : List Point) (o : ℕ) → AllInCube rules.cube given → AllInCube rules.cube (losers rules depth given o)
unfolding losers
losers-InCube rules depth given o inside =
    All-filter (λ p. loses rules depth given p && (octant rules depth p == o)) (λ p. InCube rules.cube (place p)) given inside

-- ---- the walk

pub octants-zero : (below : VoxelKey → List Point → List Node) (rules : Rules) (key : VoxelKey) (given : List Point) → nodes_of_octants below rules key given 0 ≡ []
unfolding nodes_of_octants
octants-zero below rules key given = refl

pub octants-suc : (below : VoxelKey → List Point → List Node) (rules : Rules) (key : VoxelKey) (given : List Point) (o : ℕ) → nodes_of_octants below rules key given (suc o) ≡ nodes_of_octants below rules key given o ++ cond (overflows rules key.depth given o) (below (child key o) (losers rules key.depth given o)) []
unfolding nodes_of_octants
octants-suc below rules key given o = refl

octants_more : (below : VoxelKey → List Point → List Node) (rules : Rules) (key : VoxelKey) (given : List Point) (o : ℕ) → nodes_of_octants below rules key given (o + 1) ≡ nodes_of_octants below rules key given o ++ cond (overflows rules key.depth given o) (below (child key o) (losers rules key.depth given o)) []
octants_more below rules key given o =
    ap (λ (n : ℕ). nodes_of_octants below rules key given n) (let e : o + 1 ≡ suc o = omega arith in e) ∙ octants-suc below rules key given o

-- one more octant that overflows, and one that does not
pub octants-open : (below : VoxelKey → List Point → List Node) (rules : Rules) (key : VoxelKey) (given : List Point) (o : ℕ) → overflows rules key.depth given o ≡ true → nodes_of_octants below rules key given (o + 1) ≡ nodes_of_octants below rules key given o ++ below (child key o) (losers rules key.depth given o)
octants-open below rules key given o e =
    octants_more below rules key given o ∙ ap (λ (b : Bool). nodes_of_octants below rules key given o ++ cond b (below (child key o) (losers rules key.depth given o)) []) e

pub octants-closed : (below : VoxelKey → List Point → List Node) (rules : Rules) (key : VoxelKey) (given : List Point) (o : ℕ) → overflows rules key.depth given o ≡ false → nodes_of_octants below rules key given (o + 1) ≡ nodes_of_octants below rules key given o
octants-closed below rules key given o e =
    octants_more below rules key given o
    ∙ (ap (λ (b : Bool). nodes_of_octants below rules key given o ++ cond b (below (child key o) (losers rules key.depth given o)) []) e ∙ append-nil (nodes_of_octants below rules key given o))

octants_none : (below : VoxelKey → List Point → List Node) (rules : Rules) (key : VoxelKey) (given : List Point) (n : ℕ) → ((o : ℕ) → overflows rules key.depth given o ≡ false) → nodes_of_octants below rules key given n ≡ []
octants_none below rules key given zero none = octants-zero below rules key given
octants_none below rules key given (suc n) none =
    octants-suc below rules key given n
    ∙ (ap (λ (b : Bool). nodes_of_octants below rules key given n ++ cond b (below (child key n) (losers rules key.depth given n)) []) (none n)
    ∙ (append-nil (nodes_of_octants below rules key given n) ∙ octants_none below rules key given n none))

pub nodes_below-zero : (rules : Rules) (key : VoxelKey) (given : List Point) → nodes_below rules 0 key given ≡ node_of rules key given ∷ []
unfolding nodes_below
nodes_below-zero rules key given = refl

pub nodes_below-suc : (rules : Rules) (n : ℕ) (key : VoxelKey) (given : List Point) → nodes_below rules (suc n) key given ≡ node_of rules key given ∷ nodes_of_octants (nodes_below rules n) rules key given 8
unfolding nodes_below
nodes_below-suc rules n key given = refl

step_from : (rules : Rules) (n : ℕ) (key : VoxelKey) (given : List Point) → (n ≡ 0 → (o : ℕ) → overflows rules key.depth given o ≡ false) → nodes_below rules n key given ≡ node_of rules key given ∷ nodes_of_octants (nodes_below rules (n - 1)) rules key given 8
step_from rules zero key given none =
    nodes_below-zero rules key given ∙ ap (λ (w : List Node). node_of rules key given ∷ w) (sym (octants_none (nodes_below rules (0 - 1)) rules key given 8 (none refl)))
step_from rules (suc n) key given none =
    nodes_below-suc rules n key given ∙ ap (λ (k : ℕ). node_of rules key given ∷ nodes_of_octants (nodes_below rules k) rules key given 8) (let e : n ≡ suc n - 1 = omega arith in e)

-- the first node, and then those below the octants
pub nodes_below-step : (rules : Rules) (key : VoxelKey) (given : List Point) → key.depth ≤ rules.cube.depth → nodes_below rules (rules.cube.depth - key.depth) key given ≡ node_of rules key given ∷ nodes_of_octants (nodes_below rules (rules.cube.depth - key.depth - 1)) rules key given 8
nodes_below-step rules key given low =
    step_from rules (rules.cube.depth - key.depth) key given (λ none o. overflows-deepest rules key.depth given o (not_below key.depth rules.cube.depth (omega arith)))
  where
    not_below : (a b : ℕ) → b ≤ a → nat_lt a b ≡ false
    not_below a b h = grind (arith, nat_tests)

-- nodes put into a map one list after another
pub with_nodes-append : (map xs ys : List Node) → with_nodes map (xs ++ ys) ≡ with_nodes (with_nodes map xs) ys
with_nodes-append map [] ys = refl
with_nodes-append map (n ∷ xs) ys = with_nodes-append (insert_entry key_cmp map n.0 n.1) xs ys

-- ---- the walk's steps, as the code takes them

-- before the first octant
pub walked-none : (rules : Rules) (key : VoxelKey) (given : List Point) (map : List Node) → map ≡ with_nodes map (nodes_of_octants (nodes_below rules (rules.cube.depth - key.depth - 1)) rules key given 0)
walked-none rules key given map =
    ap (λ (w : List Node). with_nodes map w) (sym (octants-zero (nodes_below rules (rules.cube.depth - key.depth - 1)) rules key given))

walked_child : (rules : Rules) (key : VoxelKey) (given sent : List Point) (o : ℕ) (start map new : List Node) → overflows rules key.depth given o ≡ true → sent ≡ losers rules key.depth given o → map ≡ with_nodes start (nodes_of_octants (nodes_below rules (rules.cube.depth - key.depth - 1)) rules key given o) → new ≡ with_nodes map (nodes_below rules (rules.cube.depth - (child key o).depth) (child key o) sent) → new ≡ with_nodes start (nodes_of_octants (nodes_below rules (rules.cube.depth - key.depth - 1)) rules key given (o + 1))
walked_child rules key given sent o start map new over is before after =
    let level : rules.cube.depth - (child key o).depth ≡ rules.cube.depth - key.depth - 1 = omega (arith, depth-child key o) in
    after
    ∙ (ap (λ (n : ℕ). with_nodes map (nodes_below rules n (child key o) sent)) level
    ∙ (ap (λ (xs : List Point). with_nodes map (nodes_below rules (rules.cube.depth - key.depth - 1) (child key o) xs)) is
    ∙ (ap (λ (m : List Node). with_nodes m (nodes_below rules (rules.cube.depth - key.depth - 1) (child key o) (losers rules key.depth given o))) before
    ∙ (sym (with_nodes-append start (nodes_of_octants (nodes_below rules (rules.cube.depth - key.depth - 1)) rules key given o) (nodes_below rules (rules.cube.depth - key.depth - 1) (child key o) (losers rules key.depth given o)))
    ∙ ap (λ (w : List Node). with_nodes start w) (sym (octants-open (nodes_below rules (rules.cube.depth - key.depth - 1)) rules key given o over))))))

-- an octant that overflows
pub walked-open : (rules : Rules) (key down : VoxelKey) (given sent : List Point) (o : ℕ) (start map new : List Node) → down ≡ child key o → overflows rules key.depth given o ≡ true → sent ≡ losers rules key.depth given o → map ≡ with_nodes start (nodes_of_octants (nodes_below rules (rules.cube.depth - key.depth - 1)) rules key given o) → new ≡ with_nodes map (nodes_below rules (rules.cube.depth - down.depth) down sent) → new ≡ with_nodes start (nodes_of_octants (nodes_below rules (rules.cube.depth - key.depth - 1)) rules key given (o + 1))
walked-open rules key down given sent o start map new at over is before after =
    walked_child rules key given sent o start map new over is before (after ∙ ap (λ (k : VoxelKey). with_nodes map (nodes_below rules (rules.cube.depth - k.depth) k sent)) at)

-- an octant that does not overflow
pub walked-closed : (rules : Rules) (key : VoxelKey) (given : List Point) (o : ℕ) (start map : List Node) → overflows rules key.depth given o ≡ false → map ≡ with_nodes start (nodes_of_octants (nodes_below rules (rules.cube.depth - key.depth - 1)) rules key given o) → map ≡ with_nodes start (nodes_of_octants (nodes_below rules (rules.cube.depth - key.depth - 1)) rules key given (o + 1))
walked-closed rules key given o start map closed before =
    before ∙ ap (λ (w : List Node). with_nodes start w) (sym (octants-closed (nodes_below rules (rules.cube.depth - key.depth - 1)) rules key given o closed))

-- after the last octant
pub walked-all : (rules : Rules) (key : VoxelKey) (given points : List Point) (old start map : List Node) (o : ℕ) → key.depth ≤ rules.cube.depth → points ≡ kept rules key.depth none_open given → start ≡ insert_entry key_cmp old key points → o ≡ 8 → map ≡ with_nodes start (nodes_of_octants (nodes_below rules (rules.cube.depth - key.depth - 1)) rules key given o) → map ≡ with_nodes old (nodes_below rules (rules.cube.depth - key.depth) key given)
walked-all rules key given points old start map o low is first end all =
    all
    ∙ (ap (λ (n : ℕ). with_nodes start (nodes_of_octants (nodes_below rules (rules.cube.depth - key.depth - 1)) rules key given n)) end
    ∙ (ap (λ (m : List Node). with_nodes m (nodes_of_octants (nodes_below rules (rules.cube.depth - key.depth - 1)) rules key given 8)) (first ∙ ap (λ (xs : List Point). insert_entry key_cmp old key xs) is)
    ∙ ap (λ (w : List Node). with_nodes old w) (sym (nodes_below-step rules key given low))))

-- ---- what is known when the walk goes down

pub opened-overflows : (rules : Rules) (depth : ℕ) (given losing : List Point) (o : ℕ) (opened : Bool) → losing ≡ filter (loses rules depth given) given → opened ≡ has_too_many rules depth losing o → opened ≡ true → overflows rules depth given o ≡ true
opened-overflows rules depth given losing o opened is test open' =
    sym (too_many-overflows rules depth given losing o is) ∙ (sym test ∙ open')

pub opened-closed : (rules : Rules) (depth : ℕ) (given losing : List Point) (o : ℕ) (opened : Bool) → losing ≡ filter (loses rules depth given) given → opened ≡ has_too_many rules depth losing o → opened ≡ false → overflows rules depth given o ≡ false
opened-closed rules depth given losing o opened is test shut =
    sym (too_many-overflows rules depth given losing o is) ∙ (sym test ∙ shut)

pub down-depth : (key down : VoxelKey) (o : ℕ) → down ≡ child key o → down.depth ≡ key.depth + 1
down-depth key down o is = ap (λ (k : VoxelKey). k.depth) is ∙ depth-child key o

pub down-InBox : (rules : Rules) (key down : VoxelKey) (given sent : List Point) (o : ℕ) → IsCube rules.cube → key.depth < rules.cube.depth → AllInBox rules.cube key given → down ≡ child key o → sent ≡ losers rules key.depth given o → AllInBox rules.cube down sent
down-InBox rules key down given sent o ok above inside is lost =
    let M : VoxelKey → List Point → Type 0 = λ k xs. AllInBox rules.cube k xs in
    subst (λ (k : VoxelKey). M k sent) (sym is) (subst (λ (xs : List Point). M (child key o) xs) (sym lost) (losers-InBox rules key given o ok above inside))

pub down-InCube : (rules : Rules) (depth : ℕ) (given sent : List Point) (o : ℕ) → AllInCube rules.cube given → sent ≡ losers rules depth given o → AllInCube rules.cube sent
down-InCube rules depth given sent o inside lost =
    let M : List Point → Type 0 = λ xs. AllInCube rules.cube xs in
    subst M (sym lost) (losers-InCube rules depth given o inside)

pub found-at : (rules : Rules) (depth o : ℕ) (items xs ys zs : List Point) → items ≡ filter (λ p. octant rules depth p == o) xs → xs ≡ zs → ys ≡ zs → items ≡ filter (λ p. octant rules depth p == o) ys
found-at rules depth o items xs ys zs e f g =
    e ∙ ap (λ (w : List Point). filter (λ p. octant rules depth p == o) w) (f ∙ sym g)
