-- What files hold affects only which points a node has. Its key, its rules, its open octants and its number of points
-- do not depend on it, and its points lie in its box.
use Rattle.std.proofs.Common.{◌≡◌, ◌∙◌, ℕ, zero, suc, ◌+◌, ◌<◌, ◌≤◌, ◌⊎◌, inl, inr, List, [], ◌∷◌, map, length, get_or, take, set, refl, sym, ap, subst, arith, Option, Some, None, sum_by, unwrap_or}
use Rattle.std.specs.Prelude.{is_some, ⊤}
use Rattle.std.proofs.lemmas.List.{length-append, length-set, get_or-set_same, get_or-set_other}
use Rattle.std.proofs.lemmas.List.Sums.{sum_by-cons}
use Rattle.ept_space.specs.declared.cube.Rules.{Rules}
use Rattle.ept_space.specs.VoxelKey.{VoxelKey}
use Rattle.ept_sample.specs.Place.{AllInBox}
use Rattle.ept_grid.specs.Mask.{opened}
use Rattle.ept_grid.specs.Node as grid
use Rattle.ept_node.specs.declared.node.Node as node
use Rattle.ept_node.specs.declared.site.Filed.{Filed}
use Rattle.ept_node.specs.declared.body.Body.{Body}
use Rattle.ept_node.specs.declared.body.Body.TheVariants.{Blank, Begun, Resident, Spilled, Unkept, Lost}
use Rattle.ept_node.specs.declared.state.NodeState.{NodeState}
use Rattle.ept_node.specs.declared.state.NodeState.TheVariants as states
use Rattle.ept_node.specs.Shown as shown
use Rattle.ept_node.specs.Shown.{filed_node, state_in, no_node, state_of, node_of, IsAlike}
use Rattle.ept_node.proofs.Tellings.{length-told, inside-told}
use Rattle.ept_forest.specs.Slots as forest
use Rattle.ept_table.specs.At.{At}
use Rattle.ept_table.specs.Octree.{Branch, points_in}
use Rattle.ept_table.proofs.Lists.{same_or_not}
use Rattle.ept_octree.specs.Index.{Site, named, in_slot, in_slots, untold, node_or, branches, count_in, node_in, key_seen, IsSoundBy, IsIndex}
use Rattle.ept_octree.specs.declared.octree.Octree.{Octree}
use Rattle.ept_octree.specs.Octree.{AreAlike}
use Rattle.ept_octree.proofs.Placing.{some-node, its-slot, put-in, length-in, long-in}

-- ---- one node

-- the same node except for which points it has: the same number of points, in its box too
pub record IsLike (g h : grid.Node) : Type 0 where
  pub alike : IsAlike g h
  pub inside : AllInBox g.rules.cube g.key g.points → AllInBox h.rules.cube h.key h.points

pub alike-self : (g : grid.Node) → IsAlike g g
alike-self g = record {
  key = refl;
  rules = refl;
  count = refl;
  mask = refl;
}

like-self : (g : grid.Node) → IsLike g g
like-self g = record { alike = alike-self g; inside = λ all. all }

filed-inside : (told : Option (List ℕ)) (filed : Filed) → AllInBox filed.site.rules.cube filed.site.key (filed_node told filed).points
filed-inside told filed = inside-told filed.site.rules.cube filed.site.key filed.count (unwrap_or told []) filed.places

filed_count : (told : Option (List ℕ)) (filed : Filed) → length (filed_node told filed).points ≡ filed.count
filed_count told filed = length-told filed.site.rules.cube filed.site.key filed.count (unwrap_or told [])

filed-like : (s t : Option (List ℕ)) (filed : Filed) → IsLike (filed_node s filed) (filed_node t filed)
filed-like s t filed = record {
  alike = record {
    key = refl;
    rules = refl;
    count = filed_count t filed ∙ sym (filed_count s filed);
    mask = refl;
  };
  inside = λ all. filed-inside t filed;
}

body-like : (s t : Option (List ℕ)) (b : Body) → IsLike (shown.node_in s b) (shown.node_in t b)
body-like s t Blank = like-self no_node
body-like s t (Begun site) = like-self (shown.empty_node site.key site.rules)
body-like s t (Resident kept) = like-self (shown.bare kept.value)
body-like s t (Spilled filed) = filed-like s t filed.value
body-like s t (Unkept kept) = like-self (shown.bare kept.value)
body-like s t (Lost filed why) = filed-like s t filed.value

spilled_inside : (t : Option (List ℕ)) (b : Body) → state_in b ≡ states.Spilled → AllInBox (shown.node_in t b).rules.cube (shown.node_in t b).key (shown.node_in t b).points
spilled_inside t Blank is = absurd (cc)
spilled_inside t (Begun site) is = absurd (cc)
spilled_inside t (Resident kept) is = absurd (cc)
spilled_inside t (Spilled filed) is = filed-inside t filed.value
spilled_inside t (Unkept kept) is = absurd (cc)
spilled_inside t (Lost filed why) is = absurd (cc)

module _ {F : Type 0} where
  -- whatever the files hold
  pub node-like : (a b : F → Option (List ℕ)) (n : node.Node F) → IsLike (node_of a n) (node_of b n)
  node-like a b n = body-like (a n.file) (b n.file) n.body

  -- a node that has gone to its file
  pub spilled-like : (held : F → Option (List ℕ)) (n m : node.Node F) → state_of m ≡ states.Spilled → IsAlike (node_of held n) (node_of held m) → IsLike (node_of held n) (node_of held m)
  spilled-like held n m is alike = record {
    alike = alike;
    inside = λ all. spilled_inside (held m.file) m.body is;
  }

  -- a node that shows what it showed before
  pub still-like : (held : F → Option (List ℕ)) (n m : node.Node F) → node_of held m ≡ node_of held n → IsLike (node_of held n) (node_of held m)
  still-like held n m same = subst (λ (h : grid.Node). IsLike (node_of held n) h) (sym same) (like-self (node_of held n))

-- ---- what lies in slots

-- nothing in both slots, or two such nodes
abbrev pub AreLike : Option grid.Node → Option grid.Node → Type 0
AreLike None None = ⊤
AreLike None (Some h) = ⊥
AreLike (Some g) None = ⊥
AreLike (Some g) (Some h) = IsLike g h

pub are-like-self : (x : Option grid.Node) → AreLike x x
are-like-self None = tt
are-like-self (Some g) = like-self g

named-like : (s : NodeState) (g h : grid.Node) → IsLike g h → AreLike (named s g) (named s h)
named-like states.Blank g h like = tt
named-like states.Resident g h like = like
named-like states.Spilled g h like = like
named-like states.Broken g h like = like

some_like : (t : NodeState) (g h : grid.Node) → (t ≡ states.Blank → ⊥) → IsLike g h → AreLike (Some g) (named t h)
some_like states.Blank g h never like = absurd (never refl)
some_like states.Resident g h never like = like
some_like states.Spilled g h never like = like
some_like states.Broken g h never like = like

-- two nodes of keys
pub both-named : (s t : NodeState) (g h : grid.Node) → (s ≡ states.Blank → ⊥) → (t ≡ states.Blank → ⊥) → IsLike g h → AreLike (named s g) (named t h)
both-named states.Blank t g h no_s no_t like = absurd (no_s refl)
both-named states.Resident t g h no_s no_t like = some_like t g h no_t like
both-named states.Spilled t g h no_s no_t like = some_like t g h no_t like
both-named states.Broken t g h no_s no_t like = some_like t g h no_t like

-- ---- an index over such nodes

module _ (rules : Rules) (used : ℕ) (xs ys : List (Option grid.Node)) (sites : List Site) (like : (k : ℕ) → AreLike (node_in xs k) (node_in ys k)) (long : length ys ≡ length xs) where
  key_same : (x y : Option grid.Node) → AreLike x y → key_seen y ≡ key_seen x
  key_same None None l = refl
  key_same None (Some h) l = absurd l
  key_same (Some g) None l = absurd l
  key_same (Some g) (Some h) l = ap Some l.alike.key

  some_same : (x y : Option grid.Node) → AreLike x y → is_some y ≡ is_some x
  some_same None None l = refl
  some_same None (Some h) l = absurd l
  some_same (Some g) None l = absurd l
  some_same (Some g) (Some h) l = refl

  count_same : (x y : Option grid.Node) → AreLike x y → count_in y ≡ count_in x
  count_same None None l = refl
  count_same None (Some h) l = absurd l
  count_same (Some g) None l = absurd l
  count_same (Some g) (Some h) l = l.alike.count

  node_alike : (x y : Option grid.Node) → AreLike x y → IsAlike (node_or x) (node_or y)
  node_alike None None l = alike-self no_node
  node_alike None (Some h) l = absurd l
  node_alike (Some g) None l = absurd l
  node_alike (Some g) (Some h) l = l.alike

  was : (x y : Option grid.Node) (h : grid.Node) → AreLike x y → y ≡ Some h → (g : grid.Node) × (x ≡ Some g) × IsLike g h
  was None None h l is = absurd (cc)
  was None (Some z) h l is = absurd l
  was (Some g) None h l is = absurd l
  was (Some g) (Some z) h l is = (g, refl, subst (λ (w : grid.Node). IsLike g w) (some-node is) l)

  sum_same : (n : ℕ) (us vs : List (Option grid.Node)) → length vs ≡ length us → ((k : ℕ) → AreLike (node_in us k) (node_in vs k)) → sum_by count_in (take n vs) ≡ sum_by count_in (take n us)
  sum_same zero us vs size l = refl
  sum_same (suc n) [] [] size l = refl
  sum_same (suc n) [] (v ∷ vs) size l = absurd (omega (arith, size))
  sum_same (suc n) (u ∷ us) [] size l = absurd (omega (arith, size))
  sum_same (suc n) (u ∷ us) (v ∷ vs) size l =
      let first : count_in v ≡ count_in u = count_same u v (l 0) in
      let rest : sum_by count_in (take n vs) ≡ sum_by count_in (take n us) = sum_same n us vs (omega (arith, size)) (λ k. l (suc k)) in
      omega (arith, first, rest, sum_by-cons count_in v (take n vs), sum_by-cons count_in u (take n us))

  points_same : (ss : List Site) → length (points_in (branches ys ss)) ≡ length (points_in (branches xs ss))
  points_same [] = refl
  points_same (s ∷ ss) =
      let first : count_in (node_in ys s.1) ≡ count_in (node_in xs s.1) = count_same (node_in xs s.1) (node_in ys s.1) (like s.1) in
      let rest : length (points_in (branches ys ss)) ≡ length (points_in (branches xs ss)) = points_same ss in
      let now : length (points_in (branches ys (s ∷ ss))) ≡ count_in (node_in ys s.1) + length (points_in (branches ys ss)) = length-append (node_or (node_in ys s.1)).points (points_in (branches ys ss)) in
      let before : length (points_in (branches xs (s ∷ ss))) ≡ count_in (node_in xs s.1) + length (points_in (branches xs ss)) = length-append (node_or (node_in xs s.1)).points (points_in (branches xs ss)) in
      omega (arith, first, rest, now, before)

  sound_same : (g h : grid.Node) → IsLike g h → IsSoundBy rules g → IsSoundBy rules h
  sound_same g h l s =
      let rules_are : h.rules ≡ rules = l.alike.rules ∙ s.rules in
      record {
        rules = rules_are;
        low = subst (λ (key : VoxelKey). key.depth ≤ rules.cube.depth) (sym l.alike.key) s.low;
        inside = subst (λ (rs : Rules). AllInBox rs.cube h.key h.points) rules_are (l.inside (subst (λ (rs : Rules). AllInBox rs.cube g.key g.points) (sym s.rules) s.inside));
        deepest = λ o low is. subst (λ (key : VoxelKey). key.depth < rules.cube.depth) (sym l.alike.key) (s.deepest o low (ap (λ (m : ℕ). opened m o) (sym l.alike.mask) ∙ is));
      }

  pub like-index : IsIndex rules used xs sites → IsIndex rules used ys sites
  like-index index = record {
    are = record {
      many = index.are.many;
      ascend = index.are.ascend;
      stands = λ key k is. (
          let r = index.are.stands key k is in
          (key_same (node_in xs k) (node_in ys k) (like k) ∙ r.0, r.1, r.2));
      listed = λ key k some low is. index.are.listed key k some low (sym (key_same (node_in xs k) (node_in ys k) (like k)) ∙ is);
      together = points_same sites ∙ (index.are.together ∙ sym (sum_same (suc used) xs ys long like));
    };
    low = omega (arith, index.low, long);
    rooted = index.rooted;
    filled = λ k some low. some_same (node_in xs k) (node_in ys k) (like k) ∙ index.filled k some low;
    blank = λ k far. some_same (node_in xs k) (node_in ys k) (like k) ∙ index.blank k far;
    sound = λ k h is. (
        let g = was (node_in xs k) (node_in ys k) h (like k) is in
        sound_same g.0 h g.2 (index.sound k g.0 g.1));
  }

  -- the nodes by their keys
  pub like-nodes : AreAlike (branches xs sites) (branches ys sites)
  like-nodes = all_alike sites
    where
      all_alike : (ss : List Site) → AreAlike (branches xs ss) (branches ys ss)
      all_alike [] = tt
      all_alike (s ∷ ss) = ((refl, node_alike (node_in xs s.1) (node_in ys s.1) (like s.1)), all_alike ss)

pub alike-nodes : (bs : List Branch) → AreAlike bs bs
alike-nodes [] = tt
alike-nodes (b ∷ bs) = ((refl, alike-self b.1), alike-nodes bs)

-- ---- whatever the files hold

module _ {F : Type 0} (a b : F → Option (List ℕ)) where
  each_like : (ns : List (node.Node F)) (k : ℕ) → AreLike (get_or (map (in_slot a) ns) k None) (get_or (map (in_slot b) ns) k None)
  each_like [] k = tt
  each_like (n ∷ ns) zero = named-like (state_of n) (node_of a n) (node_of b n) (node-like a b n)
  each_like (n ∷ ns) (suc k) = each_like ns k

  slots_like : (ns : List (node.Node F)) (k : ℕ) → AreLike (node_in (in_slots a ns) k) (node_in (in_slots b ns) k)
  slots_like ns zero = tt
  slots_like ns (suc k) = each_like ns k

  pub index-any : (rules : Rules) (used : ℕ) (ns : List (node.Node F)) (sites : List Site) → IsIndex rules used (in_slots a ns) sites → IsIndex rules used (in_slots b ns) sites
  index-any rules used ns sites index =
      like-index rules used (in_slots a ns) (in_slots b ns) sites (slots_like ns) (length-in b ns ∙ sym (length-in a ns)) index

-- the index of an octree
pub told-index : {F : Type 0} (held : F → Option (List ℕ)) (octree : Octree F) → IsIndex octree.rules (forest.used_of octree.forest) (in_slots held (forest.nodes_of octree.forest)) octree.slots.entries
told-index held octree =
    index-any untold held octree.rules (forest.used_of octree.forest) (forest.nodes_of octree.forest) octree.slots.entries octree.indexed

-- ---- a node that is put in the place of one like it

module _ {F : Type 0} (held : F → Option (List ℕ)) (ns : List (node.Node F)) (p : ℕ) (n : node.Node F) (at : At ns p n) (m : node.Node F) (like : AreLike (in_slot held n) (in_slot held m)) where
  put_like : (k : ℕ) → AreLike (node_in (in_slots held ns) k) (node_in (in_slots held (set ns p m)) k)
  put_like k = subst (λ (w : List (Option grid.Node)). AreLike (node_in (in_slots held ns) k) (node_in w k)) (sym (put-in held ns p n at m)) (at_place (same_or_not k (suc p)))
    where
      at_place : (k ≡ suc p) ⊎ (k ≡ suc p → ⊥) → AreLike (node_in (in_slots held ns) k) (node_in (set (in_slots held ns) (suc p) (in_slot held m)) k)
      at_place (inl same) =
          let now : node_in (set (in_slots held ns) (suc p) (in_slot held m)) (suc p) ≡ in_slot held m = get_or-set_same (in_slots held ns) (suc p) (in_slot held m) None (omega (arith, length-in held ns, long-in ns p n at)) in
          subst (λ (j : ℕ). AreLike (node_in (in_slots held ns) j) (node_in (set (in_slots held ns) (suc p) (in_slot held m)) j)) (sym same)
          (subst (λ (y : Option grid.Node). AreLike (node_in (in_slots held ns) (suc p)) y) (sym now)
          (subst (λ (x : Option grid.Node). AreLike x (in_slot held m)) (sym (its-slot held ns p n at)) like))
      at_place (inr apart) =
          subst (λ (y : Option grid.Node). AreLike (node_in (in_slots held ns) k) y) (sym (get_or-set_other (in_slots held ns) (suc p) k (in_slot held m) None apart)) (are-like-self (node_in (in_slots held ns) k))

  put_long : length (in_slots held (set ns p m)) ≡ length (in_slots held ns)
  put_long = length-in held (set ns p m) ∙ (ap suc (length-set ns p m) ∙ sym (length-in held ns))

  pub put-like-index : (rules : Rules) (used : ℕ) (sites : List Site) → IsIndex rules used (in_slots held ns) sites → IsIndex rules used (in_slots held (set ns p m)) sites
  put-like-index rules used sites index =
      like-index rules used (in_slots held ns) (in_slots held (set ns p m)) sites put_like put_long index

  pub put-like-nodes : (rules : Rules) (used : ℕ) (sites : List Site) → AreAlike (branches (in_slots held ns) sites) (branches (in_slots held (set ns p m)) sites)
  put-like-nodes rules used sites =
      like-nodes rules used (in_slots held ns) (in_slots held (set ns p m)) sites put_like put_long
