-- What the nodes above a node and the ids so far say of it.
use Rattle.std.proofs.Common.{◌≡◌, ◌≢◌, ◌∙◌, ◌+◌, ◌<◌, ◌≤◌, ℕ, zero, suc, Bool, true, false, cond, ◌==◌, ◌&&◌, ◌||◌, not, inl, inr, ◌⊎◌, List, [], ◌∷◌, ◌++◌, length, get_or, take, refl, sym, ap, subst, arith, Option, Some, None, Result, Ok, Err}
use Rattle.std.specs.Prelude.{nat_lt, MatchOption, IfOk, IsTrue, ◌↔◌}
use Rattle.std.specs.List.{All, position, position_or_len}
use Rattle.std.proofs.lemmas.Bool.{false≢true, cases_lt}
use Rattle.std.proofs.lemmas.Bool.Decides.{nat_tests}
use Rattle.std.proofs.lemmas.List.{get_or-take, length-take, length-append}
use Rattle.std.proofs.lemmas.List.Elements.{Contains-get_or}
use Rattle.std.proofs.lemmas.List.Quantifiers.{position-Some}
use Rattle.std.proofs.Math.ListN.{get_or-append}
use Rattle.std.proofs.Math.Seq.{get_or-append_seam}
use Rattle.ept_point.specs.declared.point.Point.{Point}
use Rattle.ept_point.specs.declared.memory.Memory.{Memory}
use Rattle.ept_space.specs.declared.cube.Rules.{Rules}
use Rattle.ept_space.specs.VoxelKey.{VoxelKey, IsKey, root, is_below, is_within}
use Rattle.ept_space.specs.OctreeCube.{IsCube, InBox}
use Rattle.ept_space.proofs.PlaceKeys.{InBox-within, octant_at-below}
use Rattle.ept_space.proofs.Within.{is_below-within, is_below-deeper}
use Rattle.ept_sample.specs.Place.{place, AllInBox}
use Rattle.ept_sample.specs.Arrivals.{loses, losers, octant, overflows}
use Rattle.ept_sample.specs.Members.{IsMember}
use Rattle.ept_sample.proofs.Choices.{either}
use Rattle.ept_sample.proofs.Members.{IsMember-append, IsMember-left, IsMember-right, all-member, All-members, IsMember-contains, contains-IsMember}
use Rattle.ept_grid.specs.declared.error.GridError.{GridError}
use Rattle.ept_grid.specs.declared.error.GridError.TheVariants as grid
use Rattle.ept_grid.specs.Mask.{opened}
use Rattle.ept_grid.specs.Node.{Node as GridNode}
use Rattle.ept_grid.specs.Tile.{IsTile, IsTileFault, IsFirstOutside, IsFirstOverfull, NoneIsOverfull, is_open_loser, is_overfull}
use Rattle.ept_hier.specs.Hierarchy.{Node, keys_of}
use Rattle.ept_fit.specs.Fit.{has_child, HasParent, LiesInBox, HasNoOpenLoser, HasFewLosers, IsFilled}
use Rattle.ept_check.specs.declared.fault.Fault.{Fault}
use Rattle.ept_check.specs.declared.fault.Fault.TheVariants.{Orphan, Outside, OpenLoser, TooMany, Above, Few, Empty, Twice}
use Rattle.ept_check.specs.Facts.{Fact, number_of, tile_of, HasFullChildren, IsFirstLack}
use Rattle.ept_check.specs.Looking.{IsFirstLate, fault_of}
use Rattle.ept_check.specs.Walking.{AreOfRules, HasCome, IsStack}

-- ---- tests that nothing passes

first_step : (b : Bool) (k n : ℕ) → b ≡ true → cond (not b) (1 + k) 0 < suc n
first_step true k n e = omega arith
first_step false k n e = absurd (false≢true e)

found_step : (b : Bool) (k n : ℕ) → k < n → cond (not b) (1 + k) 0 < suc n
found_step true k n less = omega arith
found_step false k n less = omega (arith, less)

found_below : (f : Point → Bool) (q : Point) (ps : List Point) → IsMember q ps → f q ≡ true → position_or_len f ps < length ps
found_below f q [] m e = absurd m
found_below f q (p ∷ ps) (inl is) e = first_step (f p) (position_or_len f ps) (length ps) (ap f is ∙ e)
found_below f q (p ∷ ps) (inr m) e = found_step (f p) (position_or_len f ps) (length ps) (found_below f q ps m e)

some_none : {X : Type 0} (x : X) → Some x ≡ None → ⊥
some_none x e = cc

is_below_length : (k n : ℕ) → k < n → nat_lt k n ≡ true
is_below_length k n h = grind (arith, nat_tests)

is_false : (b : Bool) → ¬ (b ≡ true) → b ≡ false
is_false true none = absurd (none refl)
is_false false none = refl

none-passes : (f : Point → Bool) (ps : List Point) → position f ps ≡ None → (q : Point) → IsMember q ps → f q ≡ false
none-passes f ps e q m =
    is_false (f q) (λ passes. some_none (position_or_len f ps) (sym (ap (λ (b : Bool). cond b (Some (position_or_len f ps)) None) (is_below_length (position_or_len f ps) (length ps) (found_below f q ps m passes))) ∙ e))

-- ---- the nodes above

-- the nodes above, with one that comes after the first of them
pub come : (node : GridNode) (old new : List GridNode) → new ≡ take node.key.depth old ++ node ∷ [] → IsStack old → HasCome node old new
come node old new is stack = subst (λ (w : List GridNode). HasCome node old w) (sym is) (record {
  there = IsMember-right node (take node.key.depth old) (node ∷ []) (inl refl);
  stay = λ g m below. IsMember-left g (take node.key.depth old) (node ∷ []) (in-front g (contains-IsMember g old m) (is_below-deeper g.key node.key below));
  only = λ g m. by_case g (IsMember-append g (take node.key.depth old) (node ∷ []) m);
})
  where
    in-front : (g : GridNode) → (k : ℕ) × (k < length old) × (get_or old k g ≡ g) → g.key.depth < node.key.depth → IsMember g (take node.key.depth old)
    in-front g c less =
        let low : c.0 ≤ g.key.depth = subst (λ (h : GridNode). c.0 ≤ h.key.depth) c.2 (stack c.0 g c.1) in
        let short = length-take node.key.depth old in
        let within = c.1 in
        IsMember-contains g (take node.key.depth old) (c.0, omega (arith, short, within, low, less), get_or-take node.key.depth old c.0 g (omega (arith, low, less)) ∙ c.2)

    by_case : (g : GridNode) → IsMember g (take node.key.depth old) ⊎ IsMember g (node ∷ []) → IsMember g old ⊎ (g ≡ node)
    by_case g (inl m) =
        let c = contains-IsMember g (take node.key.depth old) m in
        let short = length-take node.key.depth old in
        let within = c.1 in
        inl (IsMember-contains g old (c.0, omega (arith, short, within), sym (get_or-take node.key.depth old c.0 g (omega (arith, short, within))) ∙ c.2))
    by_case g (inr (inl same)) = inr (sym same)
    by_case g (inr (inr none)) = absurd none

pub stacked : (node : GridNode) (old new : List GridNode) → new ≡ take node.key.depth old ++ node ∷ [] → IsStack old → IsStack new
stacked node old new is stack = subst IsStack (sym is) (λ i d inside. (
    let short = length-take node.key.depth old in
    let size = length-append (take node.key.depth old) (node ∷ []) in
    elim (cases_lt i (length (take node.key.depth old))) [
      | inl front ↦
          subst (λ (h : GridNode). i ≤ h.key.depth) (sym (get_or-append (take node.key.depth old) (node ∷ []) d i front ∙ get_or-take node.key.depth old i d (omega (arith, short, front)))) (stack i d (omega (arith, short, front)))
      | inr last ↦
          let here : length (take node.key.depth old) ≡ i = omega (arith, size, inside, last) in
          let at : get_or (take node.key.depth old ++ node ∷ []) i d ≡ node = ap (λ (k : ℕ). get_or (take node.key.depth old ++ node ∷ []) k d) (sym here) ∙ get_or-append_seam (take node.key.depth old) node [] d in
          subst (λ (h : GridNode). i ≤ h.key.depth) (sym at) (omega (arith, short, here))
    ]))

-- points in a node's box lie in that of each node above
pub above-boxes : (rules : Rules) (above : List GridNode) (key : VoxelKey) (points : List Point) → IsCube rules.cube → key.depth ≤ rules.cube.depth → AreOfRules rules above → AllInBox rules.cube key points → All (λ (g : GridNode). is_below g.key key ≡ true → AllInBox g.rules.cube g.key points) above
above-boxes rules above key points cube low of-rules inside =
    All-members (λ (g : GridNode). is_below g.key key ≡ true → AllInBox g.rules.cube g.key points) above (λ g m below.
    subst (λ (r : Rules). AllInBox r.cube g.key points) (sym (all-member (λ (h : GridNode). h.rules ≡ rules) g above of-rules m))
    (All-members (λ (p : Point). InBox rules.cube g.key (place p)) points (λ p n.
    InBox-within rules.cube g.key key (place p) (is_below-within g.key key below) (let whole = cube.cells_whole in omega (arith, whole, low)) (all-member (λ (q : Point). InBox rules.cube key (place q)) p points inside n))))

pub rules-come : (rules : Rules) (node : GridNode) (old new : List GridNode) → HasCome node old new → node.rules ≡ rules → AreOfRules rules old → AreOfRules rules new
rules-come rules node old new come' same of-rules =
    All-members (λ (g : GridNode). g.rules ≡ rules) new (λ g m. by_case g (come'.only g m))
  where
    by_case : (g : GridNode) → IsMember g old ⊎ (g ≡ node) → g.rules ≡ rules
    by_case g (inl m) = all-member (λ (h : GridNode). h.rules ≡ rules) g old of-rules m
    by_case g (inr is) = ap (λ (h : GridNode). h.rules) is ∙ same

-- ---- the facts after the first four

module _ (above before : Type 0) (rules : Rules) (nodes : List Node) (key : VoxelKey) (points : List Point) (lose : above) (full : HasFullChildren rules nodes key) (filled : IsFilled (tile_of key points)) where
  pub before-twice : (f : Fault) → 5 < number_of f → number_of f < 9 → Fact above before rules nodes key points f
  before-twice Orphan low high = absurd (omega (arith, low))
  before-twice Outside low high = absurd (omega (arith, low))
  before-twice OpenLoser low high = absurd (omega (arith, low))
  before-twice TooMany low high = absurd (omega (arith, low))
  before-twice Above low high = lose
  before-twice Few low high = full
  before-twice Empty low high = filled
  before-twice Twice low high = absurd (omega (arith, high))

  pub late-all : before → (f : Fault) → 5 < number_of f → Fact above before rules nodes key points f
  late-all new Orphan low = absurd (omega (arith, low))
  late-all new Outside low = absurd (omega (arith, low))
  late-all new OpenLoser low = absurd (omega (arith, low))
  late-all new TooMany low = absurd (omega (arith, low))
  late-all new Above low = lose
  late-all new Few low = full
  late-all new Empty low = filled
  late-all new Twice low = new

module _ (above before : Type 0) (rules : Rules) (nodes : List Node) (key : VoxelKey) (points : List Point) (lose : above) (full : HasFullChildren rules nodes key) where
  pub before-empty : (f : Fault) → 5 < number_of f → number_of f < 8 → Fact above before rules nodes key points f
  before-empty Orphan low high = absurd (omega (arith, low))
  before-empty Outside low high = absurd (omega (arith, low))
  before-empty OpenLoser low high = absurd (omega (arith, low))
  before-empty TooMany low high = absurd (omega (arith, low))
  before-empty Above low high = lose
  before-empty Few low high = full
  before-empty Empty low high = absurd (omega (arith, high))
  before-empty Twice low high = absurd (omega (arith, high))

some-length : (n : ℕ) → (suc n == 0) ≡ true → ⊥
some-length n e = (let none : suc n ≡ 0 = grind (arith, nat_tests) in omega (arith, none))

-- a node that is not the root is filled if it has a point
pub filled-there : (key : VoxelKey) (points : List Point) (empty : Bool) → ¬ (key.depth ≡ 0) → empty ≡ (length points == 0) → IsTrue (not empty) ↔ IsFilled (tile_of key points)
filled-there key [] empty deep is = (
  (λ e. absurd (by_test empty is e)),
  (λ filled. by_filled filled),
)
  where
    by_test : (b : Bool) → b ≡ true → not b ≡ true → ⊥
    by_test true one other = cc
    by_test false one other = cc

    by_filled : IsFilled (tile_of key []) → not empty ≡ true
    by_filled (inl same) = absurd (deep (ap (λ (k : VoxelKey). k.depth) same))
    by_filled (inr some) = absurd some.1
filled-there key (p ∷ points) empty deep is = (
  (λ e. inr (p, inl refl)),
  (λ filled. by_test empty (λ e. some-length (length points) (sym is ∙ e))),
)
  where
    by_test : (b : Bool) → ¬ (b ≡ true) → not b ≡ true
    by_test true none = absurd (none refl)
    by_test false none = refl

-- what is found if the points are none of a node
pub err-found : (r : Result (Option Fault) Memory) (error : GridError) (P : Option Fault → Type 0) → IfOk r (λ found. (found ≡ fault_of error) × (error ≢ grid.Memory)) → (error ≢ grid.Memory → P (fault_of error)) → IfOk r P
err-found (Ok found) error P told then = subst P (sym told.0) (then told.1)
err-found (Err e) error P told then = tt

-- ---- the first four facts, by a node that is made of the points

module _ (above before : Type 0) (rules : Rules) (nodes : List Node) (key : VoxelKey) (points : List Point) (mask : ℕ) (open_are : (o : ℕ) → o < 8 → opened mask o ≡ has_child (keys_of nodes) key o) where
  keys : List VoxelKey
  keys = keys_of nodes

  and-true : (a b : Bool) → (a && b) ≡ true → (a ≡ true) × (b ≡ true)
  and-true true true e = (refl, refl)
  and-true true false e = absurd (cc)
  and-true false b e = absurd (cc)

  and-false : (a b : Bool) → (a && b) ≡ false → a ≡ true → b ≡ false
  and-false true b e one = e
  and-false false b e one = absurd (cc)

  not-true : (b : Bool) → not b ≡ true → b ≡ false
  not-true true e = absurd (cc)
  not-true false e = refl

  less-true : (m n : ℕ) → nat_lt m n ≡ true → m < n
  less-true m n e = grind (arith, nat_tests)

  true-less : (m n : ℕ) → m < n → nat_lt m n ≡ true
  true-less m n e = grind (arith, nat_tests)

  less-false : (m n : ℕ) → nat_lt m n ≡ false → n ≤ m
  less-false m n e = grind (arith, nat_tests)

  small : (p : Point) → octant rules key.depth p < 8
  small p = octant_at-below rules.cube key.depth (place p)

  is-open : (p : Point) → opened mask (octant rules key.depth p) ≡ has_child keys key (octant rules key.depth p)
  unfolding keys
  is-open p = open_are (octant rules key.depth p) (small p)

  -- a point outside
  pub lies-not : (at : ℕ) → IsFirstOutside rules.cube key points at → ¬ LiesInBox rules (tile_of key points)
  lies-not at first = λ all. by_points points all first.within first.outside
    where
      by_points : (ps : List Point) → AllInBox rules.cube key ps → at < length ps → ((d : Point) → ¬ InBox rules.cube key (place (get_or ps at d))) → ⊥
      by_points [] all within outside = (let wrong : at < 0 = within in omega (arith, wrong))
      by_points (p ∷ ps) all within outside = outside p (all at p within)

  -- a point that loses in an open octant
  pub open-not : (at : ℕ) → position (is_open_loser rules key.depth mask points) points ≡ Some at → ¬ HasNoOpenLoser rules (keys_of nodes) (tile_of key points)
  unfolding keys
  open-not at is = λ all. by_points points refl all
    where
      by_points : (ps : List Point) → points ≡ ps → HasNoOpenLoser rules (keys_of nodes) (tile_of key points) → ⊥
      by_points [] same all = absurd (let wrong : None ≡ Some at = sym (ap (λ (w : List Point). position (is_open_loser rules key.depth mask points) w) same) ∙ is in cc)
      by_points (p ∷ ps) same all = (
          let r = position-Some (is_open_loser rules key.depth mask points) points at p is in
          let q = get_or points at p in
          let both = and-true (loses rules key.depth points q) (opened mask (octant rules key.depth q)) r.1 in
          false≢true (sym (all at p r.0 both.0) ∙ (sym (is-open q) ∙ both.1)))

  pub many-not : (o : ℕ) → IsFirstOverfull rules key.depth mask points o → ¬ HasFewLosers rules (keys_of nodes) (tile_of key points)
  unfolding overflows keys
  many-not o first = λ few. (
      let both = and-true (not (opened mask o)) (overflows rules key.depth points o) first.overfull in
      let shut = sym (open_are o first.one_of_eight) ∙ not-true (opened mask o) both.0 in
      let parts = and-true (nat_lt key.depth rules.cube.depth) (nat_lt rules.threshold (length (losers rules key.depth points o))) both.1 in
      let more = less-true rules.threshold (length (losers rules key.depth points o)) parts.1 in
      let most = few (less-true key.depth rules.cube.depth parts.0) o first.one_of_eight shut in
      omega (arith, more, most))

  pub no-open : position (is_open_loser rules key.depth mask points) points ≡ None → HasNoOpenLoser rules (keys_of nodes) (tile_of key points)
  unfolding keys
  no-open none = λ k d within loses'. (
      let q = get_or points k d in
      sym (is-open q) ∙ and-false (loses rules key.depth points q) (opened mask (octant rules key.depth q)) (none-passes (is_open_loser rules key.depth mask points) points none q (IsMember-contains q points (Contains-get_or points k d within))) loses')

  pub few-there : NoneIsOverfull rules key.depth mask points → HasFewLosers rules (keys_of nodes) (tile_of key points)
  unfolding overflows keys
  few-there none = λ deep o less shut. by_test o (opened mask o) (open_are o less ∙ shut) (none o less) deep
    where
      by_test : (o : ℕ) (b : Bool) → b ≡ false → (not b && overflows rules key.depth points o) ≡ false → key.depth < rules.cube.depth → length (losers rules key.depth points o) ≤ rules.threshold
      by_test o true e f deep = absurd (cc)
      by_test o false e f deep =
          let second = and-false (nat_lt key.depth rules.cube.depth) (nat_lt rules.threshold (length (losers rules key.depth points o))) f (true-less key.depth rules.cube.depth deep) in
          less-false rules.threshold (length (losers rules key.depth points o)) second

  abbrev holds : Fault → Type 0
  holds f = Fact above before rules nodes key points f

  -- ---- what is found first

  module _ (parent : HasParent (keys_of nodes) key) where
    pub early-fault : (error : GridError) → error ≢ grid.Memory → (key.depth ≡ rules.cube.depth → mask ≡ 0) → IsTileFault key rules mask points error → MatchOption (fault_of error) ((f : Fault) → holds f) (λ why. IsFirstLack holds why)
    early-fault (grid.Outside at) other deepest fault = record { lacks = lies-not at fault; before = before_it }
      where
        before_it : (f : Fault) → number_of f < 2 → holds f
        before_it Orphan less = parent
        before_it Outside less = absurd (omega (arith, less))
        before_it OpenLoser less = absurd (omega (arith, less))
        before_it TooMany less = absurd (omega (arith, less))
        before_it Above less = absurd (omega (arith, less))
        before_it Few less = absurd (omega (arith, less))
        before_it Empty less = absurd (omega (arith, less))
        before_it Twice less = absurd (omega (arith, less))
    early-fault (grid.OpenLoser at) other deepest fault = record { lacks = open-not at fault.1; before = before_it }
      where
        before_it : (f : Fault) → number_of f < 3 → holds f
        before_it Orphan less = parent
        before_it Outside less = fault.0
        before_it OpenLoser less = absurd (omega (arith, less))
        before_it TooMany less = absurd (omega (arith, less))
        before_it Above less = absurd (omega (arith, less))
        before_it Few less = absurd (omega (arith, less))
        before_it Empty less = absurd (omega (arith, less))
        before_it Twice less = absurd (omega (arith, less))
    early-fault (grid.TooMany o) other deepest fault = record { lacks = many-not o fault.2; before = before_it }
      where
        before_it : (f : Fault) → number_of f < 4 → holds f
        before_it Orphan less = parent
        before_it Outside less = fault.0
        before_it OpenLoser less = no-open fault.1
        before_it TooMany less = absurd (omega (arith, less))
        before_it Above less = absurd (omega (arith, less))
        before_it Few less = absurd (omega (arith, less))
        before_it Empty less = absurd (omega (arith, less))
        before_it Twice less = absurd (omega (arith, less))
    early-fault grid.Deep other deepest fault = absurd (fault.4 (deepest fault.3))
    early-fault grid.Memory other deepest fault = absurd (other refl)

    module _ (tile : IsTile key rules mask points) where
      early : (f : Fault) → number_of f < 5 → holds f
      early Orphan less = parent
      early Outside less = tile.inside
      early OpenLoser less = no-open tile.no_open_loser
      early TooMany less = few-there tile.none_overfull
      early Above less = absurd (omega (arith, less))
      early Few less = absurd (omega (arith, less))
      early Empty less = absurd (omega (arith, less))
      early Twice less = absurd (omega (arith, less))

      split : (f : Fault) → (number_of f < 5) ⊎ (5 < number_of f)
      split Orphan = inl (omega arith)
      split Outside = inl (omega arith)
      split OpenLoser = inl (omega arith)
      split TooMany = inl (omega arith)
      split Above = inr (omega arith)
      split Few = inr (omega arith)
      split Empty = inr (omega arith)
      split Twice = inr (omega arith)

      pub late-first : (why : Fault) → IsFirstLate holds why → IsFirstLack holds why
      late-first why late = record { lacks = late.lacks; before = λ other less. by_side other less (split other) }
        where
          by_side : (other : Fault) → number_of other < number_of why → (number_of other < 5) ⊎ (5 < number_of other) → holds other
          by_side other less (inl low) = early other low
          by_side other less (inr high) = late.before other high less

      pub all-hold : ((f : Fault) → 5 < number_of f → holds f) → (f : Fault) → holds f
      all-hold late f = by_side (split f)
        where
          by_side : (number_of f < 5) ⊎ (5 < number_of f) → holds f
          by_side (inl low) = early f low
          by_side (inr high) = late f high
