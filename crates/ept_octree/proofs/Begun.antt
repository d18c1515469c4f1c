-- The octree of no points is whole, and the sampling of none.
use Rattle.std.proofs.Common.{◌≡◌, ◌∙◌, ℕ, ◌<◌, Bool, true, inl, inr, List, [], ◌∷◌, map, refl, sym, ap, subst, arith}
use Rattle.std.proofs.lemmas.List.Elements.{All-nil}
use Rattle.ept_point.specs.declared.point.Point.{Point}
use Rattle.ept_space.specs.declared.cube.Rules.{Rules}
use Rattle.ept_space.specs.VoxelKey.{VoxelKey, root, child}
use Rattle.ept_space.specs.OctreeCube.{IsCube, InCube}
use Rattle.ept_sample.specs.Place.{place}
use Rattle.ept_sample.specs.Arrivals.{none_open, all_octants}
use Rattle.ept_sample.specs.Ids.{HasDistinctIds}
use Rattle.ept_sample.specs.Sampling.{is_node}
use Rattle.ept_sample.specs.SamplingLaws.{CanBeSampled}
use Rattle.ept_sample.proofs.KeyOrder.{AllPairs-IsRising}
use Rattle.ept_grid.specs.Mask.{opened}
use Rattle.ept_core.specs.declared.node.Node as core
use Rattle.ept_core.specs.State.{State, Entry, node_at, has_node, has_open}
use Rattle.ept_core.specs.Steps.{begun}
use Rattle.ept_core.proofs.CoreLaws.{begun-keeps, landed-sampled, landed-opens}
use Rattle.ept_core.proofs.NodeMap.{node_at-member, has_node-key, key-has_node}
use Rattle.ept_node.specs.Batch.{seen}
use Rattle.ept_node.specs.Shown.{empty_node}
use Rattle.ept_node.proofs.Bridges.{seen-stands}
use Rattle.ept_table.specs.Octree.{Branch, entry_of, AreWhole, AreSampled}
use Rattle.ept_table.proofs.ByKey.{open-there}
use Rattle.ept_octree.proofs.Rooting.{never-open}

none_open_seen : map (opened 0) all_octants ≡ map none_open all_octants
unfolding opened
none_open_seen = refl

module _ (rules : Rules) where
  abbrev alone : List Branch
  alone = (let b : Branch = (root, empty_node root rules) in b) ∷ []

  abbrev entries : List Entry
  entries = map entry_of alone

  is_root : (key : VoxelKey) → has_node entries key ≡ true → root ≡ key
  is_root key is = elim (has_node-key entries key is) [ inl same ↦ same | inr none ↦ absurd none ]

  root_node : node_at entries root ≡ seen (empty_node root rules)
  root_node =
      node_at-member entries (entry_of (root, empty_node root rules)) ((λ y m. absurd m), tt) (inl refl)

  pub root-whole : AreWhole entries
  root-whole = record {
    ascend = AllPairs-IsRising (root ∷ []) ((λ y m. absurd m), tt);
    rooted = key-has_node entries root (inl refl);
    below_open = λ key is. inl (sym (is_root key is));
    open_leads = λ key o low is. absurd (
        let same : root ≡ key = is_root key (open-there entries key o is) in
        let there : has_open (node_at entries root) o ≡ true = subst (λ (k : VoxelKey). has_open (node_at entries k) o ≡ true) (sym same) is in
        never-open root rules o low (sym ((seen-stands (empty_node root rules)).opens o low) ∙ (ap (λ (n : core.Node). has_open n o) (sym root_node) ∙ there)));
  }

  module _ (can : CanBeSampled rules []) where
    abbrev s : State
    s = begun []

    abbrev first : core.Node
    first = record { points = []; opened = map none_open all_octants; is_resident = true }

    first_node : node_at s.nodes root ≡ first
    first_node =
        node_at-member s.nodes (let e : Entry = (root, first) in e) ((λ y m. absurd m), tt) (inl refl)

    same_node : seen (empty_node root rules) ≡ first
    same_node =
        ap (λ (os : List Bool). let n : core.Node = record { points = []; opened = os; is_resident = true } in n) none_open_seen

    opens : (o : ℕ) → o < 8 → opened 0 o ≡ is_node rules [] (child root o)
    opens o low =
        sym ((seen-stands (empty_node root rules)).opens o low)
        ∙ (ap (λ (n : core.Node). has_open n o) (same_node ∙ sym first_node)
        ∙ landed-opens rules [] [] s root o (begun-keeps rules [] can) refl refl low)

    pub root-sampled : AreSampled rules [] alone
    root-sampled = record {
      tiles = landed-sampled rules [] [] s (begun-keeps rules [] can) refl refl;
      opens = λ b o m low. elim m [
        | inl same ↦ subst (λ (z : Branch). opened z.1.mask o ≡ is_node rules [] (child z.0 o)) same (opens o low)
        | inr none ↦ absurd none
      ];
    }

-- no points can be sampled
pub can-none : (rules : Rules) → IsCube rules.cube → CanBeSampled rules []
unfolding HasDistinctIds
can-none rules cube = record {
  cube = cube;
  inside = All-nil (λ (p : Point). InCube rules.cube (place p));
  distinct = λ p. omega arith;
}
