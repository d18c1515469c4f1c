-- All nodes, one after another.
use Rattle.std.proofs.Common.{◌≡◌, ◌∙◌, ℕ, ◌+◌, ◌<◌, List, [], ◌∷◌, ◌++◌, map, refl, sym, ap, subst, arith, filter, length, take, get_or, Result, IfOk}
use Rattle.std.specs.Global.{Vec}
use Rattle.std.specs.declared.cmp.Ordering.TheVariants.{Less}
use Rattle.std.specs.List.{All}
use Rattle.std.proofs.lemmas.List.{take_more, take_all, get_or-take, get_or-map, length-map, length-take}
use Rattle.std.proofs.lemmas.List.Elements.{All-from_get_or}
use Rattle.std.proofs.lemmas.Simd.{map-map}
use Rattle.ept_space.specs.VoxelKey.{key_cmp}
use Rattle.ept_hier.specs.declared.file.HierFile.{HierFile}
use Rattle.ept_hier.specs.Hierarchy.{Node, keys_of, hierarchy_text, file_of, has_file, hierarchy, KeysAscend}
use Rattle.ept_hier.specs.OpenFiles.{OpenFile, open_text, open_files, with_node, closed}
use Rattle.ept_hier.proofs.Steps.{one-more}

pub open_files-none : (step : ℕ) (nodes : List Node) → open_files step (take 0 nodes) ≡ []
unfolding open_files
open_files-none step [] = refl
open_files-none step (n ∷ nodes) = refl

ascend-at : (nodes : List Node) (i j : ℕ) (d : Node) → KeysAscend nodes → i < j → j < length nodes → key_cmp (get_or nodes i d).0 (get_or nodes j d).0 ≡ Less
unfolding KeysAscend
ascend-at nodes i j d up before inside =
    let keys : key_cmp (get_or (keys_of nodes) i d.0) (get_or (keys_of nodes) j d.0) ≡ Less = up i j d.0 before (omega (arith, inside, length-keys)) in
    subst (λ k. key_cmp k (get_or nodes j d).0 ≡ Less) (get_or-map (λ (n : Node). n.0) nodes i d d.0 (omega (arith, before, inside))) (subst (λ k. key_cmp (get_or (keys_of nodes) i d.0) k ≡ Less) (get_or-map (λ (n : Node). n.0) nodes j d d.0 inside) keys)
  where
    length-keys : length (keys_of nodes) ≡ length nodes
    length-keys = length-map nodes (λ (n : Node). n.0)

low_take : (i : ℕ) (nodes : List Node) (j : ℕ) → j < length (take i nodes) → j < i
low_take i nodes j low = let at = length-take i nodes in omega (arith, low, at)

-- the nodes before a node have smaller keys
in-front : (nodes : List Node) (i : ℕ) (n : Node) → KeysAscend nodes → i < length nodes → n ≡ get_or nodes i n → All (λ (m : Node). key_cmp m.0 n.0 ≡ Less) (take i nodes)
in-front nodes i n up inside is =
    All-from_get_or (λ (m : Node). key_cmp m.0 n.0 ≡ Less) (take i nodes) n (λ j low.
    let below : j < i = low_take i nodes j low in
    subst (λ (m : Node). key_cmp m.0 n.0 ≡ Less) (sym (get_or-take i nodes j n below)) (subst (λ (m : Node). key_cmp (get_or nodes j n).0 m.0 ≡ Less) (sym is) (ascend-at nodes j i n up below inside)))

-- one more turn of the loop
pub open_files-more : (step : ℕ) (nodes : List Node) (i : ℕ) (n : Node) (files new : List OpenFile) → KeysAscend nodes → i < length nodes → n ≡ get_or nodes i n → files ≡ open_files step (take i nodes) → new ≡ with_node step n files → new ≡ open_files step (take (i + 1) nodes)
open_files-more step nodes i n files new up inside is before after =
    after
    ∙ (ap (λ w. with_node step n w) before
    ∙ (one-more step (take i nodes) n (in-front nodes i n up inside is)
    ∙ ap (λ w. open_files step w) (ap (λ (m : Node). take i nodes ++ m ∷ []) is ∙ sym (take_more nodes i n inside))))

closed-is : (step : ℕ) (nodes : List Node) (n : Node) → closed (n.0, open_text step nodes n.0) ≡ file_of step nodes n
unfolding open_text hierarchy_text
closed-is step nodes n = refl

-- the files with the braces that end them
pub closed-files : (step : ℕ) (nodes : List Node) (files : List OpenFile) (i : ℕ) → i ≡ length nodes → files ≡ open_files step (take i nodes) → map closed files ≡ hierarchy step nodes
unfolding open_files hierarchy
closed-files step nodes files i end is =
    ap (map closed) (is ∙ ap (λ w. open_files step w) (take_all i nodes (omega (arith, end))))
    ∙ (map-map closed (λ (n : Node). let x : OpenFile = (n.0, open_text step nodes n.0) in x) (filter (λ (n : Node). has_file step n.0) nodes)
    ∙ map-same (filter (λ (n : Node). has_file step n.0) nodes))
  where
    map-same : (ns : List Node) → map (λ (n : Node). closed (n.0, open_text step nodes n.0)) ns ≡ map (file_of step nodes) ns
    map-same [] = refl
    map-same (n ∷ ns) = λ i. closed-is step nodes n i ∷ map-same ns i

pub files-same : {E : Type 0} (r : Result (Vec HierFile) E) (a b : List HierFile) → a ≡ b → IfOk r (λ v. v.items ≡ a) → IfOk r (λ v. v.items ≡ b)
files-same {E} r a b e h = let M : List HierFile → Type 0 = λ w. IfOk r (λ v. v.items ≡ w) in subst M e h
