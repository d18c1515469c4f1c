-- How many tiles a plan has.
use Rattle.std.proofs.Common.{◌≡◌, ◌≤◌, ℕ, List, length, subst, arith}
use Rattle.std.proofs.lemmas.List.{length-map}
use Rattle.ept_base.specs.Files.{Files}
use Rattle.ept_space.specs.declared.box3.Box3.{Box3}
use Rattle.ept_space.specs.VoxelKey.{VoxelKey}
use Rattle.ept_config.specs.declared.kept.Kept.{Kept}
use Rattle.ept_hier.specs.Hierarchy.{Node, keys_of}
use Rattle.ept_sample.proofs.Members.{IsMember-contains, contains-IsMember, member-map}
use Rattle.ept_query.specs.Search.{search_of}
use Rattle.ept_query.specs.Plan.{IsBuiltWith, IsPlanned, HasPlanned}
use Rattle.ept_query.specs.Parts.{Plan}
use Rattle.ept_query.specs.Planning.{IsPlanFor}
use Rattle.ept_query.proofs.Counting.{fewer}

-- no more than any list that has their keys
pub plan-size : (area : Box3) (first last : ℕ) (plan : Plan) (files : Files) → IsPlanFor area first last plan files → (planned : List VoxelKey) → ((kept : Kept) → IsBuiltWith files kept → HasPlanned (search_of kept area first last) files planned) → length plan.tiles ≤ length planned
plan-size area first last plan files is planned others =
    let kept : Kept = is.build.0 in
    let built : IsBuiltWith files kept = is.build.1 in
    let made = is.tiles kept built in
    let count : length (keys_of plan.tiles) ≤ length planned = fewer (keys_of plan.tiles) planned made.ascend (λ key has. (
    let found = member-map (λ (n : Node). n.0) key plan.tiles (IsMember-contains key (keys_of plan.tiles) has) in
    let n : Node = found.0 in
    others kept built key n.1 (subst (λ (k : VoxelKey). IsPlanned (search_of kept area first last) files k n.1) found.2 ((made.each n.0 n.1).0 (contains-IsMember n plan.tiles found.1))))) in
    let size : length (keys_of plan.tiles) ≡ length plan.tiles = length-map plan.tiles (λ (n : Node). n.0) in
    omega (arith, count, size)
