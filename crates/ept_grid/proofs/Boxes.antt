-- Points in a box.
use Rattle.std.proofs.Common.{◌≡◌, ℕ, ◌+◌, ◌<◌, List, length, get_or, sym, subst, Bool}
use Rattle.std.specs.Prelude.{IsTrue, ◌↔◌}
use borrow.Author.Count.{below_more}
use Rattle.std.proofs.lemmas.List.{get_or_read}
use Rattle.ept_point.specs.declared.point.Point.{Point}
use Rattle.ept_space.specs.VoxelKey.{VoxelKey}
use Rattle.ept_space.specs.OctreeCube.{OctreeCube, InBox}
use Rattle.ept_space.specs.Place.{Place}
use Rattle.ept_sample.specs.Place.{place}

pub in-box-test : (cube : OctreeCube) (key : VoxelKey) (at seen : Place) (b : Bool) (In : Place → Type 0) → seen ≡ at → (IsTrue b ↔ In seen) → ((q : Place) → In q ↔ InBox cube key q) → IsTrue b ↔ InBox cube key at
in-box-test cube key at seen b In is test all =
    (λ h. subst (λ (q : Place). InBox cube key q) is ((all seen).0 (test.0 h)), λ h. test.1 ((all seen).1 (subst (λ (q : Place). InBox cube key q) (sym is) h)))

-- one more point lies in the box
pub more-inside : (cube : OctreeCube) (key : VoxelKey) (points : List Point) (at : ℕ) (p : Point) → at < length points → p ≡ get_or points at p → InBox cube key (place p) → ((k : ℕ) (d : Point) → k < at → InBox cube key (place (get_or points k d))) → (k : ℕ) (d : Point) → k < at + 1 → InBox cube key (place (get_or points k d))
more-inside cube key points at p small is here below k d h =
    below_more (λ (n : ℕ). (e : Point) → InBox cube key (place (get_or points n e))) at (λ n less e. below n e less) (λ e. subst (λ (w : Point). InBox cube key (place w)) (get_or_read points at p small is e) here) k h d
