use Rattle.std.proofs.lemmas.List.{take_all}
use Rattle.ept_scan.specs.Asking.{AsksFor, paths_from}
use Rattle.std.proofs.Common.{ℕ, List, sym, subst, arith, length, ap}
use Rattle.std.specs.Prelude.{◌≡◌, All, Option, Some, None, IfSome}
use Rattle.ept_point.specs.declared.point.Point.{Point}
use Rattle.std.specs.List.{AllZip}
use Rattle.ept_config.specs.declared.source_count.SourceCount.{SourceCount}
use Rattle.ept_space.specs.declared.bounds.Bounds.{Bounds}
use Rattle.ept_space.specs.CubeOfBounds.{HasPlace}
use Rattle.ept_scan.specs.Scans.{in_order, AreBounds}
use Rattle.ept_config.specs.Counts.{IsCountOf, IsCount}
use Rattle.ept_scan.proofs.Listing.{zip_length}
use Rattle.ept_scan.proofs.Sound.{all_sound, scan_found, bounds_ordered, limits_ordered}
use Rattle.ept_scan.proofs.first_reading.scan.Goals as goal

pub returns-in-Some-clause-one_each : goal.returns-in-Some-clause-one_each
returns-in-Some-clause-one_each g c =
    let found = c.in_ok-counts.ensures.found in
    omega (arith, found.size, zip_length IsCountOf found.lists c.in_ok-counts.counts.items found.counts_are, ap length c.of.ensures)

pub returns-in-Some-clause-sound : goal.returns-in-Some-clause-sound
returns-in-Some-clause-sound g c =
    let found = c.in_ok-counts.ensures.found in
    subst (λ (l : List SourceCount). All (IsCount c.in-Some.bounds) l) (sym c.of.ensures)
    (all_sound _ _ _ _ _ _ c.in_ok-counts.counts.items c.in-Some.bounds found (c.in-Some.ensures found.lists (subst (λ (l : List SourceCount). AllZip IsCountOf found.lists l) (sym c.deref.ensures.value) found.counts_are)))

pub returns-in-Some-clause-ordered : goal.returns-in-Some-clause-ordered
returns-in-Some-clause-ordered g c =
    let found = c.in_ok-counts.ensures.found in
    let place = subst (λ (o : Option Bounds). IfSome o HasPlace) (sym c.limits_of-limits.ensures) (limits_ordered c.args.kept c.args.config.now.bounds c.requires.kept c.args.config.now.has_bounds) in
    bounds_ordered c.limits_of-limits.result (in_order found.lists) c.in-Some.bounds place (c.in-Some.ensures found.lists (subst (λ (l : List SourceCount). AllZip IsCountOf found.lists l) (sym c.deref.ensures.value) found.counts_are))

-- if there are limits, they are the bounds
limits_kept : (limits : Option Bounds) (points : List Point) (bounds : Bounds) → AreBounds limits points bounds → IfSome limits (λ b. bounds ≡ b)
limits_kept None points bounds are = tt
limits_kept (Some limits) points bounds are = are

pub returns-in-Some-clause-bounds : goal.returns-in-Some-clause-bounds
returns-in-Some-clause-bounds g c =
    let found = c.in_ok-counts.ensures.found in
    subst (λ (o : Option Bounds). IfSome o (λ b. c.in-Some.bounds ≡ b)) c.limits_of-limits.ensures
    (limits_kept c.limits_of-limits.result (in_order found.lists) c.in-Some.bounds (c.in-Some.ensures found.lists (subst (λ (l : List SourceCount). AllZip IsCountOf found.lists l) (sym c.deref.ensures.value) found.counts_are)))

pub returns-in-Some-clause-scan : goal.returns-in-Some-clause-scan
returns-in-Some-clause-scan g c =
    let found = c.in_ok-counts.ensures.found in
    scan_found (g.H.Shelf.files c.args.shelf.now) c.args.config.now.scale c.limits_of-limits.result _ c.args.config.now.inputs c.args.from c.in_ok-counts.counts.items c.of.result c.in-Some.bounds c.limits_of-limits.ensures c.of.ensures found
    (c.in-Some.ensures found.lists (subst (λ (l : List SourceCount). AllZip IsCountOf found.lists l) (sym c.deref.ensures.value) found.counts_are))

pub returns-in-None-clause-asked : goal.returns-in-None-clause-asked
returns-in-None-clause-asked g c =
    let all : List (List ℕ) = paths_from c.args.config.now.inputs c.args.from in
    (length all, subst (λ (l : List (List ℕ)). AsksFor l (g.H.Shelf.asked c.args.shelf.now) (g.H.Shelf.asked c.scan_inputs.new.shelf)) (sym (take_all (length all) all (omega arith))) c.in_ok-counts.ensures.asked)
