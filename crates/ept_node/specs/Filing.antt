-- What stays in memory of a node whose points go to its spill file.
use Rattle.std.specs.Prelude.{ℕ, ◌≡◌, List, length, ◌++◌}
use Rattle.ept_point.specs.declared.point.Point.{Point}
use Rattle.ept_point.specs.Order.{IsAscending}
use Rattle.ept_point.specs.Packed.{tile}
use Rattle.ept_sample.specs.Place.{AllInBox}
use Rattle.ept_grid.specs.Node.{Node, IsInIdOrder}
use Rattle.ept_grid.specs.Tile.{IsTile}
use Rattle.ept_node.specs.declared.site.Filed.{Filed}

-- the key, the rules, the count and the open octants of a node
pub record IsLabelOf (node : Node) (filed : Filed) : Type 0 where
  pub key : filed.site.key ≡ node.key
  pub rules : filed.site.rules ≡ node.rules
  pub count : filed.count ≡ length node.points
  pub mask : filed.mask ≡ node.mask

-- a node that fits this key, these rules, this count and these open octants
pub record FitsLabel (filed : Filed) (node : Node) : Type 0 where
  pub label : IsLabelOf node filed
  pub ascend : IsAscending node.points
  pub tile : IsTile node.key node.rules node.mask node.points

-- bytes are the tile of points that ascend, and the label counts these points
pub record AreFiled (filed : Filed) (bytes : List ℕ) (points : List Point) : Type 0 where
  pub bytes_are : bytes ≡ tile points
  pub count : filed.count ≡ length points
  pub ascend : IsAscending points

-- points are added to a list, in id order and each in the node's box; the node has the same number of points
pub record AppendsAlike (node : Node) (before after : List Point) : Type 0 where
  pub added : List Point
  pub grows : after ≡ before ++ added
  pub count : length added ≡ length node.points
  pub in_order : IsInIdOrder added
  pub inside : AllInBox node.rules.cube node.key added
