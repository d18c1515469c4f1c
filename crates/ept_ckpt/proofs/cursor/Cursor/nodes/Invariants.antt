use Rattle.std.proofs.Common.{◌≡◌, ◌-◌, length}
use Rattle.std.specs.List.{All}
use Rattle.ept_ckpt.specs.Fields.{times}
use Rattle.ept_ckpt.specs.Forms.{node_form}
use Rattle.ept_ckpt.specs.Valid.{IsNode}
use Rattle.ept_ckpt.proofs.Counted.{after}
use Rattle.ept_ckpt.proofs.cursor.Cursor.nodes.Given as goal

-- the nodes so far, and then those that are left, are all
abbrev pub invariant-loop : goal.invariant-loop
invariant-loop l = record {
  whole : times l.fn.number (node_form l.fn.most) l.fn.self.total l.fn.self.rest.now ≡ after l.nodes.items (times (l.fn.number - l.counter) (node_form l.fn.most) l.fn.self.total l.self.rest.now);
  same : l.self.total ≡ l.fn.self.total;
  lines : All (IsNode l.fn.most) l.nodes.items;
  read : length l.nodes.items ≡ l.counter;
}
