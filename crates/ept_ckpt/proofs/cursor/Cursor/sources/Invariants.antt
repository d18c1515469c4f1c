use Rattle.std.proofs.Common.{◌≡◌, ◌≤◌, ◌-◌, length}
use Rattle.std.specs.List.{All}
use Rattle.ept_ckpt.specs.Facts.{sources_of}
use Rattle.ept_ckpt.specs.Fields.{times}
use Rattle.ept_ckpt.specs.Forms.{source_form}
use Rattle.ept_config.specs.Counts.{IsCount}
use Rattle.ept_ckpt.specs.Valid.{ExtentInRange}
use Rattle.ept_ckpt.proofs.Counted.{after}
use Rattle.ept_ckpt.proofs.cursor.Cursor.sources.Given as goal

-- the sources so far, and then those that are left, are all
abbrev pub invariant-loop : goal.invariant-loop
invariant-loop l = record {
  whole : times l.fn.number (source_form l.fn.most l.fn.scale l.fn.bounds) l.fn.self.total l.fn.self.rest.now
      ≡ after (sources_of l.inputs.items l.counts.items) (times (l.fn.number - l.counter) (source_form l.fn.most l.fn.scale l.fn.bounds) l.fn.self.total l.self.rest.now);
  same : l.self.total ≡ l.fn.self.total;
  scales : All (λ input. input.scale ≤ l.fn.scale) l.inputs.items;
  few : All (λ count. count.points ≤ l.fn.most) l.counts.items;
  counted : All (IsCount l.fn.bounds) l.counts.items;
  extents : All ExtentInRange l.counts.items;
  inputs_read : length l.inputs.items ≡ l.counter;
  counts_read : length l.counts.items ≡ l.counter;
}
