use Rattle.std.proofs.Common.{◌∙◌, List, map, ap}
use Rattle.ept_space.specs.VoxelKey.{VoxelKey}
use Rattle.ept_ckpt.specs.declared.node_line.NodeLine.{NodeLine}
use Rattle.ept_save.specs.declared.saved.Line.{Line}
use Rattle.ept_save.specs.Stored.{line_of}
use Rattle.ept_save.specs.Lines.{with_line}
use Rattle.ept_save.specs.View.{View}
use Rattle.ept_save.proofs.Inserting.{insert-line}
use Rattle.ept_save.proofs.saved.Saved.note.Goals as goal

pub returns-clause-line : goal.returns-clause-line
returns-clause-line c =
    let line : Line = record { count = c.args.count; mask = c.args.mask; letter = c.args.letter } in
    ap (λ (w : List NodeLine). let v : View = record { current = c.self.inside.current; lines = w; begun = c.self.inside.begun } in v)
    (ap (λ (w : List (VoxelKey × Line)). map line_of w) c.in_ok-insert.ensures.entries ∙ insert-line c.args.key line c.self.inside.lines.entries c.in_ok-insert.ensures.was_ordered)
    ∙ ap (λ (v : View). let w : View = record v { lines = with_line (line_of (c.args.key, line)) v.lines } in w) c.self.view_is
