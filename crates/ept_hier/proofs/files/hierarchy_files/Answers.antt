use Rattle.std.proofs.Common.{rules, ◌∙◌, sym, map, arith}
use Rattle.ept_hier.specs.Hierarchy.{hierarchy}
use Rattle.ept_hier.specs.OpenFiles.{closed}
use Rattle.ept_hier.proofs.AllNodes.{open_files-none, open_files-more, closed-files, files-same}
use Rattle.ept_hier.proofs.files.hierarchy_files.Goals as goal

pub loop-key-init : goal.loop-key-init
loop-key-init c = c.new-files.ensures.empty ∙ sym (open_files-none c.args.step c.args.nodes.now)

pub loop-key-preserved : goal.loop-key-preserved
loop-key-preserved c =
    open_files-more c.args.step c.args.nodes.now c.loop-key.key-index _ c.loop-key.files.entries c.add_node.new.files.entries c.requires (search (rules, arith)) (search (rules, arith)) c.loop-key.invariant c.in_ok-add_node.ensures

pub returns : goal.returns
returns c = record {
  files = files-same c.closed_files.result (map closed c.loop-key.files.entries) (hierarchy c.args.step c.args.nodes.now) (closed-files c.args.step c.args.nodes.now c.loop-key.files.entries c.loop-key.key-index (search (rules, arith)) c.loop-key.invariant) c.closed_files.ensures;
}
