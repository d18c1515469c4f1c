-- The refusals of the reader and of nodes as refusals of workers.
use Rattle.std.specs.Prelude.{Option, Some, None, Result, Ok, Err}
use Rattle.ept_scan.specs.declared.read_error.ReadError.{ReadError}
use Rattle.ept_scan.specs.declared.read_error.ReadError.TheVariants as read
use Rattle.ept_node.specs.declared.error.NodeError.{NodeError}
use Rattle.ept_node.specs.declared.error.NodeError.TheVariants as node
use Rattle.ept_work.specs.declared.error.WorkError.{WorkError}
use Rattle.ept_work.specs.declared.error.WorkError.TheVariants.{SourceFault, SourceChanged, SpillFault, SpillDamaged, Memory}

abbrev pub of_read : ReadError → WorkError
of_read read.SourceFault = SourceFault
of_read (read.SourceChanged source number) = SourceChanged source number
of_read read.Memory = Memory

abbrev pub of_node : NodeError → WorkError
of_node node.SpillFault = SpillFault
of_node (node.SpillDamaged kept found at) = SpillDamaged kept found at
of_node node.Memory = Memory

-- what is returned if no node was taken up: that it is to be tried again, or why not
abbrev pub answer_staying : {X : Type 0} → Option NodeError → Result (Option X) WorkError
answer_staying None = Ok None
answer_staying (Some why) = Err (of_node why)

-- the result of the workers: why a node is broken, if one is, and otherwise what the workers returned
abbrev pub settled_by : Option NodeError → Result (Unit {0}) WorkError → Result (Unit {0}) WorkError
settled_by (Some why) answer = Err (of_node why)
settled_by None answer = answer
