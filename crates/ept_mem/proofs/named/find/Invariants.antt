use Rattle.std.proofs.Common.{◌≡◌, drop}
use Rattle.ept_mem.specs.Named.{content_of}
use Rattle.ept_mem.proofs.named.find.Given as goal

abbrev pub invariant-loop-file : goal.invariant-loop-file
invariant-loop-file l = content_of (drop l.file-index l.files) l.name ≡ content_of l.files l.name
