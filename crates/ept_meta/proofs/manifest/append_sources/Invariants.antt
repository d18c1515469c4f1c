use Rattle.std.proofs.Common.{◌≡◌, ◌++◌, take}
use Rattle.std.specs.Prelude.{codes}
use Rattle.std.specs.List.{join_by, zip}
use Rattle.ept_meta.specs.ManifestText.{source_text}
use Rattle.ept_meta.proofs.manifest.append_sources.Given as goal

abbrev pub invariant-loop-at : goal.invariant-loop-at
invariant-loop-at l =
    l.text.items ≡ l.initial.text.items ++ join_by (source_text l.kept) (codes ",") (take l.at (zip l.kept.inputs l.counts))
