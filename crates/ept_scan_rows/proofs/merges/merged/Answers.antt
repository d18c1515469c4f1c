use Rattle.ept_scan_rows.proofs.merges.merged.Goals as goal

pub merge-requires : goal.merge-requires
merge-requires c = c.are_all_parts.ensures.0 c.if-not-are_all_parts.false
