use Rattle.std.proofs.Common.{◌∙◌}
use Rattle.ept_query.specs.declared.query_error.QueryFile.TheVariants.{Hierarchy}
use Rattle.ept_query.specs.Hierarchies.{HasNoHierarchy}
use Rattle.ept_query.proofs.Forms.{IsUnformed, refuses-reading, no-hierarchy, read-bytes}
use Rattle.ept_query.proofs.hierarchy.entries_at.Goals as goal

pub returns-clause-refused : goal.returns-clause-refused
returns-clause-refused g c =
    let files = g.T.Store.files c.args.store.now in
    refuses-reading (Hierarchy c.args.top.now) (IsUnformed c.args.search.now c.args.top.now c.deref.result.now) (λ all. HasNoHierarchy c.args.search.now all c.args.top.now) files c.entries_in.result
    (no-hierarchy c.args.search.now c.args.top.now c.as_str.result.now c.deref.result.now files (c.as_str.ensures.value ∙ c.in_ok-name.ensures) (read-bytes c.as_str.result.now c.in_ok-bytes.bytes.items c.deref.result.now files c.deref.ensures.value c.in_ok-bytes.ensures.found))
    c.entries_in.ensures.refused
