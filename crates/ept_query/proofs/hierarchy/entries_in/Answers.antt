use Rattle.std.proofs.Common.{List, refl, sym, subst}
use Rattle.std.proofs.lemmas.Bool.{false≢true}
use Rattle.ept_hier.specs.Hierarchy.{Entry}
use Rattle.ept_query.specs.declared.query_error.QueryError.{QueryError}
use Rattle.ept_query.specs.declared.query_error.QueryFile.TheVariants.{Hierarchy}
use Rattle.ept_query.specs.Damage.{RefusesBytes}
use Rattle.ept_query.specs.Hierarchies.{AreOf}
use Rattle.ept_query.proofs.Forms.{IsUnformed, unformed, refuses-bytes}
use Rattle.ept_query.proofs.Readings.{first-reading}
use Rattle.ept_query.proofs.hierarchy.entries_in.Goals as goal

pub returns-in-Err-clause-refused : goal.returns-in-Err-clause-refused
returns-in-Err-clause-refused c =
    subst (λ (e : QueryError). RefusesBytes (Hierarchy c.args.top.now) (IsUnformed c.args.search.now c.args.top.now c.args.bytes.now) e) (sym c.told_of.ensures) (refuses-bytes c.args.search.now c.args.top.now (Hierarchy c.args.top.now) c.args.bytes.now c.in-Err.error c.in-Err.ensures.refused)

pub returns-else-are_of-clause-refused : goal.returns-else-are_of-clause-refused
returns-else-are_of-clause-refused c =
    let found = c.read_hierarchy_file.new.out.items in (
      refl,
      λ entries reading. unformed c.args.search.now c.args.top.now c.args.bytes.now found entries
          (first-reading c.args.bytes.now c.new-entries.result.items found c.new-entries.ensures.items c.in-Ok.ensures.ok)
          (λ form. false≢true (c.if-are_of.ensures.1 (subst (λ (es : List Entry). AreOf c.args.search.now c.args.top.now es) (sym c.deref.ensures.value) form)))
          reading,
    )
