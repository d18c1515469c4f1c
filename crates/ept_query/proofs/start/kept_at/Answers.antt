use Rattle.std.specs.Prelude.{◌≢◌}
use Rattle.ept_config.specs.declared.kept.Kept.{Kept}
use Rattle.ept_meta.specs.BuildText.{build_text}
use Rattle.ept_meta.specs.declared.names.TheConstants.{BUILD_FILE}
use Rattle.ept_query.specs.declared.query_error.QueryFile.TheVariants.{BuildJson}
use Rattle.ept_query.specs.Damage.{HasNoBuild}
use Rattle.ept_query.proofs.Forms.{refuses-reading, read-bytes}
use Rattle.ept_query.proofs.Refusing.{built-only, no-build}
use Rattle.ept_query.proofs.start.kept_at.Goals as goal

pub returns-clause-found : goal.returns-clause-found
returns-clause-found g c =
    let files = g.T.Store.files c.args.store.now in
    built-only files BUILD_FILE.now c.deref.result.now c.output_names_law.ensures.build_file (read-bytes BUILD_FILE.now c.in_ok-bytes.bytes.items c.deref.result.now files c.deref.ensures.value c.in_ok-bytes.ensures.found)
    c.kept_in.result c.kept_in.ensures.text c.kept_in.ensures.only

pub returns-clause-refused : goal.returns-clause-refused
returns-clause-refused g c =
    let files = g.T.Store.files c.args.store.now in
    refuses-reading BuildJson ((other : Kept) → c.deref.result.now ≢ build_text other) HasNoBuild files c.kept_in.result
    (no-build files BUILD_FILE.now c.deref.result.now c.output_names_law.ensures.build_file (read-bytes BUILD_FILE.now c.in_ok-bytes.bytes.items c.deref.result.now files c.deref.ensures.value c.in_ok-bytes.ensures.found))
    c.kept_in.ensures.refused
