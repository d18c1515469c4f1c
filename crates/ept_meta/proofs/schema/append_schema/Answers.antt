use Rattle.std.proofs.Common.{refl}
use Rattle.ept_meta.proofs.SchemaRows.{schema_written}
use Rattle.ept_meta.proofs.schema.append_schema.Goals as goal

pub returns : goal.returns
returns c =
    schema_written c.args.kept.now _ c.args.text.now.items c.append.new.text.items c.append_rows.new.text.items c.append-2.new.text.items
    refl c.in_ok-append.ensures c.in_ok-append_rows.ensures c.in_ok-append-2.ensures
