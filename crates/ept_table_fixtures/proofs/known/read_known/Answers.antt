use Rattle.std.proofs.Common.{rules, ◌∙◌, ap, sym, subst, arith, Option, Some, List}
use Rattle.std.specs.Prelude.{All}
use Rattle.ept_base.specs.Files.{Files, Tells}
use Rattle.ept_point.specs.declared.point.Point.{Point}
use Rattle.ept_config.specs.declared.source_count.SourceCount.{SourceCount}
use Rattle.ept_config.specs.Counts.{total}
use Rattle.ept_scan.specs.Opening.{IsKeptScan, IsFileOf}
use Rattle.ept_scan.specs.Queue.{Held}
use Rattle.ept_scan.specs.Reader.{files_of}
use Rattle.ept_mem.specs.declared.source.MemSource.{MemSource}
use Rattle.ept_mem.specs.Objects.{source_bytes, shelf_files}
use Rattle.ept_table_fixtures.proofs.Reading.{kept-scan}
use Rattle.ept_table_fixtures.proofs.known.read_known.Goals as goal

pub returns-clause-known : goal.returns-clause-known
returns-clause-known c =
    let scanned = c.in-Ok-scan.ensures.scan in
    let first : IsKeptScan (shelf_files c.args.shelf.now) c.in-Ok-kept.kept c.in-Ok-scan.done.counts scanned.0 = kept-scan c.kept_law.ensures (shelf_files c.args.shelf.now) c.in-Ok.config c.in-Ok.config.bounds c.in-Ok-kept.kept c.in-Ok-scan.done scanned.0 c.in-Ok-kept.ensures.kept scanned.1 in
    let then : IsKeptScan (shelf_files c.scan.new.shelf) c.in-Ok-kept.kept c.in-Ok-scan.done.counts scanned.0 = subst (λ (told : Option Files). Tells (λ (all : Files). IsKeptScan all c.in-Ok-kept.kept c.in-Ok-scan.done.counts scanned.0) told) (sym c.scan.ensures.files) first in
    let mine : IsKeptScan (shelf_files c.scan.new.shelf) c.in-Ok-kept.kept c.in-Ok-scan.done.counts c.in-Some.points.items = subst (λ (w : List Point). IsKeptScan (shelf_files c.scan.new.shelf) c.in-Ok-kept.kept c.in-Ok-scan.done.counts w) (sym (c.in-Some.ensures.points scanned.0 then)) then in
    let last : IsKeptScan (shelf_files c.all_points.new.shelf) c.in-Ok-kept.kept c.in-Ok-scan.done.counts c.in-Some.points.items = subst (λ (all : Files). IsKeptScan all c.in-Ok-kept.kept c.in-Ok-scan.done.counts c.in-Some.points.items) (sym c.all_points.ensures.files) mine in
    let given : IsKeptScan (shelf_files c.all_points.new.shelf) c.in-Ok-kept.kept c.as_slice.result.now c.in-Some.points.items = subst (λ (w : List SourceCount). IsKeptScan (shelf_files c.all_points.new.shelf) c.in-Ok-kept.kept w c.in-Some.points.items) (sym c.as_slice.ensures) last in
    record {
      can = record { cube = c.known.ensures; inside = search rules; distinct = search rules };
      total = omega (arith, c.in-Some.ensures.number, c.in-Ok-reader.ensures.left, c.allow.ensures.left, ap total c.as_slice.ensures);
      rest = c.allow.ensures.rest c.in-Some.points.items (c.in-Ok-reader.ensures.rest c.in-Some.points.items given);
      undrawn = c.allow.ensures.drawn ∙ c.in-Ok-reader.ensures.drawn;
      sound = c.allow.ensures.refusal ∙ c.in-Ok-reader.ensures.refusal;
      reader = c.allow.ensures.reader;
      cube = c.in-Some-of.ensures.cube;
      counts = search rules;
      files = subst (λ (w : List Held). All (IsFileOf c.in-Ok-kept.kept c.in-Ok-scan.done.counts) w) (sym c.allow.ensures.files) (subst (λ (w : List SourceCount). All (IsFileOf c.in-Ok-kept.kept w) (files_of (λ (source : MemSource). Some (source_bytes source)) c.in-Ok-reader.reader)) c.as_slice.ensures c.in-Ok-reader.ensures.inputs);
    }
