use Rattle.ept_config.specs.Facts.{input_facts}
use Rattle.ept_ckpt.specs.Facts.{Source}
use Rattle.ept_ckpt.proofs.SourceText.{source_written}
use Rattle.ept_ckpt.proofs.writer.append_source.Goals as goal

pub returns : goal.returns
returns c =
    let source : Source = (input_facts c.args.input.now, c.args.count.now) in
    source_written source c.flag.result c.flag-2.result c.args.out.now.items
    c.append_path.new.out.items c.append_u8.new.out.items c.append_i64s.new.out.items c.append_u8-2.new.out.items c.append_expect.new.out.items c.append_u64.new.out.items c.append_u8-3.new.out.items c.append_extent.new.out.items
    c.flag.ensures.flag c.flag-2.ensures.flag
    c.in_ok-append_path.ensures c.in_ok-append_u8.ensures c.in_ok-append_i64s.ensures c.in_ok-append_u8-2.ensures c.in_ok-append_expect.ensures c.in_ok-append_u64.ensures c.in_ok-append_u8-3.ensures c.in_ok-append_extent.ensures
