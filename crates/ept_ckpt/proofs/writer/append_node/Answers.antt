use Rattle.ept_space.specs.VoxelKey.{VoxelKey}
use Rattle.ept_ckpt.proofs.NodeText.{node_written}
use Rattle.ept_ckpt.proofs.writer.append_node.Goals as goal

pub returns : goal.returns
returns c =
    let key : VoxelKey = record { depth = c.key.inside.depth; x = c.key.inside.x; y = c.key.inside.y; z = c.key.inside.z } in
    node_written c.args.line.now key c.code.result c.args.out.now.items c.append_u8.new.out.items c.append_u32.new.out.items c.append_u32-2.new.out.items c.append_u32-3.new.out.items c.append_u64.new.out.items c.append.new.out.items
    c.key.view_is c.code.ensures c.in_ok-append_u8.ensures c.in_ok-append_u32.ensures c.in_ok-append_u32-2.ensures c.in_ok-append_u32-3.ensures c.in_ok-append_u64.ensures c.in_ok-append.ensures
