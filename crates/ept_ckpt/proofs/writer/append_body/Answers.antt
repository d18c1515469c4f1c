use Rattle.std.proofs.Common.{ℕ, List, ◌++◌, ◌∙◌, ap}
use Rattle.ept_ckpt.proofs.BodyText.{body_written}
use Rattle.ept_ckpt.proofs.writer.append_body.Goals as goal

pub returns : goal.returns
returns c =
    body_written c.args.checkpoint.now c.as_slice-counts.result.now c.as_slice-nodes.result.now c.args.out.now.items
    c.append.new.out.items c.append_u64.new.out.items c.append_kept.new.out.items c.append_precedence.new.out.items c.append_u32.new.out.items c.append_sources.new.out.items c.append_u64-2.new.out.items c.append_u32-2.new.out.items c.append_nodes.new.out.items
    c.as_slice-counts.ensures c.as_slice-nodes.ensures
    (c.in_ok-append.ensures ∙ ap (λ (m : List ℕ). c.args.out.now.items ++ m) c.mark.ensures) c.in_ok-append_u64.ensures c.in_ok-append_kept.ensures c.in_ok-append_precedence.ensures c.in_ok-append_u32.ensures c.in_ok-append_sources.ensures c.in_ok-append_u64-2.ensures c.in_ok-append_u32-2.ensures c.in_ok-append_nodes.ensures
