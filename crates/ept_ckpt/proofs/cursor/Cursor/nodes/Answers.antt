use Rattle.std.proofs.Common.{rules, ◌≡◌, ◌≢◌, ◌∙◌, ◌-◌, ◌+◌, ◌<◌, List, [], ◌∷◌, ◌++◌, Ok, Err, sym, ap}
use Rattle.ept_ckpt.specs.declared.field_error.FieldError.TheVariants.{Memory}
use Rattle.ept_ckpt.specs.declared.node_line.NodeLine.{NodeLine}
use Rattle.ept_ckpt.specs.Fields.{times}
use Rattle.ept_ckpt.specs.Forms.{node_form}
use Rattle.ept_ckpt.proofs.Counted.{after, one_more, one_refused, refused_reads}
use Rattle.ept_ckpt.proofs.cursor.Cursor.nodes.Goals as goal

pub returns-in_err-node-clause-reads : goal.returns-in_err-node-clause-reads
returns-in_err-node-clause-reads c =
    let below : c.loop.counter < c.args.number = search rules in
    let refused : c.in_err-node.field-0.0 ≢ Memory → node_form c.args.most c.args.self.now.total c.loop.self.rest.now ≡ Err c.in_err-node.field-0.0 = search rules in
    let is : c.from_residual.result ≡ Err c.in_err-node.field-0.0 = search rules in
    refused_reads (times c.args.number (node_form c.args.most)) (λ nodes. nodes) c.args.self.now c.node.new.self c.from_residual.result c.in_err-node.field-0.0 is
    (λ known. c.loop.invariant.whole ∙ one_refused (node_form c.args.most) c.args.self.now.total c.loop.nodes.items c.args.number c.loop.counter c.loop.self.rest.now c.in_err-node.field-0.0 below (refused known))

pub loop-preserved : goal.loop-preserved
loop-preserved c =
    let below : c.loop.counter < c.args.number = search rules in
    let read : node_form c.args.most c.args.self.now.total c.loop.self.rest.now ≡ Ok (c.in_ok-node.field-0, c.node.new.self.rest.now) = search rules in
    let pushed : c.push.new.self.items ≡ c.loop.nodes.items ++ c.in_ok-node.field-0 ∷ [] = search rules in
    record {
      whole = c.loop.invariant.whole ∙ (one_more (node_form c.args.most) c.args.self.now.total c.loop.nodes.items c.args.number c.loop.counter c.loop.self.rest.now c.node.new.self.rest.now c.in_ok-node.field-0 below read
          ∙ ap (λ (w : List NodeLine). after w (times (c.args.number - (c.loop.counter + 1)) (node_form c.args.most) c.args.self.now.total c.node.new.self.rest.now)) (sym pushed));
      same = search rules;
      lines = search rules;
      read = search rules;
    }
