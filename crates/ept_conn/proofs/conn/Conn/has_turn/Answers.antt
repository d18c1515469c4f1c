use Rattle.std.proofs.Common.{◌∙◌, ap, sym, refl}
use Rattle.std.proofs.lemmas.Bool.{false≢true}
use Rattle.ept_conn.specs.Held.{Held}
use Rattle.ept_conn.proofs.Wanting.{full-has, short-has}
use Rattle.ept_conn.proofs.conn.Conn.has_turn.Goals as goal

pub returns-then-is_full : goal.returns-then-is_full
returns-then-is_full c =
    let going = ap (λ (h : Held). h.ended) (sym c.self.view_is) ∙ c.if-not-self.true in
    c.if-is_full.true ∙ sym (full-has c.args.self.now going (c.if-is_full.ensures.0 refl))

pub returns-else-is_full : goal.returns-else-is_full
returns-else-is_full c =
    let going = ap (λ (h : Held). h.ended) (sym c.self.view_is) ∙ c.if-not-self.true in
    c.head_is_there.ensures ∙ sym (short-has c.args.self.now going (λ full. false≢true (c.if-is_full.ensures.1 full)))
