use Rattle.std.proofs.Common.{◌∙◌, ap, sym, refl, inr}
use Rattle.std.proofs.lemmas.Bool.{false≢true}
use Rattle.ept_conn.specs.HeadEnd.{front}
use Rattle.ept_conn.specs.Held.{Held}
use Rattle.ept_conn.proofs.HeadEnds.{within-window, front-whole, front-long, front-short, held-full, not-held-full}
use Rattle.ept_conn.proofs.conn.Conn.next.Goals as goal

pub answer-requires-clause-head : goal.answer-requires-clause-head
answer-requires-clause-head c = ap (λ (held : Held). front held.bytes) c.in-Some.ensures.same ∙ front-whole _ _ c.in-Some.ensures.value

pub answer-requires-clause-within : goal.answer-requires-clause-within
answer-requires-clause-within c = within-window 8192 c.args.self.now.bytes c.find_head.new.self.bytes c.in-Some.len (ap (λ (held : Held). held.bytes) c.in-Some.ensures.same) (sym c.in-Some.ensures.value)

pub refuse-requires-clause-long : goal.refuse-requires-clause-long
refuse-requires-clause-long c = ap (λ (held : Held). front held.bytes) c.in-None.ensures.same ∙ front-long _ c.in-None.ensures.value (held-full 8192 _ _ c.in-None.ensures.same (c.if-is_full.ensures.0 refl))

pub returns-in-None-2-clause-none : goal.returns-in-None-2-clause-none
returns-in-None-2-clause-none c = (
  inr (front-short _ c.in-None.ensures.value (not-held-full 8192 _ _ c.in-None.ensures.same (λ full. absurd (false≢true (c.if-is_full.ensures.1 full))))),
  c.in-None.ensures.same,
)
