use Rattle.std.proofs.Common.{◌∙◌, ap, sym, take, lit≤}
use Rattle.ept_conn.proofs.HeadEnds.{window-within, window-clear, window-searched, none-is}
use Rattle.ept_conn.proofs.conn.Conn.find_head.Goals as goal

pub find_end-end-requires-clause-within : goal.find_end-end-requires-clause-within
find_end-end-requires-clause-within c =
    window-within 8192 c.self.inside.searched c.self.inside.bytes.items c.first-window.result.now (c.first-window.ensures ∙ ap (take 8192) c.as_slice.ensures.value) c.self.invariant.within c.self.invariant.near

pub find_end-end-requires-clause-clear : goal.find_end-end-requires-clause-clear
find_end-end-requires-clause-clear c =
    window-clear 8192 c.self.inside.searched c.self.inside.bytes.items c.first-window.result.now (c.first-window.ensures ∙ ap (take 8192) c.as_slice.ensures.value) c.self.invariant.near c.self.invariant.clear

pub invariant_of-self : goal.invariant_of-self
invariant_of-self c =
    window-searched 8192 c.self.inside.given c.self.inside.ended c.self.inside.bytes.items c.first-window.result.now (lit≤ tt) (c.first-window.ensures ∙ ap (take 8192) c.as_slice.ensures.value) (sym c.find_end-end.ensures ∙ none-is c.find_end-end.result c.if-is_none.ensures) c.self.invariant.room
