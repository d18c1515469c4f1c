use Rattle.std.proofs.Common.{◌∙◌, ap, take}
use Rattle.ept_conn.proofs.HeadEnds.{window-within, window-clear}
use Rattle.ept_conn.proofs.conn.Conn.head_is_there.Goals as goal

pub find_end-requires-clause-within : goal.find_end-requires-clause-within
find_end-requires-clause-within c =
    window-within 8192 c.self.inside.searched c.self.inside.bytes.items c.first.result.now (c.first.ensures ∙ ap (take 8192) c.deref.ensures.value) c.self.invariant.within c.self.invariant.near

pub find_end-requires-clause-clear : goal.find_end-requires-clause-clear
find_end-requires-clause-clear c =
    window-clear 8192 c.self.inside.searched c.self.inside.bytes.items c.first.result.now (c.first.ensures ∙ ap (take 8192) c.deref.ensures.value) c.self.invariant.near c.self.invariant.clear
