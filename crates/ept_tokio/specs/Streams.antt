-- The stream of a link. The link does not show which bytes passed; the stream may.
use Rattle.std.specs.Prelude.{Option, None}
use Rattle.ept_base.specs.Links.{Wire}
use Rattle.ept_tokio.specs.declared.link.TokioLink.{TokioLink}

-- the stream to the peer
abbrev pub link_stream : {C S : Type 0} → TokioLink C S → S
link_stream link = link.stream

-- what came and went over it
abbrev pub link_wire : {C S : Type 0} → TokioLink C S → Option Wire
link_wire _ = None
