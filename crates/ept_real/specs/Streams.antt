-- What a link and a sink are over. Neither shows which bytes passed; the stream may.
use Rattle.std.specs.Prelude.{ℕ, List, Option, None}
use Rattle.ept_base.specs.Links.{Wire}
use Rattle.ept_real.specs.declared.link.RealLink.{RealLink}
use Rattle.ept_real.specs.declared.sink.RealSink.{RealSink}

-- the stream to the peer
abbrev pub link_stream : {S : Type 0} → RealLink S → S
link_stream link = link.stream

-- what came and went over it
abbrev pub link_wire : {S : Type 0} → RealLink S → Option Wire
link_wire _ = None

-- the writer
abbrev pub sink_writer : {W : Type 0} → RealSink W → W
sink_writer sink = sink.out

-- the bytes written
abbrev pub sink_written : {W : Type 0} → RealSink W → Option (List ℕ)
sink_written _ = None
