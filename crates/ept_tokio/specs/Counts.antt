-- The counts that a link keeps.
use Rattle.std.specs.Prelude.{ℕ}
use Rattle.ept_tokio.specs.declared.link.TokioLink.{TokioLink}

-- how often it has failed
abbrev pub link_faults : {C S : Type 0} → TokioLink C S → ℕ
link_faults link = link.faults

-- how often a read and a write were pending
abbrev pub link_read_waits : {C S : Type 0} → TokioLink C S → ℕ
link_read_waits link = link.read_waits

abbrev pub link_write_waits : {C S : Type 0} → TokioLink C S → ℕ
link_write_waits link = link.write_waits
