-- What a polled link in memory holds.
use Rattle.std.specs.Prelude.{◌≡◌, ℕ, List, Contains}
use Rattle.ept_base.specs.Devices.{counts_on}
use Rattle.ept_base.specs.Links.{Wire}
use Rattle.ept_mem.specs.Objects.{link_wire as mem_wire, link_piece as mem_piece}
use Rattle.ept_poll.specs.declared.mem.MemPollLink.{MemPollLink}

-- the bytes that come and go over it
abbrev pub link_wire : MemPollLink → Wire
link_wire link = mem_wire link.link

-- what a read returns at most: the rest of the current piece
abbrev pub link_piece : MemPollLink → List ℕ
link_piece link = mem_piece link.link

-- how often it failed, and how often a read and a write were pending
abbrev pub link_faults : MemPollLink → ℕ
link_faults link = link.faults

abbrev pub link_read_waits : MemPollLink → ℕ
link_read_waits link = link.read_waits

abbrev pub link_write_waits : MemPollLink → ℕ
link_write_waits link = link.write_waits

-- the number of calls so far, and the numbers of the calls that are to wait and of those that are to fail
abbrev pub link_calls : MemPollLink → ℕ
link_calls link = link.script.calls

abbrev pub link_pending : MemPollLink → List ℕ
link_pending link = link.script.pending.items

abbrev pub link_fails : MemPollLink → List ℕ
link_fails link = link.script.fails.items

-- the next call is to wait
abbrev pub IsToWait : MemPollLink → Type 0
IsToWait link = Contains (link_pending link) (link_calls link)

-- the next call is to fail: it is listed to fail, and not to wait
abbrev pub IsToFail : MemPollLink → Type 0
IsToFail link = Contains (link_fails link) (link_calls link) × (¬ IsToWait link)

-- one more call was counted, and the same calls are to wait and to fail
pub record IsOneCallMore (old new : MemPollLink) : Type 0 where
  pub calls : link_calls new ≡ counts_on (link_calls old) 1
  pub pending : link_pending new ≡ link_pending old
  pub fails : link_fails new ≡ link_fails old
