-- What a watched link passes its bytes to.
use Rattle.ept_log.specs.declared.watched.WatchedLink.{WatchedLink}

-- the link below
abbrev pub watched : {L R : Type 0} → WatchedLink L R → L
watched link = link.link
