use Rattle.std.proofs.Common.{◌∙◌, true, ap}
use Rattle.ept_conn.specs.Answers.{refusal}
use Rattle.ept_conn.proofs.LastWords.{last-word}
use Rattle.ept_conn.proofs.session.Session.stop.Goals as goal

pub returns-in-Ok-clause-words : goal.returns-in-Ok-clause-words
returns-in-Ok-clause-words c =
    last-word c.args.fault c.put_last_word.new.self c.requires (c.in-Ok.ensures.ok ∙ ap (λ status. refusal status true) c.last_status-status.ensures.status)
