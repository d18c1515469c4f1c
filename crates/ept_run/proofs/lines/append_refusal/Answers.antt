use Rattle.std.proofs.Common.{◌≡◌, ◌++◌, ℕ, List, codes, OnOk, sym, subst}
use Rattle.std.specs.Fmt.{decimal}
use Rattle.ept_command.specs.declared.refusal.Refusal.{Refusal}
use Rattle.ept_space.specs.KeyText.{key_text}
use Rattle.ept_run.specs.Lines.{record_text, name_of, letter_text, refusal_text}
use Rattle.ept_run.proofs.Texts.{behind_word}
use Rattle.ept_run.proofs.lines.append_refusal.Goals as goal

pub returns-in-OutOfBounds : goal.returns-in-OutOfBounds
unfolding refusal_text
returns-in-OutOfBounds c =
    subst (λ (r : Refusal). OnOk c.append_record.result (c.append_record.new.line.items ≡ c.args.line.now.items ++ refusal_text r)) (sym c.in-OutOfBounds.is)
    (behind_word c.append_record.result c.append_record.new.line.items c.args.line.now.items (codes "error 4 bounds source ") (record_text c.in-OutOfBounds.source c.in-OutOfBounds.number) c.append_record.ensures)

pub returns-in-SourceChanged : goal.returns-in-SourceChanged
unfolding refusal_text
returns-in-SourceChanged c =
    subst (λ (r : Refusal). OnOk c.append_record-in-SourceChanged.result (c.append_record-in-SourceChanged.new.line.items ≡ c.args.line.now.items ++ refusal_text r)) (sym c.in-SourceChanged.is)
    (behind_word c.append_record-in-SourceChanged.result c.append_record-in-SourceChanged.new.line.items c.args.line.now.items (codes "error 4 changed source ")
    (record_text c.in-SourceChanged.source c.in-SourceChanged.number) c.append_record-in-SourceChanged.ensures)

pub returns-in-TooManyPoints : goal.returns-in-TooManyPoints
unfolding refusal_text
returns-in-TooManyPoints c =
    subst (λ (r : Refusal). OnOk c.append_input.result (c.append_input.new.line.items ≡ c.args.line.now.items ++ refusal_text r)) (sym c.in-TooManyPoints.is)
    (behind_word c.append_input.result c.append_input.new.line.items c.args.line.now.items (codes "error 5 points source ") (decimal c.in-TooManyPoints.source) c.append_input.ensures)

pub returns-in-Differs : goal.returns-in-Differs
unfolding refusal_text
returns-in-Differs c =
    subst (λ (r : Refusal). OnOk c.append_word.result (c.append_word.new.line.items ≡ c.args.line.now.items ++ refusal_text r)) (sym c.in-Differs.is)
    (behind_word c.append_word.result c.append_word.new.line.items c.args.line.now.items (codes "error 6 differs ") (name_of c.in-Differs.field) (subst (λ (t : List ℕ). OnOk c.append_word.result (c.append_word.new.line.items ≡ c.args.line.now.items ++ codes "error 6 differs " ++ t)) c.name_of.ensures c.append_word.ensures))

pub returns-in-BadCheckpoint : goal.returns-in-BadCheckpoint
unfolding refusal_text
returns-in-BadCheckpoint c =
    subst (λ (r : Refusal). OnOk c.append_word-in-BadCheckpoint.result (c.append_word-in-BadCheckpoint.new.line.items ≡ c.args.line.now.items ++ refusal_text r)) (sym c.in-BadCheckpoint.is)
    (behind_word c.append_word-in-BadCheckpoint.result c.append_word-in-BadCheckpoint.new.line.items c.args.line.now.items (codes "error 8 checkpoint ") (letter_text c.in-BadCheckpoint.letter) (subst (λ (t : List ℕ). OnOk c.append_word-in-BadCheckpoint.result (c.append_word-in-BadCheckpoint.new.line.items ≡ c.args.line.now.items ++ codes "error 8 checkpoint " ++ t)) c.letter_text.ensures c.append_word-in-BadCheckpoint.ensures))

pub returns-in-TileDamaged : goal.returns-in-TileDamaged
unfolding refusal_text
returns-in-TileDamaged c =
    subst (λ (r : Refusal). OnOk c.append_tile.result (c.append_tile.new.line.items ≡ c.args.line.now.items ++ refusal_text r)) (sym c.in-TileDamaged.is)
    (behind_word c.append_tile.result c.append_tile.new.line.items c.args.line.now.items (codes "error 8 tile ") (key_text c.in-TileDamaged.key) c.append_tile.ensures)
