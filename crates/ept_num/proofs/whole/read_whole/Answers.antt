use Rattle.std.proofs.Common.{◌≡◌, ◌∙◌, Ok}
use Rattle.std.proofs.lemmas.Bool.Decides.{Decides-eqb, not_from_Decides}
use Rattle.std.proofs.lemmas.Slice.Eq.{slice_eq-Decides}
use Rattle.ept_num.proofs.WholeLemmas.{utf8_of_spelling, read_of_spelling, printed_spelling}
use Rattle.ept_num.proofs.whole.read_whole.Goals as goal

pub returns-in_default-clause-refused : goal.returns-in_default-clause-refused
returns-in_default-clause-refused c n fits e = c.in_default.ensures.cases.0 (utf8_of_spelling n c.args.text.now fits e)

pub returns-in_default-parse-clause-refused : goal.returns-in_default-parse-clause-refused
returns-in_default-parse-clause-refused c n fits e =
    c.in_default-parse.not-Ok n (read_of_spelling n c.in-Ok.digits.now c.parse.result fits (c.in-Ok.ensures.cases.0 ∙ e) c.parse.ensures.value.0)

pub returns-else-eq-clause-refused : goal.returns-else-eq-clause-refused
returns-else-eq-clause-refused c n fits e =
    let is : c.parse.result ≡ Ok n = read_of_spelling n c.in-Ok.digits.now c.parse.result fits (c.in-Ok.ensures.cases.0 ∙ e) c.parse.ensures.value.0 in
    let same : c.as_bytes.result.now ≡ c.args.text.now =
    c.as_bytes.ensures.value ∙ printed_spelling n c.in-Ok-parse.n c.args.text.now c.format.result.now c.parse.result fits e is c.in-Ok-parse.is c.format.ensures.text in
    not_from_Decides c.eq.result (slice_eq-Decides Decides-eqb c.as_bytes.result.now c.args.text.now c.eq.result c.eq.ensures) c.if-eq.false same
