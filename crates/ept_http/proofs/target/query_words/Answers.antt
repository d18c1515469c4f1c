use Rattle.ept_http.proofs.target.query_words.Goals as goal

pub returns-in_err-words-clause-found : goal.returns-in_err-words-clause-found
returns-in_err-words-clause-found c = λ area depths clean spelled. absurd (c.in_err-words.ensures _ spelled)
