-- The response to a turn that asks for points.
use Rattle.std.proofs.Common.{◌≡◌, ℕ, List, [], Bool, Option, Some, None, ap}
use Rattle.ept_space.specs.declared.box3.Box3.{Box3}
use Rattle.ept_http.specs.declared.asked.Asked.{Asked}
use Rattle.ept_http.specs.declared.asked.Asked.TheVariants.{File, Query, Select, Refuse}
use Rattle.ept_conn.specs.Answers.{Served, query_answer, answer_to}
use Rattle.ept_conn.specs.Wanted.{Wanted, Wants}

-- the response to what is wanted
answer_of : Served → Asked → Bool → Option Wanted → List ℕ
answer_of served a last None = []
answer_of served a last (Some points) =
    query_answer served a points.area last (served.plan points.area points.first points.second)

pub wants-answer : (served : Served) (a : Asked) (area : Box3) (first second : ℕ) (last : Bool) → Wants a area first second → answer_to served a last ≡ query_answer served a area last (served.plan area first second)
unfolding answer_of
wants-answer served (File name) area first second last is = absurd cc
wants-answer served (Query at m n) area first second last is = ap (answer_of served (Query at m n) last) is
wants-answer served (Select at m n sift) area first second last is = ap (answer_of served (Select at m n sift) last) is
wants-answer served (Refuse status) area first second last is = absurd cc
