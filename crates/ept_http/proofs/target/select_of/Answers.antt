use Rattle.std.proofs.Common.{◌≡◌, ◌∙◌, ℕ, List, ◌∷◌, ◌++◌, sym, ap, subst}
use Rattle.std.specs.Prelude.{codes}
use Rattle.std.proofs.lemmas.List.{append_cancel_left}
use Rattle.ept_http.specs.QueryWords.{IsBoxText, IsDepthsText}
use Rattle.ept_http.specs.Targets.{AreSiftWords, IsSelectTarget}
use Rattle.ept_http.proofs.TargetLemmas.{box-lacks, depths-lack}
use Rattle.ept_http.proofs.target.select_of.Goals as goal

-- what follows the path
behind-path : (target rest tail : List ℕ) → target ≡ codes "/select?box=" ++ rest → target ≡ codes "/select?box=" ++ tail → rest ≡ tail
behind-path target rest tail is spelled = append_cancel_left (codes "/select?box=") rest tail (sym is ∙ spelled)

pub returns-in_err-words-clause-none : goal.returns-in_err-words-clause-none
returns-in_err-words-clause-none c =
    rw c.from_residual.ensures (λ area first last sift is. c.in_err-words.ensures _ is.spelled)

pub returns-in_err-area-clause-none : goal.returns-in_err-area-clause-none
returns-in_err-area-clause-none c = rw c.from_residual-in_err-area.ensures (λ area first last sift is.
    let tail = behind-path c.args.target.now c.in_ok-words.words.now _ c.in_ok-words.ensures is.spelled in
    absurd (c.in_err-area.ensures.found is.box (is.depths ++ (codes "&classes=" ++ is.words)) (box-lacks is.box area is.is_box) tail))

pub returns-in_err-depths-clause-none : goal.returns-in_err-depths-clause-none
returns-in_err-depths-clause-none c = rw c.from_residual-in_err-depths.ensures (λ area first last sift is.
    let tail = behind-path c.args.target.now c.in_ok-words.words.now _ c.in_ok-words.ensures is.spelled in
    let box = c.in_ok-area.ensures.found is.box (is.depths ++ (codes "&classes=" ++ is.words)) (box-lacks is.box area is.is_box) tail in
    absurd (c.in_err-depths.ensures.found is.depths is.words (depths-lack is.depths first last is.are_depths) box.1))

pub returns-in_err-sift-clause-none : goal.returns-in_err-sift-clause-none
returns-in_err-sift-clause-none c = rw c.from_residual-in_err-sift.ensures (λ area first last sift is.
    let tail = behind-path c.args.target.now c.in_ok-words.words.now _ c.in_ok-words.ensures is.spelled in
    let box = c.in_ok-area.ensures.found is.box (is.depths ++ (codes "&classes=" ++ is.words)) (box-lacks is.box area is.is_box) tail in
    let depths = c.in_ok-depths.ensures.found is.depths is.words (depths-lack is.depths first last is.are_depths) box.1 in
    c.in_err-sift.ensures.none sift (subst (λ (text : List ℕ). AreSiftWords text sift) (sym depths.1) is.are_words))

pub returns-in_err-area-2-clause-none : goal.returns-in_err-area-2-clause-none
returns-in_err-area-2-clause-none c = rw c.from_residual-in_err-area-2.ensures (λ area first last sift is.
    let tail = behind-path c.args.target.now c.in_ok-words.words.now _ c.in_ok-words.ensures is.spelled in
    let box = c.in_ok-area.ensures.found is.box (is.depths ++ (codes "&classes=" ++ is.words)) (box-lacks is.box area is.is_box) tail in
    c.in_err-area-2.ensures.none area (subst (λ (text : List ℕ). IsBoxText text area) (sym box.0) is.is_box))

pub returns-in_err-first-clause-none : goal.returns-in_err-first-clause-none
returns-in_err-first-clause-none c = rw c.from_residual-in_err-first.ensures (λ area first last sift is.
    let tail = behind-path c.args.target.now c.in_ok-words.words.now _ c.in_ok-words.ensures is.spelled in
    let box = c.in_ok-area.ensures.found is.box (is.depths ++ (codes "&classes=" ++ is.words)) (box-lacks is.box area is.is_box) tail in
    let depths = c.in_ok-depths.ensures.found is.depths is.words (depths-lack is.depths first last is.are_depths) box.1 in
    c.in_err-first.ensures.none first last (subst (λ (text : List ℕ). IsDepthsText text first last) (sym depths.0) is.are_depths))

pub returns-clause-some : goal.returns-clause-some
returns-clause-some c = record {
  box = c.in_ok-area.area.now;
  depths = c.in_ok-depths.depths.now;
  words = c.in_ok-depths.words.now;
  spelled =
      c.in_ok-words.ensures
      ∙ ap (λ (w : List ℕ). codes "/select?box=" ++ w) (c.in_ok-area.ensures.some ∙ ap (λ (w : List ℕ). c.in_ok-area.area.now ++ (codes "&depths=" ++ w)) c.in_ok-depths.ensures.some);
  is_box = c.in_ok-area-2.ensures.some;
  are_depths = c.in_ok-first.ensures.some;
  are_words = c.in_ok-sift.ensures.some;
}
