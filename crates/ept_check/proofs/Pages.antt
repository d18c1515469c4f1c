-- Ids in pages of bits.
use Rattle.std.proofs.Common.{◌≡◌, ◌∙◌, ◌/◌, ℕ, Bool, true, false, cond, ◌==◌, ◌||◌, inl, inr, Option, Some, sym, ap, refl, arith}
use Rattle.std.specs.BTreeMap.{BTreeMap, get, is_at}
use Rattle.std.proofs.lemmas.Bool.Decides.{nat_tests}
use Rattle.ept_point.specs.declared.id.PointId.{PointId}
use Rattle.ept_sample.proofs.Choices.{either}
use Rattle.ept_check.specs.declared.ids.PageKey.{PageKey}
use Rattle.ept_check.specs.declared.page.Page.{Page}
use Rattle.ept_check.specs.Pages.{has_number, is_in, is_noted, number_in_page, page_cmp, page_of}
use Rattle.ept_check.specs.Walking.{is_one_id}
use Rattle.ept_check.proofs.Sets.{with-false}

same-page : (one q : PointId) → is_at (page_cmp (page_of one)) (page_of q) ≡ true → page_of one ≡ page_of q
same-page one q same =
    let origin : one.origin ≡ q.origin = grind (arith, nat_tests) in
    let quotient : one.number / 65536 ≡ q.number / 65536 = grind (arith, nat_tests) in
    cc

one-place : (one q : PointId) → is_at (page_cmp (page_of one)) (page_of q) ≡ true → (number_in_page q == number_in_page one) ≡ is_one_id one q
one-place one q same = grind (arith, nat_tests)

other-page : (one q : PointId) → is_at (page_cmp (page_of one)) (page_of q) ≡ false → is_one_id one q ≡ false
other-page one q apart = grind (arith, nat_tests)

swap : (a b : Bool) → (a || b) ≡ (b || a)
swap true true = refl
swap true false = refl
swap false true = refl
swap false false = refl

-- the page of an id has one number more, and no other page has changed
pub noted-more : (one q : PointId) (old new : BTreeMap PageKey Page) (page : Page) → get page_cmp new (page_of q) ≡ cond (is_at (page_cmp (page_of one)) (page_of q)) (Some page) (get page_cmp old (page_of q)) → ((n : ℕ) → has_number page n ≡ ((n == number_in_page one) || is_in (get page_cmp old (page_of one)) n)) → is_noted new q ≡ (is_noted old q || is_one_id one q)
noted-more one q old new page here put =
    elim (either (is_at (page_cmp (page_of one)) (page_of q))) [
      | inl same ↦
          ap (λ (o : Option Page). is_in o (number_in_page q)) (here ∙ ap (λ (b : Bool). cond b (Some page) (get page_cmp old (page_of q))) same)
          ∙ (put (number_in_page q)
          ∙ (ap (λ (k : PageKey). (number_in_page q == number_in_page one) || is_in (get page_cmp old k) (number_in_page q)) (same-page one q same)
          ∙ (swap (number_in_page q == number_in_page one) (is_noted old q)
          ∙ ap (λ (b : Bool). is_noted old q || b) (one-place one q same))))
      | inr apart ↦
          ap (λ (o : Option Page). is_in o (number_in_page q)) (here ∙ ap (λ (b : Bool). cond b (Some page) (get page_cmp old (page_of q))) apart)
          ∙ (sym (with-false (is_noted old q))
          ∙ ap (λ (b : Bool). is_noted old q || b) (sym (other-page one q apart)))
    ]

-- the same, for the key and the number that the code has
pub noted-at : (one q : PointId) (key : PageKey) (number : ℕ) (old new : BTreeMap PageKey Page) (page : Page) → key ≡ page_of one → number ≡ number_in_page one → get page_cmp new (page_of q) ≡ cond (is_at (page_cmp key) (page_of q)) (Some page) (get page_cmp old (page_of q)) → ((n : ℕ) → has_number page n ≡ ((n == number) || is_in (get page_cmp old key) n)) → is_noted new q ≡ (is_noted old q || is_one_id one q)
noted-at one q key number old new page is_key is_number here put =
    noted-more one q old new page (rw is_key at here) (λ n. rw (is_key, is_number) at (put n))
