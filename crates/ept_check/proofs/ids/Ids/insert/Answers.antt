use Rattle.std.proofs.Common.{◌≡◌, ◌∙◌, ◌==◌, ◌||◌, List, Bool, Option, None, IsSome, OnOk, ap, sym, subst, rules}
use Rattle.std.specs.BTreeMap.{get, is_at}
use Rattle.std.specs.Map.{lookup}
use Rattle.ept_point.specs.declared.id.PointId.{PointId}
use Rattle.ept_check.specs.declared.ids.PageKey.{PageKey}
use Rattle.ept_check.specs.declared.page.Page.{Page}
use Rattle.ept_check.specs.Pages.{is_in, number_in_page, page_cmp, page_of}
use Rattle.ept_check.specs.Walking.{has_id, is_one_id}
use Rattle.ept_check.proofs.Pages.{noted-at}
use Rattle.ept_check.proofs.ids.Ids.insert.Goals as goal

pub returns-in-Some : goal.returns-in-Some
unfolding has_id
returns-in-Some c = λ q.
    let page : Page = c.insert.new.self in
    let there : IsSome (get page_cmp c.args.self.now.pages c.page_of.result) = search rules in
    noted-at c.args.one q c.page_of.result c.number_in_page.result c.args.self.now.pages (c.get_mut.follows.lender page) page c.page_of.ensures c.number_in_page.ensures
    (((c.get_mut.follows.holds page).3 there).0 (page_of q))
    (λ n. c.insert.ensures n ∙ ap (λ (o : Option Page). (n == c.number_in_page.result) || is_in o n) c.in-Some.ensures.value)

pub begin_page-requires : goal.begin_page-requires
begin_page-requires c =
    let same : c.get_mut.follows.lender-at-none.entries ≡ c.args.self.now.pages.entries = search rules in
    ap (λ (entries : List (PageKey × Page)). lookup (is_at (page_cmp (page_of c.args.one))) entries) same ∙ (rw c.page_of.ensures at (sym c.in-None.ensures.value))

pub returns-in-None : goal.returns-in-None
unfolding has_id
returns-in-None c =
    let same : c.get_mut.follows.lender-at-none.entries ≡ c.args.self.now.pages.entries = search rules in
    subst (λ (entries : List (PageKey × Page)). OnOk c.begin_page.result ((q : PointId) → has_id c.begin_page.new.self q ≡ (is_in (lookup (is_at (page_cmp (page_of q))) entries) (number_in_page q) || is_one_id c.args.one q))) same c.begin_page.ensures
