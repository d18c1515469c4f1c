use Rattle.std.proofs.Common.{◌≡◌, ◌∙◌, ◌==◌, ◌||◌, Bool, Option, None, ap, sym}
use Rattle.std.specs.BTreeMap.{get}
use Rattle.ept_check.specs.declared.page.Page.{Page}
use Rattle.ept_check.specs.Pages.{is_in, page_cmp, page_of}
use Rattle.ept_check.specs.Walking.{has_id}
use Rattle.ept_check.proofs.Pages.{noted-at}
use Rattle.ept_check.proofs.ids.Ids.begin_page.Goals as goal

pub returns : goal.returns
unfolding has_id
returns c = λ q.
    let page : Page = c.insert.new.self in
    let none : get page_cmp c.args.self.now.pages c.page_of.result ≡ None = rw c.page_of.ensures c.requires in
    noted-at c.args.one q c.page_of.result c.number_in_page.result c.args.self.now.pages c.insert-2.new.self page c.page_of.ensures c.number_in_page.ensures
    (c.in_ok-insert.ensures.updates.0 (page_of q))
    (λ n. c.insert.ensures n ∙ ap (λ (b : Bool). (n == c.number_in_page.result) || b) (c.in_ok-page.ensures n ∙ sym (ap (λ (o : Option Page). is_in o n) none)))
