-- Ids in pages of bits.
use Rattle.std.specs.Prelude.{ℕ, ◌/◌, ◌%◌, ◌==◌, Bool, false, Option, None, Some, slice_index}
use Rattle.std.specs.Int.{bit_at}
use Rattle.std.specs.BTreeMap.{BTreeMap, get}
use Rattle.std.specs.declared.cmp.Ordering.{Ordering}
use Rattle.std.specs.Ordering.{nat_cmp, ordering_then}
use Rattle.ept_point.specs.declared.id.PointId.{PointId}
use Rattle.ept_check.specs.declared.ids.PageKey.{PageKey}
use Rattle.ept_check.specs.declared.page.Page.{Page}

-- a number of 16 bits is a member of a page: its bit is set
unfoldable pub has_number : Page → ℕ → Bool
has_number page number = bit_at (slice_index page.bytes.items (number / 8)) (number % 8) == 1

-- a number is a member of the page, if there is one
abbrev pub is_in : Option Page → ℕ → Bool
is_in None number = false
is_in (Some page) number = has_number page number

abbrev pub page_cmp : PageKey → PageKey → Ordering
page_cmp a b = ordering_then (nat_cmp a.origin b.origin) (nat_cmp a.quotient b.quotient)

-- the page that has a bit for an id
abbrev pub page_of : PointId → PageKey
page_of one = record { origin = one.origin; quotient = one.number / 65536 }

-- the number of the id there
abbrev pub number_in_page : PointId → ℕ
number_in_page one = one.number % 65536

-- an id is noted: the page that has a bit for it has its number
abbrev pub is_noted : BTreeMap PageKey Page → PointId → Bool
is_noted pages one = is_in (get page_cmp pages (page_of one)) (number_in_page one)
