-- How many permits nodes take, and what a seat has of them.
use Rattle.std.proofs.Common.{◌≡◌, ◌∙◌, ℕ, ◌+◌, ◌≤◌, Bool, true, false, List, refl, ap, arith, Option, None}
use Rattle.std.specs.Prelude.{if◌then◌else◌}
use Rattle.ept_slots.specs.declared.view.View as slots
use Rattle.ept_slots.specs.Views.{held_weight}
use Rattle.ept_node.specs.declared.node.Node.{Node}
use Rattle.ept_node.specs.declared.body.Body.{Body}
use Rattle.ept_node.specs.declared.body.Body.TheVariants as bodies
use Rattle.ept_node.specs.declared.state.NodeState.TheVariants as states
use Rattle.ept_node.specs.Shown.{state_of, is_here, state_in, is_here_in}
use Rattle.ept_table.specs.declared.item.Item.{Item}
use Rattle.ept_table.specs.declared.item.Item.TheVariants as items
use Rattle.ept_table.specs.declared.note.Note.{Note}
use Rattle.ept_table.specs.Permits.{weight_of, spare_of}
use Rattle.ept_table.specs.Standing.{known}
use Rattle.ept_work.proofs.Known.{known-free}

abbrev one_if : Bool → ℕ
one_if b = if b then 1 else 0

here_there : (body : Body) → state_in body ≡ states.Resident → is_here_in body ≡ true
here_there bodies.Blank is = absurd (cc)
here_there (bodies.Begun site) is = refl
here_there (bodies.Resident kept) is = refl
here_there (bodies.Spilled filed) is = absurd (cc)
here_there (bodies.Unkept kept) is = absurd (cc)
here_there (bodies.Lost filed why) is = absurd (cc)

gone_blank : (body : Body) → state_in body ≡ states.Blank → is_here_in body ≡ false
gone_blank bodies.Blank is = refl
gone_blank (bodies.Begun site) is = absurd (cc)
gone_blank (bodies.Resident kept) is = absurd (cc)
gone_blank (bodies.Spilled filed) is = absurd (cc)
gone_blank (bodies.Unkept kept) is = absurd (cc)
gone_blank (bodies.Lost filed why) is = absurd (cc)

-- a resident node is in memory, a blank one is not
resident_here : {F : Type 0} (node : Node F) → state_of node ≡ states.Resident → is_here node ≡ true
resident_here node is = here_there node.body is

blank_gone : {F : Type 0} (node : Node F) → state_of node ≡ states.Blank → is_here node ≡ false
blank_gone node is = gone_blank node.body is

few : (b : Bool) → one_if b ≤ 1
few true = omega arith
few false = omega arith

module _ (F S : Type 0) where
  pub resident-weight : (node : Node F) → state_of node ≡ states.Resident → weight_of {F = F} {S = S} (items.Node node) ≡ 1
  resident-weight node is = ap one_if (resident_here node is)

  pub blank-weight : (node : Node F) → state_of node ≡ states.Blank → weight_of {F = F} {S = S} (items.Node node) ≡ 0
  blank-weight node is = ap one_if (blank_gone node is)

  pub few-weight : (node : Node F) → weight_of {F = F} {S = S} (items.Node node) ≤ 1
  few-weight node = few (is_here node)

  -- a node that is returned as it was taken has one permit, together with the permit of a node that is blank again
  pub back-weight : (node back : Node F) (was_blank : Bool) → state_of node ≡ states.Resident → (was_blank ≡ true → state_of back ≡ states.Blank) → (was_blank ≡ false → back ≡ node) → weight_of {F = F} {S = S} (items.Node back) + one_if was_blank ≡ 1
  back-weight node back true resident blank same = let none : one_if (is_here back) ≡ 0 = blank-weight back (blank refl) in omega (arith, none)
  back-weight node back false resident blank same = let one : one_if (is_here back) ≡ 1 = ap (λ (n : Node F). one_if (is_here n)) (same refl) ∙ resident-weight node resident in omega (arith, one)

  -- if a seat holds nothing, all permits that it has are its own
  pub free-permits : (held : F → Option (List ℕ)) (whole : S → Option (List ℕ)) (v : slots.View (Item F S) Note) → (known held whole v).hold ≡ None → spare_of v ≡ v.permits
  free-permits held whole v free = let none : held_weight (weight_of {F = F} {S = S}) v.hold ≡ 0 = ap (held_weight weight_of) (known-free held whole v free) in omega (arith, none)
