use Rattle.std.proofs.Common.{◌∙◌, ◌∷◌, ◌++◌, suc, take, drop, sym, ap, arith, length-take-le}
use Rattle.ept_crowd.specs.declared.member.Live.{Live}
use Rattle.ept_crowd.proofs.Places.{split-at, none-among}
use Rattle.ept_crowd.proofs.crowd.place_of.Goals as goal

pub returns-then-member-number-clause-some : goal.returns-then-member-number-clause-some
returns-then-member-number-clause-some g c =
    let live = c.args.live.now in
    let place = c.loop-place.place in
    let member = c.index-live-place.result in
    let less = c.loop-place-test.true in (
      take place live,
      drop (suc place) live,
      member,
      split-at live place member less ∙ ap (λ (m : Live g.row.L.Denot g.row.T.Denot). take place live ++ (m ∷ drop (suc place) live)) (sym c.index-live-place.is),
      length-take-le place live (omega (arith, less)),
      c.if-member-number.true,
    )

pub returns-clause-none : goal.returns-clause-none
returns-clause-none g c =
    let over = c.loop-place-test.false in
    none-among c.args.number c.args.live.now (λ k d less. c.loop-place.invariant k d (omega (arith, less, over)))
