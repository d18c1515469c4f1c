use Rattle.std.proofs.Common.{◌≡◌, ◌∙◌, ◌++◌, ℕ, List, Vec, Global, Bor, arith, sym, ap}
use Rattle.ept_run.proofs.OctantList.{text_below, line-yes, line-no, separator-yes, separator-no, text-all}
use Rattle.ept_run.proofs.lines.append_octants.Goals as goal
use Rattle.ept_run.proofs.lines.append_octants.Goals.{then-has_octant+in_ok-append_number, else-has_octant}

pub loop-octant-preserved : goal.loop-octant-preserved
loop-octant-preserved c =
    let i = c.loop-octant in
    elim c.if-has_octant.branch [
      | then-has_octant+in_ok-append_number w ↦ record {
        line = ap (λ (l : Vec ℕ Global). l.items) w.line-is
            ∙ line-yes c.args.octants i.octant w.from.result c.args.line.now.items i.line.items w.append_number.new.line.items i.separator.now i.invariant.line i.invariant.separator w.in_ok-append_number.ensures w.from.ensures (sym c.has_octant.ensures ∙ w.if-has_octant.true);
        separator = ap (λ (s : Bor (List ℕ)). s.now) w.separator-is ∙ sym (separator-yes c.args.octants i.octant (sym c.has_octant.ensures ∙ w.if-has_octant.true));
      }
      | else-has_octant w ↦ record {
        line = ap (λ (l : Vec ℕ Global). l.items) w.line-is ∙ line-no c.args.octants i.octant c.args.line.now.items i.line.items i.invariant.line (sym c.has_octant.ensures ∙ w.if-has_octant.false);
        separator = ap (λ (s : Bor (List ℕ)). s.now) w.separator-is ∙ (i.invariant.separator ∙ sym (separator-no c.args.octants i.octant (sym c.has_octant.ensures ∙ w.if-has_octant.false)));
      }
    ]

pub returns : goal.returns
returns c =
    let end : c.loop-octant.octant ≡ 8 = omega arith in
    c.loop-octant.invariant.line ∙ ap (λ (l : List ℕ). c.args.line.now.items ++ l) (ap (λ (n : ℕ). text_below c.args.octants n) end ∙ text-all c.args.octants)
