use Rattle.std.proofs.Common.{rules, ◌≡◌, ◌≢◌, ◌∙◌, refl, ap}
use Rattle.std.proofs.lemmas.Bool.{false≢true}
use Rattle.ept_node.specs.declared.state.NodeState.{NodeState}
use Rattle.ept_node.specs.declared.state.NodeState.TheVariants.{Blank, Resident, Spilled}
use Rattle.ept_node.specs.Shown.{state_of}
use Rattle.ept_table.specs.Item.{cell_of, taken_as}
use Rattle.ept_work.proofs.Begun.{seen-resident}
use Rattle.ept_work.proofs.taking.readied.Goals as goal

pub returns-in-Resident-clause-ready : goal.returns-in-Resident-clause-ready
returns-in-Resident-clause-ready g c =
    let is : state_of c.args.node ≡ Resident = search rules in
    let not_blank : state_of c.args.node ≢ Blank = search rules in
    let stands = c.requires.standing not_blank in
    record {
      resident = is;
      key_is = stands.0;
      rules_are = stands.1 ∙ c.requires.rules;
      as_taken = λ _. (
        cell_of g.F.SpillFile.held c.args.node,
        seen-resident g.F.SpillFile.held c.args.node is,
        record {
          node = record { key = refl; rules = refl; count = refl; mask = refl };
          children = refl;
          inside = c.known.ensures.inside;
          exact = λ _. refl;
        },
      );
      blank = λ was. absurd (false≢true was);
      begun = λ was. absurd (false≢true was);
    }

pub returns-in_ok-reloaded-in-Spilled-clause-ready :
    goal.returns-in_ok-reloaded-in-Spilled-clause-ready
returns-in_ok-reloaded-in-Spilled-clause-ready g c =
    let is : state_of c.args.node ≡ Spilled = search rules in
    let not_blank : state_of c.args.node ≢ Blank = search rules in
    let stands = c.requires.standing not_blank in
    let alike = c.in_ok-reloaded-in-Spilled.ensures.alike in
    record {
      resident = c.in_ok-reloaded-in-Spilled.ensures.resident;
      key_is = alike.node.key ∙ stands.0;
      rules_are = alike.node.rules ∙ (stands.1 ∙ c.requires.rules);
      as_taken = λ _. (cell_of g.F.SpillFile.held c.args.node, ap (λ (s : NodeState). taken_as s (cell_of g.F.SpillFile.held c.args.node)) is, alike);
      blank = λ was. absurd (false≢true was);
      begun = λ was. absurd (false≢true was);
    }
