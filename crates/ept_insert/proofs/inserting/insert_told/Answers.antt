use Rattle.std.proofs.Common.{◌≡◌, ◌≤◌, ◌∙◌, arith, ap, sym, subst, length, None}
use Rattle.std.specs.List.{All}
use Rattle.std.proofs.lemmas.List.Elements.{All-weaker}
use Rattle.ept_node.specs.Shown.{fault_of, AgreesWithFile}
use Rattle.ept_table.specs.Item.{IsFiledNode}
use Rattle.ept_octree.specs.Octree.{cache_of, residents_of}
use Rattle.ept_insert.proofs.Causes.{worked_in_vain, lacked_memory, never_refused, was_ok}
use Rattle.ept_insert.proofs.Kept.{nodes-kept}
use Rattle.ept_forest.specs.Slots as forest
use Rattle.ept_insert.proofs.inserting.insert_told.Goals as goal

pub make-requires-clause-cache : goal.make-requires-clause-cache
make-requires-clause-cache g c =
    let cache : g.J.Scan.told.cache ≡ cache_of c.args.octree = c.requires.may.cache in
    let few : residents_of c.args.octree ≤ cache_of c.args.octree = c.cache-cache.ensures.few in
    let same : forest.residents_of (forest.nodes_of c.into_forest-forest.result) ≡ residents_of c.args.octree = ap (λ f. forest.residents_of (forest.nodes_of f)) c.into_forest-forest.ensures in
    (c.cache-cache.ensures.cache ∙ sym cache, omega (arith, few, same, cache))

pub make-requires-clause-nodes : goal.make-requires-clause-nodes
make-requires-clause-nodes g c =
    subst (λ f. All (IsFiledNode g.F.SpillFile.held g.F.SpillFile.faults g.F.SpillFile.keeps g.J.Scan.told) (forest.nodes_of f)) (sym c.into_forest-forest.ensures) c.requires.may.nodes

pub returns-in-Err-clause-refused : goal.returns-in-Err-clause-refused
returns-in-Err-clause-refused g c =
    lacked_memory g.J.Scan.told g.F.SpillFile.faults g.S.Source.faults c.in-Err.unmade.forest c.in-Err.unmade.reader (subst (λ ns. All (λ n. fault_of n ≡ None) ns) (sym (c.in-Err.ensures.forest.0 ∙ ap (λ f. forest.nodes_of f) c.into_forest-forest.ensures)) c.requires.may.unbroken)

pub returns-in-Err-from_forest-clause-refused : goal.returns-in-Err-from_forest-clause-refused
returns-in-Err-from_forest-clause-refused g c =
    let unbroken = c.insert_all-forest.ensures.unbroken (λ was. never_refused c.in_default.is was) (λ kept found at was. never_refused c.in_default.is was) in
    lacked_memory g.J.Scan.told g.F.SpillFile.faults g.S.Source.faults c.in-Err-from_forest.forest c.insert_all-forest.result.1 (subst (λ ns. All (λ n. fault_of n ≡ None) ns) (sym c.in-Err-from_forest.ensures.refused.0) unbroken)

pub returns-in-Err-result-clause-refused : goal.returns-in-Err-result-clause-refused
returns-in-Err-result-clause-refused g c =
    let worked = c.insert_all-forest.ensures in
    worked_in_vain g.J.Scan.told g.F.SpillFile.faults g.S.Source.faults c.insert_all-forest.result.0 c.insert_all-forest.result.1 c.insert_all-forest.result.2 c.in-Err-result.error c.from.result c.in-Err-result.is c.from.ensures worked.too_many worked.fault worked.changed worked.no_change worked.spill_fault worked.damaged worked.no_damage worked.unbroken

pub returns-in-Ok-from_forest-clause-inserted : goal.returns-in-Ok-from_forest-clause-inserted
returns-in-Ok-from_forest-clause-inserted g c = record {
  rules = c.in-Ok-from_forest.ensures.rules ∙ c.rules.ensures;
  most = ap length c.in-Ok-from_forest.ensures.nodes ∙ c.insert_all-forest.ensures.slots ∙ sym c.requires.may.most;
  cache = c.in-Ok-from_forest.ensures.cache ∙ c.cache-cache.ensures.cache;
  is_whole = c.in-Ok-from_forest.ensures.whole;
  kept = nodes-kept c.landed_law.ensures.begun g.F.SpillFile.held g.J.Scan.told g.S.Source.whole c.insert_all-forest.result.1 (forest.used_of c.insert_all-forest.result.0) (forest.nodes_of c.insert_all-forest.result.0) c.args.octree c.in-Ok-from_forest.octree (was_ok c.in_default.is c.insert_all-forest.ensures.landed) c.in-Ok-from_forest.ensures.nodes c.requires.may.begun;
  is_linked = c.in-Ok-from_forest.ensures.linked;
  agrees = subst (λ ns. All (AgreesWithFile g.F.SpillFile.held g.F.SpillFile.faults g.F.SpillFile.keeps) ns) (sym c.in-Ok-from_forest.ensures.nodes) (All-weaker (IsFiledNode g.F.SpillFile.held g.F.SpillFile.faults g.F.SpillFile.keeps g.J.Scan.told) (AgreesWithFile g.F.SpillFile.held g.F.SpillFile.faults g.F.SpillFile.keeps) (λ n filed. filed.agrees) (forest.nodes_of c.insert_all-forest.result.0) c.insert_all-forest.ensures.nodes);
  unbroken = subst (λ ns. All (λ n. fault_of n ≡ None) ns) (sym c.in-Ok-from_forest.ensures.nodes) (c.insert_all-forest.ensures.unbroken (λ was. never_refused c.in_default.is was) (λ kept found at was. never_refused c.in_default.is was));
  number = c.in-Ok-from_forest.ensures.number;
  sampled = c.in-Ok-from_forest.ensures.sampled;
  drawn = was_ok c.in_default.is c.insert_all-forest.ensures.drawn;
  sound = was_ok c.in_default.is c.insert_all-forest.ensures.sound;
  filed = c.insert_all-forest.ensures.filed;
  fits = c.insert_all-forest.ensures.fits;
}
