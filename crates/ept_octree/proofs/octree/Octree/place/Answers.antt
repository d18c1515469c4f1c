use Rattle.std.proofs.Common.{◌≡◌, ◌∙◌, true, false, None, Ok, Err, Result, ℕ, suc, ◌-◌, ◌+◌, ◌<◌, ◌^◌, set, length, sym, ap, subst, arith, rules}
use Rattle.std.specs.Bool.{⊤}
use Rattle.std.specs.List.{All}
use Rattle.std.proofs.lemmas.Result.{MatchResult-from_err, err_from_is_err_and}
use Rattle.std.proofs.lemmas.List.{length-set}
use Rattle.std.proofs.lemmas.List.Elements.{All-set}
use Rattle.ept_space.specs.VoxelKey.{root}
use Rattle.ept_space.proofs.Within.{same_key-true}
use Rattle.ept_node.specs.Shown.{fault_of, AgreesWithFile}
use Rattle.ept_forest.specs.Slots as forest
use Rattle.ept_table.specs.At.{At}
use Rattle.ept_table.proofs.Lists.{at-below, at-set}
use Rattle.ept_octree.specs.declared.error.AddError.{AddError}
use Rattle.ept_octree.specs.declared.error.AddError.TheVariants.{Damaged}
use Rattle.ept_octree.specs.Index.{in_slots, untold, branches, IsIndex}
use Rattle.ept_node.proofs.Here.{resident-here, blank-away, no-fault, apart-agrees}
use Rattle.ept_octree.proofs.Here.{residents-same, residents-more}
use Rattle.ept_octree.proofs.Placing.{root-test, err-same, long-in, next-used, same-in}
use Rattle.ept_octree.proofs.Added.{top-at, top-resident, top-empty, top-tile, top-fault, top-index, top-ok, new-at, new-blank, new-index, new-nodes, no-index, no-nodes}
use Rattle.ept_octree.proofs.octree.Octree.place.Goals as goal

-- ---- the root

pub fill-requires-clause-resident : goal.fill-requires-clause-resident
fill-requires-clause-resident g c =
    top-resident g.F.SpillFile.held c.args.self.now c.args.key c.requires.free (same_key-true c.args.key root (root-test c.args.key c.eq.result true c.eq.ensures c.if-eq.true)) c.node.result.now c.node.ensures.value (c.requires.here (same_key-true c.args.key root (root-test c.args.key c.eq.result true c.eq.ensures c.if-eq.true))) c.requires.unbroken

pub fill-requires-clause-empty : goal.fill-requires-clause-empty
fill-requires-clause-empty g c =
    top-empty g.F.SpillFile.held c.args.self.now c.args.key c.requires.free (same_key-true c.args.key root (root-test c.args.key c.eq.result true c.eq.ensures c.if-eq.true)) c.node.result.now c.node.ensures.value

pub invariant_of-self-clause-indexed : goal.invariant_of-self-clause-indexed
invariant_of-self-clause-indexed g c =
    top-index g.F.SpillFile.held c.args.self.now c.args.key c.requires.free (same_key-true c.args.key root (root-test c.args.key c.eq.result true c.eq.ensures c.if-eq.true)) c.node.result.now c.node.ensures.value c.fill.new.node c.args.mask c.args.points.now c.fill.result c.fill.ensures.tile c.requires.low c.fill.ensures.ok c.fill.ensures.unchanged

pub invariant_of-self-clause-limit : goal.invariant_of-self-clause-limit
invariant_of-self-clause-limit g c = c.args.self.now.limit ∙ sym (length-set (forest.nodes_of c.args.self.now.forest) 0 c.fill.new.node)

pub invariant_of-self-clause-counted : goal.invariant_of-self-clause-counted
invariant_of-self-clause-counted g c =
    let n = c.node.result.now in
    let m = c.fill.new.node in
    let was = top-resident g.F.SpillFile.held c.args.self.now c.args.key c.requires.free (same_key-true c.args.key root (root-test c.args.key c.eq.result true c.eq.ensures c.if-eq.true)) c.node.result.now c.node.ensures.value (c.requires.here (same_key-true c.args.key root (root-test c.args.key c.eq.result true c.eq.ensures c.if-eq.true))) c.requires.unbroken in
    c.args.self.now.counted ∙ sym (residents-same (forest.nodes_of c.args.self.now.forest) 0 n (top-at g.F.SpillFile.held c.args.self.now c.args.key c.requires.free (same_key-true c.args.key root (root-test c.args.key c.eq.result true c.eq.ensures c.if-eq.true)) c.node.result.now c.node.ensures.value) m (resident-here m c.fill.ensures.state ∙ sym (resident-here n was)))

pub returns-in_err-fill-clause-unchanged : goal.returns-in_err-fill-clause-unchanged
returns-in_err-fill-clause-unchanged g c =
    MatchResult-from_err c.from_residual.result (λ _. ⊤) _ c.from_residual.ensures.0 (λ _. ap (λ w. branches w c.args.self.now.slots.entries) (same-in g.F.SpillFile.held (forest.nodes_of c.args.self.now.forest) 0 c.node.result.now (top-at g.F.SpillFile.held c.args.self.now c.args.key c.requires.free (same_key-true c.args.key root (root-test c.args.key c.eq.result true c.eq.ensures c.if-eq.true)) c.node.result.now c.node.ensures.value) c.fill.new.node c.in_err-fill.ensures.unchanged))

pub returns-in_err-fill-clause-damaged : goal.returns-in_err-fill-clause-damaged
returns-in_err-fill-clause-damaged g c = λ fault is.
    let p = err_from_is_err_and c.from_residual.result c.from_residual.ensures.1 in
    let why : AddError = Damaged fault in
    let failed : c.fill.result ≡ Err c.in_err-fill.field-0.0 = c.in_err-fill.was in
    top-fault g.F.SpillFile.held c.args.self.now c.args.key c.requires.free (same_key-true c.args.key root (root-test c.args.key c.eq.result true c.eq.ensures c.if-eq.true)) c.node.result.now c.node.ensures.value c.fill.new.node c.args.mask c.args.points.now c.fill.result c.fill.ensures.tile fault (c.fill.ensures.damaged fault (failed ∙ (ap (λ (e : AddError). let r : Result (Unit {0}) AddError = Err e in r) (sym p.2) ∙ err-same {U = Unit {0}} p.0 why (sym p.1 ∙ is))))

pub returns-in_err-fill-clause-unbroken : goal.returns-in_err-fill-clause-unbroken
returns-in_err-fill-clause-unbroken g c =
    All-set (λ m. fault_of m ≡ None) (forest.nodes_of c.args.self.now.forest) 0 c.fill.new.node (no-fault c.fill.new.node (λ e. absurd (let both = sym e ∙ c.fill.ensures.state in cc))) c.requires.unbroken

pub returns-in_err-fill-clause-agrees : goal.returns-in_err-fill-clause-agrees
returns-in_err-fill-clause-agrees g c =
    All-set (AgreesWithFile g.F.SpillFile.held g.F.SpillFile.faults g.F.SpillFile.keeps) (forest.nodes_of c.args.self.now.forest) 0 c.fill.new.node (apart-agrees g.F.SpillFile.held g.F.SpillFile.faults g.F.SpillFile.keeps c.fill.new.node (λ e. absurd (let both = sym e ∙ c.fill.ensures.state in cc)) (λ e. absurd (let both = sym e ∙ c.fill.ensures.state in cc))) c.requires.agrees

pub returns-then-eq-clause-ok : goal.returns-then-eq-clause-ok
returns-then-eq-clause-ok g c =
    let done : Result (Unit {0}) AddError = Ok tt in
    top-ok g.F.SpillFile.held c.args.self.now c.args.key c.requires.free (same_key-true c.args.key root (root-test c.args.key c.eq.result true c.eq.ensures c.if-eq.true)) c.node.result.now c.node.ensures.value c.fill.new.node c.args.mask c.args.points.now done c.in_ok-fill.ensures.tile c.requires.low c.in_ok-fill.ensures.ok tt

pub returns-then-eq-clause-tile : goal.returns-then-eq-clause-tile
returns-then-eq-clause-tile g c =
    let done : Result (Unit {0}) AddError = Ok tt in
    top-tile g.F.SpillFile.held c.args.self.now c.args.key c.requires.free (same_key-true c.args.key root (root-test c.args.key c.eq.result true c.eq.ensures c.if-eq.true)) c.node.result.now c.node.ensures.value c.fill.new.node c.args.mask c.args.points.now done c.in_ok-fill.ensures.tile

pub returns-then-eq-clause-slot : goal.returns-then-eq-clause-slot
returns-then-eq-clause-slot g c = record {
  node = c.fill.new.node;
  some = omega arith;
  at = at-set (forest.nodes_of c.args.self.now.forest) 0 c.fill.new.node (at-below (top-at g.F.SpillFile.held c.args.self.now c.args.key c.requires.free (same_key-true c.args.key root (root-test c.args.key c.eq.result true c.eq.ensures c.if-eq.true)) c.node.result.now c.node.ensures.value));
  state = c.fill.ensures.state;
}

pub returns-then-eq-clause-unbroken : goal.returns-then-eq-clause-unbroken
returns-then-eq-clause-unbroken g c =
    All-set (λ m. fault_of m ≡ None) (forest.nodes_of c.args.self.now.forest) 0 c.fill.new.node (no-fault c.fill.new.node (λ e. absurd (let both = sym e ∙ c.fill.ensures.state in cc))) c.requires.unbroken

pub returns-then-eq-clause-agrees : goal.returns-then-eq-clause-agrees
returns-then-eq-clause-agrees g c =
    All-set (AgreesWithFile g.F.SpillFile.held g.F.SpillFile.faults g.F.SpillFile.keeps) (forest.nodes_of c.args.self.now.forest) 0 c.fill.new.node (apart-agrees g.F.SpillFile.held g.F.SpillFile.faults g.F.SpillFile.keeps c.fill.new.node (λ e. absurd (let both = sym e ∙ c.fill.ensures.state in cc)) (λ e. absurd (let both = sym e ∙ c.fill.ensures.state in cc))) c.requires.agrees

-- ---- another node

pub plant-requires-clause-blank : goal.plant-requires-clause-blank
plant-requires-clause-blank g c =
    new-blank g.F.SpillFile.held c.args.self.now c.args.key c.requires.free (root-test c.args.key c.eq.result false c.eq.ensures c.if-eq.false) c.used-slot.result c.used-slot.ensures c.node-2.result.now c.node-2.ensures.value

pub invariant_of-self-in-Ok-add-clause-indexed : goal.invariant_of-self-in-Ok-add-clause-indexed
invariant_of-self-in-Ok-add-clause-indexed g c =
    let self = c.args.self.now in
    let held = g.F.SpillFile.held in
    let m = c.plant.new.node in
    let sites = c.insert.new.self.entries in
    let index = new-index g.F.SpillFile.held c.args.self.now c.args.key c.requires.free (root-test c.args.key c.eq.result false c.eq.ensures c.if-eq.false) c.used-slot.result c.used-slot.ensures c.node-2.result.now c.node-2.ensures.value m sites c.in_ok-insert.ensures.entries c.args.mask c.args.points.now c.in-Ok.ensures.ok c.in-Ok.ensures.tile c.requires.low c.in_ok-insert.ensures.updates.0 c.in_ok-insert.ensures.ordered in
    let room : forest.used_of self.forest < length (set (forest.nodes_of c.args.self.now.forest) (c.used-slot.result + 1 - 1) m) = omega (arith, c.used-slot.ensures, length-set (forest.nodes_of c.args.self.now.forest) (c.used-slot.result + 1 - 1) m, long-in (forest.nodes_of c.args.self.now.forest) (c.used-slot.result + 1 - 1) c.node-2.result.now (new-at g.F.SpillFile.held c.args.self.now c.args.key c.requires.free (root-test c.args.key c.eq.result false c.eq.ensures c.if-eq.false) c.used-slot.result c.used-slot.ensures c.node-2.result.now c.node-2.ensures.value)) in
    let small : forest.used_of self.forest < 2 ^ 32 - 1 = search rules in
    let used : suc (forest.used_of self.forest) ≡ forest.used_of c.add.new.self = next-used c.add.result (forest.used_of self.forest) (forest.used_of c.add.new.self) (length (set (forest.nodes_of c.args.self.now.forest) (c.used-slot.result + 1 - 1) m)) c.add.ensures.used c.add.ensures.full room small in
    subst (λ w. IsIndex self.rules (forest.used_of c.add.new.self) (in_slots untold w) sites) (sym c.add.ensures.same) (subst (λ (k : ℕ). IsIndex self.rules k (in_slots untold (set (forest.nodes_of c.args.self.now.forest) (c.used-slot.result + 1 - 1) m)) sites) used index)

pub invariant_of-self-in-Ok-add-clause-limit : goal.invariant_of-self-in-Ok-add-clause-limit
invariant_of-self-in-Ok-add-clause-limit g c =
    c.args.self.now.limit ∙ (sym (length-set (forest.nodes_of c.args.self.now.forest) (c.used-slot.result + 1 - 1) c.plant.new.node) ∙ ap length (sym c.add.ensures.same))

pub invariant_of-self-in-Ok-add-clause-counted : goal.invariant_of-self-in-Ok-add-clause-counted
invariant_of-self-in-Ok-add-clause-counted g c =
    let n = c.node-2.result.now in
    let m = c.plant.new.node in
    let more = residents-more (forest.nodes_of c.args.self.now.forest) (c.used-slot.result + 1 - 1) n (new-at g.F.SpillFile.held c.args.self.now c.args.key c.requires.free (root-test c.args.key c.eq.result false c.eq.ensures c.if-eq.false) c.used-slot.result c.used-slot.ensures c.node-2.result.now c.node-2.ensures.value) m (blank-away n (new-blank g.F.SpillFile.held c.args.self.now c.args.key c.requires.free (root-test c.args.key c.eq.result false c.eq.ensures c.if-eq.false) c.used-slot.result c.used-slot.ensures c.node-2.result.now c.node-2.ensures.value)) (resident-here m c.in-Ok.ensures.state) in
    ap (λ (k : ℕ). k + 1) c.args.self.now.counted ∙ (sym more ∙ ap forest.residents_of (sym c.add.ensures.same))

pub returns-in-Ok-add-clause-ok : goal.returns-in-Ok-add-clause-ok
returns-in-Ok-add-clause-ok g c =
    ap (λ w. branches (in_slots g.F.SpillFile.held w) c.insert.new.self.entries) c.add.ensures.same ∙ new-nodes g.F.SpillFile.held c.args.self.now c.args.key c.requires.free (root-test c.args.key c.eq.result false c.eq.ensures c.if-eq.false) c.used-slot.result c.used-slot.ensures c.node-2.result.now c.node-2.ensures.value c.plant.new.node c.insert.new.self.entries c.in_ok-insert.ensures.entries c.args.mask c.args.points.now c.in-Ok.ensures.ok c.in-Ok.ensures.tile c.requires.low c.in_ok-insert.ensures.updates.0 c.in_ok-insert.ensures.ordered

pub returns-in-Ok-add-clause-slot : goal.returns-in-Ok-add-clause-slot
returns-in-Ok-add-clause-slot g c =
    let ns = forest.nodes_of c.args.self.now.forest in
    let place : ℕ = c.used-slot.result + 1 - 1 in
    let drawn : c.in-Ok-add.slot - 1 ≡ place = omega (arith, c.in-Ok-add.ensures.ok.0, c.used-slot.ensures) in
    record {
      node = c.plant.new.node;
      some = omega (arith, c.in-Ok-add.ensures.ok.0);
      at = subst (λ w. At w (c.in-Ok-add.slot - 1) c.plant.new.node) (sym c.add.ensures.same) (subst (λ (k : ℕ). At (set ns place c.plant.new.node) k c.plant.new.node) (sym drawn) (at-set ns place c.plant.new.node (at-below (new-at g.F.SpillFile.held c.args.self.now c.args.key c.requires.free (root-test c.args.key c.eq.result false c.eq.ensures c.if-eq.false) c.used-slot.result c.used-slot.ensures c.node-2.result.now c.node-2.ensures.value))));
      state = c.in-Ok.ensures.state;
    }

pub returns-in-Ok-add-clause-unbroken : goal.returns-in-Ok-add-clause-unbroken
returns-in-Ok-add-clause-unbroken g c =
    subst (λ w. All (λ m. fault_of m ≡ None) w) (sym c.add.ensures.same) (All-set (λ m. fault_of m ≡ None) (forest.nodes_of c.args.self.now.forest) (c.used-slot.result + 1 - 1) c.plant.new.node (no-fault c.plant.new.node (λ e. absurd (let both = sym e ∙ c.in-Ok.ensures.state in cc))) c.requires.unbroken)

pub returns-in-Ok-add-clause-agrees : goal.returns-in-Ok-add-clause-agrees
returns-in-Ok-add-clause-agrees g c =
    subst (λ w. All (AgreesWithFile g.F.SpillFile.held g.F.SpillFile.faults g.F.SpillFile.keeps) w) (sym c.add.ensures.same) (All-set (AgreesWithFile g.F.SpillFile.held g.F.SpillFile.faults g.F.SpillFile.keeps) (forest.nodes_of c.args.self.now.forest) (c.used-slot.result + 1 - 1) c.plant.new.node (apart-agrees g.F.SpillFile.held g.F.SpillFile.faults g.F.SpillFile.keeps c.plant.new.node (λ e. absurd (let both = sym e ∙ c.in-Ok.ensures.state in cc)) (λ e. absurd (let both = sym e ∙ c.in-Ok.ensures.state in cc))) c.requires.agrees)

pub invariant_of-self-in-Err-clause-indexed : goal.invariant_of-self-in-Err-clause-indexed
invariant_of-self-in-Err-clause-indexed g c =
    no-index g.F.SpillFile.held c.args.self.now c.args.key c.requires.free (root-test c.args.key c.eq.result false c.eq.ensures c.if-eq.false) c.used-slot.result c.used-slot.ensures c.node-2.result.now c.node-2.ensures.value c.plant.new.node c.insert.new.self.entries c.in_ok-insert.ensures.entries c.in-Err.ensures.unchanged c.remove.new.self.entries c.remove.ensures.entries

pub invariant_of-self-in-Err-clause-limit : goal.invariant_of-self-in-Err-clause-limit
invariant_of-self-in-Err-clause-limit g c =
    c.args.self.now.limit ∙ sym (length-set (forest.nodes_of c.args.self.now.forest) (c.used-slot.result + 1 - 1) c.plant.new.node)

pub invariant_of-self-in-Err-clause-counted : goal.invariant_of-self-in-Err-clause-counted
invariant_of-self-in-Err-clause-counted g c =
    let n = c.node-2.result.now in
    let m = c.plant.new.node in
    c.args.self.now.counted ∙ sym (residents-same (forest.nodes_of c.args.self.now.forest) (c.used-slot.result + 1 - 1) n (new-at g.F.SpillFile.held c.args.self.now c.args.key c.requires.free (root-test c.args.key c.eq.result false c.eq.ensures c.if-eq.false) c.used-slot.result c.used-slot.ensures c.node-2.result.now c.node-2.ensures.value) m (blank-away m c.in-Err.ensures.blank ∙ sym (blank-away n (new-blank g.F.SpillFile.held c.args.self.now c.args.key c.requires.free (root-test c.args.key c.eq.result false c.eq.ensures c.if-eq.false) c.used-slot.result c.used-slot.ensures c.node-2.result.now c.node-2.ensures.value))))

pub returns-in-Err-clause-unchanged : goal.returns-in-Err-clause-unchanged
returns-in-Err-clause-unchanged g c =
    no-nodes g.F.SpillFile.held c.args.self.now c.args.key c.requires.free (root-test c.args.key c.eq.result false c.eq.ensures c.if-eq.false) c.used-slot.result c.used-slot.ensures c.node-2.result.now c.node-2.ensures.value c.plant.new.node c.insert.new.self.entries c.in_ok-insert.ensures.entries c.in-Err.ensures.unchanged c.remove.new.self.entries c.remove.ensures.entries

pub returns-in-Err-clause-unbroken : goal.returns-in-Err-clause-unbroken
returns-in-Err-clause-unbroken g c =
    All-set (λ m. fault_of m ≡ None) (forest.nodes_of c.args.self.now.forest) (c.used-slot.result + 1 - 1) c.plant.new.node (no-fault c.plant.new.node (λ e. absurd (let both = sym e ∙ c.in-Err.ensures.blank in cc))) c.requires.unbroken

pub returns-in-Err-clause-agrees : goal.returns-in-Err-clause-agrees
returns-in-Err-clause-agrees g c =
    All-set (AgreesWithFile g.F.SpillFile.held g.F.SpillFile.faults g.F.SpillFile.keeps) (forest.nodes_of c.args.self.now.forest) (c.used-slot.result + 1 - 1) c.plant.new.node (apart-agrees g.F.SpillFile.held g.F.SpillFile.faults g.F.SpillFile.keeps c.plant.new.node (λ e. absurd (let both = sym e ∙ c.in-Err.ensures.blank in cc)) (λ e. absurd (let both = sym e ∙ c.in-Err.ensures.blank in cc))) c.requires.agrees
