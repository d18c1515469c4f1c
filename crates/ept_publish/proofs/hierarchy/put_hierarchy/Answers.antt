use Rattle.std.proofs.Common.{◌≤◌, List, length, map, take, subst, arith}
use Rattle.std.proofs.lemmas.List.{take_all}
use Rattle.ept_base.specs.Files.{StepsBy}
use Rattle.ept_hier.specs.declared.file.HierFile.{HierFile}
use Rattle.ept_meta.specs.Output.{hierarchy_name, hierarchy_file, names_of}
use Rattle.ept_publish.specs.Publishing.{PutsAll}
use Rattle.ept_publish.proofs.Putting.{puts-more, taken-more}
use Rattle.ept_publish.proofs.Naming.{file-named, put-these, these-both}
use Rattle.ept_publish.proofs.hierarchy.put_hierarchy.Goals as goal

pub loop-file-preserved : goal.loop-file-preserved
loop-file-preserved g c =
    let i = c.loop-file in
    let f = c.file-item.result in
    let names = names_of (map hierarchy_file c.args.files.now) in
    record {
      put = puts-more (map hierarchy_file (take i.file-index c.args.files.now)) _ (hierarchy_name f.key) f.text (taken-more hierarchy_file c.args.files.now i.file-index f c.loop-file-test.true c.file-item.is) (g.T.Store.files c.args.store.now) (g.T.Store.files i.store) (g.T.Store.files c.put_hierarchy_file.new.store) i.invariant.put c.in_ok-put_hierarchy_file.ensures.ok;
      moves = these-both g.T.Store.files g.T.Store.may_leave g.T.Store.moment g.T.Store.image_since names c.args.store.now i.store c.put_hierarchy_file.new.store i.invariant.moves
          (put-these g.T.Store.files g.T.Store.may_leave g.T.Store.moment g.T.Store.image_since (hierarchy_name f.key) names (file-named hierarchy_file c.args.files.now i.file-index f c.loop-file-test.true c.file-item.is) i.store c.put_hierarchy_file.new.store c.in_ok-put_hierarchy_file.ensures.any_moment);
      later = omega (arith, i.invariant.later, c.in_ok-put_hierarchy_file.ensures.cause.later);
    }

pub returns-in_err-put_hierarchy_file-clause-any_moment : goal.returns-in_err-put_hierarchy_file-clause-any_moment
returns-in_err-put_hierarchy_file-clause-any_moment g c =
    let i = c.loop-file in
    let f = c.file-item.result in
    let names = names_of (map hierarchy_file c.args.files.now) in
    these-both g.T.Store.files g.T.Store.may_leave g.T.Store.moment g.T.Store.image_since names c.args.store.now i.store c.put_hierarchy_file.new.store i.invariant.moves
    (put-these g.T.Store.files g.T.Store.may_leave g.T.Store.moment g.T.Store.image_since (hierarchy_name f.key) names (file-named hierarchy_file c.args.files.now i.file-index f c.loop-file-test.true c.file-item.is) i.store c.put_hierarchy_file.new.store c.in_err-put_hierarchy_file.ensures.any_moment)

pub returns-clause-ok : goal.returns-clause-ok
returns-clause-ok g c =
    let all : length c.args.files.now ≤ c.loop-file.file-index = omega arith in
    subst (λ (w : List HierFile). StepsBy (PutsAll (map hierarchy_file w)) (g.T.Store.files c.args.store.now) (g.T.Store.files c.loop-file.store)) (take_all c.loop-file.file-index c.args.files.now all) c.loop-file.invariant.put
