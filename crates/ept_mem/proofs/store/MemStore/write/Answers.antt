use Rattle.std.proofs.lemmas.Result.{err_from_is_err_and}
use Rattle.ept_mem.specs.Named.{content_of}
use Rattle.ept_mem.proofs.Calls.{write_reads, write_images, write_spoils, time_more, time_same, same_files, same_images, same_follows}
use Rattle.ept_mem.specs.declared.store.Call.TheVariants.{Write}
use Rattle.ept_mem.proofs.store.MemStore.write.Goals as goal

pub returns-in_err-push-clause-unchanged : goal.returns-in_err-push-clause-unchanged
returns-in_err-push-clause-unchanged c =
    let p = err_from_is_err_and c.from_residual-in_err-push.result c.from_residual-in_err-push.ensures.1 in
    rw p.1 (
      same_files (content_of c.args.self.now.first.items) c.args.self.now.calls.items c.push.new.self.items c.in_err-push.ensures.items,
      same_images (content_of c.args.self.now.first.items) c.args.self.now.calls.items c.push.new.self.items c.in_err-push.ensures.items,
    )

pub returns-in_err-push-clause-images : goal.returns-in_err-push-clause-images
returns-in_err-push-clause-images c = same_follows (content_of c.args.self.now.first.items) c.args.self.now.calls.items c.push.new.self.items c.args.name.now c.in_err-push.ensures.items

pub returns-in_err-push-clause-time : goal.returns-in_err-push-clause-time
returns-in_err-push-clause-time c = time_same (content_of c.args.self.now.first.items) c.args.self.now.calls.items c.push.new.self.items c.in_err-push.ensures.items

pub returns-clause-reads : goal.returns-clause-reads
returns-clause-reads c =
    write_reads (content_of c.args.self.now.first.items) c.args.self.now.calls.items c.push.new.self.items c.in_ok-name.name c.args.content c.args.name.now c.in_ok-name.ensures.ok c.in_ok-push.ensures.items

pub returns-clause-images : goal.returns-clause-images
returns-clause-images c =
    write_images (content_of c.args.self.now.first.items) c.args.self.now.calls.items c.push.new.self.items c.in_ok-name.name c.args.content c.args.name.now c.in_ok-name.ensures.ok c.in_ok-push.ensures.items

pub returns-clause-time : goal.returns-clause-time
returns-clause-time c = time_more (content_of c.args.self.now.first.items) c.args.self.now.calls.items c.push.new.self.items (Write c.in_ok-name.name c.args.content) c.in_ok-push.ensures.items

pub returns-clause-spoils : goal.returns-clause-spoils
returns-clause-spoils c =
    write_spoils (content_of c.args.self.now.first.items) c.args.self.now.calls.items c.push.new.self.items c.in_ok-name.name c.args.content c.args.name.now c.in_ok-name.ensures.ok c.in_ok-push.ensures.items
