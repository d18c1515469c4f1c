use Rattle.std.proofs.lemmas.Result.{err_from_is_err_and}
use Rattle.ept_mem.specs.Named.{content_of}
use Rattle.ept_mem.proofs.Calls.{sync_images, time_more, time_same, same_images}
use Rattle.ept_mem.specs.declared.store.Call.TheVariants.{Sync}
use Rattle.ept_mem.proofs.store.MemStore.settle.Goals as goal

pub returns-in_err-push-clause-unchanged : goal.returns-in_err-push-clause-unchanged
returns-in_err-push-clause-unchanged c =
    let p = err_from_is_err_and c.from_residual.result c.from_residual.ensures.1 in
    rw p.1 (same_images (content_of c.args.self.now.first.items) c.args.self.now.calls.items c.push.new.self.items c.in_err-push.ensures.items)

pub returns-in_err-push-clause-time : goal.returns-in_err-push-clause-time
returns-in_err-push-clause-time c = time_same (content_of c.args.self.now.first.items) c.args.self.now.calls.items c.push.new.self.items c.in_err-push.ensures.items

pub returns-clause-images : goal.returns-clause-images
returns-clause-images c = sync_images (content_of c.args.self.now.first.items) c.args.self.now.calls.items c.push.new.self.items c.in_ok-push.ensures.items

pub returns-clause-time : goal.returns-clause-time
returns-clause-time c = time_more (content_of c.args.self.now.first.items) c.args.self.now.calls.items c.push.new.self.items Sync c.in_ok-push.ensures.items
