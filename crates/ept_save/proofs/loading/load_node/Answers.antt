use Rattle.ept_save.proofs.LoadedLines.{refusal-comes, sound-only}
use Rattle.ept_save.proofs.Standing.{same-stands}
use Rattle.ept_save.proofs.loading.load_node.Goals as goal

pub returns-clause-refusal_comes : goal.returns-clause-refusal_comes
returns-clause-refusal_comes g c = λ all told damaged.
    refusal-comes c.load.result c.args.saved.now.current c.args.key (g.T.Store.files c.args.store.now) all c.load.ensures.intact c.load.ensures.only told damaged

pub returns-clause-stands : goal.returns-clause-stands
returns-clause-stands g c = λ v stands.
    same-stands g.T.Store.files g.T.Store.may_leave g.T.Store.moment g.T.Store.image_since v c.args.store.now c.load.new.store c.load.ensures.any_moment stands

pub returns-clause-sound : goal.returns-clause-sound
returns-clause-sound g c = λ shelf all told sound has.
    sound-only c.load.result c.args.saved.now.current c.args.key (g.T.Store.files c.args.store.now) all c.load.ensures.refused c.load.ensures.only (c.load.ensures.sound shelf all sound has) told
