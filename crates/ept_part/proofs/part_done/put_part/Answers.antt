use Rattle.ept_publish.proofs.Putting.{any-ok}
use Rattle.ept_part.specs.Names.{part_gate}
use Rattle.ept_part.proofs.Stages.{opened-part, opened-gate, gate-folder, fills-folder, folder-both, own-both, close-own, fill-own, open-own}
use Rattle.ept_part.proofs.Apart.{filled-part}
use Rattle.ept_part.proofs.part_done.put_part.Goals as goal

-- ---- the folder

pub returns-in_err-close_part-clause-folder : goal.returns-in_err-close_part-clause-folder
returns-in_err-close_part-clause-folder g c =
    let s = g.T.Store in
    gate-folder s.files s.may_leave s.moment s.image_since c.args.octants c.args.store.now c.close_part.new.store c.close_part.ensures.any_moment

pub returns-in_err-fill-clause-folder : goal.returns-in_err-fill-clause-folder
returns-in_err-fill-clause-folder g c =
    let s = g.T.Store in
    folder-both s.files s.may_leave s.moment s.image_since c.args.octants c.args.store.now c.close_part.new.store c.fill.new.store
    (gate-folder s.files s.may_leave s.moment s.image_since c.args.octants c.args.store.now c.close_part.new.store c.close_part.ensures.any_moment)
    (fills-folder s.files s.may_leave s.moment s.image_since c.args.octants c.close_part.new.store c.fill.new.store c.fill.ensures.fills)

pub returns-clause-folder : goal.returns-clause-folder
returns-clause-folder g c =
    let s = g.T.Store in
    folder-both s.files s.may_leave s.moment s.image_since c.args.octants c.args.store.now c.fill.new.store c.open_part.new.store
    (folder-both s.files s.may_leave s.moment s.image_since c.args.octants c.args.store.now c.close_part.new.store c.fill.new.store
    (gate-folder s.files s.may_leave s.moment s.image_since c.args.octants c.args.store.now c.close_part.new.store c.close_part.ensures.any_moment)
    (fills-folder s.files s.may_leave s.moment s.image_since c.args.octants c.close_part.new.store c.fill.new.store c.fill.ensures.fills))
    (gate-folder s.files s.may_leave s.moment s.image_since c.args.octants c.fill.new.store c.open_part.new.store c.open_part.ensures.one_gate)

-- ---- the part is sound

pub returns-in_err-close_part-clause-own : goal.returns-in_err-close_part-clause-own
returns-in_err-close_part-clause-own g c = λ all start config points ready part told settled sound.
    let s = g.T.Store in
    close-own s.files s.may_leave s.moment s.image_since c.args.octants all c.args.store.now c.close_part.new.store start told settled sound c.close_part.ensures.any_moment c.close_part.ensures.stood_shut

pub returns-in_err-fill-clause-own : goal.returns-in_err-fill-clause-own
returns-in_err-fill-clause-own g c = λ all start config points ready part told settled sound.
    let s = g.T.Store in
    own-both s.files s.may_leave s.moment s.image_since c.args.octants all c.args.store.now c.close_part.new.store c.fill.new.store
    (close-own s.files s.may_leave s.moment s.image_since c.args.octants all c.args.store.now c.close_part.new.store start told settled sound c.close_part.ensures.any_moment c.close_part.ensures.stood_shut)
    (fill-own s.files s.may_leave s.moment s.image_since c.args.octants all c.close_part.new.store c.fill.new.store c.in_ok-close_part.ensures.shut c.in_ok-close_part.ensures.settled c.fill.ensures.fills)

pub returns-clause-own : goal.returns-clause-own
returns-clause-own g c = λ all start config points ready part told settled sound.
    let s = g.T.Store in
    own-both s.files s.may_leave s.moment s.image_since c.args.octants all c.args.store.now c.fill.new.store c.open_part.new.store
    (own-both s.files s.may_leave s.moment s.image_since c.args.octants all c.args.store.now c.close_part.new.store c.fill.new.store
    (close-own s.files s.may_leave s.moment s.image_since c.args.octants all c.args.store.now c.close_part.new.store start told settled sound c.close_part.ensures.any_moment c.close_part.ensures.stood_shut)
    (fill-own s.files s.may_leave s.moment s.image_since c.args.octants all c.close_part.new.store c.fill.new.store c.in_ok-close_part.ensures.shut c.in_ok-close_part.ensures.settled c.fill.ensures.fills))
    (open-own s.files s.may_leave s.moment s.image_since c.args.octants all c.fill.new.store c.open_part.new.store c.args.ready.now.checkpoint points
    (filled-part c.args.octants all config c.args.ready.now points ready part (s.files c.close_part.new.store) (s.files c.fill.new.store) c.in_ok-fill.ensures.puts) c.in_ok-fill.ensures.settled c.open_part.ensures.one_gate)

-- ---- and it is there

pub returns-clause-part : goal.returns-clause-part
returns-clause-part g c =
    let s = g.T.Store in
    any-ok c.open_part.result _ (λ all config points ready part.
    opened-part all c.args.octants c.args.ready.now.checkpoint points (s.files c.fill.new.store) (s.files c.open_part.new.store) c.open_part.ensures.one_gate.reads
    (filled-part c.args.octants all config c.args.ready.now points ready part (s.files c.close_part.new.store) (s.files c.fill.new.store) c.in_ok-fill.ensures.puts))

pub returns-clause-opened : goal.returns-clause-opened
returns-clause-opened g c =
    opened-gate (part_gate c.args.octants) c.open_part.result (g.T.Store.files c.fill.new.store) (g.T.Store.files c.open_part.new.store) c.open_part.ensures.puts
