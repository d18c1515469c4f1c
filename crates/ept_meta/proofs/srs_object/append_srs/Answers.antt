use Rattle.ept_meta.proofs.Members.{srs_written}
use Rattle.ept_meta.proofs.srs_object.append_srs.Goals as goal

pub returns : goal.returns
returns c =
    srs_written c.args.srs.now c.in_ok-some.some c.in_ok-some-2.some c.in_ok-some-3.some c.in_ok-some.ensures.some c.in_ok-some-2.ensures.some c.in_ok-some-3.ensures.some
    c.args.text.now.items c.append.new.text.items c.append_member.new.text.items c.append_member-2.new.text.items c.append_member-3.new.text.items c.append_member-4.new.text.items c.append-2.new.text.items
    c.in_ok-append.ensures c.in_ok-some.ensures.text c.in_ok-some-2.ensures.text c.in_ok-some-3.ensures.text c.in_ok-append_member.ensures.text c.in_ok-append-2.ensures
