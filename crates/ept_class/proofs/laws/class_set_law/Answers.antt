use Rattle.ept_class.proofs.Bits.{members_make_the_set, classes_have_a_set, a_member_is_a_class}
use Rattle.ept_class.proofs.laws.class_set_law.Goals as goal

pub returns : goal.returns
returns c = record { once = members_make_the_set; each = classes_have_a_set; some = a_member_is_a_class }
