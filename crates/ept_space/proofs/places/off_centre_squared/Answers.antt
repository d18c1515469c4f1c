use Rattle.ept_space.proofs.Shifts.{square-code, square-small}
use Rattle.ept_space.proofs.places.off_centre_squared.Goals as goal

pub returns-clause-value : goal.returns-clause-value
returns-clause-value c =
    square-code c.args.offset c.args.shift c.abs_diff-off_centre.result c.requires.in_word c.abs_diff-off_centre.ensures

pub returns-clause-small : goal.returns-clause-small
returns-clause-small c =
    square-small c.args.offset c.args.shift c.abs_diff-off_centre.result c.requires.in_word c.abs_diff-off_centre.ensures
