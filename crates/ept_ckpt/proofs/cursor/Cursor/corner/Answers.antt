use Rattle.std.proofs.Common.{rules}
use Rattle.ept_ckpt.proofs.cursor.Cursor.corner.Goals as goal

pub returns-clause-above : goal.returns-clause-above
returns-clause-above c = record { x_ordered = search rules; y_ordered = search rules; z_ordered = search rules }

pub returns-clause-below : goal.returns-clause-below
returns-clause-below c = record { x_ordered = search rules; y_ordered = search rules; z_ordered = search rules }
