use Rattle.ept_table.proofs.SlotDrawn.{draw-keeps}
use Rattle.ept_table.proofs.Refused.{refusal-is-true, refusal-keeps}
use Rattle.ept_table.proofs.laws.draw_law.Goals as goal

pub returns-clause-draw : goal.returns-clause-draw
returns-clause-draw c = draw-keeps

pub returns-clause-refusal : goal.returns-clause-refusal
returns-clause-refusal c = refusal-keeps

pub returns-clause-too_many : goal.returns-clause-too_many
returns-clause-too_many c = refusal-is-true
