use Rattle.ept_meta.proofs.BuildAgain.{build-of-one}
use Rattle.ept_meta.proofs.InBounds.{can-be-sampled}
use Rattle.ept_meta.proofs.OneOutput.{output-once}
use Rattle.ept_meta.proofs.laws.output_once_law.Goals as goal

pub returns-clause-one : goal.returns-clause-one
returns-clause-one c = output-once

pub returns-clause-build : goal.returns-clause-build
returns-clause-build c = build-of-one

pub returns-clause-sampled : goal.returns-clause-sampled
returns-clause-sampled c = can-be-sampled
