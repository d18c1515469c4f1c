use Rattle.ept_table.proofs.LandedNodes.{landed-fills, landed-once, landed-linked, landed-begun, landed-read, landed-whole, landed-is-sampled}
use Rattle.ept_table.proofs.laws.landed_law.Goals as goal

pub returns-clause-slots : goal.returns-clause-slots
returns-clause-slots c =
    λ told used items h. (landed-fills told used items h, landed-once told used items h, landed-linked told used items h)

pub returns-clause-begun : goal.returns-clause-begun
returns-clause-begun c = λ told used items i key h b. landed-begun told used items h i key b

pub returns-clause-sound : goal.returns-clause-sound
returns-clause-sound c = λ told used items k d h a. h.base.sound k d a

pub returns-clause-read : goal.returns-clause-read
returns-clause-read c = λ told used items r h at. landed-read told used items h r at

pub returns-clause-whole : goal.returns-clause-whole
returns-clause-whole c = λ told used items nodes h s. landed-whole told used items h nodes s

pub returns-clause-sampled : goal.returns-clause-sampled
returns-clause-sampled c =
    λ told used items nodes r h s at tells. landed-is-sampled told used items h nodes s r at tells
