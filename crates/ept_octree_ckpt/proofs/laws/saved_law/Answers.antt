use Rattle.ept_octree_ckpt.proofs.SavedNodes.{loaded-sampled, sampled-saved}
use Rattle.ept_octree_ckpt.proofs.laws.saved_law.Goals as goal

pub returns-clause-loaded : goal.returns-clause-loaded
returns-clause-loaded c = λ layout rules files points nodes lines can told names octree saved.
    loaded-sampled layout rules files points can nodes lines told names octree saved

pub returns-clause-saved : goal.returns-clause-saved
returns-clause-saved c = sampled-saved
