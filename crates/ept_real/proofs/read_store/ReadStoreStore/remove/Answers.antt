use Rattle.std.proofs.Common.{refl, subst}
use Rattle.ept_real.specs.ReadOnly.{read_image}
use Rattle.ept_real.proofs.read_store.ReadStoreStore.remove.Goals as goal

pub returns-clause-images : goal.returns-clause-images
returns-clause-images g c = λ image is. (image, subst (λ store. read_image g.D.PathFiles.files store image) c.refuse.ensures.same is, λ other ne. refl)
