use Rattle.std.proofs.Common.{◌∙◌, ℕ, List, Option, Some, Err, ap, refl}
use Rattle.ept_node.specs.Shown.{IsTelling}
use Rattle.ept_mem_infallible.specs.declared.room.SureFile.{SureFile}
use Rattle.ept_mem_infallible.specs.Objects.{no_files, shelf_files_of, file_bytes_of, store_files_of, store_images_of}
use Rattle.ept_build.specs.declared.error.BuildError.{BuildError}
use Rattle.ept_build.specs.declared.error.BuildError.TheVariants.{StoreFault, SourceFault, SpillFault}
use Rattle.ept_trial.proofs.Faults.{no-fault}
use Rattle.ept_trial.proofs.Outcomes.{begins, built-trial, refused-memory}
use Rattle.ept_trial.proofs.building.build_files.Goals as goal

-- the contents of the room's files are visible
abbrev held-by : SureFile → Option (List ℕ)
held-by file = Some (file_bytes_of file)

telling : IsTelling held-by
telling file = (file_bytes_of file, refl)

pub returns-in-Ok : goal.returns-in-Ok
returns-in-Ok g c =
    let all = shelf_files_of c.args.shelf.now in
    built-trial c.args.points c.requires.few all c.requires.scans c.args.config.now c.requires.config (store_files_of c.build.new.store) c.in-Ok.field-0
    (c.in-Ok.ensures.built all no_files (begins held-by all (store_files_of c.args.store.now) (store_images_of c.args.store.now) telling c.sound_law.ensures.empty c.requires.empty c.requires.settled))

pub only_memory-requires : goal.only_memory-requires
only_memory-requires g c =
    let all = shelf_files_of c.args.shelf.now in
    refused-memory c.args.points c.requires.few all c.requires.scans c.args.config.now c.requires.config
    c.ascending_law.ensures.ascending c.placed_law.ensures c.id_law.ensures.ordered c.output_once_law.ensures.sampled c.few_nodes_law.ensures.few_tiles c.in-Err.error
    (c.in-Err.ensures.refused all no_files (begins held-by all (store_files_of c.args.store.now) (store_images_of c.args.store.now) telling c.sound_law.ensures.empty c.requires.empty c.requires.settled))
    (λ is. no-fault StoreFault c.build.result c.build.ensures.stores (c.in-Err.is ∙ ap (λ (e : BuildError). Err e) is))
    (λ is. no-fault SourceFault c.build.result c.build.ensures.sources (c.in-Err.is ∙ ap (λ (e : BuildError). Err e) is))
    (λ is. no-fault SpillFault c.build.result c.build.ensures.spills (c.in-Err.is ∙ ap (λ (e : BuildError). Err e) is))
