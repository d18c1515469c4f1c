-- A store that only reads: what its folder holds, if the machine's files are visible. Nothing changes, so what is read
-- is the one image.
use Rattle.std.specs.Prelude.{◌≡◌, ℕ, List, Option, Some, None, option_map, refl}
use Rattle.ept_base.specs.Devices.{counts_on}
use Rattle.ept_base.specs.Files.{Files, Tells}
use Rattle.ept_real.specs.Joined.{joined}
use Rattle.ept_real.specs.Paths.{store_folder}
use Rattle.ept_real.specs.declared.real_disk.RealDisk.{RealDisk}
use Rattle.ept_real.specs.declared.store.RealStore.{RealStore}
use Rattle.ept_real.specs.declared.threaded_disk.ThreadedDisk.{ThreadedDisk}
use Rattle.ept_real.specs.declared.read_store.ReadStore.{ReadStore}
use Rattle.ept_real.specs.declared.real_files.RealFiles.{RealFiles}

-- the files of the machine that the program runs on are not visible
abbrev pub machine_files : {R F D : Type 0} → RealFiles R F D → Option Files
machine_files _ = None

abbrev pub disk_files : {R F D : Type 0} → RealDisk R F D → Option Files
disk_files _ = None

abbrev pub threaded_files : {P : Type 0} → ThreadedDisk P → Option Files
threaded_files _ = None

-- the machine's files
abbrev pub read_disk : {D : Type 0} → ReadStore D → D
read_disk store = store.disk

-- the path of the folder
abbrev pub read_folder : {D : Type 0} → ReadStore D → List ℕ
read_folder store = store.folder.now

-- how many calls were to write
abbrev pub read_refused : {D : Type 0} → ReadStore D → ℕ
read_refused store = store.refused

-- how often it has failed: as often as the machine's files, and at each call that was to write
abbrev pub read_faults : {D : Type 0} → (D → ℕ) → ReadStore D → ℕ
read_faults faults store = counts_on (faults (read_disk store)) (read_refused store)

-- how many calls of `get` it had
abbrev pub read_gets : {D : Type 0} → ReadStore D → ℕ
read_gets store = store.gets

-- the files below a folder, by their names in it
abbrev pub files_in : List ℕ → Files → Files
files_in folder all name = all (joined folder name)

-- the files that a store in a folder is over, and what they hold under each name in it
abbrev pub store_disk : {R D F G : Type 0} → RealStore R D F G → D
store_disk store = store.disk

abbrev pub folder_files : {R D F G : Type 0} → (D → Option Files) → RealStore R D F G → Option Files
folder_files files store = option_map (files_in (store_folder store)) (files (store_disk store))

-- what is read under each name: the file of that path in the folder
abbrev pub read_files : {D : Type 0} → (D → Option Files) → ReadStore D → Option Files
read_files files store = option_map (files_in (read_folder store)) (files (read_disk store))

-- the image that a crash leaves, now and since any moment: what is read
abbrev pub read_image : {D : Type 0} → (D → Option Files) → ReadStore D → Files → Type 0
read_image files store image = read_files files store ≡ Some image

abbrev pub read_image_since : {D : Type 0} → (D → Option Files) → ReadStore D → ℕ → Files → Type 0
read_image_since files store _ image = read_image files store image

-- what is read is an image, if it is visible
pub told_image : (told : Option Files) → Tells (λ image. told ≡ Some image) told
told_image None = tt
told_image (Some files) = refl
