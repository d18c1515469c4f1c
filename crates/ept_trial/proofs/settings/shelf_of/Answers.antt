use Rattle.std.proofs.Common.{◌∙◌, List, [], ◌∷◌, ◌++◌, ap}
use Rattle.ept_base.specs.Files.{Files}
use Rattle.ept_mem.specs.Named.{content_of}
use Rattle.ept_mem_infallible.specs.Objects.{or_empty}
use Rattle.ept_trial.proofs.Shelves.{File, has-scans}
use Rattle.ept_trial.proofs.settings.shelf_of.Goals as goal

pub returns : goal.returns
returns c =
    let one = c.in_ok-push.ensures.items ∙ ap (λ (l : List File). l ++ c.in_ok-file.field-0 ∷ []) c.new-files.ensures.items in
    let two = c.in_ok-push-2.ensures.items ∙ ap (λ (l : List File). l ++ c.in_ok-file-2.field-0 ∷ []) one in
    let three = c.in_ok-push-3.ensures.items ∙ ap (λ (l : List File). l ++ c.in_ok-file-3.field-0 ∷ []) two in
    let all = c.in_ok-push-4.ensures.items ∙ ap (λ (l : List File). l ++ c.in_ok-file-4.field-0 ∷ []) three in
    let files = c.new.ensures.files ∙ ap (λ (l : List File). or_empty (content_of l)) all in
    λ input path is. ap (λ (f : Files). f path) files
    ∙ has-scans c.args.count c.in_ok-file.field-0 c.in_ok-file-2.field-0 c.in_ok-file-3.field-0 c.in_ok-file-4.field-0
    (record { path_is = c.in_ok-file.ensures.path; bytes_are = c.in_ok-file.ensures.bytes })
    (record { path_is = c.in_ok-file-2.ensures.path; bytes_are = c.in_ok-file-2.ensures.bytes })
    (record { path_is = c.in_ok-file-3.ensures.path; bytes_are = c.in_ok-file-3.ensures.bytes })
    (record { path_is = c.in_ok-file-4.ensures.path; bytes_are = c.in_ok-file-4.ensures.bytes })
    input path is
