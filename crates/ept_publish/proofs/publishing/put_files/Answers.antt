use Rattle.std.proofs.Common.{◌≡◌, ◌∙◌, ℕ, List, [], ◌∷◌, ◌++◌, map, sym, ap, subst, rules}
use Rattle.std.specs.Prelude.{Err}
use Rattle.ept_base.specs.Files.{StepsBy}
use Rattle.ept_base.specs.Moves.{Moves}
use Rattle.ept_hier.specs.Hierarchy.{Node, hierarchy}
use Rattle.ept_hier.specs.declared.file.HierFile.{HierFile}
use Rattle.ept_ckpt.specs.declared.node_line.NodeLine.{NodeLine}
use Rattle.ept_meta.specs.EptText.{ept_text}
use Rattle.ept_meta.specs.ManifestText.{manifest_text}
use Rattle.ept_meta.specs.BuildText.{build_text}
use Rattle.ept_meta.specs.Output.{metadata_name, manifest_name, build_file_name, tile_file, hierarchy_file, counted, names_of}
use Rattle.ept_save.specs.Opening.{lines_of}
use Rattle.ept_publish.specs.Lines.{counted_by, named_by, output_names}
use Rattle.ept_publish.specs.Errors.{of_put}
use Rattle.ept_publish.specs.Publishing.{PutsAll, SameButThese}
use Rattle.ept_publish.specs.declared.error.PublishError.TheVariants.{TileDamaged}
use Rattle.ept_publish.proofs.Refusing.{one-refusal, store-no-tile}
use Rattle.ept_publish.proofs.Putting.{puts-both}
use Rattle.ept_publish.proofs.Copying.{counted-same}
use Rattle.ept_publish.proofs.Naming.{of-tiles, of-hierarchy, of-texts, these-both, these-wider}
use Rattle.ept_publish.proofs.publishing.put_files.Goals as goal

pub returns-in_err-nodes-clause-any_moment : goal.returns-in_err-nodes-clause-any_moment
returns-in_err-nodes-clause-any_moment g c =
    let k = c.args.kept.now in
    let lines : List NodeLine = lines_of c.args.saved.now.current in
    let names = output_names k lines in
    these-wider g.T.Store.files g.T.Store.may_leave g.T.Store.moment g.T.Store.image_since (map named_by lines) names (of-tiles k lines) c.args.store.now c.put_tiles.new.store c.put_tiles.ensures.any_moment

pub returns-in_err-texts-clause-any_moment : goal.returns-in_err-texts-clause-any_moment
returns-in_err-texts-clause-any_moment g c =
    let k = c.args.kept.now in
    let lines : List NodeLine = lines_of c.args.saved.now.current in
    let names = output_names k lines in
    these-wider g.T.Store.files g.T.Store.may_leave g.T.Store.moment g.T.Store.image_since (map named_by lines) names (of-tiles k lines) c.args.store.now c.put_tiles.new.store c.put_tiles.ensures.any_moment

pub returns-in_err-put_hierarchy-clause-any_moment : goal.returns-in_err-put_hierarchy-clause-any_moment
returns-in_err-put_hierarchy-clause-any_moment g c =
    let k = c.args.kept.now in
    let lines : List NodeLine = lines_of c.args.saved.now.current in
    let names = output_names k lines in
    let hierarchy_is : c.deref-2.result.now ≡ hierarchy k.step (map counted_by lines) = c.deref-2.ensures.value ∙ (c.in_ok-texts.ensures.hierarchy ∙ ap (λ (w : List Node). hierarchy k.step w) (c.deref.ensures.value ∙ c.in_ok-nodes.ensures.counts)) in
    let first : Moves g.T.Store.files g.T.Store.may_leave g.T.Store.moment g.T.Store.image_since (SameButThese names) c.args.store.now c.put_tiles.new.store = these-wider g.T.Store.files g.T.Store.may_leave g.T.Store.moment g.T.Store.image_since (map named_by lines) names (of-tiles k lines) c.args.store.now c.put_tiles.new.store c.put_tiles.ensures.any_moment in
    let second : Moves g.T.Store.files g.T.Store.may_leave g.T.Store.moment g.T.Store.image_since (SameButThese names) c.put_tiles.new.store c.put_hierarchy.new.store = these-wider g.T.Store.files g.T.Store.may_leave g.T.Store.moment g.T.Store.image_since (names_of (map hierarchy_file c.deref-2.result.now)) names (of-hierarchy k lines c.deref-2.result.now hierarchy_is) c.put_tiles.new.store c.put_hierarchy.new.store c.put_hierarchy.ensures.any_moment in
    these-both g.T.Store.files g.T.Store.may_leave g.T.Store.moment g.T.Store.image_since names c.args.store.now c.put_tiles.new.store c.put_hierarchy.new.store first second

pub returns-in_err-put_texts-clause-any_moment : goal.returns-in_err-put_texts-clause-any_moment
returns-in_err-put_texts-clause-any_moment g c =
    let k = c.args.kept.now in
    let lines : List NodeLine = lines_of c.args.saved.now.current in
    let names = output_names k lines in
    let hierarchy_is : c.deref-2.result.now ≡ hierarchy k.step (map counted_by lines) = c.deref-2.ensures.value ∙ (c.in_ok-texts.ensures.hierarchy ∙ ap (λ (w : List Node). hierarchy k.step w) (c.deref.ensures.value ∙ c.in_ok-nodes.ensures.counts)) in
    let first : Moves g.T.Store.files g.T.Store.may_leave g.T.Store.moment g.T.Store.image_since (SameButThese names) c.args.store.now c.put_tiles.new.store = these-wider g.T.Store.files g.T.Store.may_leave g.T.Store.moment g.T.Store.image_since (map named_by lines) names (of-tiles k lines) c.args.store.now c.put_tiles.new.store c.put_tiles.ensures.any_moment in
    let second : Moves g.T.Store.files g.T.Store.may_leave g.T.Store.moment g.T.Store.image_since (SameButThese names) c.put_tiles.new.store c.put_hierarchy.new.store = these-wider g.T.Store.files g.T.Store.may_leave g.T.Store.moment g.T.Store.image_since (names_of (map hierarchy_file c.deref-2.result.now)) names (of-hierarchy k lines c.deref-2.result.now hierarchy_is) c.put_tiles.new.store c.put_hierarchy.new.store c.put_hierarchy.ensures.any_moment in
    let third : Moves g.T.Store.files g.T.Store.may_leave g.T.Store.moment g.T.Store.image_since (SameButThese names) c.put_hierarchy.new.store c.put_texts.new.store = these-wider g.T.Store.files g.T.Store.may_leave g.T.Store.moment g.T.Store.image_since (metadata_name ∷ manifest_name ∷ build_file_name ∷ []) names (of-texts k lines) c.put_hierarchy.new.store c.put_texts.new.store c.put_texts.ensures.any_moment in
    these-both g.T.Store.files g.T.Store.may_leave g.T.Store.moment g.T.Store.image_since names c.args.store.now c.put_hierarchy.new.store c.put_texts.new.store
    (these-both g.T.Store.files g.T.Store.may_leave g.T.Store.moment g.T.Store.image_since names c.args.store.now c.put_tiles.new.store c.put_hierarchy.new.store first second) third

pub returns-clause-any_moment : goal.returns-clause-any_moment
returns-clause-any_moment g c =
    let k = c.args.kept.now in
    let lines : List NodeLine = lines_of c.args.saved.now.current in
    let names = output_names k lines in
    let hierarchy_is : c.deref-2.result.now ≡ hierarchy k.step (map counted_by lines) = c.deref-2.ensures.value ∙ (c.in_ok-texts.ensures.hierarchy ∙ ap (λ (w : List Node). hierarchy k.step w) (c.deref.ensures.value ∙ c.in_ok-nodes.ensures.counts)) in
    let first : Moves g.T.Store.files g.T.Store.may_leave g.T.Store.moment g.T.Store.image_since (SameButThese names) c.args.store.now c.put_tiles.new.store = these-wider g.T.Store.files g.T.Store.may_leave g.T.Store.moment g.T.Store.image_since (map named_by lines) names (of-tiles k lines) c.args.store.now c.put_tiles.new.store c.put_tiles.ensures.any_moment in
    let second : Moves g.T.Store.files g.T.Store.may_leave g.T.Store.moment g.T.Store.image_since (SameButThese names) c.put_tiles.new.store c.put_hierarchy.new.store = these-wider g.T.Store.files g.T.Store.may_leave g.T.Store.moment g.T.Store.image_since (names_of (map hierarchy_file c.deref-2.result.now)) names (of-hierarchy k lines c.deref-2.result.now hierarchy_is) c.put_tiles.new.store c.put_hierarchy.new.store c.put_hierarchy.ensures.any_moment in
    let third : Moves g.T.Store.files g.T.Store.may_leave g.T.Store.moment g.T.Store.image_since (SameButThese names) c.put_hierarchy.new.store c.put_texts.new.store = these-wider g.T.Store.files g.T.Store.may_leave g.T.Store.moment g.T.Store.image_since (metadata_name ∷ manifest_name ∷ build_file_name ∷ []) names (of-texts k lines) c.put_hierarchy.new.store c.put_texts.new.store c.put_texts.ensures.any_moment in
    these-both g.T.Store.files g.T.Store.may_leave g.T.Store.moment g.T.Store.image_since names c.args.store.now c.put_hierarchy.new.store c.put_texts.new.store
    (these-both g.T.Store.files g.T.Store.may_leave g.T.Store.moment g.T.Store.image_since names c.args.store.now c.put_tiles.new.store c.put_hierarchy.new.store first second) third

pub returns-clause-puts : goal.returns-clause-puts
returns-clause-puts g c = λ start tiles told names.
    let a = c.args in
    let k = a.kept.now in
    let files = g.T.Store.files in
    let same : map counted tiles ≡ map counted_by (lines_of a.saved.now.current) = counted-same start tiles (lines_of a.saved.now.current) names in
    let hierarchy_is : c.deref-2.result.now ≡ hierarchy k.step (map counted tiles) = c.deref-2.ensures.value ∙ (c.in_ok-texts.ensures.hierarchy ∙ ap (λ (w : List Node). hierarchy k.step w) (c.deref.ensures.value ∙ (c.in_ok-nodes.ensures.counts ∙ sym same))) in
    let second : StepsBy (PutsAll (map hierarchy_file (hierarchy k.step (map counted tiles)))) (files c.put_tiles.new.store) (files c.put_hierarchy.new.store) =
    subst (λ (w : List HierFile). StepsBy (PutsAll (map hierarchy_file w)) (files c.put_tiles.new.store) (files c.put_hierarchy.new.store)) hierarchy_is c.in_ok-put_hierarchy.ensures.ok in
    let metadata : List ℕ = ept_text k a.extent.now a.points in
    let third : StepsBy (PutsAll ((metadata_name, metadata) ∷ (manifest_name, manifest_text k a.counts.now) ∷ (build_file_name, build_text k) ∷ [])) (files c.put_hierarchy.new.store) (files c.put_texts.new.store) =
    subst (λ (w : List ℕ). StepsBy (PutsAll ((metadata_name, w) ∷ (manifest_name, manifest_text k a.counts.now) ∷ (build_file_name, build_text k) ∷ [])) (files c.put_hierarchy.new.store) (files c.put_texts.new.store)) c.in_ok-texts.ensures.metadata
    (subst (λ (w : List ℕ). StepsBy (PutsAll ((metadata_name, c.in_ok-texts.texts.metadata.items) ∷ (manifest_name, w) ∷ (build_file_name, build_text k) ∷ [])) (files c.put_hierarchy.new.store) (files c.put_texts.new.store)) c.in_ok-texts.ensures.manifest
    (subst (λ (w : List ℕ). StepsBy (PutsAll ((metadata_name, c.in_ok-texts.texts.metadata.items) ∷ (manifest_name, c.in_ok-texts.texts.manifest.items) ∷ (build_file_name, w) ∷ [])) (files c.put_hierarchy.new.store) (files c.put_texts.new.store)) c.in_ok-texts.ensures.build_file c.in_ok-put_texts.ensures.ok)) in
    puts-both (map tile_file tiles ++ map hierarchy_file (hierarchy k.step (map counted tiles))) _ (files a.store.now) (files c.put_hierarchy.new.store) (files c.put_texts.new.store)
    (puts-both (map tile_file tiles) (map hierarchy_file (hierarchy k.step (map counted tiles))) (files a.store.now) (files c.put_tiles.new.store) (files c.put_hierarchy.new.store) (c.in_ok-nodes.ensures.ok start tiles told names) second)
    third

pub returns-in_err-nodes-clause-damaged : goal.returns-in_err-nodes-clause-damaged
returns-in_err-nodes-clause-damaged g c = λ key told.
    let out = c.from_residual.result in
    let is : out ≡ Err c.in_err-nodes.field-0.0 = search rules in
    c.put_tiles.ensures.damaged key (one-refusal c.put_tiles.result out c.in_err-nodes.field-0.0 (TileDamaged key) c.in_err-nodes.was is told)

pub returns-in_err-nodes-clause-sound : goal.returns-in_err-nodes-clause-sound
returns-in_err-nodes-clause-sound g c = λ shelf start read sound has key told.
    let out = c.from_residual.result in
    let is : out ≡ Err c.in_err-nodes.field-0.0 = search rules in
    c.put_tiles.ensures.sound shelf start read sound has key (one-refusal c.put_tiles.result out c.in_err-nodes.field-0.0 (TileDamaged key) c.in_err-nodes.was is told)

pub returns-in_err-put_hierarchy-clause-damaged : goal.returns-in_err-put_hierarchy-clause-damaged
returns-in_err-put_hierarchy-clause-damaged g c = λ key told.
    let is : c.from_residual-in_err-put_hierarchy.result ≡ Err (of_put c.in_err-put_hierarchy.field-0.0) = search rules in
    absurd (store-no-tile c.put_hierarchy.result c.from_residual-in_err-put_hierarchy.result c.in_err-put_hierarchy.field-0.0 c.in_err-put_hierarchy.was is key told)

pub returns-in_err-put_hierarchy-clause-sound : goal.returns-in_err-put_hierarchy-clause-sound
returns-in_err-put_hierarchy-clause-sound g c = λ shelf start read sound has key told.
    let is : c.from_residual-in_err-put_hierarchy.result ≡ Err (of_put c.in_err-put_hierarchy.field-0.0) = search rules in
    store-no-tile c.put_hierarchy.result c.from_residual-in_err-put_hierarchy.result c.in_err-put_hierarchy.field-0.0 c.in_err-put_hierarchy.was is key told

pub returns-in_err-put_texts-clause-damaged : goal.returns-in_err-put_texts-clause-damaged
returns-in_err-put_texts-clause-damaged g c = λ key told.
    let is : c.from_residual-in_err-put_texts.result ≡ Err (of_put c.in_err-put_texts.field-0.0) = search rules in
    absurd (store-no-tile c.put_texts.result c.from_residual-in_err-put_texts.result c.in_err-put_texts.field-0.0 c.in_err-put_texts.was is key told)

pub returns-in_err-put_texts-clause-sound : goal.returns-in_err-put_texts-clause-sound
returns-in_err-put_texts-clause-sound g c = λ shelf start read sound has key told.
    let is : c.from_residual-in_err-put_texts.result ≡ Err (of_put c.in_err-put_texts.field-0.0) = search rules in
    store-no-tile c.put_texts.result c.from_residual-in_err-put_texts.result c.in_err-put_texts.field-0.0 c.in_err-put_texts.was is key told
