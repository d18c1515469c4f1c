use Rattle.std.proofs.Common.{◌≡◌, ◌∙◌, ◌*◌, length, ap, subst, sym, Some}
use Rattle.std.specs.Prelude.{Err}
use Rattle.std.specs.Option.{option_copied}
use Rattle.std.proofs.lemmas.Result.{IfOk-weaker}
use Rattle.ept_point.specs.Dimensions.{packed_width}
use Rattle.ept_point.specs.declared.layout.Layout.TheVariants.{Old}
use Rattle.ept_space.specs.VoxelKey.{VoxelKey}
use Rattle.ept_meta.specs.Output.{rules_of}
use Rattle.ept_save.specs.declared.error.SaveError.TheVariants.{TileDamaged}
use Rattle.ept_save.specs.Current.{Current, tile_of_line}
use Rattle.ept_save.specs.Loading.{IsOfOtherLengthUnder}
use Rattle.ept_save.specs.Tiles.{IsOfLayout}
use Rattle.ept_save.specs.View.{View}
use Rattle.ept_save.proofs.LoadedLines.{of-line, line-key, loaded-refused, sound-only}
use Rattle.ept_save.proofs.SoundTiles.{sound-intact}
use Rattle.ept_save.proofs.Standing.{same-stands}
use Rattle.ept_save.proofs.TileBytes.{of-told, bytes-tile, bytes-damaged, only-key, other-comes}
use Rattle.ept_save.proofs.TileFiles.{new-layout}
use Rattle.ept_save.proofs.loading.load_bytes.Goals as goal

pub returns-clause-bytes : goal.returns-clause-bytes
returns-clause-bytes g c =
    let is = sym (ap (λ (v : View). v.current) c.saved.view_is) ∙ (sym c.as_ref.ensures.value ∙ ap option_copied c.unwrap.ensures) in
    let found = sym c.line.ensures ∙ ap option_copied c.unwrap-line.ensures in
    IfOk-weaker c.bytes_of_line.result _ _
    (λ bytes has. of-told c.args.saved.now.current c.args.key c.unwrap.result.now c.unwrap-line.result.now is found (λ d l all. all (tile_of_line l) ≡ Some bytes.items) (g.T.Store.files c.args.store.now) has)
    c.bytes_of_line.ensures.bytes

pub returns-clause-length : goal.returns-clause-length
returns-clause-length g c =
    let is = sym (ap (λ (v : View). v.current) c.saved.view_is) ∙ (sym c.as_ref.ensures.value ∙ ap option_copied c.unwrap.ensures) in
    let found = sym c.line.ensures ∙ ap option_copied c.unwrap-line.ensures in
    IfOk-weaker c.bytes_of_line.result _ _
    (λ bytes has. of-line c.args.saved.now.current c.args.key c.unwrap.result.now c.unwrap-line.result.now (λ d l. length bytes.items ≡ packed_width * l.count) is found has)
    c.bytes_of_line.ensures.length

pub returns-clause-tile : goal.returns-clause-tile
returns-clause-tile g c =
    let at = c.unwrap.result.now in
    let is = sym (ap (λ (v : View). v.current) c.saved.view_is) ∙ (sym c.as_ref.ensures.value ∙ ap option_copied c.unwrap.ensures) in
    let found = sym c.line.ensures ∙ ap option_copied c.unwrap-line.ensures in
    let newest = new-layout at.0 at.1 (subst (λ (w : Current). ¬ IsOfLayout Old w) is c.requires.newest) in
    IfOk-weaker c.bytes_of_line.result _ _
    (λ bytes has points. bytes-tile c.args.saved.now.current c.args.key at c.unwrap-line.result.now is found newest bytes.items (g.T.Store.files c.args.store.now) has points)
    c.bytes_of_line.ensures.bytes

pub returns-clause-refused : goal.returns-clause-refused
returns-clause-refused g c = λ e.
    let at = c.unwrap.result.now in
    let line = c.unwrap-line.result.now in
    let is = sym (ap (λ (v : View). v.current) c.saved.view_is) ∙ (sym c.as_ref.ensures.value ∙ ap option_copied c.unwrap.ensures) in
    let found = sym c.line.ensures ∙ ap option_copied c.unwrap-line.ensures in
    let newest = new-layout at.0 at.1 (subst (λ (w : Current). ¬ IsOfLayout Old w) is c.requires.newest) in
    loaded-refused c.args.saved.now.current c.args.key at line is found (g.T.Store.files c.args.store.now)
    (bytes-damaged c.args.saved.now.current c.args.key at line is found newest (rules_of at.1.kept) (g.T.Store.files c.args.store.now)
    (c.bytes_of_line.ensures.refused (e ∙ ap (λ (k : VoxelKey). Err (TileDamaged k)) (sym (line-key at.1.nodes c.args.key line found))) (rules_of at.1.kept)))

pub returns-clause-other_length : goal.returns-clause-other_length
returns-clause-other_length g c = λ e.
    let at = c.unwrap.result.now in
    let line = c.unwrap-line.result.now in
    let is = sym (ap (λ (v : View). v.current) c.saved.view_is) ∙ (sym c.as_ref.ensures.value ∙ ap option_copied c.unwrap.ensures) in
    let found = sym c.line.ensures ∙ ap option_copied c.unwrap-line.ensures in
    of-told c.args.saved.now.current c.args.key at line is found (λ d l all. IsOfOtherLengthUnder (tile_of_line l) l all) (g.T.Store.files c.args.store.now)
    (c.bytes_of_line.ensures.other_length (e ∙ ap (λ (k : VoxelKey). Err (TileDamaged k)) (sym (line-key at.1.nodes c.args.key line found))))

pub returns-clause-refusal_comes : goal.returns-clause-refusal_comes
returns-clause-refusal_comes g c = λ all told other.
    let at = c.unwrap.result.now in
    let line = c.unwrap-line.result.now in
    let is = sym (ap (λ (v : View). v.current) c.saved.view_is) ∙ (sym c.as_ref.ensures.value ∙ ap option_copied c.unwrap.ensures) in
    let found = sym c.line.ensures ∙ ap option_copied c.unwrap-line.ensures in
    other-comes c.args.saved.now.current c.args.key at line is found (λ bytes. bytes.items) c.bytes_of_line.result (g.T.Store.files c.args.store.now) all c.bytes_of_line.ensures.bytes c.bytes_of_line.ensures.length
    (only-key c.args.saved.now.current c.args.key at line is found c.bytes_of_line.result c.bytes_of_line.ensures.only) told other

pub returns-clause-only : goal.returns-clause-only
returns-clause-only g c =
    only-key c.args.saved.now.current c.args.key c.unwrap.result.now c.unwrap-line.result.now
    (sym (ap (λ (v : View). v.current) c.saved.view_is) ∙ (sym c.as_ref.ensures.value ∙ ap option_copied c.unwrap.ensures))
    (sym c.line.ensures ∙ ap option_copied c.unwrap-line.ensures)
    c.bytes_of_line.result c.bytes_of_line.ensures.only

pub returns-clause-sound : goal.returns-clause-sound
returns-clause-sound g c = λ shelf all told sound has.
    let at = c.unwrap.result.now in
    let line = c.unwrap-line.result.now in
    let is = sym (ap (λ (v : View). v.current) c.saved.view_is) ∙ (sym c.as_ref.ensures.value ∙ ap option_copied c.unwrap.ensures) in
    let found = sym c.line.ensures ∙ ap option_copied c.unwrap-line.ensures in
    let newest = new-layout at.0 at.1 (subst (λ (w : Current). ¬ IsOfLayout Old w) is c.requires.newest) in
    sound-only c.bytes_of_line.result c.args.saved.now.current c.args.key (g.T.Store.files c.args.store.now) all
    (λ e. loaded-refused c.args.saved.now.current c.args.key at line is found (g.T.Store.files c.args.store.now)
    (bytes-damaged c.args.saved.now.current c.args.key at line is found newest (rules_of at.1.kept) (g.T.Store.files c.args.store.now)
    (c.bytes_of_line.ensures.refused (e ∙ ap (λ (k : VoxelKey). Err (TileDamaged k)) (sym (line-key at.1.nodes c.args.key line found))) (rules_of at.1.kept))))
    (only-key c.args.saved.now.current c.args.key at line is found c.bytes_of_line.result c.bytes_of_line.ensures.only)
    (sound-intact c.tile_once_law.ensures.once c.output_once_law.ensures.sampled shelf all c.args.saved.now.current c.args.key at line is found c.mask_known.ensures sound has) told

pub returns-clause-stands : goal.returns-clause-stands
returns-clause-stands g c = λ v stands.
    same-stands g.T.Store.files g.T.Store.may_leave g.T.Store.moment g.T.Store.image_since v c.args.store.now c.bytes_of_line.new.store c.bytes_of_line.ensures.any_moment stands

pub returns-clause-intact : goal.returns-clause-intact
returns-clause-intact g c = λ shelf all.
    sound-intact c.tile_once_law.ensures.once c.output_once_law.ensures.sampled shelf all c.args.saved.now.current c.args.key c.unwrap.result.now c.unwrap-line.result.now
    (sym (ap (λ (v : View). v.current) c.saved.view_is) ∙ (sym c.as_ref.ensures.value ∙ ap option_copied c.unwrap.ensures))
    (sym c.line.ensures ∙ ap option_copied c.unwrap-line.ensures)
    c.mask_known.ensures
