use Rattle.std.proofs.Common.{◌≡◌, ◌∙◌, ℕ, List, Some, subst}
use Rattle.std.specs.Prelude.{IfOk}
use Rattle.ept_base.specs.Files.{Files, Tells}
use Rattle.ept_point.specs.declared.layout.Layout.TheVariants.{New}
use Rattle.ept_save.specs.Loading.{IsDamagedUnder, IsOfOtherLengthUnder}
use Rattle.ept_save.proofs.loading.bytes_of_line.Goals as goal

pub returns-clause-bytes : goal.returns-clause-bytes
returns-clause-bytes g c =
    subst (λ (name : List ℕ). IfOk c.read_bytes.result (λ bytes. Tells (λ (all : Files). all name ≡ Some bytes.items) (g.T.Store.files c.args.store.now))) (c.as_str.ensures.value ∙ c.in_ok-name.ensures) c.read_bytes.ensures.bytes

pub returns-clause-refused : goal.returns-clause-refused
returns-clause-refused g c = λ e rules.
    subst (λ (name : List ℕ). Tells (IsDamagedUnder New rules name c.args.line.now) (g.T.Store.files c.args.store.now)) (c.as_str.ensures.value ∙ c.in_ok-name.ensures) (c.read_bytes.ensures.refused e rules)

pub returns-clause-other_length : goal.returns-clause-other_length
returns-clause-other_length g c = λ e.
    subst (λ (name : List ℕ). Tells (IsOfOtherLengthUnder name c.args.line.now) (g.T.Store.files c.args.store.now)) (c.as_str.ensures.value ∙ c.in_ok-name.ensures) (c.read_bytes.ensures.other_length e)
