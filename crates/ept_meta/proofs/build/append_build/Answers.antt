use Rattle.std.proofs.Common.{◌≡◌, ◌∙◌, ℕ, List, ◌++◌, codes, ap, append_assoc}
use Rattle.ept_config.specs.declared.input.Input.{Input}
use Rattle.ept_meta.specs.Classes.{members_of}
use Rattle.ept_meta.specs.SrsObject.{srs_text}
use Rattle.ept_meta.specs.BuildText.{build_text, units_text, octree_text, first_member, last_member, inputs_text}
use Rattle.ept_meta.proofs.build.append_build.Goals as goal

-- pieces, each appended to those before it
all_pieces : (old a b c d e f g h one two three four five six seven all : List ℕ)
    → one ≡ old ++ a → two ≡ one ++ b → three ≡ two ++ c → four ≡ three ++ d → five ≡ four ++ e → six ≡ five ++ f → seven ≡ six ++ g → all ≡ seven ++ h
    → all ≡ old ++ (a ++ b ++ c ++ d ++ e ++ f ++ g ++ h)
all_pieces old a b c d e f g h one two three four five six seven all is_one is_two is_three is_four is_five is_six is_seven is_all =
    is_all
    ∙ ap (λ (w : List ℕ). w ++ h) (is_seven ∙ ap (λ (w : List ℕ). w ++ g) (is_six ∙ ap (λ (w : List ℕ). w ++ f) (is_five ∙ ap (λ (w : List ℕ). w ++ e) (is_four ∙ ap (λ (w : List ℕ). w ++ d) (is_three ∙ ap (λ (w : List ℕ). w ++ c) (is_two ∙ ap (λ (w : List ℕ). w ++ b) is_one))))))
    ∙ regrouped
  where
    regrouped : (((((((old ++ a) ++ b) ++ c) ++ d) ++ e) ++ f) ++ g) ++ h ≡ old ++ (a ++ b ++ c ++ d ++ e ++ f ++ g ++ h)
    regrouped = simp append_assoc

pub returns : goal.returns
unfolding build_text
returns c =
    let kept = c.args.kept.now in
    all_pieces c.args.text.now.items
    (units_text kept) (octree_text kept) (codes ",\"srs\":") (srs_text kept.srs) (first_member (members_of kept.first)) (last_member kept.withheld_last) (inputs_text kept.inputs) (codes "}")
    c.append_units.new.text.items c.append_octree.new.text.items c.append.new.text.items c.append_srs.new.text.items c.append_first.new.text.items c.append_last.new.text.items c.append_inputs.new.text.items c.append-2.new.text.items
    c.in_ok-append_units.ensures c.in_ok-append_octree.ensures c.in_ok-append.ensures c.in_ok-append_srs.ensures
    c.in_ok-append_first.ensures c.in_ok-append_last.ensures (c.in_ok-append_inputs.ensures ∙ ap (λ (inputs : List Input). c.append_last.new.text.items ++ inputs_text inputs) c.as_slice.ensures) c.in_ok-append-2.ensures
