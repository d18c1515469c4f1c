-- The members of a spatial reference, one after another.
use Rattle.std.proofs.Common.{◌≡◌, ◌∙◌, ℕ, Bool, true, false, List, ◌++◌, refl, sym, ap, append_assoc, codes, Option, Some, None, is_some}
use Rattle.std.specs.Prelude.{◌||◌}
use Rattle.std.specs.List.{flat_map, join_by}
use Rattle.std.proofs.lemmas.List.{append-nil}
use Rattle.ept_config.specs.declared.srs.Srs.{Srs}
use Rattle.ept_meta.specs.SrsObject.{Member, member_text, given, members, member_part, srs_text}

-- the members that follow, if the object has members already, or none
tail_text : Bool → List Member → List ℕ
tail_text true ms = flat_map (λ m. codes "," ++ member_text m) ms
tail_text false ms = join_by member_text (codes ",") ms

one_member : (some : Bool) (key : List ℕ) (value : Option (List ℕ)) (rest : List Member) → tail_text some (given key value ++ rest) ≡ member_part some key value ++ tail_text (some || is_some value) rest
unfolding tail_text
one_member true key (Some text) rest = refl
one_member true key None rest = refl
one_member false key (Some text) rest = refl
one_member false key None rest = refl

last_member : (some : Bool) (key : List ℕ) (value : Option (List ℕ)) → tail_text some (given key value) ≡ member_part some key value
unfolding tail_text
last_member true key (Some text) = append-nil (codes "," ++ member_text (key, text))
last_member true key None = refl
last_member false key (Some text) = append-nil (member_text (key, text))
last_member false key None = refl

none_before : (ms : List Member) → tail_text false ms ≡ join_by member_text (codes ",") ms
unfolding tail_text
none_before ms = refl

regroup : (s o a h v w c : List ℕ) → (((((s ++ o) ++ a) ++ h) ++ v) ++ w) ++ c ≡ s ++ ((o ++ (a ++ (h ++ (v ++ w)))) ++ c)
regroup s o a h v w c = simp append_assoc

-- the four members, each after those before it
module _ (srs : Srs) (b1 b2 b3 : Bool) (first : b1 ≡ false || is_some srs.authority) (second : b2 ≡ b1 || is_some srs.horizontal) (third : b3 ≡ b2 || is_some srs.vertical) where
  a : List ℕ
  a = member_part false (codes "authority") srs.authority

  h : List ℕ
  h = member_part b1 (codes "horizontal") srs.horizontal

  v : List ℕ
  v = member_part b2 (codes "vertical") srs.vertical

  w : List ℕ
  w = member_part b3 (codes "wkt") srs.wkt

  in_turn : join_by member_text (codes ",") (given (codes "authority") srs.authority ++ (given (codes "horizontal") srs.horizontal ++ (given (codes "vertical") srs.vertical ++ given (codes "wkt") srs.wkt))) ≡ a ++ (h ++ (v ++ w))
  unfolding a h v w
  in_turn =
      sym (none_before _)
      ∙ one_member false (codes "authority") srs.authority _
      ∙ ap (λ t. a ++ t) (
      ap (λ (b : Bool). tail_text b (given (codes "horizontal") srs.horizontal ++ (given (codes "vertical") srs.vertical ++ given (codes "wkt") srs.wkt))) (sym first)
      ∙ one_member b1 (codes "horizontal") srs.horizontal _
      ∙ ap (λ t. h ++ t) (
      ap (λ (b : Bool). tail_text b (given (codes "vertical") srs.vertical ++ given (codes "wkt") srs.wkt)) (sym second)
      ∙ one_member b2 (codes "vertical") srs.vertical _
      ∙ ap (λ t. v ++ t) (
      ap (λ (b : Bool). tail_text b (given (codes "wkt") srs.wkt)) (sym third) ∙ last_member b3 (codes "wkt") srs.wkt)))

  srs_is : srs_text srs ≡ codes "{" ++ (a ++ (h ++ (v ++ w))) ++ codes "}"
  unfolding srs_text members
  srs_is = ap (λ t. codes "{" ++ t ++ codes "}") (ap (join_by member_text (codes ",")) (simp append_assoc) ∙ in_turn)

  pub srs_written : (start t0 t1 t2 t3 t4 end : List ℕ) → t0 ≡ start ++ codes "{" → t1 ≡ t0 ++ member_part false (codes "authority") srs.authority → t2 ≡ t1 ++ member_part b1 (codes "horizontal") srs.horizontal → t3 ≡ t2 ++ member_part b2 (codes "vertical") srs.vertical → t4 ≡ t3 ++ member_part b3 (codes "wkt") srs.wkt → end ≡ t4 ++ codes "}" → end ≡ start ++ srs_text srs
  unfolding a h v w
  srs_written start t0 t1 t2 t3 t4 end e0 e1 e2 e3 e4 e5 =
      e5
      ∙ ap (λ t. t ++ codes "}") (e4 ∙ ap (λ t. t ++ w) (e3 ∙ ap (λ t. t ++ v) (e2 ∙ ap (λ t. t ++ h) (e1 ∙ ap (λ t. t ++ a) e0))))
      ∙ regroup start (codes "{") a h v w (codes "}")
      ∙ ap (λ t. start ++ t) (sym srs_is)
