-- The bytes of items, one after another.
use Rattle.std.proofs.Common.{◌≡◌, ◌∙◌, ◌++◌, ℕ, ◌+◌, ◌<◌, List, sym, ap, take, length, get_or, append_assoc}
use Rattle.std.specs.List.{flat_map}
use Rattle.std.proofs.lemmas.List.{take_more, flat_map_more}

-- one more item after those before it
pub item_written : {X : Type 0} (f : X → List ℕ) (xs : List X) (k : ℕ) (d : X) (start before after : List ℕ) → k < length xs → before ≡ start ++ flat_map f (take k xs) → after ≡ before ++ f (get_or xs k d) → after ≡ start ++ flat_map f (take (k + 1) xs)
item_written f xs k d start before after inside so_far then_item =
    then_item
    ∙ ap (λ t. t ++ f (get_or xs k d)) so_far
    ∙ flat_map_more f start (take k xs) (get_or xs k d)
    ∙ ap (λ items. start ++ flat_map f items) (sym (take_more xs k d inside))

regroup_six : (s a b c d e f : List ℕ) → (((((s ++ a) ++ b) ++ c) ++ d) ++ e) ++ f ≡ s ++ (((((a ++ b) ++ c) ++ d) ++ e) ++ f)
regroup_six s a b c d e f = simp append_assoc

-- six fields, each after those before it
pub six_written : (s a b c d e f t0 t1 t2 t3 t4 end : List ℕ) → t0 ≡ s ++ a → t1 ≡ t0 ++ b → t2 ≡ t1 ++ c → t3 ≡ t2 ++ d → t4 ≡ t3 ++ e → end ≡ t4 ++ f → end ≡ s ++ (((((a ++ b) ++ c) ++ d) ++ e) ++ f)
six_written s a b c d e f t0 t1 t2 t3 t4 end e0 e1 e2 e3 e4 e5 =
    e5 ∙ ap (λ t. t ++ f) (e4 ∙ ap (λ t. t ++ e) (e3 ∙ ap (λ t. t ++ d) (e2 ∙ ap (λ t. t ++ c) (e1 ∙ ap (λ t. t ++ b) e0))))
    ∙ regroup_six s a b c d e f

regroup_eight : (s front g h : List ℕ) → ((s ++ front) ++ g) ++ h ≡ s ++ ((front ++ g) ++ h)
regroup_eight s front g h = simp append_assoc

-- eight fields
pub eight_written : (s a b c d e f g h t0 t1 t2 t3 t4 t5 t6 end : List ℕ) → t0 ≡ s ++ a → t1 ≡ t0 ++ b → t2 ≡ t1 ++ c → t3 ≡ t2 ++ d → t4 ≡ t3 ++ e → t5 ≡ t4 ++ f → t6 ≡ t5 ++ g → end ≡ t6 ++ h → end ≡ s ++ (((((((a ++ b) ++ c) ++ d) ++ e) ++ f) ++ g) ++ h)
eight_written s a b c d e f g h t0 t1 t2 t3 t4 t5 t6 end e0 e1 e2 e3 e4 e5 e6 e7 =
    e7 ∙ ap (λ t. t ++ h) (e6 ∙ ap (λ t. t ++ g) (six_written s a b c d e f t0 t1 t2 t3 t4 t5 e0 e1 e2 e3 e4 e5))
    ∙ regroup_eight s (((((a ++ b) ++ c) ++ d) ++ e) ++ f) g h

regroup_nine : (s front i : List ℕ) → (s ++ front) ++ i ≡ s ++ (front ++ i)
regroup_nine s front i = append_assoc s front i

-- nine fields
pub nine_written : (s a b c d e f g h i t0 t1 t2 t3 t4 t5 t6 t7 end : List ℕ) → t0 ≡ s ++ a → t1 ≡ t0 ++ b → t2 ≡ t1 ++ c → t3 ≡ t2 ++ d → t4 ≡ t3 ++ e → t5 ≡ t4 ++ f → t6 ≡ t5 ++ g → t7 ≡ t6 ++ h → end ≡ t7 ++ i → end ≡ s ++ ((((((((a ++ b) ++ c) ++ d) ++ e) ++ f) ++ g) ++ h) ++ i)
nine_written s a b c d e f g h i t0 t1 t2 t3 t4 t5 t6 t7 end e0 e1 e2 e3 e4 e5 e6 e7 e8 =
    e8 ∙ ap (λ t. t ++ i) (eight_written s a b c d e f g h t0 t1 t2 t3 t4 t5 t6 t7 e0 e1 e2 e3 e4 e5 e6 e7)
    ∙ regroup_nine s (((((((a ++ b) ++ c) ++ d) ++ e) ++ f) ++ g) ++ h) i
