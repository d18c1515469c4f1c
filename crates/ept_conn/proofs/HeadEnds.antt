-- The first end of a head, in a part of the bytes and in more of them.
use Rattle.std.proofs.Common.{◌≡◌, ℕ, zero, suc, ◌+◌, ◌-◌, ◌<◌, ◌≤◌, List, [], ◌∷◌, ◌++◌, length, take, drop, Option, Some, None, Bool, true, false, cond, nat_eq, nat_le, min, if◌then◌else◌, refl, sym, ap, ◌∙◌, arith, length-append}
use Rattle.std.specs.Option.{is_some, option_map}
use Rattle.std.specs.Prelude.{codes}
use Rattle.std.specs.Cmp.Lexicographic.{pointwise}
use Rattle.std.proofs.lemmas.Bool.{cond-true, cond-false}
use Rattle.std.proofs.lemmas.Bool.Decides.{nat_tests}
use Rattle.std.proofs.lemmas.Slice.Eq.{bytes_eq-Decides}
use Rattle.std.proofs.lemmas.List.{drop_more, take-take, take-append-le, length-take, take_min}
use Rattle.ept_conn.specs.HeadEnd.{is_mark, head_end, Whole, Long, Short, front_or, front}
use Rattle.ept_conn.specs.Held.{Held, IsSearched}

-- ---- one byte after the other

shift : (o : Option ℕ) (at : ℕ) → option_map (λ n. n + at) (option_map (λ n. n + 1) o) ≡ option_map (λ n. n + (at + 1)) o
shift None at = refl
shift (Some n) at = ap Some (omega arith)

shifted : (o : Option ℕ) (n : ℕ) → option_map (λ k. k + 1) (option_map (λ k. k + n) o) ≡ option_map (λ k. k + suc n) o
shifted None n = refl
shifted (Some k) n = ap Some (omega arith)

unshifted : (o : Option ℕ) → o ≡ option_map (λ n. n + 0) o
unshifted None = refl
unshifted (Some n) = ap Some (omega arith)

-- if no mark begins here, the first end is that of the bytes after this one
pub end-later : (bytes : List ℕ) (at : ℕ) → at < length bytes → is_mark (drop at bytes) ≡ false → option_map (λ n. n + at) (head_end (drop at bytes)) ≡ option_map (λ n. n + (at + 1)) (head_end (drop (at + 1) bytes))
end-later bytes at inside other =
    let first = drop_more bytes at 0 inside in
    let step : head_end (drop at bytes) ≡ option_map (λ n. n + 1) (head_end (drop (at + 1) bytes)) =
    ap head_end first ∙ cond-false _ _ _ (sym (ap is_mark first) ∙ other) in
    ap (option_map (λ n. n + at)) step ∙ shift (head_end (drop (at + 1) bytes)) at

-- ---- a part without an end

none-parts : (mark : Bool) (o : Option ℕ) → cond mark (Some 4) (option_map (λ n. n + 1) o) ≡ None → (mark ≡ false) × (o ≡ None)
none-parts true o h = absurd cc
none-parts false None h = (refl, refl)
none-parts false (Some n) h = absurd cc

-- a mark is seen in any part that has room for it
mark-part : (b k : ℕ) (bytes : List ℕ) → 3 ≤ k → is_mark (b ∷ take k bytes) ≡ is_mark (b ∷ bytes)
mark-part b k bytes room = ap (λ (w : List ℕ). pointwise nat_eq (codes "\r\n\r\n") (b ∷ w)) (take-take 3 k bytes room)

-- so a search may resume three bytes before the end of a part without one
pub end-behind : (n m : ℕ) (bytes : List ℕ) → m ≡ n + 3 → m ≤ length bytes → head_end (take m bytes) ≡ None → head_end bytes ≡ option_map (λ k. k + n) (head_end (drop n bytes))
end-behind zero m bytes is within none = unshifted (head_end bytes)
end-behind (suc n) zero bytes is within none = absurd (omega arith)
end-behind (suc n) (suc m) [] is within none = absurd (omega arith)
end-behind (suc n) (suc m) (b ∷ bytes) is within none =
    let parts = none-parts _ _ none in
    let later = end-behind n m bytes (omega arith) (omega arith) parts.1 in
    let other : is_mark (b ∷ bytes) ≡ false = sym (mark-part b m bytes (omega arith)) ∙ parts.0 in
    cond-false _ _ _ other ∙ ap (option_map (λ k. k + 1)) later ∙ shifted (head_end (drop n bytes)) n

pub end-start : (searched at : ℕ) (bytes : List ℕ) → at ≡ searched - 3 → searched ≤ length bytes → head_end (take searched bytes) ≡ None → head_end bytes ≡ option_map (λ k. k + at) (head_end (drop at bytes))
end-start zero at bytes is within none =
    let here : at ≡ 0 = omega arith in
    unshifted (head_end bytes) ∙ ap (λ k. option_map (λ n. n + k) (head_end (drop k bytes))) (sym here)
end-start (suc zero) at bytes is within none =
    let here : at ≡ 0 = omega arith in
    unshifted (head_end bytes) ∙ ap (λ k. option_map (λ n. n + k) (head_end (drop k bytes))) (sym here)
end-start (suc (suc zero)) at bytes is within none =
    let here : at ≡ 0 = omega arith in
    unshifted (head_end bytes) ∙ ap (λ k. option_map (λ n. n + k) (head_end (drop k bytes))) (sym here)
end-start (suc (suc (suc n))) at bytes is within none = end-behind at (suc (suc (suc n))) bytes (omega arith) within none

-- ---- the part that is searched

pub window-within : (n searched : ℕ) (bytes window : List ℕ) → window ≡ take n bytes → searched ≤ length bytes → searched ≤ n → searched ≤ length window
window-within n searched bytes window is within near = omega (arith, ap length is ∙ length-take n bytes)

pub window-clear : (n searched : ℕ) (bytes window : List ℕ) → window ≡ take n bytes → searched ≤ n → head_end (take searched bytes) ≡ None → head_end (take searched window) ≡ None
window-clear n searched bytes window is near clear =
    ap (λ (w : List ℕ). head_end (take searched w)) is ∙ ap head_end (take-take searched n bytes near) ∙ clear

pub window-searched : (n given : ℕ) (ended : Bool) (bytes window : List ℕ) → n ≤ 8192 → window ≡ take n bytes → head_end window ≡ None → (if ended then 0 else given) < 65536 → IsSearched bytes (length window) given ended
window-searched n given ended bytes window most is clear room =
    let long : length window ≡ min n (length bytes) = ap length is ∙ length-take n bytes in
    record {
      within = omega arith;
      near = omega arith;
      clear = ap (λ k. head_end (take k bytes)) long ∙ ap head_end (take_min n bytes ∙ sym is) ∙ clear;
      room = room;
    }

pub none-is : (o : Option ℕ) → is_some o ≡ false → o ≡ None
none-is None h = refl
none-is (Some n) h = absurd cc

-- ---- what bytes begin with

-- a mark has four bytes
mark-long : (bytes : List ℕ) → is_mark bytes ≡ true → 4 ≤ length bytes
mark-long bytes h =
    let same = (bytes_eq-Decides (codes "\r\n\r\n") (take 4 bytes)).0 h in
    omega (arith, ap length same, length-take 4 bytes)

some-later : (o : Option ℕ) (len : ℕ) → option_map (λ n. n + 1) o ≡ Some len → (m : ℕ) × (o ≡ Some m) × (m + 1 ≡ len)
some-later None len h = absurd cc
some-later (Some m) len h = (m, refl, cc)

pub end-within : (bytes : List ℕ) (len : ℕ) → head_end bytes ≡ Some len → len ≤ length bytes
end-within [] len h = absurd cc
end-within (b ∷ bytes) len h = by_mark (λ m is. end-within bytes m is) (is_mark (b ∷ bytes)) refl
  where
    by_mark : ((m : ℕ) → head_end bytes ≡ Some m → m ≤ length bytes) → (mark : Bool) → is_mark (b ∷ bytes) ≡ mark → len ≤ length (b ∷ bytes)
    by_mark later true is =
        let here = sym h ∙ cond-true _ _ _ is in
        let four : len ≡ 4 = cc in
        omega (arith, mark-long (b ∷ bytes) is)
    by_mark later false is =
        let behind = some-later (head_end bytes) len (sym (cond-false _ _ _ is) ∙ h) in
        omega (arith, later behind.0 behind.1, behind.2)

full : (n k : ℕ) → n ≤ k → nat_le n k ≡ true
full n k h = grind (arith, nat_tests)

not_full : (n k : ℕ) → k < n → nat_le n k ≡ false
not_full n k h = grind (arith, nat_tests)

pub front-whole : (bytes : List ℕ) (len : ℕ) → Some len ≡ head_end (take 8192 bytes) → front bytes ≡ Whole len
unfolding front
front-whole bytes len h = ap (λ o. front_or o (nat_le 8192 (length bytes))) (sym h)

pub front-long : (bytes : List ℕ) → None ≡ head_end (take 8192 bytes) → 8192 ≤ length bytes → front bytes ≡ Long
unfolding front
front-long bytes h long = ap (λ o. front_or o (nat_le 8192 (length bytes))) (sym h) ∙ ap (front_or None) (full 8192 (length bytes) long)

pub front-short : (bytes : List ℕ) → None ≡ head_end (take 8192 bytes) → length bytes < 8192 → front bytes ≡ Short
unfolding front
front-short bytes h short = ap (λ o. front_or o (nat_le 8192 (length bytes))) (sym h) ∙ ap (front_or None) (not_full 8192 (length bytes) short)

pub within-window : (n : ℕ) (bytes held : List ℕ) (len : ℕ) → held ≡ bytes → head_end (take n bytes) ≡ Some len → len ≤ length held
within-window n bytes held len same h = omega (arith, end-within (take n bytes) len h, length-take n bytes, ap length same)

-- ---- what is held is as it was

pub held-full : (n : ℕ) (held old : Held) → held ≡ old → n ≤ length held.bytes → n ≤ length old.bytes
held-full n held old same full = omega (arith, ap (λ (h : Held). length h.bytes) same)

pub not-held-full : (n : ℕ) (held old : Held) → held ≡ old → (n ≤ length held.bytes → ⊥) → length old.bytes < n
not-held-full n held old same other =
    let short : length held.bytes < n = omega (arith, other) in
    omega (arith, ap (λ (h : Held). length h.bytes) same)

-- ---- more bytes

whole-is : (o : Option ℕ) (full : Bool) (len : ℕ) → front_or o full ≡ Whole len → o ≡ Some len
whole-is (Some n) full len h = cc
whole-is None true len h = absurd cc
whole-is None false len h = absurd cc

-- an end has four bytes
end-least : (bytes : List ℕ) (len : ℕ) → head_end bytes ≡ Some len → 4 ≤ len
end-least [] len h = absurd cc
end-least (b ∷ bytes) len h = by_mark (λ m is. end-least bytes m is) (is_mark (b ∷ bytes)) refl
  where
    by_mark : ((m : ℕ) → head_end bytes ≡ Some m → 4 ≤ m) → (mark : Bool) → is_mark (b ∷ bytes) ≡ mark → 4 ≤ len
    by_mark later true is =
        let here = sym h ∙ cond-true _ _ _ is in
        let four : len ≡ 4 = cc in
        omega arith
    by_mark later false is =
        let behind = some-later (head_end bytes) len (sym (cond-false _ _ _ is) ∙ h) in
        omega (arith, later behind.0 behind.1, behind.2)

-- a mark is seen in any four bytes, whatever bytes follow
mark-more : (bytes more : List ℕ) → 4 ≤ length bytes → is_mark (bytes ++ more) ≡ is_mark bytes
mark-more bytes more long = ap (pointwise nat_eq (codes "\r\n\r\n")) (take-append-le 4 bytes more long)

-- an end stays where it is
end-more : (bytes more : List ℕ) (len : ℕ) → head_end bytes ≡ Some len → head_end (bytes ++ more) ≡ Some len
end-more [] more len h = absurd cc
end-more (b ∷ bytes) more len h = by_mark (λ m is. end-more bytes more m is) (is_mark (b ∷ bytes)) refl
  where
    by_mark : ((m : ℕ) → head_end bytes ≡ Some m → head_end (bytes ++ more) ≡ Some m) → (mark : Bool) → is_mark (b ∷ bytes) ≡ mark → head_end (b ∷ (bytes ++ more)) ≡ Some len
    by_mark later true is =
        cond-true _ _ _ (mark-more (b ∷ bytes) more (mark-long (b ∷ bytes) is) ∙ is) ∙ sym (cond-true _ _ _ is) ∙ h
    by_mark later false is =
        let behind = some-later (head_end bytes) len (sym (cond-false _ _ _ is) ∙ h) in
        let least = end-least bytes behind.0 behind.1 in
        let within = end-within bytes behind.0 behind.1 in
        let long : 4 ≤ length (b ∷ bytes) = omega (arith, least, within) in
        cond-false _ _ _ (mark-more (b ∷ bytes) more long ∙ is) ∙ ap (option_map (λ n. n + 1)) (later behind.0 behind.1) ∙ ap Some behind.2

-- the part that is searched of more bytes begins as before
window-more : (n : ℕ) (bytes more : List ℕ) → (rest : List ℕ) × (take n (bytes ++ more) ≡ take n bytes ++ rest)
window-more zero bytes more = ([], refl)
window-more (suc n) [] more = (take (suc n) more, refl)
window-more (suc n) (b ∷ bytes) more =
    let later = window-more n bytes more in
    (later.0, ap (λ (w : List ℕ). b ∷ w) later.1)

kept-at : (n : ℕ) (bytes more : List ℕ) → (front_or (head_end (take n bytes)) (nat_le n (length bytes)) ≡ Short → ⊥) → front_or (head_end (take n (bytes ++ more))) (nat_le n (length (bytes ++ more))) ≡ front_or (head_end (take n bytes)) (nat_le n (length bytes))
kept-at n bytes more other = by_end (head_end (take n bytes)) (nat_le n (length bytes)) refl refl
  where
    by_end : (o : Option ℕ) (is_full : Bool) → head_end (take n bytes) ≡ o → nat_le n (length bytes) ≡ is_full → front_or (head_end (take n (bytes ++ more))) (nat_le n (length (bytes ++ more))) ≡ front_or (head_end (take n bytes)) (nat_le n (length bytes))
    by_end (Some len) is_full is _ =
        let grown = window-more n bytes more in
        let now : head_end (take n (bytes ++ more)) ≡ Some len = ap head_end grown.1 ∙ end-more (take n bytes) grown.0 len is in
        ap (λ o. front_or o (nat_le n (length (bytes ++ more)))) now ∙ sym (ap (λ o. front_or o (nat_le n (length bytes))) is)
    by_end None true is yes_full =
        let long : n ≤ length bytes = grind (arith, nat_tests) in
        let now = ap head_end (take-append-le n bytes more long) in
        let longer : nat_le n (length (bytes ++ more)) ≡ nat_le n (length bytes) = full n (length (bytes ++ more)) (omega (arith, length-append bytes more)) ∙ sym yes_full in
        ap (λ o. front_or o (nat_le n (length (bytes ++ more)))) now ∙ ap (front_or (head_end (take n bytes))) longer
    by_end None false is not_yet = absurd (other (ap (λ o. front_or o (nat_le n (length bytes))) is ∙ ap (front_or None) not_yet))

pub front-within : (bytes : List ℕ) (len : ℕ) → front bytes ≡ Whole len → len ≤ length bytes
unfolding front
front-within bytes len h = within-window 8192 bytes bytes len refl (whole-is (head_end (take 8192 bytes)) (nat_le 8192 (length bytes)) len h)

pub front-kept : (bytes more : List ℕ) → (front bytes ≡ Short → ⊥) → front (bytes ++ more) ≡ front bytes
unfolding front
front-kept bytes more h = kept-at 8192 bytes more h
