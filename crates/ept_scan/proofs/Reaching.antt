-- How far the records are read ahead.
use Rattle.std.proofs.Common.{◌≡◌, ℕ, ◌+◌, ◌*◌, ◌-◌, max, ◌<◌, ◌≤◌, List, ◌++◌, Option, Some, None, length, drop, ap, arith, length-append, length-drop}
use Rattle.std.specs.Io.KnownBytes.{prepend_known}
use Rattle.ept_las.specs.declared.header.Header.{Header}
use Rattle.ept_scan.specs.Reach.{HasLeftOf}
use Rattle.ept_scan.proofs.SoFar.{IsAtRecord}

-- the records before n, and those from n on
pub split_product : (size n points : ℕ) → n ≤ points → size * (points - n) + size * n ≡ size * points
split_product size n points fits =
    let parts : (points - n) + n ≡ points = omega (arith, fits) in
    grind (arith, parts)

pub reach_more : (size n points held new first : ℕ) → n < points → held + size * n ≤ max first (size * points) → new + size ≤ max held (size * (points - n)) → new + size * (n + 1) ≤ max first (size * points)
reach_more size n points held new first stated before after =
    let split : size * (points - n) + size * n ≡ size * points = split_product size n points (omega (arith, stated)) in
    omega (arith, before, after, split)

-- what was read on the way
pub left_records : (header : Header) (first held : List ℕ) (old now exit : Option (List ℕ)) (n : ℕ) → IsAtRecord header (prepend_known first old) (prepend_known held now) n → n ≤ header.points
    → length held + header.length * n ≤ max (length first) (header.length * header.points) → HasLeftOf now exit (header.length * (header.points - n) - length held) → HasLeftOf old exit (header.length * header.points - length first)
left_records header first held None now exit n place within reach left = tt
left_records header first held (Some old) now None n place within reach left = tt
left_records header first held (Some old) None (Some exit) n place within reach left = absurd (none place.ahead)
  where
    none : None ≡ Some (drop (header.length * n) (first ++ old)) → ⊥
    none e = cc
left_records header first held (Some old) (Some now) (Some exit) n place within reach left =
    let same : held ++ now ≡ drop (header.length * n) (first ++ old) = inner place.ahead in
    let sizes : length held + length now ≡ length first + length old - header.length * n = omega (arith, length-append held now, ap length same, length-drop (header.length * n) (first ++ old), length-append first old) in
    let split : header.length * (header.points - n) + header.length * n ≡ header.length * header.points = split_product header.length n header.points within in
    sized (length first) (length old) (length held) (length now) (length exit) (header.length * n) (header.length * (header.points - n)) (header.length * header.points) sizes split reach left
  where
    inner : Some (held ++ now) ≡ Some (drop (header.length * n) (first ++ old)) → held ++ now ≡ drop (header.length * n) (first ++ old)
    inner e = cc

    sized : (first old held now exit done rest all : ℕ) → held + now ≡ first + old - done → rest + done ≡ all → held + done ≤ max first all → now ≤ exit + (rest - held) → old ≤ exit + (all - first)
    sized first old held now exit done rest all sizes split reach left = omega arith

-- what was given on the way
pub given_records : (size n points first held before now exit : ℕ) → n ≤ points → now + first ≤ before + held + size * n → held + size * n ≤ max first (size * points) → exit ≤ now + (size * (points - n) - held) → exit ≤ before + (size * points - first)
given_records size n points first held before now exit within gained reach given =
    let split : size * (points - n) + size * n ≡ size * points = split_product size n points within in
    sized (size * n) (size * (points - n)) (size * points) split gained reach given
  where
    sized : (done rest all : ℕ) → rest + done ≡ all → now + first ≤ before + held + done → held + done ≤ max first all → exit ≤ now + (rest - held) → exit ≤ before + (all - first)
    sized done rest all split gained reach given = omega arith
