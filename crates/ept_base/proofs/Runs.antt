-- Reads and writes one after the other are one read or write of all their bytes.
use Rattle.std.proofs.Common.{◌≡◌, ℕ, ◌+◌, ◌≤◌, List, [], ◌++◌, Option, Some, None, length, take, drop, refl, sym, ◌∙◌, ap, subst, arith, append_assoc, length-append, length-take}
use Rattle.std.proofs.Math.Seq.{take-append-add}
use Rattle.std.proofs.lemmas.List.{append-nil, take_at, take-append-le, take-append-drop}
use Rattle.std.specs.Io.KnownBytes.{Consumes, Appends}
use Rattle.ept_base.specs.Devices.{AppendsPrefix}
use borrow.Rule.Slice.PartMut.{put_mid, post_of}

pub consumes_none : (left : Option (List ℕ)) → Consumes left left []
consumes_none None = tt
consumes_none (Some bytes) = refl

pub consumes_both : (a b c : Option (List ℕ)) (first second : List ℕ) → Consumes a b first → Consumes b c second → Consumes a c (first ++ second)
consumes_both None b c first second f s = tt
consumes_both (Some a) None c first second f s = absurd f
consumes_both (Some a) (Some b) None first second f s = absurd s
consumes_both (Some a) (Some b) (Some c) first second f s = f ∙ ap (λ (l : List ℕ). first ++ l) s ∙ sym (append_assoc first second c)

pub appends_none : (written : Option (List ℕ)) → Appends written written []
appends_none None = tt
appends_none (Some bytes) = sym (append-nil bytes)

pub appends_both : (a b c : Option (List ℕ)) (first second : List ℕ) → Appends a b first → Appends b c second → Appends a c (first ++ second)
appends_both None b c first second f s = tt
appends_both (Some a) None c first second f s = absurd f
appends_both (Some a) (Some b) None first second f s = absurd s
appends_both (Some a) (Some b) (Some c) first second f s = s ∙ ap (λ (l : List ℕ). l ++ second) f ∙ append_assoc a first second

-- the prefix of a buffer, after more was read into the part after it
pub front_grown : (buffer new : List ℕ) (filled count k : ℕ) → filled ≤ length buffer → count ≤ length new → take (filled + count) (put_mid filled k buffer new) ≡ take filled buffer ++ take count new
front_grown buffer new filled count k fits within =
    let size : length (take filled buffer) ≡ filled = omega (arith, length-take filled buffer) in
    ap (λ (n : ℕ). take (n + count) (put_mid filled k buffer new)) (sym size)
    ∙ take-append-add (take filled buffer) (new ++ post_of filled k buffer) count
    ∙ ap (λ (l : List ℕ). take filled buffer ++ l) (take-append-le count new (post_of filled k buffer) within)

-- what was written so far of a list of bytes; the rest of the list is still to be written
pub record WrittenSoFar (old now : Option (List ℕ)) (from rest : List ℕ) : Type 0 where
  pub front : List ℕ
  pub split : from ≡ front ++ rest
  pub appended : Appends old now front

pub written_none : (old : Option (List ℕ)) (from : List ℕ) → WrittenSoFar old old from from
written_none old from = record { front = []; split = refl; appended = appends_none old }

pub written_more : (old now next : Option (List ℕ)) (from rest : List ℕ) (n : ℕ) → WrittenSoFar old now from rest → Appends now next (take n rest) → WrittenSoFar old next from (drop n rest)
written_more old now next from rest n so_far more = record {
  front = so_far.front ++ take n rest;
  split = so_far.split ∙ ap (λ (l : List ℕ). so_far.front ++ l) (sym (take-append-drop n rest)) ∙ sym (append_assoc so_far.front (take n rest) (drop n rest));
  appended = appends_both old now next so_far.front (take n rest) so_far.appended more;
}

pub written_all : (old now : Option (List ℕ)) (from rest : List ℕ) → rest ≡ [] → WrittenSoFar old now from rest → Appends old now from
written_all old now from rest none so_far =
    let whole : so_far.front ≡ from = sym (so_far.split ∙ ap (λ (l : List ℕ). so_far.front ++ l) none ∙ append-nil so_far.front) in
    subst (λ (l : List ℕ). Appends old now l) whole so_far.appended

pub written_prefix : (old now next : Option (List ℕ)) (from rest : List ℕ) → next ≡ now → WrittenSoFar old now from rest → AppendsPrefix old next from
written_prefix old now next from rest same so_far =
    let cut : take (length so_far.front) from ≡ so_far.front = ap (λ (l : List ℕ). take (length so_far.front) l) so_far.split ∙ take_at so_far.front rest (length so_far.front) refl in (
      length so_far.front,
      omega (arith, ap length so_far.split, length-append so_far.front rest),
      subst (λ (l : List ℕ). Appends old next l) (sym cut) (subst (λ (o : Option (List ℕ)). Appends old o so_far.front) (sym same) so_far.appended),
    )
