-- The result of a table at which workers have ended.
use Rattle.std.proofs.Common.{◌≡◌, ◌∙◌, ℕ, ◌<◌, ◌≤◌, min, true, inl, inr, List, [], ◌∷◌, map, length, take, refl, sym, ap, subst, arith, Option, Some, None, Result, Ok, Err, IfErr, OnOk}
use Rattle.std.proofs.lemmas.Bool.{false≢true}
use Rattle.ept_scan.specs.declared.read_error.ReadError.{ReadError}
use Rattle.ept_scan.specs.declared.read_error.ReadError.TheVariants as read
use Rattle.ept_scan.specs.declared.second_reading.Reader.{Reader}
use Rattle.ept_scan.specs.Reader.{drawn_of, refusal_of, HasFault}
use Rattle.ept_sample.specs.Members.{IsMember}
use Rattle.ept_node.specs.declared.node.Node.{Node}
use Rattle.ept_table.specs.declared.note.Told.{Told}
use Rattle.ept_table.specs.declared.item.Item.{Item}
use Rattle.ept_table.specs.declared.item.Item.TheVariants as items
use Rattle.ept_table.specs.declared.taken.Progress.{Progress}
use Rattle.ept_table.specs.declared.taken.Taken.TheVariants.{Reading}
use Rattle.ept_table.specs.At.{At}
use Rattle.ept_table.specs.Item.{seen, seen_reader, IsFiled}
use Rattle.ept_table.specs.Row.{row}
use Rattle.ept_table.specs.Shown.{FitsReader}
use Rattle.ept_table.specs.Steps.{first_seat}
use Rattle.ept_table.specs.Tells.{IsTooMany, IsLanded, HasNothing, IsEnded, IsSampling}
use Rattle.ept_table.specs.View.{View, NotesFull}
use Rattle.ept_table.proofs.Lists.{at-same, at-zero}
use Rattle.ept_table.proofs.ReaderBack.{reading-same}
use Rattle.ept_table.proofs.Ending.{landed-sampling}
use Rattle.ept_work.specs.declared.error.WorkError.{WorkError}
use Rattle.ept_work.specs.declared.error.WorkError.TheVariants.{SourceFault, SourceChanged, TooManyNodes}
use Rattle.ept_work.specs.Rest.{IsAtRest}
use Rattle.ept_work.specs.Working.{HasWorked, HasEnded, IsCause}

length_map : {X Y : Type 0} (f : X → Y) (xs : List X) → length (map f xs) ≡ length xs
length_map f [] = refl
length_map f (x ∷ xs) = omega (arith, length_map f xs)

none_is : (o : Option ReadError) → ((e : ReadError) → o ≡ Some e → ⊥) → o ≡ None
none_is None never = refl
none_is (Some e) never = absurd (never e refl)

-- a first seat is at rest
pub first-rest : (told : Told) (v : View) (parts : ℕ) → v ≡ first_seat told parts → 0 < parts → IsAtRest told v
first-rest told v parts is some = subst (λ (u : View). IsAtRest told u) (sym is) (record {
  idle = record { share = some; free = refl; undrawn = refl };
  unrefused = refl;
  within = λ c m. absurd m;
})

module _ {F S : Type 0} (held : F → Option (List ℕ)) (whole left : S → Option (List ℕ)) (given faults : S → ℕ) (told : Told) (drawn used : ℕ) (reader : Reader S) (nodes : List (Node F)) (first w : View)
    (ended : IsEnded told drawn (row held whole reader nodes) w) (used_is : used ≡ min drawn told.most) (filed : IsFiled whole left given faults told reader) where
  abbrev progress : Progress
  progress = seen_reader whole reader

  at_first : At (row held whole reader nodes) 0 (Reading progress)
  at_first = at-zero (Reading progress) (map (seen held whole) (map items.Node nodes))

  same : ended.reader ≡ progress
  same = reading-same (at-same ended.at_first at_first)

  pub ends-fits : FitsReader told progress
  ends-fits = subst (λ (r : Progress). FitsReader told r) same ended.fits

  abbrev as_item : Node F → Item F S
  as_item n = items.Node n

  pub ends-slots : length nodes ≡ told.most
  ends-slots = omega (arith, ended.size, length_map (seen held whole) (map as_item nodes), length_map as_item nodes)

  noted : (e : ReadError) → IsMember e w.note.failures → refusal_of reader ≡ Some e
  noted e m = ap (λ (r : Progress). r.failed) (sym same) ∙ ended.noted e m

  -- ---- nothing was refused

  module _ (parts : ℕ) (first_is : first ≡ first_seat told parts) (ends : HasEnded first w) (worked : HasWorked told first w) where
    no_failures : w.note.failures ≡ []
    no_failures = worked.keeps.failures ∙ ap (λ (u : View). u.note.failures) first_is

    not_full : NotesFull w → ⊥
    not_full (inl more) = omega (arith, more, worked.keeps.refused, ap (λ (u : View). u.refused) first_is)
    not_full (inr over) = false≢true (sym (worked.keeps.over ∙ ap (λ (u : View). u.note.over) first_is) ∙ over)

    nothing : HasNothing w
    nothing = record {
      flights = ends.landed;
      gone = worked.keeps.gone ∙ ap (λ (u : View). u.note.gone) first_is;
      not_full = not_full;
      failures = no_failures;
    }

    few : drawn ≤ told.most
    few = omega (arith, λ (over : told.most < drawn). not_full (ended.fills over))

    pub ends-landed : IsLanded told used (row held whole reader nodes)
    ends-landed = subst (λ (n : ℕ). IsLanded told n (row held whole reader nodes)) (let e : drawn ≡ used = omega (arith, used_is, few) in e) (ended.landed nothing)

    pub ends-sampling : told.tells ≡ true → IsSampling told (row held whole reader nodes) (take (drawn_of reader) told.points)
    ends-sampling tells = landed-sampling told used (row held whole reader nodes) progress ends-landed at_first tells

    drawn_same : ended.reader.drawn ≡ drawn_of reader
    drawn_same = ap (λ (r : Progress). r.drawn) same

    pub ends-drawn : drawn_of reader ≡ min told.end told.total
    ends-drawn = elim worked.all [
      | inl all ↦ omega (arith, all, ended.given, drawn_same, ends-fits.end, ends-fits.total)
      | inr all ↦ omega (arith, all, ended.given, drawn_same, ends-fits.end, ends-fits.total)
    ]

    pub ends-sound : refusal_of reader ≡ None
    ends-sound = none_is (refusal_of reader) (λ e is. (
        let m = ended.failed e (ap (λ (r : Progress). r.failed) same ∙ is) in
        let n : IsMember e [] = subst (λ (es : List ReadError). IsMember e es) no_failures m in n))

  -- ---- the causes of a refusal

  pub ends-too-many : IsCause told w TooManyNodes → IsTooMany told
  ends-too-many is = is.1

  pub ends-fault : IsCause told w SourceFault → HasFault faults reader
  ends-fault is = filed.reader.fault (noted read.SourceFault is)

  pub ends-changed : (source number : ℕ) → IsCause told w (SourceChanged source number) → refusal_of reader ≡ Some (read.SourceChanged source number)
  ends-changed source number is = noted (read.SourceChanged source number) is

  pub ends-no-change : told.tells ≡ true → (source number : ℕ) → IsCause told w (SourceChanged source number) → ⊥
  ends-no-change tells source number is = filed.no_change tells source number (noted (read.SourceChanged source number) is)

-- the cause of the refusal that is returned
error_same : {a b : WorkError} → ◌≡◌ {A = Result (Unit {0}) WorkError} (Err a) (Err b) → a ≡ b
error_same {a} {b} q = ap from q
  where
    from : Result (Unit {0}) WorkError → WorkError
    from (Ok u) = a
    from (Err x) = x

pub cause-of : (P : WorkError → Type 0) (r : Result (Unit {0}) WorkError) (e : WorkError) → IfErr r P → r ≡ Err e → P e
cause-of P (Ok u) e is eq = absurd (cc)
cause-of P (Err d) e is eq = subst (λ (x : WorkError). P x) (error_same eq) is

pub all-ok : {P Q : Type 0} (r : Result (Unit {0}) WorkError) → OnOk r P → (P → Q) → OnOk r Q
all-ok (Ok u) p f = f p
all-ok (Err e) p f = tt
