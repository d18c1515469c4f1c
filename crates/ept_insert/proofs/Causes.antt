-- Why records are not inserted.
use Rattle.std.proofs.Common.{◌≡◌, ◌∙◌, ℕ, ◌<◌, true, None, Some, Result, Ok, Err, OnOk, refl, sym, ap, subst}
use Rattle.std.specs.List.{All, Any}
use Rattle.ept_scan.specs.declared.second_reading.Reader.{Reader}
use Rattle.ept_scan.specs.declared.read_error.ReadError.TheVariants as read
use Rattle.ept_scan.specs.Reader.{refusal_of, HasFault}
use Rattle.ept_node.specs.declared.error.NodeError.{NodeError}
use Rattle.ept_node.specs.declared.error.NodeError.TheVariants as node
use Rattle.ept_node.specs.declared.node.Node.{Node}
use Rattle.ept_node.specs.Shown.{file_of, fault_of}
use Rattle.ept_forest.specs.declared.forest.Forest.{Forest}
use Rattle.ept_forest.specs.Slots as forest
use Rattle.ept_table.specs.declared.note.Told.{Told}
use Rattle.ept_table.specs.Tells.{IsTooMany}
use Rattle.ept_work.specs.declared.error.WorkError.{WorkError}
use Rattle.ept_work.specs.declared.error.WorkError.TheVariants as work
use Rattle.ept_insert.specs.declared.error.InsertError.{InsertError}
use Rattle.ept_insert.specs.declared.error.InsertError.TheVariants.{SourceFault, SourceChanged, SpillFault, SpillDamaged, TooManyNodes, Memory}
use Rattle.ept_insert.specs.Errors.{of_work}
use Rattle.ept_insert.specs.Inserting.{IsRefused}

from_too_many : (w : WorkError) → of_work w ≡ TooManyNodes → w ≡ work.TooManyNodes
from_too_many work.SourceFault e = absurd (cc)
from_too_many (work.SourceChanged source number) e = absurd (cc)
from_too_many work.SpillFault e = absurd (cc)
from_too_many (work.SpillDamaged kept found at) e = absurd (cc)
from_too_many work.TooManyNodes e = refl
from_too_many work.Memory e = absurd (cc)

from_fault : (w : WorkError) → of_work w ≡ SourceFault → w ≡ work.SourceFault
from_fault work.SourceFault e = refl
from_fault (work.SourceChanged source number) e = absurd (cc)
from_fault work.SpillFault e = absurd (cc)
from_fault (work.SpillDamaged kept found at) e = absurd (cc)
from_fault work.TooManyNodes e = absurd (cc)
from_fault work.Memory e = absurd (cc)

from_change : (w : WorkError) (source number : ℕ) → of_work w ≡ SourceChanged source number → w ≡ work.SourceChanged source number
from_change work.SourceFault source number e = absurd (cc)
from_change (work.SourceChanged s n) source number e = same s source n number e
  where
    same : (s source n number : ℕ) → SourceChanged s n ≡ SourceChanged source number → work.SourceChanged s n ≡ work.SourceChanged source number
    same s source n number e = let first : s ≡ source = cc in let second : n ≡ number = cc in cc
from_change work.SpillFault source number e = absurd (cc)
from_change (work.SpillDamaged kept found at) source number e = absurd (cc)
from_change work.TooManyNodes source number e = absurd (cc)
from_change work.Memory source number e = absurd (cc)

from_spill : (w : WorkError) → of_work w ≡ SpillFault → w ≡ work.SpillFault
from_spill work.SourceFault e = absurd (cc)
from_spill (work.SourceChanged source number) e = absurd (cc)
from_spill work.SpillFault e = refl
from_spill (work.SpillDamaged kept found at) e = absurd (cc)
from_spill work.TooManyNodes e = absurd (cc)
from_spill work.Memory e = absurd (cc)

from_damage : (w : WorkError) (kept found at : ℕ) → of_work w ≡ SpillDamaged kept found at → w ≡ work.SpillDamaged kept found at
from_damage work.SourceFault kept found at e = absurd (cc)
from_damage (work.SourceChanged source number) kept found at e = absurd (cc)
from_damage work.SpillFault kept found at e = absurd (cc)
from_damage (work.SpillDamaged k f a) kept found at e = same k f a kept found at e
  where
    same : (k f a kept found at : ℕ) → SpillDamaged k f a ≡ SpillDamaged kept found at → work.SpillDamaged k f a ≡ work.SpillDamaged kept found at
    same k f a kept found at e = let first : k ≡ kept = cc in let second : f ≡ found = cc in let third : a ≡ at = cc in cc
from_damage work.TooManyNodes kept found at e = absurd (cc)
from_damage work.Memory kept found at e = absurd (cc)

refusal_same : {a b : WorkError} → ◌≡◌ {A = Result (Unit {0}) WorkError} (Err a) (Err b) → a ≡ b
refusal_same {a} {b} q = ap from q
  where
    from : Result (Unit {0}) WorkError → WorkError
    from (Ok u) = a
    from (Err x) = x

-- workers were refused for this reason
module _ {F S : Type 0} (told : Told) (node_faults : F → ℕ) (faults : S → ℕ) (nodes : Forest F) (reader : Reader S) (result : Result (Unit {0}) WorkError) where
  abbrev broken_by : NodeError → Type 0
  broken_by why = Any (λ (n : Node F). fault_of n ≡ Some why) (forest.nodes_of nodes)

  abbrev failed : Type 0
  failed = Any (λ (n : Node F). (fault_of n ≡ Some node.SpillFault) × (0 < node_faults (file_of n))) (forest.nodes_of nodes)

  abbrev whole : Type 0
  whole = All (λ (n : Node F). fault_of n ≡ None) (forest.nodes_of nodes)

  as_fault : (w : WorkError) (e : InsertError) → result ≡ Err w → e ≡ of_work w → result ≡ Err work.SpillFault → e ≡ SpillFault
  as_fault w e is told_as was = told_as ∙ ap of_work (refusal_same (sym is ∙ was))

  as_damage : (w : WorkError) (e : InsertError) (kept found at : ℕ) → result ≡ Err w → e ≡ of_work w → result ≡ Err (work.SpillDamaged kept found at) → e ≡ SpillDamaged kept found at
  as_damage w e kept found at is told_as was = told_as ∙ ap of_work (refusal_same (sym is ∙ was))

  pub worked_in_vain : (w : WorkError) (e : InsertError) → result ≡ Err w → e ≡ of_work w → (result ≡ Err work.TooManyNodes → IsTooMany told) → (result ≡ Err work.SourceFault → HasFault faults reader)
      → ((source number : ℕ) → result ≡ Err (work.SourceChanged source number) → refusal_of reader ≡ Some (read.SourceChanged source number)) → (told.tells ≡ true → (source number : ℕ) → result ≡ Err (work.SourceChanged source number) → ⊥)
      → (result ≡ Err work.SpillFault → failed) → ((kept found at : ℕ) → result ≡ Err (work.SpillDamaged kept found at) → broken_by (node.SpillDamaged kept found at)) → (told.tells ≡ true → (kept found at : ℕ) → result ≡ Err (work.SpillDamaged kept found at) → ⊥)
      → ((result ≡ Err work.SpillFault → ⊥) → ((kept found at : ℕ) → result ≡ Err (work.SpillDamaged kept found at) → ⊥) → whole)
      → IsRefused told node_faults faults nodes reader e
  worked_in_vain w e is told_as too_many fault changed no_change spill damaged no_damage unbroken = record {
    too_many = λ same. too_many (is ∙ ap (λ (v : WorkError). Err v) (from_too_many w (sym told_as ∙ same)));
    fault = λ same. fault (is ∙ ap (λ (v : WorkError). Err v) (from_fault w (sym told_as ∙ same)));
    changed = λ source number same. changed source number (is ∙ ap (λ (v : WorkError). Err v) (from_change w source number (sym told_as ∙ same)));
    no_change = λ tells source number same. no_change tells source number (is ∙ ap (λ (v : WorkError). Err v) (from_change w source number (sym told_as ∙ same)));
    spill = λ same. spill (is ∙ ap (λ (v : WorkError). Err v) (from_spill w (sym told_as ∙ same)));
    damaged = λ kept found at same. damaged kept found at (is ∙ ap (λ (v : WorkError). Err v) (from_damage w kept found at (sym told_as ∙ same)));
    no_damage = λ tells kept found at same. no_damage tells kept found at (is ∙ ap (λ (v : WorkError). Err v) (from_damage w kept found at (sym told_as ∙ same)));
    none_broken = λ no_fault no_damage. unbroken (λ was. no_fault (as_fault w e is told_as was)) (λ kept found at was. no_damage kept found at (as_damage w e kept found at is told_as was));
  }

-- memory ran out, and no node is broken
pub lacked_memory : {F S : Type 0} (told : Told) (node_faults : F → ℕ) (faults : S → ℕ) (nodes : Forest F) (reader : Reader S) → All (λ (n : Node F). fault_of n ≡ None) (forest.nodes_of nodes) → IsRefused told node_faults faults nodes reader Memory
lacked_memory told node_faults faults nodes reader unbroken = record {
  too_many = λ e. absurd (let x : Memory ≡ TooManyNodes = e in cc);
  fault = λ e. absurd (let x : Memory ≡ SourceFault = e in cc);
  changed = λ source number e. absurd (let x : Memory ≡ SourceChanged source number = e in cc);
  no_change = λ tells source number e. let x : Memory ≡ SourceChanged source number = e in cc;
  spill = λ e. absurd (let x : Memory ≡ SpillFault = e in cc);
  damaged = λ was found at e. absurd (let x : Memory ≡ SpillDamaged was found at = e in cc);
  no_damage = λ tells was found at e. let x : Memory ≡ SpillDamaged was found at = e in cc;
  none_broken = λ no_fault no_damage. unbroken;
}

pub never_refused : {X E : Type 0} {r : Result X E} {x : X} {e : E} → r ≡ Ok x → r ≡ Err e → ⊥
never_refused {X} {E} {r} {x} {e} is was = let both : ◌≡◌ {A = Result X E} (Ok x) (Err e) = sym is ∙ was in cc

pub was_ok : {P X E : Type 0} {r : Result X E} {x : X} → r ≡ Ok x → OnOk r P → P
was_ok {P} is h = subst (λ r. OnOk r P) is h
