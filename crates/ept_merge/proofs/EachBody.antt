-- The bodies of the parts, one after another.
use Rattle.std.proofs.Common.{◌≡◌, ◌≢◌, ◌∙◌, ◌⊎◌, inl, inr, ℕ, ◌+◌, ◌<◌, List, [], ◌∷◌, ◌++◌, take, drop, drop-cons, length, get_or, sym, ap, subst, add-one, Option, Some, None}
use Rattle.std.specs.Prelude.{Vec}
use Rattle.std.specs.declared.alloc.Global.{Global}
use Rattle.std.proofs.lemmas.List.{map-append, take-append-drop}
use Rattle.ept_base.specs.Files.{Files, Tells}
use Rattle.ept_point.specs.declared.layout.Layout.TheVariants.{New}
use Rattle.ept_sample.specs.Members.{IsMember}
use Rattle.ept_sample.proofs.Members.{IsMember-append}
use Rattle.ept_ckpt.specs.declared.checkpoint.Checkpoint.{Checkpoint}
use Rattle.ept_ckpt.specs.Body.{body}
use Rattle.ept_ckpt.specs.Facts.{facts}
use Rattle.ept_ckpt.specs.Versions.{layout_of}
use Rattle.ept_save.specs.Gates.{IsOpen}
use Rattle.ept_part.specs.Names.{part_gate, part_body}
use Rattle.ept_plan.specs.declared.plan.Plan.{Plan}
use Rattle.ept_merge.specs.declared.error.MergeError.{MergeError}
use Rattle.ept_merge.specs.declared.error.MergeError.TheVariants.{NoPart, PartDamaged}
use Rattle.ept_merge.specs.declared.bodies.PartBody.{PartBody}
use Rattle.ept_merge.specs.Errors.{IsStores}
use Rattle.ept_merge.specs.Merging.{HasBody, IsBroken}
use Rattle.ept_merge.specs.Joining.{IsLike, octants_of, bodies_in}
use Rattle.ept_merge.specs.Putting.{HoldsBytes, AreLike, HasBodyLike, HasBodies, IsBodyFault, IsBodiesFault}
use Rattle.ept_merge.proofs.Reading.{tells-always, tells-both}

-- ---- one more

bodies_more : (files : Files) (plan : Plan) (parts : List ℕ) (bodies : List Checkpoint) (octants : ℕ) (c : Checkpoint) → HasBodies files plan parts bodies → HasBodyLike files plan octants c → HasBodies files plan (parts ++ octants ∷ []) (bodies ++ c ∷ [])
bodies_more files plan [] [] octants c all one = (one, tt)
bodies_more files plan [] (b ∷ bodies) octants c all one = absurd all
bodies_more files plan (p ∷ parts) [] octants c all one = absurd all
bodies_more files plan (p ∷ parts) (b ∷ bodies) octants c all one = (all.0, bodies_more files plan parts bodies octants c all.1 one)

pub bodies-none : (files : Option Files) (plan : Plan) → Tells (λ all. HasBodies all plan [] []) files
bodies-none files plan = tells-always _ (λ all. tt) files

pub bodies-more : (files : Option Files) (plan : Plan) (parts : List ℕ) (bodies : List PartBody) (octants : ℕ) (part : PartBody) → Tells (λ all. HasBodies all plan parts (bodies_in bodies)) files → Tells (λ all. HasBody all octants part.body) files → IsLike plan.kept plan.counts part.body → Tells (λ all. HasBodies all plan (parts ++ octants ∷ []) (bodies_in (bodies ++ part ∷ []))) files
bodies-more files plan parts bodies octants part before one like =
    tells-both _ _ _ (λ all have has. (
    subst (λ (w : List Checkpoint). HasBodies all plan (parts ++ octants ∷ []) w) (sym (map-append (λ (p : PartBody). p.body) bodies (part ∷ [])))
    (bodies_more all plan parts (bodies_in bodies) octants part.body have (has, like)))) files before one

pub octants-more : (bodies : List PartBody) (part : PartBody) (parts : List ℕ) (octants : ℕ) → octants_of bodies ≡ parts → part.octants ≡ octants → octants_of (bodies ++ part ∷ []) ≡ parts ++ octants ∷ []
octants-more bodies part parts octants so one =
    map-append (λ (p : PartBody). p.octants) bodies (part ∷ [])
    ∙ (ap (λ (w : List ℕ). w ++ part.octants ∷ []) so ∙ ap (λ (o : ℕ). parts ++ o ∷ []) one)

-- ---- the first fault

pub split-at : (parts : List ℕ) (i : ℕ) → i < length parts → parts ≡ take i parts ++ get_or parts i 0 ∷ drop (i + 1) parts
split-at parts i low =
    sym (take-append-drop i parts)
    ∙ ap (λ (w : List ℕ). take i parts ++ w) (drop-cons parts i 0 low ∙ ap (λ (k : ℕ). get_or parts i 0 ∷ drop k parts) (sym (add-one i)))

pub first-fault : (files : Option Files) (plan : Plan) (parts : List ℕ) (i : ℕ) (bodies : List PartBody) (e : MergeError) → i < length parts → Tells (λ all. HasBodies all plan (take i parts) (bodies_in bodies)) files → Tells (λ all. IsBodyFault all plan (get_or parts i 0) e) files → Tells (λ all. IsBodiesFault all plan parts e) files
first-fault files plan parts i bodies e low have fault =
    tells-both _ _ _ (λ all before its. inr (record {
      before = take i parts;
      octants = get_or parts i 0;
      later = drop (i + 1) parts;
      among = split-at parts i low;
      bodies = bodies_in bodies;
      have = before;
      fault = its;
    })) files have fault

pub stores-fault : (files : Option Files) (plan : Plan) (octants : ℕ) (e : MergeError) → IsStores e → Tells (λ all. IsBodyFault all plan octants e) files
stores-fault files plan octants e (inl is) = subst (λ (w : MergeError). Tells (λ all. IsBodyFault all plan octants w) files) (sym is) (tells-always _ (λ all. tt) files)
stores-fault files plan octants e (inr is) = subst (λ (w : MergeError). Tells (λ all. IsBodyFault all plan octants w) files) (sym is) (tells-always _ (λ all. tt) files)

-- what a body's refusal says
pub body-fault : (files : Option Files) (plan : Plan) (octants : ℕ) (e : MergeError) → ((e ≡ NoPart octants) ⊎ (e ≡ PartDamaged octants None) ⊎ IsStores e) → (e ≡ NoPart octants → Tells (λ all. IsBodyFault all plan octants (NoPart octants)) files) → (e ≡ PartDamaged octants None → Tells (λ all. IsBodyFault all plan octants (PartDamaged octants None)) files) → Tells (λ all. IsBodyFault all plan octants e) files
body-fault files plan octants e (inl is) none broken = subst (λ (w : MergeError). Tells (λ all. IsBodyFault all plan octants w) files) (sym is) (none is)
body-fault files plan octants e (inr (inl is)) none broken = subst (λ (w : MergeError). Tells (λ all. IsBodyFault all plan octants w) files) (sym is) (broken is)
body-fault files plan octants e (inr (inr is)) none broken = stores-fault files plan octants e is

-- ---- each is like the plan

pub like-none : (plan : Plan) → AreLike plan []
like-none plan part m = absurd m

pub like-more : (plan : Plan) (bodies : List PartBody) (part : PartBody) → AreLike plan bodies → IsLike plan.kept plan.counts part.body → AreLike plan (bodies ++ part ∷ [])
like-more plan bodies part all one p m = by_place (IsMember-append p bodies (part ∷ []) m)
  where
    by_place : IsMember p bodies ⊎ IsMember p (part ∷ []) → IsLike plan.kept plan.counts p.body
    by_place (inl l) = all p l
    by_place (inr (inl is)) = subst (λ (w : PartBody). IsLike plan.kept plan.counts w.body) is one
    by_place (inr (inr none)) = absurd none

-- ---- what a body is not

pub no-body : (files : Option Files) (octants : ℕ) (found : Option (Vec ℕ Global)) → found ≡ None → Tells (λ all. IsOpen all (part_gate octants)) files → Tells (HoldsBytes (part_body octants) found) files → Tells (λ all. IsBroken all octants) files
no-body files octants found none opened holds =
    tells-both (λ all. IsOpen all (part_gate octants)) (HoldsBytes (part_body octants) found) (λ all. IsBroken all octants) (λ all open_now bytes. record {
      opened = open_now;
      no_body = λ c newest has. (let here : all (part_body octants) ≡ None = subst (λ (o : Option (Vec ℕ Global)). HoldsBytes (part_body octants) o all) none bytes in let wrong : None ≡ Some (body (facts c)) = sym here ∙ has in cc);
    }) files opened holds

pub bad-body : (files : Option Files) (octants : ℕ) (bytes : List ℕ) → ((c : Checkpoint) → layout_of c.version ≡ New → bytes ≢ body (facts c)) → Tells (λ all. IsOpen all (part_gate octants)) files → Tells (λ all. all (part_body octants) ≡ Some bytes) files → Tells (λ all. IsBroken all octants) files
bad-body files octants bytes bad opened holds =
    tells-both (λ all. IsOpen all (part_gate octants)) (λ all. all (part_body octants) ≡ Some bytes) (λ all. IsBroken all octants) (λ all open_now here. record {
      opened = open_now;
      no_body = λ c newest has. bad c newest (some-same bytes (body (facts c)) (sym here ∙ has));
    }) files opened holds
  where
    some-same : (a b : List ℕ) → Some a ≡ Some b → a ≡ b
    some-same a b same = cc

pub good-body : (files : Option Files) (octants : ℕ) (bytes : List ℕ) (c : Checkpoint) → bytes ≡ body (facts c) → layout_of c.version ≡ New → Tells (λ all. IsOpen all (part_gate octants)) files → Tells (λ all. all (part_body octants) ≡ Some bytes) files → Tells (λ all. HasBody all octants c) files
good-body files octants bytes c is newest opened holds =
    tells-both (λ all. IsOpen all (part_gate octants)) (λ all. all (part_body octants) ≡ Some bytes) (λ all. HasBody all octants c) (λ all open_now here. record { opened = open_now; body = here ∙ ap (λ (w : List ℕ). Some w) is; newest = newest }) files opened holds
