-- Putting the body of the next checkpoint and opening its gate, over every image.
use Rattle.std.proofs.Common.{◌≡◌, ◌≢◌, ◌∙◌, inl, inr, ⊎_elim, ℕ, true, false, List, [], ◌∷◌, refl, sym, subst, ap, Option, Some, None}
use Rattle.ept_base.specs.Files.{Files, SameFiles, SameBut, Puts, StepsBy, changed}
use Rattle.ept_base.specs.Moves.{Moves, IsSettled}
use Rattle.ept_base.proofs.Changing.{changed_same}
use Rattle.ept_base.proofs.Moving.{moves_weaker, moves_both}
use Rattle.ept_ckpt.specs.declared.letter.Letter.{Letter}
use Rattle.ept_ckpt.specs.declared.checkpoint.Checkpoint.{Checkpoint}
use Rattle.ept_ckpt.specs.Body.{body}
use Rattle.ept_ckpt.specs.Facts.{facts}
use Rattle.ept_save.specs.Names.{other, gate_name, body_name}
use Rattle.ept_save.specs.Gates.{IsOpen, Counts}
use Rattle.ept_save.specs.Current.{Current, HasBody, HasOlder, IsCurrent, HasCurrent, Keeps, IsNow, Commits}
use Rattle.ept_save.specs.View.{View, StandsFor, next_letter, IsNewer}
use Rattle.ept_save.proofs.NamesDiffer.{gates-differ, gate-body, body-tile, other-other, one_of_two}
use Rattle.ept_save.proofs.Moving.{moves_where}
use Rattle.ept_save.proofs.Keeping.{body-moved, keeps-both, keeps-body, gate-saved, named-gate}
use Rattle.ept_save.proofs.Standing.{open_or_not, stepped, tells_some, settled_some, settled-stands}

-- a step that keeps the last checkpoint is one of a commit
pub kept-commits : (current : Current) (letter : Letter) (next : Checkpoint) (start a b : Files) → Keeps current a b → Commits current letter next start a b
kept-commits current letter next start a b keeps = record { either = inl keeps; apart = keeps.apart }

-- one after another
pub commits-behind : (current : Current) (letter : Letter) (next : Checkpoint) (start a b c : Files) → Keeps current a b → Commits current letter next start b c → Commits current letter next start a c
commits-behind current letter next start a b c keeps commits = record {
  either = ⊎_elim (λ more. inl (keeps-both current a b c keeps more)) (λ now. inr now) commits.either;
  apart = λ name apart. commits.apart name apart ∙ keeps.apart name apart;
}

-- Files in which the body of the next checkpoint stands, the last one is current, and the tiles read as at the start.
pub record IsReady (current : Current) (next : Checkpoint) (start ready : Files) : Type 0 where
  pub has_body : HasBody ready (next_letter current) next
  pub has_current : HasCurrent current ready
  pub tiles : (name : List ℕ) → name ≢ body_name (next_letter current) → ready name ≡ start name

module _ (current : Current) (next : Checkpoint) (newer : IsNewer current next) (start ready : Files) (is_ready : IsReady current next start ready) where
  abbrev gate : List ℕ
  gate = gate_name (next_letter current)

  older_of : (current : Current) → IsNewer current next → HasCurrent current ready → (b : Files) → ((name : List ℕ) → name ≢ gate_name (next_letter current) → b name ≡ ready name) → Counts b (other (next_letter current)) → HasOlder b (other (next_letter current)) next
  older_of None newer has b same counts =
      absurd (has (other (next_letter None)) (sym (same (gate_name (other (next_letter None))) (λ e. gates-differ (next_letter None) (sym e))) ∙ counts))
  older_of (Some (letter, c)) newer has b same counts =
      subst (λ (l : Letter). HasOlder b l next) (sym (other-other letter)) (record {
        older = c;
        has_body = body-moved letter c ready b (same (body_name letter) (λ e. gate-body (other letter) letter (sym e))) has.has_body;
        before = newer;
      })

  -- with its gate open, it is the current one
  pub open-now : (a b : Files) → SameFiles ready a → SameBut gate a b → IsOpen b gate → IsNow (next_letter current) next start b
  open-now a b is_a same is_open =
      let rest : (name : List ℕ) → name ≢ gate → b name ≡ ready name = λ name apart. same name apart ∙ is_a name in
      record {
        is_current = record {
          counts = is_open;
          has_body = body-moved (next_letter current) next ready b (rest (body_name (next_letter current)) (λ e. gate-body (next_letter current) (next_letter current) (sym e))) is_ready.has_body;
          newest = older_of current newer is_ready.has_current b rest;
        };
        tiles = λ name named. rest name (named-gate (Some (next_letter current, next)) (next_letter current) name named) ∙ is_ready.tiles name (λ e. body-tile (next_letter current) named.1.letter named.1.key (sym e ∙ named.4));
      }

  -- with its gate shut, the last one is
  shut-keeps : (a b : Files) → SameFiles ready a → SameBut gate a b → ¬ IsOpen b gate → Keeps current a b
  shut-keeps a b is_a same shut = record {
    same = stays current shut same;
    tiles = λ name named. same name (named-gate current (next_letter current) name named);
    apart = λ name apart. same name (gate-saved (next_letter current) name apart);
  }
    where
      stays : (current : Current) → ¬ IsOpen b (gate_name (next_letter current)) → SameBut (gate_name (next_letter current)) a b → HasCurrent current a → HasCurrent current b
      stays None shut same none = λ letter counts. elim (one_of_two (next_letter None) letter) [
        | inl is ↦ shut (subst (λ (l : Letter). Counts b l) is counts)
        | inr is ↦ none letter (sym (same (gate_name letter) (λ e. gates-differ (next_letter None) (sym e ∙ ap gate_name is))) ∙ counts)
      ]
      stays (Some (letter, c)) shut same was = record {
        counts = same (gate_name letter) (gates-differ letter) ∙ was.counts;
        has_body = body-moved letter c a b (same (body_name letter) (λ e. gate-body (other letter) letter (sym e))) was.has_body;
        newest = λ counts. absurd (shut counts);
      }

  pub gate-commits : (a b : Files) → SameFiles ready a → SameBut gate a b → Commits current (next_letter current) next start a b
  gate-commits a b is_a same = record {
    either = elim (open_or_not b gate) [ inl is_open ↦ inr (open-now a b is_a same is_open) | inr shut ↦ inl (shut-keeps a b is_a same shut) ];
    apart = λ name apart. same name (gate-saved (next_letter current) name apart);
  }

module _ {D : Type 0} (files : D → Option Files) (may_leave : D → Files → Type 0) (moment : D → ℕ) (image_since : D → ℕ → Files → Type 0) where
  module _ (view : View) (next : Checkpoint) (letter : Letter) (begun : view.begun ≡ true) (is : letter ≡ next_letter view.current) (newer : IsNewer view.current next)
      (old mid : D) (stands : StandsFor view (files old) (may_leave old)) (first : Moves files may_leave moment image_since (SameBut (body_name letter)) old mid) where
    abbrev next_body : List ℕ
    next_body = body_name (next_letter view.current)

    put-body : Moves files may_leave moment image_since (SameBut next_body) old mid
    put-body = subst (λ (l : Letter). Moves files may_leave moment image_since (SameBut (body_name l)) old mid) is first

    -- the body is put
    body-keeps : Moves files may_leave moment image_since (Keeps view.current) old mid
    body-keeps =
        moves_where files may_leave moment image_since (λ f. ¬ Counts f (next_letter view.current)) (SameBut next_body) (Keeps view.current) (λ a b shut same. keeps-body view.current a b shut same) old mid
        (tells_some (λ f. ¬ Counts f (next_letter view.current)) (files old) stands.all stands.told (stands.shut begun))
        (λ image may counts. stands.shut begun (sym ((stands.agrees image may).gates (next_letter view.current)) ∙ counts)) put-body

    pub body-commits : Moves files may_leave moment image_since (Commits view.current (next_letter view.current) next stands.all) old mid
    body-commits = moves_weaker files may_leave moment image_since (Keeps view.current) (Commits view.current (next_letter view.current) next stands.all) (kept-commits view.current (next_letter view.current) next stands.all) old mid body-keeps

    module _ (puts : StepsBy (Puts (body_name letter) (body (facts next))) (files old) (files mid)) (settled : IsSettled (files mid) (may_leave mid)) where
      abbrev ready : (now : Files) × (files mid ≡ Some now) × Puts (body_name letter) (body (facts next)) stands.all now
      ready = stepped (Puts (body_name letter) (body (facts next))) (files old) (files mid) stands.all stands.told puts

      kept_now : (now : Files) × (files mid ≡ Some now) × Keeps view.current stands.all now
      kept_now = stepped (Keeps view.current) (files old) (files mid) stands.all stands.told body-keeps.reads

      same_now : kept_now.0 ≡ ready.0
      same_now = some_same kept_now.0 ready.0 (sym kept_now.1 ∙ ready.1)
        where
          some_same : (one two : Files) → Some one ≡ Some two → one ≡ two
          some_same one two same = cc

      pub is_ready : IsReady view.current next stands.all ready.0
      is_ready = record {
        has_body = subst (λ (l : Letter). HasBody ready.0 l next) is (ready.2 (body_name letter) ∙ changed_same stands.all (body_name letter) (Some (body (facts next))));
        has_current = subst (λ (f : Files). HasCurrent view.current f) same_now (kept_now.2.same stands.has_current);
        tiles = λ name apart. (
            let moved = stepped (SameBut next_body) (files old) (files mid) stands.all stands.told put-body.reads in
            ap (λ (f : Files). f name) (some_same ready.0 moved.0 (sym ready.1 ∙ moved.1)) ∙ moved.2 name apart);
      }
        where
          some_same : (one two : Files) → Some one ≡ Some two → one ≡ two
          some_same one two same = cc

      module _ (new : D) (second : Moves files may_leave moment image_since (SameBut (gate_name letter)) mid new) where
        put-gate : Moves files may_leave moment image_since (SameBut (gate_name (next_letter view.current))) mid new
        put-gate = subst (λ (l : Letter). Moves files may_leave moment image_since (SameBut (gate_name l)) mid new) is second

        pub both-commit : Moves files may_leave moment image_since (Commits view.current (next_letter view.current) next stands.all) old new
        both-commit =
            moves_both files may_leave moment image_since (Keeps view.current) (Commits view.current (next_letter view.current) next stands.all) (Commits view.current (next_letter view.current) next stands.all)
            (commits-behind view.current (next_letter view.current) next stands.all) (kept-commits view.current (next_letter view.current) next stands.all) old mid new body-keeps
            (moves_where files may_leave moment image_since (λ f. SameFiles ready.0 f) (SameBut (gate_name (next_letter view.current))) (Commits view.current (next_letter view.current) next stands.all)
            (gate-commits view.current next newer stands.all ready.0 is_ready) mid new
            (tells_some (λ f. SameFiles ready.0 f) (files mid) ready.0 ready.1 (λ name. refl)) (settled_some (files mid) (may_leave mid) ready.0 ready.1 settled) put-gate)

        pub now-stands : StepsBy (Puts (gate_name letter) (1 ∷ [])) (files mid) (files new) → IsSettled (files new) (may_leave new)
            → StandsFor (record view { current = Some (letter, next); begun = false }) (files new) (may_leave new)
        now-stands opens settled_new =
            let now = stepped (SameBut (gate_name (next_letter view.current))) (files mid) (files new) ready.0 ready.1 put-gate.reads in
            let opened = stepped (Puts (gate_name letter) (1 ∷ [])) (files mid) (files new) ready.0 ready.1 opens in
            let is_open : IsOpen now.0 (gate_name (next_letter view.current)) =
            ap (λ (f : Files). f (gate_name (next_letter view.current))) (some_same now.0 opened.0 (sym now.1 ∙ opened.1))
            ∙ (opened.2 (gate_name (next_letter view.current)) ∙ subst (λ (l : Letter). changed ready.0 (gate_name letter) (Some (1 ∷ [])) (gate_name l) ≡ Some (1 ∷ [])) is (changed_same ready.0 (gate_name letter) (Some (1 ∷ [])))) in
            let became : IsNow (next_letter view.current) next stands.all now.0 = open-now view.current next newer stands.all ready.0 is_ready ready.0 now.0 (λ name. refl) now.2 is_open in
            settled-stands (record view { current = Some (letter, next); begun = false }) (files new) (may_leave new) now.0 now.1
            (subst (λ (l : Letter). IsCurrent now.0 l next) (sym is) became.is_current) (λ wrong. absurd (cc)) settled_new
          where
            some_same : (one two : Files) → Some one ≡ Some two → one ≡ two
            some_same one two same = cc
