-- What a session and its link have done together.
use Rattle.std.proofs.Common.{◌≡◌, ◌≢◌, ◌∙◌, ◌-◌, ◌<◌, ◌≤◌, ◌⊎◌, inl, inr, ℕ, List, [], ◌∷◌, ◌++◌, length, take, drop, Bool, true, false, ◌||◌, Option, Some, None, refl, sym, ap, subst, arith, append_assoc, append-nil, length-append, length-take-le, length-drop}
use Rattle.std.specs.List.{AllByRecursion}
use Rattle.std.proofs.lemmas.List.{take-append-le, take-append-drop}
use Rattle.std.proofs.Math.Path.{fun_ext}
use Rattle.std.proofs.Math.Seq.{take-length}
use Rattle.ept_base.specs.Causes.{Rose}
use Rattle.ept_base.specs.Files.{Files, SameFiles, Tells, StepsBy}
use Rattle.ept_base.specs.Links.{Wire, Reads, FailsToRead, Writes}
use Rattle.ept_base.specs.Moves.{Moves}
use Rattle.ept_base.proofs.Moving.{moves_both}
use Rattle.ept_conn.specs.declared.hand.Hand.{Hand}
use Rattle.ept_query.specs.declared.query_error.QueryFile.{QueryFile}
use Rattle.ept_conn.specs.declared.hand.Hand.TheVariants.{Empty}
use Rattle.ept_conn.specs.declared.end.Fault.{Fault}
use Rattle.ept_conn.specs.declared.end.Fault.TheVariants as fault
use Rattle.ept_conn.specs.declared.end.End.{End}
use Rattle.ept_conn.specs.declared.end.End.TheVariants as end
use Rattle.ept_conn.specs.declared.end.Want.TheVariants as want
use Rattle.ept_conn.specs.Answers.{Served}
use Rattle.ept_conn.specs.Whole.{HasAnswered}
use Rattle.ept_conn.specs.Served.{IsServed, IsSentOf}
use Rattle.ept_conn.specs.State.{State, started, wants, want_of, feeds}
use Rattle.ept_conn.specs.Works.{HasPlanOf, IsDamagedIn, IsDamaged}
use Rattle.ept_conn.specs.Ends.{EndsWell}
use Rattle.ept_conn.specs.SessionCalls.{HasWorked}
use Rattle.ept_conn.specs.Serving.{IsAnsweredAt, Passes, IsServedOver}
use Rattle.ept_conn.specs.Conversation.{Converses, HasFailed, HasCauseFor, rank}
use Rattle.ept_conn.proofs.Wanting.{read-parts, write-some}
use Rattle.ept_conn.proofs.Falling.{written-falls, failed-falls}
use Rattle.ept_conn.proofs.Histories.{has-wider, start-has, fed-has, worked-has, sent-has, failed-has, ends-has, reads-has, never-damaged}

-- ---- what is visible

-- a step and what is visible afterwards make another step
pub steps-with : {X : Type 0} (R S : X → X → Type 0) (Q : X → Type 0) (old new : Option X) → StepsBy R old new → Tells Q new → ((a b : X) → R a b → Q b → S a b) → StepsBy S old new
steps-with R S Q None None step told f = tt
steps-with R S Q None (Some b) step told f = absurd step
steps-with R S Q (Some a) None step told f = absurd step
steps-with R S Q (Some a) (Some b) step told f = f a b step told

pub tells-when : {X : Type 0} (A : Type 0) (Q : X → Type 0) (o : Option X) → (A → Tells Q o) → Tells (λ x. A → Q x) o
tells-when A Q None f = tt
tells-when A Q (Some x) f = f

pub steps-same : {X : Type 0} (S : X → X → Type 0) (old new : Option X) → new ≡ old → ((a : X) → S a a) → StepsBy S old new
steps-same {X} S old new is f = subst (λ (o : Option X). StepsBy S old o) (sym is) (same old)
  where
    same : (o : Option X) → StepsBy S o o
    same None = tt
    same (Some a) = f a

pub taken-none : (n : ℕ) (into : List ℕ) → n ≤ length into → take n into ≡ [] → n ≡ 0
taken-none n into within none =
    let len : length (take n into) ≡ n = length-take-le n into within in
    let zero_len : length (take n into) ≡ 0 = ap length none in
    sym len ∙ zero_len

-- ---- reads so far

-- more bytes and more text at the end change nothing
answered-longer : (served : Served) (old : Wire) (bytes text more behind : List ℕ) (at : ℕ × ℕ) → IsAnsweredAt served old bytes text at → IsAnsweredAt served old (bytes ++ more) (text ++ behind) at
answered-longer served old bytes text more behind at is = record {
  came = is.came;
  went = is.went;
  within = (let longer = length-append bytes more in let w = is.within in omega (arith, longer, w));
  up_to = (let longer = length-append text behind in let w = is.up_to in omega (arith, longer, w));
  taken = is.taken;
  written = is.written;
  answers = subst (λ (w : List ℕ). HasAnswered served w (take is.went (text ++ behind))) (sym (take-append-le is.came bytes more is.within)) (subst (λ (w : List ℕ). HasAnswered served (take is.came bytes) w) (sym (take-append-le is.went text behind is.up_to)) is.answers);
}

all-longer : (served : Served) (old : Wire) (bytes text more behind : List ℕ) (reads : List (ℕ × ℕ)) → AllByRecursion (IsAnsweredAt served old bytes text) reads → AllByRecursion (IsAnsweredAt served old (bytes ++ more) (text ++ behind)) reads
all-longer served old bytes text more behind [] all = tt
all-longer served old bytes text more behind (at ∷ reads) all =
    (answered-longer served old bytes text more behind at all.0, all-longer served old bytes text more behind reads all.1)

all-push : {X : Type 0} (P : X → Type 0) (xs : List X) (x : X) → AllByRecursion P xs → P x → AllByRecursion P (xs ++ x ∷ [])
all-push P [] x all one = (one, tt)
all-push P (y ∷ ys) x all one = (all.0, all-push P ys x all.1 one)

-- a read at which each turn had its response
answered-now : (served : Served) (old now : Wire) (bytes text : List ℕ) → now.taken ≡ old.taken ++ bytes → now.written ≡ old.written ++ text → HasAnswered served bytes text → IsAnsweredAt served old bytes text (length now.taken, length now.written)
answered-now served old now bytes text taken written answers = record {
  came = length bytes;
  went = length text;
  within = omega arith;
  up_to = omega arith;
  taken = ap length taken ∙ length-append old.taken bytes;
  written = ap length written ∙ length-append old.written text;
  answers = subst (λ (w : List ℕ). HasAnswered served w (take (length text) text)) (sym (take-length bytes)) (subst (HasAnswered served bytes) (sym (take-length text)) answers);
}

-- ---- what passes

pub passes-none : (served : Served) (old : Wire) → Passes served old old [] []
passes-none served old = record {
  taken = sym (append-nil old.taken);
  written = sym (append-nil old.written);
  reads = [];
  reads_are = sym (append-nil old.reads);
  each = tt;
}

passes-read : (served : Served) (old now next : Wire) (bytes text piece : List ℕ) → Passes served old now bytes text → Reads piece now next → HasAnswered served bytes text → Passes served old next (bytes ++ piece) text
passes-read served old now next bytes text piece p r answers = record {
  taken = r.taken ∙ ap (λ (w : List ℕ). w ++ piece) p.taken ∙ append_assoc old.taken bytes piece;
  written = r.written ∙ p.written;
  reads = p.reads ++ (length now.taken, length now.written) ∷ [];
  reads_are = r.reads ∙ ap (λ (w : List (ℕ × ℕ)). w ++ (length now.taken, length now.written) ∷ []) p.reads_are ∙ append_assoc old.reads p.reads ((length now.taken, length now.written) ∷ []);
  each = all-push (IsAnsweredAt served old (bytes ++ piece) text) p.reads (length now.taken, length now.written) (kept p.each) (kept-one (answered-now served old now bytes text p.taken p.written answers));
}
  where
    kept : AllByRecursion (IsAnsweredAt served old bytes text) p.reads → AllByRecursion (IsAnsweredAt served old (bytes ++ piece) text) p.reads
    kept all = subst (λ (w : List ℕ). AllByRecursion (IsAnsweredAt served old (bytes ++ piece) w) p.reads) (append-nil text) (all-longer served old bytes text piece [] p.reads all)

    kept-one : IsAnsweredAt served old bytes text (length now.taken, length now.written) → IsAnsweredAt served old (bytes ++ piece) text (length now.taken, length now.written)
    kept-one one = subst (λ (w : List ℕ). IsAnsweredAt served old (bytes ++ piece) w (length now.taken, length now.written)) (append-nil text) (answered-longer served old bytes text piece [] (length now.taken, length now.written) one)

passes-write : (served : Served) (old now next : Wire) (bytes text first : List ℕ) → Passes served old now bytes text → Writes first now next → Passes served old next bytes (text ++ first)
passes-write served old now next bytes text first p w = record {
  taken = w.taken ∙ p.taken;
  written = w.written ∙ ap (λ (x : List ℕ). x ++ first) p.written ∙ append_assoc old.written text first;
  reads = p.reads;
  reads_are = w.reads ∙ p.reads_are;
  each = subst (λ (x : List ℕ). AllByRecursion (IsAnsweredAt served old x (text ++ first)) p.reads) (append-nil bytes) (all-longer served old bytes text [] first p.reads p.each);
}

-- ---- the session and its link

pub start-converses : (served : Served) (reason : Type 0) (old : Wire) → Converses served reason old started old
start-converses served reason old = record {
  bytes = [];
  text = [];
  passes = passes-none served old;
  has = start-has served reason;
  closed = λ closed. absurd cc;
}

closed-falsely : (b : Bool) → b ≡ false → b ≡ true → ⊥
closed-falsely true is closed = absurd cc
closed-falsely false is closed = absurd cc

shut : (closed ended : Bool) → closed || ended ≡ false → closed ≡ false
shut true ended is = absurd cc
shut false ended is = refl

fed-closed : (old new : State) (piece : List ℕ) (left : List ℕ) → old.closed ≡ false → (new ≡ feeds old piece) ⊎ (new ≡ record old { fault = Some fault.Memory }) → (piece ≡ [] → left ≡ []) → new.closed ≡ true → left ≡ []
fed-closed old new [] left still (inl is) none closed = none refl
fed-closed old new (b ∷ piece) left still (inl is) none closed =
    absurd (closed-falsely old.closed still (sym (ap (λ (s : State). s.closed) is) ∙ closed))
fed-closed old new piece left still (inr is) none closed =
    absurd (closed-falsely old.closed still (sym (ap (λ (s : State). s.closed) is) ∙ closed))

pub read-converses : (served : Served) (reason : Type 0) (start old next : Wire) (state new : State) (piece : List ℕ) → Converses served reason start state old → want_of state ≡ want.Read → Reads piece old next → (piece ≡ [] → next.left ≡ []) → (new ≡ feeds state piece) ⊎ (new ≡ record state { fault = Some fault.Memory }) → Converses served reason start new next
read-converses served reason start old next state new piece c read reads none is = record {
  bytes = c.bytes ++ piece;
  text = c.text;
  passes = passes-read served start old next c.bytes c.text piece c.passes reads (reads-has served reason c.bytes c.text state c.has read);
  has = fed-has served reason c.bytes c.text piece state new c.has read is;
  closed = fed-closed state new piece next.left (shut state.closed state.held.ended (read-parts state read).1) is none;
}

pub unread-converses : (served : Served) (reason : Type 0) (start old next : Wire) (state new : State) → Converses served reason start state old → want_of state ≡ want.Read → FailsToRead old next → new ≡ record state { hand = Empty; out = []; fault = Some fault.Link } → Converses served reason start new next
unread-converses served reason start old next state new c read (inl reads) is =
    let passes = passes-read served start old next c.bytes c.text [] c.passes reads (reads-has served reason c.bytes c.text state c.has read) in record {
      bytes = c.bytes;
      text = c.text;
      passes = subst (λ (w : List ℕ). Passes served start next w c.text) (append-nil c.bytes) passes;
      has = failed-has served reason c.bytes c.text state new c.has is;
      closed = λ closed. absurd (closed-falsely state.closed (shut state.closed state.held.ended (read-parts state read).1) (sym (ap (λ (s : State). s.closed) is) ∙ closed));
    }
unread-converses served reason start old next state new c read (inr same) is = record {
  bytes = c.bytes;
  text = c.text;
  passes = subst (λ (w : Wire). Passes served start w c.bytes c.text) (sym same) c.passes;
  has = failed-has served reason c.bytes c.text state new c.has is;
  closed = λ closed. absurd (closed-falsely state.closed (shut state.closed state.held.ended (read-parts state read).1) (sym (ap (λ (s : State). s.closed) is) ∙ closed));
}

pub work-converses : (files : Files) (served : Served) (reason wider : Type 0) (start old : Wire) (state new : State) → IsSentOf files served → (reason → wider) → Converses served reason start state old → want_of state ≡ want.Work → new.closed ≡ state.closed → HasWorked files served wider state new → Converses served wider start new old
work-converses files served reason wider start old state new is why c work same worked = record {
  bytes = c.bytes;
  text = c.text;
  passes = c.passes;
  has = worked-has files served wider c.bytes c.text state new is (has-wider served reason wider c.bytes c.text state why c.has) work worked;
  closed = λ closed. c.closed (sym same ∙ closed);
}

pub write-converses : (served : Served) (reason : Type 0) (start old next : Wire) (state new : State) (n : ℕ) → Converses served reason start state old → want_of state ≡ want.Write → Writes (take n state.out) old next → new ≡ record state { out = drop n state.out } → Converses served reason start new next
write-converses served reason start old next state new n c write writes is =
    let out_is : new.out ≡ drop n state.out = ap (λ (s : State). s.out) is in
    let split : state.out ≡ take n state.out ++ new.out = sym (take-append-drop n state.out) ∙ ap (λ (w : List ℕ). take n state.out ++ w) (sym out_is) in
    let now : new ≡ record state { out = new.out } = is ∙ ap (λ (w : List ℕ). record state { out = w }) (sym out_is) in record {
      bytes = c.bytes;
      text = c.text ++ take n state.out;
      passes = passes-write served start old next c.bytes c.text (take n state.out) c.passes writes;
      has = sent-has served reason c.bytes c.text (take n state.out) state new c.has write split now;
      closed = λ closed. sym-left writes.left (c.closed (sym (ap (λ (s : State). s.closed) is) ∙ closed));
    }
  where
    sym-left : {a b : List ℕ} → a ≡ b → b ≡ [] → a ≡ []
    sym-left same none = same ∙ none

pub unwritten-converses : (served : Served) (reason : Type 0) (start old next : Wire) (state new : State) → Converses served reason start state old → next ≡ old → new ≡ record state { hand = Empty; out = []; fault = Some fault.Link } → Converses served reason start new next
unwritten-converses served reason start old next state new c same is =
    let now : Converses served reason start new old = record {
      bytes = c.bytes;
      text = c.text;
      passes = c.passes;
      has = failed-has served reason c.bytes c.text state new c.has is;
      closed = λ closed. c.closed (sym (ap (λ (s : State). s.closed) is) ∙ closed);
    } in
    subst (Converses served reason start new) (sym same) now

pub served-over : (served : Served) (reason : Type 0) (start now : Wire) (state : State) (ends : End) → Converses served reason start state now → want_of state ≡ want.End ends → IsServedOver served reason ends start now
served-over served reason start now state ends c is = record {
  bytes = c.bytes;
  text = c.text;
  passes = c.passes;
  ended = ends-has served reason (now.left ≡ []) c.bytes c.text state ends c.closed c.has is;
}

-- a connection that was served over a visible wire ends well, if each plan and each tile is there
pub ends-well : (files : Files) (served : Served) (reason link store : Type 0) (old new : Option Wire) (ends : End) → IsServed files served → old ≢ None → StepsBy (IsServedOver served reason ends) old new
    → (ends ≡ end.LinkFault → link) → (ends ≡ end.StoreFault → store) → EndsWell ends link store
ends-well files served reason link store old new end.Closed is wired over links stores = tt
ends-well files served reason link store old new end.LinkFault is wired over links stores = links refl
ends-well files served reason link store old new end.StoreFault is wired over links stores = stores refl
ends-well files served reason link store None new (end.Damaged file) is wired over links stores = wired refl
ends-well files served reason link store (Some wire) None (end.Damaged file) is wired over links stores = over
ends-well files served reason link store (Some wire) (Some later) (end.Damaged file) is wired over links stores =
    never-damaged files served reason (later.left ≡ []) over.bytes over.text file is over.ended
ends-well files served reason link store old new end.Memory is wired over links stores = tt

-- ---- which ends are fixed

pub read-no-store : (old new : State) (piece : List ℕ) → want_of old ≡ want.Read → (new ≡ feeds old piece) ⊎ (new ≡ record old { fault = Some fault.Memory }) → ¬ (new.fault ≡ Some fault.Store)
read-no-store old new [] read (inl is) stores =
    let going = (read-parts old read).0.going in
    let same : new.fault ≡ old.fault = ap (λ (s : State). s.fault) is in
    absurd cc
read-no-store old new (b ∷ piece) read (inl is) stores =
    let going = (read-parts old read).0.going in
    let same : new.fault ≡ old.fault = ap (λ (s : State). s.fault) is in
    absurd cc
read-no-store old new piece read (inr is) stores =
    let same : new.fault ≡ Some fault.Memory = ap (λ (s : State). s.fault) is in
    absurd cc

-- ---- what is written in a row

-- some of what was to be sent was sent, or the link failed
pub record HasWritten (old new : State) (before now : ℕ) : Type 0 where
  pub later : before ≤ now
  pub so_far : (new ≡ record old { out = new.out }) ⊎ (HasFailed old new × Rose before now)

pub rose-earlier : (a b c : ℕ) → a ≤ b → Rose b c → Rose a c
rose-earlier a b c less rose = omega (arith, less, rose)

pub rose-later : (a b c : ℕ) → Rose a b → b ≤ c → Rose a c
rose-later a b c rose more = omega (arith, more, rose)

pub written-none : (state : State) (before : ℕ) → HasWritten state state before before
written-none state before = record { later = omega arith; so_far = inl refl }

written-on : (old now new : State) (before mid after : ℕ) → before ≤ mid → mid ≤ after → want_of now ≡ want.Write → (now ≡ record old { out = now.out }) ⊎ (HasFailed old now × Rose before mid) → ((count : ℕ) × (0 < count) × (new ≡ record now { out = drop count now.out })) ⊎ (HasFailed now new × Rose mid after) → (new ≡ record old { out = new.out }) ⊎ (HasFailed old new × Rose before after)
written-on old now new before mid after up on write (inl is) (inl sent) =
    let out_is : new.out ≡ drop sent.0 now.out = ap (λ (s : State). s.out) sent.2 in
    inl (sent.2 ∙ ap (λ (s : State). record s { out = drop sent.0 now.out }) is ∙ ap (λ (w : List ℕ). record old { out = w }) (sym out_is))
written-on old now new before mid after up on write (inl is) (inr failed) =
    inr (failed.0 ∙ ap (λ (s : State). record s { hand = Empty; out = []; fault = Some fault.Link }) is, rose-earlier before mid after up failed.1)
written-on old now new before mid after up on write (inr was) next =
    let none : length now.out ≡ 0 = ap (λ (s : State). length s.out) was.0 in
    let some = write-some now write in
    absurd (omega (arith, none, some))

pub written-more : (old now new : State) (before mid after : ℕ) → HasWritten old now before mid → mid ≤ after → want_of now ≡ want.Write → ((count : ℕ) × (0 < count) × (new ≡ record now { out = drop count now.out })) ⊎ (HasFailed now new × Rose mid after) → HasWritten old new before after
written-more old now new before mid after was on write next = record {
  later = (let up = was.later in omega (arith, up, on));
  so_far = written-on old now new before mid after was.later on write was.so_far next;
}

pub written-less : (now new : State) (mid after : ℕ) → want_of now ≡ want.Write → ((count : ℕ) × (0 < count) × (new ≡ record now { out = drop count now.out })) ⊎ (HasFailed now new × Rose mid after) → length new.out < length now.out
written-less now new mid after write (inl sent) =
    let len : length new.out ≡ length now.out - sent.0 = ap (λ (s : State). length s.out) sent.2 ∙ length-drop sent.0 now.out in
    let some = write-some now write in
    let count = sent.1 in
    omega (arith, len, some, count)
written-less now new mid after write (inr failed) =
    let len : length new.out ≡ 0 = ap (λ (s : State). length s.out) failed.0 in
    let some = write-some now write in
    omega (arith, len, some)

none-left : (out : List ℕ) (f : Option Fault) (hand : Hand) (due over : Bool) → ¬ (wants out f hand due over ≡ want.Write) → out ≡ []
none-left [] f hand due over not = refl
none-left (b ∷ out) f hand due over not = absurd (not refl)

pub all-written : (state : State) → ¬ (want_of state ≡ want.Write) → state.out ≡ []
unfolding want_of
all-written state not = none-left state.out state.fault state.hand _ _ not

written-as : (old new : State) (before now : ℕ) → new.out ≡ [] → (new ≡ record old { out = new.out }) ⊎ (HasFailed old new × Rose before now) → (new ≡ record old { out = [] }) ⊎ (HasFailed old new × Rose before now)
written-as old new before now none (inl is) = inl (is ∙ ap (λ (w : List ℕ). record old { out = w }) none)
written-as old new before now none (inr failed) = inr failed

pub written-all : (old new : State) (before now : ℕ) → HasWritten old new before now → ¬ (want_of new ≡ want.Write) → (new ≡ record old { out = [] }) ⊎ (HasFailed old new × Rose before now)
written-all old new before now was not = written-as old new before now (all-written new not) was.so_far

pub written-cause : (old new : State) (before now : ℕ) → before ≤ now → (new ≡ record old { out = [] }) ⊎ (HasFailed old new × Rose before now) → HasCauseFor fault.Link old new before now
written-cause old new before now later (inl is) = record { later = later; rose = λ fixed. inl (sym (ap (λ (s : State). s.fault) is) ∙ fixed) }
written-cause old new before now later (inr failed) = record { later = later; rose = λ fixed. inr failed.1 }

-- ---- since the start

-- this end is fixed only if the device's count of faults rose since the start
pub record CauseSince (cause : Fault) (state : State) (before now : ℕ) : Type 0 where
  pub later : before ≤ now
  pub rose : state.fault ≡ Some cause → Rose before now

pub no-cause : (cause : Fault) (before : ℕ) → CauseSince cause started before before
no-cause cause before = record { later = omega arith; rose = λ fixed. absurd cc }

since-either : (cause : Fault) (old : State) (before mid after : ℕ) → CauseSince cause old before mid → mid ≤ after → (old.fault ≡ Some cause) ⊎ Rose mid after → Rose before after
since-either cause old before mid after since on (inl fixed) = rose-later before mid after (since.rose fixed) on
since-either cause old before mid after since on (inr rose) = rose-earlier before mid after since.later rose

pub cause-on : (cause : Fault) (old new : State) (before mid after : ℕ) → CauseSince cause old before mid → HasCauseFor cause old new mid after → CauseSince cause new before after
cause-on cause old new before mid after since next = record {
  later = (let a = since.later in let b = next.later in omega (arith, a, b));
  rose = λ fixed. since-either cause old before mid after since next.later (next.rose fixed);
}

-- ---- the folder stays

module _ {D : Type 0} (files : D → Option Files) (may_leave : D → Files → Type 0) (moment : D → ℕ) (image_since : D → ℕ → Files → Type 0) where
  pub moved-none : (store : D) → Moves files may_leave moment image_since SameFiles store store
  moved-none store = record {
    reads = steps-same SameFiles (files store) (files store) refl (λ all name. refl);
    leaves = λ image now. (image, now, λ name. refl);
    later = omega arith;
    moments = λ t image le since. inl since;
  }

  pub moved-twice : (old mid new : D) → Moves files may_leave moment image_since SameFiles old mid → Moves files may_leave moment image_since SameFiles mid new → Moves files may_leave moment image_since SameFiles old new
  moved-twice old mid new one two =
      moves_both files may_leave moment image_since SameFiles SameFiles SameFiles (λ a b c f s name. s name ∙ f name) (λ a b f. f) old mid new one two

pub same-files : (old new : Option Files) (files : Files) → old ≡ Some files → StepsBy SameFiles old new → new ≡ Some files
same-files old None files told step = absurd (subst (λ (o : Option Files). StepsBy SameFiles o None) told step)
same-files old (Some now) files told step =
    let same = subst (λ (o : Option Files). StepsBy SameFiles o (Some now)) told step in
    ap Some (fun_ext same)

pub tells-of : {X : Type 0} (P : X → Type 0) (o : Option X) (x : X) → o ≡ Some x → Tells P o → P x
tells-of {X} P o x is told = subst (λ (p : Option X). Tells P p) is told

pub written-rank : (old new : State) (before now : ℕ) → want_of old ≡ want.Write → (new ≡ record old { out = [] }) ⊎ (HasFailed old new × Rose before now) → rank new < rank old
written-rank old new before now write (inl is) = written-falls old new write is
written-rank old new before now write (inr failed) = failed-falls old new (inr write) failed.0

-- ---- damage

pub hand-plan : (files : Files) (old new : Hand) → (new ≡ old) ⊎ (new ≡ Empty) → HasPlanOf files old → HasPlanOf files new
hand-plan files old new (inl is) has = subst (HasPlanOf files) (sym is) has
hand-plan files old new (inr is) has = subst (HasPlanOf files) (sym is) tt

pub read-undamaged : (old new : State) (piece : List ℕ) (found : QueryFile) → want_of old ≡ want.Read → (new ≡ feeds old piece) ⊎ (new ≡ record old { fault = Some fault.Memory }) → ¬ (new.fault ≡ Some (fault.Damaged found))
read-undamaged old new [] found read (inl is) damaged =
    let going = (read-parts old read).0.going in
    let same : new.fault ≡ old.fault = ap (λ (s : State). s.fault) is in
    absurd cc
read-undamaged old new (b ∷ piece) found read (inl is) damaged =
    let going = (read-parts old read).0.going in
    let same : new.fault ≡ old.fault = ap (λ (s : State). s.fault) is in
    absurd cc
read-undamaged old new piece found read (inr is) damaged =
    let same : new.fault ≡ Some fault.Memory = ap (λ (s : State). s.fault) is in
    absurd cc

pub read-hand : (old new : State) (piece : List ℕ) → (new ≡ feeds old piece) ⊎ (new ≡ record old { fault = Some fault.Memory }) → (new.hand ≡ old.hand) ⊎ (new.hand ≡ Empty)
read-hand old new [] (inl is) = inl (ap (λ (s : State). s.hand) is)
read-hand old new (b ∷ piece) (inl is) = inl (ap (λ (s : State). s.hand) is)
read-hand old new piece (inr is) = inl (ap (λ (s : State). s.hand) is)

pub written-hand : (old new : State) (before now : ℕ) → (new ≡ record old { out = [] }) ⊎ (HasFailed old new × Rose before now) → (new.hand ≡ old.hand) ⊎ (new.hand ≡ Empty)
written-hand old new before now (inl is) = inl (ap (λ (s : State). s.hand) is)
written-hand old new before now (inr failed) = inr (ap (λ (s : State). s.hand) failed.0)

pub written-undamaged : (old new : State) (before now : ℕ) (found : QueryFile) → (new ≡ record old { out = [] }) ⊎ (HasFailed old new × Rose before now) → new.fault ≡ Some (fault.Damaged found) → old.fault ≡ Some (fault.Damaged found)
written-undamaged old new before now found (inl is) damaged = sym (ap (λ (s : State). s.fault) is) ∙ damaged
written-undamaged old new before now found (inr failed) damaged =
    let same : new.fault ≡ Some fault.Link = ap (λ (s : State). s.fault) failed.0 in
    absurd cc

-- what is damaged now was damaged at first
pub damaged-since : (hand : Hand) (found : QueryFile) (first now : Option Files) → StepsBy SameFiles first now → ((files : Files) → first ≡ Some files → HasPlanOf files hand) → Tells (IsDamagedIn hand found) now → Tells (IsDamaged found) first
damaged-since hand found None now step has damaged = tt
damaged-since hand found (Some files) now step has damaged =
    let told = same-files (Some files) now files refl step in
    record { hand = hand; planned = has files refl; damaged = tells-of (IsDamagedIn hand found) now files told damaged }

pub damaged-on : (old : State) (found : QueryFile) (first now : Option Files) → StepsBy SameFiles first now → ((files : Files) → first ≡ Some files → HasPlanOf files old.hand) → (old.fault ≡ Some (fault.Damaged found) → Tells (IsDamaged found) first) → (old.fault ≡ Some (fault.Damaged found)) ⊎ Tells (IsDamagedIn old.hand found) now → Tells (IsDamaged found) first
damaged-on old found first now step has was (inl fixed) = was fixed
damaged-on old found first now step has was (inr damaged) = damaged-since old.hand found first now step has damaged

pub fresh-undamaged : (state : State) (found : QueryFile) (files : Option Files) → state ≡ started → state.fault ≡ Some (fault.Damaged found) → Tells (IsDamaged found) files
fresh-undamaged state found files is fixed =
    let none : state.fault ≡ None = ap (λ (s : State). s.fault) is in
    absurd cc
