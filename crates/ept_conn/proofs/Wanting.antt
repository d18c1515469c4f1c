-- What follows from what a session wants.
use Rattle.std.proofs.Common.{◌≡◌, ◌∙◌, ◌<◌, ◌≤◌, ◌⊎◌, inl, inr, ℕ, List, [], ◌∷◌, length, take, Bool, true, false, ◌&&◌, ◌||◌, not, Option, Some, None, is_some, refl, ap, arith}
use Rattle.std.specs.Prelude.{nat_le}
use Rattle.ept_conn.specs.declared.hand.Hand.{Hand}
use Rattle.ept_conn.specs.declared.hand.Hand.TheVariants.{Empty, Decided, Tiles}
use Rattle.ept_conn.specs.declared.end.Fault.{Fault}
use Rattle.ept_conn.specs.declared.end.Want.TheVariants as want
use Rattle.ept_conn.specs.HeadEnd.{Front, Whole, Long, Short, front_or, front, head_end}
use Rattle.ept_conn.specs.Held.{Held, begins, has_turn}
use Rattle.ept_conn.specs.Turns.{IsIdle}
use Rattle.ept_conn.specs.State.{State, wants, want_of}

-- ---- turns that are due

begins-full : (end : Option ℕ) (full : Bool) → full ≡ true → begins (front_or end full) ≡ true
begins-full (Some len) full is = refl
begins-full None true is = refl
begins-full None false is = absurd cc

begins-not-full : (end : Option ℕ) (full : Bool) → full ≡ false → begins (front_or end full) ≡ is_some end
begins-not-full (Some len) full is = refl
begins-not-full None true is = absurd cc
begins-not-full None false is = refl

full-is : (n m : ℕ) → n ≤ m → nat_le n m ≡ true
full-is n m within = grind (arith, within)

not-full-is : (n m : ℕ) → (n ≤ m → ⊥) → nat_le n m ≡ false
not-full-is n m over = grind (arith, over)

going-has : (held : Held) → held.ended ≡ false → has_turn held ≡ begins (front held.bytes)
unfolding has_turn
going-has held going = ap (λ (b : Bool). not b && begins (front held.bytes)) going

pub full-has : (held : Held) → held.ended ≡ false → 8192 ≤ length held.bytes → has_turn held ≡ true
unfolding front
full-has held going full =
    going-has held going ∙ begins-full (head_end (take 8192 held.bytes)) (nat_le 8192 (length held.bytes)) (full-is 8192 (length held.bytes) full)

pub short-has : (held : Held) → held.ended ≡ false → (8192 ≤ length held.bytes → ⊥) → has_turn held ≡ is_some (head_end (take 8192 held.bytes))
unfolding front
short-has held going short =
    going-has held going ∙ begins-not-full (head_end (take 8192 held.bytes)) (nat_le 8192 (length held.bytes)) (not-full-is 8192 (length held.bytes) short)

pub idle-has-none : (held : Held) → IsIdle held → has_turn held ≡ false
unfolding has_turn
idle-has-none held (inl ended) = ap (λ (b : Bool). not b && begins (front held.bytes)) ended
idle-has-none held (inr short) = ap (λ (f : Front). not held.ended && begins f) short ∙ and-false (not held.ended)
  where
    and-false : (b : Bool) → b && false ≡ false
    and-false true = refl
    and-false false = refl

begins-short : (f : Front) → begins f ≡ false → f ≡ Short
begins-short (Whole len) is = absurd cc
begins-short Long is = absurd cc
begins-short Short is = refl

none-idle : (ended : Bool) (f : Front) → not ended && begins f ≡ false → (ended ≡ true) ⊎ (f ≡ Short)
none-idle true f is = inl refl
none-idle false f is = inr (begins-short f is)

pub has-none-idle : (held : Held) → has_turn held ≡ false → IsIdle held
unfolding has_turn
has-none-idle held none = none-idle held.ended (front held.bytes) none

-- ---- writing

some-written : (out : List ℕ) (f : Option Fault) (hand : Hand) (due over : Bool) → wants out f hand due over ≡ want.Write → 0 < length out
some-written (b ∷ out) f hand due over is = grind arith
some-written [] (Some f) hand due over is = absurd cc
some-written [] None (Decided turn) due over is = absurd cc
some-written [] None (Tiles turn plan done) due over is = absurd cc
some-written [] None Empty true over is = absurd cc
some-written [] None Empty false true is = absurd cc
some-written [] None Empty false false is = absurd cc

pub write-some : (state : State) → want_of state ≡ want.Write → 0 < length state.out
unfolding want_of
write-some state is = some-written state.out state.fault state.hand _ _ is

-- ---- working

pub record IsAtWork (out : List ℕ) (f : Option Fault) (hand : Hand) (due : Bool) : Type 0 where
  pub out_is : out ≡ []
  pub going : f ≡ None
  pub due_is : hand ≡ Empty → due ≡ true

at-work : (out : List ℕ) (f : Option Fault) (hand : Hand) (due over : Bool) → wants out f hand due over ≡ want.Work → IsAtWork out f hand due
at-work (b ∷ out) f hand due over is = absurd cc
at-work [] (Some f) hand due over is = absurd cc
at-work [] None (Decided turn) due over is = record { out_is = refl; going = refl; due_is = λ empty. absurd cc }
at-work [] None (Tiles turn plan done) due over is = record { out_is = refl; going = refl; due_is = λ empty. absurd cc }
at-work [] None Empty true over is = record { out_is = refl; going = refl; due_is = λ empty. refl }
at-work [] None Empty false true is = absurd cc
at-work [] None Empty false false is = absurd cc

pub work-parts : (state : State) → want_of state ≡ want.Work → IsAtWork state.out state.fault state.hand (has_turn state.held)
unfolding want_of
work-parts state is = at-work state.out state.fault state.hand (has_turn state.held) _ is

-- ---- reading and closing

pub record IsAtRest (out : List ℕ) (f : Option Fault) (hand : Hand) (due : Bool) : Type 0 where
  pub out_is : out ≡ []
  pub going : f ≡ None
  pub hand_is : hand ≡ Empty
  pub none : due ≡ false

at-read : (out : List ℕ) (f : Option Fault) (hand : Hand) (due over : Bool) → wants out f hand due over ≡ want.Read → IsAtRest out f hand due × (over ≡ false)
at-read (b ∷ out) f hand due over is = absurd cc
at-read [] (Some f) hand due over is = absurd cc
at-read [] None (Decided turn) due over is = absurd cc
at-read [] None (Tiles turn plan done) due over is = absurd cc
at-read [] None Empty true over is = absurd cc
at-read [] None Empty false true is = absurd cc
at-read [] None Empty false false is = (record { out_is = refl; going = refl; hand_is = refl; none = refl }, refl)

pub read-parts : (state : State) → want_of state ≡ want.Read → IsAtRest state.out state.fault state.hand (has_turn state.held) × (state.closed || state.held.ended ≡ false)
unfolding want_of
read-parts state is = at-read state.out state.fault state.hand (has_turn state.held) (state.closed || state.held.ended) is

-- ---- what is left of a turn in hand

pub not-ended : (closed ended : Bool) → closed || ended ≡ false → ended ≡ false
not-ended true ended is = absurd cc
not-ended false ended is = is
