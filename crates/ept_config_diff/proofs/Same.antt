-- Inputs that are the same in each part.
use Rattle.std.proofs.Common.{◌≡◌, ℕ, Bool, true, false, ◌&&◌, refl, ap, sym, IsTrue, ◌↔◌}
use Rattle.ept_config.specs.declared.input.Input.{Input}
use Rattle.ept_config.specs.Facts.{input_facts}
use Rattle.ept_config.proofs.FactsTell.{input_same}

both : (a b : Bool) → IsTrue (a && b) → IsTrue a × IsTrue b
both true b is = (refl, is)
both false b is = absurd (cc)

either_way : (a b : Bool) → IsTrue a → IsTrue b → IsTrue (a && b)
either_way true b one other = other
either_way false b one other = absurd (cc)

pub same-input : (a b : Input) (path scale shift expect : Bool) → (IsTrue path ↔ (b.path ≡ a.path)) → (IsTrue scale ↔ (b.scale ≡ a.scale)) → (IsTrue shift ↔ (b.shift ≡ a.shift)) → (IsTrue expect ↔ (b.expect ≡ a.expect)) → IsTrue (((path && scale) && shift) && expect) ↔ (b ≡ a)
same-input a b path scale shift expect p s h e = (
  (λ is.
      let one = both ((path && scale) && shift) expect is in
      let two = both (path && scale) shift one.0 in
      let three = both path scale two.0 in
      let paths = p.0 three.0 in
      let scales = s.0 three.1 in
      let shifts = h.0 two.1 in
      let expects = e.0 one.1 in
      input_same b a (λ i. record { path = paths i; scale = scales i; shift = shifts i; expect = expects i })),
  (λ is.
      either_way ((path && scale) && shift) expect
      (either_way (path && scale) shift (either_way path scale (p.1 (ap (λ (x : Input). x.path) is)) (s.1 (ap (λ (x : Input). x.scale) is))) (h.1 (ap (λ (x : Input). x.shift) is)))
      (e.1 (ap (λ (x : Input). x.expect) is))),
)
