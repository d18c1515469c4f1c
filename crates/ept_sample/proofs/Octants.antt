-- The eight octants.
use Rattle.std.proofs.Common.{ℕ, zero, suc, ◌<◌, inl, inr, refl, arith}
use Rattle.ept_sample.specs.Arrivals.{all_octants}
use Rattle.ept_sample.specs.Members.{IsMember}

pub octant-IsMember : (o : ℕ) → o < 8 → IsMember o all_octants
octant-IsMember zero small = inl refl
octant-IsMember (suc zero) small = inr (inl refl)
octant-IsMember (suc (suc zero)) small = inr (inr (inl refl))
octant-IsMember (suc (suc (suc zero))) small = inr (inr (inr (inl refl)))
octant-IsMember (suc (suc (suc (suc zero)))) small = inr (inr (inr (inr (inl refl))))
octant-IsMember (suc (suc (suc (suc (suc zero))))) small = inr (inr (inr (inr (inr (inl refl)))))
octant-IsMember (suc (suc (suc (suc (suc (suc zero)))))) small = inr (inr (inr (inr (inr (inr (inl refl))))))
octant-IsMember (suc (suc (suc (suc (suc (suc (suc zero))))))) small = inr (inr (inr (inr (inr (inr (inr (inl refl)))))))
octant-IsMember (suc (suc (suc (suc (suc (suc (suc (suc o)))))))) small = absurd (omega (arith, small))

pub IsMember-octant : (o : ℕ) → IsMember o all_octants → o < 8
IsMember-octant o (inl is) = omega (arith, is)
IsMember-octant o (inr (inl is)) = omega (arith, is)
IsMember-octant o (inr (inr (inl is))) = omega (arith, is)
IsMember-octant o (inr (inr (inr (inl is)))) = omega (arith, is)
IsMember-octant o (inr (inr (inr (inr (inl is))))) = omega (arith, is)
IsMember-octant o (inr (inr (inr (inr (inr (inl is)))))) = omega (arith, is)
IsMember-octant o (inr (inr (inr (inr (inr (inr (inl is))))))) = omega (arith, is)
IsMember-octant o (inr (inr (inr (inr (inr (inr (inr (inl is)))))))) = omega (arith, is)
IsMember-octant o (inr (inr (inr (inr (inr (inr (inr (inr m)))))))) = absurd m
