-- Points are the same if and only if each of their fields is.
use Rattle.std.proofs.Common.{◌≡◌, Bool, true, false, eqb, int_eq, refl, subst, Decides}
use Rattle.std.specs.Prelude.{◌&&◌}
use Rattle.std.specs.Cmp.Lexicographic.{pointwise}
use Rattle.std.proofs.lemmas.Bool.Decides.{Decides-eqb, Decides-int_eq}
use Rattle.std.proofs.lemmas.Slice.Eq.{slice_eq-Decides}
use Rattle.ept_point.specs.declared.point.Point.{Point}
use Rattle.ept_point.specs.Packed.{packed, field_bytes}
use Rattle.ept_point.proofs.PackedLaws.{packed_one}

abbrev same_fields : Point → Point → Bool
same_fields a b =
    (int_eq a.x b.x) && ((int_eq a.y b.y) && ((int_eq a.z b.z) && ((eqb a.intensity b.intensity) && ((eqb a.return_number b.return_number) && ((eqb a.number_of_returns b.number_of_returns) && ((eqb a.scan_direction b.scan_direction) && ((eqb a.edge b.edge) && ((eqb a.class b.class) && ((eqb a.class_flags b.class_flags) && ((eqb a.channel b.channel) && ((int_eq a.angle_rank b.angle_rank) && ((int_eq a.angle b.angle) && ((eqb a.user b.user) && ((eqb a.source_id b.source_id) && ((pointwise eqb a.gps b.gps) && ((eqb a.red b.red) && ((eqb a.green b.green) && ((eqb a.blue b.blue) && ((eqb a.origin b.origin) && (eqb a.number b.number))))))))))))))))))))

both : (a b : Bool) → (a && b) ≡ true → (a ≡ true) × (b ≡ true)
both true b is = (refl, is)
both false b is = absurd (cc)

-- points with the same fields have the same bytes
same_packed : (a b : Point) → a.x ≡ b.x → a.y ≡ b.y → a.z ≡ b.z → a.intensity ≡ b.intensity → a.return_number ≡ b.return_number → a.number_of_returns ≡ b.number_of_returns → a.scan_direction ≡ b.scan_direction → a.edge ≡ b.edge → a.class ≡ b.class → a.class_flags ≡ b.class_flags → a.channel ≡ b.channel → a.angle_rank ≡ b.angle_rank → a.angle ≡ b.angle → a.user ≡ b.user → a.source_id ≡ b.source_id → a.gps ≡ b.gps → a.red ≡ b.red → a.green ≡ b.green → a.blue ≡ b.blue → a.origin ≡ b.origin → a.number ≡ b.number → packed a ≡ packed b
unfolding packed field_bytes
same_packed a b x y z intensity return_number number_of_returns scan_direction edge class class_flags channel angle_rank angle user source_id gps red green blue origin number = rw (x, y, z, intensity, return_number, number_of_returns, scan_direction, edge, class, class_flags, channel, angle_rank, angle, user, source_id, gps, red, green, blue, origin, number) refl

one_point : (a b : Point) → same_fields a b ≡ true → a ≡ b
one_point a b is =
    let p0 = both (int_eq a.x b.x) _ is in
    let p1 = both (int_eq a.y b.y) _ p0.1 in
    let p2 = both (int_eq a.z b.z) _ p1.1 in
    let p3 = both (eqb a.intensity b.intensity) _ p2.1 in
    let p4 = both (eqb a.return_number b.return_number) _ p3.1 in
    let p5 = both (eqb a.number_of_returns b.number_of_returns) _ p4.1 in
    let p6 = both (eqb a.scan_direction b.scan_direction) _ p5.1 in
    let p7 = both (eqb a.edge b.edge) _ p6.1 in
    let p8 = both (eqb a.class b.class) _ p7.1 in
    let p9 = both (eqb a.class_flags b.class_flags) _ p8.1 in
    let p10 = both (eqb a.channel b.channel) _ p9.1 in
    let p11 = both (int_eq a.angle_rank b.angle_rank) _ p10.1 in
    let p12 = both (int_eq a.angle b.angle) _ p11.1 in
    let p13 = both (eqb a.user b.user) _ p12.1 in
    let p14 = both (eqb a.source_id b.source_id) _ p13.1 in
    let p15 = both (pointwise eqb a.gps b.gps) _ p14.1 in
    let p16 = both (eqb a.red b.red) _ p15.1 in
    let p17 = both (eqb a.green b.green) _ p16.1 in
    let p18 = both (eqb a.blue b.blue) _ p17.1 in
    let p19 = both (eqb a.origin b.origin) _ p18.1 in
    packed_one a b (same_packed a b
    ((Decides-int_eq a.x b.x).0 p0.0)
    ((Decides-int_eq a.y b.y).0 p1.0)
    ((Decides-int_eq a.z b.z).0 p2.0)
    ((Decides-eqb a.intensity b.intensity).0 p3.0)
    ((Decides-eqb a.return_number b.return_number).0 p4.0)
    ((Decides-eqb a.number_of_returns b.number_of_returns).0 p5.0)
    ((Decides-eqb a.scan_direction b.scan_direction).0 p6.0)
    ((Decides-eqb a.edge b.edge).0 p7.0)
    ((Decides-eqb a.class b.class).0 p8.0)
    ((Decides-eqb a.class_flags b.class_flags).0 p9.0)
    ((Decides-eqb a.channel b.channel).0 p10.0)
    ((Decides-int_eq a.angle_rank b.angle_rank).0 p11.0)
    ((Decides-int_eq a.angle b.angle).0 p12.0)
    ((Decides-eqb a.user b.user).0 p13.0)
    ((Decides-eqb a.source_id b.source_id).0 p14.0)
    ((slice_eq-Decides Decides-eqb a.gps b.gps (pointwise eqb a.gps b.gps) refl).0 p15.0)
    ((Decides-eqb a.red b.red).0 p16.0)
    ((Decides-eqb a.green b.green).0 p17.0)
    ((Decides-eqb a.blue b.blue).0 p18.0)
    ((Decides-eqb a.origin b.origin).0 p19.0)
    ((Decides-eqb a.number b.number).0 p19.1))

itself : (a : Point) → same_fields a a ≡ true
itself a = rw ((Decides-int_eq a.x a.x).1 refl, (Decides-int_eq a.y a.y).1 refl, (Decides-int_eq a.z a.z).1 refl, (Decides-eqb a.intensity a.intensity).1 refl, (Decides-eqb a.return_number a.return_number).1 refl, (Decides-eqb a.number_of_returns a.number_of_returns).1 refl, (Decides-eqb a.scan_direction a.scan_direction).1 refl, (Decides-eqb a.edge a.edge).1 refl, (Decides-eqb a.class a.class).1 refl, (Decides-eqb a.class_flags a.class_flags).1 refl, (Decides-eqb a.channel a.channel).1 refl, (Decides-int_eq a.angle_rank a.angle_rank).1 refl, (Decides-int_eq a.angle a.angle).1 refl, (Decides-eqb a.user a.user).1 refl, (Decides-eqb a.source_id a.source_id).1 refl, (slice_eq-Decides Decides-eqb a.gps a.gps (pointwise eqb a.gps a.gps) refl).1 refl, (Decides-eqb a.red a.red).1 refl, (Decides-eqb a.green a.green).1 refl, (Decides-eqb a.blue a.blue).1 refl, (Decides-eqb a.origin a.origin).1 refl, (Decides-eqb a.number a.number).1 refl) refl

pub same-point : (a b : Point) → Decides (same_fields a b) (a ≡ b)
same-point a b = (one_point a b, λ same. subst (λ (p : Point). same_fields a p ≡ true) same (itself a))
