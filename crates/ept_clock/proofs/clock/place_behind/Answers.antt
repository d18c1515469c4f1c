use Rattle.std.proofs.Common.{leb, leb-true, leb-false, arith, rules}
use Rattle.std.proofs.lemmas.List.Sorted.{IsPartitionPoint-from_clause, IsPartitionedBy-leb}
use Rattle.ept_clock.proofs.clock.place_behind.Goals as goal

pub returns : goal.returns
returns c =
    let parted = IsPartitionedBy-leb (λ n. n) _ c.args.hand c.requires in
    let point = IsPartitionPoint-from_clause (λ n. leb n c.args.hand) _ _ c.partition_point.ensures.partitioned parted (λ a r q k. search rules) in
    record {
      bound = c.partition_point.ensures.bound;
      front = λ i low. leb-true _ _ (point.0 i 0 (omega arith) low);
      back = λ low. leb-false _ _ (point.1 _ 0 (omega arith) low);
    }
