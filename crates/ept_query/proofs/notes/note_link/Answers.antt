use Rattle.std.proofs.Common.{refl}
use Rattle.std.proofs.lemmas.List.Elements.{All-same}
use Rattle.std.proofs.lemmas.Map.Views.{All-insert_key}
use Rattle.ept_space.specs.VoxelKey.{IsKey, key_cmp}
use Rattle.ept_query.proofs.Noting.{links-put}
use Rattle.ept_query.proofs.notes.note_link.Goals as goal

pub returns-in_ok-insert-clause-links : goal.returns-in_ok-insert-clause-links
returns-in_ok-insert-clause-links c =
    links-put c.args.search.now c.args.entry.now c.args.pending.now.keys c.insert.new.self.keys (c.if-is_link.ensures.0 refl) (c.if-meets.ensures.0 refl) c.in_ok-insert.ensures.keys

pub returns-in_ok-insert-clause-are_keys : goal.returns-in_ok-insert-clause-are_keys
returns-in_ok-insert-clause-are_keys c = λ each.
    All-same IsKey _ _ c.in_ok-insert.ensures.keys (All-insert_key key_cmp c.args.entry.now.0 IsKey c.args.pending.now.keys each c.known.ensures)
