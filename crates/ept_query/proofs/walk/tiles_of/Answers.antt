use Rattle.std.proofs.Common.{◌≡◌, ◌≤◌, List, [], ◌∷◌, ◌++◌, length-append, sym, ap, subst, arith, Option}
use Rattle.std.specs.List.{All}
use Rattle.std.specs.BTreeMap.{get, is_at}
use Rattle.std.specs.Map.{lookup}
use Rattle.std.proofs.lemmas.List.Elements.{All-head, All-rest, All-same}
use Rattle.std.specs.Prelude.{IsSome}
use Rattle.std.proofs.lemmas.Bool.{false≢true}
use Rattle.std.proofs.lemmas.Result.{err_from_is_err_and}
use Rattle.ept_base.specs.Files.{Tells}
use Rattle.ept_space.specs.VoxelKey.{VoxelKey, IsKey, key_cmp, AreAscending}
use Rattle.ept_hier.specs.Hierarchy.{Node, keys_of}
use Rattle.ept_query.specs.Plan.{EachIsThere, IsPlan}
use Rattle.ept_query.specs.Walk.{NotesFile}
use Rattle.ept_query.proofs.Counting.{left-falls}
use Rattle.ept_query.proofs.Told.{tells-from, told-back, same-none, same-twice}
use Rattle.ept_query.proofs.Walking.{walk-begun, walk-more, walk-first, taken-ascend, taken-needed, each-there}
use Rattle.ept_query.proofs.Plans.{noted-back, walk-refuses, gets-fewer, plan-listed, listed-shallow, ok-both, nothing-left}
use Rattle.ept_query.proofs.walk.tiles_of.Goals as goal

pub loop-top-init : goal.loop-top-init
loop-top-init g c = record {
  are_keys = c.in_ok-pending.ensures.are_keys;
  shallow = λ key has. absurd (false≢true (subst IsSome (ap (λ (es : List Node). lookup (is_at (key_cmp key)) es) c.new-tiles.ensures.empty) has));
  moves = same-none g.T.Store.files g.T.Store.may_leave g.T.Store.moment g.T.Store.image_since c.args.store.now;
  later = omega arith;
  walk = λ all is. ([], walk-begun c.args.search.now all c.in_ok-pending.pending.keys (get key_cmp c.new-tiles.result) c.in_ok-pending.ensures.start c.in_ok-pending.ensures.only (λ key. ap (λ (es : List Node). lookup (is_at (key_cmp key)) es) c.new-tiles.ensures.empty), omega arith);
}

pub loop-top-smaller : goal.loop-top-smaller
loop-top-smaller g c =
    let keys : All IsKey (c.in-Some.top ∷ c.pop_first.new.self.keys) = All-same IsKey (c.in-Some.top ∷ c.pop_first.new.self.keys) c.loop-top.pending.keys (sym c.in-Some.ensures.removal) c.loop-top.invariant.are_keys in
    left-falls c.in-Some.top c.loop-top.pending.keys c.pop_first.new.self.keys c.note_file.new.pending.keys c.in-Some.ensures.removal
    (All-head IsKey c.in-Some.top c.pop_first.new.self.keys keys)
    (c.in_ok-note_file.ensures.are_keys (All-rest IsKey c.in-Some.top c.pop_first.new.self.keys c.loop-top.pending.keys c.in-Some.ensures.removal c.loop-top.invariant.are_keys))
    (c.in_ok-note_file.ensures.behind c.in-Some.ensures.all_above)

pub loop-top-preserved : goal.loop-top-preserved
loop-top-preserved g c = record {
  are_keys = c.in_ok-note_file.ensures.are_keys (All-rest IsKey c.in-Some.top c.pop_first.new.self.keys c.loop-top.pending.keys c.in-Some.ensures.removal c.loop-top.invariant.are_keys);
  shallow = c.in_ok-note_file.ensures.shallow c.loop-top.invariant.shallow;
  moves = same-twice g.T.Store.files g.T.Store.may_leave g.T.Store.moment g.T.Store.image_since c.args.store.now c.loop-top.store c.note_file.new.store c.loop-top.invariant.moves c.note_file.ensures.any_moment;
  later = (let a = c.loop-top.invariant.later in let b = c.note_file.ensures.cause.later in omega (arith, a, b));
  walk = λ all is. (
      let w = c.loop-top.invariant.walk all is in
      let noted = told-back (NotesFile c.args.search.now c.in-Some.top c.pop_first.new.self.keys c.note_file.new.pending.keys (get key_cmp c.loop-top.tiles) (get key_cmp c.note_file.new.tiles))
      (noted-back c.args.search.now c.in-Some.top c.pop_first.new.self.keys c.note_file.new.pending.keys (get key_cmp c.loop-top.tiles) (get key_cmp c.note_file.new.tiles))
      (g.T.Store.files c.args.store.now) (g.T.Store.files c.loop-top.store) all is c.loop-top.invariant.moves.reads c.in_ok-note_file.ensures.noted in (
        w.0 ++ c.in-Some.top ∷ [],
        walk-more c.args.search.now all w.0 c.loop-top.pending.keys c.pop_first.new.self.keys c.in-Some.top (get key_cmp c.loop-top.tiles) w.1 c.in-Some.ensures.removal c.in-Some.ensures.all_above c.note_file.new.pending.keys noted.entries (get key_cmp c.note_file.new.tiles) noted.file noted.links noted.tiles,
        (let one = c.note_file.ensures.gets in let most = w.2 in let size = length-append w.0 (c.in-Some.top ∷ []) in omega (arith, one, most, size)),
      ));
}

pub returns-in_err-note_file-clause-refused : goal.returns-in_err-note_file-clause-refused
returns-in_err-note_file-clause-refused g c =
    let p = err_from_is_err_and c.from_residual-in_err-note_file.result c.from_residual-in_err-note_file.ensures.1 in
    rw (p.1, p.2) (walk-refuses c.args.search.now c.in-Some.top (g.T.Store.files c.args.store.now) (g.T.Store.files c.loop-top.store) c.in_err-note_file.field-0.0
    (λ all is damaged. (let w = c.loop-top.invariant.walk all is in walk-first c.args.search.now all w.0 c.loop-top.pending.keys c.pop_first.new.self.keys c.in-Some.top (get key_cmp c.loop-top.tiles) w.1 c.in-Some.ensures.removal c.in-Some.ensures.all_above damaged))
    c.loop-top.invariant.moves.reads c.in_err-note_file.ensures.refused)

pub returns-in_err-note_file-clause-gets : goal.returns-in_err-note_file-clause-gets
returns-in_err-note_file-clause-gets g c =
    gets-fewer c.args.search.now (g.T.Store.files c.args.store.now) (g.T.Store.gets c.args.store.now) (g.T.Store.gets c.note_file.new.store) (λ all is. (
    let w = c.loop-top.invariant.walk all is in (
      w.0 ++ c.in-Some.top ∷ [],
      taken-ascend c.args.search.now all w.0 c.loop-top.pending.keys c.pop_first.new.self.keys c.in-Some.top (get key_cmp c.loop-top.tiles) w.1 c.in-Some.ensures.removal c.in-Some.ensures.all_above,
      taken-needed c.args.search.now all w.0 c.loop-top.pending.keys c.pop_first.new.self.keys c.in-Some.top (get key_cmp c.loop-top.tiles) w.1 c.in-Some.ensures.removal c.in-Some.ensures.all_above,
      (let one = c.note_file.ensures.gets in let most = w.2 in let size = length-append w.0 (c.in-Some.top ∷ []) in omega (arith, one, most, size)),
    )))

pub returns-in_err-note_file-clause-any_moment : goal.returns-in_err-note_file-clause-any_moment
returns-in_err-note_file-clause-any_moment g c =
    same-twice g.T.Store.files g.T.Store.may_leave g.T.Store.moment g.T.Store.image_since c.args.store.now c.loop-top.store c.note_file.new.store c.loop-top.invariant.moves c.note_file.ensures.any_moment

pub returns-clause-plan : goal.returns-clause-plan
returns-clause-plan g c =
    let none : c.loop-top.pending.keys ≡ [] = nothing-left c.loop-top.pending.keys (λ some. false≢true (subst (λ (o : Option VoxelKey). IsSome o) c.in_default.is (c.pop_first.ensures.variant.1 some))) in
    ok-both (λ v. v.items ≡ c.loop-top.tiles.entries) (λ v. AreAscending (keys_of v.items)) (λ v. Tells (λ all. EachIsThere c.args.search.now all × IsPlan c.args.search.now all v.items) (g.T.Store.files c.args.store.now)) c.listed.result
    (λ v same ascend. tells-from (λ all. EachIsThere c.args.search.now all × IsPlan c.args.search.now all v.items) (g.T.Store.files c.args.store.now) (λ all is. (
    let w = c.loop-top.invariant.walk all is in (
      each-there c.args.search.now all w.0 c.loop-top.pending.keys (get key_cmp c.loop-top.tiles) w.1 none,
      plan-listed c.args.search.now all w.0 c.loop-top.pending.keys c.loop-top.tiles v.items w.1 none same ascend,
    ))))
    c.listed.ensures.same c.listed.ensures.ascend

pub returns-clause-gets : goal.returns-clause-gets
returns-clause-gets g c =
    gets-fewer c.args.search.now (g.T.Store.files c.args.store.now) (g.T.Store.gets c.args.store.now) (g.T.Store.gets c.loop-top.store) (λ all is. (let w = c.loop-top.invariant.walk all is in (w.0, w.1.ascend, w.1.needed, w.2)))

pub returns-clause-shallow : goal.returns-clause-shallow
returns-clause-shallow g c =
    ok-both (λ v. v.items ≡ c.loop-top.tiles.entries) (λ v. AreAscending (keys_of v.items)) (λ v. All (λ (n : Node). n.0.depth ≤ c.args.search.now.cube.depth) v.items) c.listed.result
    (λ v same ascend. listed-shallow c.args.search.now c.loop-top.tiles v.items same ascend c.loop-top.invariant.shallow)
    c.listed.ensures.same c.listed.ensures.ascend
