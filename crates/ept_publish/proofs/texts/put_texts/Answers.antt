use Rattle.std.proofs.Common.{List, [], ◌∷◌, ℕ, refl, inl, inr}
use Rattle.ept_sample.proofs.Members.{contains-IsMember}
use Rattle.ept_meta.specs.Output.{metadata_name, manifest_name, build_file_name}
use Rattle.ept_publish.proofs.Naming.{put-once, put-these, these-both}
use Rattle.ept_publish.proofs.texts.put_texts.Goals as goal

-- the names of the three
abbrev three : List (List ℕ)
three = metadata_name ∷ manifest_name ∷ build_file_name ∷ []

pub returns-in_err-put-clause-any_moment : goal.returns-in_err-put-clause-any_moment
returns-in_err-put-clause-any_moment g c =
    put-these g.T.Store.files g.T.Store.may_leave g.T.Store.moment g.T.Store.image_since metadata_name three (contains-IsMember metadata_name three (inl refl)) c.args.store.now c.put.new.self
    (put-once g.T.Store.files g.T.Store.may_leave g.T.Store.moment g.T.Store.image_since metadata_name c.args.store.now c.put.new.self c.put.ensures.reads c.put.ensures.images c.put.ensures.time)

pub returns-in_err-put-2-clause-any_moment : goal.returns-in_err-put-2-clause-any_moment
returns-in_err-put-2-clause-any_moment g c =
    these-both g.T.Store.files g.T.Store.may_leave g.T.Store.moment g.T.Store.image_since three c.args.store.now c.put.new.self c.put-2.new.self
    (put-these g.T.Store.files g.T.Store.may_leave g.T.Store.moment g.T.Store.image_since metadata_name three (contains-IsMember metadata_name three (inl refl)) c.args.store.now c.put.new.self
    (put-once g.T.Store.files g.T.Store.may_leave g.T.Store.moment g.T.Store.image_since metadata_name c.args.store.now c.put.new.self c.put.ensures.reads c.put.ensures.images c.put.ensures.time))
    (put-these g.T.Store.files g.T.Store.may_leave g.T.Store.moment g.T.Store.image_since manifest_name three (contains-IsMember manifest_name three (inr (inl refl))) c.put.new.self c.put-2.new.self
    (put-once g.T.Store.files g.T.Store.may_leave g.T.Store.moment g.T.Store.image_since manifest_name c.put.new.self c.put-2.new.self c.put-2.ensures.reads c.put-2.ensures.images c.put-2.ensures.time))

pub returns-clause-any_moment : goal.returns-clause-any_moment
returns-clause-any_moment g c =
    these-both g.T.Store.files g.T.Store.may_leave g.T.Store.moment g.T.Store.image_since three c.args.store.now c.put-2.new.self c.put-3.new.self
    (these-both g.T.Store.files g.T.Store.may_leave g.T.Store.moment g.T.Store.image_since three c.args.store.now c.put.new.self c.put-2.new.self
    (put-these g.T.Store.files g.T.Store.may_leave g.T.Store.moment g.T.Store.image_since metadata_name three (contains-IsMember metadata_name three (inl refl)) c.args.store.now c.put.new.self
    (put-once g.T.Store.files g.T.Store.may_leave g.T.Store.moment g.T.Store.image_since metadata_name c.args.store.now c.put.new.self c.put.ensures.reads c.put.ensures.images c.put.ensures.time))
    (put-these g.T.Store.files g.T.Store.may_leave g.T.Store.moment g.T.Store.image_since manifest_name three (contains-IsMember manifest_name three (inr (inl refl))) c.put.new.self c.put-2.new.self
    (put-once g.T.Store.files g.T.Store.may_leave g.T.Store.moment g.T.Store.image_since manifest_name c.put.new.self c.put-2.new.self c.put-2.ensures.reads c.put-2.ensures.images c.put-2.ensures.time)))
    (put-these g.T.Store.files g.T.Store.may_leave g.T.Store.moment g.T.Store.image_since build_file_name three (contains-IsMember build_file_name three (inr (inr (inl refl)))) c.put-2.new.self c.put-3.new.self
    (put-once g.T.Store.files g.T.Store.may_leave g.T.Store.moment g.T.Store.image_since build_file_name c.put-2.new.self c.put-3.new.self c.put-3.ensures.reads c.put-3.ensures.images c.put-3.ensures.time))
