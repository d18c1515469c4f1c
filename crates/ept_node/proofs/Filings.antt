-- The label of a node whose points are in its file, and what the file's bytes make of it.
use Rattle.std.proofs.Common.{◌≡◌, ◌∙◌, ℕ, ◌*◌, inl, inr, true, false, List, [], ◌∷◌, ◌++◌, length, Option, None, Some, Ok, Err, refl, ap, sym, subst, arith}
use Rattle.std.specs.Prelude.{unwrap_or, Result, IsErrAnd}
use Rattle.std.proofs.lemmas.List.{append-nil}
use Rattle.ept_base.specs.Files.{Tells, StepsBy}
use Rattle.ept_point.specs.declared.point.Point.{Point}
use Rattle.ept_point.specs.declared.tile.TileError.TheVariants as reading
use Rattle.ept_point.specs.Dimensions.{packed_width}
use Rattle.ept_point.specs.Laws.{EachTileHasLength, ReadInOneWay}
use Rattle.ept_point.specs.Order.{IsAscending}
use Rattle.ept_point.specs.Packed.{tile}
use Rattle.ept_point.specs.declared.layout.Layout.TheVariants.{New}
use Rattle.ept_point.specs.Tile.{ReadsIn}
use Rattle.ept_space.specs.declared.cube.Rules.{Rules}
use Rattle.ept_space.specs.VoxelKey.{VoxelKey}
use Rattle.ept_space.specs.OctreeCube.{InBox}
use Rattle.ept_sample.specs.Place.{place, AllInBox}
use Rattle.ept_sample.specs.Ids.{comes_before, HasDistinctIds}
use Rattle.ept_sample.proofs.Ascending.{IsRising}
use Rattle.ept_sample.proofs.IdLaws.{IsRising-IsAscending}
use Rattle.ept_sample.proofs.Members.{All-members}
use Rattle.ept_grid.specs.declared.error.GridError.{GridError}
use Rattle.ept_grid.specs.declared.error.GridError.TheVariants.{Outside, OpenLoser, TooMany, Deep, Memory}
use Rattle.ept_grid.specs.Node.{Node, IsNodeOf, IsInIdOrder, no_room}
use Rattle.ept_grid.specs.Tile.{IsFirstOutside, IsTile, IsTileFault}
use Rattle.ept_node.specs.declared.site.Filed.{Filed}
use Rattle.ept_node.specs.declared.error.NodeError.{NodeError}
use Rattle.ept_node.specs.declared.error.NodeError.TheVariants.{SpillDamaged}
use Rattle.ept_node.specs.Told.{points_told}
use Rattle.ept_node.specs.Shown.{bare, filed_node, IsAlike, IsTileOf}
use Rattle.ept_node.specs.Filing.{IsLabelOf, FitsLabel, AreFiled, AppendsAlike}
use Rattle.ept_node.specs.Damage.{place_of, IsWrongAt, IsDamaged}
use Rattle.ept_node.proofs.Bridges.{none-in-order}
use Rattle.ept_node.proofs.Tellings.{not_back, length-told, tile-told}

-- two refusals are the same
pub refusal-is : {A : Type 0} (e d : NodeError) → ◌≡◌ {A = Result A NodeError} (Err e) (Err d) → e ≡ d
refusal-is {A} e d is = cc

-- the refusal that was passed on
pub handed-on : {A : Type 0} (r : Result A NodeError) (e d : NodeError) → IsErrAnd r (λ f. f ≡ e) → r ≡ Err d → e ≡ d
handed-on {A} r e d h is = sym (subst (λ (q : Result A NodeError). IsErrAnd q (λ f. f ≡ e)) is h)

-- ---- ascending points are in id order

rising-order : (ps : List Point) → IsRising comes_before ps → IsInIdOrder ps
unfolding IsInIdOrder
rising-order [] up = tt
rising-order (p ∷ ps) up = (All-members (λ q. comes_before q p ≡ false) ps (λ q m. not_back p q (up.0 q m)), rising-order ps up.1)

pub ascending-in_order : (ps : List Point) → IsAscending ps → IsInIdOrder ps
ascending-in_order ps up = rising-order ps (IsRising-IsAscending ps up)

-- ---- what a file that holds a node's tile decodes to

told-same : (filed : Filed) (bytes : List ℕ) (g : Node) → IsLabelOf g filed → AllInBox g.rules.cube g.key g.points → IsInIdOrder g.points → bytes ≡ tile g.points → points_told filed.site.rules.cube filed.site.key filed.count bytes ≡ g.points
told-same filed bytes g label inside up is =
    ap (λ (r : Rules). points_told r.cube filed.site.key filed.count bytes) label.rules ∙ (ap (λ (k : VoxelKey). points_told g.rules.cube k filed.count bytes) label.key ∙ tile-told g.rules.cube g.key filed.count bytes g.points is label.count inside up)

shown-same : (filed : Filed) (bytes : List ℕ) (g : Node) → IsLabelOf g filed → AllInBox g.rules.cube g.key g.points → IsInIdOrder g.points → bytes ≡ tile g.points → filed_node (Some bytes) filed ≡ bare g
shown-same filed bytes g label inside up is = λ i. record {
  key = label.key i;
  rules = label.rules i;
  points = told-same filed bytes g label inside up is i;
  mask = label.mask i;
  room = no_room;
}

-- the node shows what it shows in memory
pub filed-shows : (filed : Filed) (told : Option (List ℕ)) (g : Node) → IsLabelOf g filed → AllInBox g.rules.cube g.key g.points → IsInIdOrder g.points → Tells (λ bytes. bytes ≡ tile g.points) told → Tells (λ _. filed_node told filed ≡ bare g) told
filed-shows filed None g label inside up tells = tt
filed-shows filed (Some bytes) g label inside up tells = shown-same filed bytes g label inside up tells

-- and the file is that of the node
pub filed-tile : (filed : Filed) (told : Option (List ℕ)) (g : Node) → IsLabelOf g filed → AllInBox g.rules.cube g.key g.points → IsInIdOrder g.points → (HasDistinctIds g.points → IsTile g.key g.rules g.mask g.points) → Tells (λ bytes. bytes ≡ tile g.points) told → Tells (IsTileOf (filed_node told filed)) told
filed-tile filed None g label inside up fits tells = tt
filed-tile filed (Some bytes) g label inside up fits tells =
    subst (λ (n : Node). IsTileOf n bytes) (sym (shown-same filed bytes g label inside up tells)) (record { bytes_are = tells; fits = fits })

-- a node of the label, whose tile is the visible contents of the file, is the node that the label shows
grid-same : (filed : Filed) (told : Option (List ℕ)) (g : Node) → FitsLabel filed g → Tells (λ bytes. bytes ≡ tile g.points) told → Tells (λ _. bare g ≡ filed_node told filed) told
grid-same filed None g fits tells = tt
grid-same filed (Some bytes) g fits tells =
    sym (shown-same filed bytes g fits.label fits.tile.inside (ascending-in_order g.points fits.ascend) tells)

pub grid-shows : (filed : Filed) (told : Option (List ℕ)) (g kept : Node) → FitsLabel filed g → Tells (λ bytes. bytes ≡ tile g.points) told → kept ≡ g → Tells (λ _. bare kept ≡ filed_node told filed) told
grid-shows filed told g kept fits tells is =
    subst (λ (n : Node). Tells (λ _. bare n ≡ filed_node told filed) told) (sym is) (grid-same filed told g fits tells)

-- if the contents of a file are visible, they are the bytes that it was asked to keep
pub steps-tell : (bytes : List ℕ) (old new : Option (List ℕ)) → StepsBy (λ _ now. now ≡ bytes) old new → Tells (λ now. now ≡ bytes) new
steps-tell bytes old None steps = tt
steps-tell bytes None (Some now) steps = absurd steps
steps-tell bytes (Some before) (Some now) steps = steps

-- the label stays, whatever the file holds
pub label-alike : (filed : Filed) (told : Option (List ℕ)) (g : Node) → IsLabelOf g filed → IsAlike (bare g) (filed_node told filed)
label-alike filed told g label = record {
  key = label.key;
  rules = label.rules;
  count = length-told filed.site.rules.cube filed.site.key filed.count (unwrap_or told []) ∙ label.count;
  mask = label.mask;
}

pub alike-label : (filed : Filed) (told : Option (List ℕ)) (g : Node) → IsLabelOf g filed → IsAlike (filed_node told filed) (bare g)
alike-label filed told g label = record {
  key = sym label.key;
  rules = sym label.rules;
  count = sym (length-told filed.site.rules.cube filed.site.key filed.count (unwrap_or told []) ∙ label.count);
  mask = sym label.mask;
}

pub spilled-alike : (filed : Filed) (told : Option (List ℕ)) (g old : Node) → IsLabelOf g filed → bare g ≡ old → IsAlike old (filed_node told filed)
spilled-alike filed told g old label is = subst (λ (n : Node). IsAlike n (filed_node told filed)) is (label-alike filed told g label)

pub reloaded-alike : (filed : Filed) (told : Option (List ℕ)) (g old : Node) → IsLabelOf g filed → filed_node told filed ≡ old → IsAlike old (bare g)
reloaded-alike filed told g old label is = subst (λ (n : Node). IsAlike n (bare g)) is (alike-label filed told g label)

-- the number of points shown is the label's count
pub count-shown : (filed : Filed) (told : Option (List ℕ)) (old : Node) → filed_node told filed ≡ old → filed.count ≡ length old.points
count-shown filed told old is =
    sym (length-told filed.site.rules.cube filed.site.key filed.count (unwrap_or told [])) ∙ ap (λ (n : Node). length n.points) is

-- points that were added as those of a node of the label are added as those of the node that the label shows
pub added-alike : (filed : Filed) (told : Option (List ℕ)) (g old : Node) (before after : List Point) → IsLabelOf g filed → filed_node told filed ≡ old → AppendsAlike (bare g) before after → AppendsAlike old before after
added-alike filed told g old before after label is appends =
    subst (λ (n : Node). AppendsAlike n before after) is (record {
      added = appends.added;
      grows = appends.grows;
      count = appends.count ∙ (sym label.count ∙ sym (length-told filed.site.rules.cube filed.site.key filed.count (unwrap_or told [])));
      in_order = appends.in_order;
      inside = subst (λ (r : Rules). AllInBox r.cube filed.site.key appends.added) (sym label.rules) (subst (λ (k : VoxelKey). AllInBox g.rules.cube k appends.added) (sym label.key) appends.inside);
    })

pub added-told : (filed : Filed) (told : Option (List ℕ)) (g old : Node) (before after : List Point) → filed_node told filed ≡ old → Tells (λ _. bare g ≡ filed_node told filed) told → after ≡ before ++ g.points → Tells (λ _. after ≡ before ++ old.points) told
added-told filed None g old before after is tells grows = tt
added-told filed (Some bytes) g old before after is tells grows =
    grows ∙ ap (λ (n : Node). before ++ n.points) (tells ∙ is)

pub added-all : (told : Option (List ℕ)) (old : Node) (before after : List Point) → after ≡ before ++ old.points → Tells (λ _. after ≡ before ++ old.points) told
added-all None old before after grows = tt
added-all (Some bytes) old before after grows = grows

pub added-none : (node : Node) (points : List Point) → node.points ≡ [] → AppendsAlike node points points
added-none node points none = record {
  added = [];
  grows = sym (append-nil points);
  count = ap (λ (w : List Point). length w) (sym none);
  in_order = none-in-order;
  inside = All-members (λ q. InBox node.rules.cube node.key (place q)) [] (λ q m. absurd m);
}

-- ---- what bytes make of a label

module _ (filed : Filed) (bytes : List ℕ) (long : length bytes ≡ packed_width * filed.count) (lengths : EachTileHasLength) (read : List Point) (reads : ReadsIn New bytes (Ok read)) where
  counted : filed.count ≡ length read
  counted = let size : length bytes ≡ packed_width * length read = ap (λ (w : List ℕ). length w) reads.0 ∙ lengths New read in omega (arith, size, long)

  pub fits-label : (points : List Point) (g : Node) → points ≡ read → IsNodeOf filed.site.key filed.site.rules filed.mask points g → IsTile filed.site.key filed.site.rules filed.mask points → FitsLabel filed g
  fits-label points g is of fits =
      let same : read ≡ g.points = sym (of.points ∙ is) in record {
        label = record { key = sym of.key; rules = sym of.rules; count = counted ∙ ap (λ (w : List Point). length w) same; mask = sym of.mask };
        ascend = subst (λ (w : List Point). IsAscending w) same reads.1;
        tile = subst (λ (w : List Point). IsTile g.key g.rules g.mask w) (sym of.points) (subst (λ (k : VoxelKey). IsTile k g.rules g.mask points) (sym of.key) (subst (λ (r : Rules). IsTile filed.site.key r g.mask points) (sym of.rules) (subst (λ (m : ℕ). IsTile filed.site.key filed.site.rules m points) (sym of.mask) fits)));
      }

  pub unfit-at : (told : Option (List ℕ)) (points : List Point) (fault : GridError) (at : ℕ) → points ≡ read → IsTileFault filed.site.key filed.site.rules filed.mask points fault → place_of points fault ≡ at → IsWrongAt (filed_node told filed) at bytes
  unfit-at told points fault at is unfit place =
      inr (inr (record {
        points = read;
        reads = reads;
        fault = fault;
        unfit = subst (λ (w : List Point). IsTileFault filed.site.key filed.site.rules filed.mask w fault) is unfit;
        place = ap (λ (w : List Point). place_of w fault) (sym is) ∙ place;
      }))

  -- the points that were read
  pub tile-read-in : (points : List Point) → points ≡ read → AreFiled filed bytes points
  tile-read-in points is = record {
    bytes_are = reads.0 ∙ ap tile (sym is);
    count = counted ∙ ap (λ (w : List Point). length w) (sym is);
    ascend = subst (λ (w : List Point). IsAscending w) (sym is) reads.1;
  }

  -- the first point outside the box is what is wrong
  pub unfit-first : (e : NodeError) (points : List Point) (first : ℕ) → points ≡ read → IsFirstOutside filed.site.rules.cube filed.site.key points first → e ≡ SpillDamaged (packed_width * filed.count) (packed_width * filed.count) first
      → (kept found at : ℕ) → e ≡ SpillDamaged kept found at → (kept ≡ length bytes) × (found ≡ kept) × ((told : Option (List ℕ)) → IsWrongAt (filed_node told filed) at bytes)
  unfit-first e points first is unfit made kept found at named =
      let same : SpillDamaged (packed_width * filed.count) (packed_width * filed.count) first ≡ SpillDamaged kept found at = sym made ∙ named in
      let all : packed_width * filed.count ≡ kept = cc in
      let as_many : packed_width * filed.count ≡ found = cc in
      let there : first ≡ at = cc in
      (sym all ∙ sym long, sym as_many ∙ all, λ told. unfit-at told points (Outside first) at is unfit there)

  -- a fault that no point has alone is at the end
  pub unfit-together : (e : NodeError) (points : List Point) (fault : GridError) → points ≡ read → IsTileFault filed.site.key filed.site.rules filed.mask points fault → place_of points fault ≡ length points → e ≡ SpillDamaged (packed_width * filed.count) (packed_width * filed.count) filed.count
      → (kept found at : ℕ) → e ≡ SpillDamaged kept found at → (kept ≡ length bytes) × (found ≡ kept) × ((told : Option (List ℕ)) → IsWrongAt (filed_node told filed) at bytes)
  unfit-together e points fault is unfit place made kept found at named =
      let same : SpillDamaged (packed_width * filed.count) (packed_width * filed.count) filed.count ≡ SpillDamaged kept found at = sym made ∙ named in
      let all : packed_width * filed.count ≡ kept = cc in
      let as_many : packed_width * filed.count ≡ found = cc in
      let last : filed.count ≡ at = cc in
      (sym all ∙ sym long, sym as_many ∙ all, λ told. unfit-at told points fault at is unfit (place ∙ (ap (λ (w : List Point). length w) is ∙ (sym counted ∙ last))))

-- ---- points that are listed without a node

pub listed-alike : (filed : Filed) (bytes : List ℕ) (points before after : List Point) → AreFiled filed bytes points → AllInBox filed.site.rules.cube filed.site.key points → after ≡ before ++ points → (told : Option (List ℕ)) → AppendsAlike (filed_node told filed) before after
listed-alike filed bytes points before after has inside grows told = record {
  added = points;
  grows = grows;
  count = sym has.count ∙ sym (length-told filed.site.rules.cube filed.site.key filed.count (unwrap_or told []));
  in_order = ascending-in_order points has.ascend;
  inside = inside;
}

pub listed-told : (filed : Filed) (told : Option (List ℕ)) (bytes : List ℕ) (points before after : List Point) → AreFiled filed bytes points → AllInBox filed.site.rules.cube filed.site.key points → Tells (λ held. held ≡ bytes) told → after ≡ before ++ points → Tells (λ _. after ≡ before ++ (filed_node told filed).points) told
listed-told filed None bytes points before after has inside tells grows = tt
listed-told filed (Some held) bytes points before after has inside tells grows =
    grows ∙ ap (λ (w : List Point). before ++ w) (sym (tile-told filed.site.rules.cube filed.site.key filed.count held points (tells ∙ has.bytes_are) has.count inside (ascending-in_order points has.ascend)))

-- of the node that the label shows
pub shown-alike : (filed : Filed) (told : Option (List ℕ)) (old : Node) (before after : List Point) → filed_node told filed ≡ old → AppendsAlike (filed_node told filed) before after → AppendsAlike old before after
shown-alike filed told old before after is appends = subst (λ (n : Node). AppendsAlike n before after) is appends

pub shown-told : (filed : Filed) (told : Option (List ℕ)) (old : Node) (before after : List Point) → filed_node told filed ≡ old → Tells (λ _. after ≡ before ++ (filed_node told filed).points) told → Tells (λ _. after ≡ before ++ old.points) told
shown-told filed told old before after is adds = subst (λ (n : Node). Tells (λ _. after ≡ before ++ n.points) told) is adds

-- if these bytes are the visible contents of the file, what is wrong with them is wrong with what it holds
pub damaged-told : (node : Node) (told : Option (List ℕ)) (bytes : List ℕ) (kept found at : ℕ) → Tells (λ held. held ≡ bytes) told → kept ≡ length bytes → found ≡ kept → IsWrongAt node at bytes → Tells (IsDamaged node kept found at) told
damaged-told node None bytes kept found at tells all same wrong = tt
damaged-told node (Some held) bytes kept found at tells all same wrong = record {
  found_all = same ∙ (all ∙ ap (λ (w : List ℕ). length w) (sym tells));
  wrong = inr (same, subst (λ (w : List ℕ). IsWrongAt node at w) (sym tells) wrong);
}

pub tile-read : (told : Option (List ℕ)) (bytes : List ℕ) (points : List Point) → Tells (λ held. held ≡ bytes) told → bytes ≡ tile points → Tells (λ held. held ≡ tile points) told
tile-read None bytes points tells is = tt
tile-read (Some held) bytes points tells is = tells ∙ is

-- ---- a tile that fits the node is not damaged

no-fault : (key : VoxelKey) (rules : Rules) (mask : ℕ) (points : List Point) (fault : GridError) → IsTile key rules mask points → IsTileFault key rules mask points fault → ⊥
no-fault key rules mask [] (Outside at) fits fault = absurd (let none = fault.within in omega (arith, none))
no-fault key rules mask (p ∷ points) (Outside at) fits fault = fault.outside p (fits.inside at p fault.within)
no-fault key rules mask points (OpenLoser at) fits fault = let e = sym fits.no_open_loser ∙ fault.1 in cc
no-fault key rules mask points (TooMany o) fits fault = let e : true ≡ false = sym fault.2.overfull ∙ fits.none_overfull o fault.2.one_of_eight in cc
no-fault key rules mask points Deep fits fault = fault.4 (fits.not_deep fault.3)
no-fault key rules mask points Memory fits fault = fault

not-wrong : ReadInOneWay → (node : Node) (at : ℕ) → IsAscending node.points → IsTile node.key node.rules node.mask node.points → IsWrongAt node at (tile node.points) → ⊥
not-wrong once node at up fits (inl field) = let e = once New (tile node.points) (Ok node.points) (Err (reading.Field at)) (refl, up) field in cc
not-wrong once node at up fits (inr (inl order)) = let e = once New (tile node.points) (Ok node.points) (Err (reading.Order at)) (refl, up) order in cc
not-wrong once node at up fits (inr (inr wrong)) =
    let same : node.points ≡ wrong.points = (let e = once New (tile node.points) (Ok node.points) (Ok wrong.points) (refl, up) wrong.reads in cc) in
    no-fault node.key node.rules node.mask node.points wrong.fault fits (subst (λ (w : List Point). IsTileFault node.key node.rules node.mask w wrong.fault) (sym same) wrong.unfit)

not-damaged : ReadInOneWay → EachTileHasLength → (node : Node) (bytes : List ℕ) (kept found at : ℕ) → IsAscending node.points → IsTile node.key node.rules node.mask node.points → bytes ≡ tile node.points → kept ≡ packed_width * length node.points → IsDamaged node kept found at bytes → ⊥
not-damaged once lengths node bytes kept found at up fits is all damaged =
    elim damaged.wrong [
      | inl other ↦ other.0 (damaged.found_all ∙ (ap (λ (w : List ℕ). length w) is ∙ (lengths New node.points ∙ sym all)))
      | inr wrong ↦ not-wrong once node at up fits (subst (λ (w : List ℕ). IsWrongAt node at w) is wrong.1)
    ]

pub intact-told : ReadInOneWay → EachTileHasLength → (node : Node) (told : Option (List ℕ)) (r : ℕ → ℕ → ℕ → Type 0) → (HasDistinctIds node.points → IsAscending node.points) → ((kept found at : ℕ) → r kept found at → kept ≡ packed_width * length node.points) → ((kept found at : ℕ) → r kept found at → Tells (IsDamaged node kept found at) told) → Tells (IsTileOf node) told → HasDistinctIds node.points → Tells (λ _. (kept found at : ℕ) → r kept found at → ⊥) told
intact-told once lengths node None r up all damaged tells distinct = tt
intact-told once lengths node (Some bytes) r up all damaged tells distinct =
    λ kept found at is. not-damaged once lengths node bytes kept found at (up distinct) (tells.fits distinct) tells.bytes_are (all kept found at is) (damaged kept found at is)
