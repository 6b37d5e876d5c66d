-- Where a directory can be made, and that it can be made still when an attempt failed.
use Rattle.std.proofs.Common.{◌≡◌, ◌≢◌, ℕ, zero, suc, ◌<◌, Bool, true, false, cond, List, [], ◌∷◌, Option, Some, None, get_or, length, map, take, refl, sym, ap, subst, ◌∙◌, inl, inr, arith, length-take}
use Rattle.std.proofs.lemmas.Bool.{true≢false}
use Rattle.std.proofs.lemmas.List.{length-map, take-map}
use Rattle.std.specs.Prelude.{IfSome, IsSomeAnd}
use Rattle.std.specs.FinMap.{get}
use Rattle.std.specs.Cmp.{tied_itself}
use Rattle.std.specs.Ordering.{ordering_then}
use Rattle.std.specs.declared.cmp.Ordering.TheVariants.{Less}
use Rattle.rc_tree.specs.declared.attr.Kind.{Kind}
use Rattle.rc_tree.specs.declared.attr.Kind.TheVariants.{Dir}
use Rattle.rc_tree.specs.Name.{folded}
use Rattle.rc_tree.specs.Path.{key_cmp, key_of, parent_of}
use Rattle.rc_tree.specs.Tree.{IsDirectory, Node, Tree}
use Rattle.rc_tree.proofs.Keys.{name_cmp-total}
use Rattle.rc_class.specs.declared.decision.Act.{Act}
use Rattle.rc_class.specs.declared.decision.Act.TheVariants as act
use Rattle.rc_class.specs.declared.item.Item.{Item}
use Rattle.rc_class.specs.Items.{are_rising, item_at}
use Rattle.rc_class.specs.Sides.{is_put, Acts, IsPlace, IsReady}
use Rattle.rc_volume.specs.declared.site.Side.TheVariants.{Target}
use Rattle.rc_volume.specs.Site.{Maybe, Told}
use Rattle.rc_finish.specs.Passes.{directory_at, is_make, made, pass_at, AreFit, HasPassed, IsMakable, IsNow}
use Rattle.rc_finish.proofs.ItemKeys.{front_has, front_missing, own_item}
use Rattle.rc_finish.proofs.PassLemmas.{still}

-- a directory that stands is made no further
pub directory_again : (path : List (List ℕ)) (o : Option Node) → directory_at path (directory_at path o) ≡ directory_at path o
directory_again path None = refl
directory_again path (Some node) = refl

is_dir_still : (path : List (List ℕ)) (o n : Option Node) → IfSome o (λ node. node.kind ≡ Dir) → Maybe (IsNow (directory_at path)) o n → IfSome n (λ node. node.kind ≡ Dir)
is_dir_still path o n dir (inl same) = subst (λ (x : Option Node). IfSome x (λ node. node.kind ≡ Dir)) (sym same) dir
is_dir_still path None n dir (inr done) = subst (λ (x : Option Node). IfSome x (λ node. node.kind ≡ Dir)) (sym done) refl
is_dir_still path (Some node) n dir (inr done) = subst (λ (x : Option Node). IfSome x (λ node. node.kind ≡ Dir)) (sym done) dir

pub directory_still : (old new : Tree) (key : List (List ℕ)) → get new key ≡ get old key → IsDirectory old key → IsDirectory new key
directory_still old new [] same dir = tt
directory_still old new (name ∷ names) same dir =
    (subst (λ (x : Option Node). IfSome x (λ node. node.kind ≡ Dir)) (sym same) dir.0, λ none. dir.1 (sym same ∙ none))

parent_apart : (name : List ℕ) (names : List (List ℕ)) → key_of (take (length names) (name ∷ names)) ≢ key_of (name ∷ names)
parent_apart name names same =
    let lengths : length (map folded (take (length names) (name ∷ names))) ≡ length (map folded (name ∷ names)) = ap (λ (k : List (List ℕ)). length k) same in
    omega (arith, lengths, length-map (take (length names) (name ∷ names)) folded, length-map names folded, length-take (length names) (name ∷ names))

-- a change at the path alone leaves it makable
pub still_makable : (old new : Tree) (path : List (List ℕ)) → IsMakable old path → Maybe (IsNow (directory_at path)) (get old (key_of path)) (get new (key_of path)) → ((other : List (List ℕ)) → other ≢ key_of path → get new other ≡ get old other) → IsMakable new path
still_makable old new path is way others = record {
  parent = above path is.parent others;
  here = is_dir_still path (get old (key_of path)) (get new (key_of path)) is.here way;
}
  where
    above : (path : List (List ℕ)) → IsSomeAnd (parent_of path) (λ parent. IsDirectory old (key_of parent)) → ((other : List (List ℕ)) → other ≢ key_of path → get new other ≡ get old other) → IsSomeAnd (parent_of path) (λ parent. IsDirectory new (key_of parent))
    above [] dir others = dir
    above (name ∷ names) dir others =
        let parent = key_of (take (length names) (name ∷ names)) in
        directory_still old new parent (others parent (parent_apart name names)) dir

-- The directory of an item

make_is_put : (does : Act) → is_make does ≡ true → is_put does ≡ true
make_is_put act.Make is = refl
make_is_put act.Copy is = absurd (true≢false (sym is))
make_is_put act.Touch is = refl
make_is_put act.Fix is = refl
make_is_put act.Purge is = absurd (true≢false (sym is))
make_is_put act.Extra is = absurd (true≢false (sym is))
make_is_put act.Mismatch is = absurd (true≢false (sym is))
make_is_put (act.Keep reason) is = absurd (true≢false (sym is))

pub is_make_so : (does : Act) → is_make does ≡ true → does ≡ act.Make
is_make_so act.Make is = refl
is_make_so act.Copy is = absurd (true≢false (sym is))
is_make_so act.Touch is = absurd (true≢false (sym is))
is_make_so act.Fix is = absurd (true≢false (sym is))
is_make_so act.Purge is = absurd (true≢false (sym is))
is_make_so act.Extra is = absurd (true≢false (sym is))
is_make_so act.Mismatch is = absurd (true≢false (sym is))
is_make_so (act.Keep reason) is = absurd (true≢false (sym is))

parent_key : (name : List ℕ) (names : List (List ℕ)) → parent_of (key_of (name ∷ names)) ≡ Some (key_of (take (length names) (name ∷ names)))
parent_key name names =
    ap (λ (n : ℕ). Some (take n (map folded (name ∷ names)))) (length-map names folded)
    ∙ ap (λ (key : List (List ℕ)). Some key) (take-map folded (length names) (name ∷ names))

-- a directory's key comes before those in it
front_below : (n : ℕ) (key : List (List ℕ)) → n < length key → key_cmp (take n key) key ≡ Less
front_below n [] l = absurd (omega (arith, l))
front_below zero (name ∷ names) l = refl
front_below (suc n) (name ∷ names) l =
    ap (λ r. ordering_then r (key_cmp (take n names) names)) (tied_itself name_cmp-total name) ∙ front_below n names (omega (arith, l))

parent_below : (name : List ℕ) (names : List (List ℕ)) → key_cmp (key_of (take (length names) (name ∷ names))) (key_of (name ∷ names)) ≡ Less
parent_below name names =
    ap (λ (key : List (List ℕ)). key_cmp key (key_of (name ∷ names))) (sym (take-map folded (length names) (name ∷ names)))
    ∙ front_below (length names) (key_of (name ∷ names)) (omega (arith, length-map (name ∷ names) folded))

-- what stands there is a directory
abbrev IsDir : Option Node → Type 0
IsDir o = IsSomeAnd o (λ node. node.kind ≡ Dir)

is_directory : (tree : Tree) (key : List (List ℕ)) → IsDir (get tree key) → IsDirectory tree key
is_directory tree [] dir = tt
is_directory tree (name ∷ names) dir = by (get tree (name ∷ names)) dir
  where
    by : (o : Option Node) → IsDir o → IfSome o (λ node. node.kind ≡ Dir) × (o ≢ None)
    by None dir = absurd dir
    by (Some node) dir = (dir, λ e. cc)

kept_dir : (item : Item) (source target : Option Node) → IsDir target → IsDir (made item source target)
kept_dir item source None dir = absurd dir
kept_dir item source (Some node) dir = by (is_make item.act)
  where
    by : (b : Bool) → IsDir (cond b (directory_at item.path (Some node)) (Some node))
    by true = dir
    by false = dir

kept_all : (o : Option Item) (source target : Option Node) → IsDir target → IsDir (pass_at made o source target)
kept_all None source target dir = dir
kept_all (Some item) source target dir = kept_dir item source target dir

pub made_dir : (item : Item) (source target : Option Node) → is_make item.act ≡ true → IfSome target (λ node. node.kind ≡ Dir) → IsDir (made item source target)
made_dir item source target is ready =
    subst (λ (b : Bool). IsDir (cond b (directory_at item.path target) target)) (sym is) (by target ready)
  where
    by : (o : Option Node) → IfSome o (λ node. node.kind ≡ Dir) → IsDir (directory_at item.path o)
    by None ready = refl
    by (Some node) ready = ready

pub ready_dir : (does : Act) (kind : Kind) (target : Option Node) → is_make does ≡ true → kind ≡ Dir → IsReady does kind target → IfSome target (λ node. node.kind ≡ Dir)
ready_dir does kind target is dir ready =
    subst (λ (k : Kind). IfSome target (λ node. node.kind ≡ k)) dir
    (subst (λ (a : Act). IsReady a kind target) (is_make_so does is) ready)

pub acting : (does : Act) (o : Option Item) → Acts does o → (item : Item) × (o ≡ Some item) × (item.act ≡ does)
acting does None acts = absurd acts
acting does (Some item) acts = (item, refl, acts)

-- each item that is made has its directory when its turn comes
module _ (items : List Item) (i : ℕ) (item : Item) (start : Told) (now : Tree) (rising : are_rising items ≡ true) (fit : AreFit items start) (l : i < length items) (is : item ≡ get_or items i item) (sofar : HasPassed made (take i items) start now) where
  -- one that stays or was made stands there now
  place_now : (key : List (List ℕ)) → key_cmp key (key_of item.path) ≡ Less → IsPlace (item_at items) start.target key → IsDirectory now key
  place_now [] below place = tt
  place_now (name ∷ names) below (inl (stays, not_purged)) =
      let key = name ∷ names in
      is_directory now key
      (subst IsDir (sym (sofar key)) (kept_all (item_at (take i items) key) (get start.source key) (get start.target key) stays))
  place_now (name ∷ names) below (inr makes) =
      let key = name ∷ names in
      let above = acting act.Make (item_at items key) makes in
      let own : is_make above.0.act ≡ true = ap is_make above.2 in
      let fits = fit key above.0 above.1 in
      let ready = ready_dir above.0.act above.0.facts.kind (get start.target key) own (fits.1 own) fits.0.target_has in
      is_directory now key
      (subst IsDir (sym (sofar key ∙ ap (λ o. pass_at made o (get start.source key) (get start.target key)) (front_has items i item key above.0 rising l is below above.1)))
      (made_dir above.0 (get start.source key) (get start.target key) own ready))

  pub makable : 0 < length item.path → is_make item.act ≡ true → IsMakable now item.path
  makable some own =
      let fits = fit (key_of item.path) item (own_item items i item rising l is) in
      record {
        parent = above item.path refl some;
        here = subst (λ (o : Option Node). IfSome o (λ node. node.kind ≡ Dir)) (sym (still Target made start (take i items) item now (front_missing items i item rising l is) sofar))
            (ready_dir item.act item.facts.kind (get start.target (key_of item.path)) own (fits.1 own) fits.0.target_has);
      }
    where
      above : (path : List (List ℕ)) → item.path ≡ path → 0 < length path → IsSomeAnd (parent_of path) (λ parent. IsDirectory now (key_of parent))
      above [] same some = absurd (omega (arith, some))
      above (name ∷ names) same some =
          let key = key_of (take (length names) (name ∷ names)) in
          let fits = fit (key_of item.path) item (own_item items i item rising l is) in
          place_now key
          (ap (key_cmp key) (ap key_of same) ∙ parent_below name names)
          (fits.0.place key (make_is_put item.act own) (ap (λ (path : List (List ℕ)). parent_of (key_of path)) same ∙ parent_key name names))
