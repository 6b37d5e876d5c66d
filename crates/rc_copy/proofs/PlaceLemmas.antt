-- Where directories are made, and what is to be purged is gone, files have their places.
use Rattle.std.proofs.Common.{◌≡◌, ◌≢◌, ℕ, ◌<◌, Bool, true, ◌&&◌, List, [], ◌∷◌, Option, Some, None, length, get_or, take, inl, inr, refl, sym, ap, subst, ◌∙◌, arith}
use Rattle.std.proofs.lemmas.Bool.{true≢false}
use Rattle.std.proofs.lemmas.List.{get_or_default, length-map, take-map}
use Rattle.std.specs.Prelude.{IfSome, IsSomeAnd, if◌then◌else◌}
use Rattle.std.specs.FinMap.{get}
use Rattle.rc_tree.specs.declared.attr.Kind.{Kind}
use Rattle.rc_tree.specs.declared.attr.Kind.TheVariants.{File, Dir}
use Rattle.rc_tree.specs.Codes.{is_dir}
use Rattle.rc_tree.specs.Name.{folded}
use Rattle.rc_tree.specs.Path.{key_of, parent_of}
use Rattle.rc_tree.specs.Tree.{IsDirectory, Node, Tree}
use Rattle.rc_class.specs.declared.decision.Act.{Act}
use Rattle.rc_class.specs.declared.decision.Act.TheVariants as act
use Rattle.rc_class.specs.declared.item.Item.{Item}
use Rattle.rc_class.specs.Class.{is_lonely}
use Rattle.rc_class.specs.Items.{are_rising, item_at}
use Rattle.rc_class.specs.Sides.{Acts, Beside, HasKind, IsPlace, IsReady, is_put, may_act}
use Rattle.rc_class.specs.Units.{is_copy}
use Rattle.rc_volume.specs.Site.{Told}
use Rattle.rc_finish.specs.Passes.{begun_directory, directory_at, is_make, is_purge, pass_at, AreBelowRoot, AreFit, HasPassed}
use Rattle.rc_copy.specs.Copying.{AreCopyable, AreDecided, HasPlace, IfCopyable, readied}
use Rattle.rc_copy.proofs.ItemLemmas.{found_own}

-- Acts

-- what an act makes of what stands at a path, before files are copied
abbrev readied_by : Act → List (List ℕ) → Option Node → Option Node
readied_by does path target = if is_purge does then None else if is_make does then directory_at path target else target

copied_stays : (does : Act) (path : List (List ℕ)) (target : Option Node) → is_copy does ≡ true → readied_by does path target ≡ target
copied_stays act.Copy path target copies = refl
copied_stays _ path target copies = absurd (true≢false (sym copies))

puts : (does : Act) → is_copy does ≡ true → is_put does ≡ true
puts act.Copy copies = refl
puts _ copies = absurd (true≢false (sym copies))

dir_kind : (k : Kind) (b : Bool) → is_dir k && b ≡ true → k ≡ Dir
dir_kind Dir b e = refl
dir_kind File b e = absurd (true≢false (sym e))

-- Directories

-- a directory that stands is passed over, but where it is purged
stays_by : (does : Act) (path : List (List ℕ)) (node : Node) → (does ≡ act.Purge → ⊥) → readied_by does path (Some node) ≡ Some node
stays_by act.Purge path node kept = absurd (kept refl)
stays_by _ path node kept = refl

dir_stays : (o : Option Item) (source : Option Node) (node : Node) → (Acts act.Purge o → ⊥) → pass_at readied o source (Some node) ≡ Some node
dir_stays None source node kept = refl
dir_stays (Some item) source node kept = stays_by item.act item.path node kept

abbrev Stands : Option Node → Type 0
Stands o = IfSome o (λ node. node.kind ≡ Dir) × (o ≢ None)

none_some : {A : Type 0} (x : A) → Some x ≡ None → ⊥
none_some x e = cc

is_standing : (o : Option Node) (node : Node) → o ≡ Some node → node.kind ≡ Dir → Stands o
is_standing o node e kind = subst Stands (sym e) (kind, none_some node)

kept_standing : (o : Option Item) (source target now : Option Node) → now ≡ pass_at readied o source target → HasKind Dir target → (Acts act.Purge o → ⊥) → Stands now
kept_standing o source None now e kind kept = absurd kind
kept_standing o source (Some node) now e kind kept = is_standing now node (e ∙ dir_stays o source node kept) kind

begun_is_dir : (path : List (List ℕ)) (target : Option Node) → IfSome target (λ node. node.kind ≡ Dir) → (begun_directory path target).kind ≡ Dir
begun_is_dir path None kind = refl
begun_is_dir path (Some node) kind = kind

made_standing : (item : Item) (source target now : Option Node) → now ≡ pass_at readied (Some item) source target → item.act ≡ act.Make → may_act item.class item.facts.kind item.act ≡ true → IsReady item.act item.facts.kind target → Stands now
made_standing item source target now e makes allowed ready =
    let fits : is_dir item.facts.kind && is_lonely item.class ≡ true = subst (λ (a : Act). may_act item.class item.facts.kind a ≡ true) makes allowed in
    let kind = dir_kind item.facts.kind (is_lonely item.class) fits in
    let is : IfSome target (λ node. node.kind ≡ Dir) =
    subst (λ (k : Kind). IfSome target (λ node. node.kind ≡ k)) kind (subst (λ (a : Act). IsReady a item.facts.kind target) makes ready) in
    is_standing now (begun_directory item.path target)
    (e ∙ ap (λ (a : Act). readied_by a item.path target) makes)
    (begun_is_dir item.path target is)

-- The directory of a file

parent_key : (names : List (List ℕ)) (parent : List (List ℕ)) → parent_of names ≡ Some parent → parent_of (key_of names) ≡ Some (key_of parent)
parent_key [] parent e = absurd (none_some parent (sym e))
parent_key (name ∷ names) parent e =
    ap (λ (n : ℕ). Some (take n (key_of (name ∷ names)))) (length-map names folded)
    ∙ ap (λ (key : List (List ℕ)). Some key) (take-map folded (length names) (name ∷ names))
    ∙ ap (λ (key : List (List ℕ)). Some (key_of key)) (same_some (take (length names) (name ∷ names)) parent e)
  where
    same_some : (x y : List (List ℕ)) → Some x ≡ Some y → x ≡ y
    same_some x y h = cc

place_made : (items : List Item) (start now : Told) (above : List (List ℕ)) → AreFit items start → AreDecided items start → HasPassed readied items start now.target → IsPlace (item_at items) start.target above → IsDirectory now.target above
place_made items start now [] fit decided passed place = tt
place_made items start now (name ∷ names) fit decided passed (inl stays) =
    kept_standing (item_at items (name ∷ names)) (get start.source (name ∷ names)) (get start.target (name ∷ names)) (get now.target (name ∷ names)) (passed (name ∷ names)) stays.0 stays.1
place_made items start now (name ∷ names) fit decided passed (inr makes) = by (item_at items (name ∷ names)) refl makes
  where
    by : (o : Option Item) → item_at items (name ∷ names) ≡ o → Acts act.Make o → Stands (get now.target (name ∷ names))
    by None e h = absurd h
    by (Some item) e h =
        made_standing item (get start.source (name ∷ names)) (get start.target (name ∷ names)) (get now.target (name ∷ names))
        (passed (name ∷ names) ∙ ap (λ o. pass_at readied o (get start.source (name ∷ names)) (get start.target (name ∷ names))) e)
        h (decided (name ∷ names) item e).1 (fit (name ∷ names) item e).0.target_has

has_place : (items : List Item) (start now : Told) (item : Item) → AreFit items start → AreDecided items start → HasPassed readied items start now.target → item_at items (key_of item.path) ≡ Some item → is_copy item.act ≡ true → 0 < length item.path → HasPlace now.target item.path
has_place items start now item fit decided passed own copies below = by (parent_of item.path) refl
  where
    some_parent : (names : List (List ℕ)) → 0 < length names → parent_of names ≡ None → ⊥
    some_parent [] l e = absurd (omega (arith, l))
    some_parent (name ∷ names) l e = none_some (take (length names) (name ∷ names)) e

    by : (o : Option (List (List ℕ))) → parent_of item.path ≡ o → IsSomeAnd o (λ parent. IsDirectory now.target (key_of parent))
    by None e = absurd (some_parent item.path below e)
    by (Some parent) e =
        place_made items start now (key_of parent) fit decided passed
        ((fit (key_of item.path) item own).0.place (key_of parent) (puts item.act copies) (parent_key item.path parent e))

-- What a copy asks

-- both sides as at the start, and the place
pub copyable_behind : (items : List Item) (start now : Told) → are_rising items ≡ true → AreBelowRoot items → AreFit items start → AreDecided items start → now.source ≡ start.source → HasPassed readied items start now.target → AreCopyable now items
copyable_behind items start now rising below fit decided same passed k d l =
    at (get_or items k d) (found_own items k (get_or items k d) rising l (get_or_default items k d (get_or items k d) l)) (below k d l)
  where
    at : (item : Item) → item_at items (key_of item.path) ≡ Some item → 0 < length item.path → IfCopyable now item
    at item own rooted copies =
        let key = key_of item.path in
        let sides = decided key item own in
        let stays : get now.target key ≡ get start.target key =
        passed key ∙ ap (λ o. pass_at readied o (get start.source key) (get start.target key)) own
        ∙ copied_stays item.act item.path (get start.target key) copies in
        record {
          beside =
              subst (λ (tree : Tree). Beside item.class item (get tree key) (get now.target key)) (sym same)
              (subst (λ (o : Option Node). Beside item.class item (get start.source key) o) (sym stays) sides.0);
          allowed = sides.1;
          place = has_place items start now item fit decided passed own copies rooted;
        }
