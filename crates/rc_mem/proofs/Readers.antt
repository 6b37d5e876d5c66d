-- The files that a reader shares: one more of them, and what is read of them.
use Rattle.std.proofs.Common.{◌≡◌, ℕ, ◌+◌, ◌<◌, ◌≤◌, List, [], length, get_or, take, Option, Some, None, refl, sym, ap, subst, ◌∙◌, arith}
use Rattle.std.specs.Prelude.{IsSome, option_map, unwrap_or}
use Rattle.std.specs.List.{All, Contains}
use Rattle.std.specs.BTreeMap as btree
use Rattle.std.specs.BTreeMap.{IsEmpty, Updates}
use Rattle.std.specs.FinMap.{get}
use Rattle.std.specs.Map.{lookup}
use Rattle.std.specs.Ordering.{is_eq}
use Rattle.std.proofs.lemmas.List.Elements.{All-more}
use Rattle.rc_tree.specs.declared.attr.Kind.TheVariants.{File}
use Rattle.rc_tree.specs.Path.{key_of, key_cmp}
use Rattle.rc_tree.specs.Tree.{Node, Tree}
use Rattle.rc_tree.proofs.Keys.{key_cmp-IsAntisymmetric}
use Rattle.rc_volume.specs.declared.want.Want.{Want}
use Rattle.rc_volume.specs.Reading.{Opens, part_of}
use Rattle.rc_volume.specs.Site.{IsWithin, ReadsFrom, bytes_in}
use Rattle.rc_mem.specs.Reading.{FileMap, Shares, shared_at}
use Rattle.rc_mem.proofs.Maps.{PutsAt, puts-from_updates}
use Rattle.rc_mem.proofs.Trees.{differ_or, some_and}

-- the bytes of what stands
abbrev pub bytes_of : Option Node → Option (List ℕ)
bytes_of o = option_map (λ (node : Node). node.bytes) o

some-map : (o : Option Node) → IsSome o → IsSome (bytes_of o)
some-map None some = some
some-map (Some node) some = refl

in-bytes : (o : Option Node) → unwrap_or (bytes_of o) [] ≡ bytes_in o
in-bytes None = refl
in-bytes (Some node) = refl

-- what is wanted of a tree stands there
pub within-stands : (tree : Tree) (want : Want) → IsWithin tree want → IsSome (get tree (key_of want.path))
within-stands tree want within = (let file = some_and (get tree (key_of want.path)) (λ (node : Node). (node.kind ≡ File) × All (λ range. range.0 + range.1 ≤ length node.bytes) want.ranges) within in subst IsSome (sym file.1) refl)

-- nothing is wanted
pub shares-none : (tree : Tree) (files : FileMap) → IsEmpty files → Shares tree [] files
shares-none tree files empty = record {
  same = λ key some. (let none : btree.get key_cmp files key ≡ None = ap (λ es. lookup (λ k. is_eq (key_cmp key k)) es) empty in let no = subst IsSome none some in cc);
  wanted = λ k d lt. absurd (omega arith);
}

-- one more file
pub shares-more : (tree : Tree) (wants : List Want) (i : ℕ) (want : Want) (old new : FileMap) → Shares tree (take i wants) old → i < length wants → want ≡ get_or wants i want → IsSome (get tree (key_of want.path))
    → Updates key_cmp old new (key_of want.path) (bytes_of (get tree (key_of want.path))) → Shares tree (take (i + 1) wants) new
shares-more tree wants i want old new shares lt is stands updates =
    let k = key_of want.path in
    let puts : PutsAt key_cmp k (bytes_of (get tree k)) old new = puts-from_updates key_cmp-IsAntisymmetric k (bytes_of (get tree k)) old new updates in
    let here : IsSome (btree.get key_cmp new k) = subst IsSome (sym puts.here) (some-map (get tree k) stands) in
    let stays : (w : Want) → IsSome (btree.get key_cmp old (key_of w.path)) → IsSome (btree.get key_cmp new (key_of w.path)) =
    (λ w some. differ_or (key_of w.path) k (λ e. subst (λ (q : List (List ℕ)). IsSome (btree.get key_cmp new q)) (sym e) here) (λ apart. subst IsSome (sym (puts.others (key_of w.path) apart)) some)) in
    record {
      same = λ key some. differ_or key k
          (λ e. ap (btree.get key_cmp new) e ∙ puts.here ∙ ap (λ q. bytes_of (get tree q)) (sym e))
          (λ apart. puts.others key apart ∙ shares.same key (subst IsSome (puts.others key apart) some));
      wanted = All-more (λ (w : Want). IsSome (btree.get key_cmp new (key_of w.path))) wants i want lt (λ j d less. stays (get_or (take i wants) j d) (shares.wanted j d less))
          (subst (λ (w : Want). IsSome (btree.get key_cmp new (key_of w.path))) is here);
    }

module _ (tree : Tree) (wants : List Want) (files : FileMap) (shares : Shares tree wants files) where
  -- at a key that is wanted the bytes are the tree's
  same-bytes : (key : List (List ℕ)) (want : Want) → Contains wants want → key_of want.path ≡ key → shared_at files key ≡ bytes_in (get tree key)
  same-bytes key want among is =
      let some : IsSome (btree.get key_cmp files (key_of want.path)) = subst (λ (w : Want). IsSome (btree.get key_cmp files (key_of w.path))) among.2 (shares.wanted among.0 want among.1) in
      ap (λ o. unwrap_or o []) (shares.same key (subst (λ (q : List (List ℕ)). IsSome (btree.get key_cmp files q)) is some)) ∙ in-bytes (get tree key)

  -- so they are what is read
  pub reads-shares : ReadsFrom tree wants (shared_at files)
  reads-shares key off len opens = ap (part_of off len) (same-bytes key opens.0 opens.2 opens.3)

  -- and what is wanted lies within them
  pub within-shares : All (IsWithin tree) wants → (key : List (List ℕ)) (off len : ℕ) → Opens wants key off len → off + len ≤ length (shared_at files key)
  within-shares within key off len opens =
      let want = opens.0 in
      let range = opens.1 in
      let file = some_and (get tree (key_of want.path)) (λ (node : Node). (node.kind ≡ File) × All (λ range. range.0 + range.1 ≤ length node.bytes) want.ranges) (subst (IsWithin tree) opens.2.2 (within opens.2.0 want opens.2.1)) in
      let end : range.0 + range.1 ≤ length file.0.bytes = subst (λ (r : ℕ × ℕ). r.0 + r.1 ≤ length file.0.bytes) opens.4.2 (file.2.1 opens.4.0 range opens.4.1) in
      let bytes : shared_at files key ≡ file.0.bytes = same-bytes key want opens.2 opens.3 ∙ ap bytes_in (ap (get tree) (sym opens.3) ∙ file.1) in
      subst (λ (bs : List ℕ). off + len ≤ length bs) (sym bytes) (omega (arith, opens.5, opens.6))
