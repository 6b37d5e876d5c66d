-- The lines of a tree's entries: one more line is one more entry, and the entries of a tree are read again.
use Rattle.std.proofs.Common.{◌≡◌, ◌≢◌, ℕ, ◌<◌, ◌≤◌, true, List, [], ◌∷◌, ◌++◌, length, take, Option, Some, None, Ok, refl, sym, ap, subst, ◌∙◌, append_assoc, arith}
use Rattle.std.specs.Prelude.{T, IfSome, IsSomeAnd, option_map}
use Rattle.std.specs.List.{AllByRecursion, flat_map, list_all}
use Rattle.std.specs.Str.{all_scalars}
use Rattle.std.specs.Ordering.{is_lt}
use Rattle.std.specs.FinMap.{get, entries, insert, empty, find, is_sorted, entries_sorted, get-empty, get-entries, len-entries, len-empty}
use Rattle.std.proofs.lemmas.List.{append-nil, length-map, nil_from_length}
use Rattle.std.proofs.lemmas.List.Concat.{flat_map-append, flat_map-cons}
use Rattle.rc_tree.specs.declared.attr.Kind.TheVariants.{Dir}
use Rattle.rc_tree.specs.Name.{name_fault}
use Rattle.rc_tree.specs.Path.{key_cmp, key_of, last_name, parent_of}
use Rattle.rc_tree.specs.Spelled.{spelled, spelling_at, spelling_of}
use Rattle.rc_tree.specs.Tree.{Node, Tree, FitsAt, IsDirectory, IsTree}
use Rattle.rc_tree.proofs.Fronts.{by_last, spelled-key, spelled-last, spelled-more}
use Rattle.rc_tree.proofs.Keys.{key_cmp-total}
use Rattle.rc_mem.specs.Nodes.{IsSpelledIn}
use Rattle.rc_mem.proofs.Steps.{above-absent}
use Rattle.rc_mem.proofs.Trees.{differ_or, get-inserted, get-inserted_other, IsTree-added, node_fits, snoc}
use Rattle.rc_sitetext.specs.SiteText.{entry_fields, entry_line, tree_lines, FitsLine, IsSpellable}
use Rattle.rc_sitetext.specs.Reading.{bytes_of, entry_texts, fields_at, is_above, is_within, node_of, values_at}
use Rattle.rc_sitetext.specs.Faults.{added_at}
use Rattle.rc_sitetext.proofs.Binds.{holds_ok, needs_ok, ok_is}
use Rattle.rc_sitetext.proofs.LineAgain.{content_for, fields_again, fields_for, node_is, texts_again, values_again, values_for}
use Rattle.rc_sitetext.proofs.LineLaws.{LineFits, entry_take}
use Rattle.rc_sitetext.proofs.PathTexts.{AreNamed, AreTexts, last_is}
use Rattle.rc_sitetext.proofs.Rising.{above_each, above_front, entries-insert_last, found_at}
use Rattle.rc_sitetext.proofs.Ways.{IsOwnDir, ends, keeps-spelled, more-spelled, own-is, own_dir-from, spelled-own, within_again}

pub entries_empty : entries (empty {X = Node} {R = key_cmp}) ≡ []
entries_empty = nil_from_length (entries empty) (sym (len-entries (empty {X = Node} {R = key_cmp})) ∙ len-empty key_cmp Node)

-- One more entry

-- what a line can say of a node
node_fits_line : (path : List (List ℕ)) (node : Node) → LineFits path node → FitsLine node
node_fits_line path node fits =
    record {
      characters = subst (λ (name : List ℕ). all_scalars name ≡ true) (sym fits.spelling) (last_is (λ name. all_scalars name ≡ true) path fits.names.characters fits.names.some);
      created = fits.props.created;
      written = fits.props.written;
      access = fits.props.access;
      owner = fits.props.owner;
      audit = fits.props.audit;
      bytes = fits.bytes.are_bytes;
      size = fits.bytes.size;
    }

-- an entry that may come next
pub record Comes (tree : Tree) (path : List (List ℕ)) : Type 0 where
  pub above : list_all (λ e. is_lt (key_cmp e.0 (key_of path))) (entries tree) ≡ true
  pub within : is_within tree (parent_of path) ≡ true

absent : (tree : Tree) (path : List (List ℕ)) → Comes tree path → get tree (key_of path) ≡ None
absent tree path comes = above-absent tree (key_of path) (above_each key_cmp key_cmp-total (key_of path) (entries tree) comes.above)

own_above : (tree : Tree) (name : List ℕ) (names : List (List ℕ)) → IsTree tree → Comes tree (name ∷ names) → IsOwnDir tree (take (length names) (name ∷ names))
own_above tree name names is comes = own_dir-from tree (take (length names) (name ∷ names)) is comes.within

directory_above : (tree : Tree) (path : List (List ℕ)) → IsTree tree → Comes tree path → 0 < length path → IsSomeAnd (parent_of path) (λ parent. IsDirectory tree (key_of parent))
directory_above tree [] is comes some = absurd (omega arith)
directory_above tree (name ∷ names) is comes some = (own_above tree name names is comes).stands

module _ (tree : Tree) (path : List (List ℕ)) (node : Node) (shape : IsSpellable tree) (comes : Comes tree path) (fits : LineFits path node) where
  more_fits : (key : List (List ℕ)) → IfSome (get (insert tree (key_of path) node) key) FitsLine
  more_fits key = differ_or key (key_of path)
      (λ e. subst (λ (o : Option Node). IfSome o FitsLine) (sym (ap (get (insert tree (key_of path) node)) e ∙ get-inserted tree (key_of path) node)) (node_fits_line path node fits))
      (λ apart. subst (λ (o : Option Node). IfSome o FitsLine) (sym (get-inserted_other tree (key_of path) node key apart)) (shape.1 key))

  pub more_spellable : IsSpellable (insert tree (key_of path) node)
  more_spellable = (
    IsTree-added tree path node shape.0 (directory_above tree path shape.0 comes fits.names.some) (absent tree path comes) fits.spelling fits.names.depth
        (λ some. last_is (λ name. name_fault name ≡ None) path fits.names.named some) fits.bytes.none,
    more_fits,
  )

  more_kept : (key : List (List ℕ)) → get tree key ≢ None → get (insert tree (key_of path) node) key ≡ get tree key
  more_kept key there = get-inserted_other tree (key_of path) node key (λ e. there (ap (get tree) e ∙ absent tree path comes))

-- it is spelled as the tree spells it
more_own : (tree : Tree) (path : List (List ℕ)) (node : Node) → IsSpellable tree → Comes tree path → LineFits path node → IsSpelledIn (insert tree (key_of path) node) path
more_own tree [] node shape comes fits = absurd (let some = fits.names.some in omega (arith, some))
more_own tree (name ∷ names) node shape comes fits =
    let path : List (List ℕ) = name ∷ names in
    let dir : List (List ℕ) = take (length names) (name ∷ names) in
    let new : Tree = insert tree (key_of path) node in
    let split : path ≡ dir ++ last_name path ∷ [] = ends name names in
    let front : IsSpelledIn new dir = keeps-spelled tree new dir (λ n some le there. more_kept tree path node shape comes fits (key_of (take n dir)) there) (own_above tree name names shape.0 comes).spelled in
    let last : option_map (λ (x : Node). x.spelling) (get new (key_of path)) ≡ Some (last_name path) = ap (option_map (λ (x : Node). x.spelling)) (get-inserted tree (key_of path) node) ∙ ap (λ (x : List ℕ). Some x) fits.spelling in
    subst (IsSpelledIn new) (sym split)
    (more-spelled new dir (last_name path) front (subst (λ (p : List (List ℕ)). option_map (λ (x : Node). x.spelling) (get new (key_of p)) ≡ Some (last_name path)) split last))

-- a line that was read: its entry, and the tree with it
pub record Added (tree : Tree) (line : List ℕ) (more : Tree) : Type 0 where
  pub path : List (List ℕ)
  pub node : Node
  pub text : line ≡ entry_fields path node
  pub fits : LineFits path node
  pub comes : Comes tree path
  pub grown : more ≡ insert tree (key_of path) node

pub added_take : (tree more : Tree) (line : List ℕ) → added_at tree line ≡ Ok more → Added tree line more
unfolding added_at is_above
added_take tree more line e =
    let k0 = needs_ok _ (entry_texts line) _ more e in
    let k1 = needs_ok _ (fields_at k0.0) _ more k0.2 in
    let k2 = needs_ok _ (values_at k0.0 k1.0) _ more k1.2 in
    let k3 = holds_ok _ (is_within tree (parent_of k2.0.path)) k2.0.path _ more k2.2 in
    let k4 = holds_ok _ (is_above tree (key_of k2.0.path)) (key_of k2.0.path) _ more k3.1 in
    let k5 = needs_ok _ (bytes_of k0.0.kind k2.0.size k0.0.content) _ more k4.1 in
    let read = entry_take line k0.0 k1.0 k2.0 k5.0 k0.1 k1.1 k2.1 k5.1 in
    record {
      path = k2.0.path;
      node = node_of k0.0.kind k2.0 k5.0;
      text = read.0;
      fits = read.1;
      comes = record { above = k4.0; within = k3.0 };
      grown = sym (ok_is (insert tree (key_of k2.0.path) (node_of k0.0.kind k2.0 k5.0)) more k5.2);
    }

pub added_again : (tree : Tree) (path : List (List ℕ)) (node : Node) → LineFits path node → Comes tree path → added_at tree (entry_fields path node) ≡ Ok (insert tree (key_of path) node)
unfolding added_at is_above fields_for values_for
added_again tree path node fits comes =
    rw (texts_again path node fits)
    (rw (fields_again path node fits)
    (rw (values_again path node fits)
    (rw comes.within
    (rw comes.above
    (rw (content_for path node fits) (ap (λ (n : Node). Ok (insert tree (key_of path) n)) (node_is path node fits)))))))

-- No entries

pub spellable_empty : IsSpellable empty
spellable_empty = ((get-empty {X = Node} key_cmp [], λ parent name. none_fits (parent ++ name ∷ []) (FitsAt empty parent name)), λ key. none_fits key FitsLine)
  where
    none_fits : (key : List (List ℕ)) (P : Node → Type 0) → IfSome (get (empty {X = Node} {R = key_cmp}) key) P
    none_fits key P = subst (λ (o : Option Node). IfSome o P) (sym (get-empty {X = Node} key_cmp key)) tt

pub lines_empty : tree_lines empty ≡ []
lines_empty = ap (flat_map (λ (entry : List (List ℕ) × Node). entry_line (spelled empty entry.0) entry.1)) entries_empty

-- The entries of a tree

all_more : (P : List ℕ → Type 0) (xs : List (List ℕ)) (x : List ℕ) → AllByRecursion P xs → P x → AllByRecursion P (xs ++ x ∷ [])
all_more P [] x h one = (one, tt)
all_more P (y ∷ xs) x h one = (h.0, all_more P xs x h.1 one)

some_of : (found : Option Node) → found ≢ None → (node : Node) × (found ≡ Some node)
some_of None there = absurd (there refl)
some_of (Some node) there = (node, refl)

stands : (tree : Tree) (names : List (List ℕ)) → IsDirectory tree names → names ≢ [] → get tree names ≢ None
stands tree [] at some = absurd (some refl)
stands tree (name ∷ names) at some = at.1

not_empty : (names : List (List ℕ)) (name : List ℕ) → names ++ name ∷ [] ≢ []
not_empty [] name e = cc
not_empty (x ∷ names) name e = cc

-- the names of the path of an entry
abbrev NamesFit : Tree → List (List ℕ) → Type 0
NamesFit tree names = (names ≢ [] → get tree names ≢ None) → AreTexts (spelled tree names) × AreNamed (spelled tree names)

names_more : (tree : Tree) → IsSpellable tree → (names : List (List ℕ)) (name : List ℕ) → NamesFit tree names → NamesFit tree (names ++ name ∷ [])
names_more tree shape names name so there =
    let at = some_of (get tree (names ++ name ∷ [])) (there (not_empty names name)) in
    let fit = node_fits tree names name at.0 shape.0 at.1 in
    let line : FitsLine at.0 = subst (λ (o : Option Node). IfSome o FitsLine) at.1 (shape.1 (names ++ name ∷ [])) in
    let last : spelling_at tree (names ++ name ∷ []) ≡ at.0.spelling = ap spelling_of at.1 in
    let front = so (stands tree names fit.within) in
    subst (λ (path : List (List ℕ)). AreTexts path × AreNamed path) (sym (spelled-more tree names name)) (
      all_more (λ x. all_scalars x ≡ true) (spelled tree names) (spelling_at tree (names ++ name ∷ [])) front.0 (ap all_scalars last ∙ line.characters),
      all_more (λ x. name_fault x ≡ None) (spelled tree names) (spelling_at tree (names ++ name ∷ [])) front.1 (ap name_fault last ∙ fit.named),
    )

names_fit : (tree : Tree) (key : List (List ℕ)) → IsSpellable tree → get tree key ≢ None → AreTexts (spelled tree key) × AreNamed (spelled tree key)
names_fit tree key shape there = by_last (NamesFit tree) (λ _. (tt, tt)) (names_more tree shape) key (λ _. there)

-- an entry of a tree that can be spelled
pub record Stands (tree : Tree) (e : List (List ℕ) × Node) : Type 0 where
  pub line : LineFits (spelled tree e.0) e.1
  pub key : key_of (spelled tree e.0) ≡ e.0
  pub there : get tree e.0 ≢ None
  pub own : IsSpelledIn tree (spelled tree e.0)

at_key : (tree : Tree) (key : List (List ℕ)) (node : Node) → IsTree tree → get tree key ≡ Some node → (0 < length key) × (length key ≤ 64) × (node.kind ≡ Dir → node.bytes ≡ [])
at_key tree [] node is here = absurd (let no : None ≡ Some node = sym is.0 ∙ here in cc)
at_key tree (name ∷ names) node is here =
    let split = snoc name names in
    let fit = node_fits tree (take (length names) (name ∷ names)) split.0 node is (ap (get tree) (sym split.1) ∙ here) in
    (omega arith, subst (λ (k : List (List ℕ)). length k ≤ 64) (sym split.1) fit.depth, fit.no_bytes)

stands_at : (tree : Tree) (key : List (List ℕ)) (node : Node) → IsSpellable tree → get tree key ≡ Some node → Stands tree (key, node)
stands_at tree key node shape here =
    let there : get tree key ≢ None = λ none. (let no : None ≡ Some node = sym none ∙ here in cc) in
    let same = spelled-key tree key shape.0 there in
    let long : length (spelled tree key) ≡ length key = sym (length-map (spelled tree key) _) ∙ ap length same in
    let names = names_fit tree key shape there in
    let at = at_key tree key node shape.0 here in
    let fits : FitsLine node = subst (λ (o : Option Node). IfSome o FitsLine) here (shape.1 key) in
    record {
      line = record {
        names = record { characters = names.0; named = names.1; some = omega (arith, at.0, long); depth = omega (arith, at.1, long) };
        spelling = sym (spelled-last tree key shape.0 ∙ ap spelling_of here);
        props = record { created = fits.created; written = fits.written; access = fits.access; owner = fits.owner; audit = fits.audit };
        bytes = record { are_bytes = fits.bytes; size = fits.size; none = at.2 };
      };
      key = same;
      there = there;
      own = spelled-own tree key shape.0 (λ _. there);
    }

abbrev pub EachStands : Tree → List (List (List ℕ) × Node) → Type 0
EachStands tree es = AllByRecursion (λ e. Stands tree e) es

pub each_stands : (tree : Tree) (xs es : List (List (List ℕ) × Node)) → entries tree ≡ xs ++ es → IsSpellable tree → EachStands tree es
each_stands tree xs [] is shape = tt
each_stands tree xs (e ∷ es) is shape =
    let sorted : T (is_sorted key_cmp (xs ++ e ∷ es)) = subst (λ (l : List (List (List ℕ) × Node)). T (is_sorted key_cmp l)) is (entries_sorted tree) in
    let here : get tree e.0 ≡ Some e.1 = get-entries tree e.0 ∙ ap (find key_cmp e.0) is ∙ found_at key_cmp key_cmp-total xs e es sorted in
    (stands_at tree e.0 e.1 shape here, each_stands tree (xs ++ e ∷ []) es (is ∙ sym (append_assoc xs (e ∷ []) es)) shape)

-- The lines with one more entry

abbrev pub line_in : Tree → List (List ℕ) × Node → List ℕ
line_in tree entry = entry_line (spelled tree entry.0) entry.1

-- a tree that keeps what stands there keeps the lines of that
lines_kept : (old now : Tree) (es : List (List (List ℕ) × Node)) → EachStands old es → ((key : List (List ℕ)) → get old key ≢ None → get now key ≡ get old key) → flat_map (line_in now) es ≡ flat_map (line_in old) es
lines_kept old now [] each kept = refl
lines_kept old now (e ∷ es) each kept =
    let path : List (List ℕ) = spelled old e.0 in
    let own : IsSpelledIn now path = keeps-spelled old now path (λ n some le there. kept (key_of (take n path)) there) each.0.own in
    let same : spelled now e.0 ≡ path = ap (spelled now) (sym each.0.key) ∙ own-is now path own in
    flat_map-cons (line_in now) e es ∙ ap (λ (p : List (List ℕ)). entry_line p e.1 ++ flat_map (line_in now) es) same
    ∙ ap (λ (t : List ℕ). entry_line path e.1 ++ t) (lines_kept old now es each.1 kept) ∙ sym (flat_map-cons (line_in old) e es)

pub lines_grown : (tree : Tree) (path : List (List ℕ)) (node : Node) → IsSpellable tree → Comes tree path → LineFits path node → tree_lines (insert tree (key_of path) node) ≡ tree_lines tree ++ entry_line path node
lines_grown tree path node shape comes fits =
    let now : Tree = insert tree (key_of path) node in
    let own = more_own tree path node shape comes fits in
    ap (flat_map (line_in now)) (entries-insert_last key_cmp key_cmp-total tree (key_of path) node comes.above)
    ∙ flat_map-append (line_in now) (entries tree) ((key_of path, node) ∷ [])
    ∙ ap (λ (t : List ℕ). t ++ flat_map (line_in now) ((key_of path, node) ∷ [])) (lines_kept tree now (entries tree) (each_stands tree [] (entries tree) refl shape) (more_kept tree path node shape comes fits))
    ∙ ap (λ (t : List ℕ). tree_lines tree ++ t) (flat_map-cons (line_in now) (key_of path, node) [] ∙ append-nil (line_in now (key_of path, node)) ∙ ap (λ (p : List (List ℕ)). entry_line p node) (own-is now path own))

-- the next entry of a tree may come behind those before it
pub comes_next : (tree now : Tree) (e : List (List ℕ) × Node) (es : List (List (List ℕ) × Node)) → IsTree now → entries now ≡ entries tree ++ e ∷ es → Stands now e → Comes tree (spelled now e.0)
comes_next tree now e es shape is stands =
    let path : List (List ℕ) = spelled now e.0 in
    let sorted : T (is_sorted key_cmp (entries tree ++ e ∷ es)) = subst (λ (l : List (List (List ℕ) × Node)). T (is_sorted key_cmp l)) is (entries_sorted now) in
    record {
      above = subst (λ (k : List (List ℕ)). list_all (λ x. is_lt (key_cmp x.0 k)) (entries tree) ≡ true) (sym stands.key) (above_front key_cmp (entries tree) e es sorted);
      within = within_again tree now e es path is stands.key shape stands.there stands.own stands.line.names.some;
    }

pub grown_next : (tree now : Tree) (e : List (List ℕ) × Node) (es : List (List (List ℕ) × Node)) → entries now ≡ entries tree ++ e ∷ es → Stands now e → Comes tree (spelled now e.0) → entries now ≡ entries (insert tree (key_of (spelled now e.0)) e.1) ++ es
grown_next tree now e es is stands comes =
    let put : entries (insert tree (key_of (spelled now e.0)) e.1) ≡ entries tree ++ e ∷ [] = entries-insert_last key_cmp key_cmp-total tree (key_of (spelled now e.0)) e.1 comes.above ∙ ap (λ (k : List (List ℕ)). entries tree ++ (k, e.1) ∷ []) stands.key in
    is ∙ sym (append_assoc (entries tree) (e ∷ []) es) ∙ ap (λ (l : List (List (List ℕ) × Node)). l ++ es) (sym put)
