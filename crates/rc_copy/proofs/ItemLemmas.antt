-- How the items of a plan are done one after another.
use Rattle.std.proofs.Common.{◌≡◌, ◌≢◌, ℕ, zero, suc, ◌+◌, ◌<◌, ◌≤◌, Bool, true, false, cond, ◌&&◌, ◌||◌, List, [], ◌∷◌, ◌++◌, Option, Some, None, length, get_or, take, map, inl, inr, refl, sym, ap, subst, ◌∙◌, arith}
use Rattle.std.proofs.lemmas.Bool.{true≢false}
use Rattle.std.proofs.lemmas.List.{take_more, map-append}
use Rattle.std.proofs.lemmas.List.Elements.{All-nil, All-cons}
use Rattle.std.specs.Prelude.{T, All, Contains, IfSome, IsSomeAnd, filter, ◌⊎◌}
use Rattle.std.specs.FinMap.{get}
use Rattle.std.specs.FinMap.Entries.{find, find-append, is_sorted, below_all}
use Rattle.std.specs.Ordering.{eq_by_cmp, is_lt}
use Rattle.std.specs.declared.cmp.Ordering.{Ordering}
use Rattle.std.specs.declared.cmp.Ordering.TheVariants.{Less, Equal, Greater}
use Rattle.rc_tree.specs.declared.attr.Kind.TheVariants.{File, Dir}
use Rattle.rc_tree.specs.Path.{key_of, key_cmp, parent_of}
use Rattle.rc_tree.specs.Tree.{IsDirectory, Tree, Node}
use Rattle.rc_tree.proofs.Keys.{key_cmp-total, same_key, key_itself, below_apart}
use Rattle.rc_class.specs.declared.item.Item.{Item}
use Rattle.rc_class.specs.Items.{keyed, item_at, are_rising}
use Rattle.rc_class.specs.Sides.{Beside}
use Rattle.rc_class.specs.Units.{is_copy}
use Rattle.rc_volume.specs.declared.want.Want.{Want}
use Rattle.rc_volume.specs.Reading.{Opens}
use Rattle.rc_volume.specs.Site.{IsWithin, Told}
use Rattle.rc_copy.specs.declared.copying.Copying.{Copying}
use Rattle.rc_finish.specs.Passes.{HasPassed, pass_at}
use Rattle.rc_copy.specs.Copying.{copied, copies_any, goal_under, AreBetween, AreCopyable, HasPlace, IfCopyable, IsBetween, IsChangedBy, IsCopyable, IsOnItsWay}
use Rattle.rc_copy.specs.Reading.{is_read, whole_file, whole_files}
use Rattle.rc_copy.proofs.CopyableLemmas.{HasFiles, has_files}
use Rattle.rc_copy.proofs.NodeLemmas.{begun_kind, copied_is, goal_way, passed_over}

pub first_so : (a b : Bool) → T (a && b) → T a
first_so true b p = tt
first_so false b p = p

pub second_so : (a b : Bool) → T (a && b) → T b
second_so true b p = p
second_so false b p = absurd p

pub is_so : (b : Bool) → b ≡ true → T b
is_so b e = subst T (sym e) tt

less : (r : Ordering) → T (is_lt r) → r ≡ Less
less Less p = refl
less Equal p = absurd p
less Greater p = absurd p

first_true : (a b : Bool) → a && b ≡ true → a ≡ true
first_true true b e = refl
first_true false b e = e

second_true : (a b : Bool) → a && b ≡ true → b ≡ true
second_true true b e = e
second_true false b e = absurd (true≢false (sym e))

pub first_false : (a b : Bool) → a || b ≡ false → a ≡ false
first_false true b e = absurd (true≢false e)
first_false false b e = refl

pub second_false : (a b : Bool) → a || b ≡ false → b ≡ false
second_false true b e = absurd (true≢false e)
second_false false b e = e

-- What is read

contains_first : (b : Bool) (item : Item) (rest : List Item) → b ≡ true → Contains (map whole_file (cond b (item ∷ rest) rest)) (whole_file item)
contains_first true item rest e = (0, omega arith, refl)
contains_first false item rest e = cc

contains_behind : (b : Bool) (item : Item) (rest : List Item) (want : Want) → Contains (map whole_file rest) want → Contains (map whole_file (cond b (item ∷ rest) rest)) want
contains_behind true item rest want h = (suc h.0, omega (arith, h.1), h.2)
contains_behind false item rest want h = h

-- each item whose bytes are read is wanted
pub contains_want : (with_bytes : Bool) (items : List Item) (k : ℕ) (item : Item) → k < length items → get_or items k item ≡ item → is_read with_bytes item ≡ true → Contains (whole_files with_bytes items) (whole_file item)
contains_want with_bytes [] k item l e read = absurd (omega (arith, l))
contains_want with_bytes (first ∷ items) zero item l e read =
    subst (λ (x : Item). Contains (whole_files with_bytes (first ∷ items)) (whole_file x)) e
    (contains_first (is_read with_bytes first) first (filter (is_read with_bytes) items) (ap (is_read with_bytes) e ∙ read))
contains_want with_bytes (first ∷ items) (suc k) item l e read =
    contains_behind (is_read with_bytes first) first (filter (is_read with_bytes) items) (whole_file item) (contains_want with_bytes items k item (omega (arith, l)) e read)

-- and its want opens the whole of it
pub opens_want : (wants : List Want) (item : Item) → Contains wants (whole_file item) → Opens wants (key_of item.path) 0 item.facts.size
opens_want wants item h = (whole_file item, (0, item.facts.size), h, refl, (0, omega arith, refl), omega arith, omega arith)

-- what is wanted of an item that can be copied lies within the source
within_item : (source target : Option Node) (item : Item) → HasFiles item source target → IsSomeAnd source (λ node. (node.kind ≡ File) × All (λ (range : ℕ × ℕ). range.0 + range.1 ≤ length node.bytes) ((0, item.facts.size) ∷ []))
within_item source target item is =
    subst (λ (o : Option Node). IsSomeAnd o (λ node. (node.kind ≡ File) × All (λ (range : ℕ × ℕ). range.0 + range.1 ≤ length node.bytes) ((0, item.facts.size) ∷ []))) (sym is.stands)
    (is.is_file, All-cons (λ (range : ℕ × ℕ). range.0 + range.1 ≤ length is.node.bytes) (0, item.facts.size) [] (let e : item.facts.size ≡ length is.node.bytes = ap (λ facts. facts.size) is.facts in omega arith) (All-nil (λ (range : ℕ × ℕ). range.0 + range.1 ≤ length is.node.bytes)))

-- what both sides have where a file is copied
pub files_at : (start : Told) (item : Item) → IfCopyable start item → is_copy item.act ≡ true → HasFiles item (get start.source (key_of item.path)) (get start.target (key_of item.path))
files_at start item copyable copies =
    let is = copyable copies in
    has_files item (get start.source (key_of item.path)) (get start.target (key_of item.path)) is.beside is.allowed copies

pub wants_within : (start : Told) (with_bytes : Bool) (items : List Item) → AreCopyable start items → All (IsWithin start.source) (whole_files with_bytes items)
wants_within start with_bytes [] copyable = All-nil (IsWithin start.source)
wants_within start with_bytes (item ∷ items) copyable =
    by_first (is_read with_bytes item) refl
    (wants_within start with_bytes items (λ k d l. copyable (suc k) d (omega (arith, l))))
  where
    by_first : (b : Bool) → is_read with_bytes item ≡ b → All (IsWithin start.source) (whole_files with_bytes items) → All (IsWithin start.source) (map whole_file (cond b (item ∷ filter (is_read with_bytes) items) (filter (is_read with_bytes) items)))
    by_first true e rest =
        let copies = first_true (is_copy item.act) _ (second_true with_bytes _ e) in
        let files = files_at start item (copyable 0 item (omega arith)) copies in
        All-cons (IsWithin start.source) (whole_file item) (whole_files with_bytes items) (within_item (get start.source (key_of item.path)) (get start.target (key_of item.path)) item files) rest
    by_first false e rest = rest

-- The keys of items that rise

pub below_get : (key : List (List ℕ)) (items : List Item) (k : ℕ) (d : Item) → T (below_all key_cmp key (map keyed items)) → k < length items → key_cmp key (key_of (get_or items k d).path) ≡ Less
below_get key [] k d below l = absurd (omega (arith, l))
below_get key (item ∷ items) zero d below l = less _ (first_so _ _ below)
below_get key (item ∷ items) (suc k) d below l = below_get key items k d (second_so _ _ below) (omega (arith, l))

-- no item before one has its key
missing_before : (items : List Item) (i : ℕ) (item : Item) → T (is_sorted key_cmp (map keyed items)) → i < length items → item ≡ get_or items i item → find key_cmp (key_of item.path) (map keyed (take i items)) ≡ None
missing_before [] i item sorted l is = absurd (omega (arith, l))
missing_before (first ∷ items) zero item sorted l is = refl
missing_before (first ∷ items) (suc i) item sorted l is =
    let above : key_cmp (key_of first.path) (key_of item.path) ≡ Less = ap (λ (x : Item). key_cmp (key_of first.path) (key_of x.path)) is ∙ below_get (key_of first.path) items i item (first_so _ _ sorted) (omega (arith, l)) in
    ap (λ b. cond b (Some first) (find key_cmp (key_of item.path) (map keyed (take i items)))) (below_apart (key_of first.path) (key_of item.path) above)
    ∙ missing_before items i item (second_so _ _ sorted) (omega (arith, l)) is

pub missing : (items : List Item) (i : ℕ) (item : Item) → are_rising items ≡ true → i < length items → item ≡ get_or items i item → item_at (take i items) (key_of item.path) ≡ None
missing items i item rising l is = missing_before items i item (is_so _ rising) l is

-- one more item
grown : (items : List Item) (i : ℕ) (item : Item) (key : List (List ℕ)) → are_rising items ≡ true → i < length items → item ≡ get_or items i item → item_at (take (i + 1) items) key ≡ cond (eq_by_cmp key_cmp key (key_of item.path)) (Some item) (item_at (take i items) key)
grown items i item key rising l is =
    ap (λ (done : List Item). item_at done key) (take_more items i item l ∙ ap (λ (x : Item). take i items ++ x ∷ []) (sym is))
    ∙ ap (find key_cmp key) (map-append keyed (take i items) (item ∷ []))
    ∙ find-append key_cmp key_cmp-total (map keyed (take i items)) (key_of item.path) item key (missing items i item rising l is)

-- Items that are found

some_none : {A : Type 0} (x : A) → None ≡ Some x → ⊥
some_none x e = cc

-- an item that is found stands among the items, at its key
pub found_item : (items : List Item) (key : List (List ℕ)) (item : Item) → item_at items key ≡ Some item → (k : ℕ) × (k < length items) × (get_or items k item ≡ item) × (key_of item.path ≡ key)
found_item [] key item e = absurd (some_none item e)
found_item (first ∷ items) key item e = by (found_item items key item) (eq_by_cmp key_cmp key (key_of first.path)) refl e
  where
    same_item : (x y : Item) → Some x ≡ Some y → x ≡ y
    same_item x y h = cc

    by : (item_at items key ≡ Some item → (k : ℕ) × (k < length items) × (get_or items k item ≡ item) × (key_of item.path ≡ key)) → (b : Bool) → eq_by_cmp key_cmp key (key_of first.path) ≡ b → cond b (Some first) (item_at items key) ≡ Some item → (k : ℕ) × (k < suc (length items)) × (get_or (first ∷ items) k item ≡ item) × (key_of item.path ≡ key)
    by later true at h =
        let same : first ≡ item = same_item first item h in
        (0, omega arith, same, sym (same_key key (key_of first.path) at ∙ ap (λ (x : Item). key_of x.path) same))
    by later false at h = let rest = later h in (suc rest.0, omega (arith, rest.1), rest.2, rest.3)

-- what is found among the first items is found among all
pub found_front : (items : List Item) (i : ℕ) (key : List (List ℕ)) (item : Item) → item_at (take i items) key ≡ Some item → item_at items key ≡ Some item
found_front [] zero key item e = e
found_front [] (suc i) key item e = e
found_front (first ∷ items) zero key item e = absurd (some_none item e)
found_front (first ∷ items) (suc i) key item e = by (found_front items i key item) (eq_by_cmp key_cmp key (key_of first.path)) e
  where
    by : (item_at (take i items) key ≡ Some item → item_at items key ≡ Some item) → (b : Bool) → cond b (Some first) (item_at (take i items) key) ≡ Some item → cond b (Some first) (item_at items key) ≡ Some item
    by later true h = h
    by later false h = later h

-- an item is found at its key
pub found_own : (items : List Item) (i : ℕ) (item : Item) → are_rising items ≡ true → i < length items → item ≡ get_or items i item → item_at items (key_of item.path) ≡ Some item
found_own items i item rising l is =
    found_front items (i + 1) (key_of item.path) item
    (grown items i item (key_of item.path) rising l is ∙ ap (λ b. cond b (Some item) (item_at (take i items) (key_of item.path))) (key_itself (key_of item.path)))

-- What the target has meanwhile

-- at the key of an item whose turn comes it has what it had
pub still : (copying : Copying) (items : List Item) (i : ℕ) (item : Item) (start : Told) (now : Tree) → are_rising items ≡ true → i < length items → item ≡ get_or items i item → HasPassed (copied copying) (take i items) start now → get now (key_of item.path) ≡ get start.target (key_of item.path)
still copying items i item start now rising l is sofar =
    sofar (key_of item.path)
    ∙ ap (λ o. pass_at (copied copying) o (get start.source (key_of item.path)) (get start.target (key_of item.path))) (missing items i item rising l is)

at_or_other : (b : Bool) (copying : Copying) (items : List Item) (i : ℕ) (item : Item) (start : Told) (now new : Tree) → get new (key_of item.path) ≡ copied copying item (get start.source (key_of item.path)) (get start.target (key_of item.path)) → ((other : List (List ℕ)) → other ≢ key_of item.path → get new other ≡ get now other) → HasPassed (copied copying) (take i items) start now → (key : List (List ℕ)) → eq_by_cmp key_cmp key (key_of item.path) ≡ b → get new key ≡ pass_at (copied copying) (cond b (Some item) (item_at (take i items) key)) (get start.source key) (get start.target key)
at_or_other true copying items i item start now new here others sofar key e =
    subst (λ (k : List (List ℕ)). get new k ≡ copied copying item (get start.source k) (get start.target k)) (sym (same_key key (key_of item.path) e)) here
at_or_other false copying items i item start now new here others sofar key e =
    others key (λ same. true≢false (sym (key_itself key) ∙ ap (eq_by_cmp key_cmp key) same ∙ e)) ∙ sofar key

-- what it has once one more item has passed
pub passed_more : (copying : Copying) (items : List Item) (i : ℕ) (item : Item) (start : Told) (source now new : Tree) → are_rising items ≡ true → i < length items → item ≡ get_or items i item → source ≡ start.source → HasPassed (copied copying) (take i items) start now → get new (key_of item.path) ≡ copied copying item (get source (key_of item.path)) (get now (key_of item.path)) → ((other : List (List ℕ)) → other ≢ key_of item.path → get new other ≡ get now other) → HasPassed (copied copying) (take (i + 1) items) start new
passed_more copying items i item start source now new rising l is same sofar here others key =
    let from : get new (key_of item.path) ≡ copied copying item (get start.source (key_of item.path)) (get now (key_of item.path)) =
    here ∙ ap (λ (tree : Tree). copied copying item (get tree (key_of item.path)) (get now (key_of item.path))) same in
    let at = from ∙ ap (copied copying item (get start.source (key_of item.path))) (still copying items i item start now rising l is sofar) in
    at_or_other (eq_by_cmp key_cmp key (key_of item.path)) copying items i item start now new at others sofar key refl
    ∙ ap (λ o. pass_at (copied copying) o (get start.source key) (get start.target key)) (sym (grown items i item key rising l is))

-- what it has at a key where an item that has passed is no copy
not_copied : (copying : Copying) (items : List Item) (start : Told) (now : Tree) (key : List (List ℕ)) (item : Item) → HasPassed (copied copying) items start now → item_at items key ≡ Some item → is_copy item.act ≡ false → get now key ≡ get start.target key
not_copied copying items start now key item sofar e other =
    sofar key ∙ ap (λ o. pass_at (copied copying) o (get start.source key) (get start.target key)) e
    ∙ passed_over copying item (get start.source key) (get start.target key) other

-- the sides at the key of a copy among the items
files_found : (items : List Item) (start : Told) (key : List (List ℕ)) (item : Item) → AreCopyable start items → item_at items key ≡ Some item → is_copy item.act ≡ true → HasFiles item (get start.source key) (get start.target key)
files_found items start key item copyable e copies =
    let found = found_item items key item e in
    let own : IfCopyable start item = subst (IfCopyable start) found.2 (copyable found.0 item found.1) in
    subst (λ (k : List (List ℕ)). HasFiles item (get start.source k) (get start.target k)) found.3 (files_at start item own copies)

-- Directories

-- where a file is copied no directory stands
no_directory : (item : Item) (source target : Option Node) → HasFiles item source target → IfSome target (λ node. node.kind ≡ Dir) → target ≢ None → ⊥
no_directory item source None files dir some = some refl
no_directory item source (Some there) files dir some = apart (sym (begun_kind item source (Some there) files) ∙ dir)
  where
    apart : File ≡ Dir → ⊥
    apart e = cc

-- so a directory stays
directory_still : (copying : Copying) (items : List Item) (i : ℕ) (start : Told) (now : Tree) (key : List (List ℕ)) → AreCopyable start items → HasPassed (copied copying) (take i items) start now → IsDirectory start.target key → IsDirectory now key
directory_still copying items i start now [] copyable sofar dir = tt
directory_still copying items i start now (name ∷ names) copyable sofar dir =
    subst (λ (o : Option Node). IfSome o (λ node. node.kind ≡ Dir) × (o ≢ None)) (sym (by (item_at (take i items) (name ∷ names)) refl)) dir
  where
    by_act : (item : Item) → item_at (take i items) (name ∷ names) ≡ Some item → (b : Bool) → is_copy item.act ≡ b → get now (name ∷ names) ≡ get start.target (name ∷ names)
    by_act item e true copies =
        absurd (no_directory item (get start.source (name ∷ names)) (get start.target (name ∷ names)) (files_found items start (name ∷ names) item copyable (found_front items i (name ∷ names) item e) copies) dir.0 dir.1)
    by_act item e false other = not_copied copying (take i items) start now (name ∷ names) item sofar e other

    by : (o : Option Item) → item_at (take i items) (name ∷ names) ≡ o → get now (name ∷ names) ≡ get start.target (name ∷ names)
    by None e = sofar (name ∷ names) ∙ ap (λ o. pass_at (copied copying) o (get start.source (name ∷ names)) (get start.target (name ∷ names))) e
    by (Some item) e = by_act item e (is_copy item.act) refl

place_still : (copying : Copying) (items : List Item) (i : ℕ) (start : Told) (now : Tree) (path : List (List ℕ)) → AreCopyable start items → HasPassed (copied copying) (take i items) start now → HasPlace start.target path → HasPlace now path
place_still copying items i start now path copyable sofar place = by (parent_of path) place
  where
    by : (o : Option (List (List ℕ))) → IsSomeAnd o (λ parent. IsDirectory start.target (key_of parent)) → IsSomeAnd o (λ parent. IsDirectory now (key_of parent))
    by None h = absurd h
    by (Some parent) h = directory_still copying items i start now (key_of parent) copyable sofar h

-- an item can be copied still when its turn comes
pub copyable_still : (copying : Copying) (items : List Item) (i : ℕ) (item : Item) (start now : Told) → are_rising items ≡ true → i < length items → item ≡ get_or items i item → AreCopyable start items → now.source ≡ start.source → HasPassed (copied copying) (take i items) start now.target → IfCopyable now item
copyable_still copying items i item start now rising l is copyable same sofar copies =
    let was : IsCopyable start item = subst (IfCopyable start) (sym is) (copyable i item l) copies in
    record {
      beside =
          subst (λ (tree : Tree). Beside item.class item (get tree (key_of item.path)) (get now.target (key_of item.path))) (sym same)
          (subst (λ (o : Option Node). Beside item.class item (get start.source (key_of item.path)) o) (sym (still copying items i item start now.target rising l is sofar)) was.beside);
      allowed = was.allowed;
      place = place_still copying items i start now.target item.path copyable sofar was.place;
    }

-- What the target has when a copy fails

-- an item of the first ones, where they have passed
done_item : (copying : Copying) (items : List Item) (i : ℕ) (start : Told) (now : Tree) (key : List (List ℕ)) (item : Item) → AreCopyable start items → HasPassed (copied copying) (take i items) start now → item_at (take i items) key ≡ Some item → (get now key ≡ get start.target key) ⊎ IsChangedBy copying items key (get start.source key) (get start.target key) (get now key)
done_item copying items i start now key item copyable sofar e = by (is_copy item.act) refl
  where
    by : (b : Bool) → is_copy item.act ≡ b → (get now key ≡ get start.target key) ⊎ IsChangedBy copying items key (get start.source key) (get start.target key) (get now key)
    by true copies =
        let own = found_front items i key item e in
        let done : get now key ≡ goal_under copying (Some item) (get start.source key) (get start.target key) =
        sofar key ∙ ap (λ o. pass_at (copied copying) o (get start.source key) (get start.target key)) e
        ∙ copied_is copying item (get start.source key) (get start.target key) copies in
        inr (record {
          item = item;
          decided = own;
          copies = copies;
          way = goal_way copying item (get start.source key) (get start.target key) (get now key) (files_found items start key item copyable own copies) copies done;
        })
    by false other = inl (not_copied copying (take i items) start now key item sofar e other)

-- where the first items have passed each key is as it was, or its item changed it
pub between_done : (copying : Copying) (items : List Item) (i : ℕ) (start : Told) (now : Tree) → AreCopyable start items → HasPassed (copied copying) (take i items) start now → AreBetween copying items start now
between_done copying items i start now copyable sofar key = by (item_at (take i items) key) refl
  where
    by : (o : Option Item) → item_at (take i items) key ≡ o → (get now key ≡ get start.target key) ⊎ IsChangedBy copying items key (get start.source key) (get start.target key) (get now key)
    by None e = inl (sofar key ∙ ap (λ o. pass_at (copied copying) o (get start.source key) (get start.target key)) e)
    by (Some item) e = done_item copying items i start now key item copyable sofar e

-- at the key of the item that ends in a fault
failed_item : (copying : Copying) (items : List Item) (item : Item) (start : Told) (now new : Option Node) → item_at items (key_of item.path) ≡ Some item → is_copy item.act ≡ true → now ≡ get start.target (key_of item.path) → IsBetween copying item (get start.source (key_of item.path)) now new → (new ≡ get start.target (key_of item.path)) ⊎ IsChangedBy copying items (key_of item.path) (get start.source (key_of item.path)) (get start.target (key_of item.path)) new
failed_item copying items item start now new own copies was (inl stays) = inl (stays ∙ was)
failed_item copying items item start now new own copies was (inr way) =
    inr (record {
      item = item;
      decided = own;
      copies = copies;
      way = subst (λ (o : Option Node). IsOnItsWay copying item (get start.source (key_of item.path)) o new) was way;
    })

-- and where the next one ends in a fault
pub between_failed : (copying : Copying) (items : List Item) (i : ℕ) (item : Item) (start : Told) (source now new : Tree) → are_rising items ≡ true → i < length items → item ≡ get_or items i item → AreCopyable start items → source ≡ start.source → HasPassed (copied copying) (take i items) start now → is_copy item.act ≡ true → IsBetween copying item (get source (key_of item.path)) (get now (key_of item.path)) (get new (key_of item.path)) → ((other : List (List ℕ)) → other ≢ key_of item.path → get new other ≡ get now other) → AreBetween copying items start new
between_failed copying items i item start source now new rising l is copyable same sofar copies between others key =
    by (eq_by_cmp key_cmp key (key_of item.path)) refl
  where
    own_item : item_at items (key_of item.path) ≡ Some item
    own_item = found_own items i item rising l is

    at_own : (new_there : Option Node) → get new (key_of item.path) ≡ new_there → (new_there ≡ get start.target (key_of item.path)) ⊎ IsChangedBy copying items (key_of item.path) (get start.source (key_of item.path)) (get start.target (key_of item.path)) new_there
    at_own new_there e =
        failed_item copying items item start (get now (key_of item.path)) new_there own_item copies (still copying items i item start now rising l is sofar)
        (subst (λ (o : Option Node). IsBetween copying item (get start.source (key_of item.path)) (get now (key_of item.path)) o) e
        (subst (λ (t : Tree). IsBetween copying item (get t (key_of item.path)) (get now (key_of item.path)) (get new (key_of item.path))) same between))

    by : (b : Bool) → eq_by_cmp key_cmp key (key_of item.path) ≡ b → (get new key ≡ get start.target key) ⊎ IsChangedBy copying items key (get start.source key) (get start.target key) (get new key)
    by true e =
        subst (λ (k : List (List ℕ)). (get new k ≡ get start.target k) ⊎ IsChangedBy copying items k (get start.source k) (get start.target k) (get new k)) (sym (same_key key (key_of item.path) e))
        (at_own (get new (key_of item.path)) refl)
    by false e =
        let stays : get new key ≡ get now key = others key (λ same_keys. true≢false (sym (key_itself key) ∙ ap (eq_by_cmp key_cmp key) same_keys ∙ e)) in
        subst (λ (o : Option Node). (o ≡ get start.target key) ⊎ IsChangedBy copying items key (get start.source key) (get start.target key) o) (sym stays)
        (between_done copying items i start now copyable sofar key)

-- behind the last item all have passed
pub taken_all : (copying : Copying) (items : List Item) (i : ℕ) (start : Told) (now : Tree) → i ≡ length items → HasPassed (copied copying) (take i items) start now → HasPassed (copied copying) (take (length items) items) start now
taken_all copying items i start now e sofar = subst (λ (n : ℕ). HasPassed (copied copying) (take n items) start now) e sofar

-- Where no file is copied

no_copy : (items : List Item) (k : ℕ) (item : Item) → copies_any items ≡ false → k < length items → get_or items k item ≡ item → is_copy item.act ≡ false
no_copy [] k item none l e = absurd (omega (arith, l))
no_copy (first ∷ items) zero item none l e = sym (ap (λ (x : Item). is_copy x.act) e) ∙ first_false (is_copy first.act) (copies_any items) none
no_copy (first ∷ items) (suc k) item none l e = no_copy items k item (second_false (is_copy first.act) (copies_any items) none) (omega (arith, l)) e

-- all has passed at once
pub passed_none : (copying : Copying) (items : List Item) (start : Told) → copies_any items ≡ false → HasPassed (copied copying) items start start.target
passed_none copying items start none key = by (item_at items key) refl
  where
    by : (o : Option Item) → item_at items key ≡ o → get start.target key ≡ pass_at (copied copying) (item_at items key) (get start.source key) (get start.target key)
    by None e = ap (λ o. pass_at (copied copying) o (get start.source key) (get start.target key)) (sym e)
    by (Some item) e =
        let found = found_item items key item e in
        sym (passed_over copying item (get start.source key) (get start.target key) (no_copy items found.0 item none found.1 found.2))
        ∙ ap (λ o. pass_at (copied copying) o (get start.source key) (get start.target key)) (sym e)
