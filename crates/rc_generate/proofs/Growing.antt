-- How the trees of a generated site grow, file by file and directory by directory.
use Rattle.std.proofs.Common.{◌≡◌, ℕ, zero, suc, ◌+◌, ◌*◌, ◌<◌, List, [], ◌∷◌, ◌++◌, Option, Some, None, Result, Ok, Err, inl, inr, refl, sym, ap, subst, ◌∙◌, arith}
use Rattle.std.specs.Prelude.{IfSome, OnOk, ◌⊎◌}
use Rattle.std.specs.FinMap.{empty, get, get-empty, insert}
use Rattle.std.proofs.Math.Nat.{eq-or-lt_of_le}
use Rattle.rc_tree.specs.declared.attr.Kind.TheVariants.{Dir}
use Rattle.rc_tree.specs.Path.{key_cmp, key_of}
use Rattle.rc_tree.specs.Tree.{Node, Tree}
use Rattle.rc_volume.specs.declared.site.Side.{Side}
use Rattle.rc_mem.specs.declared.node.TreeNode.{TreeNode}
use Rattle.rc_mem.specs.Nodes.{node_of}
use Rattle.rc_mem.proofs.Trees.{get-inserted, get-inserted_other}
use Rattle.rc_stop.specs.Stops.{drawn, next_state}
use Rattle.rc_generate.specs.Generated.{IsGenerated, dir_key, dir_name, directory, draw_at, draw_of, file_key, file_name, has, state_at}
use Rattle.rc_generate.specs.Making.{ComesTo, HasDirectories, HasDirectory, HasFiles, HasRoom, IsBare, IsFileOf, IsFree, with_file}
use Rattle.rc_generate.proofs.NameLemmas.{dir-key-same, dir-not-file, file-key-same}

-- States

pub state-first : (n : ℕ) → n ≡ state_at n 0
unfolding state_at
state-first n = refl

pub state-more : (n k : ℕ) → next_state (state_at n k) ≡ state_at n (k + 1)
unfolding state_at
state-more n k = ap (state_at n) (let e : suc k ≡ k + 1 = omega arith in e)

state-behind : (n a b : ℕ) → state_at (state_at n a) b ≡ state_at n (a + b)
unfolding state_at
state-behind n a zero = ap (state_at n) (let e : a ≡ a + 0 = omega arith in e)
state-behind n a (suc b) = ap next_state (state-behind n a b) ∙ ap (state_at n) (let e : suc (a + b) ≡ a + suc b = omega arith in e)

-- the state behind one more directory
pub state-directory : (n i s t : ℕ) → s ≡ state_at n (100 * i) → t ≡ state_at s 100 → t ≡ state_at n (100 * (i + 1))
state-directory n i s t is next =
    next ∙ ap (λ x. state_at x 100) is ∙ state-behind n (100 * i) 100 ∙ ap (state_at n) (let e : 100 * i + 100 ≡ 100 * (i + 1) = omega arith in e)

draw-moved : (n i j : ℕ) → draw_at (state_at n (100 * i)) (j + 1) ≡ draw_of n i j
draw-moved n i j = ap drawn (state-behind n (100 * i) (j + 1) ∙ ap (state_at n) (let e : 100 * i + (j + 1) ≡ 100 * i + j + 1 = omega arith in e))

-- A number below one more is that one or below it

module _ (P : ℕ → Type 0) (m : ℕ) (last : P m) (before : (k : ℕ) → k < m → P k) where
  last_or : (k : ℕ) → (k ≡ m) ⊎ (k < m) → P k
  last_or k (inl same) = subst P (sym same) last
  last_or k (inr less) = before k less

  pub one-more : (k : ℕ) → k < m + 1 → P k
  one-more k less = last_or k (eq-or-lt_of_le (omega (arith, less)))

-- Files

-- a file is put where nothing stood, if there is one
pub comes-file : (old new : Tree) (key path : List (List ℕ)) (node : Option Node) (file : Option TreeNode) → key_of path ≡ key → IsFileOf path node file → get old key ≡ None → new ≡ with_file file old → ComesTo key node old new
comes-file old new key path comer None at is absent e = record { here = ap (λ t. get t key) e ∙ absent ∙ is.same; others = λ other apart. ap (λ t. get t other) e }
comes-file old new key path comer (Some file) at is absent e =
    let own : key_of file.path ≡ key = ap key_of is.there.0 ∙ at in
    record {
      here = ap (λ t. get t key) e ∙ ap (get (insert old (key_of file.path) (node_of file))) (sym own) ∙ get-inserted old (key_of file.path) (node_of file) ∙ is.same;
      others = λ other apart. ap (λ t. get t other) e ∙ get-inserted_other old (key_of file.path) (node_of file) other (λ same. apart (same ∙ own));
    }

pub path-key : (i j : ℕ) (dir path : List (List ℕ)) → dir ≡ dir_name i ∷ [] → path ≡ dir ++ file_name j ∷ [] → key_of path ≡ file_key i j
path-key i j dir path is joined = ap key_of (joined ∙ ap (λ (front : List (List ℕ)). front ++ file_name j ∷ []) is)

pub files-none : (state i : ℕ) (side : Side) (tree : Tree) → HasFiles state i 0 side tree tree
files-none state i side tree = record { files = λ j less. absurd (omega (arith, less)); others = λ key apart. refl }

module _ (state i j : ℕ) (side : Side) (old now : Tree) (small : i < 100) (less : j < 100) (is : HasFiles state i j side old now) where
  -- the next file finds its directory, and nothing in its place
  pub free-next : HasRoom i old → IsFree (dir_key i) (file_key i j) now
  free-next room =
      let same = is.others (dir_key i) (λ k below. dir-not-file i i k) in
      record {
        absent = is.others (file_key i j) (λ k below e. (let one : j ≡ k = (file-key-same i j i k small less small (omega (arith, below, less)) e).1 in omega (arith, one, below))) ∙ room.files j less;
        within = (subst (λ o. IfSome o (λ node. node.kind ≡ Dir)) (sym same) room.dir.0, λ none. room.dir.1 (sym same ∙ none));
      }

  -- and one more is there
  pub files-more : (new : Tree) (draw : ℕ) → draw ≡ draw_at state (j + 1) → ComesTo (file_key i j) (has side i j draw) now new → HasFiles state i (j + 1) side old new
  files-more new draw by comes = record {
    files = one-more (λ k. get new (file_key i k) ≡ has side i k (draw_at state (k + 1))) j (comes.here ∙ ap (has side i j) by)
        (λ k below. comes.others (file_key i k) (λ e. (let one : k ≡ j = (file-key-same i k i j small (omega (arith, below, less)) small less e).1 in omega (arith, one, below))) ∙ is.files k below);
    others = λ key apart. comes.others key (apart j (omega arith)) ∙ is.others key (λ k below. apart k (omega (arith, below)));
  }

-- Directories

-- a directory without files finds room for them
pub room-made : (i : ℕ) (old new : Tree) → IsBare i old → new ≡ insert old (dir_key i) (directory i) → HasRoom i new
room-made i old new bare e =
    let here : get new (dir_key i) ≡ Some (directory i) = ap (λ t. get t (dir_key i)) e ∙ get-inserted old (dir_key i) (directory i) in
    record {
      dir = (subst (λ o. IfSome o (λ node. node.kind ≡ Dir)) (sym here) refl, λ none. (let never : Some (directory i) ≡ None = sym here ∙ none in cc));
      files = λ j less. ap (λ t. get t (file_key i j)) e ∙ get-inserted_other old (dir_key i) (directory i) (file_key i j) (λ same. dir-not-file i i j (sym same)) ∙ bare.files j less;
    }

-- and with them it is whole
pub directory-made : (state i : ℕ) (side : Side) (old mid new : Tree) → mid ≡ insert old (dir_key i) (directory i) → HasFiles state i 100 side mid new → HasDirectory state i side old new
directory-made state i side old mid new e is = record {
  dir = is.others (dir_key i) (λ j less. dir-not-file i i j) ∙ ap (λ t. get t (dir_key i)) e ∙ get-inserted old (dir_key i) (directory i);
  files = is.files;
  others = λ key no_dir no_files. is.others key no_files ∙ ap (λ t. get t key) e ∙ get-inserted_other old (dir_key i) (directory i) key no_dir;
}

pub directories-none : (n : ℕ) (side : Side) (tree : Tree) → tree ≡ empty → HasDirectories n 0 side tree
directories-none n side tree none = record { dirs = λ i less. absurd (omega (arith, less)); files = λ i j less small. absurd (omega (arith, less)); others = λ key no_dirs no_files. ap (λ t. get t key) none ∙ get-empty key_cmp key }

module _ (n i : ℕ) (side : Side) (old : Tree) (small : i < 100) (is : HasDirectories n i side old) where
  -- nothing of the next directory is there
  pub bare-next : IsBare i old
  bare-next = record {
    dir = is.others (dir_key i) (λ k below e. (let one : i ≡ k = dir-key-same i k small (omega (arith, below, small)) e in omega (arith, one, below))) (λ a b below less. dir-not-file i a b);
    files = λ j less. is.others (file_key i j) (λ a below e. dir-not-file a i j (sym e))
        (λ a b below less_b e. (let one : i ≡ a = (file-key-same i j a b small less (omega (arith, below, small)) less_b e).0 in omega (arith, one, below)));
  }

  module _ (new : Tree) (state : ℕ) (by : state ≡ state_at n (100 * i)) (more : HasDirectory state i side old new) where
    drawn-there : (j : ℕ) → draw_at state (j + 1) ≡ draw_of n i j
    drawn-there j = ap (λ s. draw_at s (j + 1)) by ∙ draw-moved n i j

    dir-before : (k : ℕ) → k < i → get new (dir_key k) ≡ Some (directory k)
    dir-before k below =
        more.others (dir_key k) (λ e. (let one : k ≡ i = dir-key-same k i (omega (arith, below, small)) small e in omega (arith, one, below))) (λ j less. dir-not-file k i j) ∙ is.dirs k below

    file-before : (j : ℕ) → j < 100 → (k : ℕ) → k < i → get new (file_key k j) ≡ has side k j (draw_of n k j)
    file-before j less k below =
        more.others (file_key k j) (λ e. dir-not-file i k j (sym e)) (λ b less_b e. (let one : k ≡ i = (file-key-same k j i b (omega (arith, below, small)) less small less_b e).0 in omega (arith, one, below)))
        ∙ is.files k j below less

    -- and then one more is there
    pub directories-more : HasDirectories n (i + 1) side new
    directories-more = record {
      dirs = one-more (λ k. get new (dir_key k) ≡ Some (directory k)) i more.dir dir-before;
      files = λ k j below less. one-more (λ m. get new (file_key m j) ≡ has side m j (draw_of n m j)) i (more.files j less ∙ ap (has side i j) (drawn-there j)) (file-before j less) k below;
      others = λ key no_dirs no_files. more.others key (no_dirs i (omega arith)) (λ j less. no_files i j (omega arith) less)
          ∙ is.others key (λ k below. no_dirs k (omega (arith, below))) (λ a b below less. no_files a b (omega (arith, below)) less);
    }

-- all hundred are the site
pub all-generated : (n : ℕ) (side : Side) (tree : Tree) → HasDirectories n 100 side tree → IsGenerated n side tree
all-generated n side tree is = record { dirs = is.dirs; files = is.files; others = is.others }

-- a fact holds where a call is done
pub ok-fact : {T E P : Type 0} (r : Result T E) → P → OnOk r P
ok-fact (Ok x) p = p
ok-fact (Err e) p = tt
