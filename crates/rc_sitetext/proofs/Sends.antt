-- What a sink received, piece by piece.
use Rattle.std.proofs.Common.{◌≡◌, ℕ, suc, ◌+◌, ◌<◌, List, [], ◌∷◌, ◌++◌, length, map, take, drop, get_or, Result, Ok, Err, refl, sym, ap, ◌∙◌, append_assoc, arith}
use Rattle.std.specs.Prelude.{All, OnErr}
use Rattle.std.specs.List.{AllByRecursion, flat_map}
use Rattle.std.specs.FinMap.{entries}
use Rattle.std.proofs.lemmas.List.{append-nil, length-append, take-append-le, take-append-drop, take_more, at_drop_more}
use Rattle.std.proofs.lemmas.List.Concat.{flat_map-append, flat_map-cons}
use Rattle.std.proofs.lemmas.List.Elements.{recursion_from_All}
use Rattle.rc_tree.specs.Path.{key_of}
use Rattle.rc_tree.specs.Spelled.{spelled}
use Rattle.rc_tree.specs.Tree.{Node, Tree}
use Rattle.rc_volume.specs.Streams.{AppendsFront}
use Rattle.rc_mem.specs.declared.jobs.JobBytes.{JobBytes}
use Rattle.rc_mem.specs.declared.node.TreeNode.{TreeNode}
use Rattle.rc_mem.specs.MemJobs.{filed}
use Rattle.rc_mem.specs.Nodes.{at_key, node_of, IsSpelledIn}
use Rattle.rc_sitetext.specs.SiteText.{AreFiles, JobText, Jobs, entry_line, job_filed, job_line, tree_lines}
use Rattle.rc_sitetext.specs.Writing.{job_bytes_line, job_text, node_line}
use Rattle.rc_sitetext.proofs.Ways.{own-is}

pub on_err : {T E P : Type 0} (r : Result T E) → P → OnErr r P
on_err (Ok x) p = tt
on_err (Err e) p = p

take_behind : (a x : List ℕ) (n : ℕ) → take (length a + n) (a ++ x) ≡ a ++ take n x
take_behind [] x n = let none : length {A = ℕ} [] + n ≡ n = omega arith in ap (λ (k : ℕ). take k x) none
take_behind (c ∷ a) x n = let more : length (c ∷ a) + n ≡ suc (length a + n) = omega arith in rw more (ap (λ (t : List ℕ). c ∷ t) (take_behind a x n))

-- a front of a later piece, behind the pieces before
pub front_in : (old mid new a b c whole : List ℕ) → mid ≡ old ++ a → AppendsFront mid b new → whole ≡ a ++ (b ++ c) → AppendsFront old whole new
front_in old mid new a b c whole before front is =
    let n = front.0 in
    let same : take (length a + n) whole ≡ a ++ take n b = ap (take (length a + n)) is ∙ take_behind a (b ++ c) n ∙ ap (λ (t : List ℕ). a ++ t) (take-append-le n b c front.1) in (
      length a + n,
      omega (arith, front.1, ap length is, length-append a (b ++ c), length-append b c),
      front.2 ∙ ap (λ (t : List ℕ). t ++ take n b) before ∙ append_assoc old a (take n b) ∙ ap (λ (t : List ℕ). old ++ t) (sym same),
    )

pub front_first : (old new b c whole : List ℕ) → AppendsFront old b new → whole ≡ b ++ c → AppendsFront old whole new
front_first old new b c whole front is = front_in old old new [] b c whole (sym (append-nil old)) front is

-- The lines of nodes, and other pieces

abbrev pub node_lines : List TreeNode → List ℕ
node_lines nodes = flat_map node_line nodes

pub pieces_split : {X : Type 0} (piece : X → List ℕ) (xs : List X) (i : ℕ) (d : X) → i < length xs → flat_map piece xs ≡ flat_map piece (take i xs) ++ (piece (get_or xs i d) ++ flat_map piece (drop (i + 1) xs))
pieces_split piece xs i d lt =
    ap (flat_map piece) (sym (take-append-drop i xs)) ∙ flat_map-append piece (take i xs) (drop i xs)
    ∙ ap (λ (t : List ℕ). flat_map piece (take i xs) ++ t) (at_drop_more (flat_map piece) xs i d lt ∙ flat_map-cons piece (get_or xs i d) (drop (i + 1) xs))

pub pieces_next : {X : Type 0} (piece : X → List ℕ) (xs : List X) (i : ℕ) (d : X) → i < length xs → flat_map piece (take (i + 1) xs) ≡ flat_map piece (take i xs) ++ piece (get_or xs i d)
pieces_next piece xs i d lt =
    ap (flat_map piece) (take_more xs i d lt) ∙ flat_map-append piece (take i xs) (get_or xs i d ∷ [])
    ∙ ap (λ (t : List ℕ). flat_map piece (take i xs) ++ t) (flat_map-cons piece (get_or xs i d) [] ∙ append-nil (piece (get_or xs i d)))

pub lines_split : (nodes : List TreeNode) (i : ℕ) (d : TreeNode) → i < length nodes → node_lines nodes ≡ node_lines (take i nodes) ++ (node_line (get_or nodes i d) ++ node_lines (drop (i + 1) nodes))
lines_split nodes i d lt = pieces_split node_line nodes i d lt

pub lines_more : (nodes : List TreeNode) (i : ℕ) (d : TreeNode) → i < length nodes → node_lines (take (i + 1) nodes) ≡ node_lines (take i nodes) ++ node_line (get_or nodes i d)
lines_more nodes i d lt = pieces_next node_line nodes i d lt

-- The lines of job files

abbrev pub file_lines : List JobBytes → List ℕ
file_lines files = flat_map job_bytes_line files

abbrev pub texts_of : List JobBytes → List JobText
texts_of files = map job_text files

pub file_lines_are : (files : List JobBytes) → file_lines files ≡ flat_map job_line (texts_of files)
file_lines_are [] = refl
file_lines_are (job ∷ files) =
    flat_map-cons job_bytes_line job files ∙ ap (λ (t : List ℕ). job_line (job_text job) ++ t) (file_lines_are files)
    ∙ sym (flat_map-cons job_line (job_text job) (texts_of files))

filed_again : (files : List JobBytes) → map job_filed (texts_of files) ≡ map filed files
filed_again [] = refl
filed_again (job ∷ files) = ap (λ (es : List (List ℕ × List ℕ)). filed job ∷ es) (filed_again files)

pub are_files : (jobs : Jobs) (files : List JobBytes) → map filed files ≡ entries jobs → AreFiles jobs (texts_of files)
are_files jobs files e = filed_again files ∙ e

-- nodes that the tree spells so have the lines of their keys
lines_of : (tree : Tree) (nodes : List TreeNode) → AllByRecursion (λ node. IsSpelledIn tree node.path) nodes → node_lines nodes ≡ flat_map (λ (entry : List (List ℕ) × Node). entry_line (spelled tree entry.0) entry.1) (map at_key nodes)
lines_of tree [] own = refl
lines_of tree (node ∷ nodes) own =
    flat_map-cons node_line node nodes
    ∙ ap (λ (path : List (List ℕ)). entry_line path (node_of node) ++ node_lines nodes) (sym (own-is tree node.path own.0))
    ∙ ap (λ (t : List ℕ). entry_line (spelled tree (key_of node.path)) (node_of node) ++ t) (lines_of tree nodes own.1)
    ∙ sym (flat_map-cons (λ (entry : List (List ℕ) × Node). entry_line (spelled tree entry.0) entry.1) (at_key node) (map at_key nodes))

pub node_lines_are : (nodes : List TreeNode) (tree : Tree) → map at_key nodes ≡ entries tree → All (λ node. IsSpelledIn tree node.path) nodes → node_lines nodes ≡ tree_lines tree
node_lines_are nodes tree shown own =
    lines_of tree nodes (recursion_from_All (λ (node : TreeNode). IsSpelledIn tree node.path) nodes own)
    ∙ ap (flat_map (λ (entry : List (List ℕ) × Node). entry_line (spelled tree entry.0) entry.1)) shown
