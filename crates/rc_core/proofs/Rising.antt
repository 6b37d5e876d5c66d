-- Nodes in the order of their keys, and what stands at the keys of two lists of them.
use Rattle.std.proofs.Common.{◌≡◌, ℕ, suc, Bool, true, false, cond, ◌&&◌, List, [], ◌∷◌, map, refl, sym, ap, subst, ◌∙◌}
use Rattle.std.specs.Prelude.{Option, Some, None, slice_get}
use Rattle.std.specs.FinMap.Entries.{below_all}
use Rattle.std.specs.Ordering.{eq_by_cmp, is_lt}
use Rattle.std.specs.declared.cmp.Ordering.TheVariants.{Less}
use Rattle.rc_tree.specs.Path.{key_cmp, key_of}
use Rattle.rc_tree.specs.Tree as rc
use Rattle.rc_tree.proofs.Keys.{key_cmp-total, same_key}
use Rattle.rc_core.specs.Images.{LeavesAt}
use Rattle.rc_core.specs.Nodes.{are_rising, keyed, lies_below, node_at, node_of}
use Rattle.rc_core.specs.declared.node.Node.{Node}
use Rattle.rc_core.specs.declared.rows.FileRow.{FileRow}
use Rattle.rc_core.proofs.Found.{both_true}
use Rattle.rc_core.proofs.Lists.{some_none}
use Rattle.rc_core.proofs.Numbers.{Each}
use Rattle.rc_core.proofs.RisingItems.{less}

-- what lies below a key lies below all above it
lower : (x y : List (List ℕ)) (nodes : List Node) → key_cmp x y ≡ Less → below_all key_cmp y (map keyed nodes) ≡ true → below_all key_cmp x (map keyed nodes) ≡ true
lower x y [] below all = refl
lower x y (node ∷ nodes) below all =
    let tests = both_true (is_lt (key_cmp y (key_of node.path))) (below_all key_cmp y (map keyed nodes)) all in
    let first : is_lt (key_cmp x (key_of node.path)) ≡ true = ap is_lt (key_cmp-total.trans x y (key_of node.path) below (less (key_cmp y (key_of node.path)) tests.0)) in
    ap (λ b. b && below_all key_cmp x (map keyed nodes)) first ∙ lower x y nodes below tests.1

pub rising_step : (first : Node) (later : List Node) → lies_below first later ≡ true → are_rising (first ∷ later) ≡ are_rising later
rising_step first [] below = refl
rising_step first (next ∷ later) below =
    ap (λ b. (b && below_all key_cmp (key_of first.path) (map keyed later)) && are_rising (next ∷ later)) below
    ∙ behind (below_all key_cmp (key_of first.path) (map keyed later)) (are_rising (next ∷ later)) above
  where
    behind : (a b : Bool) → (b ≡ true → a ≡ true) → a && b ≡ b
    behind true b so = refl
    behind false true so = so refl
    behind false false so = refl

    above : are_rising (next ∷ later) ≡ true → below_all key_cmp (key_of first.path) (map keyed later) ≡ true
    above rising =
        let all = (both_true (below_all key_cmp (key_of next.path) (map keyed later)) (are_rising later) rising).0 in
        lower (key_of first.path) (key_of next.path) later (less (key_cmp (key_of first.path) (key_of next.path)) below) all

-- what is found at a key is a node of the list
found_in : (nodes : List Node) (key : List (List ℕ)) (x : rc.Node) → node_at nodes key ≡ Some x → (n : ℕ) × (node : Node) × (slice_get nodes n ≡ Some node) × (key_of node.path ≡ key)
found_in [] key x found = absurd (some_none x found)
found_in (first ∷ nodes) key x found = by (λ found. found_in nodes key x found) (eq_by_cmp key_cmp key (key_of first.path)) refl found
  where
    by : (node_at nodes key ≡ Some x → (n : ℕ) × (node : Node) × (slice_get nodes n ≡ Some node) × (key_of node.path ≡ key)) → (b : Bool) → eq_by_cmp key_cmp key (key_of first.path) ≡ b → cond b (Some (node_of first)) (node_at nodes key) ≡ Some x → (n : ℕ) × (node : Node) × (slice_get (first ∷ nodes) n ≡ Some node) × (key_of node.path ≡ key)
    by rests true so is = (0, first, refl, sym (same_key key (key_of first.path) so))
    by rests false so is = let rest = rests is in (suc rest.0, rest.1, rest.2, rest.3)

-- a list leaves at each key what it leaves at the keys of the nodes of both
pub leaves_all : (files : List FileRow) (target image : List Node) → Each (λ n (node : Node). LeavesAt files target image (key_of node.path)) image → Each (λ n (node : Node). LeavesAt files target image (key_of node.path)) target → (key : List (List ℕ)) → LeavesAt files target image key
leaves_all files target image of_image of_target key other = by (node_at image key) (node_at target key) refl refl
  where
    by : (o p : Option rc.Node) → node_at image key ≡ o → node_at target key ≡ p → node_at image key ≡ node_at target key
    by (Some x) p has had =
        let found = found_in image key x has in
        subst (λ k. LeavesAt files target image k) found.3 (of_image found.0 found.1 found.2) other
    by None (Some x) has had =
        let found = found_in target key x had in
        subst (λ k. LeavesAt files target image k) found.3 (of_target found.0 found.1 found.2) other
    by None None has had = has ∙ sym had
