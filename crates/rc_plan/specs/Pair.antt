-- What two sides have at each key of either.
use Rattle.std.specs.Prelude.{◌≡◌, ℕ, Bool, List, [], ◌∷◌, Option, Some, None, map, option_map}
use Rattle.std.specs.FinMap.{find, is_sorted}
use Rattle.std.specs.declared.cmp.Ordering.{Ordering}
use Rattle.std.specs.declared.cmp.Ordering.TheVariants.{Less, Equal, Greater}
use Rattle.rc_tree.specs.declared.attr.Kind.{Kind}
use Rattle.rc_tree.specs.Path.{key_of, key_cmp}
use Rattle.rc_plan.specs.declared.entries.Found.{Found}
use Rattle.rc_plan.specs.declared.pairs.Pair.{Pair}
use Rattle.rc_plan.specs.declared.pairs.Pair.TheVariants as paired
use Rattle.rc_plan.specs.Found.{found_at, kind_found}

-- what two sides have at a key; none where neither has an entry
abbrev pub pair_of : Option Found → Option Found → Option Pair
pair_of (Some source) target = Some (paired.Source source target)
pair_of None (Some target) = Some (paired.Extra target)
pair_of None None = None

abbrev pub source_of : Pair → Option Found
source_of (paired.Source source target) = Some source
source_of (paired.Extra target) = None

abbrev pub target_of : Pair → Option Found
target_of (paired.Source source target) = target
target_of (paired.Extra target) = Some target

abbrev pub source_kind : Pair → Option Kind
source_kind pair = option_map kind_found (source_of pair)

abbrev pub target_kind : Pair → Option Kind
target_kind pair = option_map kind_found (target_of pair)

-- the path of a pair: the source's where that has an entry
abbrev pub pair_path : Pair → List (List ℕ)
pair_path (paired.Source source target) = source.path
pair_path (paired.Extra target) = target.path

abbrev pub pair_key : Pair → List (List ℕ)
pair_key pair = key_of (pair_path pair)

-- a pair under its key
abbrev pub placed_pair : Pair → List (List ℕ) × Pair
placed_pair pair = (pair_key pair, pair)

-- the pair at a key
abbrev pub pair_at : List Pair → List (List ℕ) → Option Pair
pair_at pairs key = find key_cmp key (map placed_pair pairs)

-- the keys rise strictly
abbrev pub are_pairs_rising : List Pair → Bool
are_pairs_rising pairs = is_sorted key_cmp (map placed_pair pairs)

-- the pairs are those of all keys of two sides
abbrev pub ArePaired : List Found → List Found → List Pair → Type 0
ArePaired source target pairs = (key : List (List ℕ)) → pair_at pairs key ≡ pair_of (found_at source key) (found_at target key)

-- What is taken of two lists in order

-- how their first keys stand: a list without entries stands behind the other
abbrev pub first_order : List Found → List Found → Option Ordering
first_order [] [] = None
first_order (source ∷ ours) [] = Some Less
first_order [] (target ∷ theirs) = Some Greater
first_order (source ∷ ours) (target ∷ theirs) = Some (key_cmp (key_of source.path) (key_of target.path))

-- what the two have at the least key of both
abbrev pub by_order : Ordering → Found → Found → Option Found × Option Found
by_order Less source target = (Some source, None)
by_order Equal source target = (Some source, Some target)
by_order Greater source target = (None, Some target)

abbrev pub least : List Found → List Found → Option Found × Option Found
least [] [] = (None, None)
least (source ∷ ours) [] = (Some source, None)
least [] (target ∷ theirs) = (None, Some target)
least (source ∷ ours) (target ∷ theirs) = by_order (key_cmp (key_of source.path) (key_of target.path)) source target

-- those behind the first, where that was taken
abbrev pub behind : Option Found → List Found → List Found
behind None all = all
behind (Some found) [] = []
behind (Some found) (first ∷ rest) = rest
