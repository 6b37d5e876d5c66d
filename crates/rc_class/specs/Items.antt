-- Decided keys: lists of items in the order of their keys.
use Rattle.std.specs.Prelude.{ℕ, Bool, List, Option, map}
use Rattle.std.specs.FinMap.{find, is_sorted}
use Rattle.rc_tree.specs.Path.{key_of, key_cmp}
use Rattle.rc_class.specs.declared.item.Item.{Item}

-- the item under its key
abbrev pub keyed : Item → List (List ℕ) × Item
keyed item = (key_of item.path, item)

-- the item at a key
abbrev pub item_at : List Item → List (List ℕ) → Option Item
item_at items key = find key_cmp key (map keyed items)

-- the keys rise strictly
abbrev pub are_rising : List Item → Bool
are_rising items = is_sorted key_cmp (map keyed items)
