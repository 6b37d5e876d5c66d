-- What is kept of the entries of a side until they are decided.
use Rattle.std.specs.Prelude.{◌≡◌, ℕ, Bool, List, Option, None, Some, option_map, map}
use Rattle.std.specs.FinMap.{get, find, is_sorted}
use Rattle.rc_tree.specs.declared.attr.Kind.{Kind}
use Rattle.rc_tree.specs.declared.attr.Kind.TheVariants.{File, Dir}
use Rattle.rc_tree.specs.declared.entry.Entry.{Entry}
use Rattle.rc_class.specs.declared.facts.Facts.{Facts}
use Rattle.rc_tree.specs.Path.{key_of, key_cmp}
use Rattle.rc_tree.specs.Spelled.{spelled}
use Rattle.rc_tree.specs.Tree.{Tree}
use Rattle.rc_volume.specs.Site.{entry_of}
use Rattle.rc_plan.specs.declared.entries.Found.{Found}

-- of a directory the entry is kept, for its properties
abbrev pub directory_of : Kind → Entry → Option Entry
directory_of File entry = None
directory_of Dir entry = Some entry

-- what is kept of the entry of a path
abbrev pub found_of : List (List ℕ) → Entry → Found
found_of path entry = record {
  path = path;
  facts = record { kind = entry.kind; size = entry.size; written = entry.props.written; attr = entry.props.attr };
  directory = directory_of entry.kind entry;
}

-- its kind and its facts: an entry without a directory's is a file
abbrev pub kind_from : Option Entry → Kind
kind_from None = File
kind_from (Some directory) = Dir

abbrev pub kind_found : Found → Kind
kind_found found = kind_from found.directory

abbrev pub facts_found : Found → Facts
facts_found found = record found.facts { kind = kind_found found }

-- one that was found, under its key
abbrev pub placed : Found → List (List ℕ) × Found
placed found = (key_of found.path, found)

-- the one at a key
abbrev pub found_at : List Found → List (List ℕ) → Option Found
found_at all key = find key_cmp key (map placed all)

-- the keys rise strictly
abbrev pub are_rising : List Found → Bool
are_rising all = is_sorted key_cmp (map placed all)

-- what a tree has at a key, under the path that it spells
abbrev pub seen_at : Tree → List (List ℕ) → Option Found
seen_at tree key = option_map (λ node. found_of (spelled tree key) (entry_of node)) (get tree key)

-- what was found is all that a tree has
abbrev pub AreAllOf : Tree → List Found → Type 0
AreAllOf tree all = (key : List (List ℕ)) → found_at all key ≡ seen_at tree key
