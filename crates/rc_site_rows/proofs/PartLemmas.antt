-- The worked rows of several keys and of two sides.
use Rattle.std.proofs.Common.{◌≡◌, ◌≢◌, ℕ, List, [], ◌∷◌, ◌++◌, arith, Option, Some, None, Result, Err, refl, sym, subst, ◌∙◌, inl, inr}
use Rattle.std.specs.Prelude.{IfSome}
use Rattle.std.specs.FinMap.{empty, get, get-empty, insert}
use Rattle.rc_tree.specs.Path.{key_cmp}
use Rattle.rc_tree.specs.Tree.{FitsAt, IsTree, Node, Tree}
use Rattle.rc_tree.proofs.Fronts.{directory_above}
use Rattle.rc_volume.specs.declared.site.Side.TheVariants.{Source, Target}
use Rattle.rc_volume.specs.declared.site.SiteErr.{SiteErr}
use Rattle.rc_volume.specs.Images.{Half, IsOnlyTree, MayLeave, StepsAt}
use Rattle.rc_volume.specs.Log.{EntryCall, Event, LogsSync, changed, make, synced}
use Rattle.rc_volume.specs.Site.{Maybe}
use Rattle.rc_volume.proofs.ImageLemmas.{images_are_trees}
use Rattle.rc_mem.proofs.Trees.{get-inserted, get-inserted_other}
use Rattle.rc_site_rows.specs.Stops.{child_key, child_log, row_directory, row_file, row_key}

empty_tree : IsTree empty
empty_tree = (get-empty key_cmp [], λ parent name. subst (λ (found : Option Node). IfSome found (FitsAt empty parent name)) (sym (get-empty key_cmp (parent ++ name ∷ []))) tt)

-- a call that is not begun
not_begun : (key : List (List ℕ)) (call : EntryCall) (tree : Tree) → IsTree tree → StepsAt key call tree tree
not_begun key call tree is = record { here = inl refl; others = λ other apart. refl; tree = is }

pub neither_made : MayLeave Target child_log empty
neither_made = (empty, (empty, (refl, empty_tree), not_begun row_key _ empty empty_tree), not_begun child_key _ empty empty_tree)

pub directory_alone : IsTree (insert empty row_key row_directory) → MayLeave Target child_log (insert empty row_key row_directory)
directory_alone is =
    let tree = insert empty row_key row_directory in (
      tree,
      (
        empty,
        (refl, empty_tree),
        record {
          here = subst (λ (old : Option Node). Maybe (Half (make row_directory)) old (get tree row_key)) (sym (get-empty key_cmp row_key)) (inr (get-inserted empty row_key row_directory));
          others = λ other apart. get-inserted_other empty row_key row_directory other apart;
          tree = is;
        },
      ),
      not_begun child_key _ tree is,
    )

pub child_never_alone : (image : Tree) → MayLeave Target child_log image → get image row_key ≡ None → get image child_key ≡ None
child_never_alone image may absent = by_child (get image child_key) refl
  where
    by_child : (found : Option Node) → get image child_key ≡ found → get image child_key ≡ None
    by_child None e = e
    by_child (Some node) e = absurd ((directory_above image child_key row_key (images_are_trees Target child_log image may) (λ none. (let no : Some node ≡ None = sym e ∙ none in cc)) refl).1 absent)

pub failed_sync_stands : (e : SiteErr) (tree image : Tree) (old new : List Event) → LogsSync {T = Unit {0}} (Err e) (synced Target tree) old new → MayLeave Target old image → MayLeave Target new image
failed_sync_stands e tree image old new same may = subst (λ (log : List Event). MayLeave Target log image) (sym same) may

pub source_stands : (tree : Tree) → IsTree tree → IsOnlyTree Source (synced Source tree ∷ synced Target empty ∷ changed Target row_key (make (row_file [])) ∷ []) tree
source_stands tree is = record { left = (refl, is); only = λ image may. may.0 }

pub target_unbegun : (tree : Tree) → MayLeave Target (synced Source tree ∷ synced Target empty ∷ changed Target row_key (make (row_file [])) ∷ []) empty
target_unbegun tree = (empty, (refl, empty_tree), not_begun row_key _ empty empty_tree)
