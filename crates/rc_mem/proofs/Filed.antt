-- Job files by their folded names.
use Rattle.std.proofs.Common.{◌≡◌, ◌≢◌, ℕ, List, get_or, map, Option, Some, sym, ap, subst, ◌∙◌}
use Rattle.std.specs.Prelude.{IfSome, option_map}
use Rattle.std.specs.List.{All}
use Rattle.std.specs.Map.{values_of}
use Rattle.std.specs.BTreeMap as btree
use Rattle.std.specs.BTreeMap.{IsOrdered, Updates}
use Rattle.std.specs.FinMap.{FinMap, get, entries}
use Rattle.std.proofs.lemmas.Map.Views.{All-found}
use Rattle.rc_tree.specs.Name.{folded}
use Rattle.rc_tree.specs.Path.{name_cmp}
use Rattle.rc_tree.proofs.Keys.{name_cmp-total, name_cmp-IsAntisymmetric}
use Rattle.rc_mem.specs.declared.jobs.JobBytes.{JobBytes}
use Rattle.rc_mem.specs.MemJobs.{JobMap, AreFiled, filed, kept, jobs_held}
use Rattle.rc_mem.proofs.Maps.{PutsAt, puts-from_updates, get-shown, entries-shown, map-same, map-values, key_or}
use Rattle.rc_mem.proofs.Sound.{if_at}

abbrev bytes_of : JobBytes → List ℕ
bytes_of job = job.bytes.items

-- what the store has at a key
pub get-jobs : (m : JobMap) (q : List ℕ) → get (jobs_held m) q ≡ option_map bytes_of (btree.get name_cmp m q)
get-jobs m q = get-shown name_cmp bytes_of name_cmp-total m q

module _ (m n : JobMap) (k : List ℕ) (job : JobBytes) (updates : Updates name_cmp m n k (Some job)) where
  puts : PutsAt name_cmp k (Some job) m n
  puts = puts-from_updates name_cmp-IsAntisymmetric k (Some job) m n updates

  -- a file is put where its name says
  pub filed-put : AreFiled m → folded job.name ≡ k → AreFiled n
  filed-put filed is = λ key. key_or name_cmp-IsAntisymmetric name_cmp-total key k
      (λ e. subst (λ (o : Option JobBytes). IfSome o (λ x. folded x.name ≡ key)) (sym (ap (btree.get name_cmp n) e ∙ puts.here)) (is ∙ sym e))
      (λ apart. subst (λ (o : Option JobBytes). IfSome o (λ x. folded x.name ≡ key)) (sym (puts.others key apart)) (filed key))

  -- it has these bytes
  pub put-here : get (jobs_held n) k ≡ Some job.bytes.items
  put-here = get-jobs n k ∙ ap (option_map bytes_of) puts.here

  -- and the others have theirs
  pub put-others : (self : FinMap name_cmp (List ℕ)) → jobs_held m ≡ self → (other : List ℕ) → other ≢ k → get (jobs_held n) other ≡ get self other
  put-others self view other apart = get-jobs n other ∙ ap (option_map bytes_of) (puts.others other apart) ∙ sym (get-jobs m other) ∙ ap (λ t. get t other) view

-- the files are the entries
pub files-are : (m : JobMap) → AreFiled m → IsOrdered name_cmp m → map filed (values_of m.entries) ≡ entries (jobs_held m)
files-are m filed_all ordered =
    let keyed : All (λ (e : List ℕ × JobBytes). filed e.1 ≡ kept e) m.entries =
    (λ i d lt. (let e = get_or m.entries i d in
    let at : btree.get name_cmp m e.0 ≡ Some e.1 = All-found name_cmp-total m ordered i d lt in
    let same : folded e.1.name ≡ e.0 = if_at (λ (x : JobBytes). folded x.name ≡ e.0) (btree.get name_cmp m e.0) e.1 (filed_all e.0) at in
    λ j. (same j, e.1.bytes.items))) in
    map-values filed m.entries ∙ map-same (λ (e : List ℕ × JobBytes). filed e.1) kept m.entries keyed ∙ sym (entries-shown name_cmp bytes_of name_cmp-total name_cmp-IsAntisymmetric m ordered)
