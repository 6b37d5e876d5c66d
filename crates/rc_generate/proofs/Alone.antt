-- A number and a side determine one tree.
use Rattle.std.proofs.Common.{◌≡◌, ◌≢◌, ℕ, zero, suc, ◌<◌, List, sym, subst, ◌∙◌, arith}
use Rattle.std.specs.FinMap.{get}
use Rattle.rc_tree.specs.Tree.{Tree}
use Rattle.rc_tree.proofs.Keys.{same_tree}
use Rattle.rc_volume.specs.declared.site.Side.{Side}
use Rattle.rc_mem.proofs.Trees.{differ_or}
use Rattle.rc_generate.specs.Generated.{IsGenerated, dir_key, file_key}
use Rattle.rc_generate.proofs.Growing.{one-more}

-- a key is one of the first of a row of keys, or none of them
one_or_none : {P : Type 0} (row : ℕ → List (List ℕ)) (key : List (List ℕ)) (count : ℕ) → ((i : ℕ) → i < count → key ≡ row i → P) → (((i : ℕ) → i < count → key ≢ row i) → P) → P
one_or_none row key zero one none = none (λ i less. absurd (omega (arith, less)))
one_or_none row key (suc m) one none =
    differ_or key (row m) (one m (omega arith)) (λ last. one_or_none row key m (λ i less. one i (omega (arith, less))) (λ before. none (λ i less. one-more (λ i. key ≢ row i) m last before i (omega (arith, less)))))

-- the same of the keys of files
file_or_none : {P : Type 0} (key : List (List ℕ)) (count : ℕ) → ((i j : ℕ) → i < count → j < 100 → key ≡ file_key i j → P) → (((i j : ℕ) → i < count → j < 100 → key ≢ file_key i j) → P) → P
file_or_none key zero one none = none (λ i j less small. absurd (omega (arith, less)))
file_or_none key (suc m) one none =
    one_or_none (file_key m) key 100 (λ j small. one m j (omega arith) small)
    (λ last. file_or_none key m (λ i j less. one i j (omega (arith, less))) (λ before. none (λ i j less small. one-more (λ k. key ≢ file_key k j) m (last j small) (λ k below. before k j below small) i (omega (arith, less)))))

pub one-tree : (n : ℕ) (side : Side) (one other : Tree) → IsGenerated n side one → IsGenerated n side other → one ≡ other
one-tree n side one other is so = same_tree one other (λ key. one_or_none dir_key key 100
    (λ i small same. subst (λ k. get one k ≡ get other k) (sym same) (is.dirs i small ∙ sym (so.dirs i small)))
    (λ no_dirs. file_or_none key 100 (λ i j small less same. subst (λ k. get one k ≡ get other k) (sym same) (is.files i j small less ∙ sym (so.files i j small less)))
    (λ no_files. is.others key no_dirs no_files ∙ sym (so.others key no_dirs no_files))))
