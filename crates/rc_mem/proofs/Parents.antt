-- The key of the directory above.
use Rattle.std.proofs.Common.{◌≡◌, ℕ, List, [], ◌∷◌, Some, length, take, refl, ap, ◌∙◌}
use Rattle.std.proofs.lemmas.List.{length-map, take-map}
use Rattle.std.specs.Prelude.{option_map}
use Rattle.rc_tree.specs.Name.{folded}
use Rattle.rc_tree.specs.Path.{key_of, parent_of}

pub parent-key : (path : List (List ℕ)) → parent_of (key_of path) ≡ option_map key_of (parent_of path)
parent-key [] = refl
parent-key (n ∷ ns) = ap Some (ap (λ k. take k (key_of (n ∷ ns))) (length-map ns folded) ∙ take-map folded (length ns) (n ∷ ns))
