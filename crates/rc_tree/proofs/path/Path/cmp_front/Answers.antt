-- To fold the first names of a path is to take as many of its folded names.
use Rattle.std.proofs.Common.{◌≡◌, List, ℕ, ap, sym, ◌∙◌, map, take, length, min}
use Rattle.std.proofs.lemmas.List.{take-map, take_min}
use Rattle.rc_tree.specs.Path.{key_cmp, key_of}
use Rattle.rc_tree.specs.Name.{folded}
use Rattle.rc_tree.proofs.path.Path.cmp_front.Goals as goal

key_of-take_min : (n : ℕ) (names : List (List ℕ)) → key_of (take (min n (length names)) names) ≡ take n (key_of names)
key_of-take_min n names = ap (map folded) (take_min n names) ∙ sym (take-map folded n names)

pub returns : goal.returns
returns c =
    let own = c.as_slice-names.ensures.value ∙ c.self.view_is in
    let other = c.deref.ensures.value ∙ c.other.view_is in
    c.cmp_names.ensures
    ∙ ap (λ (n : ℕ). key_cmp (key_of (take n c.as_slice-names.result.now)) (key_of c.deref.result.now)) c.min.ensures
    ∙ ap (λ (k : List (List ℕ)). key_cmp k (key_of c.deref.result.now)) (key_of-take_min c.args.depth c.as_slice-names.result.now)
    ∙ ap (λ (names : List (List ℕ)). key_cmp (take c.args.depth (key_of names)) (key_of c.deref.result.now)) own
    ∙ ap (λ (names : List (List ℕ)). key_cmp (take c.args.depth (key_of c.args.self.now)) (key_of names)) other
