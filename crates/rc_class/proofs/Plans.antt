-- That a list of items is known by what it has at each key.
use Rattle.std.proofs.Common.{◌≡◌, ℕ, true, List, [], ◌∷◌, map, refl, sym, ap, subst, ◌∙◌}
use Rattle.std.specs.Prelude.{T}
use Rattle.std.specs.FinMap.Entries.{same_entries, is_sorted}
use Rattle.rc_tree.specs.Path.{key_cmp}
use Rattle.rc_tree.proofs.Keys.{key_cmp-total, key_cmp-IsAntisymmetric}
use Rattle.rc_class.specs.declared.item.Item.{Item}
use Rattle.rc_class.specs.declared.plan.Plan.{Plan}
use Rattle.rc_class.specs.Items.{keyed, item_at, are_rising}
use Rattle.rc_class.specs.Start.{Start, IsPlanOf}

unkeyed : (items : List Item) → map (λ (e : List (List ℕ) × Item). e.1) (map keyed items) ≡ items
unkeyed [] = refl
unkeyed (item ∷ items) = ap (λ rest. item ∷ rest) (unkeyed items)

holds : (items : List Item) → are_rising items ≡ true → T (is_sorted key_cmp (map keyed items))
holds items e = subst T (sym e) tt

pub same_items : (items others : List Item) → are_rising items ≡ true → are_rising others ≡ true → ((key : List (List ℕ)) → item_at items key ≡ item_at others key) → items ≡ others
same_items items others rising also same =
    sym (unkeyed items)
    ∙ ap (map (λ (e : List (List ℕ) × Item). e.1)) (same_entries key_cmp key_cmp-total key_cmp-IsAntisymmetric (map keyed items) (map keyed others) (holds items rising) (holds others also) same)
    ∙ unkeyed others

pub one_plan : (start : Start) (plan other : Plan) → IsPlanOf start plan → IsPlanOf start other → plan.moment ≡ other.moment → plan.items ≡ other.items
one_plan start plan other is also at = same_items plan.items other.items is.rising also.rising (λ key. is.items key ∙ ap (λ moment. start.decided moment key) at ∙ sym (also.items key))
