-- The head of a plan and an item, put piece by piece.
use Rattle.std.proofs.Common.{◌≡◌, ℕ, List, [], ◌∷◌, ◌++◌, length, ap, ◌∙◌}
use Rattle.std.specs.Prelude.{codes}
use Rattle.std.specs.Int.{w16, w32, w64, to_le_bytes}
use Rattle.rc_class.specs.Codes.{act_code, after_code, class_code}
use Rattle.rc_class.specs.declared.item.Item.{Item}
use Rattle.rc_class.specs.declared.plan.Plan.{Plan}
use Rattle.rc_record.specs.Spelling.{facts_bytes, flag_code, head_bytes, item_bytes, path_bytes, text_bytes}
use Rattle.rc_record.proofs.Pieces.{five_put, six_put}

pub head_put : (plan : Plan) (moment flag len : ℕ) (old l1 l2 l3 l4 l5 : List ℕ) → moment ≡ plan.moment → flag ≡ flag_code plan.with_bytes → len ≡ length (text_bytes plan)
    → l1 ≡ old ++ codes "RCR1" → l2 ≡ l1 ++ to_le_bytes w64 moment → l3 ≡ l2 ++ to_le_bytes w32 plan.stride → l4 ≡ l3 ++ flag ∷ [] → l5 ≡ l4 ++ to_le_bytes w32 len → l5 ≡ old ++ head_bytes plan
head_put plan moment flag len old l1 l2 l3 l4 l5 same_moment same_flag same_len e1 e2 e3 e4 e5 =
    five_put old l1 l2 l3 l4 l5 (codes "RCR1") (to_le_bytes w64 plan.moment) (to_le_bytes w32 plan.stride) (flag_code plan.with_bytes ∷ []) (to_le_bytes w32 (length (text_bytes plan))) e1
    (e2 ∙ ap (λ n. l1 ++ to_le_bytes w64 n) same_moment) e3 (e4 ∙ ap (λ n. l3 ++ n ∷ []) same_flag) (e5 ∙ ap (λ n. l4 ++ to_le_bytes w32 n) same_len)

pub item_put : (item : Item) (act class after len : ℕ) (old l1 l2 l3 l4 l5 l6 : List ℕ) → act ≡ act_code item.act → class ≡ class_code item.class → after ≡ after_code item.after → len ≡ length (path_bytes item.path)
    → l1 ≡ old ++ act ∷ [] → l2 ≡ l1 ++ class ∷ [] → l3 ≡ l2 ++ after ∷ [] → l4 ≡ l3 ++ facts_bytes item.facts → l5 ≡ l4 ++ to_le_bytes w16 len → l6 ≡ l5 ++ path_bytes item.path → l6 ≡ old ++ item_bytes item
item_put item act class after len old l1 l2 l3 l4 l5 l6 same_act same_class same_after same_len e1 e2 e3 e4 e5 e6 =
    six_put old l1 l2 l3 l4 l5 l6 (act_code item.act ∷ []) (class_code item.class ∷ []) (after_code item.after ∷ []) (facts_bytes item.facts) (to_le_bytes w16 (length (path_bytes item.path))) (path_bytes item.path)
    (e1 ∙ ap (λ n. old ++ n ∷ []) same_act) (e2 ∙ ap (λ n. l1 ++ n ∷ []) same_class) (e3 ∙ ap (λ n. l2 ++ n ∷ []) same_after) e4 (e5 ∙ ap (λ n. l4 ++ to_le_bytes w16 n) same_len) e6
