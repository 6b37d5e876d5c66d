-- That what is removed from the source has its copy on the target in the end.
use Rattle.std.proofs.Common.{◌≡◌, ℕ, Bool, true, false, ◌||◌, List, Option, Some, None, refl, sym, ap, subst, ◌∙◌}
use Rattle.std.proofs.lemmas.Bool.{true≢false}
use Rattle.std.specs.Prelude.{option_map}
use Rattle.std.specs.FinMap.{get}
use Rattle.rc_tree.specs.declared.attr.Kind.{Kind}
use Rattle.rc_tree.specs.declared.attr.Kind.TheVariants.{File, Dir}
use Rattle.rc_tree.specs.Spelled.{spelled}
use Rattle.rc_tree.specs.Tree.{Node, Tree, IsTree}
use Rattle.rc_class.specs.declared.class.Class.{Class}
use Rattle.rc_class.specs.declared.class.Class.TheVariants.{Lonely, Extra, Mismatched}
use Rattle.rc_class.specs.declared.decision.Act.{Act}
use Rattle.rc_class.specs.declared.decision.Act.TheVariants as act
use Rattle.rc_class.specs.declared.decision.After.TheVariants as after
use Rattle.rc_class.specs.declared.item.Item.{Item}
use Rattle.rc_class.specs.declared.rules.Rules.{Rules}
use Rattle.rc_class.specs.Class.{is_extra}
use Rattle.rc_class.specs.Goal.{copied_file, copy_base, goal_of_act, target_goal, touched_directory}
use Rattle.rc_class.specs.Sides.{Beside, HasKind, may_act}
use Rattle.rc_class.specs.Start.{goal_target}
use Rattle.rc_job.specs.declared.job.Job.{Job}
use Rattle.rc_filter.specs.Acts.{copies_bytes, rules_of}
use Rattle.rc_filter.specs.Decided.{around, decided_at, item_of, kind_of, start_of}
use Rattle.rc_filter.specs.Releases.{after_act, file_after, has_directory}
use Rattle.rc_filter.specs.Scope.{is_decided, is_directory}
use Rattle.rc_filter.proofs.Items.{same_some, some_none, taken}
use Rattle.rc_filter.proofs.Moving.{removed_directory}
use Rattle.rc_filter.proofs.Places.{decided_items}

-- what stands in the end at a key that the source has, by the class and the act of its item
module _ (rules : Rules) (with_bytes : Bool) (moment : ℕ) (item : Item) (node : Node) where
  copied : (target : Option Node) → HasKind item.facts.kind target → item.facts.kind ≡ File → HasKind File (option_map (copied_file rules with_bytes node) target)
  copied None has is = absurd has
  copied (Some there) has is = has ∙ is

  copy_stands : (c : Class) (target : Option Node) → Beside c item (Some node) target → may_act c File act.Copy ≡ true → item.facts.kind ≡ File → HasKind File (option_map (copied_file rules with_bytes node) (copy_base c moment node target))
  copy_stands Lonely target sides allowed is = refl
  copy_stands Extra target sides allowed is = absurd (true≢false (sym allowed))
  copy_stands Mismatched target sides allowed is = absurd (true≢false (sym allowed))
  copy_stands _ target sides allowed is = copied target sides.1 is

  file_stands : (job : Job) (c : Class) (does : Act) (target : Option Node) → Beside c item (Some node) target → may_act c File does ≡ true → item.facts.kind ≡ File → file_after job does ≡ after.RemoveSource → HasKind File (goal_of_act rules with_bytes moment c does node target)
  file_stands job c act.Copy target sides allowed is e = copy_stands c target sides allowed is
  file_stands job c _ target sides allowed is e = absurd (nothing e)
    where
      nothing : after.Nothing ≡ after.RemoveSource → ⊥
      nothing e = cc

  there_stands : (target : Option Node) → (is_directory (option_map kind_of target) || false) ≡ true → HasKind Dir target
  there_stands None e = absurd (true≢false (sym e))
  there_stands (Some there) e = by there.kind e
    where
      by : (k : Kind) → (is_directory (Some k) || false) ≡ true → k ≡ Dir
      by File e = absurd (true≢false (sym e))
      by Dir e = refl

  touched : (target : Option Node) → HasKind Dir target → HasKind Dir (option_map (touched_directory rules node) target)
  touched None has = absurd has
  touched (Some there) has = has

  never_extra : (c : Class) (target : Option Node) → Beside c item (Some node) target → is_extra c ≡ true → ⊥
  never_extra Extra target sides e = nothing sides.0
    where
      nothing : Some node ≡ None → ⊥
      nothing e = cc
  never_extra _ target sides e = true≢false (sym e)

  directory_stands : (c : Class) (does : Act) (target : Option Node) → Beside c item (Some node) target → may_act c Dir does ≡ true → has_directory does (option_map kind_of target) ≡ true → HasKind Dir (goal_of_act rules with_bytes moment c does node target)
  directory_stands c act.Copy target sides allowed has = absurd (true≢false (sym allowed))
  directory_stands c act.Make target sides allowed has = refl
  directory_stands c act.Touch target sides allowed has = touched target (there_stands target has)
  directory_stands c act.Fix target sides allowed has = absurd (true≢false (sym allowed))
  directory_stands c act.Purge target sides allowed has = absurd (never_extra c target sides allowed)
  directory_stands c act.Extra target sides allowed has = there_stands target has
  directory_stands c act.Mismatch target sides allowed has = there_stands target has
  directory_stands c (act.Keep why) target sides allowed has = there_stands target has

  by_kind : (job : Job) (key : List (List ℕ)) (target : Option Node) (all : Bool) → Beside item.class item (Some node) target → (k : Kind) → item.facts.kind ≡ k → may_act item.class k item.act ≡ true → after_act job key k (option_map kind_of target) item.act all ≡ after.RemoveSource → HasKind k (goal_of_act rules with_bytes moment item.class item.act node target)
  by_kind job key target all sides File is allowed e = file_stands job item.class item.act target sides allowed is e
  by_kind job key target all sides Dir is allowed e =
      directory_stands item.class item.act target sides allowed (removed_directory job key Dir (option_map kind_of target) item.act all refl e).1

pub removed_stands : (job : Job) (source target : Tree) (moment : ℕ) (key : List (List ℕ)) (item : Item) → IsTree source → IsTree target → decided_at job source target moment key ≡ Some item → item.after ≡ after.RemoveSource → HasKind item.facts.kind (goal_target (start_of job source target) moment key)
removed_stands job source target moment key item ours theirs e removed =
    let says = decided_items job source target moment key item ours theirs e in
    let near = around job source target moment key in
    let both = taken (is_decided job source target key) (item_of job moment key (spelled source key) (spelled target key) near (get source key) (get target key)) item e in
    subst (λ o. HasKind item.facts.kind (target_goal (rules_of job) (copies_bytes job) moment o (get source key) (get target key))) (sym e)
    (by (get source key) (get target key) both.1 says.beside says.allowed)
  where
    left : after.Nothing ≡ after.RemoveSource → ⊥
    left e = cc

    by : (s t : Option Node) → item_of job moment key (spelled source key) (spelled target key) (around job source target moment key) s t ≡ Some item → Beside item.class item s t → may_act item.class item.facts.kind item.act ≡ true → HasKind item.facts.kind (target_goal (rules_of job) (copies_bytes job) moment (Some item) s t)
    by None None is sides allowed = absurd (some_none item is)
    by None (Some node) is sides allowed = absurd (left (ap (λ (i : Item). i.after) (same_some _ item is) ∙ removed))
    by (Some node) t is sides allowed =
        by_kind (rules_of job) (copies_bytes job) moment item node job key t (around job source target moment key).all_moved sides item.facts.kind refl allowed
        (subst (λ (i : Item). after_act job key i.facts.kind (option_map kind_of t) i.act (around job source target moment key).all_moved ≡ i.after) (same_some _ item is) refl ∙ removed)
