-- What both sides have where an item says that a file is copied.
use Rattle.std.proofs.Common.{◌≡◌, ◌≢◌, Bool, true, false, not, ◌&&◌, Option, Some, None, refl, sym, ap, subst, ◌∙◌}
use Rattle.std.proofs.lemmas.Bool.{true≢false}
use Rattle.std.specs.Prelude.{IsSomeAnd}
use Rattle.rc_tree.specs.declared.attr.Kind.{Kind}
use Rattle.rc_tree.specs.declared.attr.Kind.TheVariants.{File, Dir}
use Rattle.rc_tree.specs.Codes.{is_dir}
use Rattle.rc_tree.specs.Path.{last_name}
use Rattle.rc_tree.specs.Tree.{Node}
use Rattle.rc_class.specs.declared.class.Class.{Class}
use Rattle.rc_class.specs.declared.class.Class.TheVariants.{Lonely, Extra, Mismatched}
use Rattle.rc_class.specs.declared.decision.Act.{Act}
use Rattle.rc_class.specs.declared.decision.Act.TheVariants as act
use Rattle.rc_class.specs.declared.facts.Facts.{Facts}
use Rattle.rc_class.specs.declared.item.Item.{Item}
use Rattle.rc_class.specs.Class.{facts_of}
use Rattle.rc_class.specs.Sides.{Beside, IsEntryOf, may_act}
use Rattle.rc_class.specs.Units.{is_copy}

-- the source has a file of the item's facts, and the target has nothing where it is lonely, and else a file
pub record HasFiles (item : Item) (source target : Option Node) : Type 0 where
  pub node : Node
  pub stands : source ≡ Some node
  pub is_file : node.kind ≡ File
  pub facts : item.facts ≡ facts_of node
  pub spelled : last_name item.path ≡ node.spelling
  pub lonely : item.class ≡ Lonely → target ≡ None
  pub beside : item.class ≢ Lonely → IsSomeAnd target (λ there. there.kind ≡ File)

file_kind : (k : Kind) (b : Bool) → not (is_dir k) && b ≡ true → k ≡ File
file_kind File b e = refl
file_kind Dir b e = absurd (true≢false (sym e))

fits_second : (k : Kind) → not (is_dir k) && false ≡ true → ⊥
fits_second File e = true≢false (sym e)
fits_second Dir e = true≢false (sym e)

with_entry : (item : Item) (source target : Option Node) → IsEntryOf item source → item.facts.kind ≡ File → (item.class ≡ Lonely → target ≡ None) → (item.class ≢ Lonely → IsSomeAnd target (λ there. there.kind ≡ File)) → HasFiles item source target
with_entry item source target entry file lonely beside = record {
  node = entry.node;
  stands = entry.stands;
  is_file = sym (ap (λ (facts : Facts). facts.kind) entry.facts) ∙ file;
  facts = entry.facts;
  spelled = entry.spelled;
  lonely = lonely;
  beside = beside;
}

by_class : (item : Item) (source target : Option Node) (c : Class) → item.class ≡ c → Beside c item source target → may_act c item.facts.kind act.Copy ≡ true → HasFiles item source target
by_class item source target Lonely e sides fits =
    with_entry item source target sides.0 (file_kind item.facts.kind true fits) (λ _. sides.1) (λ other. absurd (other e))
by_class item source target Extra e sides fits = absurd (fits_second item.facts.kind fits)
by_class item source target Mismatched e sides fits = absurd (fits_second item.facts.kind fits)
by_class item source target c e sides fits =
    let file = file_kind item.facts.kind true fits in
    with_entry item source target sides.0 file (λ lonely. absurd (let same = sym e ∙ lonely in cc))
    (λ _. subst (λ k. IsSomeAnd target (λ there. there.kind ≡ k)) file sides.1)

copy_fits : (c : Class) (k : Kind) (does : Act) → is_copy does ≡ true → may_act c k does ≡ true → may_act c k act.Copy ≡ true
copy_fits c k act.Copy copied fits = fits
copy_fits c k _ copied fits = absurd (true≢false (sym copied))

pub has_files : (item : Item) (source target : Option Node) → Beside item.class item source target → may_act item.class item.facts.kind item.act ≡ true → is_copy item.act ≡ true → HasFiles item source target
has_files item source target beside allowed copies =
    by_class item source target item.class refl beside (copy_fits item.class item.facts.kind item.act copies allowed)
