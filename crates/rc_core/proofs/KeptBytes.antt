-- What keeps the bytes of a file's units: what stands, the file at its length or on the way there, and the end.
use Rattle.std.proofs.Common.{◌≡◌, ℕ, Bool, true, false, [], length, refl, sym, ap, subst, ◌∙◌, length-append, length-take, take, replicate, ◌-◌, arith}
use Rattle.std.specs.Prelude.{Option, Some, None, slice_get, List, All}
use Rattle.std.proofs.lemmas.List.{length-replicate}
use Rattle.std.proofs.lemmas.List.Elements.{All-nil}
use Rattle.rc_tree.specs.declared.attr.Kind.TheVariants.{File}
use Rattle.rc_tree.specs.Tree.{Node}
use Rattle.rc_class.specs.declared.item.Item.{Item}
use Rattle.rc_class.specs.declared.plan.Plan.{Plan}
use Rattle.rc_class.specs.declared.rules.Rules.{Rules}
use Rattle.rc_class.specs.Class.{is_lonely}
use Rattle.rc_class.specs.Goal.{picked}
use Rattle.rc_class.specs.Units.{Range}
use Rattle.rc_volume.specs.Site.{IsHalfResized, resized}
use Rattle.rc_core.specs.Copies.{HasBytes, Holds, IsOnWay, IsUnderway, copy_goal}
use Rattle.rc_core.specs.Follows.{HasFileOf}
use Rattle.rc_core.specs.Rows.{begun}
use Rattle.rc_core.specs.Sound.{IsApart, front_of}
use Rattle.rc_core.specs.declared.rows.Extent.{Extent}
use Rattle.rc_core.specs.declared.rows.FileRow.{FileRow}
use Rattle.rc_core.proofs.Kept.{IsSpared}
use Rattle.rc_core.proofs.SameBytes.{half_resized_same, resized_same}
use Rattle.rc_core.proofs.Ways.{end_by, way_fresh}

-- a range that both hold

pub record IsHolding (range : Range) (source stands : Option Node) : Type 0 where
  pub from : Node
  pub node : Node
  pub source_is : source ≡ Some from
  pub stands_is : stands ≡ Some node
  pub has : HasBytes range.off range.len from.bytes node

pub holding : (range : Range) (source stands : Option Node) → Holds range source stands → IsHolding range source stands
holding range None stands holds = absurd holds
holding range (Some from) None holds = absurd holds
holding range (Some from) (Some node) holds = record { from = from; node = node; source_is = refl; stands_is = refl; has = holds }

-- what has the bytes in each range in which what stands has them
abbrev pub Keeps : Option Node → Option Node → Option Node → Type 0
Keeps source stands x = (range : Range) → Holds range source stands → Holds range source x

pub keeps_same : (source stands x : Option Node) → x ≡ stands → Keeps source stands x
keeps_same source stands x same range holds = subst (Holds range source) (sym same) holds

pub keeps_begun : (row : FileRow) (source stands : Option Node) → Keeps source stands (Some (begun row stands))
keeps_begun row None stands range holds = holds
keeps_begun row (Some from) None range holds = absurd holds
keeps_begun row (Some from) (Some node) range holds = holds

pub keeps_resized : (row : FileRow) (size : ℕ) (source stands : Option Node) → HasFileOf row.file.item source → size ≡ row.file.item.facts.size → Keeps source stands (Some (resized size (begun row stands)))
keeps_resized row size None stands file at range holds = holds
keeps_resized row size (Some from) None file at range holds = absurd holds
keeps_resized row size (Some from) (Some node) file at range holds =
    subst (HasBytes range.off range.len from.bytes) (sym (resized_same size node (holds.size ∙ file.1 ∙ sym at))) holds

pub keeps_half : (row : FileRow) (size : ℕ) (source stands : Option Node) (left : Node) → HasFileOf row.file.item source → size ≡ row.file.item.facts.size → IsHalfResized size (begun row stands) left → Keeps source stands (Some left)
keeps_half row size None stands left file at half range holds = holds
keeps_half row size (Some from) None left file at half range holds = absurd holds
keeps_half row size (Some from) (Some node) left file at half range holds =
    subst (HasBytes range.off range.len from.bytes) (sym (half_resized_same size node left half (holds.size ∙ file.1 ∙ sym at))) holds

-- the end has all bytes of the source, where bytes go along
ended : (lonely : Bool) (rules : Rules) (plan : Plan) (from : Node) (old stands : Option Node) (range : Range) → plan.with_bytes ≡ true → IsUnderway lonely plan.with_bytes old (end_by lonely rules plan from old) stands → Holds range (Some from) stands → Holds range (Some from) (end_by lonely rules plan from old)
ended true rules plan from old stands range along way holds = record {
  is_file = refl;
  size = ap (λ b. length (picked b from.bytes [])) along;
  bytes = λ i low high. ap (λ b. slice_get (picked b from.bytes []) i) along;
}
ended false rules plan from None stands range along way holds = absurd way
ended false rules plan from (Some before) None range along way holds = absurd holds
ended false rules plan from (Some before) (Some node) range along way holds = record {
  is_file = way.0;
  size = ap (λ b. length (picked b from.bytes before.bytes)) along;
  bytes = λ i low high. ap (λ b. slice_get (picked b from.bytes before.bytes) i) along;
}

pub keeps_end : (rules : Rules) (plan : Plan) (item : Item) (source old stands : Option Node) → plan.with_bytes ≡ true → IsOnWay rules plan item source old stands → Keeps source stands (copy_goal rules plan item source old)
keeps_end rules plan item None old stands along way range holds = holds
keeps_end rules plan item (Some from) old stands along way range holds = ended (is_lonely item.class) rules plan from old stands range along way holds

-- what keeps all spares each unit
pub spared : (extent : Extent) (source stands : Option Node) (had : List (Option Node)) (now : Option Node) → Keeps source stands now → All (Keeps source stands) had → IsSpared extent source stands had [] now
spared extent source stands had now keeps all = record {
  keeps = λ len le holds. (keeps (front_of extent len) holds, λ k d below. all k d below (front_of extent len) holds);
  apart = All-nil (IsApart extent);
}

-- What begins

pub way_begun : (rules : Rules) (plan : Plan) (row : FileRow) (source old stands : Option Node) → HasFileOf row.file.item source → IsOnWay rules plan row.file.item source old stands → IsOnWay rules plan row.file.item source old (Some (begun row stands))
way_begun rules plan row source old None file way = way_fresh rules plan row.file.item source old file way
way_begun rules plan row source old (Some node) file way = way

underway_file : (lonely with_bytes : Bool) (old goal : Option Node) (node : Node) → IsUnderway lonely with_bytes old goal (Some node) → node.kind ≡ File
underway_file true with_bytes old None node way = absurd way
underway_file true with_bytes old (Some end) node way = way.is_file
underway_file false with_bytes None goal node way = absurd way
underway_file false with_bytes (Some before) None node way = absurd way
underway_file false with_bytes (Some before) (Some end) node way = way.1.is_file

pub way_file : (rules : Rules) (plan : Plan) (item : Item) (source old : Option Node) (node : Node) → IsOnWay rules plan item source old (Some node) → node.kind ≡ File
way_file rules plan item source old node way = underway_file (is_lonely item.class) plan.with_bytes old (copy_goal rules plan item source old) node way

pub resized_length : (size : ℕ) (node : Node) → length (resized size node).bytes ≡ size
resized_length size node = omega (arith, length-append (take size node.bytes) (replicate (size - length node.bytes) 0), length-take size node.bytes, length-replicate {A = ℕ} (size - length node.bytes) 0)
