use Rattle.std.proofs.Common.{List, ℕ, subst}
use Rattle.std.specs.Option.{option_copied}
use Rattle.std.specs.BTreeMap.Range.{IsRangeOf}
use Rattle.std.specs.declared.ops.Bound.{Bound}
use Rattle.std.specs.declared.ops.Bound.TheVariants.{Unbounded}
use Rattle.rc_tree.specs.Path.{name_cmp}
use Rattle.rc_table.proofs.Held.{next-first, next-none}
use Rattle.rc_table.proofs.side_rows.next_text.Goals as goal

pub returns-in-Some-clause-found : goal.returns-in-Some-clause-found
returns-in-Some-clause-found c =
    next-first c.args.rows.now (option_copied c.args.after) c.range.result
    (subst (λ (b : Bound (List ℕ)). IsRangeOf name_cmp b Unbounded c.args.rows.now c.range.result) c.start_behind.ensures (c.range.ensures.in_range tt))
    c.in-Some.text.now c.in-Some.field-0-1.now c.next.new.self c.in-Some.ensures.steps

pub returns-in-None-clause-found : goal.returns-in-None-clause-found
returns-in-None-clause-found c =
    next-none c.args.rows.now (option_copied c.args.after) c.range.result
    (subst (λ (b : Bound (List ℕ)). IsRangeOf name_cmp b Unbounded c.args.rows.now c.range.result) c.start_behind.ensures (c.range.ensures.in_range tt))
    c.in-None.ensures.steps.0
