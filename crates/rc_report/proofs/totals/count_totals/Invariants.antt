use Rattle.std.proofs.Common.{◌≡◌, ◌≤◌, ◌*◌, take}
use Rattle.rc_tree.specs.declared.attr.Kind.TheVariants.{File, Dir}
use Rattle.rc_report.specs.declared.totals.Column.{Column}
use Rattle.rc_report.specs.Totals.{counted, one_key, reported, size_of, sum_in}
use Rattle.rc_report.proofs.totals.count_totals.Given as goal

abbrev pub invariant-loop-place : goal.invariant-loop-place
invariant-loop-place l = record {
  totals : l.totals ≡ counted (take l.place (reported l.plan.items l.failed));
  dirs : (column : Column) → sum_in Dir one_key (take l.place (reported l.plan.items l.failed)) column ≤ l.place;
  files : (column : Column) → sum_in File one_key (take l.place (reported l.plan.items l.failed)) column ≤ l.place;
  bytes : (column : Column) → sum_in File size_of (take l.place (reported l.plan.items l.failed)) column ≤ l.place * 18446744073709551615;
}
