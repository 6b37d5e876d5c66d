use Rattle.std.proofs.Common.{◌≡◌, ◌+◌, ◌*◌, ◌<◌, ◌^◌, List, length, take, get_or, ap, ◌∙◌, arith}
use Rattle.std.proofs.lemmas.List.{take_all}
use Rattle.rc_tree.specs.declared.attr.Kind.TheVariants.{File, Dir}
use Rattle.rc_class.specs.declared.item.Item.{Item}
use Rattle.rc_report.specs.declared.totals.Totals.{Totals}
use Rattle.rc_report.specs.Totals.{counted, one_key, reported, share_of, size_of, sum_in, Reported}
use Rattle.rc_report.proofs.Sums.{has_room, length-reported, row_more, share_below, sum_more}
use Rattle.rc_report.proofs.totals.count_totals.Goals as goal

pub count_more-all_dirs-requires : goal.count_more-all_dirs-requires
count_more-all_dirs-requires c =
    let r : Reported = record { item = c.index-items-place.result; given_up = c.is_given_up-given_up.result } in
    let rs = take c.loop-place.place (reported c.args.plan.now.items c.args.failed.now) in
    has_room (2 ^ 64) c.loop-place.place 1 (sum_in Dir one_key rs) (share_of Dir 1 r) c.loop-place.totals.dirs c.shares-dirs.result
    (ap (λ (t : Totals). t.dirs) c.loop-place.invariant.totals) c.shares-dirs.ensures c.loop-place.invariant.dirs (share_below Dir 1 r) (omega arith)

pub count_more-all_files-requires : goal.count_more-all_files-requires
count_more-all_files-requires c =
    let r : Reported = record { item = c.index-items-place.result; given_up = c.is_given_up-given_up.result } in
    let rs = take c.loop-place.place (reported c.args.plan.now.items c.args.failed.now) in
    has_room (2 ^ 64) c.loop-place.place 1 (sum_in File one_key rs) (share_of File 1 r) c.loop-place.totals.files c.shares-files.result
    (ap (λ (t : Totals). t.files) c.loop-place.invariant.totals) c.shares-files.ensures c.loop-place.invariant.files (share_below File 1 r) (omega arith)

pub add_more-all_bytes-requires : goal.add_more-all_bytes-requires
add_more-all_bytes-requires c =
    let r : Reported = record { item = c.index-items-place.result; given_up = c.is_given_up-given_up.result } in
    let rs = take c.loop-place.place (reported c.args.plan.now.items c.args.failed.now) in
    has_room (2 ^ 128) (c.loop-place.place * 18446744073709551615) r.item.facts.size (sum_in File size_of rs) (share_of File r.item.facts.size r) c.loop-place.totals.bytes c.shares-bytes.result
    (ap (λ (t : Totals). t.bytes) c.loop-place.invariant.totals) c.shares-bytes.ensures c.loop-place.invariant.bytes (share_below File r.item.facts.size r) (omega arith)

pub loop-place-preserved : goal.loop-place-preserved
loop-place-preserved c =
    let items = c.args.plan.now.items in
    let failed = c.args.failed.now in
    let i = c.loop-place.place in
    let x = c.index-items-place.result in
    let g = c.is_given_up-given_up.result in
    let r : Reported = record { item = x; given_up = g } in
    let rs = take i (reported items failed) in
    let next = take (i + 1) (reported items failed) in
    let l : i < length items = omega (arith, ap length c.items-items.ensures) in
    let at : x ≡ get_or items i x = c.index-items-place.is ∙ ap (λ (xs : List Item). get_or xs i x) c.items-items.ensures in
    let dirs = sum_more Dir one_key items failed i x g l at c.is_given_up-given_up.ensures in
    let files = sum_more File one_key items failed i x g l at c.is_given_up-given_up.ensures in
    let bytes = sum_more File size_of items failed i x g l at c.is_given_up-given_up.ensures in
    let dirs_row = row_more (sum_in Dir one_key rs) (share_of Dir 1 r) (sum_in Dir one_key next) c.loop-place.totals.dirs c.shares-dirs.result c.count_more-all_dirs.result
    (ap (λ (t : Totals). t.dirs) c.loop-place.invariant.totals) c.shares-dirs.ensures c.count_more-all_dirs.ensures dirs in
    let files_row = row_more (sum_in File one_key rs) (share_of File 1 r) (sum_in File one_key next) c.loop-place.totals.files c.shares-files.result c.count_more-all_files.result
    (ap (λ (t : Totals). t.files) c.loop-place.invariant.totals) c.shares-files.ensures c.count_more-all_files.ensures files in
    let bytes_row = row_more (sum_in File size_of rs) (share_of File x.facts.size r) (sum_in File size_of next) c.loop-place.totals.bytes c.shares-bytes.result c.add_more-all_bytes.result
    (ap (λ (t : Totals). t.bytes) c.loop-place.invariant.totals) c.shares-bytes.ensures c.add_more-all_bytes.ensures bytes in
    record {
      totals = λ p. record { dirs = dirs_row p; files = files_row p; bytes = bytes_row p };
      dirs = λ column. omega (arith, dirs column, c.loop-place.invariant.dirs column, share_below Dir 1 r column);
      files = λ column. omega (arith, files column, c.loop-place.invariant.files column, share_below File 1 r column);
      bytes = λ column. omega (arith, bytes column, c.loop-place.invariant.bytes column, share_below File x.facts.size r column);
    }

pub returns : goal.returns
returns c =
    let items = c.args.plan.now.items in
    let failed = c.args.failed.now in
    c.loop-place.invariant.totals
    ∙ ap counted (take_all c.loop-place.place (reported items failed) (omega (arith, length-reported items failed, ap length c.items-items.ensures)))
