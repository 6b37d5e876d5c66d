-- All pairs are scoped one behind another, from the root on.
use Rattle.std.proofs.Common.{ap, ◌∙◌, List, []}
use Rattle.rc_plan.specs.declared.rows.Row.{Row}
use Rattle.rc_plan.specs.Rows.{are_rows_rising, row_at}
use Rattle.rc_plan.proofs.Scans.{ended, rows-of, rows-rising, rows-root, scan_end}
use Rattle.rc_plan.proofs.rows.scope_pairs.Goals as goal

pub returns-in-None-clause-rising : goal.returns-in-None-clause-rising
returns-in-None-clause-rising c =
    ap are_rows_rising (scan_end c.args.job.now c.pairs.depth c.args.pairs.items c.pairs.left.items c.pairs.rows.items c.pairs.invariant (ended c.pairs.left.items (c.in-None.ensures.items ∙ c.in-None.ensures.rest)))
    ∙ rows-rising c.args.job.now 0 c.args.pairs.items c.requires

pub returns-in-None-clause-root : goal.returns-in-None-clause-root
returns-in-None-clause-root c = λ none.
    ap (λ (rows : List Row). row_at rows []) (scan_end c.args.job.now c.pairs.depth c.args.pairs.items c.pairs.left.items c.pairs.rows.items c.pairs.invariant (ended c.pairs.left.items (c.in-None.ensures.items ∙ c.in-None.ensures.rest)))
    ∙ rows-root c.args.job.now 0 c.args.pairs.items none

pub returns-in-None-clause-scoped : goal.returns-in-None-clause-scoped
returns-in-None-clause-scoped c = λ source target ours theirs all key.
    ap (λ (rows : List Row). row_at rows key) (scan_end c.args.job.now c.pairs.depth c.args.pairs.items c.pairs.left.items c.pairs.rows.items c.pairs.invariant (ended c.pairs.left.items (c.in-None.ensures.items ∙ c.in-None.ensures.rest)))
    ∙ rows-of c.args.job.now source target ours theirs (c.decisions_by_neighbours.ensures.scope c.args.job.now source target) c.args.pairs.items c.requires all key
