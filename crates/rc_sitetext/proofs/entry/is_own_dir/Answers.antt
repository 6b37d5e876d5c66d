use Rattle.std.proofs.Common.{◌≢◌, ap, sym, ◌∙◌, length}
use Rattle.std.proofs.lemmas.Bool.{eqb-false}
use Rattle.std.specs.FinMap.{get}
use Rattle.rc_mem.specs.Nodes.{node_of}
use Rattle.rc_sitetext.proofs.Ways.{own_dir_at}
use Rattle.rc_sitetext.proofs.entry.is_own_dir.Goals as goal

pub returns-in-Some : goal.returns-in-Some
returns-in-Some c =
    let dir = c.args.dir.now in
    let node = c.in-Some.node.now in
    let key = c.in_ok-key.ensures in
    let names = eqb-false (length c.names.result.now) 0 (sym c.is_empty.ensures ∙ c.if-is_empty.false) in
    let some : length dir ≢ 0 = λ e. names (ap length c.names.ensures.same ∙ e) in
    c.is_dir_at.ensures
    ∙ sym (own_dir_at c.args.tree.now dir node.path (node_of node) some (ap (get c.args.tree.now) (sym key) ∙ sym c.in-Some.ensures.found) (c.in-Some.ensures.placed ∙ key) c.in-Some.ensures.spelled)
