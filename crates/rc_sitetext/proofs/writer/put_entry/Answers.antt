use Rattle.std.proofs.Common.{◌++◌, List, ℕ, string_bytes, lit<, ap, ◌∙◌}
use Rattle.rc_mem.specs.Nodes.{node_of}
use Rattle.rc_sitetext.proofs.Appends.{entry_put}
use Rattle.rc_sitetext.proofs.writer.put_entry.Goals as goal

pub returns : goal.returns
returns c =
    entry_put _ _ _ _ _ _ _ c.args.node.now.path (node_of c.args.node.now)
    (c.in_ok-push_str.ensures.bytes ∙ ap (λ (t : List ℕ). string_bytes c.args.line.now ++ t) c.letter_of.ensures)
    c.in_ok-put_path.ensures
    (rw (c.in_ok-push.ensures.ascii (lit< tt)) at c.in_ok-push.ensures.bytes)
    c.in_ok-put_props.ensures c.in_ok-put_last.ensures
    (rw (c.in_ok-push-2.ensures.ascii (lit< tt)) at c.in_ok-push-2.ensures.bytes)
