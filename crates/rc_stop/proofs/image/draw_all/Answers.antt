use Rattle.std.proofs.Common.{◌∙◌}
use Rattle.std.specs.FinMap.{find}
use Rattle.std.specs.Map.{keys_of}
use Rattle.rc_tree.specs.Path.{key_cmp}
use Rattle.rc_stop.specs.Stops.{draws}
use Rattle.rc_stop.proofs.Draws.{behind-step, drawn-step}
use Rattle.rc_stop.proofs.image.draw_all.Goals as goal

pub keys-preserved : goal.keys-preserved
keys-preserved c =
    let removal = c.in-Some.ensures.removal in
    record {
      found = drawn-step c.in-Some.key c.in-Some.field-0-1 c.keys.state c.next_state-state.result c.is_odd.result c.keys.touched.entries c.pop_first.new.self.entries c.keys.odd c.insert.new.self
          (λ key. find key_cmp key (draws c.args.state (keys_of c.args.touched.entries))) removal c.keys.invariant.ordered c.next_state-state.ensures c.is_odd.ensures c.in_ok-insert.ensures.updates c.keys.invariant.found;
      behind = behind-step c.in-Some.key c.in-Some.field-0-1 c.keys.state c.next_state-state.result c.keys.touched.entries c.pop_first.new.self.entries removal c.next_state-state.ensures ∙ c.keys.invariant.behind;
      ordered = c.in-Some.ensures.ordered;
      drawn = c.in_ok-insert.ensures.ordered;
    }
