use Rattle.std.proofs.Common.{ap, sym, ◌∙◌, cond, [], ◌∷◌, map}
use Rattle.std.specs.FinMap.{insert}
use Rattle.rc_tree.specs.Path.{key_of}
use Rattle.rc_stop.specs.declared.kept.Touched.{Touched}
use Rattle.rc_stop.specs.Grown.{keys_held}
use Rattle.rc_stop.specs.KeptSite.{gathered}
use Rattle.rc_stop.proofs.Draws.{keys-insert}
use Rattle.rc_stop.proofs.image.gather_one.Goals as goal

pub returns-in_ok-insert-clause-one : goal.returns-in_ok-insert-clause-one
returns-in_ok-insert-clause-one c =
    let call = c.args.call.now in
    let held = keys_held c.args.keys.now in
    keys-insert c.args.keys.now c.insert.new.self c.in_ok-key.field-0 c.in_ok-insert.ensures.updates
    ∙ ap (λ key. insert held key tt) c.in_ok-key.ensures
    ∙ ap (λ b. gathered (map (λ (t : Touched). key_of t.path) (cond b (call ∷ []) [])) held) (sym (sym c.is_side.ensures ∙ c.if-is_side.true))
