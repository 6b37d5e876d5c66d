use Rattle.std.proofs.Common.{◌≡◌, false, refl, sym, ◌∙◌}
use Rattle.rc_copy.specs.Copying.{copies_any}
use Rattle.rc_copy.proofs.ItemLemmas.{passed_none}
use Rattle.rc_copy.proofs.WantLemmas.{opens_none}
use Rattle.rc_copy.proofs.copying.copy_files.Goals as goal

pub returns-then-not-copies_any-clause-copied : goal.returns-then-not-copies_any-clause-copied
returns-then-not-copies_any-clause-copied g c = λ tells.
    let none : copies_any c.args.items.now ≡ false = sym c.copies_any.ensures ∙ c.if-not-copies_any.true in
    passed_none c.args.copying.now c.args.items.now (g.S.Site.view c.args.site.now).told none

pub returns-then-not-copies_any-clause-opened : goal.returns-then-not-copies_any-clause-opened
returns-then-not-copies_any-clause-opened g c =
    let none : copies_any c.args.items.now ≡ false = sym c.copies_any.ensures ∙ c.if-not-copies_any.true in
    opens_none c.args.copying.now.with_bytes c.args.items.now _ _ none refl
