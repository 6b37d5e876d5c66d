use Rattle.std.proofs.Common.{◌≡◌, ap, refl, subst, ◌∙◌, ◌++◌, codes}
use Rattle.std.specs.Prelude.{IfOk}
use Rattle.std.specs.Str.{chars}
use Rattle.std.proofs.lemmas.Str.{chars-append}
use Rattle.rc_jobfiles.proofs.naming.extended.Goals as goal

ending : chars (codes ".RCJ") ≡ codes ".RCJ"
unfolding chars
ending = refl

pub returns : goal.returns
returns c =
    let name = c.args.name.now in
    let spelled = c.deref.ensures ∙ c.in_ok-push_str.ensures.bytes ∙ ap (λ bs. bs ++ codes ".RCJ") c.in_ok-full.ensures.ok in
    let e : chars c.deref.result.now ≡ chars name ++ codes ".RCJ" = ap chars spelled ∙ chars-append name (codes ".RCJ") c.utf8.name ∙ ap (λ cs. chars name ++ cs) ending in
    subst (λ cs. IfOk c.of.result (λ full. full ≡ cs)) e c.of.ensures
