-- The chain over each text gives its characters, so `cmp` compares the two lists of them.
use Rattle.std.proofs.Common.{◌≡◌, chars, refl}
use Rattle.std.specs.Ordering.{nat_cmp}
use Rattle.std.proofs.lemmas.Iterator.{YieldsList-from_chars}
use Rattle.std.proofs.lemmas.Iterator.Search.{cmp_from_yields_List}
use Rattle.std.proofs.lemmas.Iterator.Consumers.{YieldsList-at}
use Rattle.rc_tree.proofs.text.cmp_chars.Goals as goal

pub returns : goal.returns
returns c =
    cmp_from_yields_List {v = λ n. n} {s = c.chars.result} {xs = chars c.args.a.now} {ys = chars c.args.b.now} (λ x y. y ≡ x) c.chars-2.result nat_cmp _ c.cmp.ensures.ran
    (YieldsList-from_chars c.args.a.now c.utf8.a cc)
    (λ it e. YieldsList-at {s = it} {t = c.chars-2.result} e (YieldsList-from_chars c.args.b.now c.utf8.b cc))
    (λ x y. refl)
