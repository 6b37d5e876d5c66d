-- The chain over each text gives its folded characters, so `cmp` compares the two lists of them.
use Rattle.std.proofs.Common.{◌≡◌, chars, rules, refl}
use Rattle.std.specs.Ordering.{nat_cmp}
use Rattle.std.proofs.lemmas.Iterator.{YieldsList-from_chars, YieldsList-from_map}
use Rattle.std.proofs.lemmas.Iterator.Search.{cmp_from_yields_List}
use Rattle.unicode.specs.CaseFolding.{simple_fold}
use Rattle.std.proofs.lemmas.Iterator.Consumers.{YieldsList-at}
use Rattle.rc_tree.specs.Name.{folded}
use Rattle.rc_tree.proofs.name.cmp_folded.Goals as goal

pub returns : goal.returns
returns c =
    cmp_from_yields_List {v = λ n. n} {s = c.map.result} {xs = folded (chars c.args.a.now)} {ys = folded (chars c.args.b.now)} (λ x y. y ≡ x) c.map-2.result nat_cmp _ c.cmp.ensures.ran
    (YieldsList-from_map _ simple_fold (YieldsList-from_chars c.args.a.now c.utf8.a cc) c.map.ensures.closure (λ x r q k. search rules))
    (λ it e. YieldsList-at {s = it} {t = c.map-2.result} e (YieldsList-from_map _ simple_fold (YieldsList-from_chars c.args.b.now c.utf8.b cc) c.map-2.ensures.closure (λ x r q k. search rules)))
    (λ x y. refl)
