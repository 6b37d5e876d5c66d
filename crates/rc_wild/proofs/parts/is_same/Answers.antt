-- The chain over each part gives its folded characters, so `cmp` ties them where they are one.
use Rattle.std.proofs.Common.{◌≡◌, chars, rules, refl, ap, ◌∙◌}
use Rattle.std.specs.Ordering.{nat_cmp, is_eq}
use Rattle.std.specs.Cmp.Lexicographic.{slice_cmp}
use Rattle.std.proofs.lemmas.Iterator.{YieldsList-from_chars, YieldsList-from_map}
use Rattle.std.proofs.lemmas.Iterator.Search.{cmp_from_yields_List}
use Rattle.std.proofs.lemmas.Iterator.Consumers.{YieldsList-at}
use Rattle.std.proofs.lemmas.Map.Text.{is_eq-slice_cmp}
use Rattle.unicode.specs.CaseFolding.{simple_fold}
use Rattle.rc_tree.specs.Name.{folded}
use Rattle.rc_wild.proofs.parts.is_same.Goals as goal

pub returns : goal.returns
returns c =
    let order : c.cmp-order.result ≡ slice_cmp nat_cmp (folded (chars c.args.a.now)) (folded (chars c.args.b.now)) =
    cmp_from_yields_List {v = λ n. n} {s = c.map.result} {xs = folded (chars c.args.a.now)} {ys = folded (chars c.args.b.now)} (λ x y. y ≡ x) c.map-2.result nat_cmp _ c.cmp-order.ensures.ran
    (YieldsList-from_map _ simple_fold (YieldsList-from_chars c.args.a.now c.utf8.a cc) c.map.ensures.closure (λ x r q k. search rules))
    (λ it e. YieldsList-at {s = it} {t = c.map-2.result} e (YieldsList-from_map _ simple_fold (YieldsList-from_chars c.args.b.now c.utf8.b cc) c.map-2.ensures.closure (λ x r q k. search rules)))
    (λ x y. refl) in
    c.is_eq.ensures ∙ ap is_eq order ∙ is_eq-slice_cmp (folded (chars c.args.a.now)) (folded (chars c.args.b.now))
