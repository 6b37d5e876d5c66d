-- The text of an entry's line, field by field.
use Rattle.std.proofs.Common.{◌≡◌, ℕ, List, ◌∷◌, ◌++◌, refl, sym, ap}
use Rattle.std.specs.Prelude.{codes}
use Rattle.std.specs.Fmt.{decimal}
use Rattle.std.specs.List.{join_with_byte}
use Rattle.std.proofs.lemmas.List.{append-nil}
use Rattle.rc_tree.specs.declared.attr.Kind.{Kind}
use Rattle.rc_tree.specs.declared.attr.Kind.TheVariants.{File, Dir}
use Rattle.rc_tree.specs.declared.props.Props.{Props}
use Rattle.rc_tree.specs.Tree.{Node}
use Rattle.rc_sitetext.specs.SiteText.{attr_text, content_fields, entry_fields, hex_text, kind_text, path_text, props_fields}
use Rattle.rc_sitetext.specs.Writing.{last_text}

abbrev pub props_text : Props → List ℕ → List ℕ
props_text p rest = attr_text p.attr ++ 9 ∷ (decimal p.created ++ 9 ∷ (decimal p.written ++ 9 ∷ (hex_text p.access ++ 9 ∷ (hex_text p.owner ++ 9 ∷ (hex_text p.audit ++ rest)))))

fields_join : (kind : Kind) (path : List (List ℕ)) (p : Props) (bytes : List ℕ) → join_with_byte 9 (kind_text kind ∷ path_text path ∷ (props_fields p ++ content_fields kind bytes)) ≡ kind_text kind ++ 9 ∷ (path_text path ++ 9 ∷ props_text p (last_text kind bytes))
fields_join File path p bytes = refl
fields_join Dir path p bytes =
    ap (λ (t : List ℕ). codes "D" ++ 9 ∷ (path_text path ++ 9 ∷ (attr_text p.attr ++ 9 ∷ (decimal p.created ++ 9 ∷ (decimal p.written ++ 9 ∷ (hex_text p.access ++ 9 ∷ (hex_text p.owner ++ 9 ∷ t))))))) (sym (append-nil (hex_text p.audit)))

pub line_is : (path : List (List ℕ)) (node : Node) → entry_fields path node ≡ kind_text node.kind ++ 9 ∷ (path_text path ++ 9 ∷ props_text node.props (last_text node.kind node.bytes))
line_is path node = fields_join node.kind path node.props node.bytes
