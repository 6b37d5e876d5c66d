-- Codes, by which a proof tells nodes apart: what a model whose value is a tree has to give.
use Rattle.std.specs.Prelude.{◌≡◌, ℕ, Bool, true, false, List, refl}
use Rattle.std.specs.Coded.{Coded, code_by, coded×, coded_ℕ, coded_bool, coded_list}
use Rattle.std.specs.FinMap as map
use Rattle.rc_tree.specs.declared.attr.Attr.{Attr}
use Rattle.rc_tree.specs.declared.attr.Kind.{Kind}
use Rattle.rc_tree.specs.declared.attr.Kind.TheVariants.{File, Dir}
use Rattle.rc_tree.specs.declared.props.Props.{Props}
use Rattle.rc_tree.specs.Tree.{Node, Tree}

abbrev pub coded_text : Coded (List ℕ)
coded_text = coded_list coded_ℕ

abbrev pub is_dir : Kind → Bool
is_dir File = false
is_dir Dir = true

abbrev pub kind_of : Bool → Kind
kind_of false = File
kind_of true = Dir

pub kind_of-is_dir : (k : Kind) → kind_of (is_dir k) ≡ k
kind_of-is_dir File = refl
kind_of-is_dir Dir = refl

abbrev pub coded_kind : Coded Kind
coded_kind = code_by Bool coded_bool is_dir kind_of kind_of-is_dir

abbrev pub Five : Type 0
Five = Bool × (Bool × (Bool × (Bool × Bool)))

abbrev pub coded_five : Coded Five
coded_five = coded× coded_bool (coded× coded_bool (coded× coded_bool (coded× coded_bool coded_bool)))

abbrev pub coded_attr : Coded Attr
coded_attr =
    code_by (Five × Five) (coded× coded_five coded_five)
    (λ a. ((a.readonly, (a.hidden, (a.system, (a.archive, a.temporary)))), (a.sparse, (a.compressed, (a.offline, (a.not_indexed, a.encrypted))))))
    (λ p. record {
      readonly = p.0.0;
      hidden = p.0.1.0;
      system = p.0.1.1.0;
      archive = p.0.1.1.1.0;
      temporary = p.0.1.1.1.1;
      sparse = p.1.0;
      compressed = p.1.1.0;
      offline = p.1.1.1.0;
      not_indexed = p.1.1.1.1.0;
      encrypted = p.1.1.1.1.1;
    })
    (λ _. refl)

abbrev pub coded_props : Coded Props
coded_props =
    code_by (Attr × ((ℕ × ℕ) × (List ℕ × (List ℕ × List ℕ))))
    (coded× coded_attr (coded× (coded× coded_ℕ coded_ℕ) (coded× coded_text (coded× coded_text coded_text))))
    (λ p. (p.attr, ((p.created, p.written), (p.access, (p.owner, p.audit)))))
    (λ q. record { attr = q.0; created = q.1.0.0; written = q.1.0.1; access = q.1.1.0; owner = q.1.1.1.0; audit = q.1.1.1.1 })
    (λ _. refl)

abbrev pub coded_node : Coded Node
coded_node =
    code_by (List ℕ × (Kind × (List ℕ × Props)))
    (coded× coded_text (coded× coded_kind (coded× coded_text coded_props)))
    (λ n. (n.spelling, (n.kind, (n.bytes, n.props))))
    (λ q. record { spelling = q.0; kind = q.1.0; bytes = q.1.1.0; props = q.1.1.1 })
    (λ _. refl)

abbrev pub coded_tree : Coded Tree
coded_tree = map.code (coded_list coded_text) coded_node
