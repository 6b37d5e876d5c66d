use Rattle.std.proofs.Common.{◌≡◌, ◌∙◌, ap, sym, subst, true, false, Some, Ok, Err, List, ℕ}
use Rattle.std.proofs.lemmas.Result.{err_from_is_err_and}
use Rattle.std.specs.FinMap.{entries, insert}
use Rattle.rc_tree.specs.Path.{key_cmp, key_of, parent_of}
use Rattle.rc_tree.specs.Tree.{Tree}
use Rattle.rc_tree.proofs.Keys.{key_cmp-total}
use Rattle.rc_sitetext.specs.declared.err.FaultKind.TheVariants as fault
use Rattle.rc_sitetext.specs.Drafts.{fields_of, values_of}
use Rattle.rc_sitetext.specs.Faults.{Stops, added_at}
use Rattle.rc_sitetext.specs.Lines.{texts_of}
use Rattle.rc_sitetext.specs.Reading.{bytes_of, entry_texts, fields_at, is_above, is_behind, is_within, last_key, node_of, values_at}
use Rattle.rc_sitetext.proofs.Binds.{gives_fault, gives_value}
use Rattle.rc_sitetext.proofs.FieldValues.{is_above_behind, last_key_added}
use Rattle.rc_sitetext.proofs.Rising.{above_each}
use Rattle.rc_sitetext.proofs.Steps.{Valued, added_is, added_late, added_unread, directory_from}
use Rattle.rc_sitetext.proofs.entry.Entries.with.Goals as goal

pub returns-then-not-is_behind : goal.returns-then-not-is_behind
returns-then-not-is_behind c =
    let line = c.args.line.now in
    let texts = c.in_ok-texts.texts in
    let fields = c.in_ok-fields.fields in
    let values = c.in_ok-values.values in
    let read : Valued line (texts_of texts) (fields_of fields) (values_of values) = record {
      texts = gives_value texts_of fault.Line c.entry_texts.result (entry_texts line) texts c.entry_texts.ensures (sym c.needed.ensures ∙ c.in_ok-texts.was);
      fields = gives_value fields_of fault.Field c.fields_of.result (fields_at (texts_of texts)) fields c.fields_of.ensures (sym c.needed-2.ensures ∙ c.in_ok-fields.was);
      values = gives_value values_of fault.Limit c.values_of.result (values_at (texts_of texts) (fields_of fields)) values c.values_of.ensures (sym c.needed-3.ensures ∙ c.in_ok-values.was);
    } in
    let tree = c.self-2.inside.tree in
    let late : is_above tree (key_of values.path) ≡ false =
    is_above_behind key_cmp key_cmp-total tree c.self-2.inside.last (key_of values.path) c.self-2.invariant
    ∙ ap (is_behind key_cmp c.self-2.inside.last) (sym c.in_ok-key.ensures) ∙ sym c.is_behind.ensures ∙ c.if-not-is_behind.true in
    subst (λ (t : Tree). added_at t line ≡ Err fault.Order) c.self-2.view_is
    (added_late tree line (texts_of texts) (fields_of fields) (values_of values) read (sym c.in_ok-is_within.ensures ∙ c.if-not-branch.false) late)

pub returns-in_err-bytes : goal.returns-in_err-bytes
returns-in_err-bytes c =
    let line = c.args.line.now in
    let texts = c.in_ok-texts.texts in
    let fields = c.in_ok-fields.fields in
    let values = c.in_ok-values.values in
    let read : Valued line (texts_of texts) (fields_of fields) (values_of values) = record {
      texts = gives_value texts_of fault.Line c.entry_texts.result (entry_texts line) texts c.entry_texts.ensures (sym c.needed.ensures ∙ c.in_ok-texts.was);
      fields = gives_value fields_of fault.Field c.fields_of.result (fields_at (texts_of texts)) fields c.fields_of.ensures (sym c.needed-2.ensures ∙ c.in_ok-fields.was);
      values = gives_value values_of fault.Limit c.values_of.result (values_at (texts_of texts) (fields_of fields)) values c.values_of.ensures (sym c.needed-3.ensures ∙ c.in_ok-values.was);
    } in
    let tree = c.self-2.inside.tree in
    let above : is_above tree (key_of values.path) ≡ true =
    is_above_behind key_cmp key_cmp-total tree c.self-2.inside.last (key_of values.path) c.self-2.invariant
    ∙ ap (is_behind key_cmp c.self-2.inside.last) (sym c.in_ok-key.ensures) ∙ sym c.is_behind.ensures ∙ c.if-not-is_behind.false in
    let p = err_from_is_err_and c.from_residual-in_err-bytes.result c.from_residual-in_err-bytes.ensures.1 in
    let stops = gives_fault (λ v. v.items) fault.Content c.bytes_of-bytes.result (bytes_of texts.kind values.size texts.last.content.now) c.in_err-bytes.field-0.0 _ c.bytes_of-bytes.ensures.content (sym c.needed-4.ensures ∙ c.in_err-bytes.was) in
    rw (p.1, p.2) (subst (λ (t : Tree). Stops c.in_err-bytes.field-0.0 (added_at t line)) c.self-2.view_is
    (added_unread c.in_err-bytes.field-0.0 tree line (texts_of texts) (fields_of fields) (values_of values) read (sym c.in_ok-is_within.ensures ∙ c.if-not-branch.false) above stops))

pub add-requires-clause-above : goal.add-requires-clause-above
unfolding is_above
add-requires-clause-above c =
    let values = c.in_ok-values.values in
    let tree = c.self-2.inside.tree in
    let above : is_above tree (key_of values.path) ≡ true =
    is_above_behind key_cmp key_cmp-total tree c.self-2.inside.last (key_of values.path) c.self-2.invariant
    ∙ ap (is_behind key_cmp c.self-2.inside.last) (sym c.in_ok-key.ensures) ∙ sym c.is_behind.ensures ∙ c.if-not-is_behind.false in
    above_each key_cmp key_cmp-total (key_of c.in_ok-node_of.field-0.path) (entries tree) (ap (λ (path : List (List ℕ)). is_above tree (key_of path)) c.in_ok-node_of.ensures.path ∙ above)

pub add-requires-clause-parent : goal.add-requires-clause-parent
add-requires-clause-parent c =
    let tree = c.self-2.inside.tree in
    directory_from tree (parent_of c.in_ok-node_of.field-0.path)
    (ap (λ (path : List (List ℕ)). is_within tree (parent_of path)) c.in_ok-node_of.ensures.path ∙ sym c.in_ok-is_within.ensures ∙ c.if-not-branch.false)

pub invariant_of-result : goal.invariant_of-result
invariant_of-result c =
    let values = c.in_ok-values.values in
    let tree = c.self-2.inside.tree in
    let above : is_above tree (key_of values.path) ≡ true =
    is_above_behind key_cmp key_cmp-total tree c.self-2.inside.last (key_of values.path) c.self-2.invariant
    ∙ ap (is_behind key_cmp c.self-2.inside.last) (sym c.in_ok-key.ensures) ∙ sym c.is_behind.ensures ∙ c.if-not-is_behind.false in
    let node = c.in_ok-node_of.field-0 in
    ap last_key c.in_ok-add.ensures.added
    ∙ last_key_added key_cmp key_cmp-total tree (key_of node.path) _ (ap (λ (path : List (List ℕ)). is_above tree (key_of path)) c.in_ok-node_of.ensures.path ∙ above)
    ∙ ap (λ (k : List (List ℕ)). Some k) (ap key_of c.in_ok-node_of.ensures.path ∙ sym c.in_ok-key.ensures)

pub returns : goal.returns
returns c =
    let line = c.args.line.now in
    let texts = c.in_ok-texts.texts in
    let fields = c.in_ok-fields.fields in
    let values = c.in_ok-values.values in
    let read : Valued line (texts_of texts) (fields_of fields) (values_of values) = record {
      texts = gives_value texts_of fault.Line c.entry_texts.result (entry_texts line) texts c.entry_texts.ensures (sym c.needed.ensures ∙ c.in_ok-texts.was);
      fields = gives_value fields_of fault.Field c.fields_of.result (fields_at (texts_of texts)) fields c.fields_of.ensures (sym c.needed-2.ensures ∙ c.in_ok-fields.was);
      values = gives_value values_of fault.Limit c.values_of.result (values_at (texts_of texts) (fields_of fields)) values c.values_of.ensures (sym c.needed-3.ensures ∙ c.in_ok-values.was);
    } in
    let tree = c.self-2.inside.tree in
    let above : is_above tree (key_of values.path) ≡ true =
    is_above_behind key_cmp key_cmp-total tree c.self-2.inside.last (key_of values.path) c.self-2.invariant
    ∙ ap (is_behind key_cmp c.self-2.inside.last) (sym c.in_ok-key.ensures) ∙ sym c.is_behind.ensures ∙ c.if-not-is_behind.false in
    let bytes = gives_value (λ v. v.items) fault.Content c.bytes_of-bytes.result (bytes_of texts.kind values.size texts.last.content.now) c.in_ok-bytes.bytes c.bytes_of-bytes.ensures.content (sym c.needed-4.ensures ∙ c.in_ok-bytes.was) in
    subst (λ (t : Tree). added_at t line ≡ Ok c.add.new.self) c.self-2.view_is
    (added_is tree line (texts_of texts) (fields_of fields) (values_of values) c.in_ok-bytes.bytes.items read (sym c.in_ok-is_within.ensures ∙ c.if-not-branch.false) above bytes
    ∙ ap (λ (t : Tree). Ok t) (ap (λ (path : List (List ℕ)). insert tree (key_of path) (node_of texts.kind (values_of values) c.in_ok-bytes.bytes.items)) (sym c.in_ok-node_of.ensures.path)
    ∙ ap (insert tree (key_of c.in_ok-node_of.field-0.path)) (sym c.in_ok-node_of.ensures.node) ∙ sym c.in_ok-add.ensures.added))
