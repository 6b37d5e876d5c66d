-- Each step finds the next entry of the tree, or leaves a directory behind which nothing was passed over.
use Rattle.std.proofs.Common.{◌≡◌, ◌++◌, ◌∷◌, [], cond, refl, sym, ap, subst, ◌∙◌, List, arith, rules}
use Rattle.rc_tree.specs.Tree.{IsTree}
use Rattle.rc_volume.specs.Site.{Told, tree_in, tree_of}
use Rattle.rc_volume.proofs.WaitLemmas.{waits_never, waits_then}
use Rattle.rc_plan.specs.declared.entries.Found.{Found}
use Rattle.rc_plan.specs.declared.entries.Step.TheVariants as step
use Rattle.rc_plan.proofs.Walks.{Steps-same, Walks, Walks-end, Walks-enter, Walks-leave, Walks-start}
use Rattle.rc_plan.proofs.entries.read_side.Goals as goal

pub entries-init : goal.entries-init
entries-init g c = record {
  walks = Walks-start _ _ _ _ c.root.ensures refl c.new-found.ensures.items;
  frame = search rules;
  waits = waits_never _ _ _ _ _ (λ part. omega arith);
  always = search rules;
  last = search rules;
  unread = search rules;
  no_pause = search rules;
}

pub entries-preserved-in-Ok-Entered : goal.entries-preserved-in-Ok-Entered
entries-preserved-in-Ok-Entered g c =
    let tree = tree_in (g.S.Site.view c.args.site.now) c.args.side in
    let found = c.entries.found.items in
    let entry = c.in-Ok-Entered.entry in
    let pushed : c.push.new.self.items ≡ found ++ entry ∷ [] = c.push.ensures.items ∙ ap (λ b. cond b (found ++ entry ∷ []) found) c.if-is_err.ensures.negation in
    record {
      walks =
          subst (λ (all : List Found). Walks g.S.Site.tells tree c.in-Ok-Entered.next all) (sym pushed)
          (Walks-enter g.S.Site.tells tree c.entries.place found entry c.in-Ok-Entered.next c.entries.invariant.walks
          (Steps-same g.S.Site.tells _ tree c.entries.place _ (step.Entered entry c.in-Ok-Entered.next) (λ tells. ap (λ (told : Told). tree_of told c.args.side) (c.entries.invariant.frame.told tells)) c.in-Ok-Entered.field-0-is c.in-Ok-Entered.ensures.steps));
      frame = search rules;
      waits = waits_then _ _ _ _ _ _ _ _ _ (λ part. refl) c.entries.invariant.waits c.in-Ok-Entered.ensures.waits;
      always = search rules;
      last = search rules;
      unread = search rules;
      no_pause = search rules;
    }

pub entries-preserved : goal.entries-preserved
entries-preserved g c =
    let tree = tree_in (g.S.Site.view c.args.site.now) c.args.side in
    record {
      walks =
          Walks-leave g.S.Site.tells tree c.entries.place c.in-Ok-Left.next c.entries.found.items c.entries.invariant.walks
          (λ tells. subst IsTree (ap (λ (told : Told). tree_of told c.args.side) (c.entries.invariant.frame.told tells)) (c.in-Ok-Left.ensures.tree tells))
          (Steps-same g.S.Site.tells _ tree c.entries.place _ (step.Left c.in-Ok-Left.next) (λ tells. ap (λ (told : Told). tree_of told c.args.side) (c.entries.invariant.frame.told tells)) c.in-Ok-Left.field-0-is c.in-Ok-Left.ensures.steps);
      frame = search rules;
      waits = waits_then _ _ _ _ _ _ _ _ _ (λ part. refl) c.entries.invariant.waits c.in-Ok-Left.ensures.waits;
      always = search rules;
      last = search rules;
      unread = search rules;
      no_pause = search rules;
    }

pub returns-in-Ok-Ended-clause-all : goal.returns-in-Ok-Ended-clause-all
returns-in-Ok-Ended-clause-all g c = λ tells.
    let tree = tree_in (g.S.Site.view c.args.site.now) c.args.side in
    Walks-end g.S.Site.tells tree c.entries.place c.entries.found.items c.entries.invariant.walks
    (Steps-same g.S.Site.tells _ tree c.entries.place _ step.Ended (λ tells. ap (λ (told : Told). tree_of told c.args.side) (c.entries.invariant.frame.told tells)) c.in-Ok-Ended.field-0-is c.in-Ok-Ended.ensures.steps)
    tells
    (subst IsTree (ap (λ (told : Told). tree_of told c.args.side) (c.entries.invariant.frame.told tells)) (c.in-Ok-Ended.ensures.tree tells))

pub returns-then-is_err-clause-waits : goal.returns-then-is_err-clause-waits
returns-then-is_err-clause-waits g c = waits_then _ _ _ _ _ _ _ _ _ (λ part. refl) c.entries.invariant.waits c.in-Ok-Entered.ensures.waits

pub returns-in-Ok-Ended-clause-waits : goal.returns-in-Ok-Ended-clause-waits
returns-in-Ok-Ended-clause-waits g c = waits_then _ _ _ _ _ _ _ _ _ (λ part. refl) c.entries.invariant.waits c.in-Ok-Ended.ensures.waits

pub returns-in-Err-clause-waits : goal.returns-in-Err-clause-waits
returns-in-Err-clause-waits g c = waits_then _ _ _ _ _ _ _ _ _ (λ part. refl) c.entries.invariant.waits c.in-Err.ensures.waits
