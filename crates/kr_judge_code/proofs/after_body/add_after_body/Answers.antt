use Rattle.std.proofs.Common.{◌≡◌, refl, sym, ap, ◌∙◌, subst, List, ◌∷◌, [], ◌++◌, append_assoc, append-nil}
use Rattle.kr_ast.specs.Tree.{Tree}
use Rattle.kr_classes_table.specs.Table.{items}
use Rattle.kr_types_meaning.specs.Running.{running}
use Rattle.kr_laws_types.specs.Derivation.{AreContractLines, IsContractLine}
use Rattle.kr_code_lowering.specs.declared.site.Site.{Site}
use Rattle.kr_code_lowering.specs.Origins.{numbering_of}
use Rattle.kr_code_lowering.specs.Sites.{IsSite, scope_at, tree_at}
use Rattle.kr_judge_code.specs.Olds.{AreAdded}
use Rattle.kr_judge_code.proofs.Added.{both_added, none_added}
use Rattle.kr_judge_code.proofs.after_body.add_after_body.Goals as goal

pub loop-line-init : goal.loop-line-init
loop-line-init c = record {
  site = c.requires.site;
  shape = c.requires.shape;
  scope = refl;
  added = λ s final runs. ([], refl, none_added (numbering_of c.args.program.now final) s c.args.contract.now);
}

pub add_line-requires-clause-site : goal.add_line-requires-clause-site
add_line-requires-clause-site c = subst (λ (s : Site). IsSite c.args.program.now s) (sym c.at.ensures) c.in-Some.ensures.line.site

pub add_line-requires-clause-shape : goal.add_line-requires-clause-shape
add_line-requires-clause-shape c = subst (λ (s : Site). IsContractLine (tree_at c.args.program.now s)) (sym c.at.ensures) c.in-Some.ensures.one

pub loop-line-preserved : goal.loop-line-preserved
loop-line-preserved c =
    let p = c.args.program.now in
    let at = c.loop-line.at in
    let i = c.loop-line.invariant in
    let is = c.in-Some.ensures in
    record {
      site = subst (λ (s : Site). IsSite p s) (sym c.at-at.ensures) is.rest.site;
      shape = subst (λ (s : Site). AreContractLines (tree_at p s)) (sym c.at-at.ensures) is.shape;
      scope = ap (scope_at p) c.at-at.ensures ∙ (is.rest.scope ∙ i.scope);
      added = λ s final runs.
          let t : Tree = tree_at p (record at { node = c.in-Some.line }) in
          let ts = items (tree_at p (record at { node = c.in-Some.rest })) in
          let was = i.added s final runs in
          let here : running (scope_at p c.at.result) ≡ s = ap running (ap (scope_at p) c.at.ensures ∙ (is.line.scope ∙ i.scope)) ∙ runs in
          let line = subst (λ (u : Site). AreAdded (numbering_of p final) s (tree_at p u ∷ []) c.loop-line.contract c.add_line.new.contract) c.at.ensures (c.in_ok-add_line.ensures s final here) in (
            was.0 ++ t ∷ [],
            ap (λ (u : Site). (was.0 ++ t ∷ []) ++ items (tree_at p u)) c.at-at.ensures
                ∙ (append_assoc was.0 (t ∷ []) ts
                ∙ (ap (λ (us : List Tree). was.0 ++ us) (sym is.lines) ∙ was.1)),
            both_added (numbering_of p final) s was.0 (t ∷ []) c.args.contract.now c.loop-line.contract c.add_line.new.contract was.2 line,
          );
    }

pub returns : goal.returns
returns c = λ s final runs.
    let p = c.args.program.now in
    let was = c.loop-line.invariant.added s final runs in
    let all : was.0 ≡ items (tree_at p c.args.list) = sym (append-nil was.0) ∙ (ap (λ (ts : List Tree). was.0 ++ ts) (sym c.in_default.ensures) ∙ was.1) in
    subst (λ (ts : List Tree). AreAdded (numbering_of p final) s ts c.args.contract.now c.loop-line.contract) all was.2
