use Rattle.std.proofs.Common.{◌≡◌, refl, sym, ap, ◌∙◌, subst, List, ◌∷◌, [], ◌++◌, map, append-nil}
use Rattle.std.specs.Prelude.{option_to_list}
use Rattle.kr_ast.specs.Tree.{Tree}
use Rattle.kr_classes_table.specs.Table.{items}
use Rattle.kr_types_meaning.specs.Running.{running}
use Rattle.kr_laws_types.specs.Derivation.{AreContractLines}
use Rattle.kr_code_lowering.specs.declared.site.Site.{Site}
use Rattle.kr_code_lowering.specs.Origins.{numbering_of}
use Rattle.kr_code_lowering.specs.Sites.{IsSite, scope_at, tree_at}
use Rattle.kr_judge_code.specs.Lines.{required}
use Rattle.kr_judge_code.proofs.Stated.{more_required}
use Rattle.kr_judge_code.proofs.required.add_required.Goals as goal

pub loop-line-init : goal.loop-line-init
loop-line-init c = record { site = c.requires.site; shape = c.requires.shape; scope = refl; added = λ s final runs. refl }

pub loop-line-preserved : goal.loop-line-preserved
loop-line-preserved c =
    let p = c.args.program.now in
    let at = c.loop-line.at in
    let i = c.loop-line.invariant in
    let is = c.in-Some.ensures in
    let found = option_to_list c.condition_of.result in
    let old = c.loop-line.conditions.items in
    let new = c.add_found.new.items.items in
    record {
      site = subst (λ (s : Site). IsSite p s) (sym c.at-at.ensures) is.rest.site;
      shape = subst (λ (s : Site). AreContractLines (tree_at p s)) (sym c.at-at.ensures) is.shape;
      scope = ap (scope_at p) c.at-at.ensures ∙ (is.rest.scope ∙ i.scope);
      added = λ s final runs.
          let here : running (scope_at p c.at.result) ≡ s = ap running (ap (scope_at p) c.at.ensures ∙ (is.line.scope ∙ i.scope)) ∙ runs in
          let line = subst (λ (t : Site). map (numbering_of p final).origin found ≡ required s (tree_at p t ∷ [])) c.at.ensures (c.condition_of.ensures s final here) in
          ap (λ (t : Site). map (numbering_of p final).origin new ++ required s (items (tree_at p t))) c.at-at.ensures
          ∙ (more_required p s final at c.in-Some.line c.in-Some.rest is old new found c.in_ok-add_found.ensures line ∙ i.added s final runs);
    }

pub returns : goal.returns
returns c = λ s final runs.
    let p = c.args.program.now in
    let old = map (numbering_of p final).origin c.loop-line.conditions.items in
    sym (append-nil old) ∙ (ap (λ (ts : List Tree). old ++ required s ts) (sym c.in_default.ensures) ∙ c.loop-line.invariant.added s final runs)
