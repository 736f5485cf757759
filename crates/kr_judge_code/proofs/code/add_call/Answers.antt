use Rattle.std.proofs.Common.{◌≡◌, ap, ◌∙◌, subst, arith, ℕ, ◌+◌, List, [], ◌∷◌, ◌++◌, length, append_assoc}
use Rattle.kr_mean.specs.Runs.{root_class}
use Rattle.kr_code.specs.declared.code.Node.{Node}
use Rattle.kr_code.specs.declared.code.Node.TheVariants as nodes
use Rattle.kr_code.specs.declared.expression.Expression.TheVariants as expressions
use Rattle.kr_space_problem.specs.Posed.{posed}
use Rattle.kr_judge_code.specs.Compiled.{CallsRepOk}
use Rattle.kr_judge_code.proofs.code.add_call.Goals as goal

pub returns : goal.returns
returns c =
    let problem = c.args.problem.now in
    let p = problem.program in
    let class = root_class (posed problem) in
    let old = c.args.nodes.now.items in
    let call = c.rep_ok_call-call.result in
    let object : c.in-Ok.object ≡ length old + 1 = omega (arith, c.in-Ok.ensures, c.len.ensures, c.args.nodes.now.ok.0) in
    let this : List Node = nodes.Expression expressions.This ∷ [] in
    record {
      call = call;
      items = c.in_ok-push-2.ensures.items ∙ (ap (λ (ns : List Node). ns ++ this) c.in_ok-push.ensures.items ∙ append_assoc old (nodes.Expression call ∷ []) this);
      calls = subst (λ (n : ℕ). CallsRepOk p class n call) object (c.rep_ok_call-call.ensures class c.rep_ok.ensures.is);
    }
