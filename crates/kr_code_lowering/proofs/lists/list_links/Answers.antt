use Rattle.std.proofs.Common.{◌≡◌, sym, ap, ◌∙◌, subst, ◌+◌, ◌-◌, ◌≤◌, [], ◌∷◌, ◌++◌, length, take, drop, arith, append-nil}
use Rattle.kr_code_lowering.specs.Lists.{AreItems}
use Rattle.kr_code_lowering.proofs.Growth.{drop_push, grown_length, grown_push, take_grown}
use Rattle.kr_code_lowering.proofs.lists.list_links.Goals as goal

pub loop-item-preserved : goal.loop-item-preserved
loop-item-preserved c =
    let p = c.args.program.now in
    let at = c.loop-item.at in
    let i = c.loop-item.invariant in
    let x = c.code_number.result in
    let l : c.len-start.result ≤ length c.loop-item.links = omega (arith, i.start, grown_length c.args.links.now c.loop-item.links i.grown) in
    record {
      site = rw c.at-at.ensures (record { file = i.site.file; node = omega (arith, c.in-Some.ensures.behind, i.site.node); first = i.site.first });
      start = i.start;
      grown = grown_push c.args.links.now c.loop-item.links c.push.new.self x i.grown c.in_ok-push.ensures.added;
      ahead = λ more h. subst (AreItems p c.args.list) (sym (drop_push c.len-start.result c.loop-item.links c.push.new.self more x l c.in_ok-push.ensures.added)) (i.ahead (x ∷ more) (rw c.code_number.ensures (c.in-Some.ensures.none more (rw c.at-at.ensures at h))));
    }

pub returns-clause-linked : goal.returns-clause-linked
returns-clause-linked c = λ more g.
    let p = c.args.program.now in
    let at = c.loop-item.at in
    let i = c.loop-item.invariant in
    let k = c.len-start.result in
    let links = c.loop-item.links in
    let l : k ≤ length links = omega (arith, i.start, grown_length c.args.links.now links i.grown) in
    let none : AreItems p at [] = λ final. rw c.in_default.ensures.none tt in
    let all : take (c.len.result - k) (drop k more) ≡ drop k links ++ [] = ap (λ n. take (n - k) (drop k more)) c.len.ensures ∙ (take_grown k links more l g ∙ sym (append-nil (drop k links))) in
    subst (AreItems p c.args.list) (sym all) (i.ahead [] none)
