use Rattle.std.proofs.Common.{sym, ap, subst, ◌∙◌, ◌+◌, ◌<◌, ◌++◌, ◌∷◌, [], List, Option, get_or, length, take, arith}
use Rattle.std.proofs.lemmas.List.{take_more}
use Rattle.std.proofs.lemmas.Option.{get_or_from_slice_get}
use Rattle.kr_base.specs.declared.place.Place.{Place}
use Rattle.kr_ast.specs.declared.files.NodeId.{NodeId}
use Rattle.kr_code_members.specs.Nodes.{IsThere}
use Rattle.kr_pure.specs.Touched.{IsFirstTouch}
use Rattle.kr_classes.specs.Faults.{sooner_place}
use Rattle.kr_pure.proofs.Lists.{all_at, take_past}
use Rattle.kr_pure.proofs.Touching.{first_more}
use Rattle.kr_pure.proofs.purity.first_touch.Goals as goal

pub touch_at-requires-clause-node : goal.touch_at-requires-clause-node
touch_at-requires-clause-node c = all_at (λ (n : NodeId). IsThere c.args.problem.now.program n.file n.node) c.args.nodes.now.items c.loop-next.next c.at-at.result c.requires.nodes c.at-at.ensures

pub loop-next-preserved : goal.loop-next-preserved
loop-next-preserved c =
    let problem = c.args.problem.now in
    let xs = c.args.nodes.now.items in
    let i = c.loop-next.next in
    let l : i < length xs = omega (arith, c.loop-next-test.true, c.len-count.ensures) in
    let n = c.at-at.result in
    let read = get_or_from_slice_get xs i n n c.at-at.ensures in
    let more = first_more problem (take i xs) n c.loop-next.first c.in_ok-place.place c.loop-next.invariant c.in_ok-place.ensures in
    subst (λ (o : Option Place). IsFirstTouch problem (take (i + 1) xs) o) (sym c.earlier-first.ensures.place)
    (subst (λ (ys : List NodeId). IsFirstTouch problem ys (sooner_place c.loop-next.first c.in_ok-place.place)) (sym (take_more xs i n l ∙ ap (λ (m : NodeId). take i xs ++ m ∷ []) read)) more)

pub returns : goal.returns
returns c = subst (λ (ys : List NodeId). IsFirstTouch c.args.problem.now ys c.loop-next.first) (take_past c.args.nodes.now.items c.loop-next.next (omega (arith, c.loop-next-test.false, c.len-count.ensures))) c.loop-next.invariant
