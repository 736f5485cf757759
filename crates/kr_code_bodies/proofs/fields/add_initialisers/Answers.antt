use Rattle.std.proofs.Common.{◌≡◌, refl, ap, ◌+◌, length, length-append, map, take, arith}
use Rattle.std.proofs.lemmas.List.{length-map, length-take-le}
use Rattle.kr_code.specs.declared.code.Node.TheVariants as nodes
use Rattle.kr_code_bodies.proofs.There.{items_step, range_step}
use Rattle.kr_code_bodies.proofs.fields.add_initialisers.Goals as goal

pub loop-initialiser-preserved : goal.loop-initialiser-preserved
loop-initialiser-preserved c =
    let xs = c.args.initialisers.now in
    let i = c.loop-initialiser.initialiser-index in
    let inv = c.loop-initialiser.invariant in
    let before = c.args.nodes.now.items in
    let number : c.len-in-loop-initialiser.result ≡ length before + i =
    omega (arith, ap length inv.items, length-append before (map nodes.Initialiser (take i xs)), length-map (take i xs) nodes.Initialiser, length-take-le i xs (omega arith), c.len-in-loop-initialiser.ensures) in
    record {
      items = items_step nodes.Initialiser before c.loop-initialiser.nodes.items _ _ xs i (record { field = 0; value = 0 }) (omega arith) inv.items c.in_ok-push-2.ensures.items refl;
      links = range_step c.args.links.now c.loop-initialiser.links _ (length before) i c.len-in-loop-initialiser.result inv.links c.in_ok-push.ensures.added number;
    }
