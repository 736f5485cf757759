use Rattle.std.proofs.Common.{◌≡◌, ◌∙◌, ◌+◌, ◌-◌, ◌<◌, sym, ap, ℕ, length, drop, arith}
use Rattle.std.specs.Prelude.{Some, slice_get}
use Rattle.kr_ast.specs.Arena.{Arena}
use Rattle.kr_types.specs.Programs.{all_entries}
use Rattle.kr_types.proofs.Located.{here, onward, read_twice}
use Rattle.kr_types.proofs.program.Program.place_of.Goals as goal

pub loop-rest-preserved : goal.loop-rest-preserved
loop-rest-preserved c =
    let files = c.args.self.now.trees.items in
    let file = c.loop-rest.file in
    let rest = c.loop-rest.rest in
    let inv = c.loop-rest.invariant in
    let a = c.index-in-loop-rest.result.now in
    let same = ap (λ (a : Arena). length a.entries) (read_twice files file rest c.index.result.now a inv.within c.index.ensures c.index-in-loop-rest.ensures) in
    let count = c.nodes-rest.ensures.count in
    let next = onward files file rest a inv.within c.index-in-loop-rest.ensures (omega (arith, c.loop-rest-test.true, c.nodes.ensures.count, same)) in
    record {
      within = omega (arith, next.0, count);
      same = ap (λ (k : ℕ). slice_get (all_entries (drop (file + 1) files)) (rest - k)) count ∙ next.1 ∙ inv.same;
    }

pub returns : goal.returns
returns c = λ e is.
    let files = c.args.self.now.trees.items in
    let file = c.loop-rest.file in
    let rest = c.loop-rest.rest in
    let inv = c.loop-rest.invariant in
    let a = c.index-2.result.now in
    let same = ap (λ (a : Arena). length a.entries) (read_twice files file rest c.index.result.now a inv.within c.index.ensures c.index-2.ensures) in
    let lt : rest < length a.entries = omega (arith, c.loop-rest-test.false, c.nodes.ensures.count, same) in
    let found : Some c.entry.result ≡ Some e = sym c.entry.ensures.here ∙ sym (here files file rest a inv.within c.index-2.ensures lt) ∙ inv.same ∙ is in
    cc
