use Rattle.std.proofs.Common.{ℕ, get_or, sym, subst, List, arith, rules}
use Rattle.std.proofs.lemmas.List.{get_or_default}
use Rattle.kr_space_layout.specs.declared.entry.Entry.{Entry}
use Rattle.kr_space_layout.specs.declared.shape.Shape.{Shape}
use Rattle.kr_space_layout.specs.Shapes.{IsShape, values_with}
use Rattle.kr_space_layout.proofs.Shapes.{each_push}
use Rattle.kr_space_layout.proofs.layout.shapes_of.Goals as goal

pub loop-entry-preserved : goal.loop-entry-preserved
loop-entry-preserved c =
    let this = c.args.this.now in
    let pool = c.args.pool.now in
    let entries = c.args.entries.now in
    let n = c.loop-entry.entry-index in
    let x = c.shape_with.result in
    let before = c.loop-entry.invariant in
    record {
      long = search rules;
      each = λ k e s h.
          let last : IsShape (values_with this pool (get_or entries n e).domain) x = subst (λ (t : Entry). IsShape (values_with this pool t.domain) x) (get_or_default entries n _ e (omega (arith, c.loop-entry-test.true))) c.shape_with.ensures in
          subst (λ (l : List Shape). IsShape (values_with this pool (get_or entries k e).domain) (get_or l k s)) (sym c.in_ok-push.ensures.items)
          (each_push (λ (j : ℕ) (y : Shape). IsShape (values_with this pool (get_or entries j e).domain) y) c.loop-entry.shapes.items n x before.long (λ j t l. before.each j e t l) last k s h);
    }
