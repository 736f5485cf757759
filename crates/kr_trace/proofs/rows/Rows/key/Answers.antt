use Rattle.std.proofs.Common.{List, ℕ, ◌∙◌, ap, arith, get_or, length, subst, sym}
use Rattle.std.specs.Prelude.{slice_range}
use Rattle.kr_trace.specs.Tables.{Tiles, begin}
use Rattle.kr_trace.proofs.Keys.{rows_count, rows_key}
use Rattle.kr_trace.proofs.rows.Rows.key.Goals as goal

pub piece-requires : goal.piece-requires
piece-requires c =
    let own = c.self.inside in
    let count = rows_count own.numbers.items own.ends.items own.failing c.args.self.now c.self.view_is in
    record {
      at = omega (arith, c.requires, count, ap length c.deref-2.ensures.value);
      tiles = subst (λ (es : List ℕ). Tiles 0 es (length c.deref.result.now)) (sym c.deref-2.ensures.value)
          (subst (λ (ns : List ℕ). Tiles 0 own.ends.items (length ns)) (sym c.deref.ensures.value) c.self.invariant.tiles);
    }

pub returns : goal.returns
returns c =
    let own = c.self.inside in
    let at = c.args.at in
    let count = rows_count own.numbers.items own.ends.items own.failing c.args.self.now c.self.view_is in
    c.piece.ensures
    ∙ (ap (λ (ns : List ℕ). slice_range ns (begin 0 c.deref-2.result.now at) (get_or c.deref-2.result.now at 0)) c.deref.ensures.value
    ∙ (ap (λ (es : List ℕ). slice_range own.numbers.items (begin 0 es at) (get_or es at 0)) c.deref-2.ensures.value
    ∙ sym (rows_key own.numbers.items own.ends.items own.failing c.args.self.now at c.self.view_is (omega (arith, c.requires, count)))))
