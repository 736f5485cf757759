use Rattle.std.proofs.Common.{◌≡◌, ◌+◌, ◌++◌, ◌∷◌, [], ℕ, List, sym, subst, rules, refl, arith}
use Rattle.kr_mean.specs.Problem.{Choice}
use Rattle.kr_space_layout.specs.declared.values.Piece.{Piece}
use Rattle.kr_space_layout.specs.Shapes.{IsShape}
use Rattle.kr_space_layout.specs.Stretches.{ArePieces, all_choices, choices_of, count_of, stretches_of}
use Rattle.kr_space_layout.proofs.Pieces.{all_long, all_push, counted_push, fit_push}
use Rattle.kr_space_layout.proofs.values.Values.push.Goals as goal

pub with-shape-requires-clause-size : goal.with-shape-requires-clause-size
with-shape-requires-clause-size c =
    let long = all_long 0 c.self.inside.pieces.items c.self.inside.size c.self.invariant.0.counted in
    let size : c.in-Ok.size ≡ c.self.inside.size + count_of c.args.stretch = search rules in
    omega (arith, size, long, c.self.invariant.1.size)

pub invariant_of-self-2 : goal.invariant_of-self-2
invariant_of-self-2 c =
    let p : Piece = record { start = c.self.inside.size; stretch = c.args.stretch } in
    let items : c.push.new.self.items ≡ c.self.inside.pieces.items ++ p ∷ [] = search rules in
    let size : c.in-Ok.size ≡ c.self.inside.size + count_of c.args.stretch = search rules in
    let shape : IsShape (all_choices (stretches_of c.self.inside.pieces.items) ++ choices_of c.args.stretch) c.with-shape.result = c.with-shape.ensures (all_choices (stretches_of c.self.inside.pieces.items)) c.self.invariant.1 in
    subst (λ (x : List Piece). ArePieces x c.in-Ok.size × IsShape (all_choices (stretches_of x)) c.with-shape.result) (sym items) (
      subst (λ (n : ℕ). ArePieces (c.self.inside.pieces.items ++ p ∷ []) n) (sym size) (record {
        counted = counted_push 0 c.self.inside.pieces.items c.self.inside.size p c.self.invariant.0.counted refl;
        fit = fit_push c.self.inside.pieces.items p c.self.invariant.0.fit c.requires;
      }),
      subst (λ (cs : List Choice). IsShape cs c.with-shape.result) (sym (all_push c.self.inside.pieces.items p)) shape,
    )
