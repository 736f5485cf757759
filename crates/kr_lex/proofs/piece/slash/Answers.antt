use Rattle.std.proofs.Common.{[], ◌∷◌, inl, inr, drop}
use Rattle.std.proofs.lemmas.Slice.Eq.{starts_is}
use Rattle.std.proofs.lemmas.Bool.{both_ways}
use Rattle.std.proofs.lemmas.Bool.Decides.{Decides-eqb}
use Rattle.kr_lex.proofs.Longest.{slash_symbolic, comment_cases}
use Rattle.kr_lex.proofs.piece.slash.Goals as goal

pub symbol-requires : goal.symbol-requires
symbol-requires c =
    let text = c.args.text.now in
    let line = starts_is Decides-eqb text (47 ∷ 47 ∷ []) c.starts_with.result c.starts_with.ensures.value in
    let block = starts_is Decides-eqb text (47 ∷ 42 ∷ []) c.starts_with-else-starts_with.result c.starts_with-else-starts_with.ensures.value in
    slash_symbolic text c.requires.some c.requires.slash (λ b.
    elim (comment_cases text b) [
      | inl e ↦ both_ways c.starts_with.result c.if-starts_with.false (line.1 (drop 2 text) e)
      | inr e ↦ both_ways c.starts_with-else-starts_with.result c.if-starts_with-2.false (block.1 (drop 2 text) e)
    ])
