use Rattle.std.proofs.Common.{◌≡◌, ◌+◌, inl, inr, false, [], ◌∷◌, drop, slice_index, ap, sym, ◌∙◌, arith}
use Rattle.std.proofs.lemmas.List.{take_rest}
use Rattle.std.proofs.lemmas.Slice.Eq.{starts_is}
use Rattle.std.proofs.lemmas.Bool.{both_ways, cases_eq}
use Rattle.std.proofs.lemmas.Bool.Decides.{Decides-eqb}
use Rattle.kr_lex.specs.Characters.{is_line_end}
use Rattle.kr_lex.specs.ContractLines.{has_block}
use Rattle.kr_lex.proofs.Lines.{block_goes_on, no_pair}
use Rattle.kr_lex.proofs.contract.clear_len.Goals as goal

pub loop-at-preserved : goal.loop-at-preserved
loop-at-preserved c k l =
    let text = c.args.text.now in
    let at = c.loop-at.at in
    let fits = starts_is Decides-eqb (drop at text) (47 ∷ 42 ∷ []) c.starts_with.result (rw (take_rest text at) at c.starts_with.ensures.value) in
    let in_line : is_line_end (slice_index text at) ≡ false = sym c.is_line_end.ensures ∙ c.if-is_line_end.false in
    let none = no_pair text at 47 42 c.loop-at-test.true (omega arith) (λ rest e. both_ways c.starts_with.result c.if-starts_with.false (fits.1 rest e)) in
    let same : has_block (drop at text) ≡ has_block (drop (at + 1) text) = block_goes_on text at c.loop-at-test.true in_line none in
    elim (cases_eq k (at + 1)) [
      | inl e ↦ ap (λ j. has_block (drop j text)) e
      | inr f ↦ c.loop-at.invariant k (omega (arith, l, f)) ∙ same
    ]
