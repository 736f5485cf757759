use Rattle.std.proofs.Common.{◌++◌, false, length, refl, drop, ap, sym, ◌∙◌}
use Rattle.std.proofs.lemmas.List.{take_rest}
use Rattle.std.proofs.lemmas.Slice.Eq.{starts_is}
use Rattle.std.proofs.lemmas.Bool.{both_ways, eq-eqb, eqb-true}
use Rattle.std.proofs.lemmas.Bool.Decides.{Decides-eqb}
use Rattle.kr_lex.specs.ContractLines.{contract_spelling}
use Rattle.kr_lex.proofs.Lines.{no_part}
use Rattle.kr_lex.proofs.contract.is_word.Goals as goal

pub returns : goal.returns
returns c =
    let text = c.args.text.now in
    let word = c.contract_spelling-word.result.now in
    let same = c.contract_spelling-word.ensures in
    let fits = starts_is Decides-eqb text word c.starts_with.result c.starts_with.ensures.value in
    let n = c.part_len.result in
    let h = rw (take_rest text (length word), same) at c.part_len.ensures in (
      λ t. record { spelled = rw same at (fits.0 c.if-not-starts_with.false); whole = h.none (eqb-true n 0 t) },
      λ w. eq-eqb n 0 (no_part (drop (length (contract_spelling c.args.kind)) text) n h w.whole),
    )

pub returns-then-not-starts_with : goal.returns-then-not-starts_with
returns-then-not-starts_with c =
    let text = c.args.text.now in
    let word = c.contract_spelling-word.result.now in
    let same = c.contract_spelling-word.ensures in
    let fits = starts_is Decides-eqb text word c.starts_with.result c.starts_with.ensures.value in
    let rest = drop (length (contract_spelling c.args.kind)) text in (
      λ t. absurd (both_ways false refl t),
      λ w. absurd (both_ways c.starts_with.result c.if-not-starts_with.true (fits.1 rest (w.spelled ∙ ap (λ x. x ++ rest) (sym same)))),
    )
