use Rattle.std.proofs.Common.{inl, inr, ◌++◌, refl, ap, sym, ◌∙◌}
use Rattle.std.proofs.lemmas.Slice.Eq.{starts_is}
use Rattle.std.proofs.lemmas.Bool.{both_ways}
use Rattle.std.proofs.lemmas.Bool.Decides.{Decides-eqb}
use Rattle.kr_lex.specs.ContractLines.{contract_spelling}
use Rattle.kr_lex.proofs.contract.contract_token.Goals as goal

pub returns-then-starts_with-clause-found : goal.returns-then-starts_with-clause-found
returns-then-starts_with-clause-found c =
    let fits = starts_is Decides-eqb c.args.text.now c.contract_spelling.result.now c.starts_with.result c.starts_with.ensures.value in
    record { one_of = inl refl; spelled = rw c.contract_spelling.ensures at (fits.0 c.if-starts_with.true) }

pub returns-then-starts_with-2-clause-found : goal.returns-then-starts_with-2-clause-found
returns-then-starts_with-2-clause-found c =
    let fits = starts_is Decides-eqb c.args.text.now c.contract_spelling-else-starts_with.result.now c.starts_with-else-starts_with.result c.starts_with-else-starts_with.ensures.value in
    record { one_of = inr refl; spelled = rw c.contract_spelling-else-starts_with.ensures at (fits.0 c.if-starts_with-2.true) }

pub returns-else-starts_with-2-clause-none : goal.returns-else-starts_with-2-clause-none
returns-else-starts_with-2-clause-none c i kind part rest e t =
    let first = starts_is Decides-eqb c.args.text.now c.contract_spelling.result.now c.starts_with.result c.starts_with.ensures.value in
    let second = starts_is Decides-eqb c.args.text.now c.contract_spelling-else-starts_with.result.now c.starts_with-else-starts_with.result c.starts_with-else-starts_with.ensures.value in
    elim t.one_of [
      | inl k ↦ both_ways c.starts_with.result c.if-starts_with.false (first.1 rest (e ∙ ap (λ x. x ++ rest) (t.spelled ∙ (ap contract_spelling k ∙ sym c.contract_spelling.ensures))))
      | inr k ↦ both_ways c.starts_with-else-starts_with.result c.if-starts_with-2.false
          (second.1 rest (e ∙ ap (λ x. x ++ rest) (t.spelled ∙ (ap contract_spelling k ∙ sym c.contract_spelling-else-starts_with.ensures))))
    ]
