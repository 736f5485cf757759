use Rattle.std.proofs.Common.{inl, inr, refl}
use Rattle.std.proofs.lemmas.Bool.{both_ways}
use Rattle.kr_lex.proofs.Lines.{no_word}
use Rattle.kr_lex.proofs.contract.contract_word.Goals as goal

pub returns-then-is_word-clause-found : goal.returns-then-is_word-clause-found
returns-then-is_word-clause-found c = record { word = inl refl; stands = c.is_word.ensures.0 c.if-is_word.true }

pub returns-then-is_word-2-clause-found : goal.returns-then-is_word-2-clause-found
returns-then-is_word-2-clause-found c = record { word = inr (inl refl); stands = c.is_word-else-is_word.ensures.0 c.if-is_word-2.true }

pub returns-then-is_word-3-clause-found : goal.returns-then-is_word-3-clause-found
returns-then-is_word-3-clause-found c = record { word = inr (inr refl); stands = c.is_word-else-is_word-2.ensures.0 c.if-is_word-3.true }

pub returns-else-is_word-3-clause-none : goal.returns-else-is_word-3-clause-none
returns-else-is_word-3-clause-none c =
    no_word c.args.text.now (λ w. both_ways c.is_word.result c.if-is_word.false (c.is_word.ensures.1 w))
    (λ w. both_ways c.is_word-else-is_word.result c.if-is_word-2.false (c.is_word-else-is_word.ensures.1 w))
    (λ w. both_ways c.is_word-else-is_word-2.result c.if-is_word-3.false (c.is_word-else-is_word-2.ensures.1 w))
