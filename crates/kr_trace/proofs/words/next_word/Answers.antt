use Rattle.std.proofs.Common.{List, ℕ, ◌∷◌, ◌+◌, ◌∙◌, ap, arith, sym, take}
use Rattle.std.proofs.lemmas.List.{take_rest}
use Rattle.kr_trace.specs.Reading.{words_left}
use Rattle.kr_trace.specs.Words.{words_in}
use Rattle.kr_trace.proofs.Spaces.{first_word, only_word}
use Rattle.kr_trace.proofs.words.next_word.Goals as goal

pub returns-then-text-at-eq32 : goal.returns-then-text-at-eq32
returns-then-text-at-eq32 c =
    let text = c.in_ok-text.text.now in
    let at = c.loop-at.at in
    ap words_left c.in_ok-text.was
    ∙ (first_word text at c.loop-at-test.true c.loop-at.invariant c.if-text-at-eq32.true
    ∙ ap (λ (t : List ℕ). take at text ∷ words_in t) (sym (take_rest text (at + 1))))

pub returns : goal.returns
returns c = ap words_left c.in_ok-text.was ∙ only_word c.in_ok-text.text.now (λ k h. c.loop-at.invariant k (omega (arith, h)))
