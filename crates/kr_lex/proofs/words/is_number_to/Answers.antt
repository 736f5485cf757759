use Rattle.std.proofs.Common.{◌≡◌, slice_index, arith, sym, ◌∙◌, true, false}
use Rattle.std.specs.Char.{is_ascii_digit}
use Rattle.std.proofs.lemmas.Int.Digits.{digits_value_more, digits_more}
use Rattle.kr_lex.proofs.Numbers.{digit_from_test, not_all_digits, too_large}
use Rattle.kr_lex.proofs.words.is_number_to.Goals as goal

pub returns-then-not-is_ascii_digit : goal.returns-then-not-is_ascii_digit
returns-then-not-is_ascii_digit c =
    let t : is_ascii_digit (slice_index c.args.word.now c.loop-b.b-index) ≡ false = sym c.is_ascii_digit.ensures.value ∙ c.if-not-is_ascii_digit.true in
    (λ e. cc, λ h. absurd (not_all_digits c.args.limit c.args.word.now c.loop-b.b-index c.loop-b-test.true t h))

pub returns-then-value-gt922337203685477580 : goal.returns-then-value-gt922337203685477580
returns-then-value-gt922337203685477580 c =
    let t : is_ascii_digit (slice_index c.args.word.now c.loop-b.b-index) ≡ true = sym c.is_ascii_digit.ensures.value ∙ c.if-not-is_ascii_digit.false in
    (λ e. cc, λ h. absurd (too_large c.args.limit c.args.word.now c.loop-b.b-index c.loop-b.value c.loop-b-test.true c.loop-b.invariant.1 t (omega (arith, c.if-value-gt922337203685477580.true, c.requires)) h))

pub returns-then-value-limit : goal.returns-then-value-limit
returns-then-value-limit c =
    let t : is_ascii_digit (slice_index c.args.word.now c.loop-b.b-index) ≡ true = sym c.is_ascii_digit.ensures.value ∙ c.if-not-is_ascii_digit.false in
    (λ e. cc, λ h. absurd (too_large c.args.limit c.args.word.now c.loop-b.b-index c.loop-b.value c.loop-b-test.true c.loop-b.invariant.1 t c.if-value-limit.true h))

pub loop-b-preserved : goal.loop-b-preserved
loop-b-preserved c =
    let word = c.args.word.now in
    let i = c.loop-b.b-index in
    let t : is_ascii_digit (slice_index word i) ≡ true = sym c.is_ascii_digit.ensures.value ∙ c.if-not-is_ascii_digit.false in
    let d = digit_from_test (slice_index word i) t in (
      digits_more 10 word i c.loop-b-test.true c.loop-b.invariant.0 d.0,
      omega (arith, digits_value_more 10 word i c.loop-b-test.true, c.loop-b.invariant.1, d.1),
      c.if-value-limit.false,
    )
