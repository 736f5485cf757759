use Rattle.std.proofs.Common.{◌≡◌, ◌<◌, ◌^◌, decimal, rules, arith}
use Rattle.std.proofs.lemmas.Fmt.{parse-decimal}
use Rattle.kr_args.proofs.Numbers.{number_read, number_unlike, number_past, number_none}
use Rattle.kr_args.proofs.values.read_number.Goals as goal

pub returns-in_default : goal.returns-in_default
returns-in_default c = number_none c.args.low c.args.high c.args.text.now
    (λ m small is. c.in_default.not-Ok m (parse-decimal 32 m c.args.text.now c.parse.result small (omega arith) is c.parse.ensures.value.0)) c.ranges.high.fits

pub returns-then-ne : goal.returns-then-ne
returns-then-ne c =
    number_unlike c.args.low c.args.high c.in-Ok.number c.args.text.now (search rules)
    (λ m small is. let read = parse-decimal 32 m c.args.text.now c.parse.result small (omega arith) is c.parse.ensures.value.0 in cc (read, c.in-Ok.is)) c.ranges.high.fits

pub returns-then-number-low : goal.returns-then-number-low
returns-then-number-low c =
    let same : decimal c.in-Ok.number ≡ c.args.text.now = search rules in
    let fits : c.in-Ok.number < 2 ^ 32 = let h = c.in-Ok.ensures.value.0 in omega (arith, h.0.1, h.1) in
    let low = c.if-number-low.true in
    number_past c.args.low c.args.high c.in-Ok.number c.args.text.now same fits (λ within. omega (arith, within.0, low)) c.ranges.high.fits

pub returns-then-high-number : goal.returns-then-high-number
returns-then-high-number c =
    let same : decimal c.in-Ok.number ≡ c.args.text.now = search rules in
    let fits : c.in-Ok.number < 2 ^ 32 = let h = c.in-Ok.ensures.value.0 in omega (arith, h.0.1, h.1) in
    let high = c.if-high-number.true in
    number_past c.args.low c.args.high c.in-Ok.number c.args.text.now same fits (λ within. omega (arith, within.1, high)) c.ranges.high.fits

pub returns : goal.returns
returns c =
    let same : decimal c.in-Ok.number ≡ c.args.text.now = search rules in
    let fits : c.in-Ok.number < 2 ^ 32 = let h = c.in-Ok.ensures.value.0 in omega (arith, h.0.1, h.1) in
    number_read c.args.low c.args.high c.in-Ok.number c.args.text.now fits same c.if-number-low.false c.if-high-number.false
