use Rattle.std.proofs.Common.{◌≡◌, ◌<◌, ◌^◌, ◌∙◌, decimal, rules, arith}
use Rattle.std.proofs.lemmas.Fmt.{parse-decimal}
use Rattle.kr_text.proofs.Readings.{no_digits, number_none, number_read, number_unlike}
use Rattle.kr_text.proofs.reading.number_of.Goals as goal

pub returns-in_default : goal.returns-in_default
returns-in_default c = no_digits c.args.text.now c.in_default.ensures.cases.0

pub returns-in_default-parse : goal.returns-in_default-parse
returns-in_default-parse c = number_none c.args.text.now (λ m small is.
    c.in_default-parse.not-Ok m (parse-decimal 64 m c.in-Ok.text.now c.parse.result small small (c.in-Ok.ensures.cases.0 ∙ is) c.parse.ensures.value.0))

pub returns-then-eq : goal.returns-then-eq
returns-then-eq c =
    let same : decimal c.in-Ok-parse.number ≡ c.in-Ok.text.now = search rules in
    let fits : c.in-Ok-parse.number < 2 ^ 64 = let h = c.in-Ok-parse.ensures.value.0 in omega (arith, h.0.1, h.1) in
    number_read c.in-Ok-parse.number c.args.text.now fits (same ∙ c.in-Ok.ensures.cases.0)

pub returns-else-eq : goal.returns-else-eq
returns-else-eq c =
    number_unlike c.args.text.now c.in-Ok.text.now c.in-Ok-parse.number c.in-Ok.ensures.cases.0 (search rules)
    (λ m small is. let read = parse-decimal 64 m c.in-Ok.text.now c.parse.result small small is c.parse.ensures.value.0 in cc (read, c.in-Ok-parse.is))
