use Rattle.std.proofs.Common.{◌≡◌, ◌-◌, true, false, rules, subst, decimal, ◌∷◌, [], ◌<◌, ◌^◌, ℕ}
use Rattle.std.specs.Char.{is_ascii_digit}
use Rattle.kr_base.proofs.Digits.{first_digit, no_first}
use Rattle.kr_base.proofs.cut.reading.first_byte.Goals as goal

pub returns-then-not-is_digit : goal.returns-then-not-is_digit
returns-then-not-is_digit c = λ n later rest small h.
    let not : is_ascii_digit c.args.byte ≡ false = search rules in
    no_first c.args.byte n later rest not small h

pub returns : goal.returns
returns c =
    let digit : is_ascii_digit c.args.byte ≡ true = search rules in
    let value : c.from.result ≡ c.args.byte - 48 = search rules in
    let is = first_digit c.args.byte digit in
    subst (λ (n : ℕ). (n < 2 ^ 32) × (c.args.byte ∷ [] ≡ decimal n)) (search rules) is
