use Rattle.std.proofs.Common.{◌≡◌, ◌-◌, ◌+◌, ◌*◌, rules, subst, decimal, ◌∷◌, ◌++◌, [], ◌≤◌, ◌^◌, ℕ, arith}
use Rattle.kr_base.proofs.Digits.{longer_number, too_large}
use Rattle.kr_base.proofs.cut.reading.more_digits.Goals as goal

pub returns-then-value-ge4294967296 : goal.returns-then-value-ge4294967296
returns-then-value-ge4294967296 c = λ n later rest small h.
    let value : c.from.result * 10 + c.from-2.result ≡ c.args.number * 10 + (c.args.byte - 48) = search rules in
    let large : 2 ^ 32 ≤ c.args.number * 10 + (c.args.byte - 48) = omega arith in
    too_large c.args.number c.args.byte n later rest c.requires.digit c.requires.some c.ranges.number.fits large small h

pub returns : goal.returns
returns c =
    let value : c.args.number * 10 + (c.args.byte - 48) ≡ c.from.result * 10 + c.from-2.result = search rules in
    let is = longer_number c.args.number c.args.byte c.requires.digit c.requires.some c.ranges.number.fits in
    (omega arith, subst (λ (n : ℕ). decimal c.args.number ++ c.args.byte ∷ [] ≡ decimal n) value is)
