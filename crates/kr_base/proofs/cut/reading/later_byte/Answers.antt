use Rattle.std.proofs.Common.{◌≡◌, false, rules, subst, decimal, ◌∷◌, ◌++◌, ℕ}
use Rattle.std.specs.Prelude.{flat_map}
use Rattle.std.specs.Char.{is_ascii_digit}
use Rattle.kr_base.specs.Cuts.{dotted}
use Rattle.kr_base.proofs.Digits.{no_byte, no_digit}
use Rattle.kr_base.proofs.cut.reading.later_byte.Goals as goal

pub returns-then-not-is_digit : goal.returns-then-not-is_digit
returns-then-not-is_digit c = λ n later rest small h.
    let not : is_ascii_digit c.args.byte ≡ false = search rules in
    no_byte c.args.number c.args.byte n later rest not (search rules) c.ranges.number.fits small h

pub returns-then-number-eq0 : goal.returns-then-number-eq0
returns-then-number-eq0 c = λ n later rest small h.
    let zero_is : c.args.number ≡ 0 = search rules in
    no_digit c.args.byte n later rest (search rules) small (subst (λ (k : ℕ). decimal k ++ c.args.byte ∷ rest ≡ decimal n ++ flat_map dotted later) zero_is h)
