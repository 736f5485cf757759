use Rattle.std.proofs.Common.{◌≡◌, ◌≤◌, take}
use Rattle.std.specs.Str.Parse.{AllDigits, digits_value}
use Rattle.kr_lex.proofs.words.is_number_to.Given as goal

-- digits so far, and their value
abbrev pub invariant-loop-b : goal.invariant-loop-b
invariant-loop-b l = AllDigits 10 (take l.b-index l.word) × (l.value ≡ digits_value 10 (take l.b-index l.word)) × (l.value ≤ l.limit)
