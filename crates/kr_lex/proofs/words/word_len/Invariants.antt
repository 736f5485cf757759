use Rattle.std.proofs.Common.{length, ◌-◌, ◌≡◌, ◌≤◌, ℕ, List, take}
use Rattle.std.specs.Str.{encode_utf8_all}
use Rattle.kr_lex.specs.Characters.{AllParts}
use Rattle.kr_lex.proofs.words.word_len.Given as goal

-- the bytes so far can continue a name
abbrev pub invariant-loop-len : goal.invariant-loop-len
invariant-loop-len l = (l.len ≤ length l.text) × ((chars : List ℕ) × AllParts chars × (take l.len l.text ≡ encode_utf8_all chars))

abbrev pub decreases-loop-len : goal.decreases-loop-len
decreases-loop-len l = length l.text - l.len
