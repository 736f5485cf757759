-- The front of a text outside contract lines, and inside one.
use Rattle.std.proofs.Common.{◌≡◌, ℕ, ◌+◌, ◌<◌, ◌≤◌, Bool, true, false, List, length, take, drop, refl, sym, ap, ◌∙◌, arith, length-append}
use Rattle.std.proofs.lemmas.List.{take_at}
use Rattle.std.proofs.lemmas.Bool.{both_ways}
use Rattle.kr_lex.specs.declared.kind.Kind.{Kind}
use Rattle.kr_lex.specs.declared.piece.Piece.{Piece}
use Rattle.kr_lex.specs.declared.piece.Piece.TheVariants as pieces
use Rattle.kr_lex.specs.declared.refusal.LexRule.{LexRule}
use Rattle.kr_lex.specs.declared.refusal.LexRule.TheVariants as rules
use Rattle.kr_lex.specs.ContractLines.{contract_spelling}
use Rattle.kr_lex.specs.Spells.{IsTokenHere, anywhere, within}
use Rattle.kr_lex.specs.Broken.{BreaksHere, BeginsNoContractToken}
use Rattle.kr_lex.specs.Pieces.{IsPiece, IsContractTokenAt}
use Rattle.kr_lex.proofs.Heads.{spelled_some}

-- a token that contract lines alone have
pub token_at : (text : List ℕ) (inside : Bool) (kind : Kind) (n : ℕ) → n ≡ length (contract_spelling kind) → inside ≡ true → IsContractTokenAt text kind
    → (0 < n) × (n ≤ length text) × IsTokenHere inside kind (take n text) (drop n text)
token_at text inside kind n size i h =
    let rest = drop (length (contract_spelling kind)) text in
    let front : take n text ≡ contract_spelling kind = ap (take n) h.spelled ∙ take_at (contract_spelling kind) rest n (sym size) in
    let whole : length text ≡ length (contract_spelling kind) + length rest = ap length h.spelled ∙ length-append (contract_spelling kind) rest in
    (omega (arith, spelled_some kind h.one_of, size), omega (arith, whole, size), within i (record { one_of = h.one_of; spelled = front }))

-- any other piece
lift_token : (inside : Bool) (kind : Kind) (text rest : List ℕ) → IsTokenHere false kind text rest → IsTokenHere inside kind text rest
lift_token inside kind text rest (anywhere t) = anywhere t
lift_token inside kind text rest (within i t) = absurd (both_ways false refl i)

lift_broken : (inside : Bool) (rule : LexRule) (text : List ℕ) → BreaksHere false rule text → BeginsNoContractToken inside text → BreaksHere inside rule text
lift_broken inside rules.NotUtf8 text h f = h
lift_broken inside rules.StrayCharacter text h f = (h.0, f)
lift_broken inside rules.UnclosedComment text h f = h
lift_broken inside rules.BadNumber text h f = h
lift_broken inside rules.UnicodeEscape text h f = h
lift_broken inside rules.ContractLine text h f = h

pub lift : (inside : Bool) (text : List ℕ) (p : Piece) → IsPiece false text p → BeginsNoContractToken inside text → IsPiece inside text p
lift inside text (pieces.Gap n) h f = h
lift inside text (pieces.Token kind n) h f = (h.0, h.1, lift_token inside kind (take n text) (drop n text) h.2)
lift inside text (pieces.Broken rule) h f = lift_broken inside rule text h f
