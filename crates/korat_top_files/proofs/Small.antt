-- How many tokens and nodes files have at most, and how long the demo's source is.
use Rattle.std.proofs.Common.{◌≡◌, ℕ, zero, suc, ◌+◌, ◌*◌, ◌<◌, ◌≤◌, ◌^◌, Bool, List, [], ◌∷◌, ◌++◌, length, refl, ap, ◌∙◌, arith}
use Rattle.std.specs.Prelude.{All, decimal}
use Rattle.std.proofs.lemmas.Fmt.{length-decimal-le}
use Rattle.std.proofs.lemmas.List.{length-append}
use Rattle.std.proofs.lemmas.List.Elements.{All-head, All-tail}
use Rattle.kr_ast.specs.Arena.{Arena}
use Rattle.kr_demo.specs.Texts.{source_front, source_back, source_text}
use Rattle.kr_lex.specs.Lexemes.{Lexeme}
use Rattle.kr_lex.specs.ContractLines.{head_of, contract_spelling}
use Rattle.kr_lex.specs.Spells.{IsTokenHere, anywhere, within, Reaches, here, gap, token, contract, Spells}
use Rattle.kr_lex.specs.declared.kind.Kind.{Kind}
use Rattle.kr_lex.proofs.Classes.{token_some}
use Rattle.kr_lex.proofs.Heads.{contract_token_some}
use Rattle.kr_types.specs.Programs.{all_entries}
use Rattle.korat_top_files.specs.Steps.{LIMIT}
use Rattle.korat_top_files.specs.Chains.{MOST_NODES}

text_some : (inside : Bool) (kind : Kind) (part rest : List ℕ) → IsTokenHere inside kind part rest → 0 < length part
text_some inside kind part rest (anywhere l) = token_some kind part rest l.token
text_some inside kind part rest (within e c) = contract_token_some kind part c

parts_long : (text part rest : List ℕ) → text ≡ part ++ rest → length text ≡ length part + length rest
parts_long text part rest e = ap length e ∙ length-append part rest

head_long : (kind : Kind) (blank : List ℕ) → 2 ≤ length (head_of kind blank)
head_long kind blank = omega (arith, longer (blank ++ contract_spelling kind))
  where
    longer : (xs : List ℕ) → length (47 ∷ 47 ∷ 64 ∷ xs) ≡ length xs + 3
    longer xs = omega arith

-- each token has a byte
few_within : {file : ℕ} {inside last : Bool} {front text end left : List ℕ} {list : List Lexeme} → Reaches file inside front text list last end left → length list ≤ length text
few_within here = omega arith
few_within {text = text} (gap part rest e g r) = let shorter = few_within r in omega (arith, shorter, parts_long text part rest e)
few_within {inside = inside} {text = text} (token kind part rest e t r) = let shorter = few_within r in omega (arith, shorter, parts_long text part rest e, text_some inside kind part rest t)
few_within {text = text} (contract kind blank rest c r) =
    let shorter = few_within r in
    omega (arith, shorter, parts_long text (head_of kind blank) rest c.spelled, head_long kind blank)

pub few_tokens : (file : ℕ) (bytes : List ℕ) (list : List Lexeme) → Spells file bytes list → length list ≤ length bytes
few_tokens file bytes list s = few_within s.1

abbrev IsSmall : Arena → Type 0
IsSmall tree = length tree.entries ≤ MOST_NODES

-- nodes of all files
some_nodes : (trees : List Arena) → All (λ tree. length tree.entries ≤ MOST_NODES) trees → length (all_entries trees) ≤ length trees * MOST_NODES
some_nodes [] h = omega arith
some_nodes (t ∷ trees) h =
    let more = some_nodes trees (All-tail IsSmall t trees h) in
    omega (arith, more, All-head IsSmall t trees h, length-append t.entries (all_entries trees))

pub few_nodes : (trees : List Arena) → length trees ≤ 17 → All (λ tree. length tree.entries ≤ MOST_NODES) trees → length (all_entries trees) < 2 ^ 32
few_nodes trees n h = let most = some_nodes trees h in omega (arith, most, n)

-- the demo's source isn't too long
pub source_short : (n : ℕ) → n < 2 ^ 32 → length (source_text n) ≤ LIMIT
source_short n small =
    let front : length source_front ≡ 596 = refl in
    let back : length source_back ≡ 8 = refl in
    let number : length (decimal n) ≤ 10 = length-decimal-le 10 n (omega arith) (omega (arith, small)) (omega (arith, small)) in
    omega (arith, length-append (source_front ++ decimal n) source_back, length-append source_front (decimal n), front, back, number)

pub one_short : (n : ℕ) → n < 2 ^ 32 → All (λ text. length text ≤ LIMIT) (source_text n ∷ [])
one_short n small zero d l = source_short n small
one_short n small (suc k) d l = absurd (omega (arith, l))
