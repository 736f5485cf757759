-- The token at an index, and those from it on.
use Rattle.std.proofs.Common.{◌≡◌, ℕ, suc, ◌+◌, ◌<◌, ◌≤◌, ◌⊎◌, inl, inr, List, [], ◌∷◌, ◌++◌, length, take, drop, sym, ap, ◌∙◌, arith, append_assoc, drop-cons}
use Rattle.std.proofs.Math.ListN.{drop_of_length-le}
use Rattle.std.proofs.lemmas.List.{take_more}
use Rattle.std.proofs.lemmas.Bool.{cases_lt}
use Rattle.std.proofs.lemmas.Grind.{common_steps}
use Rattle.kr_lex.specs.Lexemes.{Lexeme, Lexemes, lexeme_at}
use Rattle.kr_lex.specs.declared.kind.Kind.TheVariants as kinds
use Rattle.kr_parse_grammar.specs.Machine.{ahead}
use Rattle.kr_parse_grammar.specs.State.{front}
use Rattle.kr_parse_grammar.specs.Terminals.{terminal_of}
use Rattle.kr_parse.specs.Refusals.{token_at}

-- the token after the last one
abbrev pub behind_all : Lexemes → Lexeme
behind_all ts = record { kind = kinds.Semicolon; text = []; place = ts.end }

-- the tokens from one on
pub token_ahead : (ts : Lexemes) (at : ℕ) → at < length ts.list → drop at ts.list ≡ token_at ts at ∷ drop (suc at) ts.list
token_ahead ts at l = drop-cons ts.list at (behind_all ts) l

pub front_ahead : (ts : Lexemes) (at : ℕ) → at < length ts.list → (j : List Lexeme) → front (token_at ts at ∷ j) ≡ front (drop at ts.list)
front_ahead ts at l j = ap front (sym (token_ahead ts at l))

pub through : (ts : Lexemes) (at : ℕ) → at < length ts.list → (j : List Lexeme) → take (at + 1) ts.list ++ j ≡ take at ts.list ++ (token_at ts at ∷ j)
through ts at l j = ap (λ x. x ++ j) (take_more ts.list at (behind_all ts) l) ∙ append_assoc (take at ts.list) (token_at ts at ∷ []) j

-- the token ahead is the one at the index
pub is_token : (ts : Lexemes) (at : ℕ) (a : Lexeme) (j : List Lexeme) → front (a ∷ j) ≡ front (drop at ts.list) → (at < length ts.list) × (token_at ts at ≡ a)
is_token ts at a j e = go (cases_lt at (length ts.list))
  where
    go : (at < length ts.list) ⊎ (length ts.list ≤ at) → (at < length ts.list) × (token_at ts at ≡ a)
    go (inl l) = let x : front (a ∷ j) ≡ front (token_at ts at ∷ []) = e ∙ sym (front_ahead ts at l []) in (l, cc)
    go (inr l) = let x : front (a ∷ j) ≡ front [] = e ∙ ap front (drop_of_length-le ts.list l) in cc

pub same_token : (ts : Lexemes) (at : ℕ) → at < length ts.list → lexeme_at ts at ≡ token_at ts at
same_token ts at l = grind (arith, common_steps)

pub no_token : (ts : Lexemes) (at : ℕ) → length ts.list ≤ at → token_at ts at ≡ behind_all ts
no_token ts at l = grind (arith, common_steps)

-- the terminal ahead, if there is a token
pub terminal_ahead : (ts : Lexemes) (at : ℕ) → at < length ts.list → ahead (drop at ts.list) ≡ terminal_of (token_at ts at).kind
terminal_ahead ts at l = ap ahead (token_ahead ts at l)
