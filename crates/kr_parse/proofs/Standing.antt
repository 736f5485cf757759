-- The parser's position among the tokens, and its results there.
use Rattle.std.proofs.Common.{◌≡◌, ℕ, ◌+◌, ◌<◌, ◌≤◌, ◌⊎◌, inl, inr, not, true, false, List, [], ◌∷◌, ◌++◌, length, take, drop, refl, sym, ap, subst, ◌∙◌, arith}
use Rattle.std.proofs.lemmas.List.{take_more}
use Rattle.std.proofs.lemmas.Bool.{cases_lt}
use Rattle.kr_lex.specs.Lexemes.{Lexeme, Lexemes}
use Rattle.kr_lex.specs.Spelling.{is_outside_profile}
use Rattle.kr_lex.specs.declared.kind.Kind.{Kind}
use Rattle.kr_lex.specs.declared.kind.Kind.TheVariants as kinds
use Rattle.kr_parse_grammar.specs.declared.terminal.Terminal.{Terminal}
use Rattle.kr_parse_grammar.specs.declared.terminal.Terminal.TheVariants.{Outside}
use Rattle.kr_parse_grammar.specs.Terminals.{terminal_of}
use Rattle.kr_parse_grammar.specs.Machine.{ahead}
use Rattle.kr_parse_grammar.specs.State.{is_inside}
use Rattle.kr_parse.specs.Refusals.{IsTooNested, IsLeastDead, is_opening, open_behind, token_at}
use Rattle.kr_parse.proofs.Ahead.{behind_all, no_token}
use Rattle.kr_parse.specs.Steps.{depth_behind, IsStanding, IsLeast}

open_more : (n : ℕ) (i : List Lexeme) (a : Lexeme) → open_behind n (i ++ a ∷ []) ≡ depth_behind a.kind (open_behind n i)
open_more n [] a = refl
open_more n (b ∷ i) a = open_more (depth_behind b.kind n) i a

pub standing_next : (ts : Lexemes) (at n : ℕ) (k m : Terminal) → at < length ts.list → IsStanding ts (record { at = at; depth = n; next = k }) → m ≡ ahead (drop (at + 1) ts.list) → (is_opening (token_at ts at).kind ≡ true → n < 64)
    → IsStanding ts (record { at = at + 1; depth = depth_behind (token_at ts at).kind n; next = m })
standing_next ts at n k m l h e room = record { within = omega arith; next = e; depth = deep; shallow = λ j m d. shallow j m d }
  where
    deep : depth_behind (token_at ts at).kind n ≡ open_behind 0 (take (at + 1) ts.list)
    deep =
        ap (depth_behind (token_at ts at).kind) h.depth ∙ sym (open_more 0 (take at ts.list) (token_at ts at))
        ∙ ap (open_behind 0) (sym (take_more ts.list at (behind_all ts) l))

    here : IsTooNested ts at → ⊥
    here d = let x : n < 64 = room d.1 in let e = h.depth in let y = d.2 in omega arith

    shallow : (j : ℕ) → j < at + 1 → IsTooNested ts j → ⊥
    shallow j m d = go (cases_lt j at)
      where
        go : (j < at) ⊎ (at ≤ j) → ⊥
        go (inl k) = h.shallow j k d
        go (inr k) = let e : j ≡ at = omega arith in here (subst (λ (x : ℕ). IsTooNested ts x) e d)

outside_is : (k : Kind) → is_outside_profile k ≡ not (is_inside (terminal_of k))
unfolding is_outside_profile
outside_is kinds.Identifier = refl
outside_is _ = refl

inside_of : (t : Terminal) → (t ≡ Outside → ⊥) → is_inside t ≡ true
inside_of Outside n = absurd (n refl)
inside_of _ n = refl

pub least_inside : (ts : Lexemes) (at : ℕ) → IsLeast ts at → (terminal_of (token_at ts at).kind ≡ Outside → ⊥) → IsLeastDead ts (token_at ts at).place false
least_inside ts at h n = record {
  index = at;
  place = refl;
  dead = h.dead;
  viable = h.viable;
  shallow = h.shallow;
  kind = outside_is (token_at ts at).kind ∙ ap not (inside_of (terminal_of (token_at ts at).kind) n);
}

pub least_outside : (ts : Lexemes) (at : ℕ) → IsLeast ts at → terminal_of (token_at ts at).kind ≡ Outside → IsLeastDead ts (token_at ts at).place true
least_outside ts at h e = record {
  index = at;
  place = refl;
  dead = h.dead;
  viable = h.viable;
  shallow = h.shallow;
  kind = outside_is (token_at ts at).kind ∙ ap (λ t. not (is_inside t)) e;
}

pub least_end : (ts : Lexemes) (at : ℕ) → IsLeast ts at → length ts.list ≤ at → IsLeastDead ts ts.end false
least_end ts at h l = record {
  index = at;
  place = sym (ap (λ (a : Lexeme). a.place) (no_token ts at l));
  dead = h.dead;
  viable = h.viable;
  shallow = h.shallow;
  kind = ap (λ (a : Lexeme). is_outside_profile a.kind) (no_token ts at l) ∙ outside_is kinds.Semicolon;
}
