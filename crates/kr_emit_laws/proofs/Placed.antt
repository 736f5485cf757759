-- Pieces that are gaps and tokens where they are.
use Rattle.std.proofs.Common.{◌≡◌, ℕ, zero, suc, ◌+◌, ◌<◌, false, List, [], ◌∷◌, ◌++◌, length, take, refl, sym, subst, ◌∙◌, arith, append_assoc}
use Rattle.std.specs.Prelude.{pred, if◌then◌else◌}
use Rattle.std.specs.Str.{IsUtf8}
use Rattle.std.proofs.lemmas.List.{append-nil}
use Rattle.std.proofs.lemmas.Str.{IsUtf8-append, IsUtf8-nil}
use Rattle.kr_base.specs.declared.place.Place.{Place}
use Rattle.kr_lex.specs.declared.kind.Kind.{Kind}
use Rattle.kr_lex.specs.Gaps.{IsGap}
use Rattle.kr_lex.specs.Places.{place_after}
use Rattle.kr_lex.specs.Spells.{IsTokenHere, Reaches, here, gap as gap_step, token as token_step, AreTokens}
use Rattle.kr_parse.specs.Refusals.{is_opening, is_closing, open_behind, IsShallow}
use Rattle.kr_emit_laws.specs.Pieces.{Piece, Gap, Token, text_of, after_pieces, tokens_of}
use Rattle.kr_emit_laws.proofs.Tokens.{here_utf8}

-- the number of open brackets after a token
abbrev pub next : ℕ → Kind → ℕ
next n kind = if is_opening kind then n + 1 else if is_closing kind then pred n else n

-- Each piece is a gap or a token before those after it, and with so many open brackets before them no bracket is too deep.
pub data IsPlaced : ℕ → List Piece → Type 0 where
  nothing : {n : ℕ} → IsPlaced n []
  gap : {n : ℕ} {text : List ℕ} {more : List Piece} → IsGap text (text_of more) → IsUtf8 text → IsPlaced n more → IsPlaced n (Gap text ∷ more)
  token : {n : ℕ} {kind : Kind} {text : List ℕ} {more : List Piece} → n < 64 → IsTokenHere false kind text (text_of more) → IsPlaced (next n kind) more → IsPlaced n (Token kind text ∷ more)

pub after_pieces_is : (front : List ℕ) (ps : List Piece) → after_pieces front ps ≡ front ++ text_of ps
after_pieces_is front [] = sym (append-nil front)
after_pieces_is front (Gap text ∷ ps) = after_pieces_is (front ++ text) ps ∙ append_assoc front text (text_of ps)
after_pieces_is front (Token kind text ∷ ps) = after_pieces_is (front ++ text) ps ∙ append_assoc front text (text_of ps)

-- they lead through their text
reaches : (file n : ℕ) (front : List ℕ) (ps : List Piece) → IsPlaced n ps → Reaches file false front (text_of ps) (tokens_of (place_after file) front ps) false (after_pieces front ps) []
reaches file n front [] nothing = here
reaches file n front (Gap text ∷ ps) (gap g u h) = gap_step text (text_of ps) refl g (reaches file n (front ++ text) ps h)
reaches file n front (Token kind text ∷ ps) (token l t h) = token_step kind text (text_of ps) refl t (reaches file (next n kind) (front ++ text) ps h)

utf8 : (n : ℕ) (ps : List Piece) → IsPlaced n ps → IsUtf8 (text_of ps)
utf8 n [] nothing = IsUtf8-nil
utf8 n (Gap text ∷ ps) (gap g u h) = IsUtf8-append text (text_of ps) u (utf8 n ps h)
utf8 n (Token kind text ∷ ps) (token l t h) = IsUtf8-append text (text_of ps) (here_utf8 kind text (text_of ps) t) (utf8 (next n kind) ps h)

shallow : (at : List ℕ → Place) (n : ℕ) (front : List ℕ) (ps : List Piece) → IsPlaced n ps → (k : ℕ) → k < length (tokens_of at front ps) → open_behind n (take k (tokens_of at front ps)) < 64
shallow at n front [] nothing k l = absurd (omega (arith, l))
shallow at n front (Gap text ∷ ps) (gap g u h) k l = shallow at n (front ++ text) ps h k l
shallow at n front (Token kind text ∷ ps) (token less t h) zero l = less
shallow at n front (Token kind text ∷ ps) (token less t h) (suc k) l = shallow at (next n kind) (front ++ text) ps h k (omega (arith, l))

-- so they are the tokens of their text
pub placed_tokens : (file : ℕ) (ps : List Piece) → IsPlaced 0 ps → AreTokens file (text_of ps) (record { list = tokens_of (place_after file) [] ps; end = place_after file (text_of ps) })
placed_tokens file ps h =
    record {
      utf8 = utf8 0 ps h;
      spelled = (false, subst (λ (end : List ℕ). Reaches file false [] (text_of ps) (tokens_of (place_after file) [] ps) false end []) (after_pieces_is [] ps) (reaches file 0 [] ps h));
      end = refl;
    }

pub placed_shallow : (at : List ℕ → Place) (end : Place) (ps : List Piece) → IsPlaced 0 ps → (k : ℕ) → IsShallow (record { list = tokens_of at [] ps; end = end }) k
placed_shallow at end ps h k j less nested = omega (arith, shallow at 0 [] ps h j nested.0, nested.2)
