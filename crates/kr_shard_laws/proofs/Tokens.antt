-- An identifier token of a source is an identifier.
use Rattle.std.proofs.Common.{◌≡◌, ◌⊎◌, inl, inr, ℕ, zero, suc, ◌+◌, ◌<◌, Bool, true, false, List, ◌∷◌, ◌++◌, length, refl, ap, ◌∙◌, subst, arith}
use Rattle.std.specs.Prelude.{bytes_eq}
use Rattle.std.proofs.lemmas.Slice.Eq.{bytes_eq-Decides}
use Rattle.kr_base.specs.declared.place.Place.{Place}
use Rattle.kr_lex.specs.Lexemes.{Lexeme}
use Rattle.kr_lex.specs.declared.kind.Kind.{Kind}
use Rattle.kr_lex.specs.declared.kind.Kind.TheVariants as kinds
use Rattle.kr_lex.specs.ContractLines.{contract_spelling, IsContractWord}
use Rattle.kr_lex.specs.Spelling.{spelling}
use Rattle.kr_lex.specs.Spells.{IsTokenHere, anywhere, within, token_behind, Reaches, here, gap, token, contract}
use Rattle.kr_lex.specs.Words.{IsToken, name, number, long_number, fixed}
use Rattle.kr_lex.specs.Cursors.{one_if}
use Rattle.kr_shard_laws.specs.Names.{IsIdentifier}
use Rattle.kr_laws_never_stuck.proofs.Weights as weights

-- 1 for a name that is this one
abbrev pub one_for : List ℕ → Place → List ℕ → ℕ
one_for x p n = one_if (bytes_eq n x)

abbrev pub nothing : Place → ℕ
nothing p = 0

-- how often it occurs among tokens
abbrev pub times : List ℕ → List Lexeme → ℕ
times x i = weights.T (one_for x) nothing i

-- a property of each token among these
abbrev pub AllNames : (List ℕ → Type 0) → List Lexeme → Type 0
AllNames P i = (x : List ℕ) → 0 < times x i → P x

name_here : (inside : Bool) (kind : Kind) (text rest : List ℕ) → IsTokenHere inside kind text rest → kind ≡ kinds.Identifier → IsIdentifier text
unfolding spelling
name_here inside kind text rest (anywhere t) i = of_token t.token
  where
    of_token : IsToken kind text rest → IsIdentifier text
    of_token (name e h n) = record { name = h; own = n }
    of_token (number e h n) = absurd (cc (e, i))
    of_token (long_number e h n) = absurd (cc (e, i))
    of_token (fixed l e) = absurd (omega (arith, l, ap length (e ∙ ap spelling i)))
name_here inside kind text rest (within b t) i = go t.one_of
  where
    go : (kind ≡ kinds.Result) ⊎ (kind ≡ kinds.Old) → IsIdentifier text
    go (inl e) = absurd (cc (e, i))
    go (inr e) = absurd (cc (e, i))

one_name : (k : Kind) (a : Lexeme) (x : List ℕ) → (k ≡ kinds.Identifier → IsIdentifier a.text) → 0 < weights.of_kind (one_for x) nothing k a → IsIdentifier x
one_name kinds.Identifier a x h some = go (bytes_eq a.text x) refl some
  where
    go : (b : Bool) → bytes_eq a.text x ≡ b → 0 < one_if b → IsIdentifier x
    go true is some = subst IsIdentifier ((bytes_eq-Decides a.text x).0 is) (h refl)
    go false is some = absurd (omega (arith, some))
one_name kinds.Old a x h some = absurd (omega (arith, some))
one_name k a x h some = absurd (omega (arith, some))

either : (a b : ℕ) → 0 < a + b → (0 < a) ⊎ (0 < b)
either zero b h = inr (omega (arith, h))
either (suc a) b h = inl (omega arith)

pub all_names : {file : ℕ} {inside last : Bool} {front text end left : List ℕ} {list : List Lexeme} → Reaches file inside front text list last end left → AllNames IsIdentifier list
all_names here x some = absurd (omega (arith, some))
all_names (gap part rest z g d) x some = all_names d x some
all_names {file = file} (token {inside = inside} {front = front} {list = list} kind part rest z t d) x some =
    go (either (weights.of_kind (one_for x) nothing kind (token_behind file front kind part)) (times x list) some) (λ h. all_names d x h)
  where
    go : (0 < weights.of_kind (one_for x) nothing kind (token_behind file front kind part)) ⊎ (0 < times x list) → (0 < times x list → IsIdentifier x) → IsIdentifier x
    go (inl h) rest_named = one_name kind (token_behind file front kind part) x (name_here inside kind part rest t) h
    go (inr h) rest_named = rest_named h
all_names {file = file} (contract {front = front} {list = list} kind blank rest c d) x some =
    go (either (weights.of_kind (one_for x) nothing kind (token_behind file (front ++ 47 ∷ 47 ∷ 64 ∷ blank) kind (contract_spelling kind))) (times x list) (omega (arith, some))) (λ h. all_names d x h)
  where
    word : IsContractWord kind → kind ≡ kinds.Identifier → IsIdentifier (contract_spelling kind)
    word (inl e) i = absurd (cc (e, i))
    word (inr (inl e)) i = absurd (cc (e, i))
    word (inr (inr e)) i = absurd (cc (e, i))

    go : (0 < weights.of_kind (one_for x) nothing kind (token_behind file (front ++ 47 ∷ 47 ∷ 64 ∷ blank) kind (contract_spelling kind))) ⊎ (0 < times x list) → (0 < times x list → IsIdentifier x) → IsIdentifier x
    go (inl h) rest_named = one_name kind (token_behind file (front ++ 47 ∷ 47 ∷ 64 ∷ blank) kind (contract_spelling kind)) x (word c.word) h
    go (inr h) rest_named = rest_named h
