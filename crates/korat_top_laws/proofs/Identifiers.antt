-- An identifier of a source may name an object domain.
use Rattle.std.proofs.Common.{◌≡◌, ℕ, Bool, true, false, not, ◌&&◌, List, [], ◌∷◌, codes, refl, sym, ap, ◌∙◌}
use Rattle.std.specs.Prelude.{chars, bytes_eq}
use Rattle.std.specs.List.{list_all}
use Rattle.std.specs.Str.{all_scalars, is_utf8}
use Rattle.std.proofs.lemmas.Slice.Eq.{bytes_eq-Decides}
use Rattle.std.proofs.lemmas.Str.{chars-encodes, is_utf8-from_IsUtf8}
use Rattle.kr_lex.specs.Characters.{AllParts, is_part}
use Rattle.kr_lex.specs.Spelling.{spelling}
use Rattle.kr_lex.specs.Words.{IsName}
use Rattle.kr_lex.specs.declared.kind.Kind.TheVariants as kinds
use Rattle.kr_fin.specs.Identifiers.{is_identifier, is_name}
use Rattle.kr_fin.specs.Shapes.{is_domain_name}
use Rattle.kr_shard_laws.specs.Names.{IsIdentifier}

scalar_parts : (cs : List ℕ) → AllParts cs → all_scalars cs ≡ true
scalar_parts [] h = refl
scalar_parts (c ∷ cs) h = ap (λ (b : Bool). b && all_scalars cs) h.0.0 ∙ scalar_parts cs h.1

all_parts : (cs : List ℕ) → AllParts cs → list_all is_part cs ≡ true
all_parts [] h = refl
all_parts (c ∷ cs) h = ap (λ (b : Bool). b && list_all is_part cs) h.0.1 ∙ all_parts cs h.1

name_is_identifier : (text : List ℕ) → IsName text → is_identifier text ≡ true
unfolding is_identifier
name_is_identifier text h =
    let cs : List ℕ = h.first ∷ h.others in
    let scalars : all_scalars cs ≡ true = ap (λ (b : Bool). b && all_scalars h.others) h.scalar ∙ scalar_parts h.others h.parts in
    let utf8 : is_utf8 text ≡ true = is_utf8-from_IsUtf8 text (cs, (scalars, sym h.spelled)) in
    let read : chars text ≡ cs = ap chars h.spelled ∙ chars-encodes cs scalars in
    let named : is_name cs ≡ true = ap (λ (b : Bool). b && list_all is_part h.others) h.starts ∙ all_parts h.others h.parts in
    ap (λ (b : Bool). b && is_name (chars text)) utf8 ∙ (ap is_name read ∙ named)

-- it isn't spelled as `null` is
not_null : (text : List ℕ) → IsIdentifier text → bytes_eq text (codes "null") ≡ false
unfolding spelling
not_null text h = go (bytes_eq text (codes "null")) refl
  where
    go : (b : Bool) → bytes_eq text (codes "null") ≡ b → b ≡ false
    go false e = refl
    go true e = absurd (h.own kinds.Null ((bytes_eq-Decides text (codes "null")).0 e))

pub domain_name : (text : List ℕ) → IsIdentifier text → is_domain_name text ≡ true
domain_name text h =
    ap (λ (b : Bool). b && not (bytes_eq text (codes "null"))) (name_is_identifier text h.name)
    ∙ ap not (not_null text h)
