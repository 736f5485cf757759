-- The locals of builders: their names, and the objects that they refer to.
use Rattle.std.proofs.Common.{◌≡◌, ℕ, zero, suc, ◌+◌, ◌<◌, ◌≤◌, ◌^◌, ◌⊎◌, inl, inr, Bool, true, false, List, [], ◌∷◌, ◌++◌, length, get_or, Option, Some, refl, sym, ap, ◌∙◌, arith, subst}
use Rattle.std.specs.Prelude.{map, codes, decimal, bytes_eq, if◌then◌else◌}
use Rattle.std.specs.List.{range_with_len}
use Rattle.std.proofs.lemmas.Bool.{cases_lt, false_from_ne_true}
use Rattle.std.proofs.lemmas.Fmt.{decimal_injective}
use Rattle.std.proofs.lemmas.List.{append_cancel_left, get_or_at, get_or_append_left, length-append}
use Rattle.std.proofs.lemmas.List.FromFn.{map-range_with_len_more, length-map-range_with_len}
use Rattle.std.proofs.lemmas.Slice.Eq.{bytes_eq-Decides}
use Rattle.kr_ast.specs.Tree.{Tree}
use Rattle.kr_value.specs.declared.value.Value.TheVariants.{Ref as Reference}
use Rattle.kr_classes_table.specs.Types.{JavaType, VoidType}
use Rattle.kr_classes_table.specs.Table.{Field}
use Rattle.kr_types_meaning.specs.Scopes as scopes
use Rattle.kr_types_meaning.specs.Scopes.{LocalName, Locals, Meant, Scope, meant_by, written}
use Rattle.kr_mean.specs.Program.{Program}
use Rattle.kr_mean.specs.Steps.{Local, local_at, plain_local}
use Rattle.kr_emit_laws.proofs.Creations.{with_new}

-- ---- the objects of locals

abbrev ref : ℕ → Local
ref i = plain_local (Reference i)

-- the i-th local has the i-th object
abbrev pub refs : ℕ → List Local
refs n = map (λ (i : ℕ). plain_local (Reference i)) (range_with_len 0 n)

ref_from : (a n i : ℕ) → i < n → local_at (map ref (range_with_len a n)) i ≡ Some (ref (a + i))
ref_from a zero i h = absurd (omega (arith, h))
ref_from a (suc n) zero h = ap (λ (k : ℕ). Some (ref k)) (omega arith)
ref_from a (suc n) (suc i) h = ref_from (a + 1) n i (omega (arith, h)) ∙ ap (λ (k : ℕ). Some (ref k)) (omega arith)

pub ref_at : (n i : ℕ) → i < n → local_at (refs n) i ≡ Some (plain_local (Reference i))
ref_at n i h = ref_from 0 n i h ∙ ap (λ (k : ℕ). Some (ref k)) (omega arith)

pub refs_more : (n : ℕ) → refs n ++ plain_local (Reference n) ∷ [] ≡ refs (n + 1)
refs_more n = sym (map-range_with_len_more ref 0 n n (omega arith))

pub refs_long : (n : ℕ) → length (refs n) ≡ n
refs_long n = length-map-range_with_len ref 0 n

-- ---- the names of locals

abbrev pub local_name : ℕ → List ℕ
local_name n = codes "o" ++ decimal n

pub same_name : (i : ℕ) → bytes_eq (local_name i) (local_name i) ≡ true
same_name i = (bytes_eq-Decides (local_name i) (local_name i)).1 refl

pub other_name : (k i : ℕ) → k < 2 ^ 64 → i < k → bytes_eq (local_name k) (local_name i) ≡ false
other_name k i small less = false_from_ne_true (bytes_eq (local_name k) (local_name i)) (λ e. absurd (let same : k ≡ i = decimal_injective k i (omega (arith, small)) (omega (arith, small, less)) (append_cancel_left (codes "o") (decimal k) (decimal i) ((bytes_eq-Decides (local_name k) (local_name i)).0 e)) in omega (arith, same, less)))

-- the locals of a scope, the newest first, where these are their types
pub record Knows (types : List JavaType) (ls : List scopes.Local) : Type 0 where
  pub long : length ls ≡ length types
  pub named : (i : ℕ) → i < length types → (f : Option Field) → meant_by ls f (local_name i) ≡ LocalName i (get_or types i VoidType)

pub knows_none : Knows [] []
knows_none = record { long = refl; named = λ i h f. absurd (omega (arith, h)) }

pub knows_more : (types : List JavaType) (ls : List scopes.Local) (t : JavaType) → Knows types ls → length types < 2 ^ 64 → Knows (types ++ t ∷ []) (record { name = local_name (length types); type = t } ∷ ls)
knows_more types ls t knows small = record {
  long = omega (arith, knows.long, length-append types (t ∷ []));
  named = λ i h f. go i f (cases_lt i (length types)) (omega (arith, h, length-append types (t ∷ [])));
}
  where
    new : scopes.Local
    new = record { name = local_name (length types); type = t }

    by : Bool → ℕ → Option Field → Meant
    by b i f = if b then LocalName (length ls) t else meant_by ls f (local_name i)

    go : (i : ℕ) (f : Option Field) → (i < length types) ⊎ (length types ≤ i) → i < length types + 1 → meant_by (record { name = local_name (length types); type = t } ∷ ls) f (local_name i) ≡ LocalName i (get_or (types ++ t ∷ []) i VoidType)
    go i f (inl less) h =
        ap (λ (b : Bool). let m : Meant = if b then LocalName (length ls) t else meant_by ls f (local_name i) in m) (other_name (length types) i small less)
        ∙ (knows.named i less f ∙ ap (λ (u : JavaType). LocalName i u) (sym (get_or_append_left types (t ∷ []) VoidType i less)))
    go i f (inr le) h =
        let e : length types ≡ i = omega (arith, le, h) in
        ap (λ (k : ℕ). meant_by (record { name = local_name k; type = t } ∷ ls) f (local_name i)) e
        ∙ (ap (λ (b : Bool). let m : Meant = if b then LocalName (length ls) t else meant_by ls f (local_name i) in m) (same_name i)
        ∙ (ap (λ (k : ℕ). LocalName k t) (knows.long ∙ e) ∙ ap (λ (u : JavaType). LocalName i u) (sym (get_or_at types t [] VoidType i e))))

-- ---- the scopes of a builder's lines

pub record IsIn (program : Program) (types : List JavaType) (s : Scope) : Type 0 where
  pub table : s.table ≡ program.table
  pub knows : Knows types s.locals

-- after a local of a type
abbrev pub with_typed : Scope → JavaType → List ℕ → Scope
with_typed s t n = record s { declaring = Locals; declared = t; locals = record { name = n; type = t } ∷ s.locals }

pub new_typed : (s : Scope) (type : Tree) (n : List ℕ) (t : JavaType) → written s type ≡ t → with_new s type n ≡ with_typed s t n
new_typed s type n t e = ap (λ (u : JavaType). with_typed s u n) e

pub in_more : (program : Program) (types : List JavaType) (s : Scope) (t : JavaType) (k : ℕ) → IsIn program types s → length types ≡ k → k < 2 ^ 64 → IsIn program (types ++ t ∷ []) (with_typed s t (local_name k))
in_more program types s t k is e small = record {
  table = is.table;
  knows = subst (λ (n : ℕ). Knows (types ++ t ∷ []) (record { name = local_name n; type = t } ∷ s.locals)) e (knows_more types s.locals t is.knows (omega (arith, e, small)));
}
