-- The meaning of a name has that name.
use Rattle.std.proofs.Common.{◌≡◌, refl, sym, ap, ◌∙◌, ℕ, Bool, true, false, cond, List, [], ◌∷◌, bytes_eq, Option, Some, None}
use Rattle.std.specs.Prelude.{find, flat_map, option_and_then}
use Rattle.std.proofs.lemmas.Option.{cond_some, option_and_then_some}
use Rattle.std.proofs.lemmas.Slice.Eq.{bytes_eq-Decides}
use Rattle.kr_classes_table.specs.Table.{Table, Field, field_named, line_of, own_fields}
use Rattle.kr_classes_table.specs.Constants.{constant_only, field_meant, or_else, outer_class}
use Rattle.kr_classes_table.specs.Types.{JavaType, ClassType}
use Rattle.kr_mean.specs.Meaning.{field_of_type}
use Rattle.kr_types_meaning.specs.Scopes.{Local, Scope, LocalName, FieldName, meant, meant_by}

found_so : {A : Type 0} (name : A → List ℕ) (n : List ℕ) (xs : List A) (x : A) → find (λ y. bytes_eq (name y) n) xs ≡ Some x → name x ≡ n
found_so name n [] x e = absurd (cc (e))
found_so name n (z ∷ xs) x e = go (bytes_eq (name z) n) refl (found_so name n xs x) e
  where
    go : (b : Bool) → bytes_eq (name z) n ≡ b → (find (λ y. bytes_eq (name y) n) xs ≡ Some x → name x ≡ n) → cond b (Some z) (find (λ y. bytes_eq (name y) n) xs) ≡ Some x → name x ≡ n
    go true h r f = let k : z ≡ x = cc in ap name (sym k) ∙ (bytes_eq-Decides (name z) n).0 h
    go false h r f = r f

constant_so : (o : Option Field) (f : Field) → option_and_then constant_only o ≡ Some f → o ≡ Some f
constant_so o f e = option_and_then_some constant_only o f e (λ g is h. is ∙ ap (λ (x : Field). Some x) (cond_some g.is_static g f h).1)

field_named_so : (t : Table) (c : ℕ) (n : List ℕ) (f : Field) → field_named t c n ≡ Some f → f.name ≡ n
field_named_so t c n f e = found_so (λ (g : Field). g.name) n (flat_map (own_fields t) (line_of t c)) f e

field_so : (t : Table) (c : ℕ) (n : List ℕ) (f : Field) → field_meant t c n ≡ Some f → f.name ≡ n
field_so t c n f e = go (field_named t c n) refl e
  where
    go : (o : Option Field) → field_named t c n ≡ o → or_else o (option_and_then (λ d. option_and_then constant_only (field_named t d n)) (outer_class t c)) ≡ Some f → f.name ≡ n
    go None h k = option_and_then_some (λ d. option_and_then constant_only (field_named t d n)) (outer_class t c) f k (λ d is r. field_named_so t d n f (constant_so (field_named t d n) f r))
    go (Some g) h k = field_named_so t c n f (h ∙ k)

in_locals : (ls : List Local) (o : Option Field) (n : List ℕ) (f : Field) → meant_by ls o n ≡ FieldName f → o ≡ Some f
in_locals [] None n f e = absurd (cc (e))
in_locals [] (Some g) n f e = let h : g ≡ f = cc in ap (λ (x : Field). Some x) h
in_locals (l ∷ ls) o n f e = go (bytes_eq l.name n) (in_locals ls o n f) e
  where
    go : (b : Bool) → (meant_by ls o n ≡ FieldName f → o ≡ Some f) → cond b (LocalName (Rattle.std.proofs.Common.length ls) l.type) (meant_by ls o n) ≡ FieldName f → o ≡ Some f
    go true r h = absurd (cc (h))
    go false r h = r h

pub meant_so : (s : Scope) (n : List ℕ) (f : Field) → meant s n ≡ FieldName f → n ≡ f.name
meant_so s n f e = sym (field_so s.table s.class n f (in_locals s.locals (field_meant s.table s.class n) n f e))

instance_so : (o : Option Field) (f : Field) → option_and_then (λ g. cond g.is_static None (Some g)) o ≡ Some f → o ≡ Some f
instance_so None f e = absurd (cc (e))
instance_so (Some g) f e = go g.is_static e
  where
    go : (b : Bool) → cond b None (Some g) ≡ Some f → Some g ≡ Some f
    go true h = absurd (cc (h))
    go false h = h

-- a field that a type has has its name
pub typed_so : (t : Table) (n : List ℕ) (o : Option JavaType) (f : Field) → field_of_type t n o ≡ Some f → f.name ≡ n
typed_so t n None f e = absurd (cc (e))
typed_so t n (Some (ClassType c)) f e = field_named_so t c n f (instance_so (field_named t c n) f e)
typed_so t n (Some _) f e = absurd (cc (e))
