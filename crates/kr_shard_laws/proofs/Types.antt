-- How an array type is written has no line feed, where no name of a class has one.
use Rattle.std.proofs.Common.{◌≡◌, ℕ, zero, suc, ◌+◌, ◌-◌, Bool, true, false, List, [], ◌∷◌, length, take, drop, Option, Some, None, refl, sym, ap, ◌∙◌, subst, arith}
use Rattle.std.specs.Prelude.{bytes_eq, codes, nat_eq, option_map, if◌then◌else◌}
use Rattle.std.specs.List.{AllByRecursion, ends_with, starts_with}
use Rattle.std.proofs.lemmas.Bool.{and_parts}
use Rattle.std.proofs.lemmas.List.{drop-drop, take-append-drop}
use Rattle.std.proofs.lemmas.Slice.Eq.{bytes_eq-Decides}
use Rattle.kr_classes_table.specs.Types.{JavaType, int_type, long_type, BooleanType, ClassType, ArrayType, SetType, ListType}
use Rattle.kr_classes_table.specs.Table.{Heading, number_from, number_of}
use Rattle.kr_space_meaning.specs.Names.{ArrayOf, ListOf, SetOf, Word, array_or_none, array_type, inside, is_of, of_elements, type_of, type_within, word_type}
use Rattle.kr_shard_laws.proofs.Bytes.{without_append}
use Rattle.kr_shard_laws.proofs.Numbers.{IsLine}

-- ---- texts in others

line_drop : (n : ℕ) (text : List ℕ) → IsLine text → IsLine (drop n text)
line_drop zero text h = h
line_drop (suc n) [] h = tt
line_drop (suc n) (b ∷ bs) h = line_drop n bs h.1

line_parts : (n : ℕ) (text : List ℕ) → IsLine (take n text) → IsLine (drop n text) → IsLine text
line_parts n text h k = subst IsLine (take-append-drop n text) (without_append 10 (take n text) (drop n text) h k)

-- a text between a front and an end
wrapped_line : (front end : ℕ) (text : List ℕ) → IsLine (take front text) → IsLine (inside front end text) → IsLine (drop (length text - end) text) → IsLine text
wrapped_line front end text first middle last =
    let n = length text - (front + end) in
    let more = front + n - (length text - end) in
    let at : length text - end + more ≡ front + n = omega arith in
    let ends : drop more (drop (length text - end) text) ≡ drop n (drop front text) =
    drop-drop more (length text - end) text ∙ (ap (λ (k : ℕ). drop k text) at ∙ sym (drop-drop n front text)) in
    line_parts front text first (line_parts n (drop front text) middle (subst IsLine ends (line_drop more (drop (length text - end) text) last)))

ends_line : (text needle : List ℕ) → ends_with nat_eq text needle ≡ true → IsLine needle → IsLine (drop (length text - length needle) text)
ends_line text needle e h = subst IsLine ((bytes_eq-Decides needle (drop (length text - length needle) text)).0 e) h

starts_line : (text needle : List ℕ) → starts_with nat_eq text needle ≡ true → IsLine needle → IsLine (take (length needle) text)
starts_line text needle e h = subst IsLine ((bytes_eq-Decides needle (take (length needle) text)).0 e) h

-- ---- types

module _ (hs : List Heading) (lines : AllByRecursion (λ h. IsLine h.name) hs) where
  pub class_line : (k : ℕ) (gs : List Heading) (text : List ℕ) (c : ℕ) → AllByRecursion (λ h. IsLine h.name) gs → number_from k gs text ≡ Some c → IsLine text
  class_line k [] text c all e = absurd (cc (e))
  class_line k (g ∷ gs) text c all e = go (bytes_eq g.name text) refl e (class_line (k + 1) gs text c all.1)
    where
      go : (b : Bool) → bytes_eq g.name text ≡ b → (if b then Some k else number_from (k + 1) gs text) ≡ Some c → (number_from (k + 1) gs text ≡ Some c → IsLine text) → IsLine text
      go true is e rest = subst IsLine ((bytes_eq-Decides g.name text).0 is) all.0
      go false is e rest = rest e

  some_of : (f : JavaType → JavaType) (o : Option JavaType) (t : JavaType) → option_map f o ≡ Some t → (u : JavaType) × (o ≡ Some u)
  some_of f None t e = absurd (cc (e))
  some_of f (Some u) t e = (u, refl)

  some_element : (f : JavaType → JavaType) (o : Option JavaType) (t : JavaType) → of_elements f o ≡ Some t → (u : JavaType) × (o ≡ Some u)
  some_element f None t e = absurd (cc (e))
  some_element f (Some u) t e = (u, refl)

  numbered_line : (text : List ℕ) (o : Option ℕ) (t : JavaType) → number_of hs text ≡ o → option_map ClassType o ≡ Some t → IsLine text
  numbered_line text None t is e = absurd (cc (e))
  numbered_line text (Some c) t is e = class_line 0 hs text c lines is

  word_line : (text : List ℕ) (t : JavaType) → word_type hs text ≡ Some t → IsLine text
  word_line text t e = go (bytes_eq text (codes "int")) (bytes_eq text (codes "long")) (bytes_eq text (codes "boolean")) refl refl refl e
    where
      go : (a l b : Bool) → bytes_eq text (codes "int") ≡ a → bytes_eq text (codes "long") ≡ l → bytes_eq text (codes "boolean") ≡ b
          → (if a then Some int_type else if l then Some long_type else if b then Some BooleanType else option_map ClassType (number_of hs text)) ≡ Some t → IsLine text
      go true l b is long_is else_is e = subst IsLine (sym ((bytes_eq-Decides text (codes "int")).0 is)) (refl, (refl, (refl, tt)))
      go false true b is long_is else_is e = subst IsLine (sym ((bytes_eq-Decides text (codes "long")).0 long_is)) (refl, (refl, (refl, (refl, tt))))
      go false false true is long_is else_is e = subst IsLine (sym ((bytes_eq-Decides text (codes "boolean")).0 else_is)) (refl, (refl, (refl, (refl, (refl, (refl, (refl, tt)))))))
      go false false false is long_is else_is e = numbered_line text (number_of hs text) t refl e

  of_line : (collection text : List ℕ) → is_of collection text ≡ true → IsLine collection → IsLine (inside (length collection) 1 text) → IsLine text
  of_line collection text is h middle =
      let both = and_parts (starts_with nat_eq text collection) (ends_with nat_eq text (codes ">")) is in
      wrapped_line (length collection) 1 text (starts_line text collection both.0 h) middle (ends_line text (codes ">") both.1 (refl, tt))

  type_line : (n : ℕ) (text : List ℕ) (t : JavaType) → type_within n hs text ≡ Some t → IsLine text
  type_line zero text t e = absurd (cc (e))
  type_line (suc n) text t e =
      go (ends_with nat_eq text (codes "[]")) (is_of (codes "HashSet<") text) (is_of (codes "LinkedList<") text) refl refl refl e
      (λ inner u. type_line n inner u)
    where
      go : (a b c : Bool) → ends_with nat_eq text (codes "[]") ≡ a → is_of (codes "HashSet<") text ≡ b → is_of (codes "LinkedList<") text ≡ c
          → type_of hs (type_within n hs) (if a then ArrayOf (inside 0 2 text) else if b then SetOf (inside 8 1 text) else if c then ListOf (inside 11 1 text) else Word text) ≡ Some t
          → ((inner : List ℕ) (u : JavaType) → type_within n hs inner ≡ Some u → IsLine inner) → IsLine text
      go true b c p q r e line =
          let u = some_of ArrayType (type_within n hs (inside 0 2 text)) t e in
          wrapped_line 0 2 text tt (line (inside 0 2 text) u.0 u.1) (ends_line text (codes "[]") p (refl, (refl, tt)))
      go false true c p q r e line =
          let u = some_element SetType (type_within n hs (inside 8 1 text)) t e in
          of_line (codes "HashSet<") text q (refl, (refl, (refl, (refl, (refl, (refl, (refl, (refl, tt)))))))) (line (inside 8 1 text) u.0 u.1)
      go false false true p q r e line =
          let u = some_element ListType (type_within n hs (inside 11 1 text)) t e in
          of_line (codes "LinkedList<") text r (refl, (refl, (refl, (refl, (refl, (refl, (refl, (refl, (refl, (refl, (refl, tt))))))))))) (line (inside 11 1 text) u.0 u.1)
      go false false false p q r e line = word_line text t e

  pub array_line : (text : List ℕ) (t : JavaType) → array_type hs text ≡ Some t → IsLine text
  unfolding array_type
  array_line text t e = go (type_within (length text) hs text) refl e
    where
      go : (o : Option JavaType) → type_within (length text) hs text ≡ o → array_or_none o ≡ Some t → IsLine text
      go None is e = absurd (cc (e))
      go (Some u) is e = type_line (length text) text u is
