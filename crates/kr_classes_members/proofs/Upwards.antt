-- The line upwards from a class, step by step.
use Rattle.std.proofs.Common.{◌≡◌, refl, sym, ap, ◌∙◌, ℕ, zero, suc, ◌+◌, ◌-◌, ◌<◌, Bool, true, false, ◌||◌, nat_eq, List, [], ◌∷◌, length, arith}
use Rattle.std.specs.Prelude.{Option, Some, None, find, flat_map, is_some, option_map}
use Rattle.std.specs.Option.{option_or}
use Rattle.std.proofs.lemmas.List.{length-map}
use Rattle.std.proofs.lemmas.List.Folds.{find-append}
use Rattle.kr_ast.specs.Arena.{Arena}
use Rattle.kr_classes_table.specs.Table.{Table, is_among, line_of, line_within, super_of}
use Rattle.kr_classes_members.specs.declared.members.Members.{Members}
use Rattle.kr_classes_members.specs.Shown.{table_in}
use Rattle.kr_classes_members.specs.Kept.{AreMembers, class_count, class_shown}

pub kept_count : (files : List Arena) (m : Members) → AreMembers files m → class_count m ≡ length (table_in files).classes
kept_count files m h = sym (length-map m.classes.items (class_shown files)) ∙ ap length h.shown

-- ---- the rest of the line after some steps

pub whole : (t : Table) (n c : ℕ) → n ≡ length t.classes → line_within (n + 1 - 0) t (Some c) ≡ line_of t c
whole t n c e = let k : n + 1 - 0 ≡ suc (length t.classes) = omega (arith, e) in ap (λ j. line_within j t (Some c)) k

pub upwards : (t : Table) (n i c : ℕ) (at next : Option ℕ) → i < n → at ≡ Some c → next ≡ super_of t c → line_within (n - i) t at ≡ c ∷ line_within (n - (i + 1)) t next
upwards t n i c at next l a s =
    let k : n - i ≡ suc (n - (i + 1)) = omega (arith, l) in
    ap (λ o. line_within (n - i) t o) a ∙ ap (λ j. line_within j t (Some c)) k ∙ ap (λ o. c ∷ line_within (n - (i + 1)) t o) (sym s)

pub no_class_left : (k : ℕ) (t : Table) → line_within k t None ≡ []
no_class_left zero t = refl
no_class_left (suc k) t = refl

pub ended : (k : ℕ) (t : Table) (at : Option ℕ) → at ≡ None → line_within k t at ≡ []
ended k t at a = ap (line_within k t) a ∙ no_class_left k t

pub spent : (k : ℕ) (t : Table) (at : Option ℕ) → k ≡ 0 → line_within k t at ≡ []
spent k t at e = ap (λ j. line_within j t at) e

-- ---- searching along it

none_or : {A : Type 0} (o p : Option A) → o ≡ None → option_or o p ≡ p
none_or o p e = ap (λ q. option_or q p) e

some_or : {A : Type 0} (o p : Option A) → is_some o ≡ true → option_or o p ≡ o
some_or None p e = absurd (cc (e))
some_or (Some x) p e = refl

pub absent : {A B : Type 0} (v : A → B) (o : Option A) (r : Option B) → option_map v o ≡ r → is_some o ≡ false → r ≡ None
absent v None r e f = sym e
absent v (Some x) r e f = absurd (cc (f))

pub present : {A B : Type 0} (v : A → B) (o : Option A) (r : Option B) → option_map v o ≡ r → is_some o ≡ true → is_some r ≡ true
present v None r e f = absurd (cc (f))
present v (Some x) r e f = ap is_some (sym e)

-- not here: above
pub above : {A : Type 0} (own : ℕ → List A) (p : A → Bool) (t : Table) (n i c : ℕ) (at next : Option ℕ) → i < n → at ≡ Some c → next ≡ super_of t c → find p (own c) ≡ None
    → find p (flat_map own (line_within (n - (i + 1)) t next)) ≡ find p (flat_map own (line_within (n - i) t at))
above own p t n i c at next l a s f =
    let rest = flat_map own (line_within (n - (i + 1)) t next) in
    sym (ap (λ cs. find p (flat_map own cs)) (upwards t n i c at next l a s) ∙ find-append p (own c) rest ∙ none_or (find p (own c)) (find p rest) f)

-- here: the nearest
pub nearest : {A : Type 0} (own : ℕ → List A) (p : A → Bool) (t : Table) (n i c : ℕ) (at : Option ℕ) → i < n → at ≡ Some c → is_some (find p (own c)) ≡ true → find p (own c) ≡ find p (flat_map own (line_within (n - i) t at))
nearest own p t n i c at l a f =
    let rest = flat_map own (line_within (n - (i + 1)) t (super_of t c)) in
    sym (ap (λ cs. find p (flat_map own cs)) (upwards t n i c at (super_of t c) l a refl) ∙ find-append p (own c) rest ∙ some_or (find p (own c)) (find p rest) f)

pub nowhere : {A : Type 0} (own : ℕ → List A) (p : A → Bool) (cs : List ℕ) → cs ≡ [] → None ≡ find p (flat_map own cs)
nowhere own p cs e = sym (ap (λ ds. find p (flat_map own ds)) e)

-- ---- a class on it

pub other : (a b : ℕ) → (b ≡ a → ⊥) → nat_eq a b ≡ false
other a b e = grind (arith, e)

pub same : (a b : ℕ) → b ≡ a → nat_eq a b ≡ true
same a b e = grind (arith, e)

pub passed : (t : Table) (n i c d : ℕ) (at next : Option ℕ) → i < n → at ≡ Some c → next ≡ super_of t c → (c ≡ d → ⊥) → is_among d (line_within (n - (i + 1)) t next) ≡ is_among d (line_within (n - i) t at)
passed t n i c d at next l a s f =
    let rest = is_among d (line_within (n - (i + 1)) t next) in
    sym (ap (is_among d) (upwards t n i c at next l a s) ∙ ap (λ b. b || rest) (other d c f))

pub met : (t : Table) (n i c d : ℕ) (at : Option ℕ) → i < n → at ≡ Some c → c ≡ d → true ≡ is_among d (line_within (n - i) t at)
met t n i c d at l a f =
    let rest = is_among d (line_within (n - (i + 1)) t (super_of t c)) in
    sym (ap (is_among d) (upwards t n i c at (super_of t c) l a refl) ∙ ap (λ b. b || rest) (same d c f))

pub not_met : (d : ℕ) (cs : List ℕ) → cs ≡ [] → false ≡ is_among d cs
not_met d cs e = sym (ap (is_among d) e)
