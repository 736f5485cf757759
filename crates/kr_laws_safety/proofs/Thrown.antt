-- What is thrown, and what catches it, on values of their types.
use Rattle.std.proofs.Common.{◌≡◌, ℕ, zero, suc, ◌<◌, Bool, true, false, List, [], ◌∷◌, length, Result, Ok, Err, Option, Some, None, refl, sym, ap, ◌∙◌, subst}
use Rattle.std.specs.Prelude.{map, if◌then◌else◌}
use Rattle.std.proofs.lemmas.Bool.{eqb-true}
use Rattle.kr_laws_pruning.proofs.Spaces.{some_is}
use Rattle.kr_value.specs.declared.value.Value.{Value}
use Rattle.kr_value.specs.declared.value.Value.TheVariants.{Ref as Reference}
use Rattle.kr_value.specs.declared.object.Class.{Class}
use Rattle.kr_value.specs.declared.object.Class.TheVariants.{Object}
use Rattle.kr_classes_table.specs.Types.{JavaType, ClassType}
use Rattle.kr_classes_table.specs.Table.{fields_of, is_below}
use Rattle.kr_mean.specs.declared.kind.Kind.{Kind}
use Rattle.kr_mean.specs.declared.kind.Kind.TheVariants.{Thrown}
use Rattle.kr_mean.specs.declared.kind.Stop.{Stop}
use Rattle.kr_mean.specs.declared.kind.Stop.TheVariants.{Trapped, OutOfFuel, Stuck}
use Rattle.kr_mean.specs.Program.{Program, default_of}
use Rattle.kr_mean.specs.Steps.{State, Outcome, Run, bind, go_on, ◌>>=◌, ◌>>◌, tick, tick_at, scoped, class_of, make}
use Rattle.kr_mean.specs.Thrown.{class_of_kind, is_class, kind_among, step_kinds, kind_of, throw_in, throw, object_of_class, object_or_new, object_of, handled, caught_by, attempted}
use Rattle.kr_laws_safety.specs.Fits.{IsOf, type_at}
use Rattle.kr_laws_safety.specs.Triples.{Fixed, IsStateOf, Extends, IsThrownAs, Fine, Safe, Closes}
use Rattle.kr_laws_safety.specs.Typed.{IsTypedProgram}
use Rattle.kr_laws_safety.proofs.Heaps.{extends_self}
use Rattle.kr_laws_safety.proofs.Targets.{defaults_are}
use Rattle.kr_laws_safety.proofs.Steps.{unthrown, fine_more, fine_then, fine_scoped, locals_long, safe_make}
use Rattle.kr_laws_safety.proofs.Classes.{IsSeenAs, safe_class, class_below}
use Rattle.kr_laws_safety.proofs.Glue.{safe_next}

-- ---- kinds and classes

is_the_class : (c : ℕ) (x : Option ℕ) → is_class c x ≡ true → x ≡ Some c
is_the_class c (Some d) e = ap Some (sym (eqb-true c d e))
is_the_class c None e = absurd (cc (e))

kind_found : (classes : Kind → Option ℕ) (c : ℕ) (ks : List Kind) → classes (Thrown c) ≡ Some c → classes (kind_among classes c ks) ≡ Some c
kind_found classes c [] e = e
kind_found classes c (k ∷ ks) e = go (is_class c (classes k)) refl (kind_found classes c ks e)
  where
    go : (b : Bool) → is_class c (classes k) ≡ b → classes (kind_among classes c ks) ≡ Some c → classes (if b then k else kind_among classes c ks) ≡ Some c
    go true q rest = is_the_class c (classes k) q
    go false q rest = rest

-- a class's kind is of that class
pub kind_class : (program : Program) (c : ℕ) → class_of_kind program (kind_of program c) ≡ Some c
kind_class program c = kind_found (class_of_kind program) c step_kinds refl

-- an object of a class
abbrev pub IsObject : List JavaType → ℕ → Value → Type 0
IsObject types c v = (o : ℕ) × (v ≡ Reference o) × (o < length types) × (type_at types o ≡ ClassType c)

-- a run in states where something of a kind is thrown
pub record SafeThrown (program : Program) (fixed : Fixed) (k : Kind) (types : List JavaType) (this : Option ℕ) (ls : List JavaType) {A : Type 0} (m : Run A) (Q : List JavaType → List JavaType → A → Type 0) : Type 0 where
  pub by : (s : State) → IsStateOf program fixed types this ls (record s { thrown = None }) → IsThrownAs program types k s.thrown → Fine program fixed types this ls Q (m s).said (m s).after

module _ (program : Program) (fixed : Fixed) where
  pub safe_attempted : (types : List JavaType) (this : Option ℕ) (ls : List JavaType) {A : Type 0} (m : Run A) (h : Kind → Option (Run A)) (Q : List JavaType → List JavaType → A → Type 0) → Safe program fixed types this ls m Q → Closes program fixed types this ls m
      → ((k : Kind) (n : Run A) (more : List JavaType) → h k ≡ Some n → Extends types more → SafeThrown program fixed k more this ls n Q) → Safe program fixed types this ls (attempted m h) Q
  unfolding attempted
  safe_attempted types this ls {A} m h Q p c q = record { by = λ s k. go s k (m s).said refl }
    where
      Ends : Option (Run A) → State → Type 0
      Ends x s = Fine program fixed types this ls Q (caught_by x (m s)).said (caught_by x (m s)).after

      caught : (s : State) → IsStateOf program fixed types this ls s → (k : Kind) → (m s).said ≡ Err (Trapped k) → (x : Option (Run A)) → h k ≡ x → Ends x s
      caught s i k e None f = p.by s i
      caught s i k e (Some n) f =
          let end = c.by s i k e in
          fine_more program fixed types end.0 this ls ls Q end.1 (extends_self ls) (n (m s).after).said (n (m s).after).after ((q k n end.0 f end.1).by (m s).after end.2 end.3)

      go : (s : State) → IsStateOf program fixed types this ls s → (r : Result A Stop) → (m s).said ≡ r → Ends (handled r h) s
      go s i (Ok a) e = p.by s i
      go s i (Err (Trapped k)) e = caught s i k e (h k) refl
      go s i (Err OutOfFuel) e = p.by s i
      go s i (Err Stuck) e = p.by s i

  -- ---- what catches

  pub thrown_then : (k : Kind) (types : List JavaType) (this : Option ℕ) (ls : List JavaType) {A B : Type 0} (m : Run A) (f : A → Run B) (R : List JavaType → List JavaType → A → Type 0) (Q : List JavaType → List JavaType → B → Type 0) → SafeThrown program fixed k types this ls m R
      → ((more ms : List JavaType) (a : A) → Extends types more → R more ms a → Safe program fixed more this ms (f a) Q) → SafeThrown program fixed k types this ls (m >>= f) Q
  unfolding bind
  thrown_then k types this ls m f R Q p q = record { by = λ s h t. fine_then program fixed types this ls f R Q q (m s).said (m s).after (m s).reads (p.by s h t) }

  pub thrown_map : (k : Kind) (types : List JavaType) (this : Option ℕ) (ls : List JavaType) {A : Type 0} (m : Run A) (R Q : List JavaType → List JavaType → A → Type 0) → SafeThrown program fixed k types this ls m R → ((more ms : List JavaType) (a : A) → R more ms a → Q more ms a) → SafeThrown program fixed k types this ls m Q
  thrown_map k types this ls {A} m R Q p q = record { by = λ s h t. go (m s).said (m s).after (p.by s h t) }
    where
      go : (r : Result A Stop) (t : State) → Fine program fixed types this ls R r t → Fine program fixed types this ls Q r t
      go (Ok a) t h = (h.0, h.1, h.2, h.3, q h.0 h.1 a h.4, h.5)
      go (Err (Trapped k)) t h = h
      go (Err OutOfFuel) t h = tt
      go (Err Stuck) t h = h

  pub thrown_tick : (k : Kind) (types : List JavaType) (this : Option ℕ) (ls : List JavaType) {A : Type 0} (m : Run A) (Q : List JavaType → List JavaType → A → Type 0) → SafeThrown program fixed k types this ls m Q → SafeThrown program fixed k types this ls (tick >> m) Q
  unfolding bind
  thrown_tick k types this ls {A} m Q p = record { by = λ s h t. go s s.fuel h t }
    where
      ticked : State → ℕ → Outcome A
      ticked s n = go_on (tick_at n s).said (tick_at n s).after (tick_at n s).reads (λ (u : Unit {0}). m)

      go : (s : State) (n : ℕ) → IsStateOf program fixed types this ls (record s { thrown = None }) → IsThrownAs program types k s.thrown → Fine program fixed types this ls Q (ticked s n).said (ticked s n).after
      go s zero h t = tt
      go s (suc n) h t = p.by (record s { fuel = n }) (record { heap = h.heap; this_is = h.this_is; locals_are = h.locals_are; result = h.result; olds = h.olds; thrown = refl; candidates = h.candidates; enough = h.enough }) t

  pub thrown_scoped : (k : Kind) (types : List JavaType) (this : Option ℕ) (ls : List JavaType) {A : Type 0} (m : Run A) (Q : List JavaType → A → Type 0) → SafeThrown program fixed k types this ls m (λ more after a. Extends ls after × Q more a)
      → SafeThrown program fixed k types this ls (scoped m) (λ more after a. (after ≡ ls) × Q more a)
  thrown_scoped k types this ls m Q p = record { by = λ s h t. fine_scoped program fixed types this ls Q (length s.locals) (locals_long program fixed types ls s.locals h.locals_are) (m s).said (m s).after (p.by s h t) }

  module _ (facts : IsTypedProgram program) where
    -- the object that was thrown, or a new one
    pub thrown_object : (k : Kind) (c : ℕ) (types : List JavaType) (this : Option ℕ) (ls : List JavaType) → class_of_kind program k ≡ Some c → SafeThrown program fixed k types this ls (object_of program k) (λ more after v. (after ≡ ls) × IsObject more c v)
    thrown_object k c types this ls e = record { by = λ s h t. go s h s.thrown refl t }
      where
        new : Run Value
        new = make (Object c) (map (λ f. default_of f.type) (fields_of program.table c))

        go : (s : State) → IsStateOf program fixed types this ls (record s { thrown = None }) → (x : Option Value) → s.thrown ≡ x → IsThrownAs program types k x
            → Fine program fixed types this ls (λ more after v. (after ≡ ls) × IsObject more c v) (object_or_new program k x s).said (object_or_new program k x s).after
        go s h (Some v) q t =
            let same : t.1 ≡ c = some_is t.1 c (sym t.5 ∙ e) in
            (types, ls, extends_self types, h, (refl, (t.0, t.2, t.3, t.4 ∙ ap ClassType same)), extends_self ls)
        go s h None q t =
            let state : IsStateOf program fixed types this ls s = record { heap = h.heap; this_is = h.this_is; locals_are = h.locals_are; result = h.result; olds = h.olds; thrown = q; candidates = h.candidates; enough = h.enough } in
            subst (λ (x : Option ℕ). Fine program fixed types this ls (λ more after v. (after ≡ ls) × IsObject more c v) (object_of_class program x s).said (object_of_class program x s).after) (sym e)
            (made s (new s).said (new s).after ((safe_make program fixed types this ls (ClassType c) (Object c) (map (λ f. default_of f.type) (fields_of program.table c)) (refl, defaults_are program.table types (fields_of program.table c) (facts.classes c).fields)).by s state))
          where
            made : (s : State) (r : Result Value Stop) (u : State) → Fine program fixed types this ls (λ more after v. (after ≡ ls) × (o : ℕ) × (v ≡ Reference o) × (o < length more) × (type_at more o ≡ ClassType c) × Rattle.std.proofs.Common.◌≤◌ fixed.candidates o) r u
                → Fine program fixed types this ls (λ more after v. (after ≡ ls) × IsObject more c v) r u
            made s (Ok v) u f = (f.0, f.1, f.2, f.3, (f.4.0, (f.4.1, f.4.2, f.4.3, f.4.4)), f.5)
            made s (Err (Trapped k)) u f = f
            made s (Err OutOfFuel) u f = tt
            made s (Err Stuck) u f = f

  -- ---- what throws

  -- null traps
  pub safe_throw : (types : List JavaType) (this : Option ℕ) (ls : List JavaType) (c : ℕ) (v : Value) {A : Type 0} (Q : List JavaType → List JavaType → A → Type 0) → IsOf program.table types (ClassType c) v → Safe program fixed types this ls (throw {A = A} program v) Q
  safe_throw types this ls c v {A} Q i =
      safe_next program fixed types this ls (class_of v) (throw_in {A = A} program v) (λ more class. IsSeenAs program more (ClassType c) v class) Q (safe_class program fixed types this ls (ClassType c) v refl i)
      (λ more class x h. thrown more class h (class_below program (type_at more h.0) class c h.4 h.3))
    where
      thrown : (more : List JavaType) (class : Class) (h : IsSeenAs program more (ClassType c) v class) → (d : ℕ) × (class ≡ Object d) × (type_at more h.0 ≡ ClassType d) × (is_below program.table d c ≡ true) → Safe program fixed more this ls (throw_in {A = A} program v class) Q
      thrown more class h r =
          subst (λ (k : Class). Safe program fixed more this ls (throw_in {A = A} program v k) Q) (sym r.1)
          (record { by = λ s i. (more, ls, extends_self more, unthrown program fixed more this ls s i, extends_self ls, (h.0, r.0, h.1, h.2, r.2, kind_class program r.0)) })
